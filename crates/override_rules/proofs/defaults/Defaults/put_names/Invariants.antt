use Rattle.std.proofs.Common.{◌≡◌, map}
use Rattle.pp_values.specs.Rising.{with_texts}
use Rattle.override_rules.proofs.defaults.Defaults.put_names.Given as goal
use Rattle.override_rules.specs.Names.{names_in}

abbrev pub invariant-loop-key : goal.invariant-loop-key
invariant-loop-key l = with_texts l.names.keys (map (λ e. e.0.name) l.key-iterator)
    ≡ with_texts l.initial.names.keys (names_in l.self l.kind l.scope)
