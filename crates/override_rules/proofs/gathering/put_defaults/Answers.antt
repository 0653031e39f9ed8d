use Rattle.std.proofs.Common.{Some, length, sym, ap, ◌∙◌}
use Rattle.std.proofs.lemmas.Bool.{eqb-true}
use Rattle.pp_values.specs.Rising.{with_texts}
use Rattle.override_rules.proofs.NoDefaults.{no_names}
use Rattle.override_rules.proofs.gathering.put_defaults.Goals as goal

pub returns-then-has_none : goal.returns-then-has_none
returns-then-has_none c =
    sym (ap (with_texts c.args.names.now.keys) (no_names (length c.args.scopes.now) c.args.scopes.now
    c.args.defaults.now c.args.kind.now (Some c.args.scope) (eqb-true _ _ (sym c.has_none.ensures ∙ c.if-has_none.true))))
