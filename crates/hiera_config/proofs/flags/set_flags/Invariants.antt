-- The flags so far, with those of what is left, are those of all.
use Rattle.std.proofs.Common.{◌≡◌}
use Rattle.serde_json.specs.View.{members_view}
use Rattle.hiera_config.specs.Flags.{flagged}
use Rattle.hiera_config.proofs.flags.set_flags.Given as goal

abbrev pub invariant-loop-name : goal.invariant-loop-name
invariant-loop-name l =
    flagged l.flags.items (members_view l.name-iterator) ≡ flagged l.initial.flags.items (members_view l.members.entries)
