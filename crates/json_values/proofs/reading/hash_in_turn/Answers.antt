use Rattle.std.proofs.Common.{ap, ◌∙◌}
use Rattle.pp_values.specs.Views.{view}
use Rattle.json_values.proofs.FormSteps.{members_in}
use Rattle.json_values.proofs.reading.hash_in_turn.Goals as goal

pub returns : goal.returns
returns c =
    rw (members_in (view c.args.value) c.in-List._items _ (ap view c.in-List.is) (c.into_vec.ensures ∙ c.in_ok-members.ensures))
    c.hash_of.ensures
