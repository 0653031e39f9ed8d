use Rattle.std.proofs.Common.{sym, ap, ◌∙◌}
use Rattle.pp_values.specs.Views.{view}
use Rattle.pp_values.proofs.Lists.{members_of-data_of}
use Rattle.hiera_merge.specs.Merges.{members_in}
use Rattle.hiera_merge.proofs.deepening.members_of.Goals as goal

pub returns-in-List : goal.returns-in-List
returns-in-List c =
    c.replace.ensures.value
    ∙ sym (ap (λ v. members_in (view v)) c.in-List.is ∙ members_of-data_of c.in-List.items)
