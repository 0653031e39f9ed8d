-- What some member says is in what the list says.
use Rattle.std.proofs.Common.{◌∙◌, ap, sym}
use Rattle.std.specs.List.{list_any}
use Rattle.pp_values.specs.Equal.{equal}
use Rattle.pp_values.specs.Views.{view}
use Rattle.pp_values.proofs.Lists.{members_of-data_of}
use Rattle.collector_query.proofs.Inner.{any_view}
use Rattle.collector_query.proofs.matching.is_or_has.Goals as goal

pub returns-in-List : goal.returns-in-List
returns-in-List c =
    rw (c.in-List.is) (c.has_member.ensures ∙ sym (any_view (view c.args.value.now) c.as_slice.result.now)
    ∙ ap (list_any (λ m. equal m (view c.args.value.now))) (c.as_slice.ensures ∙ sym (members_of-data_of _)))
