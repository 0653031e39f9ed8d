use Rattle.std.proofs.Common.{◌∙◌}
use Rattle.std.proofs.lemmas.List.Filters.{dedup_is}
use Rattle.res_core.proofs.NameLemmas.{dedup_rises, dedup_sorted}
use Rattle.res_core.proofs.tagging.in_order.Goals as goal

pub from_vec-requires : goal.from_vec-requires
from_vec-requires c = rw (dedup_is _ _ _ c.dedup.ensures.filtered) (dedup_rises _ c.sort_unstable.ensures.sorted)

pub returns : goal.returns
returns c =
    c.from_vec.ensures
    ∙ dedup_is _ _ _ c.dedup.ensures.filtered
    ∙ dedup_sorted _ _ c.sort_unstable.ensures.permutation c.sort_unstable.ensures.sorted
