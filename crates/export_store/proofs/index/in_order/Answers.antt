use Rattle.std.proofs.Common.{◌∙◌}
use Rattle.std.proofs.lemmas.List.Filters.{dedup_is}
use Rattle.res_core.proofs.NameLemmas.{dedup_sorted}
use Rattle.export_store.proofs.index.in_order.Goals as goal

pub returns : goal.returns
returns c = dedup_is _ _ _ c.dedup.ensures.filtered ∙ dedup_sorted _ _ c.sort_unstable.ensures.permutation c.sort_unstable.ensures.sorted
