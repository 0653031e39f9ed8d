use Rattle.std.proofs.Common.{refl, []}
use Rattle.export_store.proofs.MapLemmas.{empty-map}
use Rattle.export_store.proofs.table.Table.empty.Goals as goal

pub returns : goal.returns
returns g c = empty-map [] refl
