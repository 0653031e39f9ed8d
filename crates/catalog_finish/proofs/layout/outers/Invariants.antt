use Rattle.std.proofs.Common.{◌≡◌, drop}
use Rattle.catalog_finish.specs.Layouts.{outers_from}
use Rattle.catalog_finish.specs.Tables.{lists, more}
use Rattle.catalog_finish.proofs.layout.outers.Given as goal

abbrev pub invariant-loop-pair : goal.invariant-loop-pair
invariant-loop-pair l = more 0 (lists l.outers.items) (drop l.pair-index l.pairs) ≡ outers_from l.pairs 0 l.book
