use Rattle.std.proofs.Common.{◌≡◌, map, take}
use Rattle.res_book.specs.Rows.{reference_of}
use Rattle.catalog_finish.proofs.containment.references_of.Given as goal

abbrev pub invariant-loop-row : goal.invariant-loop-row
invariant-loop-row l = l.items.items ≡ map (λ x. reference_of x.now.declared) (take l.row-index l.rows)
