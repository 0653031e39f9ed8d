use Rattle.std.proofs.Common.{◌≡◌, ◌++◌, [], ℕ, List, map, drop}
use Rattle.res_book.specs.declared.row.Row.{Row}
use Rattle.catalog_finish.specs.Tables.{lists}
use Rattle.catalog_finish.proofs.layout.no_outers.Given as goal

abbrev pub invariant-loop-number : goal.invariant-loop-number
invariant-loop-number l =
    let none : Row → List ℕ = λ r. [] in
    lists l.outers.items ++ map none (drop l._number l.book) ≡ map none l.book
