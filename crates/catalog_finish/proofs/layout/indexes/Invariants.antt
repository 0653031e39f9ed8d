use Rattle.std.proofs.Common.{◌≡◌, ◌++◌, ◌≤◌, drop}
use Rattle.catalog_finish.specs.Layouts.{indexes_from}
use Rattle.catalog_finish.proofs.layout.indexes.Given as goal

abbrev pub invariant-loop-number : goal.invariant-loop-number
invariant-loop-number l = record {
  all : l.indexes.items ++ indexes_from l.next (drop l.number l.book) ≡ indexes_from 0 l.book;
  few : l.next ≤ l.number;
}
