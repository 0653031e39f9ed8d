use Rattle.std.proofs.Common.{◌≡◌, true, drop}
use Rattle.std.specs.List.{list_all}
use Rattle.catalog_finish.specs.Titles.{is_by_title, is_surely_by_title}
use Rattle.catalog_finish.proofs.titles.are_by_title.Given as goal

abbrev pub invariant-loop-number : goal.invariant-loop-number
invariant-loop-number l = record {
  exact : list_all (is_surely_by_title l.lines) l.book ≡ list_all (is_surely_by_title l.lines) (drop l.number l.book);
  holds : list_all (is_by_title l.lines) (drop l.number l.book) ≡ true → list_all (is_by_title l.lines) l.book ≡ true;
}
