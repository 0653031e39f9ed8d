use Rattle.std.proofs.Common.{◌≡◌, ◌++◌, ◌∷◌, [], drop}
use Rattle.catalog_finish.specs.Layouts.{of_live, live_numbers}
use Rattle.catalog_finish.proofs.containment.numbers.Given as goal

abbrev pub invariant-loop-number : goal.invariant-loop-number
invariant-loop-number l =
    l.numbers.items ++ of_live (λ n r. n ∷ []) l.number (drop l.number l.book) ≡ live_numbers l.book
