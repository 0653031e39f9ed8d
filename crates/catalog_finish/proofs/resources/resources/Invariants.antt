use Rattle.std.proofs.Common.{◌≡◌, ◌++◌, ◌∷◌, [], drop, IsTrue}
use Rattle.std.specs.List.{list_all}
use Rattle.res_core.specs.Catalogs.{has_form}
use Rattle.catalog_finish.specs.Catalogs.{held, resources}
use Rattle.catalog_finish.specs.Layouts.{of_live}
use Rattle.catalog_finish.proofs.resources.resources.Given as goal

abbrev pub invariant-loop-number : goal.invariant-loop-number
invariant-loop-number l =
    (l.items.items ++ of_live (λ n r. held l.lines l.layout n r ∷ []) l.number (drop l.number l.book)
    ≡ resources l.lines l.layout l.book)
    × IsTrue (list_all has_form l.items.items)
