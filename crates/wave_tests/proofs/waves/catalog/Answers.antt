use Rattle.std.proofs.Common.{[], refl, sym, subst}
use Rattle.res_core.specs.Catalogs.{IsCatalog}
use Rattle.wave_tests.proofs.waves.catalog.Goals as goal

pub new-requires : goal.new-requires
new-requires c =
    subst (λ es. IsCatalog c.in_ok-resources.resources es) (sym c.no_edges-edges.ensures)
    (subst (λ hs. IsCatalog hs []) (sym c.in_ok-resources.ensures)
    (record { apart = refl; contained = refl; forms = refl; between = refl; ordered = refl }))
