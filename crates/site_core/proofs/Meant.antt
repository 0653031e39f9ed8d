-- For callers: what `compile` answered may be published.
use Rattle.std.proofs.Common.{◌≡◌, ℕ, List, Result, Ok, refl, sym, ap, ◌∙◌, subst}
use Rattle.std.specs.Arc.{arc_value}
use Rattle.pp_values.specs.Views.{view}
use Rattle.res_core.specs.Asked.{Wanted}
use Rattle.res_core.specs.declared.export_set.ExportSet.{ExportSet}
use Rattle.site_core.specs.Additions.{MayAdd}
use Rattle.site_core.specs.Compiling.{IsPublication}
use Rattle.site_core.specs.Events.{Event}
use Rattle.site_core.specs.Fits.{Listed}
use Rattle.site_core.specs.Meaning.{Meaning, HasExports}
use Rattle.site_core.specs.Snapshots.{Of}
use Rattle.site_core.specs.declared.addition.Addition.{Addition}
use Rattle.site_core.specs.declared.addition.Addition.TheVariants as v
use Rattle.site_core.specs.declared.snapshot.Snapshot.{Snapshot}

pub has_exports : {C F : Type 0} (meant : Result (C × ExportSet) F) (catalog : C) (set : ExportSet) →
    meant ≡ Ok (catalog, set) → HasExports meant set
has_exports meant catalog set is = subst (λ m. HasExports m set) (sym is) refl

-- what a compile came to under its snapshot
pub may_publish : {S C F : Type 0} (meaning : Meaning S C F) (listed : Listed S) (w : Wanted) (s : Snapshot S)
    (catalog : C) (addition : Addition S) (h : List (Event S)) →
    IsPublication meaning listed w s catalog addition → Of s h → MayAdd meaning addition h
may_publish {S} meaning listed w s catalog (v.Publication node facts snapshot set) h (same, named, shape, m) of =
    let both : (snapshot, node) ≡ (s, w.node) = λ i. (same i, named i) in (
      shape,
      subst (λ x. Of x h) (sym same) of,
      has_exports (meaning (arc_value snapshot.site) node (view facts) snapshot.version) catalog set
          (ap (λ (x : Snapshot S × List ℕ). meaning (arc_value x.0.site) x.1 (view facts) x.0.version) both ∙ m.meant),
    )
may_publish meaning listed w s catalog (v.Plain what) h none of = absurd none
