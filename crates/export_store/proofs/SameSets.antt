-- Export sets are the same in every part where they are one set.
use Rattle.std.proofs.Common.{◌≡◌, ℕ, Bool, List, refl, ap}
use Rattle.std.specs.Prelude.{◌&&◌}
use Rattle.std.specs.Bool.{Decides}
use Rattle.std.specs.Cmp.{first_so, second_so, unsigned_Decides}
use Rattle.std.proofs.lemmas.Bool.{and_from}
use Rattle.std.proofs.lemmas.Slice.Eq.{bytes_eq-Decides, slice_eq-Decides}
use Rattle.pp_values.specs.Settings.{Setting}
use Rattle.pp_values.specs.declared.place.Place.{Place}
use Rattle.res_core.specs.declared.export_set.ExportSet.{ExportSet}
use Rattle.res_core.specs.declared.exported.Exported.{Exported}
use Rattle.res_core.specs.declared.resource.Resource.{Resource}
use Rattle.export_store.specs.Sameness.{same_setting, same_resource, same_place, same_exported, same_set}
use Rattle.export_store.proofs.SameValues.{same_Decides}

-- a test of two parts, which make up the whole
both : {A B C : Type 0} (make : A → B → C) (a x : A) (b y : B) (r s : Bool) → Decides r (a ≡ x) → Decides s (b ≡ y) →
    (make a b ≡ make x y → (a ≡ x) × (b ≡ y)) → Decides (r && s) (make a b ≡ make x y)
both make a x b y r s first second parts = (
  (λ h. let left = first.0 (first_so r s h) in let right = second.0 (second_so r s h) in λ i. make (left i) (right i)),
  (λ is. and_from r s (first.1 (parts is).0) (second.1 (parts is).1)),
)

setting_Decides : (a b : Setting) → Decides (same_setting a b) (a ≡ b)
setting_Decides a b = both (λ n v. (n, v)) a.0 b.0 a.1 b.1 _ _ (bytes_eq-Decides a.0 b.0) (same_Decides a.1 b.1)
    (λ is. (ap (λ (x : Setting). x.0) is, ap (λ (x : Setting). x.1) is))

place_Decides : (a b : Place) → Decides (same_place a b) (a ≡ b)
place_Decides a b =
    both (λ f l. record { file = f; line = l }) a.file b.file a.line b.line _ _ (bytes_eq-Decides a.file b.file)
    (unsigned_Decides a.line b.line) (λ is. (ap (λ (x : Place). x.file) is, ap (λ (x : Place). x.line) is))

resource_Decides : (a b : Resource) → Decides (same_resource a b) (a ≡ b)
resource_Decides a b =
    let of : List ℕ × List ℕ → List Setting × List (List ℕ) → Resource =
    λ n x. record { kind = n.0; title = n.1; attributes = x.0; tags = x.1 } in
    both of (a.kind, a.title) (b.kind, b.title) (a.attributes, a.tags) (b.attributes, b.tags) _ _
    (both (λ k t. (k, t)) a.kind b.kind a.title b.title _ _ (bytes_eq-Decides a.kind b.kind)
    (bytes_eq-Decides a.title b.title)
    (λ is. (ap (λ (x : List ℕ × List ℕ). x.0) is, ap (λ (x : List ℕ × List ℕ). x.1) is)))
    (both (λ s t. (s, t)) a.attributes b.attributes a.tags b.tags _ _
    (slice_eq-Decides setting_Decides a.attributes b.attributes _ refl)
    (slice_eq-Decides bytes_eq-Decides a.tags b.tags _ refl)
    (λ is. (ap (λ (x : List Setting × List (List ℕ)). x.0) is, ap (λ (x : List Setting × List (List ℕ)). x.1) is)))
    (λ is. ((λ i. ((is i).kind, (is i).title)), (λ i. ((is i).attributes, (is i).tags))))

exported_Decides : (a b : Exported) → Decides (same_exported a b) (a ≡ b)
exported_Decides a b =
    both (λ p r. record { node_place = p; item = r }) a.node_place b.node_place a.item b.item _ _
    (place_Decides a.node_place b.node_place) (resource_Decides a.item b.item)
    (λ is. (ap (λ (x : Exported). x.node_place) is, ap (λ (x : Exported). x.item) is))

-- two sets are the same exactly where they are one
pub set_Decides : (a b : ExportSet) → Decides (same_set a b) (a ≡ b)
set_Decides a b =
    let items = slice_eq-Decides exported_Decides a.items b.items (same_set a b) refl in (
      (λ h. let is = items.0 h in λ i. record { items = is i }),
      (λ is. items.1 (ap (λ (x : ExportSet). x.items) is)),
    )
