-- A list of fewer than three items, or of more, is no edge.
use Rattle.std.proofs.Common.{◌≡◌, ◌<◌, List, [], ◌∷◌, length, None, refl, arith}
use Rattle.serde_json.specs.View.{items_view}
use Rattle.serde_json.specs.declared.value.Value.{Value as Json}
use Rattle.catalog_reading.specs.CatalogParts.{edge_in}

pub too_few : (items : List Json) → length items < 3 → None ≡ edge_in (items_view items)
too_few [] h = refl
too_few (a ∷ []) h = refl
too_few (a ∷ b ∷ []) h = refl
too_few (a ∷ b ∷ c ∷ items) h = absurd (omega arith)

pub too_many : (items : List Json) → 3 < length items → None ≡ edge_in (items_view items)
too_many [] h = absurd (omega arith)
too_many (a ∷ []) h = absurd (omega arith)
too_many (a ∷ b ∷ []) h = absurd (omega arith)
too_many (a ∷ b ∷ c ∷ []) h = absurd (omega arith)
too_many (a ∷ b ∷ c ∷ d ∷ items) h = refl
