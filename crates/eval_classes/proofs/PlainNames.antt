-- Names that are written as they are looked up.
use Rattle.std.proofs.Common.{◌≡◌, ℕ, ◌<◌, Bool, true, false, ◌&&◌, List, [], ◌∷◌, map, refl, ap, sym, ◌∙◌, arith, true≢false}
use Rattle.std.specs.Prelude.{not, ◌==◌}
use Rattle.std.specs.Char.{is_ascii_uppercase, to_ascii_lowercase}
use Rattle.std.specs.List.{list_all}
use Rattle.pp_tree.specs.Names.{normal, without_front_colons}
use Rattle.pp_tree.proofs.Colons.{kept}
use Rattle.pp_values.specs.Kinds.{is_kind, is_kind_byte}

both : (a b : Bool) → (a && b) ≡ true → (a ≡ true) × (b ≡ true)
both true b h = (refl, h)
both false b h = absurd (true≢false (sym h))

kept_byte : (b : ℕ) → is_kind_byte b ≡ true → to_ascii_lowercase b ≡ b
kept_byte b h = grind arith

kept_bytes : (bs : List ℕ) → list_all is_kind_byte bs ≡ true → map to_ascii_lowercase bs ≡ bs
kept_bytes [] h = refl
kept_bytes (b ∷ bs) h =
    let k = both (is_kind_byte b) (list_all is_kind_byte bs) h in
    ap (λ c. c ∷ map to_ascii_lowercase bs) (kept_byte b k.0) ∙ ap (λ cs. b ∷ cs) (kept_bytes bs k.1)

kept_kind : (t : List ℕ) → is_kind t ≡ true → map to_ascii_lowercase t ≡ t
kept_kind [] h = refl
kept_kind (b ∷ bs) h = kept_bytes (b ∷ bs) h

pub plain_is_normal : (t : List ℕ) → ((r : List ℕ) → t ≡ 58 ∷ 58 ∷ r → ⊥) → is_kind t ≡ true → normal t ≡ t
unfolding normal
plain_is_normal t front kind = ap (map to_ascii_lowercase) (sym (kept t front)) ∙ kept_kind t kind
