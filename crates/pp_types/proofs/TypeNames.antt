-- The name of a type, in lower case, is the name of a kind of resource.
use Rattle.std.proofs.Common.{◌≡◌, ℕ, Bool, true, false, ◌&&◌, IsTrue, Option, None, Some, List, [], ◌∷◌, map, refl, ap, ◌∙◌, arith}
use Rattle.std.specs.Prelude.{is_some}
use Rattle.std.specs.Char.{to_ascii_lowercase}
use Rattle.std.specs.List.{list_all}
use Rattle.pp_values.specs.Kinds.{is_kind, is_kind_byte}
use Rattle.pp_types.specs.declared.naming.Read.{Read}
use Rattle.pp_types.specs.declared.naming.Read.TheVariants as read
use Rattle.pp_types.specs.Names.{read_next, is_read, bare_name, is_type_name, normal_name}

bracket : (r : Read) → is_some (read_next r 91) ≡ false
bracket read.Nothing = refl
bracket read.Word = refl
bracket read.Dash = refl
bracket read.Colon = refl

no_bracket : (r : Read) (b : ℕ) → is_some (read_next r b) ≡ true → (b ≡ 91 → ⊥)
no_bracket r b h e = let no : is_some (read_next r b) ≡ false = ap (λ x. is_some (read_next r x)) e ∙ bracket r in let yes = h in absurd (grind (arith, no, yes))

lower_ok : (b : ℕ) → (b ≡ 91 → ⊥) → is_kind_byte (to_ascii_lowercase b) ≡ true
lower_ok b h = grind (arith, h)

taken : (o : Option Read) (bs : List ℕ) → is_read o bs ≡ true → is_some o ≡ true
taken None bs h = absurd cc
taken (Some r) bs h = refl

joined : (a b : Bool) → a ≡ true → b ≡ true → (a && b) ≡ true
joined a b h k = λ i. h i && k i

kind_bytes : (o : Option Read) (bs : List ℕ) → is_read o bs ≡ true → list_all is_kind_byte (map to_ascii_lowercase bs) ≡ true
kind_bytes o [] h = refl
kind_bytes None (b ∷ bs) h = absurd cc
kind_bytes (Some r) (b ∷ bs) h =
    joined (is_kind_byte (to_ascii_lowercase b)) (list_all is_kind_byte (map to_ascii_lowercase bs))
    (lower_ok b (no_bracket r b (taken (read_next r b) bs h))) (kind_bytes (read_next r b) bs h)

named : (t : List ℕ) → is_read (Some read.Nothing) t ≡ true → is_kind (map to_ascii_lowercase t) ≡ true
named [] h = absurd cc
named (b ∷ bs) h = kind_bytes (Some read.Nothing) (b ∷ bs) h

pub type_names_kind : (t : List ℕ) → IsTrue (is_type_name t) → IsTrue (is_kind (normal_name t))
type_names_kind t h = named (bare_name t) h
