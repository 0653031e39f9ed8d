-- Lists of types, gone through by place.
use Rattle.std.proofs.Common.{◌≡◌, ◌<◌, ◌+◌, ℕ, zero, suc, List, [], ◌∷◌, Option, None, Some, drop, length, slice_get, refl, ap, ◌∙◌, add-one, arith, Bool, true, false, ◌&&◌, ◌||◌}
use Rattle.std.specs.Cmp.Lexicographic.{pointwise}
use Rattle.std.specs.List.{list_all, list_any}
use Rattle.pp_types.specs.Forms.{Form, any, Forms, no_forms, and_form, list_of, form_size, forms_size}
use Rattle.pp_types.specs.Rules.{same, same_forms, accepts_undef, some_accept_undef}

form_or_any : Option Form → Form
form_or_any None = any
form_or_any (Some t) = t

from_suc : (xs : List Form) (i : ℕ) (x : Form) → slice_get xs i ≡ Some x → drop i xs ≡ x ∷ drop (suc i) xs
unfolding form_or_any
from_suc [] i x e = absurd cc
from_suc (y ∷ ys) zero x e = ap (λ z. form_or_any z ∷ ys) e
from_suc (y ∷ ys) (suc i) x e = from_suc ys i x e

pub from_place : (xs : List Form) (i : ℕ) (x : Form) → slice_get xs i ≡ Some x → drop i xs ≡ x ∷ drop (i + 1) xs
from_place xs i x e = rw add-one (from_suc xs i x e)

pub size_at : (ts : Forms) (i : ℕ) (t : Form) → slice_get (list_of ts) i ≡ Some t → form_size t < forms_size ts
unfolding form_or_any
size_at no_forms i t e = absurd cc
size_at (and_form u us) zero t e = omega (arith, ap (λ z. form_size (form_or_any z)) e)
size_at (and_form u us) (suc i) t e = omega (arith, size_at us i t e)

pub same_forms-lists : (ts us : Forms) → same_forms ts us ≡ pointwise same (list_of ts) (list_of us)
same_forms-lists no_forms no_forms = refl
same_forms-lists no_forms (and_form u us) = refl
same_forms-lists (and_form t ts) no_forms = refl
same_forms-lists (and_form t ts) (and_form u us) = ap (λ b. same t u && b) (same_forms-lists ts us)

-- what the types from a place on tell is told by the type at the place, or else by those behind it
pub pair_goes_on : (p : Form → Form → Bool) (xs ys : List Form) (i : ℕ) (x y : Form) → slice_get xs i ≡ Some x → slice_get ys i ≡ Some y →
    p x y ≡ true → pointwise p (drop i xs) (drop i ys) ≡ pointwise p (drop (i + 1) xs) (drop (i + 1) ys)
pair_goes_on p xs ys i x y d e h =
    (λ j. pointwise p (from_place xs i x d j) (from_place ys i y e j)) ∙ ap (λ b. b && pointwise p (drop (i + 1) xs) (drop (i + 1) ys)) h

pub pair_stops : (p : Form → Form → Bool) (xs ys : List Form) (i : ℕ) (x y : Form) → slice_get xs i ≡ Some x → slice_get ys i ≡ Some y →
    p x y ≡ false → pointwise p (drop i xs) (drop i ys) ≡ false
pair_stops p xs ys i x y d e h =
    (λ j. pointwise p (from_place xs i x d j) (from_place ys i y e j)) ∙ ap (λ b. b && pointwise p (drop (i + 1) xs) (drop (i + 1) ys)) h

pub all_goes_on : (p : Form → Bool) (xs : List Form) (i : ℕ) (x : Form) → slice_get xs i ≡ Some x → p x ≡ true →
    list_all p (drop i xs) ≡ list_all p (drop (i + 1) xs)
all_goes_on p xs i x e h = ap (list_all p) (from_place xs i x e) ∙ ap (λ b. b && list_all p (drop (i + 1) xs)) h

pub all_stops : (p : Form → Bool) (xs : List Form) (i : ℕ) (x : Form) → slice_get xs i ≡ Some x → p x ≡ false →
    list_all p (drop i xs) ≡ false
all_stops p xs i x e h = ap (list_all p) (from_place xs i x e) ∙ ap (λ b. b && list_all p (drop (i + 1) xs)) h

pub any_goes_on : (p : Form → Bool) (xs : List Form) (i : ℕ) (x : Form) → slice_get xs i ≡ Some x → p x ≡ false →
    list_any p (drop i xs) ≡ list_any p (drop (i + 1) xs)
any_goes_on p xs i x e h = ap (list_any p) (from_place xs i x e) ∙ ap (λ b. b || list_any p (drop (i + 1) xs)) h

pub any_stops : (p : Form → Bool) (xs : List Form) (i : ℕ) (x : Form) → slice_get xs i ≡ Some x → p x ≡ true →
    list_any p (drop i xs) ≡ true
any_stops p xs i x e h = ap (list_any p) (from_place xs i x e) ∙ ap (λ b. b || list_any p (drop (i + 1) xs)) h

pub some_accept_undef-list : (ts : Forms) → some_accept_undef ts ≡ list_any accepts_undef (list_of ts)
some_accept_undef-list no_forms = refl
some_accept_undef-list (and_form t ts) = ap (λ b. accepts_undef t || b) (some_accept_undef-list ts)

and_false : (b : Bool) → (b && false) ≡ false
and_false true = refl
and_false false = refl

pub lengths_differ : (p : Form → Form → Bool) (xs ys : List Form) → (length xs ≡ length ys → ⊥) → pointwise p xs ys ≡ false
lengths_differ p [] [] h = absurd (h refl)
lengths_differ p [] (y ∷ ys) h = refl
lengths_differ p (x ∷ xs) [] h = refl
lengths_differ p (x ∷ xs) (y ∷ ys) h = ap (λ b. p x y && b) (lengths_differ p xs ys (λ e. h (omega (arith, e)))) ∙ and_false (p x y)
