-- Lists of types and of values, gone through together.
use Rattle.std.proofs.Common.{◌≡◌, ◌<◌, ◌+◌, ℕ, List, [], ◌∷◌, Some, slice_get, drop, length, get_or, refl, ap, ◌∙◌, true, false, ◌&&◌, ◌||◌}
use Rattle.std.specs.Cmp.Lexicographic.{pointwise}
use Rattle.std.specs.List.{list_any}
use Rattle.pp_values.specs.declared.value.Value.{Value}
use Rattle.pp_values.specs.Datum.{Datum, undef}
use Rattle.pp_values.specs.Views.{view, views}
use Rattle.pp_types.specs.Accepts.{accepts, some_accept, accept_members}
use Rattle.pp_types.specs.Forms.{Form, variant, Forms, no_forms, and_form, list_of}
use Rattle.pp_types.specs.Rules.{accepts_undef, some_accept_undef}
use Rattle.pp_types.proofs.Places.{from_place}
use Rattle.pp_types.proofs.Turns.{from_index}

pub some_accept-list : (ts : Forms) (d : Datum) → some_accept ts d ≡ list_any (λ t. accepts t d) (list_of ts)
some_accept-list no_forms d = refl
some_accept-list (and_form t ts) d = ap (λ b. accepts t d || b) (some_accept-list ts d)

pub accept_members-lists : (ts : Forms) (ds : List Datum) → accept_members ts ds ≡ pointwise accepts (list_of ts) ds
accept_members-lists no_forms [] = refl
accept_members-lists no_forms (d ∷ ds) = refl
accept_members-lists (and_form t ts) [] = refl
accept_members-lists (and_form t ts) (d ∷ ds) = ap (λ b. accepts t d && b) (accept_members-lists ts ds)

pub member_goes_on : (ts : List Form) (xs : List Value) (i : ℕ) (t : Form) (x : Value) → slice_get ts i ≡ Some t → i < length xs → x ≡ get_or xs i x →
    accepts t (view x) ≡ true → pointwise accepts (drop i ts) (views (drop i xs)) ≡ pointwise accepts (drop (i + 1) ts) (views (drop (i + 1) xs))
member_goes_on ts xs i t x d lt e h =
    (λ j. pointwise accepts (from_place ts i t d j) (views (from_index xs i x lt e j)))
    ∙ ap (λ b. b && pointwise accepts (drop (i + 1) ts) (views (drop (i + 1) xs))) h

pub member_stops : (ts : List Form) (xs : List Value) (i : ℕ) (t : Form) (x : Value) → slice_get ts i ≡ Some t → i < length xs → x ≡ get_or xs i x →
    accepts t (view x) ≡ false → pointwise accepts (drop i ts) (views (drop i xs)) ≡ false
member_stops ts xs i t x d lt e h =
    (λ j. pointwise accepts (from_place ts i t d j) (views (from_index xs i x lt e j)))
    ∙ ap (λ b. b && pointwise accepts (drop (i + 1) ts) (views (drop (i + 1) xs))) h

-- a type accepts Undef where the rules of inclusion say so
mutual
  pub accepts-undef : (t : Form) → accepts t undef ≡ accepts_undef t
  accepts-undef (variant ts) = some_accept-undef ts
  accepts-undef t = refl

  pub some_accept-undef : (ts : Forms) → some_accept ts undef ≡ some_accept_undef ts
  some_accept-undef no_forms = refl
  some_accept-undef (and_form t ts) = λ i. accepts-undef t i || some_accept-undef ts i
