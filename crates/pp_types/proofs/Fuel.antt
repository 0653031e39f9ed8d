-- The rules hold of `includes` itself, since each pair that they ask of weighs less than the one before it.
use Rattle.std.proofs.Common.{◌≡◌, ℕ, zero, suc, ◌<◌, ◌≤◌, Bool, true, false, ◌&&◌, ◌||◌, not, length, refl, ap, sym, subst, ◌∙◌, inl, inr, ◌⊎◌, arith, pos}
use Rattle.std.specs.Cmp.Lexicographic.{pointwise}
use Rattle.std.specs.List.{list_all, list_any}
use Rattle.pp_types.specs.Forms.{Form, undef, boolean, integer, string, data_, array, hash, variant, not_undef, tuple, type_, Forms, no_forms, and_form, list_of, optional, data_types, array_of_data, hash_of_data, form_size, forms_size}
use Rattle.pp_types.specs.Ranges.{is_in_range, is_within, any_count, all_integers}
use Rattle.pp_types.specs.Rules.{same, is_any, accepts_undef, covers, by_wide, by_narrow, past_first, by_rules}
use Rattle.pp_types.specs.Includes.{includes_within, weight, includes}

abbrev Test : Type 0
Test = Form → Form → Bool

all_agree : (p q : Form → Bool) (ts : Forms) → ((t : Form) → form_size t < forms_size ts → p t ≡ q t) → list_all p (list_of ts) ≡ list_all q (list_of ts)
all_agree p q no_forms h = refl
all_agree p q (and_form t ts) h =
    let first : p t ≡ q t = h t (omega arith) in
    let rest : list_all p (list_of ts) ≡ list_all q (list_of ts) = all_agree p q ts (λ u lt. h u (omega arith)) in
    λ i. first i && rest i

some_agree : (p q : Form → Bool) (ts : Forms) → ((t : Form) → form_size t < forms_size ts → p t ≡ q t) → list_any p (list_of ts) ≡ list_any q (list_of ts)
some_agree p q no_forms h = refl
some_agree p q (and_form t ts) h =
    let first : p t ≡ q t = h t (omega arith) in
    let rest : list_any p (list_of ts) ≡ list_any q (list_of ts) = some_agree p q ts (λ u lt. h u (omega arith)) in
    λ i. first i || rest i

places_agree : (f g : Test) (ts us : Forms) → ((t u : Form) → form_size t < forms_size ts → form_size u < forms_size us → f t u ≡ g t u)
    → pointwise f (list_of ts) (list_of us) ≡ pointwise g (list_of ts) (list_of us)
places_agree f g no_forms no_forms h = refl
places_agree f g no_forms (and_form u us) h = refl
places_agree f g (and_form t ts) no_forms h = refl
places_agree f g (and_form t ts) (and_form u us) h =
    let first : f t u ≡ g t u = h t u (omega arith) (omega arith) in
    let rest : pointwise f (list_of ts) (list_of us) ≡ pointwise g (list_of ts) (list_of us) =
    places_agree f g ts us (λ v m lt lu. h v m (omega arith) (omega arith)) in
    λ i. first i && rest i

covers_agree : (f g : Test) (w n : Form) → ((v m : Form) → form_size v < form_size w → form_size m < form_size n → f v m ≡ g v m) → covers f w n ≡ covers g w n
covers_agree f g (array t r) (array u s) h = ap (λ b. is_within r s && b) (h t u (omega arith) (omega arith))
covers_agree f g (array t r) (tuple us) h =
    ap (λ b. is_in_range r (pos (length (list_of us))) && b) (all_agree (f t) (g t) us (λ u lt. h t u (omega arith) (omega arith)))
covers_agree f g (hash k v r) (hash l u s) h =
    let keys : f k l ≡ g k l = h k l (omega arith) (omega arith) in
    let values : f v u ≡ g v u = h v u (omega arith) (omega arith) in
    λ i. is_within r s && (keys i && values i)
covers_agree f g (tuple ts) (tuple us) h = places_agree f g ts us (λ t u lt lu. h t u (omega arith) (omega arith))
covers_agree f g (type_ t) (type_ u) h = h t u (omega arith) (omega arith)
covers_agree f g w n h = refl

-- what the types as which `Data` counts cover
data_agree : (f g : Test) (n : Form) → ((v m : Form) → form_size v ≤ 1 → form_size m < form_size n → f v m ≡ g v m)
    → list_any (λ t. covers f t n) data_types ≡ list_any (λ t. covers g t n) data_types
data_agree f g (array u s) h = ap (λ b. (is_within any_count s && b) || false) (h data_ u (omega arith) (omega arith))
data_agree f g (tuple us) h =
    ap (λ b. (is_in_range any_count (pos (length (list_of us))) && b) || false)
    (all_agree (f data_) (g data_) us (λ u lt. h data_ u (omega arith) (omega arith)))
data_agree f g (hash l u s) h =
    let keys : f (string any_count) l ≡ g (string any_count) l = h (string any_count) l (omega arith) (omega arith) in
    let values : f data_ u ≡ g data_ u = h data_ u (omega arith) (omega arith) in
    λ i. (is_within any_count s && (keys i && values i)) || false
data_agree f g n h = refl

-- for a type that is not `Data`
wide_agree : (f g : Test) (w n : Form) → (w ≡ data_ → ⊥) → ((v m : Form) → form_size v < form_size w → form_size m ≤ form_size n → f v m ≡ g v m) → by_wide f w n ≡ by_wide g w n
wide_agree f g (variant ts) n other h = some_agree (λ t. f t n) (λ t. g t n) ts (λ t lt. h t n (omega arith) (omega arith))
wide_agree f g (not_undef t) n other h = ap (λ b. b && not (accepts_undef n)) (h t n (omega arith) (omega arith))
wide_agree f g data_ n other h = absurd (other refl)
wide_agree f g w n other h = covers_agree f g w n (λ v m lt lu. h v m (omega arith) (omega arith))

-- for a type that is not `Data`; `Data` itself never comes to its own types, since a type includes itself
narrow_agree : (f g : Test) (w n : Form) → (w ≡ data_ → ⊥) → ((v m : Form) → weight v m < weight w n → f v m ≡ g v m) → by_narrow f w n ≡ by_narrow g w n
narrow_agree f g w (variant ts) other h = all_agree (f w) (g w) ts (λ t lt. h w t (omega arith))
narrow_agree f g w (not_undef t) other h = h (optional w) t (omega arith)
narrow_agree f g w data_ other h =
    let at : (n : Form) → form_size n ≤ 3 → by_wide f w n ≡ by_wide g w n =
    λ n small. wide_agree f g w n other (λ v m lt le. h v m (omega arith)) in
    let undefs = at undef (omega arith) in
    let booleans = at boolean (omega arith) in
    let integers = at (integer all_integers) (omega arith) in
    let strings = at (string any_count) (omega arith) in
    let arrays = at array_of_data (omega arith) in
    let hashes = at hash_of_data (omega arith) in
    λ i. undefs i && (booleans i && (integers i && (strings i && (arrays i && (hashes i && true)))))
narrow_agree f g w n other h = wide_agree f g w n other (λ v m lt le. h v m (omega arith))

-- for `Data`
data_narrow_agree : (f g : Test) (n : Form) → (n ≡ data_ → ⊥) → ((v m : Form) → weight v m < weight data_ n → f v m ≡ g v m) → by_narrow f data_ n ≡ by_narrow g data_ n
data_narrow_agree f g (variant ts) other h = all_agree (f data_) (g data_) ts (λ t lt. h data_ t (omega arith))
data_narrow_agree f g (not_undef t) other h = h (optional data_) t (omega arith)
data_narrow_agree f g data_ other h = absurd (other refl)
data_narrow_agree f g n other h = data_agree f g n (λ v m le lt. h v m (omega arith))

past_first_agree : (b : Bool) (f g : Test) (w n : Form) → by_narrow f w n ≡ by_narrow g w n → past_first b f w n ≡ past_first b g w n
past_first_agree true f g w n e = refl
past_first_agree false f g w n e = e

is_data : (t : Form) → (t ≡ data_) ⊎ (t ≡ data_ → ⊥)
is_data data_ = inl refl
is_data t = inr (λ e. cc)

-- The rules ask of smaller pairs alone.
rules_agree : (f g : Test) (w n : Form) → ((v m : Form) → weight v m < weight w n → f v m ≡ g v m) → by_rules f w n ≡ by_rules g w n
rules_agree f g data_ data_ h = refl
rules_agree f g data_ n h =
    elim (is_data n) [
      | inl e ↦ subst (λ m. by_rules f data_ m ≡ by_rules g data_ m) (sym e) refl
      | inr other ↦ past_first_agree (same data_ n || is_any data_) f g data_ n (data_narrow_agree f g n other h)
    ]
rules_agree f g w n h = past_first_agree (same w n || is_any w) f g w n (narrow_agree f g w n (λ e. cc) h)

pub enough : (j k : ℕ) (w n : Form) → weight w n < j → weight w n < k → includes_within j w n ≡ includes_within k w n
unfolding includes_within
enough zero k w n lt lu = absurd (omega arith)
enough (suc j) zero w n lt lu = absurd (omega arith)
enough (suc j) (suc k) w n lt lu =
    rules_agree (includes_within j) (includes_within k) w n (λ v m less. enough j k v m (omega arith) (omega arith))

-- `includes` is what the rules say of it.
pub includes-rules : (w n : Form) → includes w n ≡ by_rules includes w n
unfolding includes includes_within
includes-rules w n =
    rules_agree (includes_within (weight w n)) includes w n (λ v m less. enough (weight w n) (suc (weight v m)) v m less (omega arith))

-- Whatever keeps the rules is `includes`. The number is above the weight of the pair.
only_within : (inc : Test) → ((w n : Form) → inc w n ≡ by_rules inc w n) → (k : ℕ) (w n : Form) → weight w n < k
    → inc w n ≡ includes w n
only_within inc keeps zero w n lt = absurd (omega arith)
only_within inc keeps (suc k) w n lt =
    keeps w n
    ∙ (rules_agree inc includes w n (λ v m less. only_within inc keeps k v m (omega arith)) ∙ sym (includes-rules w n))

pub only_includes : (inc : Test) → ((w n : Form) → inc w n ≡ by_rules inc w n) → (w n : Form) → inc w n ≡ includes w n
only_includes inc keeps w n = only_within inc keeps (suc (weight w n)) w n (omega arith)
