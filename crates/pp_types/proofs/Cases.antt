-- What `includes` tells, case by case.
use Rattle.std.proofs.Common.{◌≡◌, Bool, true, false, ◌&&◌, ◌||◌, not, [], ◌∷◌, refl, ap, sym, ◌∙◌, pos, int_lt}
use Rattle.std.specs.List.{list_all, list_any}
use Rattle.std.specs.Ordering.{int_eq}
use Rattle.std.proofs.lemmas.Bool.Decides.{Decides-int_eq}
use Rattle.pp_types.specs.declared.data.DataPart.{DataPart}
use Rattle.pp_types.specs.declared.data.DataPart.TheVariants as part
use Rattle.pp_types.specs.declared.layer.Choices.{Choices}
use Rattle.pp_types.specs.declared.layer.Layer.{Layer}
use Rattle.pp_types.specs.declared.layer.Layer.TheVariants as layer
use Rattle.pp_types.specs.declared.range.Range.{Range}
use Rattle.pp_types.specs.declared.seen.Seen.{Seen}
use Rattle.pp_types.specs.Forms.{Form, any, undef, boolean, integer, string, data_, array, hash, variant, not_undef, Forms, list_of, data_types, array_of_data, hash_of_data}
use Rattle.pp_types.specs.Includes.{includes}
use Rattle.pp_types.specs.Layers.{layer_form, seen_form, part_form}
use Rattle.pp_types.specs.Ranges.{is_within, same_range, any_count, all_integers, highest}
use Rattle.pp_types.specs.Rules.{same, is_any, covers, by_wide, by_narrow, past_first}
use Rattle.pp_types.proofs.Fuel.{includes-rules}

pub or_false : (b : Bool) → (b || false) ≡ b
or_false true = refl
or_false false = refl

pub and_true : (b : Bool) → (b && true) ≡ b
and_true true = refl
and_true false = refl

pub and_false : (b : Bool) → (b && false) ≡ false
and_false true = refl
and_false false = refl

-- the first case, and what is past it
pub includes-first : (w n : Form) → (same w n || is_any w) ≡ true → includes w n ≡ true
includes-first w n h = includes-rules w n ∙ ap (λ b. past_first b includes w n) h

pub includes-past : (w n : Form) → (same w n || is_any w) ≡ false → includes w n ≡ by_narrow includes w n
includes-past w n h = includes-rules w n ∙ ap (λ b. past_first b includes w n) h

-- the other forms of the second type
pub narrow_other : (l : Layer) (w : Form) → ((cs : Choices) → l ≡ layer.Variant cs → ⊥) → ((t : Seen) → l ≡ layer.NotUndef t → ⊥) → (l ≡ layer.Data → ⊥)
    → by_wide includes w (layer_form l) ≡ by_narrow includes w (layer_form l)
narrow_other (layer.Variant cs) w a b c = absurd (a cs refl)
narrow_other (layer.NotUndef t) w a b c = absurd (b t refl)
narrow_other layer.Data w a b c = absurd (c refl)
narrow_other l w a b c = refl

-- the other forms of the first type
pub wide_other : (l : Layer) (n : Form) → ((cs : Choices) → l ≡ layer.Variant cs → ⊥) → ((t : Seen) → l ≡ layer.NotUndef t → ⊥) → (l ≡ layer.Data → ⊥)
    → covers includes (layer_form l) n ≡ by_wide includes (layer_form l) n
wide_other (layer.Variant cs) n a b c = absurd (a cs refl)
wide_other (layer.NotUndef t) n a b c = absurd (b t refl)
wide_other layer.Data n a b c = absurd (c refl)
wide_other l n a b c = refl

pub includes-data : includes data_ data_ ≡ true
includes-data = includes-first data_ data_ refl

-- whatever includes each type of `Data` is `Data`, `Any` or a `Variant`
pub data_other : (l : Layer) → ((cs : Choices) → l ≡ layer.Variant cs → ⊥) → (l ≡ layer.Data → ⊥) → list_all (by_wide includes (layer_form l)) data_types ≡ false
data_other (layer.Variant cs) a b = absurd (a cs refl)
data_other layer.Data a b = absurd (b refl)
data_other (layer.NotUndef t) a b = ap (λ x. x && list_all (by_wide includes (not_undef (seen_form t))) (boolean ∷ integer all_integers ∷ string any_count ∷ array_of_data ∷ hash_of_data ∷ [])) (and_false (includes (seen_form t) undef))
data_other l a b = refl

pub data_data : list_all (by_wide includes data_) data_types ≡ true
data_data = λ i. ((is_within any_count any_count && includes-data i) || false) && (((is_within any_count any_count && (includes-first (string any_count) (string any_count) refl i && includes-data i)) || false) && true)

-- the types in which `Data` stands itself
pub part_any : (p : DataPart) → includes any (part_form p) ≡ true
part_any part.Array = includes-first any array_of_data refl
part_any part.Hash = includes-first any hash_of_data refl

pub part_data : (p : DataPart) → includes data_ (part_form p) ≡ true
part_data part.Array = includes-past data_ array_of_data refl ∙ ap (λ b. b || false) includes-data
part_data part.Hash = includes-past data_ hash_of_data refl ∙ (λ i. (includes-first (string any_count) (string any_count) refl i && includes-data i) || false)

pub part_variant : (p : DataPart) (ts : Forms) → includes (variant ts) (part_form p) ≡ list_any (λ t. includes t (part_form p)) (list_of ts)
part_variant part.Array ts = includes-past (variant ts) array_of_data refl
part_variant part.Hash ts = includes-past (variant ts) hash_of_data refl

pub part_not_undef : (p : DataPart) (t : Form) → includes (not_undef t) (part_form p) ≡ includes t (part_form p)
part_not_undef part.Array t = includes-past (not_undef t) array_of_data refl ∙ and_true (includes t array_of_data)
part_not_undef part.Hash t = includes-past (not_undef t) hash_of_data refl ∙ and_true (includes t hash_of_data)

-- what is the same is included by the later cases too
absorbed : (b c : Bool) (w n : Form) → (b ≡ true → c ≡ true) → by_narrow includes w n ≡ c → past_first b includes w n ≡ c
absorbed true c w n h e = sym (h refl)
absorbed false c w n h e = e

both : (a b : Bool) → (a && b) ≡ true → (a ≡ true) × (b ≡ true)
both true b h = (refl, h)
both false b h = absurd cc

joined : (a b : Bool) → a ≡ true → b ≡ true → (a && b) ≡ true
joined a b h k = λ i. h i && k i

same_within : (r : Range) → same_range r any_count ≡ true → is_within r any_count ≡ true
same_within r h =
    let parts = both (int_eq r.least (pos 0)) (int_eq r.greatest highest) h in
    let tells_least = Decides-int_eq r.least (pos 0) in
    let tells_greatest = Decides-int_eq r.greatest highest in
    let least : r.least ≡ pos 0 = tells_least.0 parts.0 in
    let greatest : r.greatest ≡ highest = tells_greatest.0 parts.1 in
    let whole : is_within r any_count ≡ is_within any_count any_count =
    λ i. not (int_lt (pos 0) (least i)) && not (int_lt (greatest i) highest) in
    whole

same_included : (t u : Form) → same t u ≡ true → includes t u ≡ true
same_included t u h = includes-first t u (ap (λ b. b || is_any t) h)

pub part_array : (t : Form) (r : Range) → includes (array t r) array_of_data ≡ (is_within r any_count && includes t data_)
part_array t r =
    includes-rules (array t r) array_of_data
    ∙ absorbed ((same t data_ && same_range r any_count) || false) (is_within r any_count && includes t data_) (array t r) array_of_data
    (λ h. let parts = both (same t data_) (same_range r any_count) (sym (or_false (same t data_ && same_range r any_count)) ∙ h) in
    joined (is_within r any_count) (includes t data_) (same_within r parts.1) (same_included t data_ parts.0)) refl

pub part_hash : (k v : Form) (r : Range) → includes (hash k v r) hash_of_data ≡ (is_within r any_count && (includes k (string any_count) && includes v data_))
part_hash k v r =
    includes-rules (hash k v r) hash_of_data
    ∙ absorbed ((same k (string any_count) && (same v data_ && same_range r any_count)) || false)
    (is_within r any_count && (includes k (string any_count) && includes v data_)) (hash k v r) hash_of_data
    (λ h. let parts = both (same k (string any_count)) (same v data_ && same_range r any_count)
    (sym (or_false (same k (string any_count) && (same v data_ && same_range r any_count))) ∙ h) in
    let rest = both (same v data_) (same_range r any_count) parts.1 in
    joined (is_within r any_count) (includes k (string any_count) && includes v data_) (same_within r rest.1)
    (joined (includes k (string any_count)) (includes v data_) (same_included k (string any_count) parts.0) (same_included v data_ rest.0))) refl

pub part_array_hash : (t : Form) (r : Range) → includes (array t r) hash_of_data ≡ false
part_array_hash t r = includes-past (array t r) hash_of_data refl

pub part_hash_array : (k v : Form) (r : Range) → includes (hash k v r) array_of_data ≡ false
part_hash_array k v r = includes-past (hash k v r) array_of_data refl

-- the other forms include neither
pub part_other : (p : DataPart) (l : Layer) → (l ≡ layer.Any → ⊥) → (l ≡ layer.Data → ⊥) → ((cs : Choices) → l ≡ layer.Variant cs → ⊥) → ((t : Seen) → l ≡ layer.NotUndef t → ⊥)
    → ((t : Seen) (r : Range) → l ≡ layer.Array t r → ⊥) → ((k v : Seen) (r : Range) → l ≡ layer.Hash k v r → ⊥) → includes (layer_form l) (part_form p) ≡ false
part_other p layer.Any a b c d e f = absurd (a refl)
part_other p layer.Data a b c d e f = absurd (b refl)
part_other p (layer.Variant cs) a b c d e f = absurd (c cs refl)
part_other p (layer.NotUndef t) a b c d e f = absurd (d t refl)
part_other p (layer.Array t r) a b c d e f = absurd (e t r refl)
part_other p (layer.Hash k v r) a b c d e f = absurd (f k v r refl)
part_other part.Array l a b c d e f = includes-past (layer_form l) array_of_data refl
part_other part.Hash l a b c d e f = includes-past (layer_form l) hash_of_data refl
