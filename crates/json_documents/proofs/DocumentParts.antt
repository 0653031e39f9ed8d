-- What is read of the parts of a document.
use Rattle.std.proofs.Common.{◌≡◌, ℕ, zero, suc, Bool, true, false, List, [], ◌∷◌, map, refl, ap₂}
use Rattle.std.specs.Cmp.{first_so, second_so}
use Rattle.std.specs.List.{list_all}
use Rattle.serde_json.specs.Data.{unsigned, Data, null, boolean, number, string, array, object, Items, no_items, item, Members, no_members, member}
use Rattle.serde_json.specs.View.{items_of}

abbrev pub nth : ℕ → Members → Data
nth n no_members = null
nth zero (member k d ms) = d
nth (suc n) (member k d ms) = nth n ms

abbrev pub part : ℕ → Data → Data
part n (object ms) = nth n ms
part n d = null

abbrev pub text_said : Data → List ℕ
text_said (string s) = s
text_said d = []

abbrev pub index_said : Data → ℕ
index_said (number (unsigned n)) = n
index_said d = 0

abbrev pub flag_said : Data → Bool
flag_said (boolean b) = b
flag_said d = false

abbrev pub items_said : {A : Type 0} → (Data → A) → Items → List A
items_said read no_items = []
items_said read (item d ds) = read d ∷ items_said read ds

abbrev pub list_said : {A : Type 0} → (Data → A) → Data → List A
list_said read (array ds) = items_said read ds
list_said read d = []

pub items_back : {A B : Type 0} (read : Data → B) (form : A → Data) (shown : A → B) (fits : A → Bool) →
    ((x : A) → fits x ≡ true → read (form x) ≡ shown x) → (xs : List A) → list_all fits xs ≡ true →
    items_said read (items_of (map form xs)) ≡ map shown xs
items_back read form shown fits back [] h = refl
items_back read form shown fits back (x ∷ xs) h =
    ap₂ (λ y ys. y ∷ ys) (back x (first_so (fits x) _ h))
    (items_back read form shown fits back xs (second_so (fits x) _ h))

pub all_back : {A : Type 0} (read : Data → A) (form : A → Data) → ((x : A) → read (form x) ≡ x) → (xs : List A) →
    items_said read (items_of (map form xs)) ≡ xs
all_back read form back [] = refl
all_back read form back (x ∷ xs) = ap₂ (λ y ys. y ∷ ys) (back x) (all_back read form back xs)

pub shown_back : {A B : Type 0} (read : Data → B) (form : A → Data) (shown : A → B) →
    ((x : A) → read (form x) ≡ shown x) → (xs : List A) → items_said read (items_of (map form xs)) ≡ map shown xs
shown_back read form shown back [] = refl
shown_back read form shown back (x ∷ xs) = ap₂ (λ y ys. y ∷ ys) (back x) (shown_back read form shown back xs)
