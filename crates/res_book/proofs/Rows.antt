-- Declarations by number and by reference.
use Rattle.std.proofs.Common.{◌≡◌, ℕ, zero, suc, ◌<◌, Bool, true, false, cond, List, [], ◌∷◌, ◌++◌, length}
use Rattle.std.proofs.Common.{Option, None, Some, option_map, ◌⊎◌, inl, inr, refl, sym, ap, subst, ◌∙◌, arith}
use Rattle.std.specs.Prelude.{slice_get, slice_set}
use Rattle.pp_values.specs.References.{same_reference}
use Rattle.pp_values.specs.declared.reference.Reference.{Reference}
use Rattle.res_core.specs.declared.declared.Declared.{Declared}
use Rattle.res_book.specs.Rows.{reference_of, is_named, item_at, declared_as, number_of, AreApart, with_change}
use Rattle.res_book.specs.declared.row.Row.{Row}
use Rattle.res_book.proofs.References.{same, itself, turned}

-- ---- what a reference finds

later : (b : Bool) (o : Option ℕ) → cond b (Some 0) (option_map suc o) ≡ None → (b ≡ false) × (o ≡ None)
later true o e = absurd cc
later false None e = (refl, refl)
later false (Some n) e = absurd cc

-- a reference without a number is not declared
pub undeclared : (q : Reference) (rows : List Row) → number_of q rows ≡ None → declared_as q rows ≡ None
undeclared q [] e = refl
undeclared q (r ∷ rs) e =
    let parts = later (is_named q r) (number_of q rs) e in
    ap (λ b. cond b (Some r) (declared_as q rs)) parts.0 ∙ undeclared q rs parts.1

found_none : (b : Bool) (r : Row) (o : Option Row) → cond b (Some r) o ≡ None → (b ≡ false) × (o ≡ None)
found_none true r o e = absurd cc
found_none false r o e = (refl, e)

pub numberless : (q : Reference) (rows : List Row) → declared_as q rows ≡ None → number_of q rows ≡ None
numberless q [] e = refl
numberless q (r ∷ rs) e =
    let parts = found_none (is_named q r) r (declared_as q rs) e in
    ap (λ b. cond b (Some 0) (option_map suc (number_of q rs))) parts.0 ∙ ap (option_map suc) (numberless q rs parts.1)

there : (r : Row) (rs : List Row) (n : ℕ) (b : Bool) (o : Option ℕ) (rest : Option Row) →
    cond b (Some 0) (option_map suc o) ≡ Some n → ((m : ℕ) → o ≡ Some m → rest ≡ slice_get rs m) →
    cond b (Some r) rest ≡ slice_get (r ∷ rs) n
there r rs zero true o rest e behind = refl
there r rs (suc n) true o rest e behind = absurd cc
there r rs n false None rest e behind = absurd cc
there r rs zero false (Some m) rest e behind = absurd cc
there r rs (suc n) false (Some m) rest e behind =
    let is : m ≡ n = cc in
    behind m refl ∙ ap (slice_get rs) is

-- the declaration of a reference stands at its number
pub declared_at : (q : Reference) (rows : List Row) (n : ℕ) → number_of q rows ≡ Some n →
    declared_as q rows ≡ slice_get rows n
declared_at q [] n e = absurd cc
declared_at q (r ∷ rs) n e =
    there r rs n (is_named q r) (number_of q rs) (declared_as q rs) e (λ m. declared_at q rs m)

below : (n l : ℕ) (b : Bool) (o : Option ℕ) → cond b (Some 0) (option_map suc o) ≡ Some n →
    ((m : ℕ) → o ≡ Some m → m < l) → n < suc l
below zero l b o e behind = omega arith
below (suc n) l true o e behind = absurd cc
below (suc n) l false None e behind = absurd cc
below (suc n) l false (Some m) e behind =
    let is : m ≡ n = cc in
    let less : m < l = behind m refl in
    omega arith

-- a number that a reference has is that of a declaration
pub number_of-below : (q : Reference) (rows : List Row) (n : ℕ) → number_of q rows ≡ Some n → n < length rows
number_of-below q [] n e = absurd cc
number_of-below q (r ∷ rs) n e =
    below n (length rs) (is_named q r) (number_of q rs) e (λ m. number_of-below q rs m)

-- ---- one more declaration

moved : (b : Bool) (n : ℕ) (o : Option ℕ) →
    option_map suc (cond b (Some n) o) ≡ cond b (Some (suc n)) (option_map suc o)
moved true n o = refl
moved false n o = refl

first : (b c : Bool) (n : ℕ) (o : Option ℕ) → (c ≡ true → b ≡ false) →
    cond b (Some 0) (cond c (Some n) o) ≡ cond c (Some n) (cond b (Some 0) o)
first b true n o apart = ap (λ x. cond x (Some 0) (Some n)) (apart refl)
first b false n o apart = refl

-- A declaration with a new reference is the only one that its reference finds.
pub number_of-append : (q : Reference) (rows : List Row) (r : Row) →
    number_of (reference_of r.declared) rows ≡ None →
    number_of q (rows ++ r ∷ [])
    ≡ cond (same_reference (reference_of r.declared) q) (Some (length rows)) (number_of q rows)
number_of-append q [] r new = ap (λ b. cond b (Some 0) None) (turned q (reference_of r.declared))
number_of-append q (x ∷ xs) r new =
    let parts = later (is_named (reference_of r.declared) x) (number_of (reference_of r.declared) xs) new in
    ap (λ o. cond (is_named q x) (Some 0) (option_map suc o)) (number_of-append q xs r parts.1)
    ∙ ap (cond (is_named q x) (Some 0))
    (moved (same_reference (reference_of r.declared) q) (length xs) (number_of q xs))
    ∙ first (is_named q x) (same_reference (reference_of r.declared) q) (suc (length xs))
    (option_map suc (number_of q xs))
    (λ e. subst (λ p. is_named p x ≡ false) (same (reference_of r.declared) q e) parts.0)

-- what stands at a number after one more
pub item_at-append : (rows : List Row) (r : Row) (n : ℕ) (d : Declared) → item_at (rows ++ r ∷ []) n ≡ Some d →
    (item_at rows n ≡ Some d) ⊎ ((n ≡ length rows) × (r.declared ≡ d))
item_at-append [] r zero d e = inr (refl, cc)
item_at-append [] r (suc n) d e = absurd cc
item_at-append (x ∷ xs) r zero d e = inl e
item_at-append (x ∷ xs) r (suc n) d e =
    elim (item_at-append xs r n d e) [ inl old ↦ inl old | inr new ↦ inr (ap suc new.0, new.1) ]

old_stays : (q p : Reference) (rows : List Row) (n l : ℕ) (b : Bool) → same_reference q p ≡ b →
    number_of q rows ≡ None → number_of p rows ≡ Some n → cond b (Some l) (number_of p rows) ≡ Some n
old_stays q p rows n l true e new old =
    let both : number_of q rows ≡ Some n = ap (λ x. number_of x rows) (same q p e) ∙ old in
    absurd cc
old_stays q p rows n l false e new old = old

pub apart-append : (rows : List Row) (r : Row) → number_of (reference_of r.declared) rows ≡ None → AreApart rows →
    AreApart (rows ++ r ∷ [])
apart-append rows r new apart = record {
  found = λ n d at.
      number_of-append (reference_of d) rows r new
      ∙ (elim (item_at-append rows r n d at) [
        | inl old ↦ old_stays (reference_of r.declared) (reference_of d) rows n (length rows)
            (same_reference (reference_of r.declared) (reference_of d)) refl new (apart.found n d old)
        | inr last ↦
            ap (λ x. cond (same_reference (reference_of r.declared) (reference_of x)) (Some (length rows))
            (number_of (reference_of x) rows)) (sym last.1)
            ∙ ap (λ b. cond b (Some (length rows)) (number_of (reference_of r.declared) rows)) (itself (reference_of r.declared))
            ∙ ap (λ m. Some m) (sym last.0)
      ]);
}

-- ---- a declaration that changes, and stays the same resource

abbrev pub KeepsItem : (Row → Row) → Type 0
KeepsItem change = (r : Row) → (change r).declared ≡ r.declared

-- the code's own change is the one that is meant
pub set_changed : (change : Row → Row) (rows : List Row) (n : ℕ) (r : Row) → slice_get rows n ≡ Some r →
    slice_set rows n (change r) ≡ with_change change n rows
set_changed change [] n r at = refl
set_changed change (x ∷ xs) zero r at =
    let is : x ≡ r = cc in
    ap (λ y. change y ∷ xs) (sym is)
set_changed change (x ∷ xs) (suc n) r at = ap (λ ys. x ∷ ys) (set_changed change xs n r at)

pub number_of-change : (change : Row → Row) → KeepsItem change → (q : Reference) (n : ℕ) (rows : List Row) →
    number_of q (with_change change n rows) ≡ number_of q rows
number_of-change change keeps q n [] = refl
number_of-change change keeps q zero (r ∷ rs) =
    ap (λ d. cond (same_reference q (reference_of d)) (Some 0) (option_map suc (number_of q rs))) (keeps r)
number_of-change change keeps q (suc n) (r ∷ rs) =
    ap (λ o. cond (is_named q r) (Some 0) (option_map suc o)) (number_of-change change keeps q n rs)

pub item_at-change : (change : Row → Row) → KeepsItem change → (m n : ℕ) (rows : List Row) →
    item_at (with_change change n rows) m ≡ item_at rows m
item_at-change change keeps m n [] = refl
item_at-change change keeps zero zero (r ∷ rs) = ap (λ d. Some d) (keeps r)
item_at-change change keeps (suc m) zero (r ∷ rs) = refl
item_at-change change keeps zero (suc n) (r ∷ rs) = refl
item_at-change change keeps (suc m) (suc n) (r ∷ rs) = item_at-change change keeps m n rs

pub length-change : (change : Row → Row) (n : ℕ) (rows : List Row) → length (with_change change n rows) ≡ length rows
length-change change n [] = refl
length-change change zero (r ∷ rs) = refl
length-change change (suc n) (r ∷ rs) = ap suc (length-change change n rs)

pub apart-change : (change : Row → Row) → KeepsItem change → (n : ℕ) (rows : List Row) → AreApart rows →
    AreApart (with_change change n rows)
apart-change change keeps n rows apart = record {
  found = λ m d at.
      number_of-change change keeps (reference_of d) n rows
      ∙ apart.found m d (sym (item_at-change change keeps m n rows) ∙ at);
}
