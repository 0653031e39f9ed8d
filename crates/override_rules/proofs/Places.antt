-- Where the lines on a resource stand.
use Rattle.std.proofs.Common.{◌≡◌, ℕ, suc, ◌≤◌, Bool, true, false, cond, if◌then◌else◌, List, [], ◌∷◌, ◌++◌, length, map, filter, refl, sym, ap, ◌∙◌, arith, append_assoc}
use Rattle.std.proofs.lemmas.List.{map-append, length-map, append-nil}
use Rattle.std.specs.Prelude.{option_to_list, slice_get}
use Rattle.pp_values.specs.References.{same_reference, same_reference_equiv}
use Rattle.pp_values.specs.declared.reference.Reference.{Reference}
use Rattle.override_rules.specs.Lines.{Line, line_of, lines_of, is_on, lines_on}
use Rattle.override_rules.specs.Numbers.{Table, numbers_at, Adds, places, Finds, lines_at}
use Rattle.override_rules.specs.declared.override_line.OverrideLine.{OverrideLine}

next_place : (b : Bool) (n : ℕ) → map suc (if b then n ∷ [] else []) ≡ (if b then suc n ∷ [] else [])
next_place true n = refl
next_place false n = refl

places-append : (r : Reference) (ls : List Line) (l : Line) →
    places r (ls ++ l ∷ []) ≡ places r ls ++ (if is_on r l then length ls ∷ [] else [])
unfolding places
places-append r [] l = append-nil (if is_on r l then 0 ∷ [] else [])
places-append r (x ∷ xs) l =
    let first : List ℕ = if is_on r x then 0 ∷ [] else [] in
    ap (λ ns. first ++ map suc ns) (places-append r xs l)
    ∙ ap (λ ns. first ++ ns) (map-append suc (places r xs) (if is_on r l then length xs ∷ [] else [])
    ∙ ap (λ t. map suc (places r xs) ++ t) (next_place (is_on r l) (length xs)))
    ∙ sym (append_assoc first (map suc (places r xs)) (if is_on r l then suc (length xs) ∷ [] else []))

if_more : (b : Bool) (xs : List ℕ) (x : ℕ) → (if b then xs ++ x ∷ [] else xs) ≡ xs ++ (if b then x ∷ [] else [])
if_more true xs x = refl
if_more false xs x = sym (append-nil xs)

-- the table after one more line
pub finds_more : (m n : Table) (items : List OverrideLine) (l : OverrideLine) (x : ℕ) (k : Reference) → k ≡ l.target →
    x ≡ length items → Adds k x m n → Finds m (lines_of items) → Finds n (lines_of (items ++ l ∷ []))
finds_more m n items l x k named last adds held = λ r.
    adds r
    ∙ if_more (same_reference k r) (numbers_at m r) x
    ∙ ap (λ b. numbers_at m r ++ (if b then x ∷ [] else []))
    (same_reference_equiv.symm k r ∙ ap (same_reference r) named)
    ∙ ap (λ ns. ns ++ (if is_on r (line_of l) then x ∷ [] else [])) (held r)
    ∙ ap (λ i. places r (lines_of items) ++ (if is_on r (line_of l) then i ∷ [] else []))
    (last ∙ sym (length-map items line_of))
    ∙ sym (places-append r (lines_of items) (line_of l))
    ∙ ap (places r) (sym (map-append line_of items (l ∷ [])))

-- ---- the lines at places

pub lines_at-append : (ls : List Line) (a b : List ℕ) → lines_at ls (a ++ b) ≡ lines_at ls a ++ lines_at ls b
unfolding lines_at
lines_at-append ls [] b = refl
lines_at-append ls (n ∷ ns) b =
    ap (λ t. option_to_list (slice_get ls n) ++ t) (lines_at-append ls ns b)
    ∙ sym (append_assoc (option_to_list (slice_get ls n)) (lines_at ls ns) (lines_at ls b))

pub lines_at-once : (ls : List Line) (n : ℕ) → lines_at ls (n ∷ []) ≡ option_to_list (slice_get ls n)
unfolding lines_at
lines_at-once ls n = append-nil (option_to_list (slice_get ls n))

pub lines_at-none : (ls : List Line) → lines_at ls [] ≡ []
unfolding lines_at
lines_at-none ls = refl

lines_at-later : (x : Line) (xs : List Line) (ns : List ℕ) → lines_at (x ∷ xs) (map suc ns) ≡ lines_at xs ns
unfolding lines_at
lines_at-later x xs [] = refl
lines_at-later x xs (n ∷ ns) = ap (λ t. option_to_list (slice_get xs n) ++ t) (lines_at-later x xs ns)

first_line : (b : Bool) (l : Line) (ls rest : List Line) →
    lines_at (l ∷ ls) (if b then 0 ∷ [] else []) ++ rest ≡ cond b (l ∷ rest) rest
unfolding lines_at
first_line true l ls rest = refl
first_line false l ls rest = refl

pub lines_at-places : (r : Reference) (ls : List Line) → lines_at ls (places r ls) ≡ lines_on r ls
unfolding lines_at places
lines_at-places r [] = refl
lines_at-places r (l ∷ ls) =
    lines_at-append (l ∷ ls) (if is_on r l then 0 ∷ [] else []) (map suc (places r ls))
    ∙ ap (λ t. lines_at (l ∷ ls) (if is_on r l then 0 ∷ [] else []) ++ t)
    (lines_at-later l ls (places r ls) ∙ lines_at-places r ls)
    ∙ first_line (is_on r l) l ls (lines_on r ls)

pub length-places : (r : Reference) (ls : List Line) → length (places r ls) ≡ length (lines_on r ls)
unfolding places
length-places r [] = refl
length-places r (l ∷ ls) =
    let more = length-map (places r ls) suc ∙ length-places r ls in
    elim (is_on r l) as (λ b. length ((if b then 0 ∷ [] else []) ++ map suc (places r ls))
    ≡ length (cond b (l ∷ lines_on r ls) (lines_on r ls)))
    [ true ↦ ap suc more | false ↦ more ]

pub length-filter-le : {X : Type 0} (p : X → Bool) (xs : List X) → length (filter p xs) ≤ length xs
length-filter-le p [] = omega arith
length-filter-le p (x ∷ xs) =
    let more : length (filter p xs) ≤ length xs = length-filter-le p xs in
    elim (p x) as (λ b. length (cond b (x ∷ filter p xs) (filter p xs)) ≤ suc (length xs))
    [ true ↦ omega arith | false ↦ omega arith ]
