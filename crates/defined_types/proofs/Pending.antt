-- The pending instances, from one to the next.
use Rattle.std.proofs.Common.{◌≡◌, ℕ, zero, suc, ◌+◌, ◌-◌, ◌<◌, ◌≤◌, Bool, true, false, cond, List, [], ◌∷◌, ◌++◌}
use Rattle.std.proofs.Common.{length, filter, Option, None, Some, refl, sym, ap, ◌∙◌, arith, append_assoc}
use Rattle.std.proofs.lemmas.List.{append-nil}
use Rattle.std.specs.Prelude.{find}
use Rattle.std.specs.List.{range_with_len}
use Rattle.res_book.specs.Rows.{is_pending_at, pending_from, pending_after, next_number}
use Rattle.res_book.specs.declared.row.Row.{Row}
use Rattle.defined_types.specs.Rounds.{pending}

-- those from a number on
abbrev pub behind : List Row → ℕ → List ℕ
behind rows from = filter (is_pending_at rows) (range_with_len from (length rows - from))

-- what a search finds first among numbers that follow one another
record First (p : ℕ → Bool) (from len n : ℕ) : Type 0 where
  not_before : from ≤ n
  within : n < from + len
  rest : filter p (range_with_len from len) ≡ n ∷ filter p (range_with_len (n + 1) (from + len - (n + 1)))

later : (p : ℕ → Bool) (from len n : ℕ) (b : Bool) → p from ≡ b →
    (find p (range_with_len (from + 1) len) ≡ Some n → First p (from + 1) len n) →
    find p (range_with_len from (suc len)) ≡ Some n → First p from (suc len) n
later p from len n true here further found =
    let told : Some from ≡ Some n =
    sym (ap (λ c. cond c (Some from) (find p (range_with_len (from + 1) len))) here) ∙ found in
    let at : from ≡ n = cc in
    let left : len ≡ from + suc len - (n + 1) = omega (arith, at) in
    record {
      not_before = omega (arith, at);
      within = omega (arith, at);
      rest = ap
          (λ c. cond c (from ∷ filter p (range_with_len (from + 1) len)) (filter p (range_with_len (from + 1) len)))
          here
          ∙ ap (λ k. from ∷ filter p (range_with_len (from + 1) k)) left
          ∙ ap (λ m. m ∷ filter p (range_with_len (m + 1) (from + suc len - (n + 1)))) at;
    }
later p from len n false here further found =
    let first = further (sym (ap (λ c. cond c (Some from) (find p (range_with_len (from + 1) len))) here) ∙ found) in
    let left : from + 1 + len - (n + 1) ≡ from + suc len - (n + 1) = omega arith in
    record {
      not_before = omega (arith, first.not_before);
      within = omega (arith, first.within);
      rest = ap
          (λ c. cond c (from ∷ filter p (range_with_len (from + 1) len)) (filter p (range_with_len (from + 1) len)))
          here
          ∙ first.rest
          ∙ ap (λ k. n ∷ filter p (range_with_len (n + 1) k)) left;
    }

first_found : (p : ℕ → Bool) (from len n : ℕ) → find p (range_with_len from len) ≡ Some n → First p from len n
first_found p from zero n found = absurd cc
first_found p from (suc len) n found = later p from len n (p from) refl (first_found p (from + 1) len n) found

none_later : {X : Type 0} (p : X → Bool) (x : X) (xs : List X) (b : Bool) → p x ≡ b →
    (find p xs ≡ None → filter p xs ≡ []) → find p (x ∷ xs) ≡ None → filter p (x ∷ xs) ≡ []
none_later p x xs true here further none =
    let told : Some x ≡ None = sym (ap (λ c. cond c (Some x) (find p xs)) here) ∙ none in absurd cc
none_later p x xs false here further none =
    ap (λ c. cond c (x ∷ filter p xs) (filter p xs)) here
    ∙ further (sym (ap (λ c. cond c (Some x) (find p xs)) here) ∙ none)

none_found : {X : Type 0} (p : X → Bool) (xs : List X) → find p xs ≡ None → filter p xs ≡ []
none_found p [] none = refl
none_found p (x ∷ xs) none = none_later p x xs (p x) refl (none_found p xs) none

one_from : (rows : List Row) (from n : ℕ) → pending_from rows from ≡ Some n → behind rows from ≡ n ∷ behind rows (n + 1)
one_from rows from n found =
    let first = first_found (is_pending_at rows) from (length rows - from) n found in
    let left : from + (length rows - from) - (n + 1) ≡ length rows - (n + 1) =
    omega (arith, first.within, first.not_before) in
    first.rest ∙ ap (λ k. n ∷ filter (is_pending_at rows) (range_with_len (n + 1) k)) left

pub one_more : (rows : List Row) (found new : List ℕ) (after : Option ℕ) (n : ℕ) →
    pending rows ≡ found ++ behind rows (next_number after) → pending_after rows after ≡ Some n →
    new ≡ found ++ n ∷ [] →
    pending rows ≡ new ++ behind rows (n + 1)
one_more rows found new after n so_far next added =
    so_far ∙ ap (λ l. found ++ l) (one_from rows (next_number after) n next)
    ∙ sym (append_assoc found (n ∷ []) (behind rows (n + 1)))
    ∙ ap (λ l. l ++ behind rows (n + 1)) (sym added)

pub closer : (rows : List Row) (after : Option ℕ) (n : ℕ) → pending_after rows after ≡ Some n →
    length rows - (n + 1) < length rows - next_number after
closer rows after n next =
    let from = next_number after in
    let first = first_found (is_pending_at rows) from (length rows - from) n next in
    omega (arith, first.within, first.not_before)

pub no_more : (rows : List Row) (found : List ℕ) (after : Option ℕ) →
    pending rows ≡ found ++ behind rows (next_number after) → pending_after rows after ≡ None → found ≡ pending rows
no_more rows found after so_far none =
    let from = next_number after in
    sym (so_far ∙ ap (λ l. found ++ l) (none_found (is_pending_at rows) (range_with_len from (length rows - from)) none)
    ∙ append-nil found)
