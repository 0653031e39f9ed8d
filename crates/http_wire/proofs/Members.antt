-- `close` among the members of a list, one member after another.
use Rattle.std.proofs.Common.{◌≡◌, ℕ, ◌+◌, ◌-◌, ◌<◌, ◌≤◌, Bool, true, false, ◌||◌, List, length, take, drop, refl, ap, ◌∙◌, arith}
use Rattle.std.specs.List.{list_any, position_or_len}
use Rattle.std.proofs.lemmas.List.{take_rest}
use Rattle.std.proofs.lemmas.List.Splits.{slice_split_first, slice_split_none}
use Rattle.std.proofs.lemmas.List.Sums.{fails_before_first}
use Rattle.http_wire.specs.Fields.{is_comma, is_close, has_close}

or_false : (b : Bool) → (b || false) ≡ b
or_false true = refl
or_false false = refl

-- where the list begins with this member
first_then_rest : (xs : List ℕ) (at : ℕ) → at ≡ position_or_len is_comma xs → at < length xs
    → has_close xs ≡ (is_close (take at xs) || has_close (drop (at + 1) xs))
first_then_rest xs at place within = rw (place) (ap (list_any is_close) (slice_split_first is_comma xs 0 (omega arith)))

last_alone : (xs : List ℕ) → length xs ≤ position_or_len is_comma xs → has_close xs ≡ is_close xs
last_alone xs past =
    ap (list_any is_close) (slice_split_none is_comma xs (λ k d l. fails_before_first is_comma xs k d (omega arith))) ∙ or_false (is_close xs)

pub closes_at_once : (xs : List ℕ) (next : ℕ) → next ≡ position_or_len is_comma xs + 1 → next ≤ length xs → is_close (take (next - 1) xs) ≡ true
    → has_close xs ≡ true
closes_at_once xs next place within close =
    rw (first_then_rest xs (next - 1) (omega arith) (omega arith), close) refl

pub goes_on : (xs : List ℕ) (next : ℕ) → next ≡ position_or_len is_comma xs + 1 → next ≤ length xs → is_close (take (next - 1) xs) ≡ false
    → has_close (take (length xs - next) (drop next xs)) ≡ has_close xs
goes_on xs next place within other =
    let behind : next - 1 + 1 ≡ next = omega arith in
    rw (take_rest xs next, first_then_rest xs (next - 1) (omega arith) (omega arith), other, behind) refl

pub at_last : (xs : List ℕ) → length xs ≤ position_or_len is_comma xs → has_close xs ≡ is_close xs
at_last xs past = last_alone xs past
