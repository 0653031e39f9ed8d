-- Own entries and longer fronts, seen as events.
use Rattle.std.proofs.Common.{◌≡◌, ℕ, zero, suc, ◌+◌, ◌-◌, ◌≤◌, ◌<◌, List, [], ◌∷◌, map, length, Option, Some, None, refl, sym, ap, ◌∙◌, arith}
use Rattle.std.specs.Prelude.{slice_get}
use mathlib.Core.Logic.{dite}
use native.Mathlib.Decide.{ℕ_discrete, dec_le}
use Rattle.list_sums.specs.Counts.{times, same}
use Rattle.list_sums.proofs.Marks.{same_yes, same_no}
use Rattle.hist_lock.specs.Calls.{stands, wrote, has_author, AreCalls, IsLonger}
use Rattle.site_core.specs.Events.{Event, author_of}
use Rattle.shared_site.specs.Shows.{Terms, Shown, counted_from, own_author, mark, shown, told, events_in, terms_in, author_shown}
use Rattle.shared_site.proofs.Shown.{length_events, events_prefix, same_terms}
use Rattle.shared_site.proofs.Parted.{counted_own, counted_none}

same_moved : (base author x : ℕ) → base ≤ author → same (author - base) x ≡ same author (base + x)
same_moved base author x low = dite (ℕ_discrete author (base + x))
    (λ is. same_yes (author - base) x (omega (arith, is)) ∙ sym (same_yes author (base + x) is))
    (λ apart. same_no (author - base) x (λ is. apart (omega (arith, is, low))) ∙ sym (same_no author (base + x) apart))

times_moved : (base author : ℕ) (numbers : List ℕ) → base ≤ author →
    times (author - base) numbers ≡ times author (map (λ n. base + n) numbers)
times_moved base author [] low = refl
times_moved base author (x ∷ numbers) low =
    let here = same_moved base author x low in let rest = times_moved base author numbers low in
    omega (arith, here, rest)

times_below : (base author : ℕ) (numbers : List ℕ) → author < base → times author (map (λ n. base + n) numbers) ≡ 0
times_below base author [] earlier = refl
times_below base author (x ∷ numbers) earlier =
    let here = same_no author (base + x) (λ is. absurd (omega (arith, is, earlier))) in
    let rest = times_below base author numbers earlier in omega (arith, here, rest)

-- an author stands among own ones as it does among the numbers that these have in entries
stands_moved : (base : ℕ) (numbers : List ℕ) (author : Option ℕ) →
    stands numbers (counted_from base author) ≡ stands (map (λ n. base + n) numbers) author
stands_moved base numbers None = refl
stands_moved base numbers (Some author) = dite (dec_le base author)
    (λ own. ap (stands numbers) (counted_own base author own) ∙ times_moved base author numbers own)
    (λ other. let earlier : author < base = omega (arith, other) in
    ap (stands numbers) (counted_none base author earlier) ∙ sym (times_below base author numbers earlier))

-- the first number of a pass is its own
pub first_moved : (base author : ℕ) (numbers : List ℕ) → slice_get numbers 0 ≡ Some author →
    slice_get (map (λ n. base + n) numbers) 0 ≡ Some (base + author)
first_moved base author [] at = absurd cc
first_moved base author (x ∷ numbers) at = let is : x ≡ author = cc in ap (λ n. Some (base + n)) is

module _ {S : Type 0} where
  pub authored : (terms : Terms) (h : List (Event S)) (k : ℕ) →
      has_author author_shown (slice_get (map (mark terms) h) k)
      ≡ has_author (own_author terms.base) (slice_get h k)
  authored terms [] k = refl
  authored terms (e ∷ h) zero = refl
  authored terms (e ∷ h) (suc k) = authored terms h k

  written : (terms : Terms) (numbers : List ℕ) (h : List (Event S)) (k : ℕ) →
      wrote author_shown numbers (slice_get (map (mark terms) h) k)
      ≡ wrote author_of (map (λ n. terms.base + n) numbers) (slice_get h k)
  written terms numbers [] k = refl
  written terms numbers (e ∷ h) zero = stands_moved terms.base numbers (author_of e)
  written terms numbers (e ∷ h) (suc k) = written terms numbers h k

  pub own_events : (calls numbers : List ℕ) (front : List (Shown S)) → front ≡ shown (told front) →
      AreCalls author_shown calls numbers front →
      AreCalls author_of calls (map (λ n. (terms_in front).base + n) numbers) (events_in front)
  own_events calls numbers front is are k =
      are k ∙ ap (λ f. wrote author_shown numbers (slice_get f k)) is
      ∙ written (terms_in front) numbers (events_in front) k

  pub events_longer : (xs ys now : List (Shown S)) → IsLonger xs ys now →
      IsLonger (events_in xs) (events_in ys) (events_in now)
  events_longer xs ys now (first, second) = (
    (λ le. let w = first (omega (arith, le, length_events xs, length_events ys)) in
        (ap events_in w.0, events_prefix ys xs w.1)),
    (λ lt. let w = second (omega (arith, lt, length_events xs, length_events ys)) in
        (ap events_in w.0, events_prefix xs ys w.1)),
  )

  -- of two fronts of one site the longer one tells the terms of both
  pub longer_terms : (xs ys now : List (Shown S)) → 1 ≤ length (events_in xs) → 1 ≤ length (events_in ys) →
      IsLonger xs ys now → (terms_in now ≡ terms_in xs) × (terms_in now ≡ terms_in ys)
  longer_terms xs ys now some other (first, second) = dite (dec_le (length ys) (length xs))
      (λ le. let w = first le in (ap terms_in w.0, ap terms_in w.0 ∙ sym (same_terms ys xs other w.1)))
      (λ not_le. let w = second (omega (arith, not_le)) in
      (ap terms_in w.0 ∙ sym (same_terms xs ys some w.1), ap terms_in w.0))
