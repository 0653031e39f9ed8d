-- Which entries have own authors, when a history is opened, grows and is closed.
use Rattle.std.proofs.Common.{◌≡◌, ℕ, zero, suc, ◌+◌, ◌-◌, ◌<◌, ◌≤◌, List, [], ◌∷◌, ◌++◌, length, Option, Some, None, ⊎_elim, refl, sym, ap, subst, ◌∙◌, arith, length-append, lt-ltb, le-ltb}
use Rattle.std.specs.Prelude.{slice_get, cond}
use Rattle.std.specs.List.{All}
use Rattle.std.proofs.lemmas.List.Elements.{All-nil, All-cons}
use mathlib.Core.Logic.{dite}
use native.Mathlib.Decide.{ℕ_discrete, dec_le}
use Rattle.list_sums.specs.Counts.{below, times}
use Rattle.list_sums.proofs.Marks.{below_is, below_yes, below_no}
use Rattle.hist_lock.specs.Calls.{has_author, count_author}
use Rattle.hist_lock.proofs.Fronts.{at_append, at_end}
use Rattle.site_core.specs.Events.{Event, opens, author_of}
use Rattle.site_core.specs.Core.{Core}
use Rattle.site_core.specs.Resuming.{past_author, base_of}
use Rattle.shared_site.specs.Known.{AreTheOthers}
use Rattle.shared_site.specs.Shows.{Terms, Shared, counted_from, resumed, own_author, IsParted, IsNew}

-- an earlier author is no own one, and an author from base on is
pub counted_none : (base author : ℕ) → author < base → counted_from base (Some author) ≡ None
counted_none base author earlier = ap (λ b. cond b None (Some (author - base))) (lt-ltb author base earlier)

pub counted_own : (base author : ℕ) → base ≤ author → counted_from base (Some author) ≡ Some (author - base)
counted_own base author low = ap (λ b. cond b None (Some (author - base))) (le-ltb author base low)

none_own : (base : ℕ) (author : Option ℕ) → past_author author ≤ base → counted_from base author ≡ None
none_own base None low = refl
none_own base (Some author) low = counted_none base author (omega (arith, low))

module _ {S : Type 0} where
  past_end : (h : List (Event S)) (place : ℕ) → length h ≤ place → slice_get h place ≡ None
  past_end [] place past = refl
  past_end (e ∷ h) zero past = absurd (omega (arith, past))
  past_end (e ∷ h) (suc place) past = past_end h place (omega (arith, past))

  -- no fewer entries stand there than were given
  pub given_within : (terms : Terms) (h : List (Event S)) → IsParted terms h → terms.given ≤ length h
  given_within terms h parted =
      ⊎_elim (λ t. let none = below_no (length h) (length h) (omega arith) in
      let here = parted (length h) in absurd (omega (arith, none, here, t.1)))
      (λ t. t.0) (below_is terms.given (length h))

  pub opened_parted : (site : S) (terms : Terms) → terms.given ≡ 1 → IsParted terms (opens site ∷ [])
  opened_parted site terms one zero =
      let first = below_yes terms.given 0 (omega (arith, one)) in
      let there = below_yes 1 0 (omega arith) in omega (arith, first, there)
  opened_parted site terms one (suc place) =
      let first = below_no terms.given (suc place) (omega (arith, one)) in
      let there = below_no 1 (suc place) (omega arith) in omega (arith, first, there)

  -- in a history that is gone on with no own author has an entry
  resumed_new : (h : List (Event S)) (base : ℕ) → base_of h ≤ base → All (λ e. own_author base e ≡ None) h
  resumed_new [] base low = All-nil (λ e. own_author base e ≡ None)
  resumed_new (e ∷ h) base low =
      All-cons (λ e. own_author base e ≡ None) e h (none_own base (author_of e) (omega (arith, low)))
      (resumed_new h base (omega (arith, low)))

  given_alone : (h : List (Event S)) (base place : ℕ) → base_of h ≤ base →
      has_author (own_author base) (slice_get h place) ≡ 0
  given_alone [] base place low = refl
  given_alone (e ∷ h) base zero low = ap count_author (none_own base (author_of e) (omega (arith, low)))
  given_alone (e ∷ h) base (suc place) low = given_alone h base place (omega (arith, low))

  resumed_parted : (h : List (Event S)) (limit : ℕ) → IsParted (resumed h limit).terms h
  resumed_parted h limit place = let none = given_alone h (base_of h) place (omega arith) in omega (arith, none)

  -- what is resumed with the base and the number of entries that were counted
  pub resumed_is : (h : List (Event S)) (limit : ℕ) (core : Core S) (base given : ℕ) →
      core ≡ record { history = h; limit = limit } → base ≡ base_of h → given ≡ length h →
      ◌≡◌ {A = Shared S} (record {
        history = core.history;
        terms = record { limit = core.limit; base = base; given = given };
      }) (resumed h limit)
  resumed_is h limit core base given core_is base_is given_is i = record {
    history = (core_is i).history;
    terms = record { limit = (core_is i).limit; base = base_is i; given = given_is i };
  }

  pub resumed_kept : (h : List (Event S)) (limit : ℕ) (s : Shared S) → s ≡ resumed h limit →
      IsParted s.terms s.history × IsNew s
  resumed_kept h limit s is = (
    subst (λ (x : Shared S). IsParted x.terms x.history) (sym is) (resumed_parted h limit),
    subst IsNew (sym is) (resumed_new h (base_of h) (omega arith)),
  )

  -- one more entry of an own author
  pub parted_push : (terms : Terms) (h : List (Event S)) (e : Event S) (author : ℕ) → IsParted terms h →
      author_of e ≡ Some author → terms.base ≤ author → IsParted terms (h ++ e ∷ [])
  parted_push terms h e author parted by low place =
      let long : length (h ++ e ∷ []) ≡ length h + 1 = length-append h (e ∷ []) in
      let all : below (length (h ++ e ∷ [])) place ≡ below (length h + 1) place = ap (λ n. below n place) long in
      dite (ℕ_discrete place (length h))
      (λ is. let mine : has_author (own_author terms.base) (slice_get (h ++ e ∷ []) place) ≡ 1 =
      ap (has_author (own_author terms.base)) (at_end h e place is)
      ∙ ap (λ a. count_author (counted_from terms.base a)) by
      ∙ ap count_author (counted_own terms.base author low) in
      let behind = below_no terms.given place (omega (arith, is, given_within terms h parted)) in
      let inside = below_yes (length h + 1) place (omega (arith, is)) in
      omega (arith, mine, behind, inside, all))
      (λ apart. let old = parted place in
      dite (dec_le (length h) place)
      (λ past. let none : has_author (own_author terms.base) (slice_get (h ++ e ∷ []) place) ≡ 0 =
      ap (has_author (own_author terms.base)) (past_end (h ++ e ∷ []) place (omega (arith, past, apart, long))) in
      let behind = below_no terms.given place (omega (arith, past, given_within terms h parted)) in
      let outside = below_no (length h + 1) place (omega (arith, past, apart)) in
      omega (arith, none, behind, outside, all))
      (λ not_past. let inside : place < length h = omega (arith, not_past) in
      let same : has_author (own_author terms.base) (slice_get (h ++ e ∷ []) place)
      ≡ has_author (own_author terms.base) (slice_get h place) =
      ap (has_author (own_author terms.base)) (at_append h (e ∷ []) place inside) in
      let now = below_yes (length h + 1) place (omega (arith, inside)) in
      let was = below_yes (length h) place inside in
      omega (arith, same, old, now, was, all)))

  -- at the end an entry is one of those that were given or one of these calls
  pub others_closed : (was : Terms) (terms : Terms) (h : List (Event S)) (calls : List ℕ) → was ≡ terms →
      IsParted terms h → ((place : ℕ) → times place calls ≡ has_author (own_author terms.base) (slice_get h place)) →
      AreTheOthers was.given calls h
  others_closed was terms h calls is parted all place =
      let same : below was.given place ≡ below terms.given place = ap (λ t. below t.given place) is in
      let here = all place in let one = parted place in omega (arith, same, here, one)
