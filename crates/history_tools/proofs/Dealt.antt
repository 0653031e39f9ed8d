-- Requests that were dealt to authors: each of them has a reply that fits.
use Rattle.std.proofs.Common.{◌≡◌, ℕ, zero, suc, ◌+◌, ◌<◌, ◌≤◌, ⊎_elim, List, [], ◌∷◌, length, slice_get, Option, Some, None, refl, sym, ap, ◌∙◌, subst, arith}
use Rattle.std.specs.List.{AllZip, cons_option}
use Rattle.std.specs.Prelude.{is_some}
use mathlib.Core.Logic.{dite}
use native.Mathlib.Decide.{dec_le}
use Rattle.list_sums.specs.Counts.{total, times, below}
use Rattle.list_sums.proofs.Marks.{same_yes, below_yes, below_lt}
use Rattle.site_core.specs.Asked.{Asked, compile, plain}
use Rattle.site_core.specs.Each.{Each}
use Rattle.site_core.specs.Events.{Event}
use Rattle.site_core.specs.Fits.{Listed, FitsSaid, Fits, had, had_said}
use Rattle.site_core.specs.Meaning.{Meaning}
use Rattle.site_core.specs.Runs.{Hand, is_hand_of, times_in, picked, Runs, EachRuns, Continues}
use Rattle.site_core.specs.Said as t
use Rattle.site_core.specs.Said.{Said, said}
use Rattle.site_core.specs.declared.reply.ReplyOf.{ReplyOf}
use Rattle.site_core.proofs.Fitting.{fits_less}
use Rattle.history_tools.proofs.Sums.{same_is}

module _ {A B : Type 0} where
  -- of two lists of one length both have something in a place, or neither has
  alike_at : (xs : List A) (ys : List B) (i : ℕ) → length xs ≡ length ys →
      is_some (slice_get xs i) ≡ is_some (slice_get ys i)
  alike_at [] [] i count = refl
  alike_at [] (y ∷ ys) i count = absurd (omega (arith, count))
  alike_at (x ∷ xs) [] i count = absurd (omega (arith, count))
  alike_at (x ∷ xs) (y ∷ ys) zero count = refl
  alike_at (x ∷ xs) (y ∷ ys) (suc i) count = alike_at xs ys i (omega (arith, count))

  -- what holds in each place holds of two lists
  zip_at : (P : A → B → Type 0) (xs : List A) (ys : List B) → length ys ≡ length xs →
      ((i : ℕ) (x : A) (y : B) → i < length xs → slice_get xs i ≡ Some x → slice_get ys i ≡ Some y → P x y) →
      AllZip P xs ys
  zip_at P [] [] count each = tt
  zip_at P [] (y ∷ ys) count each = absurd (omega (arith, count))
  zip_at P (x ∷ xs) [] count each = absurd (omega (arith, count))
  zip_at P (x ∷ xs) (y ∷ ys) count each = (
    each 0 x y (omega arith) refl refl,
    zip_at P xs ys (omega (arith, count)) (λ i u v inside at_x at_y. each (suc i) u v (omega (arith, inside)) at_x
        at_y),
  )

module _ {S C F : Type 0} (meaning : Meaning S C F) (listed : Listed S) (h : List (Event S)) (limit : ℕ) where
  said_rises : (author s : ℕ) (asked : Asked S) (told : Said C F) → s ≤ length h →
      FitsSaid meaning listed h limit author s asked told → (s ≤ had_said s told) × (had_said s told ≤ length h)
  said_rises author s (compile w) (t.served entry k catalog) few fits =
      (omega (arith, fits.0.had, fits.1.later), omega (arith, fits.1.inside))
  said_rises author s (compile w) (t.refused k fault) few fits = (fits.0.had, fits.0.high)
  said_rises author s (compile w) (t.unknown k) few fits = (fits.0.had, fits.0.high)
  said_rises author s (compile w) (t.ahead n) few fits = (fits.0, fits.1)
  said_rises author s (compile w) (t.full n) few fits =
      (omega (arith, few, fits.0, fits.1), omega (arith, fits.0, fits.1))
  said_rises author s (compile w) (t.added which entry) few fits = absurd fits
  said_rises author s (compile w) t.short few fits = (omega arith, few)
  said_rises author s (plain what) (t.served entry k catalog) few fits = absurd fits
  said_rises author s (plain what) (t.refused k fault) few fits = absurd fits
  said_rises author s (plain what) (t.unknown k) few fits = absurd fits
  said_rises author s (plain what) (t.ahead n) few fits = absurd fits
  said_rises author s (plain what) (t.full n) few fits =
      (omega (arith, few, fits.0, fits.1), omega (arith, fits.0, fits.1))
  said_rises author s (plain what) (t.added which entry) few fits =
      (omega (arith, fits.1), omega (arith, fits.2.inside))
  said_rises author s (plain what) t.short few fits = (omega arith, few)

  -- whoever got a reply that fits has seen no fewer entries than before
  had_rises : (author s : ℕ) (asked : Asked S) (reply : ReplyOf C F) → s ≤ length h →
      Fits meaning listed h limit author s asked reply → (s ≤ had s reply) × (had s reply ≤ length h)
  had_rises author s asked reply few fits = said_rises author s asked (said reply) few fits

  -- where a run goes on to, and the fit of what it passes
  record Passes (author s low : ℕ) (asked : Option (Asked S)) (reply : Option (ReplyOf C F)) (requests : List (Asked S))
      (replies : List (ReplyOf C F)) : Type 0 where
    pub next : ℕ
    pub rises : s ≤ next
    pub few : next ≤ length h
    pub runs : Runs meaning listed h limit author next requests replies
    pub fit : (q : Asked S) (r : ReplyOf C F) → asked ≡ Some q → reply ≡ Some r →
        Fits meaning listed h limit author low q r

  pass_one : (author s low : ℕ) (asked : Option (Asked S)) (reply : Option (ReplyOf C F)) (requests : List (Asked S))
      (replies : List (ReplyOf C F)) → is_some asked ≡ is_some reply → s ≤ length h → low ≤ s →
      Runs meaning listed h limit author s (cons_option asked requests) (cons_option reply replies) →
      Passes author s low asked reply requests replies
  pass_one author s low None None requests replies alike few le runs =
      record { next = s; rises = omega arith; few = few; runs = runs; fit = λ q r is. absurd (cc is) }
  pass_one author s low None (Some r) requests replies alike few le runs = absurd cc
  pass_one author s low (Some q) None requests replies alike few le runs = absurd cc
  pass_one author s low (Some q) (Some r) requests replies alike few le runs =
      let rises = had_rises author s q r few runs.0 in
      record {
        next = had s r;
        rises = rises.0;
        few = rises.1;
        runs = runs.1;
        fit = λ p u asked_is reply_is. let first : q ≡ p = cc asked_is in let second : r ≡ u = cc reply_is in
            subst (λ x. Fits meaning listed h limit author low x u) first
            (subst (λ x. Fits meaning listed h limit author low q x) second
            (fits_less meaning listed h limit author s low q r le runs.0));
      }

  -- what stands in one of the places of a run has a reply that fits
  runs_at : (author s low : ℕ) (requests : List (Asked S)) (replies : List (ReplyOf C F)) (places : List ℕ) (i : ℕ)
      (q : Asked S) (r : ReplyOf C F) → length requests ≡ length replies → s ≤ length h → low ≤ s →
      Runs meaning listed h limit author s (picked requests places) (picked replies places) → 1 ≤ times i places →
      slice_get requests i ≡ Some q → slice_get replies i ≡ Some r → Fits meaning listed h limit author low q r
  runs_at author s low requests replies [] i q r count few le runs some at_q at_r = absurd (omega (arith, some))
  runs_at author s low requests replies (p ∷ places) i q r count few le runs some at_q at_r =
      let passes = pass_one author s low (slice_get requests p) (slice_get replies p) (picked requests places)
      (picked replies places) (alike_at requests replies p count) few le runs in
      ⊎_elim
      (λ here. passes.fit q r (ap (slice_get requests) (sym here.0) ∙ at_q) (ap (slice_get replies) (sym here.0)
      ∙ at_r))
      (λ none. runs_at author passes.next low requests replies places i q r count passes.few
      (omega (arith, le, passes.rises)) passes.runs (omega (arith, some, none)) at_q at_r)
      (same_is i p)

  -- an author below the bound had this reply, which fits for whoever had seen `low` entries
  pub record IsDealt (bound low : ℕ) (asked : Asked S) (reply : ReplyOf C F) : Type 0 where
    pub author : ℕ
    pub few : author < bound
    pub fits : Fits meaning listed h limit author low asked reply

  dealt_at : (bound s : ℕ) (requests : List (Asked S)) (replies : List (ReplyOf C F)) (hands : List Hand) (i : ℕ)
      (q : Asked S) (r : ReplyOf C F) → length requests ≡ length replies → s ≤ length h →
      Each (λ hand. hand.author < bound) hands → EachRuns meaning listed h limit s requests replies hands →
      1 ≤ total (times_in i) hands → slice_get requests i ≡ Some q → slice_get replies i ≡ Some r →
      IsDealt bound s q r
  dealt_at bound s requests replies [] i q r count few below_all runs some at_q at_r = absurd (omega (arith, some))
  dealt_at bound s requests replies (hand ∷ hands) i q r count few below_all runs some at_q at_r =
      dite (dec_le 1 (times i hand.places))
      (λ here. record {
        author = hand.author;
        few = below_all.0;
        fits = runs_at hand.author s s requests replies hand.places i q r count few (omega arith) runs.1 here at_q at_r;
      })
      (λ none. dealt_at bound s requests replies hands i q r count few below_all.1 runs.2 (omega (arith, some, none))
      at_q at_r)

-- each author that has a hand is below the bound
authors_below : (bound : ℕ) (hands : List Hand) →
    ((a : ℕ) → total (is_hand_of a) hands ≤ below bound a) → Each (λ hand. hand.author < bound) hands
authors_below bound [] few = tt
authors_below bound (hand ∷ hands) few = (
  (let one = same_yes hand.author hand.author refl in let le = few hand.author in
      below_lt bound hand.author (omega (arith, one, le))),
  authors_below bound hands (λ a. let le = few a in omega (arith, le)),
)

-- what came of a batch, by its requests in order
pub dealt_all : {S C F : Type 0} (meaning : Meaning S C F) (listed : Listed S) (limit base workers : ℕ)
    (before h : List (Event S)) (requests : List (Asked S)) (replies : List (ReplyOf C F)) → length before ≤ length h →
    Continues meaning listed limit base workers before requests replies h →
    AllZip (IsDealt meaning listed h limit (base + workers) (length before)) requests replies
dealt_all meaning listed limit base workers before h requests replies few came =
    zip_at (IsDealt meaning listed h limit (base + workers) (length before)) requests replies came.answered
    (λ i q r inside at_q at_r.
    let one = below_yes (length requests) i inside in let share = came.shares i in
    dealt_at meaning listed h limit (base + workers) (length before) requests replies came.hands i q r
    (sym came.answered) few
    (authors_below (base + workers) came.hands (λ a. let all = came.authors a in omega (arith, all)))
    came.run (omega (arith, one, share)) at_q at_r)
