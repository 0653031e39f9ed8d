-- Each step on the word keeps the rule.
use Rattle.std.proofs.Common.{◌≡◌, ℕ, ◌+◌, ◌%◌, ◌^◌, ◌<◌, ◌≤◌, ◌⊎◌, min, List, [], ◌∷◌, ◌++◌, get_or, set, refl, ap, ◌∙◌, subst, inl, inr, ⊎_elim, arith, mod-eq_of_lt}
use mathlib.Core.Logic.{dite}
use mathlib.Core.Option.{some, none}
use native.Mathlib.Decide.{dec_le}
use lib.ListN.{get_elem?}
use lib.Seq.{set-get_or}
use Rattle.atomic_table.specs.Table.{State, Me, step, keeps, Allows}
use Rattle.atomic_table.proofs.Lists.{at_set}
use Rattle.list_sums.specs.Counts.{same, below, times, Once}
use Rattle.work_pool.specs.Views.{has_number, room_of, held_of, past_of, looking, claiming, passing}
use Rattle.work_pool.specs.Claimed.{Fits, Claimed}
use Rattle.work_pool.specs.Steps.{HasAll, Looked, Drew, Settled}
use Rattle.work_pool.specs.declared.view.View.{View}
use Rattle.list_sums.proofs.Totals.{total-append, total-set, term_le, totals_le, gap}
use Rattle.list_sums.proofs.Marks.{below_next, below_le}

-- one view changes, and the word grows
remade : (count : ℕ) (s : State (Unit {0}) View) (r : Claimed count s) (id : ℕ) (v w : View) (word : ℕ) (ws : List ℕ)
    → get_elem? s.views id ≡ some v → ws ≡ word ∷ [] → r.word ≤ word
    → ((a : ℕ) → has_number a w + below (min r.word count) a ≡ has_number a v + below (min word count) a)
    → w.room ≡ v.room → w.held ≡ v.held → word + v.past ≤ r.word + w.past ⊎ (word ≤ count) × (v.past ≤ w.past) → Fits count word w
    → Claimed count (record { words = ws; homes = s.homes; views = set s.views id w })
remade count s r id v w word ws me words grows numbers room held bound own = record {
  word = word;
  words = words;
  small = r.small;
  once = λ a. omega (arith, total-set (has_number a) s.views id v w me, r.once a, numbers a);
  bound = ⊎_elim (λ b. omega (arith, total-set past_of s.views id v w me, r.bound)) (λ b. omega (arith, b.0)) bound;
  few = omega (arith, total-set room_of s.views id v w me, total-set held_of s.views id v w me, r.few);
  each = λ i u at.
      ⊎_elim (λ t. subst (λ (x : View). Fits count word x) t.1 own)
      (λ t. let f = r.each i u t.1 in record { same = f.same; known = omega (arith, f.known); nobody = f.nobody; few_past = f.few_past; past_end = λ h. omega (arith, f.past_end h) })
      (at_set s.views id i w u at);
}

at_zero : (a : ℕ) (l : List ℕ) → l ≡ [] → times a l ≡ 0
at_zero a l e = ap (times a) e

-- who stands for all seats has all numbers, once they are drawn
all_drawn : (count : ℕ) (s : State (Unit {0}) View) (r : Claimed count s) (id : ℕ) (v : View) → get_elem? s.views id ≡ some v → 0 < v.held → count ≤ r.word → HasAll v
all_drawn count s r id v me some_ past all a =
    let few : (i : ℕ) (u : View) → get_elem? s.views i ≡ some u → has_number a u ≤ held_of u =
    λ i u at. dite (dec_le 1 u.held) (λ y. omega (arith, term_le (has_number a) s.views i u at, r.once a, below_le (min r.word count) a)) (λ n. omega (arith, at_zero a u.numbers ((r.each i u at).nobody (omega arith)))) in
    let limit : below (min r.word count) a ≡ below v.count a = ap (λ (n : ℕ). below n a) (let e = (r.each id v me).same some_ in omega arith) in
    omega (arith, r.few, r.once a, limit, term_le room_of s.views id v me, term_le held_of s.views id v me, term_le (has_number a) s.views id v me, gap (has_number a) held_of s.views id v me few)

-- the numbers of one view stand in it once
once_each : (count : ℕ) (s : State (Unit {0}) View) (r : Claimed count s) (id : ℕ) (v : View) → get_elem? s.views id ≡ some v → Once v.numbers
once_each count s r id v me a = omega (arith, term_le (has_number a) s.views id v me, r.once a, below_le (min r.word count) a)

-- the same once it has drawn the next number
once_drawn : (count : ℕ) (s : State (Unit {0}) View) (r : Claimed count s) (id : ℕ) (v : View) (word : ℕ) → get_elem? s.views id ≡ some v → min r.word count ≡ word → Once (v.numbers ++ word ∷ [])
once_drawn count s r id v word me here a =
    omega (arith, total-append (same a) v.numbers (word ∷ []), term_le (has_number a) s.views id v me, r.once a, ap (λ (k : ℕ). below k a) here, below_next word a, below_le (word + 1) a)

-- the word stays far below 2^64
word_small : (count : ℕ) (s : State (Unit {0}) View) (r : Claimed count s) → r.word + 1 < 2 ^ 64
word_small count s r = omega (arith, r.small, r.bound, r.few, totals_le past_of held_of s.views (λ i u at. (r.each i u at).few_past))

pub looks : (count n id : ℕ) (m : Me (Unit {0}) View) → 0 < m.0.held → Allows (Claimed count) n id m 0 (λ k. k) (Looked (step n 0 0 0 none) m)
looks count n id m some_ s r long me small =
    let v : View = m.0 in let f = r.each id v me in let found : get_or s.words 0 0 ≡ r.word = ap (λ (ws : List ℕ). get_or ws 0 0) r.words in
    let word : ℕ = get_or s.words 0 0 in let w : View = looking v word in
    let same_count = f.same some_ in (
      w,
      keeps,
      tt,
      remade count s r id v w r.word (set s.words 0 word) me (set-get_or s.words 0 0 ∙ r.words) (omega arith) (λ a. refl) refl refl (inl (omega arith))
          record { same = f.same; known = omega arith; nobody = f.nobody; few_past = f.few_past; past_end = f.past_end },
      (
        refl,
        omega (arith, f.known),
        (λ lt. dite (dec_le 1 v.past) (λ y. absurd (omega (arith, f.past_end y))) (λ no_. omega arith)),
        (λ le. all_drawn count s r id v me some_ (omega arith)),
        once_each count s r id v me,
      ),
    )

pub draws : (count n id : ℕ) (m : Me (Unit {0}) View) → 0 < m.0.held → m.0.past ≡ 0 → Allows (Claimed count) n id m 0 (λ k. (k + 1) % 2 ^ 64) (Drew (step n 0 1 0 none) m)
draws count n id m some_ fresh s r long me small =
    let v : View = m.0 in let f = r.each id v me in let found : get_or s.words 0 0 ≡ r.word = ap (λ (ws : List ℕ). get_or ws 0 0) r.words in
    let word : ℕ = get_or s.words 0 0 in let same_count = f.same some_ in
    let next : (word + 1) % 2 ^ 64 ≡ r.word + 1 = mod-eq_of_lt (omega (arith, word_small count s r)) ∙ ap (λ (k : ℕ). k + 1) found in
    let words : set s.words 0 ((word + 1) % 2 ^ 64) ≡ (r.word + 1) ∷ [] = ap (λ (k : ℕ). set s.words 0 k) next ∙ ap (λ (ws : List ℕ). set ws 0 (r.word + 1)) r.words in
    dite (dec_le (v.count) word)
    (λ past. let w : View = passing v word in (
      w,
      keeps,
      tt,
      remade count s r id v w (r.word + 1) (set s.words 0 ((word + 1) % 2 ^ 64)) me words (omega arith) (λ a. let e : min (r.word + 1) count ≡ min r.word count = omega arith in omega (arith, ap (λ (k : ℕ). below k a) e)) refl refl (inl (omega arith))
          record { same = f.same; known = omega arith; nobody = f.nobody; few_past = omega arith; past_end = λ _. omega arith },
      (omega (arith, f.known), (λ lt. absurd (omega arith)), (λ _. (refl, all_drawn count s r id v me some_ (omega arith))), once_each count s r id v me),
    ))
    (λ inside. let w : View = claiming v word in (
      w,
      keeps,
      tt,
      remade count s r id v w (r.word + 1) (set s.words 0 ((word + 1) % 2 ^ 64)) me words (omega arith)
          (λ a. let here : min r.word count ≡ word = omega arith in let after : min (r.word + 1) count ≡ word + 1 = omega arith in
          omega (arith, total-append (same a) v.numbers (word ∷ []), below_next word a, ap (λ (k : ℕ). below k a) here, ap (λ (k : ℕ). below k a) after)) refl refl (inr (omega arith, omega arith))
          record { same = f.same; known = omega arith; nobody = λ none_. absurd (omega arith); few_past = f.few_past; past_end = λ h. absurd (omega arith) },
      (omega (arith, f.known), (λ _. refl), (λ le. absurd (inside le)), once_drawn count s r id v word me (omega arith)),
    ))

pub settles : (count n id : ℕ) (m : Me (Unit {0}) View) → Allows (Claimed count) n id m 0 (λ k. k) (Settled (step n 0 0 0 none) m)
settles count n id m s r long me small =
    let v : View = m.0 in (
      v,
      keeps,
      tt,
      remade count s r id v v r.word (set s.words 0 (get_or s.words 0 0)) me (set-get_or s.words 0 0 ∙ r.words) (omega arith) (λ a. refl) refl refl (inl (omega arith)) (r.each id v me),
      (refl, once_each count s r id v me),
    )
