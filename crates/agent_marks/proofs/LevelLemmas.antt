-- Levels that rise along arrows.
use Rattle.std.proofs.Common.{◌≡◌, ◌⊎◌, ℕ, zero, suc, ◌+◌, ◌^◌, ◌<◌, ◌≤◌, Bool, true, false, ◌||◌, ◌&&◌, if◌then◌else◌, List, [], ◌∷◌, length, get_or, set, inl, inr, refl, sym, subst, ap, ◌∙◌, arith, Contains, All, ◌++◌, replicate, length-set, get_or-set_same, get_or-set_other}
use Rattle.std.specs.Prelude.{nat_eq, ◌↔◌}
use Rattle.std.proofs.lemmas.Bool.Decides.{eqb_tells}
use Rattle.std.proofs.lemmas.List.{get_or_default}
use Rattle.std.proofs.lemmas.List.Elements.{Contains-push, Contains-push_cases, Contains-append_left}
use Rattle.rel_graph.specs.Before.{Belongs, Before}
use Rattle.rel_graph.specs.Chains.{Paired}
use Rattle.rel_graph.specs.Marks.{Marked}
use Rattle.rel_graph.specs.Pairs.{AllBelow}
use Rattle.rel_graph.proofs.Chains.{belongs_more, belongs_carries}
use Rattle.agent_marks.specs.Levels.{level_at, level_of, step, Settled, Earned, room_above, Rises, AreLevels}
use Rattle.agent_marks.specs.Nodes.{begin_of, end_of, AreArrows, targets}
use Rattle.agent_marks.proofs.NodePaths.{led_before, before_led}
use Rattle.agent_marks.proofs.SpreadLemmas.{targets_paired}

-- ---- one level

room_set : (ls : List ℕ) (v l : ℕ) → v < length ls → get_or ls v 0 < l → l < 2 ^ 32 → room_above (set ls v l) < room_above ls
room_set [] v l h less top = absurd (omega (arith, h))
room_set (x ∷ ls) zero l h less top = omega (arith, less, top)
room_set (x ∷ ls) (suc v) l h less top = let r = room_set ls v l (omega (arith, h)) less top in omega (arith, r)

module _ (arrows : List (ℕ × ℕ)) (starts : List Bool) (levels : List ℕ) (from to l : ℕ) (arrow : Paired arrows from to)
    (within : to < length levels) (is : l ≡ level_at levels from + step starts from to) (low : level_at levels to < l) where
  raised : List ℕ
  raised = set levels to l

  no_less : (v : ℕ) → level_at levels v ≤ level_at (set levels to l) v
  no_less v = elim (eqb_tells v to) [
    | inl same ↦ subst (λ w. level_at levels w ≤ level_at (set levels to l) w) (sym same.1)
        (let e : level_at (set levels to l) to ≡ l = get_or-set_same levels to l 0 within in omega (arith, e, low))
    | inr other ↦ let e : level_at (set levels to l) v ≡ level_at levels v = get_or-set_other levels to v l 0 other.1 in omega (arith, e)
  ]

  goes_on : (s k : ℕ) → k ≤ level_at levels s → k ≤ level_at (set levels to l) s
  goes_on s k h = let m = no_less s in omega (arith, h, m)

  both_true : (a b : Bool) → (a && b) ≡ true → (a ≡ true) × (b ≡ true)
  both_true true true h = (refl, refl)
  both_true true false h = absurd (cc h)
  both_true false b h = absurd (cc h)

  next_node : nat_eq to (from + 1) ≡ true → from + 1 ≡ to
  next_node h = elim (eqb_tells to (from + 1)) [
    | inl same ↦ sym same.1
    | inr other ↦ absurd (cc (sym h ∙ other.0))
  ]

  at_target : Earned arrows starts levels → (k : ℕ) → l ≡ suc k →
      (b : Bool) → (get_or starts from false && nat_eq to (from + 1)) ≡ b →
      (s : ℕ) × Marked starts s × Belongs arrows to (s + 1) × (k ≤ level_at (set levels to l) s)
  at_target earned k e true h =
      let height : step starts from to ≡ 1 = ap (λ b. if b then 1 else 0) h in
      let both = both_true (get_or starts from false) (nat_eq to (from + 1)) h in
      (from, both.0, inl (next_node both.1), goes_on from k (omega (arith, is, height, e)))
  at_target earned k e false h =
      let height : step starts from to ≡ 0 = ap (λ b. if b then 1 else 0) h in
      let r = earned from k (omega (arith, is, height, e)) in
      (r.0, r.1, belongs_more arrows from to (r.0 + 1) r.2 arrow, goes_on r.0 k r.3)

  earned_raised : Earned arrows starts levels → Earned arrows starts (set levels to l)
  earned_raised earned v k e = elim (eqb_tells v to) [
    | inl same ↦ subst (λ w. (s : ℕ) × Marked starts s × Belongs arrows w (s + 1) × (k ≤ level_at (set levels to l) s)) (sym same.1)
        (at_target earned k (sym (get_or-set_same levels to l 0 within) ∙ subst (λ w. level_at (set levels to l) w ≡ suc k) same.1 e)
        (get_or starts from false && nat_eq to (from + 1)) refl)
    | inr other ↦
        let r = earned v k (sym (get_or-set_other levels to v l 0 other.1) ∙ e) in
        (r.0, r.1, r.2, goes_on r.0 k r.3)
  ]

  pub rises_one : l < 2 ^ 32 → Rises arrows starts (λ u v. (u ≡ from) × (v ≡ to)) true levels (set levels to l)
  rises_one top = record {
    long = length-set levels to l;
    earned = earned_raised;
    less = let r = room_set levels to l within low top in omega (arith, r);
    lower = λ _. room_set levels to l within low top;
    same = λ e. absurd (cc e);
    held = λ e. absurd (cc e);
  }

pub rises_none : (arrows : List (ℕ × ℕ)) (starts : List Bool) (levels : List ℕ) (from to : ℕ) →
    level_at levels from + step starts from to ≤ level_at levels to →
    Rises arrows starts (λ u v. (u ≡ from) × (v ≡ to)) false levels levels
rises_none arrows starts levels from to h = record {
  long = refl;
  earned = λ e. e;
  less = omega arith;
  lower = λ e. absurd (cc e);
  same = λ _. refl;
  held = λ _ u v p. subst (λ x. level_at levels x + step starts x v ≤ level_at levels v) (sym p.0)
      (subst (λ y. level_at levels from + step starts from y ≤ level_at levels y) (sym p.1) h);
}

-- ---- one after another

module _ (arrows : List (ℕ × ℕ)) (starts : List Bool) where
  pub rises_start : (levels : List ℕ) → Rises arrows starts (λ u v. ⊥) false levels levels
  rises_start levels = record {
    long = refl;
    earned = λ e. e;
    less = omega arith;
    lower = λ e. absurd (cc e);
    same = λ _. refl;
    held = λ _ u v p. absurd p;
  }

  pub rises_as : (P Q : ℕ → ℕ → Type 0) (rose : Bool) (before after : List ℕ) → ((u v : ℕ) → Q u v → P u v) →
      Rises arrows starts P rose before after → Rises arrows starts Q rose before after
  rises_as P Q rose before after f r = record {
    long = r.long;
    earned = r.earned;
    less = r.less;
    lower = r.lower;
    same = r.same;
    held = λ e u v q. r.held e u v (f u v q);
  }

  lower_by : (P Q : ℕ → ℕ → Type 0) (one two : Bool) (before middle after : List ℕ) → Rises arrows starts P one before middle →
      Rises arrows starts Q two middle after → (two || one) ≡ true → room_above after < room_above before
  lower_by P Q one true before middle after r s e = let a = r.less in let b = s.lower refl in omega (arith, a, b)
  lower_by P Q one false before middle after r s e = let a = r.lower e in let b = s.less in omega (arith, a, b)

  neither : (one two : Bool) → (two || one) ≡ false → (one ≡ false) × (two ≡ false)
  neither one true e = absurd (cc e)
  neither one false e = (e, refl)

  pub rises_then : (P Q R : ℕ → ℕ → Type 0) (one two : Bool) (before middle after : List ℕ) →
      ((u v : ℕ) → R u v → P u v ⊎ Q u v) → Rises arrows starts P one before middle →
      Rises arrows starts Q two middle after → Rises arrows starts R (two || one) before after
  rises_then P Q R one two before middle after f r s = record {
    long = s.long ∙ r.long;
    earned = λ e. s.earned (r.earned e);
    less = let a = r.less in let b = s.less in omega (arith, a, b);
    lower = lower_by P Q one two before middle after r s;
    same = λ e. let n = neither one two e in s.same n.1 ∙ r.same n.0;
    held = λ e u v p.
        let n = neither one two e in
        elim (f u v p) [
          | inl h ↦ r.held n.0 u v h
          | inr h ↦ subst (λ (l : List ℕ). level_at l u + step starts u v ≤ level_at l v) (r.same n.0) (s.held n.1 u v h)
        ];
  }

-- ---- levels of resources

module _ (count : ℕ) (C E arrows : List (ℕ × ℕ)) (a : AreArrows count C E arrows) (below : AllBelow C count) (edges_below : AllBelow E count)
    (starts : List Bool) (levels counted : List ℕ) (are : (v : ℕ) → Marked starts v ↔ ((x : ℕ) × Contains counted x × (v ≡ begin_of x)))
    (all_below : (x : ℕ) → Contains counted x → x < count) (settled : Settled arrows starts levels) (earned : Earned arrows starts levels) where
  no_lower : (r c : ℕ) → Belongs arrows r c → level_at levels c ≤ level_at levels r
  no_lower r c b = belongs_carries arrows (λ v. level_at levels c ≤ level_at levels v)
      (λ x y p h. let s = settled x y p in omega (arith, h, s)) r c b (omega arith)

  is_step : (y : ℕ) → Contains counted y → step starts (begin_of y) (end_of y) ≡ 1
  is_step y c =
      let marked : get_or starts (begin_of y) false ≡ true = (are (begin_of y)).1 (y, c, refl) in
      let next : nat_eq (end_of y) (begin_of y + 1) ≡ true = elim (eqb_tells (end_of y) (begin_of y + 1)) [
        | inl same ↦ same.0
        | inr other ↦ absurd (other.1 refl)
      ] in
      ap (λ b. if b && nat_eq (end_of y) (begin_of y + 1) then 1 else 0) marked ∙ ap (λ b. if b then 1 else 0) next

  climbs_at : (y : ℕ) → Contains counted y → level_of levels y + 1 ≤ level_at levels (end_of y)
  climbs_at y c =
      let s = settled (begin_of y) (end_of y) (a.along y (all_below y c)) in
      let one = is_step y c in omega (arith, s, one)

  pub levels_are : AreLevels (Before C E) count counted levels
  levels_are = record {
    rises = λ y x c b.
        let up = no_lower (begin_of x) (end_of y) (before_led count C E arrows a below edges_below y x b) in
        let s = climbs_at y c in omega (arith, up, s);
    earned = λ x k e.
        let r = earned (begin_of x) k e in
        let m = (are r.0).0 r.1 in (
          m.0,
          m.1,
          led_before count C E arrows a m.0 x (subst (λ v. Belongs arrows (begin_of x) (v + 1)) m.2 r.2),
          subst (λ v. k ≤ level_at levels v) m.2 r.3,
        );
  }

pub earned_at_first : (arrows : List (ℕ × ℕ)) (starts : List Bool) (levels : List ℕ) →
    ((v : ℕ) → level_at levels v ≡ 0) → Earned arrows starts levels
earned_at_first arrows starts levels none v k e = absurd (cc (sym (none v) ∙ e))

pub none_yet : (n v : ℕ) → level_at (replicate n 0) v ≡ 0
none_yet zero v = refl
none_yet (suc n) zero = refl
none_yet (suc n) (suc v) = none_yet n v

-- ---- lists of nodes

pub all_paired : (arrows : List (ℕ × ℕ)) (u : ℕ) → All (λ t. Paired arrows u t) (targets arrows u)
all_paired arrows u = λ k d h.
    targets_paired u (get_or (targets arrows u) k d) arrows (k, h, get_or_default (targets arrows u) k (get_or (targets arrows u) k d) d h)

pub paired_under : (arrows : List (ℕ × ℕ)) (n u v : ℕ) → AllBelow arrows n → Paired arrows u v → u < n
paired_under arrows n u v below p =
    subst (λ w. w < n) (ap (λ (q : ℕ × ℕ). q.0) p.2) (below p.0 (u, v) p.1).0

pub counted_below : (n : ℕ) (counted : List ℕ) → All (λ x. x < n) counted → (x : ℕ) → Contains counted x → x < n
counted_below n counted below x p = subst (λ w. w < n) p.2 (below p.0 x p.1)

module _ (starts : List Bool) (done : List ℕ) (x : ℕ) (within : begin_of x < length starts)
    (are : (v : ℕ) → Marked starts v ↔ ((y : ℕ) × Contains done y × (v ≡ begin_of y))) where
  pub one_start : (v : ℕ) → Marked (set starts (begin_of x) true) v ↔ ((y : ℕ) × Contains (done ++ x ∷ []) y × (v ≡ begin_of y))
  one_start v = elim (eqb_tells v (begin_of x)) [
    | inl same ↦ (
      λ m. (x, Contains-push done x, same.1),
      λ r. subst (λ w. Marked (set starts (begin_of x) true) w) (sym same.1) (get_or-set_same starts (begin_of x) true false within),
    )
    | inr other ↦
        let stays : get_or (set starts (begin_of x) true) v false ≡ get_or starts v false = get_or-set_other starts (begin_of x) v true false other.1 in (
          λ m. let r = (are v).0 (sym stays ∙ m) in (r.0, Contains-append_left done (x ∷ []) r.0 r.1, r.2),
          λ r. elim (Contains-push_cases done x r.0 r.1) [
            | inl old ↦ stays ∙ (are v).1 (r.0, old, r.2)
            | inr e ↦ absurd (other.1 (subst (λ y. v ≡ begin_of y) (sym e) r.2))
          ],
        )
  ]
