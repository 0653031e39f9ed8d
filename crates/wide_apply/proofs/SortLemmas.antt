-- Turns by waves.
use Rattle.std.proofs.Common.{◌≡◌, ℕ, zero, suc, ◌+◌, ◌<◌, ◌≤◌, true, false, if◌then◌else◌, List, [], ◌∷◌, ◌++◌, All}
use Rattle.std.proofs.Common.{Contains, map, length, get_or, set, inl, inr, refl, sym, subst, ap, ap₂, ◌∙◌, arith}
use Rattle.std.proofs.Common.{append-nil, length-set, get_or-set_same, get_or-set_other, length-append}
use Rattle.std.specs.Prelude.{nat_eq}
use Rattle.std.specs.List.{AllByRecursion}
use Rattle.std.specs.declared.alloc.Global.{Global}
use Rattle.std.specs.declared.vec.Vec.{Vec}
use Rattle.std.proofs.Math.ListN.{get_or-append}
use Rattle.std.proofs.Math.Seq.{get_or-append_seam}
use Rattle.std.proofs.lemmas.Bool.{cases_lt}
use Rattle.std.proofs.lemmas.Bool.Decides.{eqb_tells}
use Rattle.std.proofs.lemmas.List.{length-map}
use Rattle.std.proofs.lemmas.List.Elements.{All-from_recursion, recursion_from_All}
use Rattle.agent_marks.specs.Levels.{AreLevels, level_of}
use Rattle.agent_transaction.specs.Marking.{planned_pair}
use Rattle.agent_transaction.specs.declared.planned.Planned.{Planned}
use Rattle.agent_transaction.specs.declared.task.Task.{Task}
use Rattle.wide_apply.specs.Going.{tasks_in, IsSorted}
use Rattle.wide_apply.specs.Waves.{HasTurn, IsNumbering, in_wave, waves_from, planned_in, IsDivided}

-- ---- one more turn

abbrev pub planned_if : (ℕ → ℕ) → ℕ → Planned → List Planned
planned_if wave w p = if nat_eq (wave p.at) w then p ∷ [] else []

planned_push : (wave : ℕ → ℕ) (w : ℕ) (ps : List Planned) (p : Planned) →
    planned_in wave w (ps ++ p ∷ []) ≡ planned_in wave w ps ++ planned_if wave w p
planned_push wave w [] p = refl
planned_push wave w (q ∷ qs) p =
    elim (nat_eq (wave q.at) w) as
    (λ b. (if b then q ∷ planned_in wave w (qs ++ p ∷ []) else planned_in wave w (qs ++ p ∷ []))
    ≡ (if b then q ∷ planned_in wave w qs else planned_in wave w qs) ++ planned_if wave w p) [
      | true ↦ ap (λ l. q ∷ l) (planned_push wave w qs p)
      | false ↦ planned_push wave w qs p
    ]

all_push : {X : Type 0} (P : X → Type 0) (xs : List X) (x : X) → AllByRecursion P xs → P x →
    AllByRecursion P (xs ++ x ∷ [])
all_push P [] x h p = (p, tt)
all_push P (y ∷ ys) x h p = (h.0, all_push P ys x h.1 p)

all_as : {X : Type 0} (P Q : X → Type 0) (xs : List X) → ((x : X) → P x → Q x) → AllByRecursion P xs →
    AllByRecursion Q xs
all_as P Q [] f h = tt
all_as P Q (x ∷ xs) f h = (f x h.0, all_as P Q xs f h.1)

whole_as : (wave : ℕ → ℕ) (plan : List Planned) (m n : ℕ) → m ≤ n → All (λ p. wave p.at < m) plan →
    All (λ p. wave p.at < n) plan
whole_as wave plan m n le h = λ k d lt. let a = h k d lt in omega (arith, a, le)

module _ (wave : ℕ → ℕ) (plan : List Planned) (lists : List (Vec Planned Global))
    (divided : IsDivided wave plan lists) where
  module _ (p : Planned) (x y old held : Vec Planned Global) (number : ℕ) (within : number < length lists)
      (was : old ≡ get_or lists number old) (kept : held ≡ old) (put_it : y.items ≡ held.items ++ p ∷ [])
      (same : wave p.at ≡ number) where
    still_long : length (set (set lists number x) number y) ≡ length lists
    still_long = length-set (set lists number x) number y ∙ length-set lists number x

    at_it : (d : Vec Planned Global) →
        (get_or (set (set lists number x) number y) number d).items ≡ planned_in wave number (plan ++ p ∷ [])
    at_it d =
        let inside : number < length (set lists number x) =
        (let e = length-set lists number x in omega (arith, e, within)) in
        ap (λ (v : Vec Planned Global). v.items) (get_or-set_same (set lists number x) number y d inside)
        ∙ put_it ∙ ap (λ (v : Vec Planned Global). v.items ++ p ∷ []) (kept ∙ was)
        ∙ ap (λ l. l ++ p ∷ []) (divided.each number old within)
        ∙ sym (planned_push wave number plan p ∙ elim (eqb_tells (wave p.at) number) [
          | inl is ↦ ap (λ b. planned_in wave number plan ++ (if b then p ∷ [] else [])) is.0
          | inr other ↦ absurd (other.1 same)
        ])

    pub divided_more : IsDivided wave (plan ++ p ∷ []) (set (set lists number x) number y)
    divided_more = record {
      each = λ u d h. elim (eqb_tells u number) [
        | inl is ↦ subst (λ w. (get_or (set (set lists number x) number y) w d).items ≡ planned_in wave w
            (plan ++ p ∷ [])) (sym is.1) (at_it d)
        | inr other ↦
            ap (λ (v : Vec Planned Global). v.items)
            (get_or-set_other (set lists number x) number u y d other.1 ∙ get_or-set_other lists number u x d other.1)
            ∙ divided.each u d (let e = still_long in omega (arith, e, h))
            ∙ sym (planned_push wave u plan p ∙ elim (eqb_tells (wave p.at) u) [
              | inl is ↦ absurd (other.1 (sym is.1 ∙ same))
              | inr apart ↦ ap (λ b. planned_in wave u plan ++ (if b then p ∷ [] else [])) apart.0
                  ∙ append-nil (planned_in wave u plan)
            ])
      ];
      whole = subst (λ n. All (λ q. wave q.at < n) (plan ++ p ∷ [])) (sym still_long)
          (All-from_recursion (λ q. wave q.at < length lists) (plan ++ p ∷ [])
          (all_push (λ q. wave q.at < length lists) plan p
          (recursion_from_All (λ q. wave q.at < length lists) plan divided.whole)
          (omega (arith, same, within))));
    }

  -- ---- one more list

  none_there : (w : ℕ) → length lists ≤ w → (ps : List Planned) → AllByRecursion (λ q. wave q.at < length lists) ps →
      planned_in wave w ps ≡ []
  none_there w le [] h = refl
  none_there w le (q ∷ qs) h = elim (eqb_tells (wave q.at) w) [
    | inl is ↦ (let a = h.0 in let e = is.1 in absurd (omega (arith, a, e, le)))
    | inr other ↦ ap (λ b. if b then q ∷ planned_in wave w qs else planned_in wave w qs) other.0
        ∙ none_there w le qs h.1
  ]

  pub divided_grown : (new : Vec Planned Global) → new.items ≡ [] → IsDivided wave plan (lists ++ new ∷ [])
  divided_grown new none = record {
    each = λ w d h. elim (cases_lt w (length lists)) [
      | inl less ↦ ap (λ (v : Vec Planned Global). v.items) (get_or-append lists (new ∷ []) d w less)
          ∙ divided.each w d less
      | inr more ↦
          let is : w ≡ length lists = (let e = length-append lists (new ∷ []) in omega (arith, e, h, more)) in
          subst (λ u. (get_or (lists ++ new ∷ []) u d).items ≡ planned_in wave u plan) (sym is)
          (ap (λ (v : Vec Planned Global). v.items) (get_or-append_seam lists new [] d) ∙ none
          ∙ sym (none_there (length lists) (omega arith) plan
          (recursion_from_All (λ q. wave q.at < length lists) plan divided.whole)))
    ];
    whole = whole_as wave plan (length lists) (length (lists ++ new ∷ [])) (let e = length-append lists (new ∷ []) in
        omega (arith, e)) divided.whole;
  }

-- ---- the waves of a plan

tasks_of_wave : (wave : ℕ → ℕ) (w : ℕ) (ps : List Planned) →
    map planned_pair (planned_in wave w ps) ≡ in_wave wave w (map planned_pair ps)
tasks_of_wave wave w [] = refl
tasks_of_wave wave w (p ∷ ps) =
    elim (nat_eq (wave p.at) w) as (λ b. map planned_pair (if b then p ∷ planned_in wave w ps else planned_in wave w ps)
    ≡ (if b then planned_pair p ∷ in_wave wave w (map planned_pair ps) else in_wave wave w (map planned_pair ps))) [
      | true ↦ ap (λ l. planned_pair p ∷ l) (tasks_of_wave wave w ps)
      | false ↦ tasks_of_wave wave w ps
    ]

waves_on : (wave : ℕ → ℕ) (plan : List Planned) (ls : List (Vec Planned Global)) (at : ℕ) →
    ((k : ℕ) (d : Vec Planned Global) → k < length ls → (get_or ls k d).items ≡ planned_in wave (at + k) plan) →
    tasks_in ls ≡ waves_from wave (map planned_pair plan) at (length ls)
waves_on wave plan [] at h = refl
waves_on wave plan (l ∷ ls) at h =
    ap₂ (λ a b. a ∷ b)
    (ap (map planned_pair) (h 0 l (omega arith) ∙ ap (λ n. planned_in wave n plan) (omega arith))
    ∙ tasks_of_wave wave at plan)
    (waves_on wave plan ls (suc at)
    (λ k d lt. h (suc k) d (omega (arith, lt)) ∙ ap (λ n. planned_in wave n plan) (omega arith)))

has_turn : (plan : List Planned) (y : ℕ) → Contains (map (λ (p : Planned). p.at) plan) y →
    HasTurn (map planned_pair plan) y
has_turn [] y (k, h, e) = absurd (omega (arith, h))
has_turn (p ∷ ps) y (zero, h, e) = (p.ready, (0, omega arith, λ i. (e i, p.ready)))
has_turn (p ∷ ps) y (suc k, h, e) =
    let r = has_turn ps y (k, omega (arith, h), e) in
    (r.0, (suc r.1.0, let l = r.1.1 in omega (arith, l), r.1.2))

counted : (plan : List Planned) (y : ℕ) (task : Task) → Contains (map planned_pair plan) (y, task) →
    Contains (map (λ (p : Planned). p.at) plan) y
counted [] y task (k, h, e) = absurd (omega (arith, h))
counted (p ∷ ps) y task (zero, h, e) = (0, omega arith, ap (λ (q : ℕ × Task). q.0) e)
counted (p ∷ ps) y task (suc k, h, e) =
    let r = counted ps y task (k, omega (arith, h), e) in
    (suc r.0, let l = r.1 in omega (arith, l), r.2)

module _ (Comes : ℕ → ℕ → Type 0) (count : ℕ) (plan : List Planned) (levels : List ℕ)
    (are : AreLevels Comes count (map (λ (p : Planned). p.at) plan) levels) where
  lowest : (x w : ℕ) → w ≤ level_of levels x →
      ((y : ℕ) → HasTurn (map planned_pair plan) y → Comes y x → level_of levels y < w) →
      (l : ℕ) → level_of levels x ≡ l → level_of levels x ≡ w
  lowest x w le all zero e = omega (arith, le, e)
  lowest x w le all (suc k) e = elim (cases_lt w (suc k)) [
    | inl less ↦
        let r = are.earned x k e in
        let h = all r.0 (has_turn plan r.0 r.1) r.2 in
        let g = r.3 in absurd (omega (arith, less, h, g))
    | inr more ↦ omega (arith, le, e, more)
  ]

  pub numbered : IsNumbering Comes (map planned_pair plan) (level_of levels)
  numbered = record {
    stands = λ x w has. (
      λ e. (
        omega (arith, e),
        λ y turn c. let h = are.rises y x (counted plan y turn.0 turn.1) c in
            omega (arith, h, e),
      ),
      λ h. lowest x w h.0 h.1 (level_of levels x) refl,
    );
  }

  kept_in : (P : Planned → Type 0) (wave : ℕ → ℕ) (w : ℕ) (ps : List Planned) → AllByRecursion P ps →
      AllByRecursion P (planned_in wave w ps)
  kept_in P wave w [] h = tt
  kept_in P wave w (p ∷ ps) h =
      elim (nat_eq (wave p.at) w) as
      (λ b. AllByRecursion P (if b then p ∷ planned_in wave w ps else planned_in wave w ps)) [
        | true ↦ (h.0, kept_in P wave w ps h.1)
        | false ↦ kept_in P wave w ps h.1
      ]

  pairs_below : (n : ℕ) (ps : List Planned) → AllByRecursion (λ (p : Planned). level_of levels p.at < n) ps →
      AllByRecursion (λ (t : ℕ × Task). level_of levels t.0 < n) (map planned_pair ps)
  pairs_below n [] h = tt
  pairs_below n (p ∷ ps) h = (h.0, pairs_below n ps h.1)

  pub sorted_by : (lists : List (Vec Planned Global)) → IsDivided (level_of levels) plan lists →
      IsSorted Comes plan lists
  sorted_by lists divided =
      let long : length (tasks_in lists) ≡ length lists =
      length-map lists (λ (wave : Vec Planned Global). map planned_pair wave.items) in
      record {
        waves = record {
          wave = level_of levels;
          numbering = numbered;
          whole = subst (λ n. All (λ (t : ℕ × Task). level_of levels t.0 < n) (map planned_pair plan)) (sym long)
              (All-from_recursion (λ (t : ℕ × Task). level_of levels t.0 < length lists) (map planned_pair plan)
              (pairs_below (length lists) plan
              (recursion_from_All (λ (p : Planned). level_of levels p.at < length lists) plan divided.whole)));
          each = waves_on (level_of levels) plan lists 0
              (λ k d lt. divided.each k d lt ∙ ap (λ n. planned_in (level_of levels) n plan) (omega arith))
              ∙ ap (waves_from (level_of levels) (map planned_pair plan) 0) (sym long);
        };
        below = λ n all k d lt.
            subst (λ l. All (λ (p : Planned). p.at < n) l) (sym (divided.each k d lt))
            (All-from_recursion (λ (p : Planned). p.at < n) (planned_in (level_of levels) k plan)
            (kept_in (λ (p : Planned). p.at < n) (level_of levels) k plan
            (recursion_from_All (λ (p : Planned). p.at < n) plan all)));
      }

pub divided_first : (wave : ℕ → ℕ) → IsDivided wave [] []
divided_first wave = record {
  each = λ w d h. absurd (omega (arith, h));
  whole = All-from_recursion (λ (p : Planned). wave p.at < 0) [] tt;
}

ats_under : (n : ℕ) (ps : List Planned) → AllByRecursion (λ (p : Planned). p.at < n) ps →
    AllByRecursion (λ x. x < n) (map (λ (p : Planned). p.at) ps)
ats_under n [] h = tt
ats_under n (p ∷ ps) h = (h.0, ats_under n ps h.1)

pub ats_below : (n : ℕ) (ps : List Planned) → All (λ (p : Planned). p.at < n) ps →
    All (λ x. x < n) (map (λ (p : Planned). p.at) ps)
ats_below n ps h = All-from_recursion (λ x. x < n) (map (λ (p : Planned). p.at) ps)
    (ats_under n ps (recursion_from_All (λ (p : Planned). p.at < n) ps h))
