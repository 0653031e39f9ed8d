-- The cycle that is told, as it is computed, is the one that the order of resources knows.
use Rattle.std.proofs.Common.{◌≡◌, ◌⊎◌, ℕ, zero, suc, ◌<◌, ◌≤◌, Bool, true, false, ◌&&◌, ◌||◌, if◌then◌else◌, List, [], ◌∷◌, length, eqb, Option, None, Some, option_map, inl, inr, refl, sym, ap, ap₂, subst, ◌∙◌, arith, le_antisymm, is_some, true≢false}
use Rattle.std.proofs.lemmas.Bool.{cases_lt, eq-eqb}
use Rattle.std.proofs.lemmas.Bool.Decides.{eqb_tells}
use Rattle.std.proofs.lemmas.Map.Steps.{length-le_from_distinct_below}
use Rattle.std.proofs.lemmas.Map.Views.{list_any-from_Contains}
use Rattle.std.specs.Cmp.{nat_eq_equiv, and_equiv, on_equiv}
use Rattle.std.specs.List.{list_any, AllByRecursion, IsDistinct}
use Rattle.std.specs.Ordering.{on}
use Rattle.std.specs.Prelude.{MatchOption}
use Rattle.rel_graph.specs.Before.{Belongs, Direct}
use Rattle.rel_graph.specs.Chains.{Paired, Chain}
use Rattle.rel_graph.specs.Cycles.{IsCycle, HasNoCycle, NoLater}
use Rattle.rel_graph.specs.Graphs.{IsBuilt, Relations}
use Rattle.rel_graph.specs.Laws.{IsCycleIn, CycleInIsTheCycle, CycleOfAnyCount}
use Rattle.rel_graph.specs.Laws.{IsWay, WayIsTheShortest, WayOfAnyCount}
use Rattle.rel_graph.specs.Pairs.{AllBelow}
use Rattle.rel_graph.specs.FirstCycles.{is_paired, or_next, first_below, least_way, way_to, first_cycle}
use Rattle.rel_graph.specs.FirstCycles.{cycle_in, does_belong, is_direct}

skip : (x y more : Bool) → (x ≡ false) ⊎ (y ≡ false) → ((x && y) || more) ≡ true → more ≡ true
skip true true more (inl f) e = absurd cc
skip true true more (inr f) e = absurd cc
skip true false more f e = e
skip false y more f e = e

later : (p : ℕ × ℕ) (pairs : List (ℕ × ℕ)) (a b : ℕ) → Paired pairs a b → Paired (p ∷ pairs) a b
later p pairs a b h = (suc h.0, (let k = h.1 in omega (arith, k)), h.2)

neither : (a b : Bool) → (a || b) ≡ false → (a ≡ false) × (b ≡ false)
neither true b e = absurd cc
neither false b e = (refl, e)

bool_cases : (b : Bool) → (b ≡ true) ⊎ (b ≡ false)
bool_cases true = inl refl
bool_cases false = inr refl

-- ---- the least number that gives anything

option_cases : {A : Type 0} (o : Option A) → (o ≡ None) ⊎ ((x : A) × (o ≡ Some x))
option_cases None = inl refl
option_cases (Some x) = inr (x, refl)

or_some : {A : Type 0} (o next : Option A) (x : A) → or_next o next ≡ Some x →
    (o ≡ Some x) ⊎ ((o ≡ None) × (next ≡ Some x))
or_some None next x e = inr (refl, e)
or_some (Some y) next x e = inl e

or_none : {A : Type 0} (o next : Option A) → or_next o next ≡ None → (o ≡ None) × (next ≡ None)
or_none None next e = (refl, e)
or_none (Some y) next e = absurd cc

pub record IsFirst {A : Type 0} (f : ℕ → Option A) (n : ℕ) (x : A) : Type 0 where
  pub at : ℕ
  pub below : at < n
  pub gives : f at ≡ Some x
  pub none : (m : ℕ) → m < at → f m ≡ None

pub first_none : {A : Type 0} (f : ℕ → Option A) (n : ℕ) → first_below f n ≡ None → (m : ℕ) → m < n → f m ≡ None
unfolding first_below
first_none f zero e m h = absurd (omega arith)
first_none f (suc n) e m h =
    let parts = or_none (first_below f n) (f n) e in
    elim (cases_lt m n) [
      | inl less ↦ first_none f n parts.0 m less
      | inr more ↦
          let same : n ≡ m = omega (arith, h, more) in
          subst (λ k. f k ≡ None) same parts.1
    ]

pub first_some : {A : Type 0} (f : ℕ → Option A) (n : ℕ) (x : A) → first_below f n ≡ Some x → IsFirst f n x
unfolding first_below
first_some f zero x e = absurd cc
first_some f (suc n) x e = elim (or_some (first_below f n) (f n) x e) [
  | inl earlier ↦
      let r = first_some f n x earlier in
      record { at = r.at; below = (let b = r.below in omega (arith, b)); gives = r.gives; none = r.none }
  | inr here ↦ record { at = n; below = omega arith; gives = here.1; none = first_none f n here.0 }
]

-- ---- pairs

pub paired_sound : (pairs : List (ℕ × ℕ)) (a b : ℕ) → is_paired pairs a b ≡ true → Paired pairs a b
paired_sound [] a b e = absurd cc
paired_sound (p ∷ pairs) a b e = elim (eqb_tells a p.0) [
  | inl first ↦ elim (eqb_tells b p.1) [
    | inl second ↦ (0, omega arith, λ i. (sym first.1 i, sym second.1 i))
    | inr other ↦ later p pairs a b (paired_sound pairs a b (skip (eqb a p.0) (eqb b p.1) (is_paired pairs a b) (inr other.0) e))
  ]
  | inr other ↦ later p pairs a b (paired_sound pairs a b (skip (eqb a p.0) (eqb b p.1) (is_paired pairs a b) (inl other.0) e))
]

pub paired_complete : (pairs : List (ℕ × ℕ)) (a b : ℕ) → Paired pairs a b → is_paired pairs a b ≡ true
paired_complete pairs a b h =
    list_any-from_Contains (and_equiv (on_equiv (λ p. p.0) nat_eq_equiv) (on_equiv (λ p. p.1) nat_eq_equiv)) (a, b) pairs h

pub pair_below : (pairs : List (ℕ × ℕ)) (count a b : ℕ) → AllBelow pairs count → Paired pairs a b → (a < count) × (b < count)
pair_below pairs count a b below h =
    subst (λ p. (p.0 < count) × (p.1 < count)) h.2 (below h.0 (a, b) h.1)

and_both : (a b : Bool) → (a && b) ≡ true → (a ≡ true) × (b ≡ true)
and_both true b e = (refl, e)
and_both false b e = absurd cc

and_true : (a b : Bool) → a ≡ true → b ≡ true → (a && b) ≡ true
and_true true b p q = q
and_true false b p q = absurd cc

or_true : (a : Bool) → (a || true) ≡ true
or_true true = refl
or_true false = refl

end_below : (pairs : List (ℕ × ℕ)) (count goal a : ℕ) (way : List ℕ) → AllBelow pairs count →
    Chain (Paired pairs) a way goal → goal < count
end_below pairs count goal a [] below h = (pair_below pairs count a goal below h).1
end_below pairs count goal a (c ∷ way) below h = end_below pairs count goal c way below h.1

-- ---- ways

not_taken : (b : Bool) (o : Option (List ℕ)) (c : ℕ) → b ≡ true →
    (if b then option_map (λ way. c ∷ way) o else None) ≡ None → o ≡ None
not_taken true None c t e = refl
not_taken true (Some way) c t e = absurd cc
not_taken false o c t e = absurd cc

taken : (b : Bool) (o : Option (List ℕ)) (c : ℕ) (way : List ℕ) →
    (if b then option_map (λ rest. c ∷ rest) o else None) ≡ Some way →
    (b ≡ true) × ((rest : List ℕ) × (o ≡ Some rest) × (way ≡ c ∷ rest))
taken true None c way e = absurd cc
taken true (Some rest) c way e = (refl, (rest, refl, (let f : c ∷ rest ≡ way = cc in sym f)))
taken false o c way e = absurd cc

no_way : (b : Bool) (way : List ℕ) → b ≡ true → (if b then Some way else None) ≡ None → ⊥
no_way true way t e = absurd cc
no_way false way t e = absurd cc

only_way : (b : Bool) (way : List ℕ) → (if b then Some [] else None) ≡ Some way → (b ≡ true) × (way ≡ [])
only_way true way e = (refl, (let f : [] ≡ way = cc in sym f))
only_way false way e = absurd cc

-- The test tells the relation, which holds between indexes below the count alone.
pub record IsToldBy (R : ℕ → ℕ → Type 0) (leads : ℕ → ℕ → Bool) (count : ℕ) : Type 0 where
  pub sound : (a b : ℕ) → leads a b ≡ true → R a b
  pub complete : (a b : ℕ) → R a b → leads a b ≡ true
  pub below : (a b : ℕ) → R a b → (a < count) × (b < count)

-- of the ways with so many indexes between this one is the least
pub record IsLeastWay (R : ℕ → ℕ → Type 0) (goal a n : ℕ) (way : List ℕ) : Type 0 where
  pub chain : Chain R a way goal
  pub long : length way ≡ n
  pub least : (other : List ℕ) → Chain R a other goal → length other ≡ n → NoLater way other

none_equal : (y : ℕ) (xs : List ℕ) → list_any (eqb y) xs ≡ false → AllByRecursion (λ z. eqb y z ≡ false) xs
none_equal y [] e = tt
none_equal y (x ∷ xs) e =
    let parts = neither (eqb y x) (list_any (eqb y) xs) e in
    (parts.0, none_equal y xs parts.1)

any_cases : (y x : ℕ) (xs : List ℕ) → list_any (eqb y) (x ∷ xs) ≡ true → (y ≡ x) ⊎ (list_any (eqb y) xs ≡ true)
any_cases y x xs e = elim (eqb_tells y x) [
  | inl same ↦ inl same.1
  | inr other ↦ inr (subst (λ b. (b || list_any (eqb y) xs) ≡ true) other.0 e)
]

module _ (R : ℕ → ℕ → Type 0) (leads : ℕ → ℕ → Bool) (count : ℕ) (told : IsToldBy R leads count) (goal : ℕ) where
  way_none : (n a : ℕ) → least_way leads count goal n a ≡ None → (other : List ℕ) → length other ≡ n →
      Chain R a other goal → ⊥
  unfolding least_way
  way_none zero a e [] long h = no_way (leads a goal) [] (told.complete a goal h) e
  way_none zero a e (c ∷ other) long h = absurd (omega arith)
  way_none (suc n) a e [] long h = absurd (omega arith)
  way_none (suc n) a e (c ∷ other) long h =
      let step : ℕ → Option (List ℕ) =
      λ x. if leads a x then option_map (λ way. x ∷ way) (least_way leads count goal n x) else None in
      let here = first_none step count e c (told.below a c h.0).1 in
      way_none n c (not_taken (leads a c) (least_way leads count goal n c) c (told.complete a c h.0) here) other
      (omega arith) h.1

  least_among : (a c n : ℕ) (rest : List ℕ) → IsLeastWay R goal c n rest →
      ((x : ℕ) → x < c → R a x → (other : List ℕ) → length other ≡ n → Chain R x other goal → ⊥) →
      (other : List ℕ) → Chain R a other goal → length other ≡ suc n → NoLater (c ∷ rest) other
  least_among a c n rest best lower [] h long = absurd (omega arith)
  least_among a c n rest best lower (x ∷ other) h long = elim (cases_lt c x) [
    | inl less ↦ inl less
    | inr more ↦ elim (cases_lt x c) [
      | inl less ↦ absurd (lower x less h.0 other (omega arith) h.1)
      | inr equal ↦
          let same : x ≡ c = omega (arith, more, equal) in
          inr (sym same, best.least other (subst (λ z. Chain R z other goal) same h.1) (omega arith))
    ]
  ]

  way_some : (n a : ℕ) (way : List ℕ) → least_way leads count goal n a ≡ Some way → IsLeastWay R goal a n way
  unfolding least_way
  way_some zero a way e =
      let here = only_way (leads a goal) way e in
      subst (λ w. IsLeastWay R goal a 0 w) (sym here.1) (record {
        chain = told.sound a goal here.0;
        long = refl;
        least = λ other h long. tt;
      })
  way_some (suc n) a way e =
      let step : ℕ → Option (List ℕ) =
      λ x. if leads a x then option_map (λ rest. x ∷ rest) (least_way leads count goal n x) else None in
      let first = first_some step count way e in
      let c = first.at in
      let parts = taken (leads a c) (least_way leads count goal n c) c way first.gives in
      let rest = parts.1.0 in
      let best = way_some n c rest parts.1.1 in
      subst (λ w. IsLeastWay R goal a (suc n) w) (sym parts.1.2) (record {
        chain = (told.sound a c parts.0, best.chain);
        long = ap suc best.long;
        least = least_among a c n rest best (λ x less pair other long h.
            way_none n x (not_taken (leads a x) (least_way leads count goal n x) x (told.complete a x pair)
            (first.none x less)) other long h);
      })

  -- ---- ways without an index twice

  pub record IsDirectWay (a : ℕ) (way : List ℕ) : Type 0 where
    pub chain : Chain R a way goal
    pub distinct : IsDistinct eqb (a ∷ way)

  from_later : (a c : ℕ) (way : List ℕ) → Chain R c way goal → IsDistinct eqb (c ∷ way) →
      list_any (eqb a) (c ∷ way) ≡ true → (other : List ℕ) × IsDirectWay a other
  unfolding IsDistinct
  from_later a c [] h d again = elim (any_cases a c [] again) [
    | inl same ↦ subst (λ z. (other : List ℕ) × IsDirectWay z other) (sym same)
        ([], record { chain = h; distinct = d })
    | inr never ↦ absurd cc
  ]
  from_later a c (x ∷ way) h d again = elim (any_cases a c (x ∷ way) again) [
    | inl same ↦ subst (λ z. (other : List ℕ) × IsDirectWay z other) (sym same)
        (x ∷ way, record { chain = h; distinct = d })
    | inr on ↦ from_later a x way h.1 d.1 on
  ]

  direct : (a : ℕ) (way : List ℕ) → Chain R a way goal → (other : List ℕ) × IsDirectWay a other
  unfolding IsDistinct
  direct a [] h = ([], record { chain = h; distinct = (tt, tt) })
  direct a (c ∷ way) h =
      let found = direct c way h.1 in
      elim (bool_cases (list_any (eqb a) (c ∷ found.0))) [
        | inl again ↦ from_later a c found.0 found.1.chain found.1.distinct again
        | inr new ↦ (
          c ∷ found.0,
          record {
            chain = (h.0, found.1.chain);
            distinct = (none_equal a (c ∷ found.0) new, found.1.distinct);
          },
        )
      ]

  start_below : (a : ℕ) (way : List ℕ) → Chain R a way goal → a < count
  start_below a [] h = (told.below a goal h).0
  start_below a (c ∷ way) h = (told.below a c h.0).0

  all_below : (a : ℕ) (way : List ℕ) → Chain R a way goal → (q : ℕ) → list_any (eqb q) (a ∷ way) ≡ true → q < count
  all_below a [] h q e = elim (any_cases q a [] e) [
    | inl same ↦ subst (λ z. z < count) (sym same) (start_below a [] h)
    | inr never ↦ absurd cc
  ]
  all_below a (c ∷ way) h q e = elim (any_cases q a (c ∷ way) e) [
    | inl same ↦ subst (λ z. z < count) (sym same) (start_below a (c ∷ way) h)
    | inr on ↦ all_below c way h.1 q on
  ]

  -- where there is a way there is one with fewer indexes between than there are
  short : (a : ℕ) (way : List ℕ) → Chain R a way goal → (other : List ℕ) × Chain R a other goal × (length other < count)
  short a way h =
      let found = direct a way h in
      let few = length-le_from_distinct_below (a ∷ found.0) count found.1.distinct
      (all_below a found.0 found.1.chain) in
      (found.0, found.1.chain, omega (arith, few))

  pub no_way_to : (a : ℕ) → way_to leads count goal a ≡ None → (way : List ℕ) → Chain R a way goal → ⊥
  unfolding way_to
  no_way_to a e way h =
      let other = short a way h in
      way_none (length other.0) a (first_none (λ n. least_way leads count goal n a) count e (length other.0) other.2)
      other.0 refl other.1

  pub a_way_to : (a : ℕ) (way : List ℕ) → way_to leads count goal a ≡ Some way → Chain R a way goal
  unfolding way_to
  a_way_to a way e =
      let nearest = first_some (λ n. least_way leads count goal n a) count way e in
      (way_some nearest.at a way nearest.gives).chain

-- ---- cycles

mapped_none : (o : Option (List ℕ)) (a : ℕ) → option_map (λ way. a ∷ way) o ≡ None → o ≡ None
mapped_none None a e = refl
mapped_none (Some way) a e = absurd cc

mapped_some : (o : Option (List ℕ)) (a : ℕ) (cycle : List ℕ) → option_map (λ way. a ∷ way) o ≡ Some cycle →
    (way : List ℕ) × (o ≡ Some way) × (cycle ≡ a ∷ way)
mapped_some None a cycle e = absurd cc
mapped_some (Some way) a cycle e = (way, refl, (let f : a ∷ way ≡ cycle = cc in sym f))

module _ (R : ℕ → ℕ → Type 0) (leads : ℕ → ℕ → Bool) (count : ℕ) (told : IsToldBy R leads count) where
  cycle_none : first_cycle leads count ≡ None → HasNoCycle R
  unfolding first_cycle
  cycle_none e q h =
      no_way_to R leads count told q q (mapped_none (way_to leads count q q) q
      (first_none (λ a. option_map (λ way. a ∷ way) (way_to leads count a a)) count e q
      (start_below R leads count told q q h.0 h.1))) h.0 h.1

  cycle_some : (cycle : List ℕ) → first_cycle leads count ≡ Some cycle → IsCycle R cycle
  unfolding first_cycle way_to
  cycle_some cycle e =
      let first = first_some (λ a. option_map (λ way. a ∷ way) (way_to leads count a a)) count cycle e in
      let a = first.at in
      let parts = mapped_some (way_to leads count a a) a cycle first.gives in
      let way = parts.0 in
      let nearest = first_some (λ n. least_way leads count a n a) count way parts.1 in
      let best = way_some R leads count told a nearest.at a way nearest.gives in
      record {
        start = a;
        between = way;
        is = parts.2;
        closes = best.chain;
        first = λ q h. elim (cases_lt q a) [
          | inl less ↦
              absurd (no_way_to R leads count told q q (mapped_none (way_to leads count q q) q (first.none q less)) h.0 h.1)
          | inr more ↦ more
        ];
        shortest = λ other h. elim (cases_lt (length other) nearest.at) [
          | inl less ↦ absurd (way_none R leads count told a (length other) a (nearest.none (length other) less) other
              refl h)
          | inr more ↦ let l = best.long in omega (arith, l, more)
        ];
        least = λ other h long. best.least other h (long ∙ best.long);
      }

-- ---- there is one such cycle

later_both : (xs ys : List ℕ) → length xs ≡ length ys → NoLater xs ys → NoLater ys xs → xs ≡ ys
later_both [] [] e a b = refl
later_both [] (y ∷ ys) e a b = absurd (omega arith)
later_both (x ∷ xs) [] e a b = absurd (omega arith)
later_both (x ∷ xs) (y ∷ ys) e (inl a) (inl b) = absurd (omega arith)
later_both (x ∷ xs) (y ∷ ys) e (inl a) (inr b) = absurd (let f = b.0 in omega arith)
later_both (x ∷ xs) (y ∷ ys) e (inr a) (inl b) = absurd (let f = a.0 in omega arith)
later_both (x ∷ xs) (y ∷ ys) e (inr a) (inr b) = ap₂ (λ z zs. z ∷ zs) a.0 (later_both xs ys (omega arith) a.1 b.1)

same_cycle : (R : ℕ → ℕ → Type 0) (xs ys : List ℕ) → IsCycle R xs → IsCycle R ys → xs ≡ ys
same_cycle R xs ys c d =
    let same : c.start ≡ d.start =
    le_antisymm (c.first d.start (d.between, d.closes)) (d.first c.start (c.between, c.closes)) in
    let there : Chain R d.start c.between d.start = subst (λ s. Chain R s c.between s) same c.closes in
    let back : Chain R c.start d.between c.start = subst (λ s. Chain R s d.between s) (sym same) d.closes in
    let long : length c.between ≡ length d.between =
    le_antisymm (c.shortest d.between back) (d.shortest c.between there) in
    let rest = later_both c.between d.between long (c.least d.between back (sym long)) (d.least c.between there long) in
    c.is ∙ ap₂ (λ s b. s ∷ b) same rest ∙ sym d.is

module _ (R : ℕ → ℕ → Type 0) (leads : ℕ → ℕ → Bool) (count : ℕ) (told : IsToldBy R leads count) where
  cycle_is : (cycle : List ℕ) → IsCycle R cycle → first_cycle leads count ≡ Some cycle
  cycle_is cycle c = elim (option_cases (first_cycle leads count)) [
    | inl none ↦ absurd (cycle_none R leads count told none c.start (c.between, c.closes))
    | inr some ↦ some.1 ∙ ap Some (same_cycle R some.0 cycle (cycle_some R leads count told some.0 some.1) c)
  ]

  cycle_isnt : HasNoCycle R → first_cycle leads count ≡ None
  cycle_isnt none = elim (option_cases (first_cycle leads count)) [
    | inl is ↦ is
    | inr some ↦
        let c = cycle_some R leads count told some.0 some.1 in
        absurd (none c.start (c.between, c.closes))
  ]

-- ---- of containment

paired_told : (pairs : List (ℕ × ℕ)) (count : ℕ) → AllBelow pairs count → IsToldBy (Paired pairs) (is_paired pairs) count
paired_told pairs count below = record {
  sound = paired_sound pairs;
  complete = paired_complete pairs;
  below = λ a b h. pair_below pairs count a b below h;
}

pub contained_is : (pairs : List (ℕ × ℕ)) (count : ℕ) (cycle : List ℕ) → AllBelow pairs count →
    IsCycle (Paired pairs) cycle → first_cycle (is_paired pairs) count ≡ Some cycle
contained_is pairs count cycle below c =
    cycle_is (Paired pairs) (is_paired pairs) count (paired_told pairs count below) cycle c

pub contained_isnt : (pairs : List (ℕ × ℕ)) (count : ℕ) → AllBelow pairs count → HasNoCycle (Paired pairs) →
    first_cycle (is_paired pairs) count ≡ None
contained_isnt pairs count below none =
    cycle_isnt (Paired pairs) (is_paired pairs) count (paired_told pairs count below) none

-- ---- of what comes before what

module _ (containers edges : List (ℕ × ℕ)) (count : ℕ) (below : AllBelow containers count)
    (edges_below : AllBelow edges count) where
  belongs_sound : (r c : ℕ) → does_belong containers count r c ≡ true → Belongs containers r c
  belongs_sound r c e = elim (eqb_tells c r) [
    | inl same ↦ inl same.1
    | inr other ↦ elim (option_cases (way_to (is_paired containers) count r c)) [
      | inl none ↦ absurd (true≢false (sym (subst (λ b. (b || is_some (way_to (is_paired containers) count r c)) ≡ true)
          other.0 e) ∙ ap is_some none))
      | inr some ↦ inr (
        some.0,
        a_way_to (Paired containers) (is_paired containers) count
            (paired_told containers count below) r c some.0 some.1,
      )
    ]
  ]

  belongs_complete : (r c : ℕ) → Belongs containers r c → does_belong containers count r c ≡ true
  belongs_complete r c (inl same) = ap (λ b. b || is_some (way_to (is_paired containers) count r c)) (eq-eqb c r same)
  belongs_complete r c (inr h) = elim (option_cases (way_to (is_paired containers) count r c)) [
    | inl none ↦ absurd (no_way_to (Paired containers) (is_paired containers) count (paired_told containers count below)
        r c none h.0 h.1)
    | inr some ↦ ap (λ o. eqb c r || is_some o) some.1 ∙ or_true (eqb c r)
  ]

  belongs_below : (r c : ℕ) → c < count → Belongs containers r c → r < count
  belongs_below r c less (inl same) = subst (λ z. z < count) same less
  belongs_below r c less (inr h) = end_below containers count r c h.0 below h.1

  direct_sound : (es : List (ℕ × ℕ)) → ((x y : ℕ) → Paired es x y → Paired edges x y) → (r s : ℕ) →
      list_any (λ e. does_belong containers count r e.0 && does_belong containers count s e.1) es ≡ true →
      Direct containers edges r s
  direct_sound [] among r s e = absurd cc
  direct_sound (x ∷ es) among r s e =
      elim (bool_cases (does_belong containers count r x.0 && does_belong containers count s x.1)) [
        | inl here ↦
            let parts = and_both (does_belong containers count r x.0) (does_belong containers count s x.1) here in
            record {
              earlier = x.0;
              later = x.1;
              edge = among x.0 x.1 (0, omega arith, refl);
              source = belongs_sound r x.0 parts.0;
              target = belongs_sound s x.1 parts.1;
            }
        | inr other ↦
            direct_sound es (λ a b h. among a b (later x es a b h)) r s (subst (λ b. (b || list_any
            (λ y. does_belong containers count r y.0 && does_belong containers count s y.1) es) ≡ true) other e)
      ]

  direct_complete : (es : List (ℕ × ℕ)) (r s x y : ℕ) → Paired es x y → Belongs containers r x → Belongs containers s y →
      list_any (λ e. does_belong containers count r e.0 && does_belong containers count s e.1) es ≡ true
  direct_complete [] r s x y h p q = absurd (let k = h.1 in omega arith)
  direct_complete (e ∷ es) r s x y (zero, h, is) p q =
      ap (λ b. b || list_any (λ z. does_belong containers count r z.0 && does_belong containers count s z.1) es)
      (ap (λ z. does_belong containers count r z.0 && does_belong containers count s z.1) is
      ∙ and_true (does_belong containers count r x) (does_belong containers count s y) (belongs_complete r x p)
      (belongs_complete s y q))
  direct_complete (e ∷ es) r s x y (suc k, h, is) p q =
      ap (λ b. (does_belong containers count r e.0 && does_belong containers count s e.1) || b)
      (direct_complete es r s x y (k, omega (arith, h), is) p q)
      ∙ or_true (does_belong containers count r e.0 && does_belong containers count s e.1)

  pub direct_told : IsToldBy (Direct containers edges) (is_direct containers edges count) count
  direct_told = record {
    sound = direct_sound edges (λ x y h. h);
    complete = λ r s d. direct_complete edges r s d.earlier d.later d.edge d.source d.target;
    below = λ r s d.
        let ends = pair_below edges count d.earlier d.later edges_below d.edge in
        (belongs_below r d.earlier ends.0 d.source, belongs_below s d.later ends.1 d.target);
  }

  pub before_is : (cycle : List ℕ) → IsCycle (Direct containers edges) cycle →
      first_cycle (is_direct containers edges count) count ≡ Some cycle
  before_is cycle c =
      cycle_is (Direct containers edges) (is_direct containers edges count) count direct_told cycle c

  pub before_isnt : HasNoCycle (Direct containers edges) → first_cycle (is_direct containers edges count) count ≡ None
  before_isnt none =
      cycle_isnt (Direct containers edges) (is_direct containers edges count) count direct_told none

-- ---- of a graph

pub built_cycle : (containers edges : List (ℕ × ℕ)) (count : ℕ) (g : Relations) → AllBelow containers count →
    IsBuilt count containers edges g →
    first_cycle (is_direct g.containers g.edges g.count) g.count ≡ cycle_in containers edges count
built_cycle containers edges count g below built =
    ap (λ x. first_cycle (is_direct x.containers x.edges x.count) x.count) built.0
    ∙ sym (ap (λ o. or_next o (first_cycle (is_direct containers edges count) count))
    (contained_isnt containers count below built.1))

pub contained_cycle : (containers edges : List (ℕ × ℕ)) (count : ℕ) (cycle : List ℕ) → AllBelow containers count →
    IsCycle (Paired containers) cycle → cycle_in containers edges count ≡ Some cycle
contained_cycle containers edges count cycle below c =
    ap (λ o. or_next o (first_cycle (is_direct containers edges count) count)) (contained_is containers count cycle below c)

-- ---- where a cycle begins, and what it means that none is told

module _ (R : ℕ → ℕ → Type 0) (leads : ℕ → ℕ → Bool) (count : ℕ) (told : IsToldBy R leads count) where
  starts : (cycle : List ℕ) → IsCycle R cycle → (a : ℕ) × (rest : List ℕ) × (cycle ≡ a ∷ rest) × (a < count)
  starts cycle c = (c.start, c.between, c.is, start_below R leads count told c.start c.start c.between c.closes)

  cycle_cases : ((first_cycle leads count ≡ None) × HasNoCycle R)
      ⊎ ((cycle : List ℕ) × (first_cycle leads count ≡ Some cycle) × IsCycle R cycle)
  cycle_cases = elim (option_cases (first_cycle leads count)) [
    | inl none ↦ inl (none, cycle_none R leads count told none)
    | inr some ↦ inr (some.0, some.1, cycle_some R leads count told some.0 some.1)
  ]

-- the answer doesn't depend on which test tells the relation, nor below which count
any_count : (R : ℕ → ℕ → Type 0) (leads others : ℕ → ℕ → Bool) (count more : ℕ) → IsToldBy R leads count →
    IsToldBy R others more → first_cycle others more ≡ first_cycle leads count
any_count R leads others count more told told_too = elim (cycle_cases R leads count told) [
  | inl none ↦ cycle_isnt R others more told_too none.1 ∙ sym none.0
  | inr some ↦ cycle_is R others more told_too some.0 some.2 ∙ sym some.1
]

module _ (R : ℕ → ℕ → Type 0) (leads : ℕ → ℕ → Bool) (count : ℕ) (told : IsToldBy R leads count) (goal a : ℕ) where
  way_is : (way : List ℕ) → way_to leads count goal a ≡ Some way → IsWay R goal a way
  unfolding way_to
  way_is way e =
      let nearest = first_some (λ n. least_way leads count goal n a) count way e in
      let best = way_some R leads count told goal nearest.at a way nearest.gives in
      record {
        chain = best.chain;
        shortest = λ other h. elim (cases_lt (length other) nearest.at) [
          | inl less ↦ absurd (way_none R leads count told goal (length other) a (nearest.none (length other) less) other
              refl h)
          | inr more ↦ let l = best.long in omega (arith, l, more)
        ];
        least = λ other h long. best.least other h (long ∙ best.long);
      }

  pub way_cases : ((way_to leads count goal a ≡ None) × ((way : List ℕ) → ¬ (Chain R a way goal)))
      ⊎ ((way : List ℕ) × (way_to leads count goal a ≡ Some way) × IsWay R goal a way)
  way_cases = elim (option_cases (way_to leads count goal a)) [
    | inl none ↦ inl (none, λ way h. no_way_to R leads count told goal a none way h)
    | inr some ↦ inr (some.0, some.1, way_is some.0 some.1)
  ]

one_way : (R : ℕ → ℕ → Type 0) (goal a : ℕ) (xs ys : List ℕ) → IsWay R goal a xs → IsWay R goal a ys → xs ≡ ys
one_way R goal a xs ys v w =
    let long : length xs ≡ length ys = le_antisymm (v.shortest ys w.chain) (w.shortest xs v.chain) in
    later_both xs ys long (v.least ys w.chain (sym long)) (w.least xs v.chain long)

any_way : (R : ℕ → ℕ → Type 0) (leads : ℕ → ℕ → Bool) (count more : ℕ) → IsToldBy R leads count →
    IsToldBy R leads more → (goal a : ℕ) → way_to leads more goal a ≡ way_to leads count goal a
any_way R leads count more told told_too goal a = elim (way_cases R leads count told goal a) [
  | inl none ↦ elim (way_cases R leads more told_too goal a) [
    | inl none_too ↦ none_too.0 ∙ sym none.0
    | inr some ↦ absurd (none.1 some.0 some.2.chain)
  ]
  | inr some ↦ elim (way_cases R leads more told_too goal a) [
    | inl none ↦ absurd (none.1 some.0 some.2.chain)
    | inr some_too ↦
        some_too.1 ∙ ap Some (one_way R goal a some_too.0 some.0 some_too.2 some.2) ∙ sym some.1
  ]
]

below_more : (pairs : List (ℕ × ℕ)) (count more : ℕ) → AllBelow pairs count → count ≤ more → AllBelow pairs more
below_more pairs count more below less k d h =
    let here = below k d h in
    (let a = here.0 in omega (arith, less, a), let b = here.1 in omega (arith, less, b))

module _ (containers edges : List (ℕ × ℕ)) (count : ℕ) (below : AllBelow containers count)
    (edges_below : AllBelow edges count) where
  abbrev contained_told : IsToldBy (Paired containers) (is_paired containers) count
  contained_told = paired_told containers count below

  abbrev before_told : IsToldBy (Direct containers edges) (is_direct containers edges count) count
  before_told = direct_told containers edges count below edges_below

  pub in_starts : (cycle : List ℕ) → cycle_in containers edges count ≡ Some cycle →
      (a : ℕ) × (rest : List ℕ) × (cycle ≡ a ∷ rest) × (a < count)
  in_starts cycle e = elim (or_some (first_cycle (is_paired containers) count)
      (first_cycle (is_direct containers edges count) count) cycle e) [
        | inl held ↦ starts (Paired containers) (is_paired containers) count contained_told cycle
            (cycle_some (Paired containers) (is_paired containers) count contained_told cycle held)
        | inr next ↦ starts (Direct containers edges) (is_direct containers edges count) count before_told cycle
            (cycle_some (Direct containers edges) (is_direct containers edges count) count before_told cycle next.1)
      ]

  pub none_in : cycle_in containers edges count ≡ None →
      HasNoCycle (Paired containers) × HasNoCycle (Direct containers edges)
  none_in e =
      let parts = or_none (first_cycle (is_paired containers) count)
      (first_cycle (is_direct containers edges count) count) e in (
        cycle_none (Paired containers) (is_paired containers) count contained_told parts.0,
        cycle_none (Direct containers edges) (is_direct containers edges count) count before_told parts.1,
      )

pub told_in : CycleInIsTheCycle
told_in containers edges count below edges_below =
    elim (cycle_cases (Paired containers) (is_paired containers) count (paired_told containers count below)) [
      | inr held ↦ subst (λ o. IsCycleIn containers edges o)
          (sym (ap (λ o. or_next o (first_cycle (is_direct containers edges count) count)) held.1)) (inl held.2)
      | inl none ↦ elim (cycle_cases (Direct containers edges) (is_direct containers edges count) count
          (direct_told containers edges count below edges_below)) [
            | inr before ↦ subst (λ o. IsCycleIn containers edges o)
                (sym (ap₂ or_next none.0 before.1)) (inr (none.1, before.2))
            | inl neither ↦ subst (λ o. IsCycleIn containers edges o) (sym (ap₂ or_next none.0 neither.0))
                (none.1, neither.1)
          ]
    ]

pub in_any_count : CycleOfAnyCount
in_any_count containers edges count more below edges_below less =
    let below_too = below_more containers count more below less in
    let edges_below_too = below_more edges count more edges_below less in
    ap₂ or_next
    (any_count (Paired containers) (is_paired containers) (is_paired containers) count more
    (paired_told containers count below) (paired_told containers more below_too))
    (any_count (Direct containers edges) (is_direct containers edges count) (is_direct containers edges more) count more
    (direct_told containers edges count below edges_below)
    (direct_told containers edges more below_too edges_below_too))

pub way_in_any_count : WayOfAnyCount
way_in_any_count pairs count more goal a below less =
    any_way (Paired pairs) (is_paired pairs) count more (paired_told pairs count below)
    (paired_told pairs more (below_more pairs count more below less)) goal a

pub way_is_told : WayIsTheShortest
way_is_told pairs count goal a below =
    elim (way_cases (Paired pairs) (is_paired pairs) count (paired_told pairs count below) goal a) [
      | inl none ↦ subst (λ o. MatchOption o ((between : List ℕ) → ¬ (Chain (Paired pairs) a between goal))
          (λ way. IsWay (Paired pairs) goal a way)) (sym none.0) none.1
      | inr some ↦ subst (λ o. MatchOption o ((between : List ℕ) → ¬ (Chain (Paired pairs) a between goal))
          (λ way. IsWay (Paired pairs) goal a way)) (sym some.1) some.2
    ]
