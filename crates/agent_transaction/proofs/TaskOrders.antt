-- The tasks of a catalog in its order: which stand there, and that none stands twice.
use Rattle.std.proofs.Common.{◌≡◌, ◌⊎◌, ℕ, zero, suc, ◌<◌, Bool, true, false, if◌then◌else◌, List, [], ◌∷◌, ◌++◌, map, length}
use Rattle.std.proofs.Common.{take, get_or, Option, None, Some, Contains, inl, inr, refl, sym, subst, ap, ◌∙◌, arith}
use Rattle.std.proofs.Common.{append_assoc, length-append, option_map, option_to_list}
use Rattle.std.proofs.Math.Seq.{get_or-append_seam}
use Rattle.std.proofs.lemmas.List.{take_at, get_or_default}
use Rattle.std.proofs.lemmas.List.Elements.{Contains-push, Contains-append_left}
use Rattle.std.proofs.lemmas.List.Elements.{Contains-append_right, Contains-append_cases}
use Rattle.rel_graph.specs.CatalogPairs.{relations}
use Rattle.rel_graph.specs.Chains.{Paired}
use Rattle.rel_graph.specs.Graphs.{edge_pair}
use Rattle.rel_graph.specs.Orders.{IsNext, IsOrder}
use Rattle.res_core.specs.Catalogs.{Catalog}
use Rattle.res_core.specs.declared.edge.Edge.{Edge}
use Rattle.res_core.specs.declared.held.Held.{Held}
use Rattle.agent_transaction.proofs.SecondRunLemmas.{pair_of, comes_in, signals_in}
use Rattle.agent_transaction.specs.Runs.{Turned, signal_of, signalling, task_at, taken_at, tasks_at}
use Rattle.agent_transaction.specs.declared.task.Task.{Task}

pub none_in : {X : Type 0} (x : X) → Contains [] x → ⊥
none_in x c = let h = c.1 in absurd (omega (arith, h))

pub in_front : {X : Type 0} (x : X) (xs : List X) → Contains (x ∷ xs) x
in_front x xs = (0, omega arith, refl)

pub in_rest : {X : Type 0} (y x : X) (xs : List X) → Contains xs x → Contains (y ∷ xs) x
in_rest y x xs c = (suc c.0, (let h = c.1 in omega (arith, h)), c.2)

pub in_cases : {X : Type 0} (y x : X) (xs : List X) → Contains (y ∷ xs) x → (y ≡ x) ⊎ Contains xs x
in_cases y x xs (zero, h, e) = inl e
in_cases y x xs (suc k, h, e) = inr (k, omega (arith, h), e)

-- among turns of these pairs there is one of this pair
pub pair_in : (ts : List Turned) (p : ℕ × Task) → Contains (map pair_of ts) p →
    (t : Turned) × Contains ts t × (t.at ≡ p.0) × (t.task ≡ p.1)
pair_in [] p c = absurd (none_in p c)
pair_in (t ∷ ts) p c = elim (in_cases (pair_of t) p (map pair_of ts) c) [
  | inl e ↦ (t, in_front t ts, ap (λ (q : ℕ × Task). q.0) e, ap (λ (q : ℕ × Task). q.1) e)
  | inr r ↦ (let k = pair_in ts p r in (k.0, in_rest t k.0 ts k.1, k.2, k.3))
]

pub in_pairs : (ts : List Turned) (t : Turned) → Contains ts t → Contains (map pair_of ts) (t.at, t.task)
in_pairs [] t c = absurd (none_in t c)
in_pairs (u ∷ ts) t c = elim (in_cases u t ts c) [
  | inl e ↦ subst (λ (s : Turned). Contains (pair_of u ∷ map pair_of ts) (s.at, s.task)) e
      (in_front (pair_of u) (map pair_of ts))
  | inr r ↦ in_rest (pair_of u) (t.at, t.task) (map pair_of ts) (in_pairs ts t r)
]

module _ (hs : List Held) where
  pub taken_some : (x : ℕ) (task : Task) → task_at hs x ≡ Some task → taken_at hs x ≡ (x, task) ∷ []
  taken_some x task e = ap (λ o. option_to_list (option_map (λ k. (x, k)) o)) e

  pub taken_none : (x : ℕ) → task_at hs x ≡ None → taken_at hs x ≡ []
  taken_none x e = ap (λ o. option_to_list (option_map (λ (k : Task). (x, k)) o)) e

  pub tasks_append : (xs ys : List ℕ) → tasks_at hs (xs ++ ys) ≡ tasks_at hs xs ++ tasks_at hs ys
  tasks_append [] ys = refl
  tasks_append (x ∷ xs) ys = ap (λ l. taken_at hs x ++ l) (tasks_append xs ys)
      ∙ sym (append_assoc (taken_at hs x) (tasks_at hs xs) (tasks_at hs ys))

  same_some : (a b : Task) → Some a ≡ Some b → a ≡ b
  same_some a b e = cc e

  in_taken : (x y : ℕ) (task : Task) (o : Option Task) → task_at hs x ≡ o →
      Contains {X = ℕ × Task} (option_to_list (option_map (λ k. (x, k)) o)) (y, task) →
      (x ≡ y) × (task_at hs y ≡ Some task)
  in_taken x y task None e c = absurd (none_in (y, task) c)
  in_taken x y task (Some k) e c = elim (in_cases (x, k) (y, task) [] c) [
    | inl same ↦
        let place : x ≡ y = ap (λ (q : ℕ × Task). q.0) same in
        let one : k ≡ task = ap (λ (q : ℕ × Task). q.1) same in
        (place, subst (λ z. task_at hs z ≡ Some task) place (e ∙ ap Some one))
    | inr none ↦ absurd (none_in (y, task) none)
  ]

  -- what stands among the tasks
  pub tasks_known : (xs : List ℕ) (y : ℕ) (task : Task) → Contains (tasks_at hs xs) (y, task) →
      Contains xs y × (task_at hs y ≡ Some task)
  tasks_known [] y task c = absurd (none_in (y, task) c)
  tasks_known (x ∷ xs) y task c = elim (Contains-append_cases (taken_at hs x) (tasks_at hs xs) (y, task) c) [
    | inl here ↦
        let k = in_taken x y task (task_at hs x) refl here in
        (subst (λ z. Contains (x ∷ xs) z) k.0 (in_front x xs), k.1)
    | inr there ↦ (let k = tasks_known xs y task there in (in_rest x y xs k.0, k.1))
  ]

  pub tasks_have : (xs : List ℕ) (y : ℕ) (task : Task) → Contains xs y → task_at hs y ≡ Some task →
      Contains (tasks_at hs xs) (y, task)
  tasks_have [] y task c e = absurd (none_in y c)
  tasks_have (x ∷ xs) y task c e = elim (in_cases x y xs c) [
    | inl same ↦ Contains-append_left (taken_at hs x) (tasks_at hs xs) (y, task)
        (subst (λ l. Contains l (y, task)) (sym (taken_some x task (ap (task_at hs) same ∙ e)))
        (subst (λ z. Contains {X = ℕ × Task} ((x, task) ∷ []) (z, task)) same (in_front (x, task) [])))
    | inr rest ↦ Contains-append_right (taken_at hs x) (tasks_at hs xs) (y, task) (tasks_have xs y task rest e)
  ]

-- ---- an order

module _ (R : ℕ → ℕ → Type 0) (count : ℕ) (order : List ℕ) (io : IsOrder R count order) where
  pub next_one : (done rest : List ℕ) (x : ℕ) → done ++ x ∷ rest ≡ order → IsNext R count done x
  next_one done rest x split =
      let less : length done < length order = subst (λ l. length done < length l) split
      (let e = length-append done (x ∷ rest) in omega (arith, e)) in
      let n = io.each (length done) less in
      subst (λ l. IsNext R count l x) (ap (take (length done)) (sym split) ∙ take_at done (x ∷ rest) (length done) refl)
      (subst (λ y. IsNext R count (take (length done) order) y)
      (ap (λ l. get_or l (length done) 0) (sym split) ∙ get_or-append_seam done x rest 0) n)

  -- what is still to come is not listed yet
  pub not_yet : (rest done : List ℕ) → done ++ rest ≡ order → (y : ℕ) → Contains rest y → ¬ (Contains done y)
  not_yet [] done split y c = absurd (none_in y c)
  not_yet (x ∷ rest) done split y c = elim (in_cases x y rest c) [
    | inl e ↦ subst (λ z. ¬ (Contains done z)) e (next_one done rest x split).unlisted
    | inr later ↦ λ k. not_yet rest (done ++ x ∷ []) (append_assoc done (x ∷ []) rest ∙ split) y later
        (Contains-append_left done (x ∷ []) y k)
  ]

  pub order_below : (y : ℕ) → Contains order y → y < count
  order_below y k = subst (λ z. z < count) (get_or_default order k.0 0 y k.1 ∙ k.2) (io.each k.0 k.1).below

-- no index stands twice
abbrev pub Once : List (ℕ × Task) → Type 0
Once [] = Unit {0}
Once (p ∷ ps) = ((q : ℕ × Task) → Contains ps q → ¬ (q.0 ≡ p.0)) × Once ps

module _ (R : ℕ → ℕ → Type 0) (hs : List Held) (count : ℕ) (order : List ℕ) (io : IsOrder R count order) where
  once_from : (rest done : List ℕ) → done ++ rest ≡ order → Once (tasks_at hs rest)
  once_from [] done split = tt
  once_from (x ∷ rest) done split = on (once_from rest (done ++ x ∷ []) (append_assoc done (x ∷ []) rest ∙ split))
      (task_at hs x) refl where
        on : Once (tasks_at hs rest) → (o : Option Task) → task_at hs x ≡ o → Once (tasks_at hs (x ∷ rest))
        on next None is = subst (λ l. Once (l ++ tasks_at hs rest)) (sym (taken_none hs x is)) next
        on next (Some task) is = subst (λ l. Once (l ++ tasks_at hs rest)) (sym (taken_some hs x task is)) (
          λ q k same.
              let there = (tasks_known hs rest q.0 q.1 k).0 in
              not_yet R count order io rest (done ++ x ∷ []) (append_assoc done (x ∷ []) rest ∙ split) x
              (subst (λ z. Contains rest z) same there) (Contains-push done x),
          next,
        )

  -- no task of the order stands twice
  pub tasks_once : Once (tasks_at hs order)
  tasks_once = once_from order [] refl

-- ---- what signals comes before

pub signal_is_edge : (es : List Edge) (x y : ℕ) → Paired (signalling es) x y → Paired (relations es) x y
signal_is_edge [] x y c = absurd (none_in (x, y) c)
signal_is_edge (e ∷ es) x y c = elim (Contains-append_cases (signal_of e) (signalling es) (x, y) c) [
  | inl here ↦ by_signal e.signal here
  | inr there ↦ in_rest (edge_pair e) (x, y) (relations es) (signal_is_edge es x y there)
] where
  by_signal : (b : Bool) → Contains (if b then edge_pair e ∷ [] else []) (x, y) →
      Contains (edge_pair e ∷ relations es) (x, y)
  by_signal true k = elim (in_cases (edge_pair e) (x, y) [] k) [
    | inl same ↦ subst (λ p. Contains (edge_pair e ∷ relations es) p) same (in_front (edge_pair e) (relations es))
    | inr none ↦ absurd (none_in (x, y) none)
  ]
  by_signal false k = absurd (none_in (x, y) k)

pub signals_come : (c : Catalog) (x y : ℕ) → signals_in c x y → comes_in c x y
signals_come c x y s = (
  [],
  record {
    earlier = s.earlier;
    later = s.later;
    edge = signal_is_edge c.edges s.earlier s.later s.edge;
    source = s.source;
    target = s.target;
  },
)
