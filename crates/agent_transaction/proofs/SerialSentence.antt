-- What a report says of a catalog, where one turn was taken after another.
use Rattle.std.proofs.Common.{◌≡◌, ℕ, zero, suc, ◌<◌, List, [], ◌∷◌, ◌++◌, map, take, length, Option, None, Some, Contains}
use Rattle.std.proofs.Common.{slice_get, option_map, inl, inr, refl, sym, subst, ap, ◌∙◌, arith, append-nil}
use Rattle.std.proofs.Common.{append_assoc}
use Rattle.std.proofs.lemmas.List.{take-map}
use Rattle.std.proofs.lemmas.Option.{slice_get-map, slice_get-get_or, slice_get_within, get_or_from_slice_get}
use Rattle.rel_graph.specs.Before.{Direct}
use Rattle.rel_graph.specs.CatalogPairs.{containment, relations}
use Rattle.rel_graph.specs.Orders.{IsOrder}
use Rattle.res_core.specs.Catalogs.{Catalog, IsCatalog}
use Rattle.res_core.specs.declared.held.Held.{Held}
use Rattle.agent_machine.specs.Machines.{Told}
use Rattle.agent_machine.specs.declared.report_line.ReportLine.{ReportLine}
use Rattle.agent_transaction.proofs.SecondRunLemmas.{pair_of, comes_in, signals_in}
use Rattle.agent_transaction.proofs.SentenceLemmas.{Knows, whose, says}
use Rattle.agent_transaction.proofs.TaskFits.{taken}
use Rattle.agent_transaction.proofs.TaskOrders.{none_in, in_cases, pair_in, in_pairs, taken_some, taken_none, tasks_known}
use Rattle.agent_transaction.proofs.TaskOrders.{tasks_have, next_one, Once, tasks_once}
use Rattle.agent_transaction.specs.Runs.{Turned, IsTurned, AreTurned, task_at, tasks_at}
use Rattle.agent_transaction.specs.Sentences.{Says, InOrder, RunSays}
use Rattle.agent_transaction.specs.declared.task.Task.{Task}

-- ---- places

same_some : {X : Type 0} (x y : X) → Some x ≡ Some y → x ≡ y
same_some x y e = cc e

pub place_has : {X : Type 0} (xs : List X) (k : ℕ) (x : X) → slice_get xs k ≡ Some x → Contains xs x
place_has xs k x e = (k, slice_get_within xs k x e, get_or_from_slice_get xs k x x e)

pub has_place : {X : Type 0} (xs : List X) (x : X) → Contains xs x → (k : ℕ) × (slice_get xs k ≡ Some x)
has_place xs x c = (c.0, slice_get-get_or xs c.0 x c.1 ∙ ap Some c.2)

pub taken_place : {X : Type 0} (k : ℕ) (xs : List X) (x : X) → Contains (take k xs) x →
    (j : ℕ) × (j < k) × (slice_get xs j ≡ Some x)
taken_place zero [] x c = absurd (none_in x c)
taken_place zero (y ∷ xs) x c = absurd (none_in x c)
taken_place (suc k) [] x c = absurd (none_in x c)
taken_place (suc k) (y ∷ xs) x c = elim (in_cases y x (take k xs) c) [
  | inl e ↦ (0, omega arith, ap Some e)
  | inr r ↦ (let p = taken_place k xs x r in (suc p.0, (let h = p.1 in omega (arith, h)), p.2))
]

pub once_place : (ts : List Turned) (k j : ℕ) (t u : Turned) → Once (map pair_of ts) → slice_get ts k ≡ Some t →
    slice_get ts j ≡ Some u → t.at ≡ u.at → k ≡ j
once_place [] k j t u once a b e = absurd (cc a)
once_place (s ∷ ts) zero zero t u once a b e = refl
once_place (s ∷ ts) zero (suc j) t u once a b e =
    absurd (once.0 (u.at, u.task) (in_pairs ts u (place_has ts j u b))
    (sym e ∙ sym (ap (λ (v : Turned). v.at) (same_some s t a))))
once_place (s ∷ ts) (suc k) zero t u once a b e =
    absurd (once.0 (t.at, t.task) (in_pairs ts t (place_has ts k t a))
    (e ∙ sym (ap (λ (v : Turned). v.at) (same_some s u b))))
once_place (s ∷ ts) (suc k) (suc j) t u once a b e = ap suc (once_place ts k j t u once.1 a b e)

-- ---- what comes before a task stands in front of it

module _ (hs : List Held) where
  pub record Front (order : List ℕ) (k : ℕ) (p : ℕ × Task) : Type 0 where
    pub front : List ℕ
    pub back : List ℕ
    pub is : front ++ p.0 ∷ back ≡ order
    pub tasks : tasks_at hs front ≡ take k (tasks_at hs order)

  abbrev Fronts : List ℕ → ℕ × Task → Type 0
  Fronts order p = (k : ℕ) → slice_get (tasks_at hs order) k ≡ Some p → Front order k p

  module _ (x : ℕ) (order : List ℕ) (p : ℕ × Task) (rest : Fronts order p) where
    passed : task_at hs x ≡ None → Fronts (x ∷ order) p
    passed none k e =
        let skip : tasks_at hs (x ∷ order) ≡ tasks_at hs order =
        ap (λ l. l ++ tasks_at hs order) (taken_none hs x none) in
        let f = rest k (ap (λ l. slice_get l k) (sym skip) ∙ e) in
        record {
          front = x ∷ f.front;
          back = f.back;
          is = ap (λ l. x ∷ l) f.is;
          tasks = ap (λ l. l ++ tasks_at hs f.front) (taken_none hs x none) ∙ f.tasks ∙ ap (take k) (sym skip);
        }

    module _ (task : Task) (is : task_at hs x ≡ Some task) where
      first : tasks_at hs (x ∷ order) ≡ (x, task) ∷ tasks_at hs order
      first = ap (λ l. l ++ tasks_at hs order) (taken_some hs x task is)

      found : Fronts (x ∷ order) p
      found zero e =
          let here : (x, task) ≡ p = same_some (x, task) p (ap (λ l. slice_get l 0) (sym first) ∙ e) in
          record {
            front = [];
            back = order;
            is = ap (λ (q : ℕ × Task). q.0 ∷ order) (sym here);
            tasks = sym (ap (take 0) first);
          }
      found (suc k) e =
          let f = rest k (ap (λ l. slice_get l (suc k)) (sym first) ∙ e) in
          record {
            front = x ∷ f.front;
            back = f.back;
            is = ap (λ l. x ∷ l) f.is;
            tasks = ap (λ l. l ++ tasks_at hs f.front) (taken_some hs x task is) ∙ ap (λ l. (x, task) ∷ l) f.tasks
                ∙ sym (ap (take (suc k)) first);
          }

    by_task : (o : Option Task) → task_at hs x ≡ o → Fronts (x ∷ order) p
    by_task None is = passed is
    by_task (Some task) is = found task is

  in_front_of : (order : List ℕ) (p : ℕ × Task) → Fronts order p
  in_front_of [] p k e = absurd (cc e)
  in_front_of (x ∷ order) p k e = by_task x order p (in_front_of order p) (task_at hs x) refl k e

module _ (Comes Signals : ℕ → ℕ → Type 0) where
  turned_at : (e ts : List Turned) (k : ℕ) (t : Turned) (m after : Told) → AreTurned Comes Signals e ts m after →
      slice_get ts k ≡ Some t → IsTurned Comes Signals (e ++ take k ts) t
  turned_at e [] k t m after are is = absurd (cc is)
  turned_at e (s ∷ ts) zero t m after are is =
      subst (λ (v : Turned). IsTurned Comes Signals (e ++ []) v) (same_some s t is)
      (subst (λ l. IsTurned Comes Signals l s) (sym (append-nil e)) are.1)
  turned_at e (s ∷ ts) (suc k) t m after are is =
      subst (λ l. IsTurned Comes Signals l t) (append_assoc e (s ∷ []) (take k ts))
      (turned_at (e ++ s ∷ []) ts k t s.after after are.2 is)

-- ---- the run

module _ (c : Catalog) (kept : IsCatalog c.resources c.edges) (order : List ℕ)
    (io : IsOrder (Direct (containment c.resources) (relations c.edges)) (length c.resources) order)
    (ts : List Turned) (start after : Told) (whose_are : map pair_of ts ≡ tasks_at c.resources order)
    (are : AreTurned (comes_in c) (signals_in c) [] ts start after) where
  once : Once (map pair_of ts)
  once = subst Once (sym whose_are)
      (tasks_once (Direct (containment c.resources) (relations c.edges)) c.resources (length c.resources) order io)

  known : (t : Turned) → Contains ts t → task_at c.resources t.at ≡ Some t.task
  known t k = (tasks_known c.resources order t.at t.task
      (subst (λ l. Contains l (t.at, t.task)) whose_are (in_pairs ts t k))).1

  all : (x : ℕ) (task : Task) → task_at c.resources x ≡ Some task → (t : Turned) × Contains ts t × (t.at ≡ x)
  all x task is =
      let place = taken c.resources x task is in
      let listed = io.all x (slice_get_within c.resources x place.0 place.1) in
      let t = pair_in ts (x, task) (subst (λ l. Contains l (x, task)) (sym whose_are)
      (tasks_have c.resources order x task listed is)) in
      (t.0, t.1, t.2)

  -- what comes before the turn at a place had its turn at an earlier one
  before_at : (k : ℕ) (t : Turned) → slice_get ts k ≡ Some t → (v : Turned) → Contains ts v → comes_in c v.at t.at →
      Contains (take k ts) v
  before_at k t is v has comes =
      let pair : slice_get (tasks_at c.resources order) k ≡ Some (t.at, t.task) =
      ap (λ l. slice_get l k) (sym whose_are) ∙ slice_get-map pair_of ts k ∙ ap (option_map pair_of) is in
      let f = in_front_of c.resources order (t.at, t.task) k pair in
      let next = next_one (Direct (containment c.resources) (relations c.edges)) (length c.resources) order io f.front
      f.back t.at f.is in
      let there = tasks_have c.resources f.front v.at v.task (next.ready v.at comes) (known v has) in
      let taken_are : tasks_at c.resources f.front ≡ map pair_of (take k ts) =
      f.tasks ∙ ap (take k) (sym whose_are) ∙ take-map pair_of k ts in
      let u = pair_in (take k ts) (v.at, v.task) (subst (λ l. Contains l (v.at, v.task)) taken_are there) in
      let p = taken_place k ts u.0 u.1 in
      let q = has_place ts v has in
      let same_place : p.0 ≡ q.0 = once_place ts p.0 q.0 u.0 v once p.2 q.1 u.2 in
      let same : u.0 ≡ v = same_some u.0 v (sym p.2 ∙ ap (slice_get ts) same_place ∙ q.1) in
      subst (λ w. Contains (take k ts) w) same u.1

  abbrev Sits : ℕ → ℕ → Type 0
  Sits x k = (u : Turned) × (slice_get ts k ≡ Some u) × (u.at ≡ x)

  knows : (t : Turned) → Contains ts t → Knows c ts t
  knows t has =
      let p = has_place ts t has in
      record {
        earlier = take p.0 ts;
        turned = turned_at (comes_in c) (signals_in c) [] ts p.0 t start after are p.1;
        among = λ v k. let q = taken_place p.0 ts v k in place_has ts q.0 v q.2;
        before = λ v k comes. before_at p.0 t p.1 v k comes;
      }

  placed : (t : Turned) → Contains ts t → (k : ℕ) × (slice_get (map (λ (u : Turned). u.line) ts) k ≡ Some t.line)
  placed t has =
      let p = has_place ts t has in
      (p.0, slice_get-map (λ (u : Turned). u.line) ts p.0 ∙ ap (option_map (λ (u : Turned). u.line)) p.1)

  at_place : (k : ℕ) (line : ReportLine) → slice_get (map (λ (u : Turned). u.line) ts) k ≡ Some line →
      (t : Turned) × Contains ts t × (t.line ≡ line) × Sits t.at k
  at_place k line e = on (slice_get ts k) refl where
    on : (o : Option Turned) → slice_get ts k ≡ o → (t : Turned) × Contains ts t × (t.line ≡ line) × Sits t.at k
    on None is = absurd (no_line (sym e ∙ slice_get-map (λ (u : Turned). u.line) ts k
        ∙ ap (option_map (λ (u : Turned). u.line)) is)) where
          no_line : Some line ≡ None → ⊥
          no_line e = cc e
    on (Some t) is = (
      t,
      place_has ts k t is,
      same_some t.line line (sym (slice_get-map (λ (u : Turned). u.line) ts k
          ∙ ap (option_map (λ (u : Turned). u.line)) is) ∙ e),
      (t, is, refl),
    )

  one_place : (x k j : ℕ) → Sits x k → Sits x j → k ≡ j
  one_place x k j a b = once_place ts k j a.0 b.0 once a.1 b.1 (a.2 ∙ sym b.2)

  serial_says : Says c (map (λ (u : Turned). u.line) ts)
  serial_says = says c kept ts (map (λ (u : Turned). u.line) ts) Sits known all knows placed at_place one_place

  serial_order : InOrder c (map (λ (u : Turned). u.line) ts)
  serial_order x y line earlier a b comes =
      let here = whose c kept ts (map (λ (u : Turned). u.line) ts) Sits known all knows placed at_place one_place x line a in
      let there = whose c kept ts (map (λ (u : Turned). u.line) ts) Sits known all knows placed at_place one_place y earlier b in
      let t = here.sits.0 in
      let leads : comes_in c there.t.at t.at =
      subst (λ z. comes_in c z t.at) (sym there.at_is) (subst (λ z. comes_in c y z) (sym here.sits.2) comes) in
      let p = taken_place a.place ts there.t (before_at a.place t here.sits.1 there.t there.has leads) in
      let same : p.0 ≡ b.place =
      once_place ts p.0 b.place there.t there.sits.0 once p.2 there.sits.1 (there.at_is ∙ sym there.sits.2) in
      subst (λ z. z < a.place) same p.1

pub run_says : RunSays
run_says c report before after kept r =
    subst (λ l. Says c l × InOrder c l) r.lines.told (
      serial_says c kept r.order r.ordered.in_order r.lines.turned before after r.lines.whose r.lines.each,
      serial_order c kept r.order r.ordered.in_order r.lines.turned before after r.lines.whose r.lines.each,
    )
