-- The run of one turn after another, turn by turn the same as another fair run.
use Rattle.std.proofs.Common.{◌≡◌, ◌⊎◌, ℕ, zero, suc, ◌<◌, List, [], ◌∷◌, ◌++◌, map, length, take, get_or, Option, None}
use Rattle.std.proofs.Common.{Some, Contains, inl, inr, refl, sym, subst, ap, ap₂, ◌∙◌, arith, append-nil, append_assoc}
use Rattle.std.proofs.Common.{length-append, option_map, option_to_list}
use Rattle.std.proofs.Math.Seq.{get_or-append_seam}
use Rattle.std.proofs.lemmas.List.{map-append, take_at, get_or_default}
use Rattle.std.proofs.lemmas.List.Elements.{Contains-push, Contains-push_cases, Contains-append_left}
use Rattle.std.proofs.lemmas.List.Elements.{Contains-append_right, Contains-append_cases}
use Rattle.rel_graph.specs.Chains.{Closure}
use Rattle.rel_graph.specs.Orders.{IsNext, IsOrder}
use Rattle.res_core.specs.declared.held.Held.{Held}
use Rattle.agent_machine.specs.Contents.{Content}
use Rattle.agent_machine.specs.Machines.{Told}
use Rattle.agent_machine.specs.States.{record_of}
use Rattle.agent_transaction.proofs.RecordLemmas.{Differ, Rises}
use Rattle.agent_transaction.proofs.SecondRunLemmas.{pair_of}
use Rattle.agent_transaction.proofs.TaskOrders.{none_in, in_front, pair_in, in_pairs, taken_some, taken_none}
use Rattle.agent_transaction.proofs.TaskOrders.{tasks_append, tasks_known, tasks_have, next_one}
use Rattle.agent_transaction.proofs.ToldLemmas.{Tells, same_told, turn_told}
use Rattle.agent_transaction.specs.Runs.{Turned, IsTurned, AreTurned, task_at, taken_at, tasks_at}
use Rattle.agent_transaction.specs.ToldTurns.{turn}
use Rattle.agent_transaction.specs.declared.task.Task.{Task}
use Rattle.agent_transaction.specs.declared.work.Work.{Work}
use Rattle.agent_transaction.specs.declared.work.Work.TheVariants as work
use Rattle.wide_apply.proofs.FairRuns.{key, Asks, Leaves, Same, Inv, Fair, fair_same}
use Rattle.wide_apply.proofs.LocalTurns.{FileAlike, Framed, framed_same, turn_framed}

pub file_itself : (w : Work) (c : Content) → FileAlike w c c
file_itself (work.Set ss) c = tt
file_itself work.Run c = tt
file_itself (work.RunUnless file s) c = refl
file_itself work.Idle c = tt

module _ (Comes Signals : ℕ → ℕ → Type 0) (N : List (ℕ × Task)) (found : Content)
    (apart : (x y : ℕ) (t u : Task) → Contains N (x, t) → Contains N (y, u) →
    ((x ≡ y) × (t ≡ u)) ⊎ Differ (key t) (key u)) where
  -- one more turn is known
  pub inv_more : (earlier : List Turned) (m n : Content) (t : Turned) → Inv Comes Signals N found earlier m →
      Framed t.task.what m n →
      Leaves t (record_of t.task.what n.document.state) → ((v : Turned) → Contains earlier v → ¬ (v.at ≡ t.at)) →
      Contains N (t.at, t.task) →
      Inv Comes Signals N found (earlier ++ t ∷ []) n
  inv_more earlier m n t i f left new has = record {
    texts = f.texts ∙ i.texts;
    numbers = f.numbers ∙ i.numbers;
    rises = f.rises i.rises;
    done = λ u c. elim (Contains-push_cases earlier t u c) [
      | inl old ↦
          let far : Differ (key u.task) (key t.task) = elim (apart u.at t.at u.task t.task (i.among u old) has) [
            | inl same ↦ absurd (new u old same.0)
            | inr far ↦ far
          ] in
          subst (Leaves u) (sym (f.others (key u.task) far)) (i.done u old)
      | inr e ↦ subst (λ (s : Turned). Leaves s (record_of s.task.what n.document.state)) e left
    ];
    others = λ q far. f.others q (far t (Contains-push earlier t))
        ∙ i.others q (λ u c. far u (Contains-append_left earlier (t ∷ []) u c));
    among = λ u c. elim (Contains-push_cases earlier t u c) [
      | inl old ↦ i.among u old
      | inr e ↦ subst (λ (s : Turned). Contains N (s.at, s.task)) e has
    ];
  }

  pub inv_start : Rises found.document.state → Inv Comes Signals N found [] found
  inv_start rises = record {
    texts = refl;
    numbers = refl;
    rises = rises;
    done = λ u c. absurd (none_in u c);
    others = λ q far. refl;
    among = λ u c. absurd (none_in u c);
  }

-- ---- one turn after another

module _ (R Signals : ℕ → ℕ → Type 0) (hs : List Held) (count : ℕ) (order : List ℕ) (io : IsOrder R count order)
    (found : Content)
    (within : (x y : ℕ) → Signals x y → Closure R x y)
    (apart : (x y : ℕ) (t u : Task) → Contains (tasks_at hs order) (x, t) → Contains (tasks_at hs order) (y, u) →
    ((x ≡ y) × (t ≡ u)) ⊎ Differ (key t) (key u))
    (ordered : (x y : ℕ) (t u : Task) → Contains (tasks_at hs order) (x, t) → Contains (tasks_at hs order) (y, u) →
    Asks t.work (key u) →
    Closure R y x ⊎ Closure R x y)
    (no_numbers : found.failing ≡ [])
    (all : List Turned) (fair : (w : Turned) → Contains all w →
    (g : Fair (Closure R) Signals (tasks_at hs order) found w)
    × ((x : Turned) → Contains g.earlier x → Contains all x)) where
  abbrev N : List (ℕ × Task)
  N = tasks_at hs order

  pub record Ended (ts : List Turned) (after : Told) : Type 0 where
    pub last : Content
    pub tells : Tells after last
    pub inv : Inv (Closure R) Signals (tasks_at hs order) found ts last
    pub same : (v w : Turned) → Contains ts v → Contains all w → v.at ≡ w.at → v.task ≡ w.task → Same v w

  one_pair : (a b : ℕ × Task) (xs ys : List (ℕ × Task)) → a ∷ xs ≡ b ∷ ys → (a ≡ b) × (xs ≡ ys)
  one_pair a b xs ys e = (cc e, cc e)

  module _ (e : List Turned) (c : Content) (m : Told) (told : Tells m c)
      (inv : Inv (Closure R) Signals (tasks_at hs order) found e c)
      (done : List ℕ) (pairs : map pair_of e ≡ tasks_at hs done)
      (closed : (x y : ℕ) → Contains done x → Closure R y x → Contains done y) where
    was_done : (v : Turned) → Contains e v → Contains done v.at
    was_done v a = (tasks_known hs done v.at v.task (subst (λ l. Contains l (v.at, v.task)) pairs (in_pairs e v a))).0

    module _ (t : Turned) (begins : t.before ≡ m) (turned : IsTurned (Closure R) Signals e t)
        (has : Contains (tasks_at hs order) (t.at, t.task))
        (unlisted : ¬ (Contains done t.at)) (ready : (y : ℕ) → Closure R y t.at → Contains done y) where
      new_one : (v : Turned) → Contains e v → ¬ (v.at ≡ t.at)
      new_one v a same = unlisted (subst (λ z. Contains done z) same (was_done v a))

      fair_one : Fair (Closure R) Signals (tasks_at hs order) found t
      fair_one = record {
        earlier = e;
        machine = c;
        inv = inv;
        found_here = c;
        tells = ap (λ (x : Told). x.content) begins ∙ told;
        texts = refl;
        numbers = refl;
        rises = inv.rises;
        own = refl;
        file = file_itself t.task.work c;
        turned = turned;
        before = λ y task k comes.
            let known = tasks_known hs order y task k in
            let there = tasks_have hs done y task (ready y comes) known.1 in
            pair_in e (y, task) (subst (λ l. Contains l (y, task)) (sym pairs) there);
        after = λ v a comes. unlisted (closed v.at t.at (was_done v a) comes);
        new = new_one;
        has = has;
      }

      pub record Stepped : Type 0 where
        pub next : Content
        pub tells : Tells t.after next
        pub inv_next : Inv (Closure R) Signals (tasks_at hs order) found (e ++ t ∷ []) next

      step_by : IsTurned (Closure R) Signals e t → Stepped
      unfolding fair_one
      step_by (inl h) = record {
        next = c;
        tells = same_told t.before t.after c fair_one.tells h.2;
        inv_next = inv_more (Closure R) Signals (tasks_at hs order) found apart e c c t inv (framed_same t.task.what c)
            (record { left = c; tells = same_told t.before t.after c fair_one.tells h.2; record_is = refl })
            new_one has;
      }
      step_by (inr h) =
          let done_turn = turn_told t.task h.1.0 t.line t.before t.after c fair_one.tells h.1.2 in
          let d = (turn t.task h.1.0 c).1 in
          record {
            next = d;
            tells = done_turn.1;
            inv_next = inv_more (Closure R) Signals (tasks_at hs order) found apart e c d t inv
                (turn_framed t.task h.1.0 c)
                (record { left = d; tells = done_turn.1; record_is = refl }) new_one has;
          }

      pub stepped : Stepped
      stepped = step_by turned

  -- the turns of these indexes, after those that are done
  abbrev SerialOn : List ℕ → Type 0
  SerialOn rest = (done : List ℕ) (e ts : List Turned) (c : Content) (m after : Told) →
      done ++ rest ≡ order → Tells m c →
      map pair_of e ≡ tasks_at hs done → map pair_of ts ≡ tasks_at hs rest →
      Inv (Closure R) Signals (tasks_at hs order) found e c →
      ((x y : ℕ) → Contains done x → Closure R y x → Contains done y) →
      ((v w : Turned) → Contains e v → Contains all w → v.at ≡ w.at → v.task ≡ w.task → Same v w) →
      AreTurned (Closure R) Signals e ts m after → Ended (e ++ ts) after

  serial_none : SerialOn []
  serial_none done e [] c m after split told pairs more inv closed same are = record {
    last = c;
    tells = same_told m after c told are;
    inv = subst (λ l. Inv (Closure R) Signals (tasks_at hs order) found l c) (sym (append-nil e)) inv;
    same = λ v w a b. same v w (subst (λ l. Contains l v) (append-nil e) a) b;
  }
  serial_none done e (t ∷ ts) c m after split told pairs more inv closed same are = absurd (cc more)

  module _ (x : ℕ) (rest : List ℕ) (others : SerialOn rest) (done : List ℕ) (split : done ++ x ∷ rest ≡ order)
      (closed : (x y : ℕ) → Contains done x → Closure R y x → Contains done y) where
    next : IsNext R count done x
    next = next_one R count order io done rest x split

    split_on : (done ++ x ∷ []) ++ rest ≡ order
    split_on = append_assoc done (x ∷ []) rest ∙ split

    closed_on : (a b : ℕ) → Contains (done ++ x ∷ []) a → Closure R b a → Contains (done ++ x ∷ []) b
    closed_on a b k comes = Contains-append_left done (x ∷ []) b (elim (Contains-push_cases done x a k) [
      | inl old ↦ closed a b old comes
      | inr is ↦ next.ready b (subst (λ z. Closure R b z) (sym is) comes)
    ])

    module _ (e : List Turned) (c : Content) (m after : Told) (told : Tells m c)
        (pairs : map pair_of e ≡ tasks_at hs done)
        (inv : Inv (Closure R) Signals (tasks_at hs order) found e c)
        (same : (v w : Turned) → Contains e v → Contains all w → v.at ≡ w.at → v.task ≡ w.task → Same v w) where
      with_task : (task : Task) → task_at hs x ≡ Some task → (us : List Turned) →
          map pair_of us ≡ (x, task) ∷ tasks_at hs rest →
          AreTurned (Closure R) Signals e us m after → Ended (e ++ us) after
      unfolding fair_one
      with_task task is [] p are = absurd (cc p)
      with_task task is (t ∷ us) p are =
          let heads = one_pair (pair_of t) (x, task) (map pair_of us) (tasks_at hs rest) p in
          let place : t.at ≡ x = ap (λ (q : ℕ × Task). q.0) heads.0 in
          let has : Contains (tasks_at hs order) (t.at, t.task) =
          subst (λ (q : ℕ × Task). Contains (tasks_at hs order) q) (sym heads.0)
          (tasks_have hs order x task
          (subst (λ l. Contains l x) split (Contains-append_right done (x ∷ rest) x (in_front x rest))) is) in
          let unlisted : ¬ (Contains done t.at) = λ k. next.unlisted (subst (λ z. Contains done z) place k) in
          let ready : (y : ℕ) → Closure R y t.at → Contains done y =
          λ y comes. next.ready y (subst (λ z. Closure R y z) place comes) in
          let f = fair_one e c m told inv done pairs closed t are.0 are.1 has unlisted ready in
          let s = stepped e c m told inv done pairs closed t are.0 are.1 has unlisted ready in
          let same_on : (v w : Turned) → Contains (e ++ t ∷ []) v → Contains all w → v.at ≡ w.at →
          v.task ≡ w.task → Same v w =
          λ v w a b at_same task_same. elim (Contains-push_cases e t v a) [
            | inl old ↦ same v w old b at_same task_same
            | inr new ↦
                let g = fair w b in
                subst (λ (k : Turned). Same k w) new
                (fair_same (Closure R) Signals (tasks_at hs order) found within apart ordered no_numbers t w
                (ap (λ (k : Turned). k.at) new ∙ at_same) (ap (λ (k : Turned). k.task) new ∙ task_same) f g.0
                (λ y z j k. same y z j (g.1 z k)))
          ] in
          subst (λ l. Ended l after) (append_assoc e (t ∷ []) us)
          (others (done ++ x ∷ []) (e ++ t ∷ []) us s.next t.after after split_on s.tells
          (map-append pair_of e (t ∷ []) ∙ ap₂ (λ a b. a ++ b) pairs
          (ap (λ q. q ∷ []) heads.0 ∙ sym (taken_some hs x task is) ∙ sym (append-nil (taken_at hs x)))
          ∙ sym (tasks_append hs done (x ∷ [])))
          heads.1 s.inv_next closed_on same_on are.2)

      by_task : (o : Option Task) → task_at hs x ≡ o → (ts : List Turned) →
          map pair_of ts ≡ taken_at hs x ++ tasks_at hs rest →
          AreTurned (Closure R) Signals e ts m after → Ended (e ++ ts) after
      by_task None is ts more are =
          others (done ++ x ∷ []) e ts c m after split_on told
          (pairs ∙ sym (append-nil (tasks_at hs done))
          ∙ ap (λ l. tasks_at hs done ++ l) (sym (append-nil (taken_at hs x) ∙ taken_none hs x is))
          ∙ sym (tasks_append hs done (x ∷ [])))
          (more ∙ ap (λ l. l ++ tasks_at hs rest) (taken_none hs x is)) inv closed_on same are
      by_task (Some task) is ts more are =
          with_task task is ts (more ∙ ap (λ l. l ++ tasks_at hs rest) (taken_some hs x task is)) are

  serial : (rest : List ℕ) → SerialOn rest
  serial [] = serial_none
  serial (x ∷ rest) = λ done e ts c m after split told pairs more inv closed same are.
      by_task x rest (serial rest) done split closed e c m after told pairs inv same (task_at hs x) refl ts more are

  pub serial_same : (ts : List Turned) (m after : Told) → Tells m found → Rises found.document.state →
      map pair_of ts ≡ tasks_at hs order →
      AreTurned (Closure R) Signals [] ts m after → Ended ts after
  serial_same ts m after told rises pairs are =
      serial order [] [] ts found m after refl told refl pairs
      (inv_start (Closure R) Signals (tasks_at hs order) found apart rises)
      (λ x y k comes. absurd (none_in x k)) (λ v w a b. absurd (none_in v a)) are
