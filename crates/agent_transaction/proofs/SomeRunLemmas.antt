-- Where a catalog has no cycle, there is a run of it from any content.
use Rattle.std.proofs.Common.{◌≡◌, ◌⊎◌, ◌↔◌, ℕ, Bool, true, false, List, [], ◌∷◌, ◌++◌, map, length, inl}
use Rattle.std.proofs.Common.{inr, refl, sym, subst, ap, ◌∙◌, true≢false}
use Rattle.rel_graph.specs.CatalogPairs.{containment, relations}
use Rattle.rel_graph.proofs.OrderLemmas.{some_order, direct_decided, before_decided}
use Rattle.agent_machine.specs.Contents.{Content}
use Rattle.agent_machine.specs.declared.report_line.ReportLine.{ReportLine}
use Rattle.agent_transaction.proofs.CatalogLemmas.{containment_below, relations_below, signalling_below}
use Rattle.agent_transaction.proofs.MadeTurns.{told, turn_made}
use Rattle.agent_transaction.proofs.SecondRunLemmas.{pair_of, comes_in, signals_in}
use Rattle.agent_transaction.proofs.TaskOrders.{none_in, in_front, in_rest, in_cases}
use Rattle.agent_transaction.specs.Runs.{Turned, Reaches, has_failed, signals, IsTurned, AreTurned, signalling, tasks_at}
use Rattle.agent_transaction.specs.SecondRuns.{SomeToldRun}
use Rattle.agent_transaction.specs.ToldTurns.{turn}
use Rattle.agent_transaction.specs.Turns.{skipped_line}
use Rattle.agent_transaction.specs.declared.task.Task.{Task}

bool_cases : (b : Bool) → (b ≡ true) ⊎ (b ≡ false)
bool_cases true = inl refl
bool_cases false = inr refl

module _ (P : ReportLine → Bool) (R : ℕ → ℕ → Type 0) (decided : (a b : ℕ) → R a b ⊎ ¬ (R a b)) (x : ℕ) where
  none_reaches : (t : Turned) (ts : List Turned) → ¬ (Reaches P R ts x) → ¬ ((P t.line ≡ true) × R t.at x) →
      ¬ (Reaches P R (t ∷ ts) x)
  none_reaches t ts none here r = elim (in_cases t r.0 ts r.1) [
    | inl same ↦ here (ap (λ (u : Turned). P u.line) same ∙ r.2, subst (λ (u : Turned). R u.at x) (sym same) r.3)
    | inr rest ↦ none (r.0, rest, r.2, r.3)
  ]

  pub reach_decided : (ts : List Turned) → Reaches P R ts x ⊎ ¬ (Reaches P R ts x)
  reach_decided [] = inr (λ r. none_in r.0 r.1)
  reach_decided (t ∷ ts) = elim (reach_decided ts) [
    | inl r ↦ inl (r.0, in_rest t r.0 ts r.1, r.2, r.3)
    | inr none ↦ elim (bool_cases (P t.line)) [
      | inl is ↦ elim (decided t.at x) [
        | inl leads ↦ inl (t, in_front t ts, is, leads)
        | inr far ↦ inr (none_reaches t ts none (λ h. far h.1))
      ]
      | inr isnt ↦ inr (none_reaches t ts none (λ h. true≢false (sym h.0 ∙ isnt)))
    ]
  ]

  pub flag_of : (ts : List Turned) → (due : Bool) × ((due ≡ true) ↔ Reaches P R ts x)
  flag_of ts = elim (reach_decided ts) [
    | inl r ↦ (true, (λ e. r, λ s. refl))
    | inr none ↦ (false, (λ e. absurd (true≢false (sym e)), λ r. absurd (none r)))
  ]

module _ (Comes Signals : ℕ → ℕ → Type 0) (comes_decided : (a b : ℕ) → Comes a b ⊎ ¬ (Comes a b))
    (signals_decided : (a b : ℕ) → Signals a b ⊎ ¬ (Signals a b)) where
  -- turns of these tasks, from this content
  pub record Made (earlier : List Turned) (tasks : List (ℕ × Task)) (c : Content) (f : ℕ) : Type 0 where
    pub ts : List Turned
    pub whose : map pair_of ts ≡ tasks
    pub left : Content
    pub faults : ℕ
    pub are : AreTurned Comes Signals earlier ts (told c f) (told left faults)

  abbrev turn_with : ℕ × Task → Content → ℕ → ReportLine → Content → ℕ → Turned
  turn_with p c f line d g = record { at = p.0; task = p.1; before = told c f; line = line; after = told d g }

  put_first : (earlier : List Turned) (p : ℕ × Task) (tasks : List (ℕ × Task)) (c : Content) (f : ℕ) (line : ReportLine)
      (d : Content) (g : ℕ) → IsTurned Comes Signals earlier (turn_with p c f line d g) →
      Made (earlier ++ turn_with p c f line d g ∷ []) tasks d g → Made earlier (p ∷ tasks) c f
  put_first earlier p tasks c f line d g turned rest = record {
    ts = turn_with p c f line d g ∷ rest.ts;
    whose = ap (λ l. p ∷ l) rest.whose;
    left = rest.left;
    faults = rest.faults;
    are = (refl, turned, rest.are);
  }

  pub run_made : (tasks : List (ℕ × Task)) (earlier : List Turned) (c : Content) (f : ℕ) → Made earlier tasks c f
  run_made [] earlier c f = record { ts = []; whose = refl; left = c; faults = f; are = refl }
  run_made (p ∷ tasks) earlier c f = elim (reach_decided has_failed Comes comes_decided p.0 earlier) [
    | inl blocked ↦
        put_first earlier p tasks c f (skipped_line p.1.what) c f (inl (blocked, refl, refl))
        (run_made tasks (earlier ++ turn_with p c f (skipped_line p.1.what) c f ∷ []) c f)
    | inr free ↦
        let due = flag_of signals Signals signals_decided p.0 earlier in
        let made = turn_made p.1 due.0 c f in
        let line = (turn p.1 due.0 c).0 in
        let d = (turn p.1 due.0 c).1 in
        put_first earlier p tasks c f line d made.0 (inr (free, (due.0, due.1, made.1)))
        (run_made tasks (earlier ++ turn_with p c f line d made.0 ∷ []) d made.0)
  ]

pub some_told_run : SomeToldRun
some_told_run c found kept free =
    let below = containment_below c.resources c.edges kept in
    let edges_below = relations_below c.resources c.edges kept in
    let signals_below = signalling_below c.resources c.edges kept in
    let order = some_order (containment c.resources) (relations c.edges) (length c.resources) below edges_below free.1 in
    let made = run_made (comes_in c) (signals_in c)
    (before_decided (containment c.resources) (relations c.edges) (length c.resources) below edges_below)
    (direct_decided (containment c.resources) (signalling c.edges) (length c.resources) below signals_below)
    (tasks_at c.resources order.0) [] found 0 in (
      record { node = c.node; lines = map (λ (t : Turned). t.line) made.ts },
      made.left,
      record {
        before = told found 0;
        after = told made.left made.faults;
        run = record {
          order = order.0;
          ordered = record { contained = free.0; in_order = order.1 };
          node = refl;
          lines = record { turned = made.ts; whose = made.whose; told = refl; each = made.are };
        };
        finds = refl;
        leaves = refl;
      },
    )
