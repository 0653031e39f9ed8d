-- What a report says of a catalog, where each turn knows all that comes before it.
use Rattle.std.proofs.Common.{◌≡◌, ◌↔◌, ℕ, Bool, true, false, ◌&&◌, List, [], ◌∷◌, Some, Result, Ok, Err}
use Rattle.std.proofs.Common.{Contains, slice_get, option_map, option_and_then, inl, inr, refl, sym, subst, ap, ◌∙◌}
use Rattle.res_core.specs.Catalogs.{Catalog, IsCatalog, reference_of}
use Rattle.res_core.specs.NativeTypes.{native_of}
use Rattle.pp_values.specs.declared.reference.Reference.{Reference}
use Rattle.agent_machine.specs.Machines.{Told}
use Rattle.agent_machine.specs.declared.report_line.ReportLine.{ReportLine}
use Rattle.agent_machine.specs.declared.status.Status.TheVariants as status
use Rattle.agent_transaction.proofs.SecondRunLemmas.{comes_in, signals_in}
use Rattle.agent_transaction.proofs.TaskFits.{taken, some_task, same_task, what_of, place_at}
use Rattle.agent_transaction.proofs.TaskOrders.{signals_come}
use Rattle.agent_transaction.specs.Runs.{Turned, Reaches, has_failed, signals, IsTurned, task_at}
use Rattle.agent_transaction.specs.Sentences.{IsNative, HasLine, refreshes, SomeLine, Says, OneRefresh, RefreshedOnce}
use Rattle.agent_transaction.specs.Tasks.{task_of, task_in}
use Rattle.agent_transaction.specs.Turns.{Finishes, IsTurn, Works, line_of}
use Rattle.agent_transaction.specs.declared.ended.Ended.{Ended}
use Rattle.agent_transaction.specs.declared.ended.Ended.TheVariants as ended
use Rattle.agent_transaction.specs.declared.task.Task.{Task}

-- ---- one turn

both_true : (a b : Bool) → (a && b) ≡ true → (a ≡ true) × (b ≡ true)
both_true true b e = (refl, e)
both_true false b e = absurd (cc e)

is_both : (a b : Bool) → a ≡ true → b ≡ true → (a && b) ≡ true
is_both true b p q = q
is_both false b p q = absurd (cc p)

module _ (what : Reference) (noop : Bool) (changes : List (List ℕ)) where
  item_is : (r : Result Bool (List ℕ)) → (line_of what noop changes r).item ≡ what
  item_is (Ok b) = refl
  item_is (Err fault) = refl

  not_skipped : (noop : Bool) (changes : List (List ℕ)) (r : Result Bool (List ℕ)) →
      (line_of what noop changes r).status ≡ status.Skipped → ⊥
  not_skipped noop [] (Ok b) e = cc e
  not_skipped true (c ∷ cs) (Ok b) e = cc e
  not_skipped false (c ∷ cs) (Ok b) e = cc e
  not_skipped noop cs (Err fault) e = cc e

  not_failed : (noop : Bool) (changes : List (List ℕ)) (b : Bool) →
      (line_of what noop changes (Ok b)).status ≡ status.Failed → ⊥
  not_failed noop [] b e = cc e
  not_failed true (c ∷ cs) b e = cc e
  not_failed false (c ∷ cs) b e = cc e

  abbrev IsRefreshed : Bool → Result Bool (List ℕ) → Type 0
  IsRefreshed due r =
      ((line_of what noop changes r).refreshed ≡ true)
      ↔ ((due ≡ true) × ¬ ((line_of what noop changes r).status ≡ status.Failed))

  refreshed_by : (due : Bool) (end : Ended) (r : Result Bool (List ℕ)) (middle after : Told) →
      Finishes due what end r middle after → IsRefreshed due r
  refreshed_by true ended.Whole (Ok b) middle after f = (λ e. (refl, not_failed noop changes b), λ h. f.0)
  refreshed_by true ended.Whole (Err fault) middle after f = (λ e. absurd (cc e), λ h. absurd (h.1 refl))
  refreshed_by false ended.Whole r middle after f = subst (IsRefreshed false) (sym f.0)
      (λ e. absurd (cc e), λ h. absurd (let e = h.0 in cc e))
  refreshed_by due (ended.Failed fault) r middle after f = subst (IsRefreshed due) (sym f.0)
      (λ e. absurd (cc e), λ h. absurd (h.1 refl))
  refreshed_by due ended.Memory r middle after f = absurd f

turn_refreshed : (task : Task) (signalled : Bool) (line : ReportLine) (before after : Told) →
    IsTurn task signalled line before after →
    (line.refreshed ≡ true) ↔ (((signalled && task.refreshes) ≡ true) × ¬ (line.status ≡ status.Failed))
turn_refreshed task signalled line before after t =
    subst (λ (l : ReportLine). (l.refreshed ≡ true) ↔ (((signalled && task.refreshes) ≡ true)
    × ¬ (l.status ≡ status.Failed)))
    (sym t.told)
    (refreshed_by task.what task.noop t.changes (signalled && task.refreshes) t.end t.result t.middle after t.finishes)

turn_item : (task : Task) (signalled : Bool) (line : ReportLine) (before after : Told) →
    IsTurn task signalled line before after → line.item ≡ task.what
turn_item task signalled line before after t =
    ap (λ (l : ReportLine). l.item) t.told ∙ item_is task.what task.noop t.changes t.result

turn_taken : (task : Task) (signalled : Bool) (line : ReportLine) (before after : Told) →
    IsTurn task signalled line before after → ¬ (line.status ≡ status.Skipped)
turn_taken task signalled line before after t e =
    not_skipped task.what task.noop t.changes task.noop t.changes t.result
    (sym (ap (λ (l : ReportLine). l.status) t.told) ∙ e)

-- One refresh, or none.
pub refreshed_once : RefreshedOnce
refreshed_once task signalled line before after t = (
  λ e. by_end_true (signalled && task.refreshes) t.end t.result t.works t.finishes (sym (ap (λ (l : ReportLine). l.refreshed)
      t.told) ∙ e),
  λ unsaid fine. by_end_false (signalled && task.refreshes) t.end t.result t.works t.finishes
      (λ e. unsaid (ap (λ (l : ReportLine). l.refreshed) t.told ∙ e))
      (λ e. fine (ap (λ (l : ReportLine). l.status) t.told ∙ e)),
) where
  told : Result Bool (List ℕ) → ReportLine
  told r = line_of task.what task.noop t.changes r

  by_end_true : (due : Bool) (end : Ended) (r : Result Bool (List ℕ)) →
      Works task.noop task.what task.work t.changes end before t.middle →
      Finishes due task.what end r t.middle after →
      (line_of task.what task.noop t.changes r).refreshed ≡ true → OneRefresh task before after
  by_end_true true ended.Whole (Ok b) w f e =
      record { changes = t.changes; middle = t.middle; works = w; refresh = f.1 }
  by_end_true true ended.Whole (Err fault) w f e = absurd (cc e)
  by_end_true false ended.Whole r w f e = absurd (never (sym (ap (λ q. (line_of task.what task.noop t.changes q).refreshed)
      f.0) ∙ e)) where
        never : false ≡ true → ⊥
        never e = cc e
  by_end_true due (ended.Failed fault) r w f e =
      absurd (never (sym (ap (λ q. (line_of task.what task.noop t.changes q).refreshed) f.0) ∙ e)) where
        never : false ≡ true → ⊥
        never e = cc e
  by_end_true due ended.Memory r w f e = absurd f

  by_end_false : (due : Bool) (end : Ended) (r : Result Bool (List ℕ)) →
      Works task.noop task.what task.work t.changes end before t.middle →
      Finishes due task.what end r t.middle after →
      ¬ ((line_of task.what task.noop t.changes r).refreshed ≡ true) →
      ¬ ((line_of task.what task.noop t.changes r).status ≡ status.Failed) →
      (changes : List (List ℕ)) × Works task.noop task.what task.work changes ended.Whole before after
  by_end_false true ended.Whole (Ok b) w f unsaid fine = absurd (unsaid f.0)
  by_end_false true ended.Whole (Err fault) w f unsaid fine = absurd (fine refl)
  by_end_false false ended.Whole r w f unsaid fine =
      (t.changes, subst (λ m. Works task.noop task.what task.work t.changes ended.Whole before m) (sym f.1) w)
  by_end_false due (ended.Failed fault) r w f unsaid fine =
      absurd (fine (ap (λ q. (line_of task.what task.noop t.changes q).status) f.0))
  by_end_false due ended.Memory r w f unsaid fine = absurd f

-- ---- all turns

turned_item : (Comes Signals : ℕ → ℕ → Type 0) (earlier : List Turned) (t : Turned) →
    IsTurned Comes Signals earlier t → t.line.item ≡ t.task.what
turned_item Comes Signals earlier t (inl h) = ap (λ (l : ReportLine). l.item) h.1
turned_item Comes Signals earlier t (inr h) = turn_item t.task h.1.0 t.line t.before t.after h.1.2

-- a turn, and all those before it that it knows
pub record Knows (c : Catalog) (ts : List Turned) (t : Turned) : Type 0 where
  pub earlier : List Turned
  pub turned : IsTurned (comes_in c) (signals_in c) earlier t
  pub among : (v : Turned) → Contains earlier v → Contains ts v
  pub before : (v : Turned) → Contains ts v → comes_in c v.at t.at → Contains earlier v

module _ (c : Catalog) (kept : IsCatalog c.resources c.edges) (ts : List Turned) (lines : List ReportLine)
    (Sits : ℕ → ℕ → Type 0)
    (known : (t : Turned) → Contains ts t → task_at c.resources t.at ≡ Some t.task)
    (all : (x : ℕ) (task : Task) → task_at c.resources x ≡ Some task → (t : Turned) × Contains ts t × (t.at ≡ x))
    (knows : (t : Turned) → Contains ts t → Knows c ts t)
    (placed : (t : Turned) → Contains ts t → (k : ℕ) × (slice_get lines k ≡ Some t.line))
    (at_place : (k : ℕ) (line : ReportLine) → slice_get lines k ≡ Some line →
    (t : Turned) × Contains ts t × (t.line ≡ line) × Sits t.at k)
    (one_place : (x k j : ℕ) → Sits x k → Sits x j → k ≡ j) where
  -- each turn has its line
  own_line : (t : Turned) → Contains ts t → HasLine c lines t.at t.line
  own_line t k =
      let place = taken c.resources t.at t.task (known t k) in
      let h = place.0 in
      let is = some_task h.item (native_of h.item.kind) t.task place.2 in
      let put = placed t k in
      record {
        resource = record { held = h; there = place.1; native = is.0; is = is.1 };
        place = put.0;
        told = put.1;
        whose = turned_item (comes_in c) (signals_in c) (knows t k).earlier t (knows t k).turned ∙ what_of h t.task place.2;
      }

  -- whose line it is
  pub record Whose (x : ℕ) (line : ReportLine) (k : ℕ) : Type 0 where
    pub t : Turned
    pub has : Contains ts t
    pub line_is : t.line ≡ line
    pub at_is : t.at ≡ x
    pub sits : Sits x k

  pub whose : (x : ℕ) (line : ReportLine) (h : HasLine c lines x line) → Whose x line h.place
  whose x line h =
      let found = at_place h.place line h.told in
      let t = found.0 in
      let place = taken c.resources t.at t.task (known t found.1) in
      let refs : reference_of place.0 ≡ reference_of h.resource.held =
      sym (what_of place.0 t.task place.2)
      ∙ sym (turned_item (comes_in c) (signals_in c) (knows t found.1).earlier t (knows t found.1).turned)
      ∙ ap (λ (l : ReportLine). l.item) found.2 ∙ h.whose in
      let at : t.at ≡ x =
      place_at c.resources t.at x place.0 h.resource.held kept.apart place.1 h.resource.there refs in
      record { t = t; has = found.1; line_is = found.2; at_is = at; sits = subst (λ z. Sits z h.place) at found.3 }

  module _ (P : ReportLine → Bool) (R : ℕ → ℕ → Type 0) (in_comes : (x y : ℕ) → R x y → comes_in c x y) (t : Turned)
      (k : Contains ts t) where
    to_line : Reaches P R (knows t k).earlier t.at → SomeLine c lines P R t.at
    to_line r = record {
      source = r.0.at;
      line = r.0.line;
      has = own_line r.0 ((knows t k).among r.0 r.1);
      is = r.2;
      leads = r.3;
    }

    from_line : SomeLine c lines P R t.at → Reaches P R (knows t k).earlier t.at
    from_line s =
        let w = whose s.source s.line s.has in
        let leads : R w.t.at t.at = subst (λ z. R z t.at) (sym w.at_is) s.leads in
        (w.t, (knows t k).before w.t w.has (in_comes w.t.at t.at leads), ap P w.line_is ∙ s.is, leads)

  skipped_here : (t : Turned) (k : Contains ts t) →
      (t.line.status ≡ status.Skipped) ↔ SomeLine c lines has_failed (comes_in c) t.at
  skipped_here t k = by_turn (knows t k).turned where
    by_turn : IsTurned (comes_in c) (signals_in c) (knows t k).earlier t →
        (t.line.status ≡ status.Skipped) ↔ SomeLine c lines has_failed (comes_in c) t.at
    by_turn (inl h) = (
      λ e. to_line has_failed (comes_in c) (λ x y r. r) t k h.0,
      λ s. ap (λ (l : ReportLine). l.status) h.1,
    )
    by_turn (inr h) = (
      λ e. absurd (turn_taken t.task h.1.0 t.line t.before t.after h.1.2 e),
      λ s. absurd (h.0 (from_line has_failed (comes_in c) (λ x y r. r) t k s)),
    )

  refreshed_here : (t : Turned) (k : Contains ts t) (due : Bool) → t.task.refreshes ≡ due →
      (t.line.refreshed ≡ true)
      ↔ ((due ≡ true) × ¬ (t.line.status ≡ status.Skipped) × ¬ (t.line.status ≡ status.Failed)
      × SomeLine c lines signals (signals_in c) t.at)
  refreshed_here t k due is = by_turn (knows t k).turned where
    by_turn : IsTurned (comes_in c) (signals_in c) (knows t k).earlier t →
        (t.line.refreshed ≡ true)
        ↔ ((due ≡ true) × ¬ (t.line.status ≡ status.Skipped) × ¬ (t.line.status ≡ status.Failed)
        × SomeLine c lines signals (signals_in c) t.at)
    by_turn (inl h) = (
      λ e. absurd (never (sym (ap (λ (l : ReportLine). l.refreshed) h.1) ∙ e)),
      λ s. absurd (s.1 (ap (λ (l : ReportLine). l.status) h.1)),
    ) where
      never : false ≡ true → ⊥
      never e = cc e
    by_turn (inr h) =
        let both = turn_refreshed t.task h.1.0 t.line t.before t.after h.1.2 in (
          λ e.
              let r = both.0 e in
              let asked = both_true h.1.0 t.task.refreshes r.0 in (
                sym is ∙ asked.1,
                turn_taken t.task h.1.0 t.line t.before t.after h.1.2,
                r.1,
                to_line signals (signals_in c) (signals_come c) t k (h.1.1.0 asked.0),
              ),
          λ s. both.1 (
            is_both h.1.0 t.task.refreshes (h.1.1.1 (from_line signals (signals_in c) (signals_come c) t k s.3))
                (is ∙ s.0),
            s.2,
          ),
        )

  native_task : (x : ℕ) (r : IsNative c x) → task_at c.resources x ≡ Some (task_of r.native r.held.item)
  native_task x r =
      ap (option_and_then (λ h. task_in h.item)) r.there ∙ ap (option_map (λ n. task_of n r.held.item)) r.is

  pub says : Says c lines
  says = record {
    each = λ x r.
        let t = all x (task_of r.native r.held.item) (native_task x r) in
        subst (λ z. (line : ReportLine) × HasLine c lines z line) t.2 (t.0.line, own_line t.0 t.1);
    once = λ x one other a b. one_place x a.place b.place (whose x one a).sits (whose x other b).sits;
    others = λ k line e.
        let t = at_place k line e in
        (t.0.at, subst (λ l. HasLine c lines t.0.at l) t.2 (own_line t.0 t.1));
    skipped = λ x line h.
        let w = whose x line h in
        subst (λ z. (line.status ≡ status.Skipped) ↔ SomeLine c lines has_failed (comes_in c) z) w.at_is
        (subst (λ (l : ReportLine). (l.status ≡ status.Skipped) ↔ SomeLine c lines has_failed (comes_in c) w.t.at)
        w.line_is (skipped_here w.t w.has));
    refreshed = λ x line h.
        let w = whose x line h in
        let task : w.t.task ≡ task_of h.resource.native h.resource.held.item =
        same_task w.t.task (task_of h.resource.native h.resource.held.item)
        (sym (known w.t w.has) ∙ ap (task_at c.resources) w.at_is ∙ native_task x h.resource) in
        subst (λ z. (line.refreshed ≡ true) ↔ ((refreshes h.resource ≡ true) × ¬ (line.status ≡ status.Skipped)
        × ¬ (line.status ≡ status.Failed) × SomeLine c lines signals (signals_in c) z)) w.at_is
        (subst (λ (l : ReportLine). (l.refreshed ≡ true) ↔ ((refreshes h.resource ≡ true)
        × ¬ (l.status ≡ status.Skipped) × ¬ (l.status ≡ status.Failed)
        × SomeLine c lines signals (signals_in c) w.t.at)) w.line_is
        (refreshed_here w.t w.has (refreshes h.resource) (ap (λ (k : Task). k.refreshes) task)));
  }
