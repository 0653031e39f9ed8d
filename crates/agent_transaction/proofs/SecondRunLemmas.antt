-- A run that settles all, and the run after it.
use Rattle.std.proofs.Common.{◌≡◌, ℕ, Bool, true, false, not, ◌&&◌, List, [], ◌∷◌, ◌++◌, map, length, None, Some, Option, Contains, inl, inr, ◌⊎◌, refl, sym, subst, ap, ◌∙◌, true≢false, arith, option_map, option_to_list}
use Rattle.std.specs.List.{All, list_all}
use Rattle.std.proofs.lemmas.List.Elements.{All-nil, All-cons, Contains-push_cases}
use Rattle.pp_values.specs.Settings.{Setting}
use Rattle.pp_values.specs.Words.{reference_text}
use Rattle.rel_graph.specs.Before.{Before, Direct}
use Rattle.rel_graph.proofs.Uniqueness.{one_order_law}
use Rattle.rel_graph.specs.CatalogPairs.{containment, relations}
use Rattle.res_core.specs.Catalogs.{Catalog}
use Rattle.res_core.specs.declared.held.Held.{Held}
use Rattle.agent_machine.specs.Contents.{Content}
use Rattle.agent_machine.specs.Machines.{Told}
use Rattle.agent_machine.specs.declared.report_line.ReportLine.{ReportLine}
use Rattle.agent_transaction.proofs.RecordLemmas.{Differ, Rises}
use Rattle.agent_transaction.proofs.StepLemmas.{AllHold, Fits, Holding, TurnSettles, turn_settles, turn_calm}
use Rattle.agent_transaction.proofs.TaskFits.{Known, known_fits, known_apart}
use Rattle.agent_transaction.proofs.ToldLemmas.{Tells, same_told, turn_told}
use Rattle.agent_transaction.specs.Runs.{signalling, task_at, tasks_at, Turned, Reaches, has_failed, signals, IsTurned, AreTurned}
use Rattle.agent_transaction.specs.SecondRuns.{SecondRunChangesNothing, is_settled, unchanged_line}
use Rattle.agent_transaction.specs.ToldTurns.{turn}
use Rattle.agent_transaction.specs.Turns.{IsTurn}
use Rattle.agent_transaction.specs.declared.task.Task.{Task}
use Rattle.agent_transaction.specs.declared.work.Work.{Work}
use Rattle.agent_transaction.specs.declared.work.Work.TheVariants as work

first : (a b : Bool) → (a && b) ≡ true → a ≡ true
first true b e = refl
first false b e = e

second : (a b : Bool) → (a && b) ≡ true → b ≡ true
second true b e = e
second false b e = absurd (true≢false (sym e))

not_true : (b : Bool) → not b ≡ true → b ≡ false
not_true true e = absurd (true≢false (sym e))
not_true false e = refl

-- ---- all tasks of a run

abbrev pub Each : (Task → Type 0) → List (ℕ × Task) → Type 0
Each P [] = Unit {0}
Each P (p ∷ ps) = P p.1 × Each P ps

abbrev pub pair_of : Turned → ℕ × Task
pair_of t = (t.at, t.task)

pub each_known : (hs : List Held) (order : List ℕ) → Each (Known hs) (tasks_at hs order)
each_known hs [] = tt
each_known hs (i ∷ order) =
    elim (task_at hs i) as (λ o. task_at hs i ≡ o → Each (Known hs) (option_to_list (option_map (λ task. (i, task)) o) ++ tasks_at hs order)) [
      | None ↦ λ is. each_known hs order
      | Some q ↦ λ is. ((i, is), each_known hs order)
    ] refl

-- ---- the first run

module _ (Comes Signals : ℕ → ℕ → Type 0) (hs : List Held) (fits : (q : Task) → Known hs q → Fits q.work)
    (apart : (t u : Task) → Known hs t → Known hs u → (t ≡ u) ⊎ Differ (reference_text t.what) (reference_text u.what)) where
  -- what holds for a task whose resource is known
  abbrev Stays : Content → Content → Type 0
  Stays c d = (u : Task) → Known hs u → Holding u.what u.work c.document.state → Holding u.what u.work d.document.state

  -- a run left this content
  record Settled (ts : List Turned) (after : Told) (c d : Content) : Type 0 where
    tells : Tells after d
    rises : Rises d.document.state
    hold : Each (λ q. Holding q.what q.work d.document.state) (map pair_of ts)
    stays : Stays c d

  holding_kept : (t u : Task) (c d : Content) → Differ (reference_text u.what) (reference_text t.what) → TurnSettles t c d →
      (w : Work) → Holding u.what w c.document.state → Holding u.what w d.document.state
  holding_kept t u c d far did (work.Set ss) all = each ss all where
    each : (ss : List Setting) → AllHold u.what ss c.document.state → AllHold u.what ss d.document.state
    each [] all = tt
    each (s ∷ ss) all = (did.others u.what s.0 s.1 far ∙ all.0, each ss all.1)
  holding_kept t u c d far did work.Run all = absurd all
  holding_kept t u c d far did (work.RunUnless file s) all = absurd all
  holding_kept t u c d far did work.Idle all = absurd all

  turn_stays : (t : Task) → Known hs t → (c d : Content) → TurnSettles t c d → Stays c d
  turn_stays t known c d did u known_too all = elim (apart u t known_too known) [
    | inl same ↦ subst (λ (q : Task). Holding q.what q.work d.document.state) (sym same) did.hold
    | inr far ↦ holding_kept t u c d far did u.work all
  ]

  one_settles : (earlier : List Turned) (t : Turned) (c : Content) → Tells t.before c → Known hs t.task →
      Rises c.document.state → is_settled t.line.status ≡ true → IsTurned Comes Signals earlier t →
      (d : Content) × Tells t.after d × TurnSettles t.task c d
  one_settles earlier t c e known rises h (inl skipped) =
      absurd (true≢false (sym (sym (ap (λ (l : ReportLine). is_settled l.status) skipped.1) ∙ h)))
  one_settles earlier t c e known rises h (inr had) =
      let told = turn_told t.task had.1.0 t.line t.before t.after c e had.1.2 in (
        (turn t.task had.1.0 c).1,
        told.1,
        turn_settles t.task c had.1.0 (fits t.task known) rises (sym (ap (λ (l : ReportLine). is_settled l.status) told.0) ∙ h),
      )

  first_run : (earlier ts : List Turned) (before after : Told) (c : Content) → Tells before c → Rises c.document.state →
      Each (Known hs) (map pair_of ts) → list_all (λ l. is_settled l.status) (map (λ t. t.line) ts) ≡ true →
      AreTurned Comes Signals earlier ts before after → (d : Content) × Settled ts after c d
  first_run earlier [] before after c e rises known h are =
      (c, record { tells = same_told before after c e are; rises = rises; hold = tt; stays = λ u k all. all })
  first_run earlier (t ∷ ts) before after c e rises known h are =
      let did = one_settles earlier t c (ap (λ (m : Told). m.content) are.0 ∙ e) known.0 rises (first _ _ h) are.1 in
      let d = did.0 in
      let rest = first_run (earlier ++ t ∷ []) ts t.after after d did.1 did.2.rises known.1 (second _ _ h) are.2 in (
        rest.0,
        record {
          tells = rest.1.tells;
          rises = rest.1.rises;
          hold = (rest.1.stays t.task known.0 did.2.hold, rest.1.hold);
          stays = λ u k all. rest.1.stays u k (turn_stays t.task known.0 c d did.2 u k all);
        },
      )

-- ---- the second run

module _ (Comes Signals : ℕ → ℕ → Type 0) where
  abbrev Calm : List Turned → Type 0
  Calm earlier = (t : Turned) → Contains earlier t → (has_failed t.line ≡ false) × (signals t.line ≡ false)

  none_reaches : (P : ReportLine → Bool) (R : ℕ → ℕ → Type 0) (earlier : List Turned) (x : ℕ) →
      ((t : Turned) → Contains earlier t → P t.line ≡ false) → ¬ (Reaches P R earlier x)
  none_reaches P R earlier x none r = true≢false (sym r.2 ∙ none r.0 r.1)

  calm_more : (earlier : List Turned) (t : Turned) → Calm earlier → t.line ≡ unchanged_line t.task.what → Calm (earlier ++ t ∷ [])
  calm_more earlier t calm is u there = elim (Contains-push_cases earlier t u there) [
    | inl old ↦ calm u old
    | inr same ↦ subst (λ (v : Turned). (has_failed v.line ≡ false) × (signals v.line ≡ false)) same
        (ap has_failed is, ap signals is)
  ]

  one_calm : (earlier : List Turned) (t : Turned) (c : Content) → Tells t.before c → Calm earlier →
      Holding t.task.what t.task.work c.document.state → has_failed t.line ≡ false → IsTurned Comes Signals earlier t →
      (t.line ≡ unchanged_line t.task.what) × ((d : Content) × Tells t.after d × (d.document ≡ c.document))
  one_calm earlier t c e calm all h (inl skipped) =
      absurd (none_reaches has_failed Comes earlier t.at (λ u k. (calm u k).0) skipped.0)
  one_calm earlier t c e calm all h (inr had) =
      let quiet : had.1.0 ≡ false = elim had.1.0 as (λ b. (b ≡ true → Reaches signals Signals earlier t.at) → b ≡ false) [
        | true ↦ λ f. absurd (none_reaches signals Signals earlier t.at (λ u k. (calm u k).1) (f refl))
        | false ↦ λ f. refl
      ] had.1.1.0 in
      let told = turn_told t.task false t.line t.before t.after c e
      (subst (λ b. IsTurn t.task b t.line t.before t.after) quiet had.1.2) in
      let did = turn_calm t.task c all (sym (ap has_failed told.0) ∙ h) in
      (told.0 ∙ did.0, ((turn t.task false c).1, told.1, did.1))

  second_run : (earlier ts : List Turned) (before after : Told) (c : Content) → Tells before c → Calm earlier →
      Each (λ q. Holding q.what q.work c.document.state) (map pair_of ts) →
      list_all (λ l. not (has_failed l)) (map (λ t. t.line) ts) ≡ true → AreTurned Comes Signals earlier ts before after →
      All (λ l. l ≡ unchanged_line l.item) (map (λ t. t.line) ts) × ((d : Content) × Tells after d × (d.document ≡ c.document))
  second_run earlier [] before after c e calm all h are =
      (All-nil (λ l. l ≡ unchanged_line l.item), (c, same_told before after c e are, refl))
  second_run earlier (t ∷ ts) before after c e calm all h are =
      let did = one_calm earlier t c (ap (λ (m : Told). m.content) are.0 ∙ e) calm all.0 (not_true _ (first _ _ h)) are.1 in
      let d = did.1.0 in
      let same : d.document ≡ c.document = did.1.2 in
      let rest = second_run (earlier ++ t ∷ []) ts t.after after d did.1.1 (calm_more earlier t calm did.0)
      (subst (λ x. Each (λ q. Holding q.what q.work x.state) (map pair_of ts)) (sym same) all.1) (second _ _ h) are.2 in (
        All-cons (λ l. l ≡ unchanged_line l.item) t.line (map (λ u. u.line) ts)
            (did.0 ∙ ap unchanged_line (sym (ap (λ (l : ReportLine). l.item) did.0))) rest.0,
        (rest.1.0, rest.1.1, rest.1.2 ∙ same),
      )

-- ---- both runs

abbrev pub comes_in : Catalog → ℕ → ℕ → Type 0
comes_in c = Before (containment c.resources) (relations c.edges)

abbrev pub signals_in : Catalog → ℕ → ℕ → Type 0
signals_in c = Direct (containment c.resources) (signalling c.edges)

pub same_content : (o : Option Content) (c d : Content) → o ≡ Some c → o ≡ Some d → c ≡ d
same_content o c d a b = inside (sym a ∙ b) where
  inside : Some c ≡ Some d → c ≡ d
  inside e = cc e

pub second_run_changes_nothing : SecondRunChangesNothing
second_run_changes_nothing c one two found left again end kept described rises r settled same s calm =
    let hs = c.resources in
    let order = r.run.order in
    let known = each_known hs order in
    let one_order : s.run.order ≡ order = one_order_law (containment hs) (relations c.edges) (length hs) s.run.order order
    s.run.ordered.in_order r.run.ordered.in_order in
    let ran = r.run.lines in
    let ran_too = s.run.lines in
    let did = first_run (comes_in c) (signals_in c) hs (known_fits hs c.edges kept described) (known_apart hs c.edges kept) [] ran.turned r.before r.after found
    r.finds rises (subst (Each (Known hs)) (sym ran.whose) known)
    (subst (λ ls. list_all (λ l. is_settled l.status) ls ≡ true) (sym ran.told) settled) ran.each in
    let last : did.0 ≡ left = same_content r.after.content did.0 left did.1.tells r.leaves in
    let state : again.document.state ≡ did.0.document.state = same ∙ ap (λ (x : Content). x.document.state) (sym last) in
    let tasks : map pair_of ran.turned ≡ map pair_of ran_too.turned =
    ran.whose ∙ ap (tasks_at hs) (sym one_order) ∙ sym ran_too.whose in
    let hold : Each (λ q. Holding q.what q.work again.document.state) (map pair_of ran_too.turned) =
    subst (λ x. Each (λ q. Holding q.what q.work x) (map pair_of ran_too.turned)) (sym state)
    (subst (Each (λ q. Holding q.what q.work did.0.document.state)) tasks did.1.hold) in
    let did_too = second_run (comes_in c) (signals_in c) [] ran_too.turned s.before s.after again s.finds (λ t k. absurd (none t k)) hold
    (subst (λ ls. list_all (λ l. not (has_failed l)) ls ≡ true) (sym ran_too.told) calm) ran_too.each in
    let ended : did_too.1.0 ≡ end = same_content s.after.content did_too.1.0 end did_too.1.1 s.leaves in (
      subst (All (λ l. l ≡ unchanged_line l.item)) ran_too.told did_too.0,
      ap (λ (x : Content). x.document) (sym ended) ∙ did_too.1.2,
    ) where
      none : (t : Turned) → Contains [] t → ⊥
      none t k = let h = k.1 in omega (arith, h)
