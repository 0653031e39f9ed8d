-- Waves come to what one turn after another comes to.
use Rattle.std.proofs.Common.{◌≡◌, ◌⊎◌, ◌↔◌, ℕ, zero, suc, ◌+◌, ◌<◌, ◌≤◌, Bool, true, false, if◌then◌else◌, List, []}
use Rattle.std.proofs.Common.{◌∷◌, ◌++◌, map, length, Option, None, Some, T, Contains, inl, inr, refl, sym, subst, ap}
use Rattle.std.proofs.Common.{◌∙◌, arith, append_assoc}
use Rattle.std.specs.Prelude.{nat_eq, IsTrue, MatchOption}
use Rattle.std.specs.FinMap.{find}
use Rattle.std.specs.FinMap.Entries.{same_entries}
use Rattle.std.specs.Cmp.Lexicographic.{nat_list_cmp_total}
use Rattle.std.specs.Ordering.{is_eq}
use Rattle.std.proofs.lemmas.Bool.{cases_lt}
use Rattle.std.proofs.lemmas.Bool.Decides.{eqb_tells}
use Rattle.std.proofs.lemmas.List.Elements.{Contains-push, Contains-append_left, Contains-append_right}
use Rattle.std.proofs.lemmas.List.Elements.{Contains-append_cases, recursion_from_All}
use Rattle.pp_values.specs.Datum as d
use Rattle.pp_values.specs.Datum.{Datum}
use Rattle.pp_values.specs.Rising.{text_cmp}
use Rattle.pp_values.specs.Settings.{Setting}
use Rattle.pp_values.specs.Words.{reference_text}
use Rattle.rel_graph.proofs.Uniqueness.{one_order_law}
use Rattle.rel_graph.specs.Before.{Direct}
use Rattle.rel_graph.specs.CatalogPairs.{containment, relations}
use Rattle.rel_graph.specs.Chains.{Paired}
use Rattle.rel_graph.specs.Graphs.{edge_pair}
use Rattle.rel_graph.specs.Orders.{IsOrder}
use Rattle.res_core.specs.Catalogs.{Catalog, IsCatalog}
use Rattle.res_core.specs.NativeTypes.{native_of}
use Rattle.res_core.specs.declared.edge.Edge.{Edge}
use Rattle.res_core.specs.declared.held.Held.{Held}
use Rattle.res_core.specs.declared.native_type.NativeType.{NativeType}
use Rattle.res_core.specs.declared.native_type.NativeType.TheVariants as native
use Rattle.agent_machine.specs.Contents.{Content}
use Rattle.agent_machine.specs.Parts.{file_of}
use Rattle.agent_machine.specs.States.{State, record_of}
use Rattle.agent_machine.specs.declared.report.Report.{Report}
use Rattle.agent_machine.specs.declared.report_line.ReportLine.{ReportLine}
use Rattle.agent_transaction.proofs.RecordLemmas.{Differ, Rises, one_key}
use Rattle.agent_transaction.proofs.SecondRunLemmas.{pair_of, same_content, comes_in, signals_in}
use Rattle.agent_transaction.proofs.TaskFits.{known_apart, same_index, some_task, taken}
use Rattle.agent_transaction.proofs.TaskOrders.{none_in, in_front, in_rest, in_cases, pair_in, tasks_known}
use Rattle.agent_transaction.proofs.TaskOrders.{order_below, Once, tasks_once, signals_come}
use Rattle.agent_machine.specs.Machines.{Told}
use Rattle.agent_transaction.specs.Runs.{task_at, tasks_at, Turned}
use Rattle.agent_transaction.specs.Runs.{AreTurned}
use Rattle.agent_transaction.specs.SecondRuns.{IsToldRun, is_state}
use Rattle.agent_transaction.specs.Tasks.{creates_of, run_unless, exec_work, work_of}
use Rattle.agent_transaction.specs.declared.task.Task.{Task}
use Rattle.agent_transaction.specs.declared.work.Work.{Work}
use Rattle.agent_transaction.specs.declared.work.Work.TheVariants as work
use Rattle.wide_apply.specs.WideLaws.{AsksFor, CreatesAreOrdered, IsToldWide}
use Rattle.wide_apply.specs.Waves.{AreWaves}
use Rattle.wide_apply.specs.WideRuns.{together, turns_of, lines_at, rising_lines, TakeWaves}
use Rattle.wide_apply.proofs.FairRuns.{key, Asks, one_left, search_key}
use Rattle.wide_apply.proofs.LocalTurns.{FileAlike}
use Rattle.wide_apply.proofs.SerialRuns.{inv_start, Ended, serial_same}
use Rattle.wide_apply.proofs.WideFair.{AllDone, in_all, wide_fair}

-- ---- the file of `creates` is named by its path

abbrev Named : Work → Type 0
Named (work.RunUnless file s) = file ≡ file_of file.title
Named other = Unit {0}

unless_named : (o : Option Datum) → Named (run_unless o)
unless_named None = tt
unless_named (Some d.undef) = tt
unless_named (Some (d.flag b)) = tt
unless_named (Some (d.int n)) = tt
unless_named (Some (d.text path)) = refl
unless_named (Some (d.list l)) = tt
unless_named (Some (d.hash l)) = tt
unless_named (Some (d.reference r)) = tt
unless_named (Some (d.kind k)) = tt
unless_named (Some d.default) = tt

exec_named : (b : Bool) (o : Option Datum) → Named (exec_work b o)
exec_named true o = tt
exec_named false o = unless_named o

work_named : (n : NativeType) (attributes : List Setting) → Named (work_of n attributes)
work_named native.File a = tt
work_named native.Package a = tt
work_named native.Service a = tt
work_named native.User a = tt
work_named native.Group a = tt
work_named native.Host a = tt
work_named native.Cron a = tt
work_named native.Exec a = exec_named _ _
work_named native.Notify a = tt

task_named : (hs : List Held) (x : ℕ) (task : Task) → task_at hs x ≡ Some task → Named task.work
task_named hs x task e =
    let place = taken hs x task e in
    let is = some_task place.0.item (native_of place.0.item.kind) task place.2 in
    subst (λ (k : Task). Named k.work) (sym is.2) (work_named is.0 place.0.item.attributes)

file_by_name : (w : Work) → Named w → (c e : Content) →
    ((path : List ℕ) → creates_of w ≡ Some path →
    record_of (file_of path) c.document.state ≡ record_of (file_of path) e.document.state) → FileAlike w c e
file_by_name (work.Set ss) n c e h = tt
file_by_name work.Run n c e h = tt
file_by_name (work.RunUnless file s) n c e h =
    subst (λ f. record_of f c.document.state ≡ record_of f e.document.state) (sym n) (h file.title refl)
file_by_name work.Idle n c e h = tt

asks_by_name : (w : Work) → Named w → (task other : Task) → task.work ≡ w → Asks w (key other) → AsksFor task other
asks_by_name (work.Set ss) n task other is a = absurd a
asks_by_name work.Run n task other is a = absurd a
asks_by_name (work.RunUnless file s) n task other is a =
    subst (λ v. MatchOption (creates_of v) ⊥ (λ path. reference_text other.what ≡ reference_text (file_of path)))
    (sym is)
    (a ∙ ap reference_text n)
asks_by_name work.Idle n task other is a = absurd a

-- ---- lines by rising indexes

pub at_has : (at : ℕ) (ts : List Turned) (t : Turned) → Contains ts t → t.at ≡ at → Contains (lines_at at ts) t.line
at_has at [] t c e = absurd (none_in t c)
at_has at (u ∷ ts) t c e = elim (eqb_tells u.at at) [
  | inl is ↦ subst (λ b. Contains (if b then u.line ∷ lines_at at ts else lines_at at ts) t.line) (sym is.0)
      (elim (in_cases u t ts c) [
        | inl same ↦ subst (λ (s : Turned). Contains (u.line ∷ lines_at at ts) s.line) same
            (in_front u.line (lines_at at ts))
        | inr rest ↦ in_rest u.line t.line (lines_at at ts) (at_has at ts t rest e)
      ])
  | inr other ↦ subst (λ b. Contains (if b then u.line ∷ lines_at at ts else lines_at at ts) t.line) (sym other.0)
      (elim (in_cases u t ts c) [
        | inl same ↦ absurd (other.1 (ap (λ (s : Turned). s.at) same ∙ e))
        | inr rest ↦ at_has at ts t rest e
      ])
]

has_at : (at : ℕ) (ts : List Turned) (l : ReportLine) → Contains (lines_at at ts) l →
    (t : Turned) × Contains ts t × (t.line ≡ l)
has_at at [] l c = absurd (none_in l c)
has_at at (u ∷ ts) l c = by_test (λ k. has_at at ts l k) (nat_eq u.at at) c where
  by_test : (Contains (lines_at at ts) l → (t : Turned) × Contains ts t × (t.line ≡ l)) → (b : Bool) →
      Contains (if b then u.line ∷ lines_at at ts else lines_at at ts) l →
      (t : Turned) × Contains (u ∷ ts) t × (t.line ≡ l)
  by_test others true k = elim (in_cases u.line l (lines_at at ts) k) [
    | inl e ↦ (u, in_front u ts, e)
    | inr rest ↦ (let r = others rest in (r.0, in_rest u r.0 ts r.1, r.2))
  ]
  by_test others false k = let r = others k in (r.0, in_rest u r.0 ts r.1, r.2)

rising_has : (n at : ℕ) (ts : List Turned) (t : Turned) → Contains ts t → at ≤ t.at → t.at < at + n →
    Contains (rising_lines at n ts) t.line
rising_has zero at ts t c low high = absurd (omega (arith, low, high))
rising_has (suc n) at ts t c low high = elim (cases_lt at t.at) [
  | inl more ↦ Contains-append_right (lines_at at ts) (rising_lines (suc at) n ts) t.line
      (rising_has n (suc at) ts t c (omega (arith, more)) (omega (arith, high)))
  | inr less ↦ Contains-append_left (lines_at at ts) (rising_lines (suc at) n ts) t.line
      (at_has at ts t c (omega (arith, low, less)))
]

has_rising : (n at : ℕ) (ts : List Turned) (l : ReportLine) → Contains (rising_lines at n ts) l →
    (t : Turned) × Contains ts t × (t.line ≡ l)
has_rising zero at ts l c = absurd (none_in l c)
has_rising (suc n) at ts l c = elim (Contains-append_cases (lines_at at ts) (rising_lines (suc at) n ts) l c) [
  | inl here ↦ has_at at ts l here
  | inr there ↦ has_rising n (suc at) ts l there
]

line_of : (ts : List Turned) (l : ReportLine) → Contains (map (λ (t : Turned). t.line) ts) l →
    (t : Turned) × Contains ts t × (t.line ≡ l)
line_of [] l c = absurd (none_in l c)
line_of (t ∷ ts) l c = elim (in_cases t.line l (map (λ (t : Turned). t.line) ts) c) [
  | inl e ↦ (t, in_front t ts, e)
  | inr rest ↦ (let r = line_of ts l rest in (r.0, in_rest t r.0 ts r.1, r.2))
]

in_lines : (ts : List Turned) (t : Turned) → Contains ts t → Contains (map (λ (t : Turned). t.line) ts) t.line
in_lines [] t c = absurd (none_in t c)
in_lines (u ∷ ts) t c = elim (in_cases u t ts c) [
  | inl e ↦ subst (λ (s : Turned). Contains (u.line ∷ map (λ (t : Turned). t.line) ts) s.line) e
      (in_front u.line (map (λ (t : Turned). t.line) ts))
  | inr rest ↦ in_rest u.line t.line (map (λ (t : Turned). t.line) ts) (in_lines ts t rest)
]

shown : (b : Bool) → b ≡ true → T b
shown b e = subst T (sym e) tt

-- two states in which every text has the same record
one_state : (s t : State) → Rises s → Rises t → ((q : List ℕ) → find text_cmp q s ≡ find text_cmp q t) → s ≡ t
one_state s t r q same =
    same_entries text_cmp nat_list_cmp_total (λ x y e. one_key x y (ap is_eq e)) s t (shown _ r) (shown _ q) same

module _ (c : Catalog) (kept : IsCatalog c.resources c.edges) (order : List ℕ)
    (io : IsOrder (Direct (containment c.resources) (relations c.edges)) (length c.resources) order) where
  abbrev N : List (ℕ × Task)
  N = tasks_at c.resources order

  tasks_apart : (x y : ℕ) (t u : Task) → Contains (tasks_at c.resources order) (x, t) →
      Contains (tasks_at c.resources order) (y, u) →
      ((x ≡ y) × (t ≡ u)) ⊎ Differ (key t) (key u)
  tasks_apart x y t u a b =
      let one = (tasks_known c.resources order x t a).1 in
      let two = (tasks_known c.resources order y u b).1 in
      elim (known_apart c.resources c.edges kept t u (x, one) (y, two)) [
        | inl e ↦ inl (same_index c.resources c.edges kept x y t one (two ∙ ap Some (sym e)), e)
        | inr far ↦ inr far
      ]

  waves_once : Once (tasks_at c.resources order)
  waves_once = tasks_once (Direct (containment c.resources) (relations c.edges)) c.resources (length c.resources) order io

module _ (c : Catalog) (kept : IsCatalog c.resources c.edges) (ordered : CreatesAreOrdered c) (found : Content)
    (none : found.failing ≡ [])
    (rises : Rises found.document.state) (order : List ℕ)
    (io : IsOrder (Direct (containment c.resources) (relations c.edges)) (length c.resources) order)
    (waves : List (List Turned)) (whose : AreWaves (comes_in c) (tasks_at c.resources order) (turns_of waves))
    (begin end : Told) (finds : begin.content ≡ Some found)
    (each : TakeWaves (comes_in c) (signals_in c) [] waves begin end) where
  asked : (x : ℕ) (t : Task) → Contains (tasks_at c.resources order) (x, t) → (a b : Content) →
      ((path : List ℕ) → creates_of t.work ≡ Some path →
      record_of (file_of path) a.document.state ≡ record_of (file_of path) b.document.state) →
      FileAlike t.work a b
  asked x t k a b h = file_by_name t.work (task_named c.resources x t (tasks_known c.resources order x t k).1) a b h

  ordered_too : (x y : ℕ) (t u : Task) → Contains (tasks_at c.resources order) (x, t) →
      Contains (tasks_at c.resources order) (y, u) →
      Asks t.work (key u) → comes_in c y x ⊎ comes_in c x y
  ordered_too x y t u a b asks =
      let one = (tasks_known c.resources order x t a).1 in
      let two = (tasks_known c.resources order y u b).1 in
      ordered x y t u one two (asks_by_name t.work (task_named c.resources x t one) t u refl asks)

  done : AllDone (comes_in c) (signals_in c) (tasks_at c.resources order) found (tasks_apart c kept order io) asked
      (waves_once c kept order io)
      whose.wave whose.numbering (length (turns_of waves)) (together waves) end
  done = wide_fair (comes_in c) (signals_in c) (tasks_at c.resources order) found (tasks_apart c kept order io) asked
      (waves_once c kept order io)
      whose.wave whose.numbering waves begin end finds
      (inv_start (comes_in c) (signals_in c) (tasks_at c.resources order) found (tasks_apart c kept order io) rises)
      whose.each each

  -- the turn of each task
  wide_turn : (x : ℕ) (t : Task) → Contains (tasks_at c.resources order) (x, t) →
      (w : Turned) × Contains (together waves) w × (w.at ≡ x) × (w.task ≡ t)
  wide_turn x t k = done.covered (x, t) k
      (in_all (λ (p : ℕ × Task). whose.wave p.0 < length (turns_of waves)) (tasks_at c.resources order) (x, t)
      (recursion_from_All (λ (p : ℕ × Task). whose.wave p.0 < length (turns_of waves)) (tasks_at c.resources order)
      whose.whole) k)

  module _ (ts : List Turned) (start after : Told) (finds_too : start.content ≡ Some found)
      (pairs : map pair_of ts ≡ tasks_at c.resources order)
      (are : AreTurned (comes_in c) (signals_in c) [] ts start after) where
    ended : Ended (Direct (containment c.resources) (relations c.edges)) (signals_in c) c.resources (length c.resources)
        order io found
        (signals_come c) (tasks_apart c kept order io) ordered_too none (together waves) done.fair ts after
    ended = serial_same (Direct (containment c.resources) (relations c.edges)) (signals_in c) c.resources
        (length c.resources) order io found
        (signals_come c) (tasks_apart c kept order io) ordered_too none (together waves) done.fair ts start after
        finds_too rises pairs are

    to_wide : (l : ReportLine) → Contains (map (λ (t : Turned). t.line) ts) l →
        Contains (rising_lines 0 (length c.resources) (together waves)) l
    to_wide l k =
        let t = line_of ts l k in
        let has = ended.inv.among t.0 t.1 in
        let w = wide_turn t.0.at t.0.task has in
        let same = ended.same t.0 w.0 t.1 w.1 (sym w.2) (sym w.3) in
        let here = (tasks_known c.resources order w.0.at w.0.task (done.inv.among w.0 w.1)).0 in
        let high = order_below (Direct (containment c.resources) (relations c.edges)) (length c.resources) order io
        w.0.at here in
        subst (λ x. Contains (rising_lines 0 (length c.resources) (together waves)) x) (sym same.line ∙ t.2)
        (rising_has (length c.resources) 0 (together waves) w.0 w.1 (omega arith) (omega (arith, high)))

    to_serial : (l : ReportLine) → Contains (rising_lines 0 (length c.resources) (together waves)) l →
        Contains (map (λ (t : Turned). t.line) ts) l
    to_serial l k =
        let w = has_rising (length c.resources) 0 (together waves) l k in
        let t = pair_in ts (w.0.at, w.0.task)
        (subst (λ p. Contains p (w.0.at, w.0.task)) (sym pairs) (done.inv.among w.0 w.1)) in
        let same = ended.same t.0 w.0 t.1 w.1 t.2 t.3 in
        subst (λ x. Contains (map (λ (t : Turned). t.line) ts) x) (same.line ∙ w.2) (in_lines ts t.0 t.1)

    record_same : (q : List ℕ) → find text_cmp q ended.last.document.state ≡ find text_cmp q done.next.document.state
    record_same q = elim (search_key q (tasks_at c.resources order)) [
      | inl r ↦
          let t = pair_in ts r.0 (subst (λ p. Contains p r.0) (sym pairs) r.1) in
          let w = wide_turn r.0.0 r.0.1 r.1 in
          let same = ended.same t.0 w.0 t.1 w.1 (t.2 ∙ sym w.2) (t.3 ∙ sym w.3) in
          let one = one_left t.0 (record_of t.0.task.what ended.last.document.state) same.own (ended.inv.done t.0 t.1)
          same.leaves in
          let two = one_left w.0 (record_of w.0.task.what done.next.document.state) same.own (done.inv.done w.0 w.1)
          same.leaves_too in
          ap (λ x. find text_cmp x ended.last.document.state) (r.2 ∙ ap key (sym t.3)) ∙ one ∙ sym two
          ∙ ap (λ x. find text_cmp x done.next.document.state) (sym (r.2 ∙ ap key (sym w.3)))
      | inr none_there ↦
          ended.inv.others q (λ u k. none_there (u.at, u.task) (ended.inv.among u k))
          ∙ sym (done.inv.others q (λ u k. none_there (u.at, u.task) (done.inv.among u k)))
    ]

    documents : done.next.document ≡ ended.last.document
    documents =
        let texts : done.next.document.failing ≡ ended.last.document.failing = done.inv.texts ∙ sym ended.inv.texts in
        let states : done.next.document.state ≡ ended.last.document.state =
        sym (one_state ended.last.document.state done.next.document.state ended.inv.rises done.inv.rises record_same) in
        λ i. record { failing = texts i; state = states i }

    pub document_same : (left left_too : Content) → after.content ≡ Some left → end.content ≡ Some left_too →
        left_too.document ≡ left.document
    document_same left left_too a b =
        ap (λ (x : Content). x.document) (same_content end.content left_too done.next b done.tells) ∙ documents
        ∙ ap (λ (x : Content). x.document) (same_content after.content ended.last left ended.tells a)

    pub lines_same : (l : ReportLine) →
        Contains (map (λ (t : Turned). t.line) ts) l ↔ Contains (rising_lines 0 (length c.resources) (together waves)) l
    lines_same l = (to_wide l, to_serial l)

pub same_lines : (c : Catalog) (serial wide : Report) (found left left_too : Content) →
    IsCatalog c.resources c.edges →
    CreatesAreOrdered c → found.failing ≡ [] → IsTrue (is_state found.document.state) →
    IsToldRun c serial found left → IsToldWide c wide found left_too →
    (wide.node ≡ serial.node) × ((line : ReportLine) → Contains serial.lines line ↔ Contains wide.lines line)
    × (left_too.document ≡ left.document)
same_lines c serial wide found left left_too kept ordered none rises r s =
    let orders : s.run.lines.order ≡ r.run.order =
    one_order_law (containment c.resources) (relations c.edges) (length c.resources) s.run.lines.order r.run.order
    s.run.lines.ordered.in_order r.run.ordered.in_order in
    let io = r.run.ordered.in_order in
    let w = s.run.lines.run in
    let ran = r.run.lines in
    let whose = subst (λ o. AreWaves (comes_in c) (tasks_at c.resources o) (turns_of w.waves)) orders w.whose in (
      s.run.node ∙ sym r.run.node,
      λ l.
          let same = lines_same c kept ordered found none rises r.run.order io w.waves whose s.before s.after
          s.finds w.each
          ran.turned r.before r.after r.finds ran.whose ran.each l in (
            λ k. subst (λ x. Contains x l) (sym w.rising) (same.0 (subst (λ x. Contains x l) (sym ran.told) k)),
            λ k. subst (λ x. Contains x l) ran.told (same.1 (subst (λ x. Contains x l) w.rising k)),
          ),
      document_same c kept ordered found none rises r.run.order io w.waves whose s.before s.after s.finds w.each
          ran.turned r.before r.after r.finds ran.whose ran.each left left_too r.leaves s.leaves,
    )
