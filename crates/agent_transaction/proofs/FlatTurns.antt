-- Turns of small catalogs, found by computing: where only the first resource contains others, and no relation names it.
use Rattle.std.proofs.Common.{◌≡◌, ℕ, Bool, true, not, ◌&&◌, List, [], ◌∷◌, length, None, Contains, inr, sym, subst, ◌∙◌, true≢false, codes}
use Rattle.std.specs.List.{list_all, list_any}
use Rattle.std.specs.Prelude.{nat_eq}
use Rattle.std.proofs.lemmas.Bool.{and_from}
use Rattle.pp_values.specs.Datum.{text}
use Rattle.pp_values.specs.Settings.{Setting}
use Rattle.pp_values.specs.declared.reference.Reference.{Reference}
use Rattle.rel_graph.specs.Before.{Before, Direct}
use Rattle.rel_graph.specs.CatalogPairs.{containment, relations}
use Rattle.rel_graph.specs.Orders.{IsOrder}
use Rattle.res_core.specs.Catalogs.{Catalog}
use Rattle.res_core.specs.declared.edge.Edge.{Edge}
use Rattle.res_core.specs.declared.held.Held.{Held}
use Rattle.agent_machine.specs.Contents.{Content}
use Rattle.agent_machine.specs.States.{State}
use Rattle.agent_machine.specs.declared.report_line.ReportLine.{ReportLine}
use Rattle.agent_machine.specs.declared.status.Status.{Status}
use Rattle.agent_transaction.proofs.FlatOrders.{first, second, not_true, holds_of, found, any_of, same, itself, is_flat, direct_pair, pair_direct, no_containment, is_order, order_made}
use Rattle.agent_transaction.proofs.MadeTurns.{told, turn_made}
use Rattle.agent_transaction.specs.Catalogs.{IsOrdered}
use Rattle.agent_transaction.specs.Runs.{signalling, Turned, Reaches, has_failed, signals, IsTurned}
use Rattle.agent_transaction.specs.Tasks.{ensure}
use Rattle.agent_transaction.specs.ToldTurns.{turn}
use Rattle.agent_transaction.specs.Turns.{skipped_line}
use Rattle.agent_transaction.specs.declared.task.Task.{Task}

-- ---- catalogs

abbrev pub held : List ℕ → List ℕ → List Setting → List ℕ → Held
held kind title attributes inside = record {
  item = record { kind = kind; title = title; attributes = attributes; tags = [] };
  inside = inside;
}

-- a class, of which only `main` contains others here
abbrev pub main : Held
main = held (codes "class") (codes "main") [] []

abbrev pub file : List ℕ → List Setting → Held
file title attributes = held (codes "file") title attributes (0 ∷ [])

abbrev pub service : Held
service = held (codes "service") (codes "s") ((ensure, text (codes "running")) ∷ []) (0 ∷ [])

abbrev pub content_of : List ℕ → Setting
content_of word = (codes "content", text word)

abbrev pub edge : ℕ → ℕ → Bool → Edge
edge from to signal = record { from = from; to = to; signal = signal }

abbrev pub ref : List ℕ → List ℕ → Reference
ref kind title = record { kind = kind; title = title }

abbrev pub catalog : List Held → List Edge → Catalog
catalog resources edges = record { node = codes "n"; resources = resources; edges = edges; log = [] }

abbrev pub content : List (List ℕ) → State → ℕ → Content
content failing state calls = record { document = record { failing = failing; state = state }; calls = calls; failing = [] }

abbrev pub line : Reference → Status → List (List ℕ) → Bool → ReportLine
line what status changes refreshed =
    record { item = what; status = status; changes = changes; refreshed = refreshed; fault = None }

-- ---- turns

module _ (resources : List Held) (edges : List Edge) where
  abbrev pub Comes : ℕ → ℕ → Type 0
  Comes = Before (containment resources) (relations edges)

  abbrev pub Signals : ℕ → ℕ → Type 0
  Signals = Direct (containment resources) (signalling edges)

  abbrev pub has_pair : ℕ → ℕ → Bool
  has_pair a b = list_any (λ p. nat_eq p.0 a && nat_eq p.1 b) (signalling edges)

  -- whether it is signalled
  abbrev pub due : List Turned → ℕ → Bool
  due earlier x = list_any (λ t. signals t.line && has_pair t.at x) earlier

  -- a turn on a machine with this content
  abbrev pub had : List Turned → ℕ → Task → Content → ℕ → Turned
  had earlier at task c f = record {
    at = at;
    task = task;
    before = told c f;
    line = (turn task (due earlier at) c).0;
    after = told (turn task (due earlier at) c).1 (turn_made task (due earlier at) c f).0;
  }

  abbrev pub skipped : ℕ → Task → Content → ℕ → Turned
  skipped at task c f =
      record { at = at; task = task; before = told c f; line = skipped_line task.what; after = told c f }

  module _ (flat : is_flat (containment resources) (signalling edges) ≡ true) where
    pub due_to : (earlier : List Turned) (x : ℕ) → due earlier x ≡ true → Reaches signals Signals earlier x
    due_to earlier x h =
        let t = found (λ (t : Turned). signals t.line && has_pair t.at x) earlier h in
        let p = found (λ (p : ℕ × ℕ). nat_eq p.0 t.0.at && nat_eq p.1 x) (signalling edges)
        (second (signals t.0.line) (has_pair t.0.at x) t.2) in
        let left : p.0.0 ≡ t.0.at = same p.0.0 t.0.at (first (nat_eq p.0.0 t.0.at) (nat_eq p.0.1 x) p.2) in
        let right : p.0.1 ≡ x = same p.0.1 x (second (nat_eq p.0.0 t.0.at) (nat_eq p.0.1 x) p.2) in (
          t.0,
          t.1,
          first (signals t.0.line) (has_pair t.0.at x) t.2,
          pair_direct (containment resources) (signalling edges) flat t.0.at x
              (subst (λ y. Contains (signalling edges) (t.0.at, y)) right
              (subst (λ y. Contains (signalling edges) (y, p.0.1)) left p.1)),
        )

    pub due_back : (earlier : List Turned) (x : ℕ) → Reaches signals Signals earlier x → due earlier x ≡ true
    due_back earlier x r =
        let p = direct_pair (containment resources) (signalling edges) flat r.0.at x r.3 in
        let there : has_pair r.0.at x ≡ true =
        any_of (λ (p : ℕ × ℕ). nat_eq p.0 r.0.at && nat_eq p.1 x) (signalling edges) (r.0.at, x) p
        (and_from (nat_eq r.0.at r.0.at) (nat_eq x x) (itself r.0.at) (itself x)) in
        any_of (λ (t : Turned). signals t.line && has_pair t.at x) earlier r.0 r.1
        (and_from (signals r.0.line) (has_pair r.0.at x) r.2 there)

    pub had_is : (earlier : List Turned) (at : ℕ) (task : Task) (c : Content) (f : ℕ) →
        ¬ (Reaches has_failed Comes earlier at) →
        IsTurned Comes Signals earlier (had earlier at task c f)
    had_is earlier at task c f free =
        inr (free, (due earlier at, (due_to earlier at, due_back earlier at), (turn_made task (due earlier at) c f).1))

    -- where none failed
    pub calm_is : (earlier : List Turned) (at : ℕ) (task : Task) (c : Content) (f : ℕ) →
        list_all (λ (t : Turned). not (has_failed t.line)) earlier ≡ true →
        IsTurned Comes Signals earlier (had earlier at task c f)
    calm_is earlier at task c f none = had_is earlier at task c f (λ r. true≢false
        (sym r.2 ∙ not_true _ (holds_of (λ (t : Turned). not (has_failed t.line)) earlier r.0 none r.1)))

  module _ (flat : is_flat (containment resources) (relations edges) ≡ true) where
    pub ordered : (count : ℕ) (order : List ℕ) → count ≡ length resources →
        is_order (containment resources) (relations edges) flat count order ≡ true → IsOrdered resources edges order
    ordered count order long is = record {
      contained = no_containment (containment resources) (relations edges) flat;
      in_order = subst (λ n. IsOrder (Direct (containment resources) (relations edges)) n order) long
          (order_made (containment resources) (relations edges) flat count order is);
    }
