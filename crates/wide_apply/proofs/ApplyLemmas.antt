-- The run over a catalog.
use Rattle.std.proofs.Common.{◌≡◌, ℕ, List, length, inl, refl, sym, subst, ap, ◌∙◌}
use Rattle.rel_graph.specs.Before.{Before}
use Rattle.rel_graph.specs.CatalogPairs.{containment, relations}
use Rattle.res_core.specs.Catalogs.{Catalog}
use Rattle.res_core.specs.declared.edge.Edge.{Edge}
use Rattle.res_core.specs.declared.held.Held.{Held}
use Rattle.agent_machine.specs.Machines.{Told}
use Rattle.agent_machine.specs.declared.report.Report.{Report}
use Rattle.agent_marks.specs.Spreads.{Marking, IsNew}
use Rattle.agent_machine.specs.declared.report_line.ReportLine.{ReportLine}
use Rattle.agent_transaction.specs.Preparing.{IsStop, IsPrepared}
use Rattle.agent_transaction.specs.Runs.{signalling, tasks_at}
use Rattle.agent_transaction.specs.declared.planned.Planned.{Planned}
use Rattle.agent_transaction.specs.declared.run_stop.RunStop.{RunStop}
use Rattle.agent_transaction.specs.declared.run_stop.RunStop.TheVariants as stop
use Rattle.std.specs.declared.alloc.Global.{Global}
use Rattle.std.specs.declared.vec.Vec.{Vec}
use Rattle.wide_apply.specs.Going.{Related, comes, leads, tasks_in, IsWholeRun, IsCutRun, IsSorted}
use Rattle.wide_apply.specs.Waves.{AreWaves}
use Rattle.wide_apply.specs.WideCatalogs.{AreWideLines, IsWideRun, IsCutWide, IsWideStop}
use Rattle.wide_apply.specs.WideRuns.{together, rising_lines}

module _ (hs : List Held) (es : List Edge) where
  pub untouched : (told : RunStop) (m : Told) → IsStop hs es told → IsWideStop hs es told m m
  untouched (stop.Cycle refs) m h = (h, refl)
  untouched stop.Memory m h = inl refl

  abbrev pub related : Related
  related = record { containers = containment hs; edges = relations es; signals = signalling es }

  module _ (plan : List Planned) (blocked signalled : Marking) (p : IsPrepared hs es plan blocked signalled)
      (before after : Told)
      (lists : List (Vec Planned Global)) (sorted : IsSorted (Before (containment hs) (relations es)) plan lists) where
    waves_seen : AreWaves (comes related) (tasks_at hs p.order) (tasks_in lists)
    waves_seen = subst (λ tasks. AreWaves (comes related) tasks (tasks_in lists)) p.planned sorted.waves

    pub wide_whole : (count : ℕ) → count ≡ length hs → (lines : List ReportLine) →
        ((r : Related) → IsNew count (comes r) blocked → IsNew count (leads r) signalled →
        IsWholeRun r (tasks_in lists) count lines before after) → AreWideLines hs es lines before after
    wide_whole count size lines run =
        let whole = run related (subst (λ n. IsNew n (comes related) blocked) (sym size) p.blocks)
        (subst (λ n. IsNew n (leads related) signalled) (sym size) p.sources) in
        record {
          order = p.order;
          ordered = p.ordered;
          run = record {
            waves = whole.done;
            whose = subst (AreWaves (comes related) (tasks_at hs p.order)) (sym whole.whose) waves_seen;
            each = whole.each;
            rising = whole.rising ∙ ap (λ n. rising_lines 0 n (together whole.done)) size;
          };
        }

    pub wide_cut : (count : ℕ) → count ≡ length hs →
        ((r : Related) → IsNew count (comes r) blocked → IsNew count (leads r) signalled →
        IsCutRun r (tasks_in lists) before after) → IsCutWide hs es before after
    wide_cut count size run =
        let cut = run related (subst (λ n. IsNew n (comes related) blocked) (sym size) p.blocks)
        (subst (λ n. IsNew n (leads related) signalled) (sym size) p.sources) in
        record {
          order = p.order;
          ordered = p.ordered;
          cut = record {
            done = cut.done;
            begun = cut.begun;
            left = cut.left;
            middle = cut.middle;
            whose = subst (AreWaves (comes related) (tasks_at hs p.order)) (sym cut.whose) waves_seen;
            each = cut.each;
            first = cut.first;
            apart = cut.apart;
            back = cut.back;
          };
        }

-- ---- the run over a catalog

module _ (c : Catalog) (hs : List Held) (es : List Edge) (same : hs ≡ c.resources) (same_too : es ≡ c.edges)
    (before after : Told) where
  pub run_of : (report : Report) → report.node ≡ c.node → AreWideLines hs es report.lines before after →
      IsWideRun c report before after
  run_of report node lines = record {
    node = node;
    lines = subst (λ e. AreWideLines c.resources e report.lines before after) same_too
        (subst (λ r. AreWideLines r es report.lines before after) same lines);
  }

  pub stop_of : (told : RunStop) → IsWideStop hs es told before after → IsWideStop c.resources c.edges told before after
  stop_of told h = subst (λ e. IsWideStop c.resources e told before after) same_too
      (subst (λ r. IsWideStop r es told before after) same h)
