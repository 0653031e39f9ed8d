-- What is prepared of a catalog, and what its run comes to.
use Rattle.std.proofs.Common.{◌≡◌, ℕ, List, length, map, inl, inr, refl, sym, subst}
use Rattle.rel_graph.specs.Before.{Before, Direct}
use Rattle.rel_graph.specs.CatalogPairs.{containment, relations}
use Rattle.rel_graph.specs.Chains.{Paired}
use Rattle.rel_graph.specs.Cycles.{IsCycle, HasNoCycle}
use Rattle.rel_graph.specs.Graphs.{Relations, IsBuilt}
use Rattle.rel_graph.specs.Orders.{IsOrder}
use Rattle.rel_graph.specs.Pairs.{AllBelow}
use Rattle.res_core.specs.Catalogs.{Catalog, IsCatalog}
use Rattle.res_core.specs.declared.edge.Edge.{Edge}
use Rattle.res_core.specs.declared.held.Held.{Held}
use Rattle.agent_machine.specs.Machines.{Told}
use Rattle.agent_machine.specs.declared.report.Report.{Report}
use Rattle.pp_values.specs.declared.reference.Reference.{Reference}
use Rattle.agent_marks.specs.Spreads.{Marking, IsNew}
use Rattle.agent_transaction.proofs.CatalogLemmas.{containment_below, relations_below, signalling_below}
use Rattle.agent_transaction.specs.Catalogs.{IsCycleTold, IsOrdered, IsRun, IsCutRun, IsRunStop, references_at}
use Rattle.agent_transaction.specs.Marking.{planned_pair, AreBelow}
use Rattle.agent_transaction.specs.Preparing.{IsStop, StopTells, IsPrepared}
use Rattle.agent_transaction.specs.Runs.{signalling, tasks_at, IsRunOf, IsBrokenRun}
use Rattle.agent_transaction.specs.declared.planned.Planned.{Planned}
use Rattle.agent_transaction.specs.declared.run_stop.RunStop.{RunStop}
use Rattle.agent_transaction.specs.declared.run_stop.RunStop.TheVariants as stop

-- ---- indexes

module _ (hs : List Held) (es : List Edge) (kept : IsCatalog hs es) (count : ℕ) (long : count ≡ length hs) (pairs : List (ℕ × ℕ)) where
  pub contained_under : pairs ≡ containment hs → AllBelow pairs count
  contained_under is =
      subst (λ n. AllBelow pairs n) (sym long) (subst (λ l. AllBelow l (length hs)) (sym is) (containment_below hs es kept))

  pub related_under : pairs ≡ relations es → AllBelow pairs count
  related_under is =
      subst (λ n. AllBelow pairs n) (sym long) (subst (λ l. AllBelow l (length hs)) (sym is) (relations_below hs es kept))

  pub signals_under : pairs ≡ signalling es → AllBelow pairs count
  signals_under is =
      subst (λ n. AllBelow pairs n) (sym long) (subst (λ l. AllBelow l (length hs)) (sym is) (signalling_below hs es kept))

-- ---- the order

module _ (hs : List Held) (es : List Edge) (pairs : List (ℕ × ℕ)) (count : ℕ) (long : count ≡ length hs) (are : pairs ≡ containment hs) where
  pub ordered_by : (g : Relations) (order : List ℕ) → IsBuilt count pairs (relations es) g →
      IsOrder (Direct g.containers g.edges) g.count order → IsOrdered hs es order
  ordered_by g order built is = record {
    contained = subst (λ l. HasNoCycle (Paired l)) are built.1;
    in_order =
        subst (λ l. IsOrder (Direct l (relations es)) (length hs) order) are
        (subst (λ n. IsOrder (Direct pairs (relations es)) n order) long
        (subst (λ (r : Relations). IsOrder (Direct r.containers r.edges) r.count order) built.0 is));
  }

  stopped : (cycle : List ℕ) (told : RunStop) → StopTells hs cycle told → ((refs : List Reference) → refs ≡ references_at hs cycle → IsCycleTold hs es refs) →
      IsStop hs es told
  stopped cycle (stop.Cycle refs) tells f = f refs tells
  stopped cycle stop.Memory tells f = tt

  pub cycle_by : (g : Relations) (cycle : List ℕ) (told : RunStop) → IsBuilt count pairs (relations es) g →
      IsCycle (Direct g.containers g.edges) cycle → StopTells hs cycle told → IsStop hs es told
  cycle_by g cycle told built is tells = stopped cycle told tells (λ refs same. record {
    cycle = cycle;
    is = same;
    closes = inr (
      subst (λ l. HasNoCycle (Paired l)) are built.1,
      subst (λ l. IsCycle (Direct l (relations es)) cycle) are
          (subst (λ (r : Relations). IsCycle (Direct r.containers r.edges) cycle) built.0 is),
    );
  })

  pub contained_by : (cycle : List ℕ) (told : RunStop) → IsCycle (Paired pairs) cycle → StopTells hs cycle told → IsStop hs es told
  contained_by cycle told is tells = stopped cycle told tells (λ refs same. record {
    cycle = cycle;
    is = same;
    closes = inl (subst (λ l. IsCycle (Paired l) cycle) are is);
  })

-- ---- what is prepared

module _ (hs : List Held) (es : List Edge) (count : ℕ) (long : count ≡ length hs) where
  pub prepared : (pairs related signals : List (ℕ × ℕ)) (order : List ℕ) (plan : List Planned) (blocked signalled : Marking) →
      pairs ≡ containment hs → related ≡ relations es → signals ≡ signalling es → IsOrdered hs es order →
      map planned_pair plan ≡ tasks_at hs order → AreBelow (length hs) plan → IsNew count (Before pairs related) blocked →
      IsNew count (Direct pairs signals) signalled → IsPrepared hs es plan blocked signalled
  prepared pairs related signals order plan blocked signalled are rel sig ordered planned below blocks sources = record {
    order = order;
    ordered = ordered;
    planned = planned;
    below = below;
    blocks = subst (λ n. IsNew n (Before (containment hs) (relations es)) blocked) long
        (subst (λ l. IsNew count (Before (containment hs) l) blocked) rel
        (subst (λ l. IsNew count (Before l related) blocked) are blocks));
    sources = subst (λ n. IsNew n (Direct (containment hs) (signalling es)) signalled) long
        (subst (λ l. IsNew count (Direct (containment hs) l) signalled) sig
        (subst (λ l. IsNew count (Direct l signals) signalled) are sources));
  }

-- ---- the run

pub below_by : (hs : List Held) (es : List Edge) (plan : List Planned) (blocked signalled : Marking) →
    IsPrepared hs es plan blocked signalled → AreBelow blocked.count plan
below_by hs es plan blocked signalled p = subst (λ n. AreBelow n plan) (sym p.blocks.size) p.below

pub below_by_too : (hs : List Held) (es : List Edge) (plan : List Planned) (blocked signalled : Marking) →
    IsPrepared hs es plan blocked signalled → AreBelow signalled.count plan
below_by_too hs es plan blocked signalled p = subst (λ n. AreBelow n plan) (sym p.sources.size) p.below

module _ (c : Catalog) (hs : List Held) (es : List Edge) (same : hs ≡ c.resources) (same_too : es ≡ c.edges) where
  pub untouched : (told : RunStop) (m : Told) → IsStop hs es told → IsRunStop c told m m
  untouched (stop.Cycle refs) m h =
      (subst (λ e. IsCycleTold c.resources e refs) same_too (subst (λ r. IsCycleTold r es refs) same h), refl)
  untouched stop.Memory m h = inl refl

  module _ (plan : List Planned) (blocked signalled : Marking) (p : IsPrepared hs es plan blocked signalled) (before after : Told) where
    seen : IsPrepared c.resources c.edges plan blocked signalled
    seen = subst (λ e. IsPrepared c.resources e plan blocked signalled) same_too
        (subst (λ r. IsPrepared r es plan blocked signalled) same p)

    pub run_whole : (report : Report) → report.node ≡ c.node →
        ((containers edges signals : List (ℕ × ℕ)) (count : ℕ) → IsNew count (Before containers edges) blocked →
        IsNew count (Direct containers signals) signalled →
        IsRunOf (Before containers edges) (Direct containers signals) (map planned_pair plan) report.lines before after) →
        IsRun c report before after
    run_whole report node run = record {
      order = seen.order;
      ordered = seen.ordered;
      node = node;
      lines =
          subst (λ tasks. IsRunOf (Before (containment c.resources) (relations c.edges)) (Direct (containment c.resources) (signalling c.edges)) tasks report.lines before after)
          seen.planned
          (run (containment c.resources) (relations c.edges) (signalling c.edges) (length c.resources) seen.blocks seen.sources);
    }

    pub run_cut :
        ((containers edges signals : List (ℕ × ℕ)) (count : ℕ) → IsNew count (Before containers edges) blocked →
        IsNew count (Direct containers signals) signalled →
        IsBrokenRun (Before containers edges) (Direct containers signals) (map planned_pair plan) before after) →
        IsCutRun c before after
    run_cut run = record {
      order = seen.order;
      ordered = seen.ordered;
      broken =
          subst (λ tasks. IsBrokenRun (Before (containment c.resources) (relations c.edges)) (Direct (containment c.resources) (signalling c.edges)) tasks before after)
          seen.planned
          (run (containment c.resources) (relations c.edges) (signalling c.edges) (length c.resources) seen.blocks seen.sources);
    }
