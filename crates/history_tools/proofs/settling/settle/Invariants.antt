-- Before each round the search stands after whole rounds, and a further one is allowed.
use Rattle.std.proofs.Common.{◌-◌, ◌<◌}
use Rattle.site_core.specs.declared.history.TheConstants.{MOST_ENTRIES}
use Rattle.history_tools.specs.Rounds.{Stands}
use Rattle.history_tools.proofs.settling.settle.Given as goal

abbrev pub invariant-loop-sets : goal.invariant-loop-sets
invariant-loop-sets g l = record {
  stands : Stands g.L.Language.meaning g.L.Language.listed MOST_ENTRIES l.workers l.fn.site l.nodes l.done
      l.written.history.entries l.sets;
  goes_on : l.done < l.rounds;
}

abbrev pub decreases-loop-sets : goal.decreases-loop-sets
decreases-loop-sets g l = l.rounds - l.done
