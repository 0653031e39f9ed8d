use Rattle.site_core.specs.declared.history.TheConstants.{MOST_ENTRIES}
use Rattle.site_sequence.proofs.Turns.{meant, meant_is_a_run}
use Rattle.site_sequence.proofs.laws.results_are_determined.Goals as goal

pub returns : goal.returns
returns g c =
    record {
      one = meant g.L.Language.meaning g.L.Language.listed MOST_ENTRIES;
      run = meant_is_a_run g.L.Language.meaning g.L.Language.listed MOST_ENTRIES;
    }
