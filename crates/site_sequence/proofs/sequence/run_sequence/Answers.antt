use Rattle.std.proofs.Common.{subst, sym, arith}
use Rattle.site_core.specs.Legal.{Legal}
use Rattle.site_core.specs.declared.history.TheConstants.{MOST_ENTRIES}
use Rattle.site_sequence.proofs.GoingOn.{has_run_all}
use Rattle.site_sequence.proofs.OneAuthor.{turns_are_whole}
use Rattle.site_sequence.proofs.sequence.run_sequence.Goals as goal

pub returns-clause-in_turn : goal.returns-clause-in_turn
returns-clause-in_turn g c =
    has_run_all g.L.Language.meaning g.L.Language.listed _ _ _ c.loop-left.replies _ _ _ c.in_default.len_below
    c.loop-left.invariant.0
    c.into_history.ensures.history

pub returns-clause-whole : goal.returns-clause-whole
returns-clause-whole g c =
    turns_are_whole g.L.Language.meaning g.L.Language.listed MOST_ENTRIES c.args.site _ _ _ (omega arith)
    (has_run_all g.L.Language.meaning g.L.Language.listed _ _ _ c.loop-left.replies _ _ _ c.in_default.len_below
    c.loop-left.invariant.0 c.into_history.ensures.history)
    (subst (Legal g.L.Language.meaning) (sym c.into_history.ensures.history) c.into_history.ensures.sound.legal)
