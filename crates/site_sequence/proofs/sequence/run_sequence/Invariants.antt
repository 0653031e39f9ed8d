-- With the replies so far, a run of the requests that are left is one of all.
use Rattle.std.proofs.Common.{◌≡◌, [], ◌∷◌, length}
use Rattle.std.specs.Prelude.{IsTrue}
use Rattle.res_core.specs.RequestViews.{all_asked}
use Rattle.site_core.specs.Asked.{all_asks}
use Rattle.site_core.specs.Events.{opens}
use Rattle.site_core.specs.declared.history.TheConstants.{MOST_ENTRIES}
use Rattle.res_core.specs.AskedFacts.{give_facts}
use Rattle.site_sequence.proofs.GoingOn.{GoesOn}
use Rattle.site_sequence.proofs.sequence.run_sequence.Given as goal

abbrev pub invariant-loop-left : goal.invariant-loop-left
invariant-loop-left g l =
    GoesOn g.L.Language.meaning g.L.Language.listed MOST_ENTRIES (opens l.fn.site ∷ []) (all_asks l.fn.requests) l.replies
    l.core.history (all_asks (all_asked l.left))
    × ((l.core.limit ≡ MOST_ENTRIES) × IsTrue (give_facts (all_asked l.left)))

abbrev pub decreases-loop-left : goal.decreases-loop-left
decreases-loop-left g l = length l.left
