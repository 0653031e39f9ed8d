use Rattle.std.proofs.Common.{◌≡◌, List, ℕ, sym, subst}
use Rattle.std.specs.Prelude.{OnOk}
use Rattle.site_core.specs.Asked.{plain}
use Rattle.site_core.specs.Core.{with_event}
use Rattle.site_core.specs.Events.{next_entry}
use Rattle.site_core.specs.declared.plain.Plain.TheVariants as ask
use Rattle.site_sequence.specs.Sequence.{Takes}
use Rattle.site_sequence.specs.declared.sequence.TheConstants.{AUTHOR}
use Rattle.site_sequence.proofs.Taken.{added, limit_stays}
use Rattle.site_sequence.proofs.sequence.deactivate.Goals as goal

pub returns-clause-turn : goal.returns-clause-turn
returns-clause-turn g c =
    subst (λ reply. Takes g.L.Language.meaning g.L.Language.listed c.args.core.now.limit c.args.core.now.history
    (plain (ask.Deactivate c.args.node.now)) reply c.deactivate.new.self.history) (sym c.added.ensures)
    (added g.L.Language.meaning g.L.Language.listed c.args.core.now c.deactivate.new.self
    (ask.Deactivate c.args.node.now) c.deactivate.result c.deactivate.ensures.stop
    (subst (λ (node : List ℕ). OnOk c.deactivate.result (c.deactivate.new.self
    ≡ with_event c.args.core.now (next_entry c.args.core.now.history AUTHOR (ask.Deactivate node))))
    c.in-Ok.ensures c.deactivate.ensures.ok) c.deactivate.ensures.err)

pub returns-clause-limit : goal.returns-clause-limit
returns-clause-limit g c =
    limit_stays c.args.core.now c.deactivate.new.self
    (next_entry c.args.core.now.history AUTHOR (ask.Deactivate c.in-Ok.node)) c.deactivate.result
    c.deactivate.ensures.ok c.deactivate.ensures.err
