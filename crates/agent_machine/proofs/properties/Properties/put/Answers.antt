use Rattle.std.proofs.Common.{IsTrue, sym, ap, subst, ◌∙◌}
use Rattle.std.specs.FinMap.{put}
use Rattle.pp_values.specs.Rising.{text_cmp}
use Rattle.pp_values.specs.Views.{view}
use Rattle.res_core.specs.PlainAttributes.{are_plain}
use Rattle.agent_machine.specs.Recorded.{recorded}
use Rattle.agent_machine.proofs.MapLemmas.{recorded_insert, plain_put}
use Rattle.agent_machine.proofs.properties.Properties.put.Goals as goal

pub invariant_of-self-2 : goal.invariant_of-self-2
invariant_of-self-2 c =
    subst (λ l. IsTrue (are_plain l))
    (sym (ap recorded c.in_ok-insert.ensures.entries ∙ recorded_insert c.self.inside.by_name.entries c.args.name c.args.value))
    (plain_put (recorded c.self.inside.by_name.entries) c.args.name (view c.args.value) c.requires c.self.invariant)

pub returns : goal.returns
returns c =
    ap recorded c.in_ok-insert.ensures.entries
    ∙ recorded_insert c.self.inside.by_name.entries c.args.name c.args.value
    ∙ ap (put text_cmp c.args.name (view c.args.value)) c.self.view_is
