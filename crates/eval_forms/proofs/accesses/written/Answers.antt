use Rattle.std.proofs.Common.{sym, ◌∙◌}
use Rattle.eval_world.proofs.AtLeaf.{name_said, text_said}
use Rattle.eval_forms.proofs.accesses.written.Goals as goal

pub returns-in-Text-clause-said : goal.returns-in-Text-clause-said
returns-in-Text-clause-said g c = λ here w.
    text_said g.M.Meaning.within g.M.Meaning.leaves c.args.forms.now.left c.args.expr.now here w c.in-Text.text
    c.if-forms-eq0.false (sym c.get.ensures ∙ c.in-Text.is)

pub returns-in-Name-clause-said : goal.returns-in-Name-clause-said
returns-in-Name-clause-said g c = λ here w.
    name_said g.M.Meaning.within g.M.Meaning.leaves c.args.forms.now.left c.args.expr.now here w c.in-Name.name
    c.if-forms-eq0.false (sym c.get.ensures ∙ c.in-Name.is)
