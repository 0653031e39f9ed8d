use Rattle.std.proofs.Common.{sym, ◌∙◌}
use Rattle.eval_world.proofs.AtLeaf.{known_said}
use Rattle.eval_world.proofs.forms.Forms.known.Goals as goal

pub returns-in-Variable-clause-said : goal.returns-in-Variable-clause-said
returns-in-Variable-clause-said g c =
    known_said g.M.Meaning.within g.M.Meaning.leaves c.args.self.now.left c.args.expr.now c.args.here c.args.world.now
    c.in-Variable.name c.get-in-Variable.result c.if-self-ne0.true (sym c.get.ensures ∙ c.in-Variable.is)
    c.get-in-Variable.ensures
