use Rattle.std.proofs.Common.{rules, ◌≡◌, ap, sym, ◌∙◌, to_z, of_z, w64}
use Rattle.pp_tree.specs.declared.expr.Form.TheVariants as form
use Rattle.eval_world.proofs.AtLeaf.{number_said}
use Rattle.eval_world.proofs.forms.Forms.number.Goals as goal

pub returns-in-Number-clause-said : goal.returns-in-Number-clause-said
returns-in-Number-clause-said g c = λ here w.
    let same : c.in-Number.number ≡ to_z w64 (of_z w64 c.in-Number.number) = search rules
    in number_said g.M.Meaning.within g.M.Meaning.leaves c.args.self.now.left c.args.expr.now here w
    (to_z w64 (of_z w64 c.in-Number.number)) c.if-self-ne0.true
    (sym c.get.ensures ∙ c.in-Number.is ∙ ap (λ z. form.Number z) same)
