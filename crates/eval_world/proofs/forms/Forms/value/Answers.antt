use Rattle.std.proofs.Common.{rules, ◌≡◌, Ok, ap, sym, ◌∙◌}
use Rattle.pp_values.specs.Datum.{int}
use Rattle.eval_world.proofs.AtLeaf.{name_said, number_said, text_said, variable_said}
use Rattle.eval_world.proofs.forms.Forms.value.Goals as goal

pub returns-in-Number : goal.returns-in-Number
returns-in-Number g c =
    let said = number_said g.M.Meaning.within g.M.Meaning.leaves c.args.self.now.left c.args.expr.now c.args.here
    c.args.world.now c.in-Number.number c.if-self-eq0.false (sym c.get.ensures ∙ c.in-Number.is)
    in let told : int c.in-Number.number ≡ c.new.result = search rules
    in said ∙ ap (λ v. Ok (v, c.args.world.now)) told

pub returns-in_ok-text_value-in-Text : goal.returns-in_ok-text_value-in-Text
returns-in_ok-text_value-in-Text g c =
    text_said g.M.Meaning.within g.M.Meaning.leaves c.args.self.now.left c.args.expr.now c.args.here c.args.world.now
    c.in-Text.text c.if-self-eq0.false (sym c.get.ensures ∙ c.in-Text.is)
    ∙ ap (λ v. Ok (v, c.args.world.now)) (sym c.in_ok-text_value-in-Text.ensures)

pub returns-in_ok-text_value-in-Name : goal.returns-in_ok-text_value-in-Name
returns-in_ok-text_value-in-Name g c =
    name_said g.M.Meaning.within g.M.Meaning.leaves c.args.self.now.left c.args.expr.now c.args.here c.args.world.now
    c.in-Name.name c.if-self-eq0.false (sym c.get.ensures ∙ c.in-Name.is)
    ∙ ap (λ v. Ok (v, c.args.world.now)) (sym c.in_ok-text_value-in-Name.ensures)

pub returns-in-Variable : goal.returns-in-Variable
returns-in-Variable g c =
    let said = variable_said g.M.Meaning.within g.M.Meaning.leaves c.args.self.now.left c.args.expr.now c.args.here
    c.args.world.now c.in-Variable.name c.if-self-eq0.false (sym c.get.ensures ∙ c.in-Variable.is)
    in rw said c.read.ensures
