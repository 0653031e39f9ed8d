use Rattle.std.proofs.Common.{Ok, Err, sym, subst, ◌∙◌}
use Rattle.pp_values.specs.Answers.{Answers}
use Rattle.pp_values.specs.Views.{view}
use Rattle.compile_core.specs.Meaning.{meaning_of, meaning_if_read}
use Rattle.compile_core.proofs.compiling.compile.Goals as goal

pub returns-in-Ok : goal.returns-in-Ok
unfolding Rattle.compile_core.specs.Meaning.meaning
returns-in-Ok c =
    let site = c.args.site.now in
    let node = c.args.node.now in
    let facts = view c.args.facts.now in
    let sets = c.args.sets.now in
    subst (λ r. Answers c.compile_environment.result (meaning_if_read site r node facts sets))
    (sym c.in-Ok.is ∙ c.main_file.ensures.read)
    (subst (λ m. Answers c.compile_environment.result (meaning_of m node facts sets)) c.environment_of.ensures
    c.compile_environment.ensures)

pub returns-in-Err : goal.returns-in-Err
unfolding Rattle.compile_core.specs.Meaning.meaning
returns-in-Err c =
    let site = c.args.site.now in
    let node = c.args.node.now in
    let facts = view c.args.facts.now in
    let sets = c.args.sets.now in
    subst (λ r. Answers c.refused.result (meaning_if_read site r node facts sets))
    (sym c.in-Err.is ∙ c.main_file.ensures.read) c.refused.ensures
