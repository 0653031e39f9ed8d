use Rattle.std.proofs.Common.{rules, None, Some, ap, ◌∙◌}
use Rattle.std.specs.Option.{option_map}
use Rattle.pp_tree.proofs.TableLemmas.{stands_at}
use Rattle.pp_tree.proofs.table.Table.get.Goals as goal

pub returns-in-Some-get : goal.returns-in-Some-get
returns-in-Some-get c =
    ap (option_map (λ e. e.1)) c.in-Some-get.ensures.value
    ∙ stands_at c.self.inside.places c.self.inside.entries _ c.args.name.now (Some c.in-Some.place.now) c.self.invariant (search rules) c.in-Some.ensures.value

pub returns-in-None-get : goal.returns-in-None-get
returns-in-None-get c =
    ap (option_map (λ e. e.1)) c.in-None-get.ensures.value
    ∙ stands_at c.self.inside.places c.self.inside.entries _ c.args.name.now (Some c.in-Some.place.now) c.self.invariant (search rules) c.in-Some.ensures.value

pub returns-in-None : goal.returns-in-None
returns-in-None c = stands_at c.self.inside.places c.self.inside.entries _ c.args.name.now None c.self.invariant (search rules) c.in-None.ensures.value
