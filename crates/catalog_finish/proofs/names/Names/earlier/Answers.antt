use Rattle.std.proofs.Common.{find, ap, ◌∙◌}
use Rattle.catalog_finish.specs.Naming.{called, all_called, same_name}
use Rattle.catalog_finish.specs.NameKeys.{picked, under}
use Rattle.catalog_finish.proofs.NameLemmas.{found_there}
use Rattle.catalog_finish.proofs.names.Names.earlier.Goals as goal

pub returns : goal.returns
returns c =
    let items = c.self.inside.items.items in
    let places = c.self.inside.places in
    let test = same_name (called c.args.named.now) in
    c.among.ensures
    ∙ ap (λ l. find test (picked (all_called l) (under c.args.key.now places))) c.deref.ensures.value
    ∙ ap (λ k. find test (picked (all_called items) (under k places))) c.requires
    ∙ found_there places (all_called items) (called c.args.named.now) c.self.invariant
    ∙ ap (find test) c.self.view_is
