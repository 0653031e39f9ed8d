use Rattle.site_commands.proofs.Reading.{told_tree}
use Rattle.site_commands.proofs.giving_up.give_bundle_up.Goals as goal

pub returns-in-TreeFault-clause-line : goal.returns-in-TreeFault-clause-line
returns-in-TreeFault-clause-line g c = told_tree c.args.stop.now c.in-TreeFault.path _ _ _ c.in-TreeFault.is
    c.as_str-in-TreeFault.ensures.text c.refuse_word-in-TreeFault.ensures.line
