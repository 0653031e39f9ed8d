use Rattle.std.proofs.Common.{◌≡◌, None, sym, ap, ◌∙◌}
use Rattle.std.specs.Prelude.{option_copied}
use Rattle.std.specs.FinMap as fin
use Rattle.history_tools.proofs.Changed.{no_set}
use Rattle.history_tools.proofs.ending.whole_end.Goals as goal

pub unreachable-requires : goal.unreachable-requires
unreachable-requires g c =
    let none : fin.get c.args.after.now c.in-Some.node.now ≡ None = sym c.get.ensures
    ∙ ap option_copied c.in_default-get.is in
    no_set c.args.after.now c.args.nodes.now c.as_slice.result.now _ _ c.in-Some.node.now c.requires c.as_slice.ensures
    c.in-Some.ensures.2 none
