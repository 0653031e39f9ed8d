use Rattle.std.proofs.Common.{arith, sym}
use Rattle.pp_values.proofs.Depths.{others_depth}
use Rattle.pp_values.proofs.nesting.depth_of_arguments.Goals as goal

pub returns-in_default : goal.returns-in_default
returns-in_default c =
    let w = c.in_default in
    let flat =
    others_depth c.args.ptype.now w.not-Array w.not-Hash w.not-Optional w.not-Variant w.not-NotUndef w.not-Tuple
    w.not-KindOf in
    (sym flat, omega (arith, flat))
