use Rattle.pp_values.proofs.Depths.{kept-push}
use Rattle.pp_values.proofs.values.Values.push.Goals as goal

pub invariant_of-self-2 : goal.invariant_of-self-2
invariant_of-self-2 c =
    rw (c.max-self-inside.ensures, c.in_ok-push.ensures.items)
    (kept-push _ _ _ _ _ c.self.invariant c.in_ok-depth.ensures.deeper c.depth_of.ensures.depth)
