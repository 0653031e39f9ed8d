use Rattle.std.proofs.Common.{◌∙◌, ap, ◌++◌, ◌∷◌, []}
use Rattle.work_pool.proofs.GroupLemmas.{taken, ok_taken}
use Rattle.work_pool.proofs.groups.put_together.Goals as goal

pub loop-part-preserved : goal.loop-part-preserved
loop-part-preserved g c =
    let left = c.pop.new.self.items in let part = c.in_ok-part.part in
    let popped = c.in-Some.ensures.items ∙ ap (λ r. left ++ r ∷ []) c.in_ok-part.was in
    (taken c.loop-part.all.items c.append.new.self.items c.loop-part.parts.items left part popped c.in_ok-append.ensures.items ∙ c.loop-part.invariant.0, λ ok. c.loop-part.invariant.1 (ok_taken c.loop-part.parts.items left part popped ok))
