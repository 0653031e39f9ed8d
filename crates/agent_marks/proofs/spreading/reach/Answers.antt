use Rattle.std.proofs.Common.{◌≡◌, ℕ, ◌<◌, [], ◌∷◌, ◌++◌, length, All, sym, subst, ap, ◌∙◌, arith, length-append}
use Rattle.std.specs.declared.alloc.Global.{Global}
use Rattle.std.specs.declared.vec.Vec.{Vec}
use Rattle.rel_graph.specs.Pairs.{AllBelow}
use Rattle.agent_marks.specs.Nodes.{targets, Pushing, Reaching}
use Rattle.agent_marks.proofs.SpreadLemmas.{pushing_none, reaching_start, reaching_more, reached_marked, top_within, none_left}
use Rattle.agent_marks.proofs.TargetLemmas.{targets_below}
use Rattle.agent_marks.proofs.spreading.reach.Goals as goal

pub loop-node-init : goal.loop-node-init
loop-node-init c =
    let old = c.args.marks.now.items in
    let p : Pushing old [] (c.args.from ∷ []) c.mark.new.marks.items c.mark.new.stack.items =
    c.mark.ensures.marks [] [] old (subst (λ s. Pushing old [] [] old s) (sym c.requires.empty) (pushing_none old [])) in
    record {
      marks = reaching_start c.args.arrows.now old c.args.from c.requires.closed c.mark.new.marks.items c.mark.new.stack.items p;
      room = let a = p.fewer in let b = c.requires.room in let d = c.mark.ensures.capacity in omega (arith, a, b, d);
    }

pub index-requires : goal.index-requires
index-requires c =
    let within = top_within c.args.arrows.now c.args.marks.now.items c.args.from c.loop-node.marks.items
    c.loop-node.stack.items c.pop.new.self.items c.in-Some.node c.loop-node.invariant.marks c.in-Some.ensures.items in
    let a = c.requires.long in let b = c.args.table.now.ok.0 in omega (arith, within, a, b)

pub mark_all-requires-clause-within : goal.mark_all-requires-clause-within
mark_all-requires-clause-within c =
    let within = top_within c.args.arrows.now c.args.marks.now.items c.args.from c.loop-node.marks.items
    c.loop-node.stack.items c.pop.new.self.items c.in-Some.node c.loop-node.invariant.marks c.in-Some.ensures.items in
    let long = c.loop-node.invariant.marks.long in
    let near = c.requires.long in
    let inside : c.in-Some.node < length c.args.table.now.items = omega (arith, within, near) in
    let here : c.as_slice.result.now ≡ targets c.args.arrows.now c.in-Some.node =
    c.as_slice.ensures.value ∙ ap (λ (w : Vec ℕ Global). w.items) c.index.ensures
    ∙ c.requires.table c.in-Some.node c.index.result.now inside in
    let same : length c.args.table.now.items ≡ length c.loop-node.marks.items = omega (arith, long, near) in
    subst (All (λ t. t < length c.loop-node.marks.items)) (sym here)
    (targets_below c.args.arrows.now c.in-Some.node (length c.loop-node.marks.items)
    (subst (λ n. AllBelow c.args.arrows.now n) same c.requires.below))

pub loop-node-preserved : goal.loop-node-preserved
loop-node-preserved c =
    let rest = c.pop.new.self.items in
    let node = c.in-Some.node in
    let within = top_within c.args.arrows.now c.args.marks.now.items c.args.from c.loop-node.marks.items
    c.loop-node.stack.items rest node c.loop-node.invariant.marks c.in-Some.ensures.items in
    let near = c.requires.long in
    let inside : node < length c.args.table.now.items = omega (arith, within, near) in
    let here : c.as_slice.result.now ≡ targets c.args.arrows.now node =
    c.as_slice.ensures.value ∙ ap (λ (w : Vec ℕ Global). w.items) c.index.ensures
    ∙ c.requires.table node c.index.result.now inside in
    let p : Pushing c.loop-node.marks.items rest (targets c.args.arrows.now node) c.mark_all.new.marks.items c.mark_all.new.stack.items =
    subst (λ l. Pushing c.loop-node.marks.items rest l c.mark_all.new.marks.items c.mark_all.new.stack.items) here
    c.mark_all.ensures.marks in
    record {
      marks = reaching_more c.args.arrows.now c.args.marks.now.items c.args.from c.requires.closed c.loop-node.marks.items
          c.loop-node.stack.items rest node c.mark_all.new.marks.items c.mark_all.new.stack.items
          c.loop-node.invariant.marks c.in-Some.ensures.items p;
      room =
          let cut : length c.loop-node.stack.items ≡ length (rest ++ node ∷ []) = ap length c.in-Some.ensures.items in
          let parts = length-append rest (node ∷ []) in
          let a = p.fewer in let b = c.loop-node.invariant.room in let d = c.pop.ensures.capacity in
          let e = c.mark_all.ensures.capacity in omega (arith, cut, parts, a, b, d, e);
    }

pub returns-clause-marked : goal.returns-clause-marked
returns-clause-marked c =
    let a = c.loop-node.stack.ok.0 in
    let b = c.in_default.ensures.cases.0 in
    let empty : c.loop-node.stack.items ≡ [] = none_left c.loop-node.stack.items (omega (arith, a, b)) in
    reached_marked c.args.arrows.now c.args.marks.now.items c.args.from c.requires.closed c.loop-node.marks.items
    (subst (λ s. Reaching c.args.arrows.now c.args.marks.now.items c.args.from c.loop-node.marks.items s) empty
    c.loop-node.invariant.marks)

pub returns-clause-long : goal.returns-clause-long
returns-clause-long c = c.loop-node.invariant.marks.long
