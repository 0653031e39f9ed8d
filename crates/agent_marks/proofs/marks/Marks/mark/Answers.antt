use Rattle.std.proofs.Common.{subst, sym}
use Rattle.std.specs.Prelude.{vec_capacity}
use Rattle.agent_marks.specs.Nodes.{begin_of}
use Rattle.agent_marks.specs.Spreads.{Leads}
use Rattle.agent_marks.proofs.MarksLemmas.{marking_more, marked_more}
use Rattle.agent_marks.proofs.marks.Marks.mark.Goals as goal

pub invariant_of-self : goal.invariant_of-self
invariant_of-self c =
    let s = c.self.inside in
    marking_more s.count s.arrows.items s.table.items s.nodes.items s.stack.items (vec_capacity s.stack)
    c.as_slice.result.now c.reach.new.marks.items c.reach.new.stack.items (vec_capacity c.reach.new.stack)
    c.self.invariant c.as_slice.ensures.value c.reach.ensures.closed c.reach.ensures.long c.reach.ensures.empty
    c.reach.ensures.room

pub returns-clause-leads : goal.returns-clause-leads
returns-clause-leads c = λ x y. (
  λ h. subst (λ m. Leads m x y) c.self.view_is h,
  λ h. subst (λ m. Leads m x y) (sym c.self.view_is) h,
)

pub returns-clause-marked : goal.returns-clause-marked
returns-clause-marked c = λ x.
    marked_more (record { count = c.self.inside.count; arrows = c.self.inside.arrows.items; nodes = c.self.inside.nodes.items })
    c.args.self.now c.reach.new.marks.items c.as_slice.result.now c.end.result c.args.at x c.self.view_is
    c.as_slice.ensures.value c.end.ensures (c.reach.ensures.marked (begin_of x))
