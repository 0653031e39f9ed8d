use Rattle.site_io.proofs.Trees.{failed_visit, listed_now}
use Rattle.site_io.proofs.mem_tree.MemTreeTree.list.Goals as goal

pub returns-then-is_failing-clause-lists : goal.returns-then-is_failing-clause-lists
returns-then-is_failing-clause-lists c =
    failed_visit c.args.self.now c.is_failing.new.self c.is_failing.result c.if-is_failing.true c.is_failing.ensures.next
    c.is_failing.ensures.same

pub returns-in-Ok-2-clause-lists : goal.returns-in-Ok-2-clause-lists
returns-in-Ok-2-clause-lists c =
    listed_now c.args.self.now c.is_failing.new.self c.is_failing.result c.is_empty.result c.in-Ok.names c.args.path.now
    c.is_failing.ensures.next c.is_failing.ensures.same c.in-Ok.ensures c.is_empty.ensures.1 c.if-is_empty.false
