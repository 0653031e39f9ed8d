use Rattle.site_io.proofs.Trees.{failed_visit}
use Rattle.site_io.proofs.mem_tree.MemTreeTree.read_file.Goals as goal

pub returns-then-is_failing-clause-reads : goal.returns-then-is_failing-clause-reads
returns-then-is_failing-clause-reads c =
    failed_visit c.args.self.now c.is_failing.new.self c.is_failing.result c.if-is_failing.true c.is_failing.ensures.next
    c.is_failing.ensures.same
