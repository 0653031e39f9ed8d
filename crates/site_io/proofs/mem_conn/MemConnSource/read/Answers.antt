use Rattle.std.proofs.Common.{Some}
use Rattle.site_io.proofs.Sources.{given_by}
use Rattle.site_io.proofs.mem_conn.MemConnSource.read.Goals as goal

pub returns-clause-reads : goal.returns-clause-reads
returns-clause-reads c =
    let copy = c.copy_next-self-inside in
    let next = rw c.as_slice.ensures at copy.ensures.next in
    let copied = rw c.as_slice.ensures at copy.ensures.copied in
    rw (← c.self.view_is) (given_by c.self.inside.faults c.self.inside.at copy.result c.self.inside.bytes copy.new.into next copied
    (Some c.self.inside.written.items) (Some c.self.inside.is_shut))
