use Rattle.std.proofs.Common.{sym, subst}
use Rattle.site_io.specs.Net.{IsGone}
use Rattle.site_io.proofs.Nets.{place_of, put_in}
use Rattle.site_io.proofs.mem_listener.MemListenerListener.end_connection.Goals as goal

pub put_connection-requires : goal.put_connection-requires
put_connection-requires c =
    place_of c.self.inside.waiting.items c.self.inside.given.items c.args.number
    (subst (λ s. IsGone c.args.number s.net.told) (sym c.self.view_is) c.requires.1)

pub returns-clause-ended : goal.returns-clause-ended
returns-clause-ended c =
    rw (← c.self.view_is) (rw c.put_connection.ensures.items (put_in c.self.inside.faults c.self.inside.waiting.items
    c.self.inside.given.items c.args.number c.args.connection))
