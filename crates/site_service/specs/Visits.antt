-- What comes of one connection.
use Rattle.hist_lock.specs.Calls.{AreCalls}
use Rattle.site_io.specs.Stream.{Stream, HasShut}
use Rattle.site_core.specs.Meaning.{Meaning}
use Rattle.site_core.specs.Events.{author_of}
use Rattle.site_core.specs.Fits.{Listed}
use Rattle.shared_site.specs.Known.{Known}
use Rattle.site_serve.specs.declared.conn_end.ConnEnd.{ConnEnd}
use Rattle.site_serve.specs.Ends.{Dialect, Ends, HasReplied, IsPrompt}

-- With a pass that was p at first, and is q now, a connection was served to this end and then shut. The pass's own
-- entries are those that its authors made.
pub record HasVisited {S C F : Type 0} (meaning : Meaning S C F) (listed : Listed S) (d : Dialect S C F) (p : Known S)
    (given : Stream) (end : ConnEnd) (q : Known S) (shut : Stream) : Type 0 where
  pub ended : Stream
  pub ends : Ends d (HasReplied meaning listed p q) end given ended
  pub prompt : IsPrompt d given ended
  pub shut_is : HasShut ended shut
  pub calls : AreCalls author_of q.own q.numbers q.front
