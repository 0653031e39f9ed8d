-- The end of a connection says the same of its bytes, whatever is known of what the site replied.
use Rattle.std.proofs.Common.{ℕ, ◌≤◌, List, [], ◌∷◌, arith}
use Rattle.site_io.specs.Stream.{Stream}
use Rattle.site_core.specs.Asked.{Asked}
use Rattle.site_core.specs.Meaning.{Meaning}
use Rattle.site_core.specs.Events.{Event}
use Rattle.site_core.specs.Fits.{Listed, had_said, had}
use Rattle.site_core.specs.Runs.{Runs}
use Rattle.site_core.specs.Said as t
use Rattle.site_core.specs.Said.{Said, said}
use Rattle.site_core.specs.declared.reply.ReplyOf.{ReplyOf}
use Rattle.site_core.proofs.Fitting.{fits_less}
use Rattle.http_wire.specs.declared.request.HttpRequest.{HttpRequest}
use Rattle.site_serve.specs.declared.conn_end.ConnEnd.{ConnEnd}
use Rattle.site_serve.specs.declared.conn_end.ConnEnd.TheVariants as end
use Rattle.site_serve.specs.Ends.{Dialect, HasTalked, HasStopped, Ends}

module _ {C F : Type 0} where
  had_less_said : (less s : ℕ) (told : Said C F) → less ≤ s → had_said less told ≤ had_said s told
  had_less_said less s (t.served entry k catalog) le = omega arith
  had_less_said less s (t.refused k fault) le = omega arith
  had_less_said less s (t.unknown k) le = omega arith
  had_less_said less s (t.ahead n) le = omega arith
  had_less_said less s (t.full n) le = omega arith
  had_less_said less s (t.added kind entry) le = omega arith
  had_less_said less s t.short le = le

-- what runs for one who has seen s entries runs for one who has seen less
pub runs_less : {S C F : Type 0} (meaning : Meaning S C F) (listed : Listed S) (h : List (Event S))
    (limit author s less : ℕ) (asked : List (Asked S)) (replies : List (ReplyOf C F)) → less ≤ s →
    Runs meaning listed h limit author s asked replies → Runs meaning listed h limit author less asked replies
runs_less meaning listed h limit author s less [] [] le run = run
runs_less meaning listed h limit author s less (one ∷ asked) (reply ∷ replies) le run = (
  fits_less meaning listed h limit author s less one reply le run.0,
  runs_less meaning listed h limit author (had s reply) (had less reply) asked replies
      (had_less_said less s (said reply) le) run.1,
)
runs_less meaning listed h limit author s less [] (reply ∷ replies) le run = absurd run
runs_less meaning listed h limit author s less (one ∷ asked) [] le run = absurd run

module _ {S C F : Type 0} (d : Dialect S C F) (P Q : List (Asked S) → List (ReplyOf C F) → Type 0)
    (f : (asked : List (Asked S)) (replies : List (ReplyOf C F)) → P asked replies → Q asked replies) where
  talked_as : (bytes rest due : List ℕ) (rs : List HttpRequest) → HasTalked d P bytes rest due rs →
      HasTalked d Q bytes rest due rs
  talked_as bytes rest due rs talked = record {
    begins = talked.begins;
    turns = talked.turns;
    each = talked.each;
    replies = f _ _ talked.replies;
    due_is = talked.due_is;
  }

  stopped_as : (before after : Stream) → HasStopped d P before after → HasStopped d Q before after
  stopped_as before after stopped = record {
    bytes = stopped.bytes;
    rest = stopped.rest;
    text = stopped.text;
    due = stopped.due;
    rs = stopped.rs;
    talked = talked_as stopped.bytes stopped.rest stopped.due stopped.rs stopped.talked;
    traded = stopped.traded;
    taken = stopped.taken;
    front = stopped.front;
  }

  pub ends_as : (e : ConnEnd) (before after : Stream) → Ends d P e before after → Ends d Q e before after
  ends_as end.Closed before after x = (x.0, x.1, x.2, x.3, talked_as x.0 x.1 x.2 x.3 x.4, x.5, x.6)
  ends_as (end.Bad why at) before after x = (x.0, x.1, x.2, x.3, talked_as x.0 x.1 x.2 x.3 x.4, x.5, x.6, x.7, x.8)
  ends_as end.ReadFault before after x = (x.0, x.1, x.2, x.3, talked_as x.0 x.1 x.2 x.3 x.4, x.5, x.6, x.7, x.8)
  ends_as end.WriteFault before after x = (stopped_as before after x.0, x.1)
  ends_as end.Memory before after x = stopped_as before after x

-- at whatever end, what the site was asked and replied
pub asked_of : {S C F : Type 0} (d : Dialect S C F) (P : List (Asked S) → List (ReplyOf C F) → Type 0) (e : ConnEnd)
    (before after : Stream) → Ends d P e before after →
    (asked : List (Asked S)) × (replies : List (ReplyOf C F)) × P asked replies
asked_of d P end.Closed before after x = (_, _, x.4.replies)
asked_of d P (end.Bad why at) before after x = (_, _, x.4.replies)
asked_of d P end.ReadFault before after x = (_, _, x.4.replies)
asked_of d P end.WriteFault before after x = (_, _, x.0.talked.replies)
asked_of d P end.Memory before after x = (_, _, x.talked.replies)
