-- What may cross to another thread.
use denote.Param.Send.{IsSend, IsSync, sendable}
use denote.Ref.{NamedLft}
use denote.RattleType.{RattleType}
use Rattle.std.proofs.Crossing.{crosses}
use Rattle.res_core.specs.contracts.requests.Requests as requests
use Rattle.site_core.specs.declared.language.Language.{Ghosts}
use Rattle.work_pool.proofs.claims.Claims.TheSendSync as claims
use Rattle.site_batch.proofs.finished.Finished.TheSendSync as finished_are
use Rattle.site_batch.specs.contracts.finished.Finished as finished
use Rattle.site_core.proofs.reply.ReplyOf.TheSendSync as reply_are
use Rattle.site_core.specs.contracts.reply.ReplyOf as reply
use Rattle.work_pool.proofs.claims.ClaimSeat.TheSendSync as seat
use Rattle.site_batch.specs.contracts.worker.Worker as worker
use Rattle.shared_site.specs.contracts.pass.SitePass as pass
use Rattle.shared_site.proofs.Sent as sites
use Rattle.shared_site.proofs.Sent.{pass_send, site_sync}

-- for callers: how the parts of requests and sites may cross
pub ruleset parts = (sites.parts, sendable)

pub requests_sync : IsSync requests.the_row
requests_sync = search parts depth 60

pub worker_send : (κ : NamedLft) (L G S C F : RattleType) (g : Ghosts L.Denot S.Denot C.Denot F.Denot) → IsSync L → IsSync G →
    IsSend S → IsSync S → IsSend (worker.the_row κ L G S C F g)
worker_send κ L G S C F g language gate send sync =
    search (sendable, crosses, pass_send, site_sync, requests_sync, claims.the_sync, seat.the_send)
    depth 60 fits 40000

pub reply_send : (C F : RattleType) → IsSend C → IsSend F → IsSend (reply.the_row C F)
reply_send C F catalog fault = search (sendable, reply_are.the_send) depth 20 fits 4000

pub worked_send : (L S C F : RattleType) (g : Ghosts L.Denot S.Denot C.Denot F.Denot) → IsSend S → IsSync S →
    IsSend C → IsSend F → IsSend (finished.the_row (pass.the_row L S C F g) (reply.the_row C F))
worked_send L S C F g send sync catalog fault =
    finished_are.the_send (pass.the_row L S C F g) (reply.the_row C F) (pass_send L S C F g send sync)
    (reply_send C F catalog fault)
