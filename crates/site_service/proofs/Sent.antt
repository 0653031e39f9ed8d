-- What may cross to another thread: a connection with its pass, and what comes of it.
use denote.Param.Send.{IsSend, IsSync, sendable}
use denote.Ref.{NamedLft}
use denote.RattleType.{RattleType}
use Rattle.std.proofs.Crossing.{crosses}
use Rattle.site_core.specs.declared.language.Language.{Ghosts}
use Rattle.shared_site.specs.contracts.pass.SitePass as pass
use Rattle.shared_site.proofs.Sent.{pass_send, site_sync}
use Rattle.site_service.specs.contracts.visit.Visit as visit
use Rattle.site_service.specs.contracts.visit.Visited as visited
use Rattle.site_service.proofs.visit.Visited.TheSendSync as visited_are

pub visit_send : (κ : NamedLft) (L X G S C F : RattleType) (g : Ghosts L.Denot S.Denot C.Denot F.Denot) → IsSync L →
    IsSync G → IsSend X → IsSend S → IsSync S → IsSend (visit.the_row κ L X G S C F g)
visit_send κ L X G S C F g language gate connection send sync =
    search (sendable, crosses, pass_send, site_sync) depth 60 fits 40000

pub visited_send : (L S C F X : RattleType) (g : Ghosts L.Denot S.Denot C.Denot F.Denot) → IsSend S → IsSync S → IsSend X →
    IsSend (visited.the_row (pass.the_row L S C F g) X)
visited_send L S C F X g send sync connection =
    visited_are.the_send (pass.the_row L S C F g) X (pass_send L S C F g send sync) connection
