-- What may cross to another thread.
use denote.Param.Send.{IsSend}
use denote.RattleType.{RattleType}
use Rattle.agent_transaction.proofs.Sent.{parts, ready_send}
use Rattle.wide_apply.specs.contracts.apart_turn.ApartTurn as apart
use Rattle.wide_apply.specs.contracts.share.Share as share

pub apart_send : (P : RattleType) → IsSend P → IsSend (apart.the_row P)
apart_send P send = search (parts, ready_send) depth 60 fits 40000

pub share_send : (P : RattleType) → IsSend P → IsSend (share.the_row P)
share_send P send = search (parts, apart_send) depth 60 fits 40000
