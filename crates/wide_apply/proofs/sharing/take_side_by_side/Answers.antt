use denote.Exit.{yes}
use denote.Param.{param}
use denote.Param.Send.{param_send, arg_send}
use Rattle.std.proofs.Common.{sym, subst}
use Rattle.wide_apply.specs.Apart.{Takes, TakesAll}
use Rattle.wide_apply.specs.Shares.{gathered}
use Rattle.wide_apply.proofs.Sent.{share_send}
use Rattle.wide_apply.proofs.ShareLemmas.{shares_zip}
use Rattle.wide_apply.proofs.sharing.take_side_by_side.Goals as goal

pub run_all-requires-send-J : goal.run_all-requires-send-J
run_all-requires-send-J g c κs within =
    param_send _ _ (arg_send _ yes _ (share_send (param 0 g.row.P) c.type_bounds.send-P))

pub returns : goal.returns
returns g c =
    subst (λ l. TakesAll g.P.Machine.state c.args.turns.items l) (sym c.in_ok-taken.ensures.all)
    (subst (λ l. TakesAll g.P.Machine.state l (gathered c.in_ok-parts.parts.items)) c.in_ok-shares.ensures
    (shares_zip (Takes g.P.Machine.state) c.in_ok-shares.shares.items c.in_ok-parts.parts.items c.in_ok-parts.ensures
    c.in_ok-taken.ensures.ok))
