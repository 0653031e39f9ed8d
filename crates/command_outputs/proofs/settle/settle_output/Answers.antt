use denote.Exit.{yes}
use denote.Param.Send.{param_send, param_sync, arg_send, arg_sync}
use Rattle.res_core.proofs.Sent.{catalog_send}
use Rattle.command_outputs.proofs.Sent.{site_send, site_sync}
use Rattle.command_outputs.proofs.SettledSites.{if_settled}
use Rattle.command_outputs.proofs.settle.settle_output.Goals as goal

pub settle-requires-send-L-Site : goal.settle-requires-send-L-Site
settle-requires-send-L-Site g c κs within = param_send _ _ (arg_send _ yes _ site_send)

pub settle-requires-send-L-Catalog : goal.settle-requires-send-L-Catalog
settle-requires-send-L-Catalog g c κs within = param_send _ _ (arg_send _ yes _ catalog_send)

pub settle-requires-sync-L-Site : goal.settle-requires-sync-L-Site
settle-requires-sync-L-Site g c κs within = param_sync _ _ (arg_sync _ yes _ site_sync)

pub returns : goal.returns
returns g c = if_settled c.args.rounds c.args.workers c.in_ok-came.came.rounds c.in_ok-came.came.end
    c.in_ok-came.came.history.entries c.args.bundle c.in_ok-nodes.nodes c.in_ok-text.text c.end_output.result
    c.in_ok-nodes.ensures.names c.in_ok-nodes.ensures.listed c.settled_is_meant.ensures c.in_ok-came.ensures.rounds
    c.in_ok-came.ensures.authors c.in_ok-text.ensures c.end_output.ensures
