use denote.Exit.{yes}
use denote.Param.Send.{param_send, param_sync, arg_send, arg_sync}
use Rattle.std.proofs.Common.{refl}
use Rattle.res_core.proofs.Sent.{catalog_send}
use Rattle.command_outputs.proofs.Sent.{site_send, site_sync}
use Rattle.site_commands.proofs.Served.{serves_told, serves_lacking}
use Rattle.site_commands.proofs.serving.serve_site.Goals as goal

pub returns-in-Ok : goal.returns-in-Ok
returns-in-Ok g c = serves_told 0 _ c.args.count _ _ _ _ _ _ c.tell_service.result
    c.in-Ok.served.history.entries c.in-Ok.served.ends.items c.in-Ok.served.stop c.in-Ok.ensures.ok c.tell_service.ensures

pub returns-in-Err : goal.returns-in-Err
returns-in-Err g c = serves_lacking 0 _ c.args.count _ _ _ _ _ _ c.refuse.result c.refuse.ensures.ending
    c.refuse.ensures.line refl c.in-Err.ensures.err

pub serve-requires-send-L-Site : goal.serve-requires-send-L-Site
serve-requires-send-L-Site g c κs within = param_send _ _ (arg_send _ yes _ site_send)

pub serve-requires-send-L-Catalog : goal.serve-requires-send-L-Catalog
serve-requires-send-L-Catalog g c κs within = param_send _ _ (arg_send _ yes _ catalog_send)

pub serve-requires-sync-L-Site : goal.serve-requires-sync-L-Site
serve-requires-sync-L-Site g c κs within = param_sync _ _ (arg_sync _ yes _ site_sync)
