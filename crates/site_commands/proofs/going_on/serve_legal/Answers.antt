use denote.Exit.{yes}
use denote.Param.Send.{param_send, param_sync, arg_send, arg_sync}
use Rattle.std.proofs.Common.{refl}
use Rattle.res_core.proofs.Sent.{catalog_send}
use Rattle.command_outputs.proofs.Sent.{site_send, site_sync}
use Rattle.command_outputs.specs.Resuming.{authors_line}
use Rattle.history_audit.specs.declared.verdict.Verdict.TheVariants as v
use Rattle.site_commands.proofs.GoneOn.{barred, gone_on, lacking, told_author}
use Rattle.site_commands.proofs.Served.{serves_told}
use Rattle.site_commands.proofs.going_on.serve_legal.Goals as goal

pub returns-in-Ok : goal.returns-in-Ok
returns-in-Ok g c = gone_on (v.Legal 0) c.args.history.entries c.args.count _ _ _ _ _ _ c.tell_service.result
    c.in-Ok.ensures.ok.0
    (serves_told _ c.args.history.entries c.args.count _ _ _ _ _ _ c.tell_service.result c.in-Ok.served.history.entries
    c.in-Ok.served.ends.items c.in-Ok.served.stop c.in-Ok.ensures.ok.1 c.tell_service.ensures)

pub returns-in-Err-Authors : goal.returns-in-Err-Authors
returns-in-Err-Authors g c = barred (v.Legal 0) c.args.history.entries c.args.count _ _ _ _ _ _ c.write_made.result
    c.refuse_author.result (authors_line c.in-Err-Authors.author)
    (c.in-Err-Authors.author, (told_author c.args.history.entries _ _ c.in-Err-Authors.field-0-is c.in-Err-Authors.ensures.ok, refl))
    c.refuse_author.ensures c.write_made.ensures c.in-Err-Authors.ensures.err

pub returns-in-Err-Memory : goal.returns-in-Err-Memory
returns-in-Err-Memory g c = lacking (v.Legal 0) c.args.history.entries c.args.count _ _ _ _ _ _ c.refuse.result
    c.refuse.ensures.ending c.refuse.ensures.line refl c.in-Err-Memory.ensures.err

pub serve_resumed-requires-send-L-Site : goal.serve_resumed-requires-send-L-Site
serve_resumed-requires-send-L-Site g c κs within = param_send _ _ (arg_send _ yes _ site_send)

pub serve_resumed-requires-send-L-Catalog : goal.serve_resumed-requires-send-L-Catalog
serve_resumed-requires-send-L-Catalog g c κs within = param_send _ _ (arg_send _ yes _ catalog_send)

pub serve_resumed-requires-sync-L-Site : goal.serve_resumed-requires-sync-L-Site
serve_resumed-requires-sync-L-Site g c κs within = param_sync _ _ (arg_sync _ yes _ site_sync)
