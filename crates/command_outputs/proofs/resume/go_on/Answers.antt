use denote.Exit.{yes}
use denote.Param.Send.{param_send, param_sync, arg_send, arg_sync}
use Rattle.res_core.proofs.Sent.{catalog_send}
use Rattle.command_outputs.proofs.Resumed.{told_great, went_on}
use Rattle.command_outputs.proofs.Sent.{site_send, site_sync}
use Rattle.command_outputs.proofs.resume.go_on.Goals as goal

pub resume_batch-requires-send-L-Site : goal.resume_batch-requires-send-L-Site
resume_batch-requires-send-L-Site g c κs within = param_send _ _ (arg_send _ yes _ site_send)

pub resume_batch-requires-send-L-Catalog : goal.resume_batch-requires-send-L-Catalog
resume_batch-requires-send-L-Catalog g c κs within = param_send _ _ (arg_send _ yes _ catalog_send)

pub resume_batch-requires-sync-L-Site : goal.resume_batch-requires-sync-L-Site
resume_batch-requires-sync-L-Site g c κs within = param_sync _ _ (arg_sync _ yes _ site_sync)

pub returns-in_ok-text-in-Ok : goal.returns-in_ok-text-in-Ok
returns-in_ok-text-in-Ok g c = went_on c.args.workers c.output_of.result c.args.history.entries c.args.requests.now
    c.in-Ok.came.replies c.in-Ok.came.history.entries c.in_ok-text-in-Ok.text c.in-Ok.ensures.0 c.in-Ok.ensures.1
    c.in_ok-text-in-Ok.ensures c.output_of.ensures

pub returns-in-Err-Authors : goal.returns-in-Err-Authors
returns-in-Err-Authors g c = told_great c.args.workers c.refuse_author.result c.args.history.entries c.args.requests.now
    c.in-Err-Authors.field-0 c.in-Err-Authors.author c.in-Err-Authors.field-0-is c.in-Err-Authors.ensures
    c.refuse_author.ensures
