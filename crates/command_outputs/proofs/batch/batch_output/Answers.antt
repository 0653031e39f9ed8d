use denote.Exit.{yes}
use denote.Param.Send.{param_send, param_sync, arg_send, arg_sync}
use Rattle.res_core.proofs.Sent.{catalog_send}
use Rattle.command_outputs.proofs.Sent.{site_send, site_sync}
use Rattle.command_outputs.proofs.batch.batch_output.Goals as goal

pub run_batch-requires-send-L-Site : goal.run_batch-requires-send-L-Site
run_batch-requires-send-L-Site g c κs within = param_send _ _ (arg_send _ yes _ site_send)

pub run_batch-requires-send-L-Catalog : goal.run_batch-requires-send-L-Catalog
run_batch-requires-send-L-Catalog g c κs within = param_send _ _ (arg_send _ yes _ catalog_send)

pub run_batch-requires-sync-L-Site : goal.run_batch-requires-sync-L-Site
run_batch-requires-sync-L-Site g c κs within = param_sync _ _ (arg_sync _ yes _ site_sync)
