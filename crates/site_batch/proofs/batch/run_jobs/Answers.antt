use denote.Exit.{yes}
use denote.Param.{param}
use denote.Param.Send.{param_send, arg_send}
use Rattle.site_batch.proofs.Sent.{worker_send, worked_send}
use Rattle.site_batch.proofs.batch.run_jobs.Goals as goal

pub run_waiting-requires-send-J : goal.run_waiting-requires-send-J
run_waiting-requires-send-J g c κs within =
    param_send _ _ (arg_send _ yes _ (worker_send _ _ _ _ (param 4 g.row.L-Catalog) (param 5 g.row.L-Fault) g.L.Language
    c.type_bounds.sync-L c.type_bounds.sync-G c.type_bounds.send-L-Site c.type_bounds.sync-L-Site))

pub run_waiting-requires-send-J-Out : goal.run_waiting-requires-send-J-Out
run_waiting-requires-send-J-Out g c κs within =
    param_send _ _ (arg_send _ yes _ (worked_send (param 0 g.row.L) (param 3 g.row.L-Site) (param 4 g.row.L-Catalog) (param 5 g.row.L-Fault) g.L.Language
    c.type_bounds.send-L-Site c.type_bounds.sync-L-Site c.type_bounds.send-L-Catalog c.type_bounds.send-L-Fault))
