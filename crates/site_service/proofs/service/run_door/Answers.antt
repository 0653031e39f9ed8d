use denote.Exit.{no}
use denote.Param.{param}
use denote.Param.Send.{param_send, arg_send}
use Rattle.site_service.proofs.Sent.{visit_send, visited_send}
use Rattle.site_service.proofs.Running.{run_as, name_kept}
use Rattle.site_service.proofs.service.run_door.Goals as goal

pub run_supplied-requires-send-S-Job : goal.run_supplied-requires-send-S-Job
run_supplied-requires-send-S-Job g c κs within =
    param_send _ _ (arg_send _ no _ (visit_send _ _ _ _ _ (param 5 g.row.L-Catalog) (param 6 g.row.L-Fault) g.L.Language
    c.type_bounds.sync-L c.type_bounds.sync-G c.type_bounds.send-N-Conn c.type_bounds.send-L-Site c.type_bounds.sync-L-Site))

pub run_supplied-requires-send-S-Job-Out : goal.run_supplied-requires-send-S-Job-Out
run_supplied-requires-send-S-Job-Out g c κs within =
    param_send _ _ (arg_send _ no _ (visited_send (param 0 g.row.L) (param 4 g.row.L-Site) (param 5 g.row.L-Catalog) (param 6 g.row.L-Fault)
    (param 7 g.row.N-Conn) g.L.Language
    c.type_bounds.send-L-Site c.type_bounds.sync-L-Site c.type_bounds.send-N-Conn))

pub returns-clause-same_reference : goal.returns-clause-same_reference
returns-clause-same_reference g c =
    name_kept _ _ _ _ _ _ c.run_supplied.ensures (λ d. d.net.ghost_name) (λ d v e given. given.0)

pub returns-clause-ran : goal.returns-clause-ran
returns-clause-ran g c =
    run_as _ _ _ _ (λ v. (v.pass, g.N.Conn.Outside.stream v.connection)) (λ d v e given. (given.0, given.2)) (λ v o kept. kept)
    _ _ _ _ c.run_supplied.ensures
