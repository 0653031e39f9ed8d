use denote.Exit.{yes}
use denote.Param.Send.{param_send, arg_send}
use Rattle.std.specs.List.{each_same}
use Rattle.site_bundle.proofs.Sent.{manifest_send}
use Rattle.site_bundle.proofs.parsing.parse_on_threads.Goals as goal

pub run_all-requires-send-J : goal.run_all-requires-send-J
run_all-requires-send-J g c κs within = param_send _ _ (arg_send _ yes _ manifest_send)

pub run_all-requires-send-J-Out : goal.run_all-requires-send-J-Out
run_all-requires-send-J-Out g c κs within = param_send _ _ (arg_send _ yes _ manifest_send)

pub returns : goal.returns
returns g c = each_same _ _ c.in_ok-parsed.ensures
