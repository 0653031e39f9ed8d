use denote.Exit.{yes}
use denote.Param.Send.{param_send, arg_send}
use Rattle.agent_machine.proofs.Sent.{machine_send}
use Rattle.site_tests.proofs.services.comes_to.Goals as goal

pub site_main-ended-requires-send-M-Part : goal.site_main-ended-requires-send-M-Part
site_main-ended-requires-send-M-Part g c κs within = param_send _ _ (arg_send _ yes _ machine_send)
