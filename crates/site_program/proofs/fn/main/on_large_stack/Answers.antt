use denote.Exit.{yes}
use denote.Param.Send.{param_send, arg_send}
use Rattle.agent_machine.proofs.Sent.{machine_send}
use Rattle.site_program.proofs.fn.main.on_large_stack.Goals as goal

pub run_program-requires-send-M-Part : goal.run_program-requires-send-M-Part
run_program-requires-send-M-Part g c κs = param_send _ _ (arg_send _ yes _ machine_send)
