use Rattle.world_laws.proofs.OfEvaluator.{value_at_grows, block_at_grows, main_grows, class_at_grows, instance_at_grows}
use Rattle.world_laws.proofs.OfEvaluator.{render_at_grows}
use Rattle.world_laws.proofs.growth.calls_only_add.Goals as goal

pub returns-clause-value_of : goal.returns-clause-value_of
returns-clause-value_of c = value_at_grows

pub returns-clause-run_block : goal.returns-clause-run_block
returns-clause-run_block c = block_at_grows

pub returns-clause-run_main : goal.returns-clause-run_main
returns-clause-run_main c = main_grows

pub returns-clause-declare_class : goal.returns-clause-declare_class
returns-clause-declare_class c = class_at_grows

pub returns-clause-run_instance : goal.returns-clause-run_instance
returns-clause-run_instance c = instance_at_grows

pub returns-clause-render : goal.returns-clause-render
returns-clause-render c = render_at_grows
