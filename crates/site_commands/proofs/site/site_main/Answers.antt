use Rattle.site_commands.proofs.Rising.{ended-source, ended-sinks, ended-net, ended-tree}
use Rattle.site_commands.proofs.Settling.{ended-settled}
use Rattle.site_commands.proofs.Wording.{ended-complaint, ended-faulty}
use Rattle.site_commands.proofs.site.site_main.Goals as goal

pub returns-clause-words : goal.returns-clause-words
returns-clause-words g c = ended-complaint c.run.result _ _ _ c.run.ensures

pub returns-clause-faulty : goal.returns-clause-faulty
returns-clause-faulty g c = ended-faulty c.run.result _ _ _ c.run.ensures

pub returns-clause-settled : goal.returns-clause-settled
returns-clause-settled g c = ended-settled c.run.result _ _ _ c.run.ensures

pub returns-clause-source_rose : goal.returns-clause-source_rose
returns-clause-source_rose g c = ended-source c.run.result _ _ _ c.run.ensures

pub returns-clause-sink_rose : goal.returns-clause-sink_rose
returns-clause-sink_rose g c = ended-sinks c.run.result _ _ _ c.run.ensures

pub returns-clause-net_rose : goal.returns-clause-net_rose
returns-clause-net_rose g c = ended-net c.run.result _ _ _ c.run.ensures

pub returns-clause-tree_rose : goal.returns-clause-tree_rose
returns-clause-tree_rose g c = ended-tree c.run.result _ _ _ c.run.ensures
