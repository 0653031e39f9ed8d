use Rattle.rel_graph.proofs.graph.Graph.has_cycle.Goals as goal

pub returns-clause-no : goal.returns-clause-no
returns-clause-no c = rw (← c.self.view_is) c.self.invariant.told.no

pub returns-clause-yes : goal.returns-clause-yes
returns-clause-yes c = rw (← c.self.view_is) c.self.invariant.told.yes
