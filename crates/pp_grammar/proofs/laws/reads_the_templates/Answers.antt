use Rattle.pp_grammar.proofs.Whole.Places.{one_place}
use Rattle.pp_grammar.proofs.Whole.Reads.{template_reads}
use Rattle.pp_grammar.proofs.Whole.Templates.{one_template, is_template, template_is_read, is_template_fault, no_template, one_template_fault}
use Rattle.pp_grammar.proofs.laws.reads_the_templates.Goals as goal

pub returns-clause-trees : goal.returns-clause-trees
returns-clause-trees c path end ts t = (is_template path end ts t, template_is_read path end ts t)

pub returns-clause-one_tree : goal.returns-clause-one_tree
returns-clause-one_tree c = one_template

pub returns-clause-faults : goal.returns-clause-faults
returns-clause-faults c = is_template_fault

pub returns-clause-no_tree : goal.returns-clause-no_tree
returns-clause-no_tree c = no_template

pub returns-clause-one_place : goal.returns-clause-one_place
returns-clause-one_place c = one_place template_reads

pub returns-clause-one_fault : goal.returns-clause-one_fault
returns-clause-one_fault c = one_template_fault
