use Rattle.pp_grammar.proofs.Whole.Trees.{is_tree, tree_read, one_tree}
use Rattle.pp_grammar.proofs.Whole.Faults.{is_fault, no_tree, one_fault}
use Rattle.pp_grammar.proofs.Whole.Places.{one_place}
use Rattle.pp_grammar.proofs.Whole.Reads.{file_reads}
use Rattle.pp_grammar.proofs.laws.reads_the_grammar.Goals as goal

pub returns-clause-trees : goal.returns-clause-trees
returns-clause-trees c path text file = (is_tree path text file, tree_read path text file)

pub returns-clause-one_tree : goal.returns-clause-one_tree
returns-clause-one_tree c = one_tree

pub returns-clause-faults : goal.returns-clause-faults
returns-clause-faults c = is_fault

pub returns-clause-no_tree : goal.returns-clause-no_tree
returns-clause-no_tree c = no_tree

pub returns-clause-one_place : goal.returns-clause-one_place
returns-clause-one_place c path = one_place (file_reads path)

pub returns-clause-one_fault : goal.returns-clause-one_fault
returns-clause-one_fault c = one_fault
