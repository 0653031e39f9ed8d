use Rattle.class_eval.proofs.knot.+evaluate.Given as goal

abbrev pub decreases-evaluate : goal.decreases-evaluate
decreases-evaluate l = l.left
