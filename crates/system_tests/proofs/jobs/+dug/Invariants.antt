use Rattle.system_tests.proofs.jobs.+dug.Given as goal

abbrev pub decreases-dug : goal.decreases-dug
decreases-dug l = l.depth
