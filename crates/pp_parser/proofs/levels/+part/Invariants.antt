use Rattle.pp_parser.proofs.levels.+part.Given as goal

abbrev pub decreases-part : goal.decreases-part
decreases-part l = l.levels
