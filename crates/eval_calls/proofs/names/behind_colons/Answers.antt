use Rattle.std.proofs.Common.{◌≡◌}
use Rattle.pp_tree.proofs.Colons.{stripped}
use Rattle.eval_calls.proofs.names.behind_colons.Goals as goal

pub returns-in-Some : goal.returns-in-Some
returns-in-Some c = let h = c.in-Some.ensures.cases in stripped c.args.text.now c.in-Some.rest.now h.0 h.1.1 h.2
