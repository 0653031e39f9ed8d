-- What is left decides.
use Rattle.std.proofs.Common.{◌≡◌, length}
use Rattle.pp_values.specs.Views.{views}
use Rattle.eval_resources.specs.Resources.{titles_rule}
use Rattle.eval_resources.proofs.titles.declare_titles.Given as goal

abbrev pub invariant-loop-title : goal.invariant-loop-title
invariant-loop-title g l =
    titles_rule (g.M.Meaning.within l.forms.left) l.form l.kind (views l.titles) l.body l.here l.fn.world
    ≡ titles_rule (g.M.Meaning.within l.forms.left) l.form l.kind (views l.rest) l.body l.here l.world

abbrev pub decreases-loop-title : goal.decreases-loop-title
decreases-loop-title g l = length l.rest
