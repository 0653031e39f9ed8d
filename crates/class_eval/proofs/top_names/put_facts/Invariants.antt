-- What is left decides.
use Rattle.std.proofs.Common.{◌≡◌, length}
use Rattle.pp_values.specs.Views.{pair_views}
use Rattle.class_eval.specs.TopNames.{with_facts}
use Rattle.class_eval.proofs.top_names.put_facts.Given as goal

abbrev pub invariant-loop-fact : goal.invariant-loop-fact
invariant-loop-fact l = with_facts (pair_views l.facts) l.fn.scopes ≡ with_facts (pair_views l.rest) l.scopes

abbrev pub decreases-loop-fact : goal.decreases-loop-fact
decreases-loop-fact l = length l.rest
