use Rattle.std.proofs.Common.{sym, ◌∙◌}
use Rattle.pp_values.specs.Views.{view}
use Rattle.hiera_merge.proofs.StackLemmas.{hash_joining, list_joining}
use Rattle.hiera_merge.proofs.deepening.joining_of.Goals as goal

pub returns-then-is_hash : goal.returns-then-is_hash
returns-then-is_hash c = hash_joining (view c.args.high.now) (sym c.is_hash.ensures ∙ c.if-is_hash.true)

pub returns-then-is_list : goal.returns-then-is_list
returns-then-is_list c = list_joining (view c.args.high.now) (sym c.is_list.ensures ∙ c.if-is_list.true)
