-- What is there, and the rest, is what was there and all of it.
use Rattle.std.proofs.Common.{◌≡◌, ◌++◌, drop}
use Rattle.pp_funcs.specs.Lists.{behind}
use Rattle.pp_values.specs.Views.{views}
use Rattle.hiera_merge.proofs.uniting.add_each.Given as goal

abbrev pub invariant-loop-item : goal.invariant-loop-item
invariant-loop-item l = behind l.members.items ++ views (drop l.item-index l.items) ≡ behind l.initial.members.items ++ views l.items
