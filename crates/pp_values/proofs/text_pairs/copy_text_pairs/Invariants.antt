-- The pairs copied so far are those before the index.
use Rattle.std.proofs.Common.{◌≡◌, take}
use Rattle.pp_values.proofs.text_pairs.copy_text_pairs.Given as goal

abbrev pub invariant-loop-name : goal.invariant-loop-name
invariant-loop-name l = l.items.items ≡ take l.name-index l.name-items
