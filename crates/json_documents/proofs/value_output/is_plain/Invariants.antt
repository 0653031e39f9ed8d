use Rattle.std.proofs.Common.{◌≡◌, length}
use Rattle.pp_values.specs.Datum.{entries_of}
use Rattle.pp_values.specs.Views.{pair_views}
use Rattle.json_values.specs.ValueForm.{is_plain}
use Rattle.json_documents.proofs.value_output.is_plain.Given as goal

abbrev pub invariant-loop-left : goal.invariant-loop-left
invariant-loop-left l = is_plain (entries_of (pair_views l.left)) ≡ is_plain (entries_of (pair_views l.pairs))

abbrev pub decreases-loop-left : goal.decreases-loop-left
decreases-loop-left l = length l.left
