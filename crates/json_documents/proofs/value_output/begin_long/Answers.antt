use Rattle.std.proofs.Common.{append_assoc}
use Rattle.json_documents.proofs.value_output.begin_long.Goals as goal

pub returns : goal.returns
returns c = simp (
  append_assoc,
  c.in_ok-begin_array.ensures,
  c.in_ok-key-2.ensures,
  c.in_ok-string.ensures,
  c.in_ok-key.ensures,
  c.in_ok-begin_object.ensures,
)
