use Rattle.std.proofs.Common.{append_assoc}
use Rattle.json_values.specs.ValueForm.{reference_form}
use Rattle.json_documents.proofs.value_output.write_reference.Goals as goal

pub returns : goal.returns
unfolding reference_form
returns c = simp (
  append_assoc,
  c.in_ok-end_object.ensures,
  c.in_ok-string-3.ensures,
  c.as_str-2.ensures.text,
  c.in_ok-key-3.ensures,
  c.in_ok-string-2.ensures,
  c.as_str.ensures.text,
  c.in_ok-key-2.ensures,
  c.in_ok-string.ensures,
  c.in_ok-key.ensures,
  c.in_ok-begin_object.ensures,
)
