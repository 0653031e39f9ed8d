-- A text's value is found by the text, and the others are as before.
use Rattle.pp_ops.proofs.Indexed.{text_added}
use Rattle.pp_ops.proofs.key_index.add.Goals as goal

pub returns-in_ok-insert-in-Text : goal.returns-in_ok-insert-in-Text
returns-in_ok-insert-in-Text c k =
    rw c.in-Text.is
    (text_added c.args.numbers.now c.args.texts.now c.insert-in-Text.new.self c.in_ok-copy-in-Text.field-0 c.in-Text.text
    c.args.value c.in_ok-copy-in-Text.ensures c.in_ok-insert-in-Text.ensures.updates.0 k)
