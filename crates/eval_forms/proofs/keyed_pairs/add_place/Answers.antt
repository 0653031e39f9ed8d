-- A text's place is found by the text, and the others are as before.
use Rattle.eval_forms.proofs.Placing.{text_placed}
use Rattle.eval_forms.proofs.keyed_pairs.add_place.Goals as goal

pub returns-in_ok-insert-in-Text : goal.returns-in_ok-insert-in-Text
returns-in_ok-insert-in-Text c k =
    rw c.in-Text.is
    (text_placed c.args.numbers.now c.args.texts.now c.insert-in-Text.new.self c.in_ok-copy-in-Text.field-0 c.in-Text.text
    c.args.place c.in_ok-copy-in-Text.ensures c.in_ok-insert-in-Text.ensures.updates.0 k)
