-- A text's place is found by the text, and the others are as before.
use Rattle.std.proofs.Common.{refl}
use Rattle.hiera_merge.proofs.Placing.{text_placed}
use Rattle.hiera_merge.proofs.key_places.KeyPlaces.set.Goals as goal

pub returns-in_ok-insert-in-Text : goal.returns-in_ok-insert-in-Text
returns-in_ok-insert-in-Text c k =
    rw c.in-Text.is
    (text_placed c.args.self.now (record { numbers = c.args.self.now.numbers; texts = c.insert-in-Text.new.self })
    c.in_ok-copy-in-Text.field-0 c.in-Text.text
    c.args.place c.in_ok-copy-in-Text.ensures refl c.in_ok-insert-in-Text.ensures.updates.0 k)
