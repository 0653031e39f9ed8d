use Rattle.std.proofs.Common.{sym, ap, ◌∙◌}
use Rattle.std.proofs.lemmas.List.{nil_from_length}
use Rattle.std.specs.Vec.Iter.{into_iter_items}
use Rattle.pp_values.specs.Datum.{data_of}
use Rattle.pp_values.specs.Views.{views}
use Rattle.json_values.specs.Forms.{in_turn}
use Rattle.json_values.proofs.Items.{hash_so_far}
use Rattle.json_values.proofs.FormSteps.{two_read, none_left}
use Rattle.json_values.proofs.reading.in_turn.Goals as goal

pub loop-key-preserved : goal.loop-key-preserved
loop-key-preserved c =
    ap (λ ps. hash_so_far ps (in_turn (data_of (views (into_iter_items c.next-in-Some.new.self))))) c.in_ok-push.ensures.items
    ∙ two_read c.loop-key.pairs.items c.in-Some.key c.in-Some-next.value (into_iter_items c.next-in-Some.new.self) (into_iter_items c.loop-key.left) (into_iter_items c.next.new.self)
    c.in-Some.ensures.cases.0 c.in-Some-next.ensures.cases.0
    ∙ c.loop-key.invariant

pub returns : goal.returns
returns c = sym c.loop-key.invariant ∙ none_left c.loop-key.pairs.items (into_iter_items c.loop-key.left) (nil_from_length _ (sym c.loop-key.left.rest.ok.0 ∙ c.in_default.ensures.cases.0))
