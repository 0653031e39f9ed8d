-- A place past the last member leads to nothing, whatever follows.
use Rattle.std.proofs.Common.{◌≤◌, length, arith, sym, ◌∙◌}
use Rattle.std.proofs.lemmas.List.{length-map}
use Rattle.pp_values.specs.Views.{view, views}
use Rattle.hiera_merge.proofs.Places.{nothing_from}
use Rattle.hiera_merge.proofs.digging.item_from.Goals as goal

pub returns-then-place-count : goal.returns-then-place-count
returns-then-place-count c =
    let past : length (views c.args.items.now) ≤ c.loop-left.place = omega (arith, c.if-place-count.true, length-map c.args.items.now view) in
    sym (nothing_from (views c.args.items.now) c.loop-left.place c.loop-left.left.now past) ∙ c.loop-left.invariant.0

pub returns-then-place-count-2 : goal.returns-then-place-count-2
returns-then-place-count-2 c =
    let past : length (views c.args.items.now) ≤ c.loop-left.place = omega (arith, c.if-place-count-2.true, length-map c.args.items.now view) in
    sym (nothing_from (views c.args.items.now) c.loop-left.place c.loop-left.left.now past) ∙ c.loop-left.invariant.0
