-- The measure: how many look-ups may still begin, and where one stands within one. The loop: what is done, with the
-- rest.
use Rattle.std.proofs.Common.{◌≡◌, ◌+◌, ◌*◌, [], drop}
use Rattle.hiera_lookup.specs.Look.{answers, look}
use Rattle.hiera_lookup.specs.World.{seen}
use Rattle.hiera_lookup.proofs.looking.+look.Given as goal

abbrev pub decreases-look : goal.decreases-look
decreases-look l = 8 * l.left

abbrev pub decreases-look_within : goal.decreases-look_within
decreases-look_within l = 8 * l.left + 7

abbrev pub decreases-merge_for : goal.decreases-merge_for
decreases-merge_for l = 8 * l.left + 6

abbrev pub decreases-option_for : goal.decreases-option_for
decreases-option_for l = 8 * l.left + 5

abbrev pub decreases-interpolated : goal.decreases-interpolated
decreases-interpolated l = 8 * l.left + 4

abbrev pub decreases-interpolated_value : goal.decreases-interpolated_value
decreases-interpolated_value l = 8 * l.left + 3

abbrev pub decreases-answers : goal.decreases-answers
decreases-answers l = 8 * l.left + 2

abbrev pub decreases-answer : goal.decreases-answer
decreases-answer l = 8 * l.left + 1

abbrev pub invariant-answers-loop-ask : goal.invariant-answers-loop-ask
invariant-answers-loop-ask l =
    answers (look (seen l.world) l.left) l.busy l.done (drop l.ask-index l.asked)
    ≡ answers (look (seen l.world) l.left) l.busy [] l.asked
