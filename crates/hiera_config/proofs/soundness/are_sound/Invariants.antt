-- What is left tells what all of it tells.
use Rattle.std.proofs.Common.{◌≡◌, drop}
use Rattle.std.specs.List.{list_all}
use Rattle.hiera_config.specs.Sound.{is_sound_slot}
use Rattle.hiera_config.proofs.soundness.are_sound.Given as goal

abbrev pub invariant-loop-slot : goal.invariant-loop-slot
invariant-loop-slot l = list_all is_sound_slot (drop l.slot-index l.plan) ≡ list_all is_sound_slot l.plan
