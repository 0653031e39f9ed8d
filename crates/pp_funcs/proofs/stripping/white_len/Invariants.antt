-- All before the index is white space, which is ASCII.
use Rattle.std.proofs.Common.{◌≡◌, ◌<◌, ◌-◌, drop, get_or}
use Rattle.pp_funcs.specs.Texts.{without_front}
use Rattle.pp_funcs.proofs.stripping.white_len.Given as goal

abbrev pub invariant-loop-i : goal.invariant-loop-i
invariant-loop-i l =
    (without_front (drop l.i l.text) ≡ without_front l.text) × (0 < l.i → get_or l.text (l.i - 1) 0 < 128)
