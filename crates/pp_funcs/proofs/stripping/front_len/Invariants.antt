-- All from the length on is white space, which is ASCII.
use Rattle.std.proofs.Common.{◌≡◌, ◌<◌, ◌≤◌, length, take, get_or}
use Rattle.pp_funcs.specs.Texts.{without_back}
use Rattle.pp_funcs.proofs.stripping.front_len.Given as goal

abbrev pub invariant-loop-len : goal.invariant-loop-len
invariant-loop-len l = (l.len ≤ length l.text) × (without_back (take l.len l.text) ≡ without_back l.text)
    × (l.len < length l.text → get_or l.text l.len 0 < 128)

abbrev pub decreases-loop-len : goal.decreases-loop-len
decreases-loop-len l = l.len
