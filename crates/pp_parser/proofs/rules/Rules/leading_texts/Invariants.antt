use Rattle.std.proofs.Common.{◌≡◌, ◌-◌}
use Rattle.pp_parser.specs.Input.{repeat, repeat_from}
use Rattle.pp_parser.specs.Levels.{within}
use Rattle.pp_parser.specs.Templates.{leading}
use Rattle.pp_parser.proofs.rules.Rules.leading_texts.Given as goal

abbrev pub invariant-loop-turn : goal.invariant-loop-turn
invariant-loop-turn g l =
    repeat (leading (within l.self.levels)) l.fn.tokens
    ≡ repeat_from (leading (within l.self.levels)) (l._turn-end - l._turn) l.found l.tokens
