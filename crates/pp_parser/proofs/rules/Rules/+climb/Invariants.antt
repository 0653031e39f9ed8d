use Rattle.std.proofs.Common.{◌≡◌, ◌+◌, ◌*◌, ◌-◌, None}
use Rattle.pp_parser.specs.Input.{repeat, repeat_from}
use Rattle.pp_parser.specs.Levels.{within}
use Rattle.pp_parser.specs.Expressions.{operation_rule, chain, climb}
use Rattle.pp_parser.proofs.rules.Rules.+climb.Given as goal

abbrev pub decreases-climb : goal.decreases-climb
decreases-climb g l = 2 * l.loosest + 1

abbrev pub decreases-operations : goal.decreases-operations
decreases-operations g l = 2 * l.strength

abbrev pub invariant-operations-loop-turn : goal.invariant-operations-loop-turn
invariant-operations-loop-turn g l =
    repeat (operation_rule (within l.self.levels) (chain (within l.self.levels) l.bars (l.strength - 1) None) l.strength) l.fn.tokens
    ≡ repeat_from (operation_rule (within l.self.levels) (chain (within l.self.levels) l.bars (l.strength - 1) None) l.strength) (l._turn-end - l._turn) l.found l.tokens

abbrev pub invariant-climb-loop-strength : goal.invariant-climb-loop-strength
invariant-climb-loop-strength g l =
    climb (within l.self.levels) l.bars l.loosest 1 l.fn.first l.fn.tokens
    ≡ climb (within l.self.levels) l.bars (l.loosest + 1 - l.strength) l.strength l.x l.tokens
