use Rattle.std.proofs.Common.{◌≡◌, ◌-◌}
use Rattle.pp_parser.specs.Input.{repeat, repeat_from}
use Rattle.pp_parser.specs.Levels.{within}
use Rattle.pp_parser.specs.FunctionBodies.{next_statement}
use Rattle.pp_parser.proofs.rules.Rules.function_statements.Given as goal

abbrev pub invariant-loop-turn : goal.invariant-loop-turn
invariant-loop-turn g l =
    repeat (next_statement (within l.self.levels)) l.fn.tokens
    ≡ repeat_from (next_statement (within l.self.levels)) (l._turn-end - l._turn) l.found l.tokens
