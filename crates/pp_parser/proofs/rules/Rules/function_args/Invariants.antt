use Rattle.std.proofs.Common.{◌≡◌, ◌-◌}
use Rattle.pp_lexer.specs.declared.kind.Kind.TheVariants as k
use Rattle.pp_parser.specs.Input.{separated_from, turns}
use Rattle.pp_parser.specs.FunctionBodies.{begins_none, unbraced}
use Rattle.pp_parser.specs.Levels.{within}
use Rattle.pp_parser.proofs.rules.Rules.function_args.Given as goal

abbrev pub invariant-loop-turn : goal.invariant-loop-turn
invariant-loop-turn g l =
    separated_from begins_none k.Comma (unbraced (within l.self.levels)) (turns l.fn.tokens) l.fn.found l.fn.tokens
    ≡ separated_from begins_none k.Comma (unbraced (within l.self.levels)) (l._turn-end - l._turn) l.found l.tokens
