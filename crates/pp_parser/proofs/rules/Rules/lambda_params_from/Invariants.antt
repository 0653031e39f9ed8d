use Rattle.std.proofs.Common.{◌≡◌, ◌-◌, true}
use Rattle.pp_lexer.specs.declared.kind.Kind.TheVariants as k
use Rattle.pp_parser.specs.Input.{separated_from, turns}
use Rattle.pp_parser.specs.Inner.{param_in}
use Rattle.pp_parser.specs.Kinds.{is_bar}
use Rattle.pp_parser.specs.Levels.{within}
use Rattle.pp_parser.proofs.rules.Rules.lambda_params_from.Given as goal

abbrev pub invariant-loop-turn : goal.invariant-loop-turn
invariant-loop-turn g l =
    separated_from is_bar k.Comma (param_in (within l.self.levels) true) (turns l.fn.tokens) l.fn.found l.fn.tokens
    ≡ separated_from is_bar k.Comma (param_in (within l.self.levels) true) (l._turn-end - l._turn) l.found l.tokens
