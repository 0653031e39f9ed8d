use Rattle.std.proofs.Common.{◌≡◌, ◌-◌, false}
use Rattle.pp_lexer.specs.declared.kind.Kind.TheVariants as k
use Rattle.pp_parser.specs.Input.{separated_from, turns}
use Rattle.pp_parser.specs.Expressions.{param_rule}
use Rattle.pp_parser.specs.Kinds.{ends_params}
use Rattle.pp_parser.specs.Levels.{within}
use Rattle.pp_parser.proofs.rules.Rules.template_params_from.Given as goal

abbrev pub invariant-loop-turn : goal.invariant-loop-turn
invariant-loop-turn g l =
    separated_from ends_params k.Comma (param_rule (within l.self.levels) false) (turns l.fn.tokens) l.fn.found l.fn.tokens
    ≡ separated_from ends_params k.Comma (param_rule (within l.self.levels) false) (l._turn-end - l._turn) l.found l.tokens
