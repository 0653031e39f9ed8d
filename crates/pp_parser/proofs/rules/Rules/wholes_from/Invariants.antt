use Rattle.std.proofs.Common.{◌≡◌, ◌-◌, false}
use Rattle.pp_lexer.specs.declared.kind.Kind.TheVariants as k
use Rattle.pp_parser.specs.Input.{separated_from, turns}
use Rattle.pp_parser.specs.Inner.{whole_in}
use Rattle.pp_parser.specs.Levels.{within}
use Rattle.pp_parser.specs.Expressions.{is_at}
use Rattle.pp_parser.proofs.rules.Rules.wholes_from.Given as goal

abbrev pub invariant-loop-turn : goal.invariant-loop-turn
invariant-loop-turn g l =
    separated_from (is_at l.close) k.Comma (whole_in (within l.self.levels) false) (turns l.fn.tokens) l.fn.found l.fn.tokens
    ≡ separated_from (is_at l.close) k.Comma (whole_in (within l.self.levels) false) (l._turn-end - l._turn) l.found l.tokens
