use Rattle.std.proofs.Common.{◌≡◌, ◌-◌}
use Rattle.pp_lexer.specs.declared.kind.Kind.TheVariants as k
use Rattle.pp_parser.specs.Input.{separated_from, turns}
use Rattle.pp_parser.specs.Expressions.{is_at}
use Rattle.pp_parser.specs.Statements.{attribute}
use Rattle.pp_parser.specs.Levels.{within}
use Rattle.pp_parser.proofs.rules.Rules.attributes_from.Given as goal

abbrev pub invariant-loop-turn : goal.invariant-loop-turn
invariant-loop-turn g l =
    separated_from (is_at k.CloseBrace) k.Comma (attribute (within l.self.levels) l.may_append) (turns l.fn.tokens) l.fn.found l.fn.tokens
    ≡ separated_from (is_at k.CloseBrace) k.Comma (attribute (within l.self.levels) l.may_append) (l._turn-end - l._turn) l.found l.tokens
