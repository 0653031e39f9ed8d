use Rattle.std.proofs.Common.{◌≡◌, ◌-◌}
use Rattle.pp_lexer.specs.declared.kind.Kind.TheVariants as k
use Rattle.pp_parser.specs.Input.{separated_from, turns}
use Rattle.pp_parser.specs.Levels.{within}
use Rattle.pp_parser.specs.Expressions.{is_at, pair_rule}
use Rattle.pp_parser.proofs.rules.Rules.pairs_from.Given as goal

abbrev pub invariant-loop-turn : goal.invariant-loop-turn
invariant-loop-turn g l =
    separated_from (is_at k.CloseBrace) k.Comma (pair_rule (within l.self.levels)) (turns l.fn.tokens) l.fn.found l.fn.tokens
    ≡ separated_from (is_at k.CloseBrace) k.Comma (pair_rule (within l.self.levels)) (l._turn-end - l._turn) l.found l.tokens
