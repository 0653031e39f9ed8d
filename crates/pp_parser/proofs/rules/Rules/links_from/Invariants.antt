use Rattle.std.proofs.Common.{◌≡◌, ◌-◌}
use Rattle.pp_parser.specs.Input.{repeat_from, turns}
use Rattle.pp_parser.specs.Statements.{link_rule}
use Rattle.pp_parser.specs.Levels.{within}
use Rattle.pp_parser.proofs.rules.Rules.links_from.Given as goal

abbrev pub invariant-loop-turn : goal.invariant-loop-turn
invariant-loop-turn g l =
    repeat_from (link_rule (within l.self.levels)) (turns l.fn.tokens) l.fn.found l.fn.tokens
    ≡ repeat_from (link_rule (within l.self.levels)) (l._turn-end - l._turn) l.found l.tokens
