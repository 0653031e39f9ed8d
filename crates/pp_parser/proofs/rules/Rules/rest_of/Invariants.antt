use Rattle.std.proofs.Common.{◌≡◌, ◌-◌, None}
use Rattle.pp_parser.specs.Input.{turns}
use Rattle.pp_parser.specs.Templates.{rest_from}
use Rattle.pp_parser.specs.Levels.{within}
use Rattle.pp_parser.proofs.rules.Rules.rest_of.Given as goal

abbrev pub invariant-loop-turn : goal.invariant-loop-turn
invariant-loop-turn g l =
    rest_from (within l.self.levels) (turns l.fn.tokens) l.fn.found None l.fn.tokens
    ≡ rest_from (within l.self.levels) (l._turn-end - l._turn) l.found l.pending l.tokens
