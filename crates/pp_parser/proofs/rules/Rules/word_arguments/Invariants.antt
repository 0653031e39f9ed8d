use Rattle.std.proofs.Common.{◌≡◌, ◌-◌, []}
use Rattle.pp_parser.specs.Input.{turns}
use Rattle.pp_parser.specs.Statements.{words_from}
use Rattle.pp_parser.specs.Levels.{within}
use Rattle.pp_parser.proofs.rules.Rules.word_arguments.Given as goal

abbrev pub invariant-loop-turn : goal.invariant-loop-turn
invariant-loop-turn g l =
    words_from (within l.self.levels) (turns l.fn.tokens) [] l.fn.tokens
    ≡ words_from (within l.self.levels) (l._turn-end - l._turn) l.found l.tokens
