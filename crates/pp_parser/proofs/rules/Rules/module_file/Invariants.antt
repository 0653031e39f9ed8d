use Rattle.std.proofs.Common.{◌≡◌, ◌-◌}
use Rattle.pp_parser.specs.Input.{turns}
use Rattle.pp_parser.specs.Definitions.{nothing_yet, module_from}
use Rattle.pp_parser.specs.Levels.{within}
use Rattle.pp_parser.proofs.rules.Rules.module_file.Given as goal

abbrev pub invariant-loop-turn : goal.invariant-loop-turn
invariant-loop-turn g l =
    module_from (within l.self.levels) (turns l.fn.tokens) nothing_yet l.fn.tokens
    ≡ module_from (within l.self.levels) (l._turn-end - l._turn) l.found l.tokens
