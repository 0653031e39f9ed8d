use Rattle.std.proofs.Common.{◌≡◌, ◌-◌, None}
use Rattle.pp_parser.specs.Input.{turns}
use Rattle.pp_parser.specs.Definitions.{nothing_yet, manifest_from}
use Rattle.pp_parser.specs.Levels.{within}
use Rattle.pp_parser.proofs.rules.Rules.main_manifest.Given as goal

abbrev pub invariant-loop-turn : goal.invariant-loop-turn
invariant-loop-turn g l =
    manifest_from (within l.self.levels) (turns l.fn.tokens) nothing_yet None l.fn.tokens
    ≡ manifest_from (within l.self.levels) (l._turn-end - l._turn) l.found l.pending l.tokens
