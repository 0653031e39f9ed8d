use Rattle.std.proofs.Common.{◌≡◌, take}
use Rattle.pp_parser.specs.TemplateLines.{lines_of}
use Rattle.pp_parser.proofs.template_reading.lines_of.Given as goal

abbrev pub invariant-loop-token : goal.invariant-loop-token
invariant-loop-token l = l.found.items ≡ lines_of (take l.token-index l.tokens)
