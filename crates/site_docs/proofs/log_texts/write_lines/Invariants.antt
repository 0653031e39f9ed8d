use Rattle.std.proofs.Common.{◌≡◌, ◌++◌, length, string_bytes}
use Rattle.site_docs.specs.LogText.{log_text}
use Rattle.site_docs.proofs.log_texts.write_lines.Given as goal

abbrev pub invariant-loop-left : goal.invariant-loop-left
invariant-loop-left l = string_bytes l.out ++ log_text l.left ≡ string_bytes l.initial.out ++ log_text l.lines

abbrev pub decreases-loop-left : goal.decreases-loop-left
decreases-loop-left l = length l.left
