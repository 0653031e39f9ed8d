use Rattle.std.proofs.Common.{◌≡◌, ◌++◌, length, string_bytes}
use Rattle.site_docs.specs.FaultText.{links}
use Rattle.site_docs.proofs.fault_texts.write_links.Given as goal

abbrev pub invariant-loop-left : goal.invariant-loop-left
invariant-loop-left l = string_bytes l.out ++ links l.left ≡ string_bytes l.initial.out ++ links l.references

abbrev pub decreases-loop-left : goal.decreases-loop-left
decreases-loop-left l = length l.left
