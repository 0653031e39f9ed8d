-- The text of a verdict.
use Rattle.std.specs.Prelude.{ℕ, List, ◌++◌, codes, decimal}
use Rattle.history_audit.specs.declared.verdict.Part.{Part}
use Rattle.history_audit.specs.declared.verdict.Part.TheVariants as part
use Rattle.history_audit.specs.declared.verdict.Verdict.{Verdict}
use Rattle.history_audit.specs.declared.verdict.Verdict.TheVariants as v

abbrev pub part_word : Part → List ℕ
part_word part.Call = codes "call"
part_word part.K = codes "k"
part_word part.Fault = codes "fault"
part_word part.Set = codes "set"

abbrev pub entry_form : ℕ → List ℕ → List ℕ
entry_form entry word = codes "entry " ++ (decimal entry ++ (codes " " ++ word))

-- such as `legal 4` and `entry 3 set`
abbrev pub verdict_form : Verdict → List ℕ
verdict_form (v.Legal count) = codes "legal " ++ decimal count
verdict_form (v.Broken entry broken) = entry_form entry (part_word broken)
