-- The lines of a template's tokens, for its fault: the tokens are let go as they are read.
use Rattle.std.specs.Prelude.{ℕ, ◌-◌, List, [], ◌∷◌, drop, length, map, Result, Err}
use Rattle.pp_values.specs.declared.fault.Fault.{Fault}
use Rattle.pp_values.specs.declared.fault.What.TheVariants.{Syntax, DepthLimit}
use Rattle.pp_lexer.specs.Seen.{Token}
use Rattle.pp_tree.specs.declared.template.Template.{Template}
use Rattle.pp_parser.specs.declared.refusal.Refusal.{Refusal}
use Rattle.pp_parser.specs.declared.refusal.Refusal.TheVariants as refusals
use Rattle.pp_parser.specs.Manifest.{fault_at}

abbrev pub lines_of : List Token → List ℕ
lines_of ts = map (λ t. t.line) ts

-- the first of these lines, or else that of the end
unfoldable pub first_or : ℕ → List ℕ → ℕ
first_or end [] = end
first_or end (line ∷ lines) = line

-- the line of the place from which so many tokens are left
abbrev pub line_in : ℕ → List ℕ → ℕ → ℕ
line_in end lines left = first_or end (drop (length lines - left) lines)

-- the fault of a refusal, by the lines of all tokens
abbrev pub refused_by : List ℕ → ℕ → List ℕ → Refusal → Result Template Fault
refused_by path end lines (refusals.Wrong left) = Err (fault_at path Syntax (line_in end lines left))
refused_by path end lines (refusals.Deep left) = Err (fault_at path DepthLimit (line_in end lines left))
refused_by path end lines refusals.Memory = Err (fault_at path Syntax 0)
