-- What a manifest or a template is, by what was read of it: its tree, or its first fault.
use Rattle.std.specs.Prelude.{ℕ, ◌-◌, List, length, drop, Option, Some, None, Result, Ok, Err}
use Rattle.pp_values.specs.declared.fault.Fault.{Fault}
use Rattle.pp_values.specs.declared.fault.What.TheVariants.{Syntax, DepthLimit}
use Rattle.pp_lexer.specs.Seen.{Token}
use Rattle.pp_tree.specs.declared.file.File.{File}
use Rattle.pp_tree.specs.declared.template.Template.{Template}
use Rattle.pp_tree.specs.declared.table.TableStop.{TableStop}
use Rattle.pp_tree.specs.Tables.{Entries, table_of}
use Rattle.pp_parser.specs.declared.refusal.Refusal.TheVariants as refusals
use Rattle.pp_parser.specs.declared.found.Found.{Found}
use Rattle.pp_grammar.specs.Keys.{earlier_line}
pub use Rattle.pp_grammar.specs.Laws.{main_path, start, fault_at, doubled_name}
unfoldable pub use Rattle.pp_grammar.specs.Laws.{line_from}
use Rattle.pp_grammar.proofs.Reader.Input.{Outcome}

abbrev pub line_of : ℕ → List Token → ℕ → ℕ
line_of end ts left = line_from end (drop (length ts - left) ts)

abbrev pub without_doubles : List ℕ → Found → Result Entries TableStop → Option ℕ → Result File Fault
without_doubles path found table (Some line) = Err (fault_at path Syntax line)
without_doubles path found (Ok entries) None = Ok (record { statements = found.statements; definitions = entries })
without_doubles path found (Err stop) None = Err (fault_at path Syntax 0)

-- A name that is defined twice and a key that stands twice are faults once the text has a tree; the first of them counts.
unfoldable pub file_with : List ℕ → Found → Option ℕ → Result File Fault
file_with path found doubled_key =
    let table = table_of found.definitions in
    without_doubles path found table (earlier_line doubled_key (doubled_name table))

abbrev pub file_from : List ℕ → ℕ → List Token → Outcome Found → Result File Fault
file_from path end ts (Ok p) = file_with path p.0 p.1.doubled
file_from path end ts (Err (refusals.Wrong left)) = Err (fault_at path Syntax (line_of end ts left))
file_from path end ts (Err (refusals.Deep left)) = Err (fault_at path DepthLimit (line_of end ts left))
file_from path end ts (Err refusals.Memory) = Err (fault_at path Syntax 0)

-- a key that stands twice in a hash literal is a fault once the template has a tree
abbrev pub template_with : List ℕ → Template → Option ℕ → Result Template Fault
template_with path found (Some line) = Err (fault_at path Syntax line)
template_with path found None = Ok found

abbrev pub template_from : List ℕ → ℕ → List Token → Outcome Template → Result Template Fault
template_from path end ts (Ok p) = template_with path p.0 p.1.doubled
template_from path end ts (Err (refusals.Wrong left)) = Err (fault_at path Syntax (line_of end ts left))
template_from path end ts (Err (refusals.Deep left)) = Err (fault_at path DepthLimit (line_of end ts left))
template_from path end ts (Err refusals.Memory) = Err (fault_at path Syntax 0)
