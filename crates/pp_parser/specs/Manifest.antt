-- What a manifest is: its tree, or its first fault.
use Rattle.std.specs.Prelude.{ℕ, ◌-◌, if◌then◌else◌, List, [], ◌∷◌, length, drop, Option, Some, None, Result, Ok, Err}
use Rattle.std.specs.Str.{bytes_eq}
use Rattle.pp_values.specs.declared.fault.Fault.{Fault}
use Rattle.pp_values.specs.declared.fault.What.{What}
use Rattle.pp_values.specs.declared.fault.What.TheVariants.{Syntax, DepthLimit}
use Rattle.pp_values.specs.declared.place.TheConstants.{MAIN_MANIFEST}
use Rattle.pp_lexer.specs.Seen.{Token}
use Rattle.pp_lexer.specs.Bytes.{end_line}
use Rattle.pp_lexer.specs.Tokens.{tokens}
use Rattle.pp_tree.specs.declared.file.File.{File}
use Rattle.pp_tree.specs.declared.table.TableStop.{TableStop}
use Rattle.pp_tree.specs.declared.table.TableStop.TheVariants.{Doubled}
use Rattle.pp_tree.specs.Tables.{Entries, table_of}
use Rattle.pp_parser.specs.declared.refusal.Refusal.TheVariants as refusals
use Rattle.pp_parser.specs.Input.{Input, Outcome, Parser}
use Rattle.pp_parser.specs.Keys.{earlier_line}
use Rattle.pp_parser.specs.Levels.{within, max_levels}
use Rattle.pp_parser.specs.declared.found.Found.{Found}
use Rattle.pp_parser.specs.Definitions.{main_manifest, module_file}

-- the path of the main manifest; all other manifests are module files
abbrev pub main_path : List ℕ
main_path = MAIN_MANIFEST.now

abbrev pub start : List Token → Input
start ts = record { left = ts; doubled = None }

-- what the file at this path says
unfoldable pub read_file : List ℕ → Parser Found
read_file path = λ i. if bytes_eq path main_path then main_manifest (within max_levels) i
    else module_file (within max_levels) i

-- the line of the place from which so many tokens are left; that of none is the end of the file
unfoldable pub line_from : ℕ → List Token → ℕ
line_from end [] = end
line_from end (t ∷ ts) = t.line

abbrev pub line_of : ℕ → List Token → ℕ → ℕ
line_of end ts left = line_from end (drop (length ts - left) ts)

abbrev pub fault_at : List ℕ → What → ℕ → Fault
fault_at path what line = record { at = record { file = path; line = line }; what = what }

-- the line of the first name that is defined twice
abbrev pub doubled_name : Result Entries TableStop → Option ℕ
doubled_name (Err (Doubled line)) = Some line
doubled_name _ = None

abbrev pub without_doubles : List ℕ → Found → Result Entries TableStop → Option ℕ → Result File Fault
without_doubles path found table (Some line) = Err (fault_at path Syntax line)
without_doubles path found (Ok entries) None = Ok (record { statements = found.statements; definitions = entries })
without_doubles path found (Err stop) None = Err (fault_at path Syntax 0)

-- A name that is defined twice and a key that stands twice are faults once the text has a tree; the first of them
-- counts.
unfoldable pub file_with : List ℕ → Found → Option ℕ → Result File Fault
file_with path found doubled_key =
    let table = table_of found.definitions in
    without_doubles path found table (earlier_line doubled_key (doubled_name table))

abbrev pub file_from : List ℕ → ℕ → List Token → Outcome Found → Result File Fault
file_from path end ts (Ok p) = file_with path p.0 p.1.doubled
file_from path end ts (Err (refusals.Wrong left)) = Err (fault_at path Syntax (line_of end ts left))
file_from path end ts (Err (refusals.Deep left)) = Err (fault_at path DepthLimit (line_of end ts left))
file_from path end ts (Err refusals.Memory) = Err (fault_at path Syntax 0)

-- the tree of the manifest at this path with this text, or its fault
unfoldable pub file_of : List ℕ → List ℕ → Result File Fault
file_of path text = file_from path (end_line text) (tokens text) (read_file path (start (tokens text)))
