-- What holds between the text of a manifest, its tree and its fault, in the words of the grammar, and between the
-- tokens of a template, its tree and its fault.
use Rattle.std.specs.Prelude.{◌≡◌, ◌≢◌, ℕ, List, [], ◌∷◌, ◌++◌, length, Option, Some, None, Result, Ok, Err}
use Rattle.pp_values.specs.declared.fault.Fault.{Fault}
use Rattle.pp_values.specs.declared.fault.What.{What}
use Rattle.pp_values.specs.declared.fault.What.TheVariants.{Syntax, DepthLimit}
use Rattle.pp_values.specs.declared.place.TheConstants.{MAIN_MANIFEST}
use Rattle.pp_lexer.specs.Seen.{Token}
use Rattle.pp_lexer.specs.Bytes.{end_line}
use Rattle.pp_lexer.specs.Tokens.{tokens}
use Rattle.pp_tree.specs.declared.definition.Definition.{Definition}
use Rattle.pp_tree.specs.declared.file.File.{File}
use Rattle.pp_tree.specs.declared.template.Template.{Template}
use Rattle.pp_tree.specs.declared.table.TableStop.{TableStop}
use Rattle.pp_tree.specs.declared.table.TableStop.TheVariants.{Doubled}
use Rattle.pp_tree.specs.Tables.{Entries, table_of}
use Rattle.pp_parser.specs.Input.{Input}
use Rattle.pp_parser.specs.declared.found.Found.{Found}
use Rattle.pp_grammar.specs.Keys.{earlier_line}
use Rattle.pp_grammar.specs.Places.{Within}
use Rattle.pp_grammar.specs.Files.{IsMain, IsModule, LevelsTo}
use Rattle.pp_grammar.specs.Templates.{IsTemplate}

-- the path of the main manifest; all other manifests are module files
abbrev pub main_path : List ℕ
main_path = MAIN_MANIFEST.now

-- the beginning of a file: no key stands twice so far
abbrev pub start : List Token → Input
start ts = record { left = ts; doubled = None }

-- the end of a file, with the line of the first key that stands a second time in its hash literal, if one does
abbrev pub the_end : Option ℕ → Input
the_end key = record { left = []; doubled = key }

abbrev pub only_definitions : List Definition → Found
only_definitions ds = record { statements = []; definitions = ds }

-- as many levels may be open at once
abbrev pub max_levels : ℕ
max_levels = 200

-- How many levels may be open at once: so many up to the place from which `behind` tokens are left, and so many further
-- ones from there on.
pub record Limit : Type 0 where
  pub levels : ℕ
  pub behind : ℕ
  pub further : ℕ

-- so many at each place
abbrev pub everywhere : ℕ → Limit
everywhere n = record { levels = n; behind = 0; further = 0 }

-- the limit of levels up to the place before these tokens, and more from there on
abbrev pub up_to : List Token → ℕ → Limit
up_to rest further = record { levels = max_levels; behind = length rest; further = further }

-- what stands within brackets, where so many levels may be opened
abbrev pub within_limit : Limit → Within
within_limit l = LevelsTo l.behind l.levels l.further

-- What may stand in a whole text, from its first token to its end, within a limit; and the line of the first key that
-- stands a second time in its hash literal, if one does.
abbrev pub Whole : Type 0 → Type 1
Whole A = Limit → List Token → A → Option ℕ → Type 0

-- What stands in the file at this path, from its first token to its end, within this limit of levels; and the line of
-- the first key that stands a second time in its hash literal, if one does.
pub data IsFile (limit : Limit) (path : List ℕ) (ts : List Token) : Found → Option ℕ → Type 0 where
  main_manifest : (found : Found) (key : Option ℕ) → path ≡ main_path →
      IsMain (within_limit limit) (start ts) found.statements found.definitions (the_end key) →
      IsFile limit path ts found key
  module_file : (ds : List Definition) (key : Option ℕ) → path ≢ main_path →
      IsModule (within_limit limit) (start ts) ds (the_end key) → IsFile limit path ts (only_definitions ds) key

abbrev pub file_at : List ℕ → Whole Found
file_at path limit ts found key = IsFile limit path ts found key

-- what stands in the tokens of a template
abbrev pub a_template : Whole Template
a_template limit ts found key = IsTemplate (within_limit limit) (start ts) found (the_end key)

-- A tree: what stands in the file within the limit of levels, with no key twice, and its definitions by their names,
-- with no name twice.
pub record IsTree (path text : List ℕ) (file : File) : Type 0 where
  pub definitions : List Definition
  pub stands : IsFile (everywhere max_levels) path (tokens text)
      (record { statements = file.statements; definitions = definitions }) None
  pub table : table_of definitions ≡ Ok file.definitions

-- ---- faults

-- the line of the token that comes next, or that of the end of the text
unfoldable pub line_from : ℕ → List Token → ℕ
line_from end [] = end
line_from end (t ∷ ts) = t.line

abbrev pub fault_at : List ℕ → What → ℕ → Fault
fault_at path what line = record { at = record { file = path; line = line }; what = what }

-- the line of the first name that is defined twice
abbrev pub doubled_name : Result Entries TableStop → Option ℕ
doubled_name (Err (Doubled line)) = Some line
doubled_name _ = None

-- the first token, if there is one
abbrev pub first_token : List Token → Option Token
first_token [] = None
first_token (t ∷ ts) = Some t

-- both are at their end, or begin with the same token
abbrev pub SameHead : List Token → List Token → Type 0
SameHead r s = first_token r ≡ first_token s

module _ {A : Type 0} (W : Whole A) where
  -- Some text begins with the first tokens and goes on with the next ones. In the first ones it keeps the limit of
  -- levels, and behind them it may open any number.
  pub record GoesOn (front next : List Token) : Type 0 where
    pub way : List Token
    pub further : ℕ
    pub found : A
    pub key : Option ℕ
    pub stands : W (up_to (next ++ way) further) (front ++ (next ++ way)) found key

  -- At this place a text leaves the grammar: some text begins with the tokens before it, within the limit of levels,
  -- and none goes on with the token that comes next there, or ends there, however many levels it may open.
  pub record IsRefused (front rest : List Token) : Type 0 where
    pub none_goes_on : (other : List Token) (levels : ℕ) (found : A) (key : Option ℕ) → SameHead rest other →
        W (everywhere levels) (front ++ other) found key → ⊥
    pub some_goes_on : GoesOn front []

  -- With this token the limit of levels is passed: some text that keeps it before the token goes on with it, and none
  -- that keeps it up to there, the token included, whatever stands behind.
  pub record IsTooDeep (front : List Token) (t : Token) : Type 0 where
    pub none_goes_on : (other : List Token) (further : ℕ) (found : A) (key : Option ℕ) →
        W (up_to other further) (front ++ t ∷ other) found key → ⊥
    pub some_goes_on : GoesOn front (t ∷ [])

-- The fault of a text: F1 where it leaves the grammar, F29 at a token with which it passes the limit of levels, and
-- where something stands in the file, F1 at the first key or name that stands there a second time.
pub data IsFault (path text : List ℕ) : Fault → Type 0 where
  refused : (front rest : List Token) → tokens text ≡ front ++ rest → IsRefused (file_at path) front rest →
      IsFault path text (fault_at path Syntax (line_from (end_line text) rest))
  too_deep : (front rest : List Token) (t : Token) → tokens text ≡ front ++ t ∷ rest →
      IsTooDeep (file_at path) front t → IsFault path text (fault_at path DepthLimit t.line)
  doubled : (found : Found) (key : Option ℕ) (line : ℕ) → IsFile (everywhere max_levels) path (tokens text) found key →
      earlier_line key (doubled_name (table_of found.definitions)) ≡ Some line →
      IsFault path text (fault_at path Syntax line)

-- The fault of a template's tokens, in a file that ends on this line: the same, where no names stand.
pub data IsTemplateFault (path : List ℕ) (end : ℕ) (ts : List Token) : Fault → Type 0 where
  refused : (front rest : List Token) → ts ≡ front ++ rest → IsRefused a_template front rest →
      IsTemplateFault path end ts (fault_at path Syntax (line_from end rest))
  too_deep : (front rest : List Token) (t : Token) → ts ≡ front ++ t ∷ rest → IsTooDeep a_template front t →
      IsTemplateFault path end ts (fault_at path DepthLimit t.line)
  doubled : (found : Template) (line : ℕ) → a_template (everywhere max_levels) ts found (Some line) →
      IsTemplateFault path end ts (fault_at path Syntax line)
