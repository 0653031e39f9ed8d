-- The parser's functions read what the readers of this grammar read, whose limit of levels holds everywhere then.
use Rattle.std.proofs.Common.{◌≡◌, ℕ, zero, suc, Bool, true, false, if◌then◌else◌, List, refl, ap, ◌∙◌}
use Rattle.std.specs.Str.{bytes_eq}
use Rattle.pp_lexer.specs.Seen.{Token}
use Rattle.pp_lexer.specs.Bytes.{end_line}
use Rattle.pp_lexer.specs.Tokens.{tokens}
use Rattle.pp_tree.specs.declared.template.Template.{Template}
use Rattle.pp_parser.specs.declared.found.Found.{Found}
use Rattle.pp_parser.specs.Input.{Input, Outcome, refuse}
use Rattle.pp_parser.specs.Manifest.{main_path, start, read_file}
use Rattle.pp_parser.specs.Keys as keys
use Rattle.pp_parser.specs.Manifest as manifest
use Rattle.pp_parser.specs.Definitions as definition
use Rattle.pp_parser.specs.Levels as levels
use Rattle.pp_parser.specs.Templates as template
use Rattle.pp_grammar.specs.Keys as own_keys
use Rattle.pp_grammar.specs.Laws.{max_levels, everywhere}
use Rattle.pp_grammar.proofs.Reader.Manifest as own_manifest
use Rattle.pp_grammar.proofs.Reader.Definitions as own_definition
use Rattle.pp_grammar.proofs.Reader.Levels as own_levels
use Rattle.pp_grammar.proofs.Reader.Templates as own_template
use Rattle.pp_grammar.proofs.Whole.Keys.{keys_same}
use Rattle.pp_grammar.proofs.Whole.Reading.{reading}
use Rattle.pp_grammar.proofs.Whole.Reads.{file_reader}
use Rattle.pp_grammar.proofs.Whole.Rules.{as_own, part_same, main_same, module_same, template_same}

levels_same : (m : ℕ) → as_own (levels.within m) ≡ own_levels.within m
unfolding levels.within own_levels.deepest_to own_levels.read_to
levels_same zero = λ x. record { is_deepest = λ _. true; read = λ g. refuse; doubled_key = λ pairs. keys_same pairs x }
levels_same (suc m) = λ x. record { is_deepest = λ _. false; doubled_key = λ pairs. keys_same pairs x; read = λ g i. (part_same (levels.within m) g i ∙ ap (λ k. own_levels.part_by k g i) (levels_same m)) x }

file_same : (main : Bool) (i : Input) → (if main then definition.main_manifest (levels.within levels.max_levels) i else definition.module_file (levels.within levels.max_levels) i)
    ≡ (if main then own_definition.main_manifest (own_levels.within max_levels) i else own_definition.module_file (own_levels.within max_levels) i)
file_same true i = main_same (levels.within levels.max_levels) i ∙ ap (λ n. own_definition.main_manifest n i) (levels_same max_levels)
file_same false i = module_same (levels.within levels.max_levels) i ∙ ap (λ n. own_definition.module_file n i) (levels_same max_levels)

reads_by_reader : (path : List ℕ) (ts : List Token) → read_file path (start ts) ≡ reading (file_reader path) (everywhere max_levels) (start ts)
unfolding read_file
reads_by_reader path ts = file_same (bytes_eq path main_path) (start ts)

-- ---- files

made_same : (path : List ℕ) (end : ℕ) (ts : List Token) (o : Outcome Found) → manifest.file_from path end ts o ≡ own_manifest.file_from path end ts o
unfolding manifest.file_with own_manifest.file_with manifest.line_from own_manifest.line_from keys.earlier_line own_keys.earlier_line
made_same path end ts o = refl

-- what a manifest is, by the reader
pub file_of_by : (path text : List ℕ) → manifest.file_of path text ≡ own_manifest.file_from path (end_line text) (tokens text) (reading (file_reader path) (everywhere max_levels) (start (tokens text)))
unfolding manifest.file_of
file_of_by path text =
    made_same path (end_line text) (tokens text) (read_file path (start (tokens text)))
    ∙ ap (λ (o : Outcome Found). own_manifest.file_from path (end_line text) (tokens text) o) (reads_by_reader path (tokens text))

-- ---- templates

template_by_reader : (ts : List Token) → template.template_read ts ≡ reading own_template.template (everywhere max_levels) (start ts)
template_by_reader ts = template_same (levels.within levels.max_levels) (start ts) ∙ ap (λ n. own_template.template n (start ts)) (levels_same max_levels)

template_made_same : (path : List ℕ) (end : ℕ) (ts : List Token) (o : Outcome Template) → template.template_from path end ts o ≡ own_manifest.template_from path end ts o
unfolding manifest.line_from own_manifest.line_from
template_made_same path end ts o = refl

-- what a template is, by the reader
pub template_told_by : (path : List ℕ) (end : ℕ) (ts : List Token) → template.template_told path end ts ≡ own_manifest.template_from path end ts (reading own_template.template (everywhere max_levels) (start ts))
unfolding template.template_told
template_told_by path end ts =
    template_made_same path end ts (template.template_read ts)
    ∙ ap (λ (o : Outcome Template). own_manifest.template_from path end ts o) (template_by_reader ts)
