-- A file is read exactly where one stands, and a template.
use Rattle.std.proofs.Common.{◌≡◌, ◌≢◌, ℕ, Bool, true, false, if◌then◌else◌, List, [], ◌∷◌, Option, None, Ok, Err, refl, sym, ap, subst, ◌∙◌}
use Rattle.std.specs.Str.{bytes_eq}
use Rattle.std.proofs.lemmas.Slice.Eq.{bytes_eq-Decides}
use Rattle.pp_lexer.specs.Seen.{Token}
use Rattle.pp_tree.specs.declared.statement.Statement.{Statement}
use Rattle.pp_tree.specs.declared.definition.Definition.{Definition}
use Rattle.pp_tree.specs.declared.template.Template.{Template}
use Rattle.pp_parser.specs.declared.refusal.Refusal.TheVariants as refusals
use Rattle.pp_grammar.proofs.Reader.Input.{Input, Parser, kind, kind_at}
use Rattle.pp_parser.specs.declared.found.Found.{Found}
use Rattle.pp_grammar.proofs.Reader.Definitions.{main_manifest, module_file}
use Rattle.pp_grammar.proofs.Reader.Templates.{template}
use Rattle.pp_grammar.proofs.Reader.Inner.{Inner}
use Rattle.pp_grammar.proofs.Reader.Levels.{within}
use Rattle.pp_grammar.proofs.Reader.Manifest.{main_path, start}
use Rattle.pp_grammar.specs.Places.{Within}
use Rattle.pp_grammar.specs.Files.{IsMain, IsModule}
use Rattle.pp_grammar.specs.Templates.{AreStatementsToEnd, IsTemplate}
use Rattle.pp_grammar.specs.Laws.{the_end, only_definitions, Limit, within_limit, IsFile, file_at, a_template}
use Rattle.pp_grammar.proofs.Joined.{main_exactly, module_stands, module_read, template_stands, template_read}
use Rattle.pp_grammar.proofs.Local.Ahead.{LooksAtNext}
use Rattle.pp_grammar.proofs.Local.Steps.{IsLocal, any}
use Rattle.pp_grammar.proofs.Local.Inner.{InnerLocal}
use Rattle.pp_grammar.proofs.Local.Files.{main_manifest_local, module_file_local}
use Rattle.pp_grammar.proofs.Local.Templates.{template_local}
use Rattle.pp_grammar.proofs.Local.Laws.{main_manifest_looks, module_file_looks, template_looks}
use Rattle.pp_grammar.proofs.Local.Limits.{twice}
use Rattle.pp_grammar.proofs.Ways.Ahead as ahead
use Rattle.pp_grammar.proofs.Ways.Laws.{main_manifest_goes_on, module_file_goes_on, template_goes_on}
use Rattle.pp_grammar.proofs.Whole.Reading.{reading, IsReader}

-- the reader of the main manifest, or of a module file
abbrev reader_by : Bool → Inner → Parser Found
reader_by main inner = λ i. if main then main_manifest inner i else module_file inner i

-- what reads the file at this path
abbrev pub file_reader : List ℕ → Inner → Parser Found
file_reader path = reader_by (bytes_eq path main_path)

looks_by : (main : Bool) → LooksAtNext (λ n. reader_by main (within n))
looks_by true = main_manifest_looks
looks_by false = module_file_looks

follows_by : (main : Bool) (deeper : ℕ → Bool) (a b : Inner) → InnerLocal (twice deeper) a b → IsLocal (twice deeper) false any (reader_by main a) (reader_by main b)
follows_by true deeper a b I = main_manifest_local I
follows_by false deeper a b I = module_file_local I

ways_by : (main : Bool) (n : ℕ) (ts : List Token) (k : ℕ) → reader_by main (within n) (start ts) ≡ Err (refusals.Wrong k) → ahead.GoesOn (λ m. reader_by main (within m)) n ts k
ways_by true = main_manifest_goes_on
ways_by false = module_file_goes_on

-- ---- a file stands up to its end

nothing_left : (ts : List Token) → kind_at ts ≡ None → ts ≡ []
unfolding kind_at
nothing_left [] e = refl
nothing_left (t ∷ ts) e = absurd cc

at_end : (i : Input) → kind i ≡ None → i.left ≡ []
unfolding kind
at_end i e = nothing_left i.left e

main_ends : {N : Within} {i j : Input} {ss : List Statement} {ds : List Definition} → IsMain N i ss ds j → j.left ≡ []
main_ends (IsMain.end i e) = at_end i e
main_ends (IsMain.statement i j l m s ss ds a b more) = main_ends more
main_ends (IsMain.definition i j l m d ss ds a b more) = main_ends more

module_ends : {N : Within} {i j : Input} {ds : List Definition} → IsModule N i ds j → j.left ≡ []
module_ends (IsModule.end i e) = at_end i e
module_ends (IsModule.definition i j l m d ds a b more) = module_ends more

is_end : (j : Input) → j.left ≡ [] → j ≡ the_end j.doubled
is_end j e = λ x. record { left = e x; doubled = j.doubled }

only : (found : Found) → found.statements ≡ [] → found ≡ only_definitions found.definitions
only found e = λ x. record { statements = e x; definitions = found.definitions }

-- ---- both ways

main_file : (l : Limit) (path : List ℕ) (ts : List Token) (found : Found) (j : Input) → path ≡ main_path → IsMain (within_limit l) (start ts) found.statements found.definitions j → IsFile l path ts found j.doubled
main_file l path ts found j at h =
    IsFile.main_manifest found j.doubled at (subst (λ (k : Input). IsMain (within_limit l) (start ts) found.statements found.definitions k) (is_end j (main_ends h)) h)

module_alone : (l : Limit) (path : List ℕ) (ts : List Token) (found : Found) (j : Input) → path ≢ main_path → (found.statements ≡ []) × IsModule (within_limit l) (start ts) found.definitions j → IsFile l path ts found j.doubled
module_alone l path ts found j away h =
    subst (λ (f : Found). IsFile l path ts f j.doubled) (sym (only found h.0))
    (IsFile.module_file found.definitions j.doubled away (subst (λ (k : Input). IsModule (within_limit l) (start ts) found.definitions k) (is_end j (module_ends h.1)) h.1))

stands_by : (l : Limit) (path : List ℕ) (ts : List Token) (found : Found) (j : Input) (main : Bool) → bytes_eq path main_path ≡ main → reading (reader_by main) l (start ts) ≡ Ok (found, j) → IsFile l path ts found j.doubled
stands_by l path ts found j true b e = main_file l path ts found j ((bytes_eq-Decides path main_path).0 b) ((main_exactly l.behind l.levels l.further (start ts) j found).0 e)
stands_by l path ts found j false b e = module_alone l path ts found j (λ at. let yes = (bytes_eq-Decides path main_path).1 at in absurd cc) (module_stands l.behind l.levels l.further (start ts) j found e)

-- what is read of a file stands there
file_stands : (l : Limit) (path : List ℕ) (ts : List Token) (found : Found) (j : Input) → reading (file_reader path) l (start ts) ≡ Ok (found, j) → IsFile l path ts found j.doubled
file_stands l path ts found j = stands_by l path ts found j (bytes_eq path main_path) refl

away_by : (path : List ℕ) (main : Bool) → bytes_eq path main_path ≡ main → path ≢ main_path → main ≡ false
away_by path true b away = absurd (away ((bytes_eq-Decides path main_path).0 b))
away_by path false b away = refl

-- what stands in a file is read
file_read : (l : Limit) (path : List ℕ) (ts : List Token) (found : Found) (key : Option ℕ) → IsFile l path ts found key → reading (file_reader path) l (start ts) ≡ Ok (found, the_end key)
file_read l path ts _ _ (IsFile.main_manifest found key at h) =
    ap (λ (b : Bool). reading (reader_by b) l (start ts)) ((bytes_eq-Decides path main_path).1 at) ∙ (main_exactly l.behind l.levels l.further (start ts) (the_end key) found).1 h
file_read l path ts _ _ (IsFile.module_file ds key away h) =
    ap (λ (b : Bool). reading (reader_by b) l (start ts)) (away_by path (bytes_eq path main_path) refl away) ∙ module_read l.behind l.levels l.further (start ts) (the_end key) ds h

pub file_reads : (path : List ℕ) → IsReader (file_at path) (file_reader path)
file_reads path = record {
  stands = λ l ts found j. file_stands l path ts found j;
  read = λ l ts found key. file_read l path ts found key;
  looks = looks_by (bytes_eq path main_path);
  follows = follows_by (bytes_eq path main_path);
  ways = ways_by (bytes_eq path main_path);
}

-- ---- templates

to_end : {N : Within} {i j : Input} {ss : List Statement} → AreStatementsToEnd N i ss j → j.left ≡ []
to_end (AreStatementsToEnd.end i e) = at_end i e
to_end (AreStatementsToEnd.more i j l m s ss d e behind) = to_end behind

template_ends : {N : Within} {i j : Input} {found : Template} → IsTemplate N i found j → j.left ≡ []
template_ends (IsTemplate.template i j l m texts ss ps ts p ds) = to_end ds

whole_template : (l : Limit) (ts : List Token) (found : Template) (j : Input) → IsTemplate (within_limit l) (start ts) found j → a_template l ts found j.doubled
whole_template l ts found j h = subst (λ (k : Input). IsTemplate (within_limit l) (start ts) found k) (is_end j (template_ends h)) h

pub template_reads : IsReader a_template template
template_reads = record {
  stands = λ l ts found j e. whole_template l ts found j (template_stands l.behind l.levels l.further (start ts) j found e);
  read = λ l ts found key h. template_read l.behind l.levels l.further (start ts) (the_end key) found h;
  looks = template_looks;
  follows = λ deeper a b I. template_local I;
  ways = template_goes_on;
}
