-- The definitions at worked examples. Each line with `refl` holds by computing.
use Rattle.std.proofs.Common.{◌≡◌, ℕ, true, false, List, [], ◌∷◌, None, Some, Ok, Err, refl}
use Rattle.std.proofs.Common.{codes}
use Rattle.std.specs.Fmt.{digits}
use Rattle.override_rules.specs.Rights.{line_tests}
use Rattle.pp_tree.specs.Building.{name_at, class_of, define_of, param, resource}
use Rattle.pp_tree.specs.Names.{normal, without_front_colons}
use Rattle.pp_tree.specs.Tables.{Entries}
use Rattle.pp_tree.specs.declared.definition.Class.{Class}
use Rattle.pp_tree.specs.declared.definition.Definition.TheVariants as definition
use Rattle.pp_tree.specs.declared.expr.Expr.{Expr}
use Rattle.pp_tree.specs.declared.expr.Form.{out-Form}
use Rattle.pp_tree.specs.declared.param.Param.{Param}
use Rattle.pp_tree.specs.declared.resource.ResourceForm.TheVariants as mark
use Rattle.pp_tree.specs.declared.table.DefinitionName.TheVariants.{Code}
use Rattle.pp_values.specs.Datum as d
use Rattle.pp_values.specs.Datum.{Datum}
use Rattle.pp_values.specs.Faults.{fault}
use Rattle.pp_values.specs.declared.fault.Subject.TheVariants as subject
use Rattle.pp_values.specs.declared.fault.What.TheVariants as what
use Rattle.pp_values.specs.declared.reference.Reference.{Reference}
use Rattle.res_book.specs.Rows.{new_row}
use Rattle.res_book.specs.declared.mode.Mode.{Mode}
use Rattle.res_book.specs.declared.mode.Mode.TheVariants as mode
use Rattle.res_book.specs.declared.row.Row.{Row}
use Rattle.res_core.specs.AttributeChecks.{known_checked}
use Rattle.res_core.specs.Metaparameters.{is_metaparameter}
use Rattle.res_core.specs.NativeTypes.{native_of, attributes_of}
use Rattle.res_core.specs.TagNames.{segments, is_word_byte, is_tag_byte}
use Rattle.res_core.specs.declared.form.Form.TheVariants as form
use Rattle.res_core.specs.declared.native_type.NativeType.TheVariants as native
use Rattle.eval_classes.specs.Attributes.{given_tags}
use Rattle.eval_classes.specs.Definitions.{class_found, define_found, definition_of}
use Rattle.eval_classes.specs.Listing.{class_reference}
use Rattle.eval_resources.specs.Bodies.{all_not_among, bodies_rule, bodies_from, body_rule, defaults_from, default_rule}
use Rattle.eval_resources.specs.Bodies.{filled}
use Rattle.eval_resources.specs.Checks.{tested, class_tested, kind_checked, title_checked, names_known, names_apart}
use Rattle.eval_resources.specs.Checks.{lines_checked}
use Rattle.eval_resources.specs.Declaring.{set_from, declare_rule, item_of, container_in}
use Rattle.eval_resources.specs.Resources.{title_rule, declared_rule, titles_rule, declare_bodies, resource_rule}
use Rattle.res_core.specs.Lines.{Line}
use Rattle.res_core.specs.declared.body.Body.{Body}
use Rattle.attribute_lines.specs.Reading.{line, lines_from, attribute_rule, setting_rule}
use Rattle.attribute_lines.proofs.Samples.{text, int, nested, told, word, undef, default, a_list, fails, sample}
use Rattle.attribute_lines.proofs.Samples.{sets, here, place, said, Tells}
use Rattle.eval_resources.proofs.Samples.{titled_by, Declares, Fails}
use Rattle.eval_resources.proofs.Samples.{main, class_a, owner, overridden, book_by}
use Rattle.eval_world.specs.Owners.{owner_at}
use Rattle.eval_world.specs.Environment.{Environment}
use Rattle.eval_world.specs.Worlds.{write_log}

abbrev a : List ℕ
a = codes "a"

abbrev b : List ℕ
b = codes "b"

abbrev c : List ℕ
c = codes "c"

-- ---- bodies

-- The default body is evaluated first, wherever it stands; then titles, then attributes. What a body writes is its own,
-- and what a default body behind it fills in stands behind that.
default_body : Tells
    (bodies_rule sample
    (titled_by (told a) (sets a (told b) 2 ∷ []) 2
    ∷ titled_by default (sets a (told c) 3 ∷ sets b (told c) 4 ∷ []) 3
    ∷ []) here)
    (record {
      titles = text a ∷ [];
      lines = said a b 2 ∷ said b c 4 ∷ [];
      at = place 2;
    } ∷ [])
    (c ∷ c ∷ a ∷ b ∷ [])
unfolding bodies_rule defaults_from default_rule bodies_from body_rule all_not_among lines_from attribute_rule setting_rule write_log out-Form denote.Hole.Carrier.out owner_at
default_body environment = refl

-- an Undef that is written hides the default's value
undef_is_written : filled (line a false d.undef (place 2) ∷ []) 0 ((said a c 3 ∷ said b c 3 ∷ []) ∷ [])
    ≡ line a false d.undef (place 2) ∷ said b c 3 ∷ []
unfolding all_not_among
undef_is_written = refl

-- lines stand in the order of the expression: those of the default body before a body, its own, those of the one behind
in_place : filled (said a c 2 ∷ []) 1 ((said b c 1 ∷ said a b 1 ∷ []) ∷ (said c c 3 ∷ []) ∷ [])
    ≡ said b c 1 ∷ said a c 2 ∷ said c c 3 ∷ []
unfolding all_not_among
in_place = refl

-- several default bodies are joined, so a name may stand twice; all bodies are filled in
defaults_joined : Tells
    (bodies_rule sample
    (titled_by default (sets a (word b) 1 ∷ []) 1
    ∷ titled_by (word a) [] 2
    ∷ titled_by default (sets a (word c) 3 ∷ sets b (word c) 3 ∷ []) 3
    ∷ titled_by (word b) (sets a (word a) 4 ∷ []) 4
    ∷ []) here)
    (record { titles = text a ∷ []; lines = said a b 1 ∷ said a c 3 ∷ said b c 3 ∷ []; at = place 2 }
    ∷ record { titles = text b ∷ []; lines = said b c 3 ∷ said a a 4 ∷ []; at = place 4 } ∷ [])
    []
unfolding bodies_rule defaults_from default_rule bodies_from body_rule all_not_among lines_from attribute_rule setting_rule out-Form denote.Hole.Carrier.out owner_at
defaults_joined environment = refl

-- lists of titles are flattened
titles_flattened : Tells (body_rule sample [] 0 (titled_by a_list [] 2) here)
    (record { titles = text a ∷ text b ∷ int 4 ∷ []; lines = []; at = place 2 }) []
unfolding body_rule all_not_among lines_from out-Form denote.Hole.Carrier.out owner_at
titles_flattened environment = refl

-- ---- the tests of a title

-- a define with the parameter `port`, and a class with the same
abbrev port : List (Param Expr)
port = param None (codes "port") None 1 ∷ []

abbrev web : Class
web = class_of (name_at (codes "web") 2) port None [] 2

abbrev definitions : Entries
definitions =
    (Code (codes "web::vhost"), definition.Define (define_of (name_at (codes "web::vhost") 1) port [] 1))
    ∷ (Code (codes "web"), definition.Class web)
    ∷ []

abbrev site_of : Entries → Environment
site_of es = record { main = record { statements = []; definitions = es }; files = []; site_data = [] }

abbrev nothing : Environment
nothing = site_of []

abbrev vhost : Environment
vhost = site_of definitions

abbrev body_with : List Line → Body
body_with ls = record { titles = []; lines = ls; at = place 7 }

abbrev file_a : Reference
file_a = record { kind = codes "file"; title = a }

abbrev mode_line : ℕ → Line
mode_line at = said (codes "mode") (codes "0644") at

-- F10 at its line
abbrev owners : Line
owners = said (codes "owners") a 8

passes : tested nothing (codes "file") (text a) (body_with (mode_line 8 ∷ said (codes "noop") a 9 ∷ []))
    ≡ Ok (record { kind = codes "file"; title = a; known = attributes_of native.File })
unfolding tested kind_checked native_of title_checked lines_checked names_known names_apart attributes_of known_checked is_metaparameter
passes = refl

-- F5 at the body; before a title that is none, and before unknown attributes
unknown_kind : tested vhost (codes "web") (int 4) (body_with (owners ∷ []))
    ≡ Err (fault (place 7) (what.UnknownType (codes "web")))
unfolding tested kind_checked native_of define_found definition_of
unknown_kind = refl

-- an instance of a define takes its parameters
instance : tested vhost (codes "web::vhost") (text a) (body_with (said (codes "port") a 8 ∷ []))
    ≡ Ok (record { kind = codes "web::vhost"; title = a; known = codes "port" ∷ [] })
unfolding tested kind_checked native_of define_found definition_of title_checked lines_checked names_known names_apart known_checked
instance = refl

-- a kind that no file defines
absent_kind : tested nothing (codes "nginx::vhost") (text a) (body_with [])
    ≡ Err (fault (place 7) (what.UnknownType (codes "nginx::vhost")))
unfolding tested kind_checked native_of define_found definition_of segments
absent_kind = refl

-- ---- the tests of a class

class : class_tested vhost form.Plain (text (codes "::Web")) (body_with (said (codes "port") a 8 ∷ [])) ≡ Ok web
unfolding class_tested title_checked class_found definition_of lines_checked names_known names_apart known_checked normal without_front_colons
class = refl

-- F26 names the class, and the kind alone where the title is no text; it comes before F8
virtual_class : class_tested nothing form.Virtual (text (codes "::Web")) (body_with [])
    ≡ Err (fault (place 7) (what.ClassVirtual (subject.Reference (class_reference (codes "web")))))
unfolding class_tested normal without_front_colons
virtual_class = refl

exported_class : class_tested nothing form.Exported (int 4) (body_with [])
    ≡ Err (fault (place 7) (what.ClassVirtual (subject.Kind (codes "class"))))
unfolding class_tested
exported_class = refl

-- F8 comes before F4, and F4 before F10
no_class_title : class_tested nothing form.Plain (int 4) (body_with (owners ∷ []))
    ≡ Err (fault (place 7) (what.TypeMismatch (codes "title")))
unfolding class_tested title_checked
no_class_title = refl

no_class : class_tested nothing form.Plain (text (codes "Web")) (body_with (owners ∷ []))
    ≡ Err (fault (place 7) (what.UnknownClass (codes "web")))
unfolding class_tested title_checked class_found definition_of segments normal without_front_colons
no_class = refl

-- a define is no class
define_named : class_tested vhost form.Plain (text (codes "web::vhost")) (body_with [])
    ≡ Err (fault (place 7) (what.UnknownClass (codes "web::vhost")))
unfolding class_tested title_checked class_found definition_of normal without_front_colons
define_named = refl

-- F10 at its line, also behind a name that stands twice
no_parameter : class_tested vhost form.Plain (text (codes "web"))
    (body_with (said (codes "port") a 5 ∷ said (codes "port") a 6 ∷ owners ∷ []))
    ≡ Err (fault (place 8) (what.UnknownParameter (class_reference (codes "web")) (codes "owners")))
unfolding class_tested title_checked class_found definition_of lines_checked names_known known_checked is_metaparameter normal without_front_colons
no_parameter = refl

-- ---- the tests of a title

-- F8 at the body, before unknown attributes
no_text : tested nothing (codes "file") (int 4) (body_with (owners ∷ []))
    ≡ Err (fault (place 7) (what.TypeMismatch (codes "title")))
unfolding tested kind_checked native_of title_checked
no_text = refl

empty_title : tested nothing (codes "file") (text []) (body_with [])
    ≡ Err (fault (place 7) (what.TypeMismatch (codes "title")))
unfolding tested kind_checked native_of title_checked
empty_title = refl

-- F10 at the first line whose name is unknown, also behind a name that stands twice
unknown_name : tested nothing (codes "file") (text a)
    (body_with (mode_line 5 ∷ mode_line 6 ∷ owners ∷ said b a 9 ∷ []))
    ≡ Err (fault (place 8) (what.UnknownParameter file_a (codes "owners")))
unfolding tested kind_checked native_of title_checked lines_checked names_known attributes_of known_checked is_metaparameter
unknown_name = refl

-- F15 at the later line
twice : tested nothing (codes "file") (text a)
    (body_with (mode_line 5 ∷ said (codes "tag") a 6 ∷ mode_line 8 ∷ []))
    ≡ Err (fault (place 8) (what.AlreadySet (subject.Reference file_a) (codes "mode")))
unfolding tested kind_checked native_of title_checked lines_checked names_known names_apart attributes_of known_checked is_metaparameter
twice = refl

-- ---- attributes and tags

-- by the order of their names; Undef sets none
rising : set_from [] (said c a 1 ∷ line b false d.undef (place 2) ∷ said a b 3 ∷ []) ≡ (a, text b) ∷ (c, text a) ∷ []
unfolding set_from
rising = refl

-- lists are flattened, and what is no text counts by its text
tag_texts : given_tags ((a, text c) ∷ (codes "tag", nested) ∷ []) ≡ a ∷ b ∷ codes "4" ∷ []
unfolding digits
tag_texts = refl

tag_of_one : given_tags ((codes "tag", d.flag true) ∷ []) ≡ codes "true" ∷ []
tag_of_one = refl

no_tag : given_tags ((a, text c) ∷ []) ≡ []
no_tag = refl

-- ---- what is declared

abbrev titled : List Datum → List Line → ℕ → Body
titled titles ls at = record { titles = titles; lines = ls; at = place at }

-- an empty `notify` of this title, at a line
abbrev notify : Mode → List ℕ → ℕ → Row
notify m title at = new_row (record {
  item = record {
    kind = codes "notify";
    title = title;
    attributes = [];
    tags = title ∷ codes "class" ∷ codes "main" ∷ codes "notify" ∷ [];
  };
  at = place at;
  scope = 0;
  container = Some 0;
  class = codes "class main";
  known = codes "name" ∷ codes "message" ∷ [];
}) m

-- what a step needs to be computed
abbrev kind : List ℕ
kind = codes "notify"

-- body by body, title by title
each_title : Declares
    (declare_bodies sample form.Plain kind (titled (text a ∷ text b ∷ []) [] 2 ∷ titled (text c ∷ []) [] 3 ∷ []) here)
    (notify mode.Plain a 2 ∷ notify mode.Plain b 2 ∷ notify mode.Plain (codes "c") 3 ∷ [])
unfolding declare_bodies titles_rule title_rule declared_rule declare_rule tested kind_checked native_of title_checked lines_checked names_known names_apart attributes_of set_from segments is_word_byte is_tag_byte line_tests owner_at
each_title environment = refl

-- virtual and exported ones
virtual : Declares (titles_rule sample form.Virtual kind (text a ∷ []) (body_with []) here) (notify mode.Virtual a 7 ∷ [])
unfolding titles_rule title_rule declared_rule declare_rule tested kind_checked native_of title_checked lines_checked names_known names_apart attributes_of set_from segments is_word_byte is_tag_byte line_tests owner_at
virtual environment = refl

exported : Declares (titles_rule sample form.Exported kind (text a ∷ []) (body_with []) here) (notify mode.Exported a 7 ∷ [])
unfolding titles_rule title_rule declared_rule declare_rule tested kind_checked native_of title_checked lines_checked names_known names_apart attributes_of set_from segments is_word_byte is_tag_byte line_tests owner_at
exported environment = refl

-- without a title nothing is tested
no_titles : Declares (titles_rule sample form.Plain (codes "nothing") [] (body_with (owners ∷ [])) here) []
unfolding titles_rule
no_titles environment = refl

-- F14 of the second title, with the place of the first
duplicate : Fails (titles_rule sample form.Plain kind (text a ∷ text a ∷ []) (body_with []) here)
    7 (what.Duplicate (record { kind = kind; title = a }) (place 7))
unfolding titles_rule title_rule declared_rule declare_rule tested kind_checked native_of title_checked lines_checked names_known names_apart attributes_of set_from segments is_word_byte is_tag_byte line_tests
duplicate environment = refl

-- the first title's faults come before the second one's, and a body's before the next one's
first_body : Fails
    (declare_bodies sample form.Plain kind
    (titled (text a ∷ int 4 ∷ []) (said (codes "mesage") a 3 ∷ []) 2 ∷ titled (int 4 ∷ []) [] 5 ∷ []) here)
    3 (what.UnknownParameter (record { kind = kind; title = a }) (codes "mesage"))
unfolding declare_bodies titles_rule title_rule declared_rule declare_rule tested kind_checked native_of title_checked lines_checked names_known names_apart attributes_of known_checked is_metaparameter
first_body environment = refl

-- a relation
abbrev before : Datum → Line
before value = line (codes "before") false value (place 8)

-- an override line that came before it is tested then: F10 at the line
overridden_before : (environment : Environment)
    → book_by
    (titles_rule sample form.Plain kind (text a ∷ []) (body_with (before (text c) ∷ [])) here (overridden environment))
    ≡ Err (fault (place 9) (what.UnknownParameter (record { kind = kind; title = a }) (codes "mesage")))
unfolding titles_rule title_rule declared_rule declare_rule tested kind_checked native_of title_checked lines_checked names_known names_apart attributes_of set_from segments is_word_byte is_tag_byte known_checked line_tests is_metaparameter
overridden_before environment = refl

-- in a class: its resource contains what it declares, whose tags go on; scope and source are those of the class
in_class : item_of owner (new_row main mode.Plain ∷ class_a mode.Plain ∷ [])
    (record { kind = kind; title = b; known = codes "name" ∷ codes "message" ∷ [] }) (body_with (said (codes "tag") (codes "Mine") 8 ∷ []))
    ≡ record {
      item = record {
        kind = kind;
        title = b;
        attributes = (codes "tag", text (codes "Mine")) ∷ [];
        tags = a ∷ b ∷ codes "class" ∷ codes "mine" ∷ codes "notify" ∷ codes "own" ∷ [];
      };
      at = place 7;
      scope = 3;
      container = Some 1;
      class = codes "class a";
      known = codes "name" ∷ codes "message" ∷ [];
    }
unfolding set_from segments is_word_byte is_tag_byte attributes_of
in_class = refl

-- what is not live contains nothing, nor does what is not there
virtual_container : container_in (new_row main mode.Plain ∷ class_a mode.Virtual ∷ []) 1 ≡ None
virtual_container = refl

no_container : container_in (new_row main mode.Plain ∷ []) 1 ≡ None
no_container = refl

-- ---- the whole expression

-- `@@::Notify { 'a': }`, and the kind is told by its normal name
whole : Declares (resource_rule sample
    (resource mark.Exported (codes "::nOtify") (titled_by (word a) [] 7 ∷ []) 6) here)
    (notify mode.Exported a 7 ∷ [])
unfolding resource_rule bodies_rule defaults_from bodies_from body_rule all_not_among lines_from declare_bodies titles_rule title_rule declared_rule declare_rule tested kind_checked native_of title_checked lines_checked names_known names_apart attributes_of set_from segments is_word_byte is_tag_byte line_tests owner_at out-Form denote.Hole.Carrier.out normal without_front_colons
whole environment = refl

-- all bodies are evaluated before any test: the second one's F2 comes before the first one's F8, and before F5
evaluated_first : Fails (resource_rule sample
    (resource mark.Plain (codes "nothing") (titled_by undef [] 2 ∷ titled_by (fails 3) [] 3 ∷ []) 1) here)
    3 (what.UnknownVariable (codes "x"))
unfolding resource_rule bodies_rule defaults_from bodies_from body_rule all_not_among lines_from owner_at out-Form denote.Hole.Carrier.out
evaluated_first environment = refl
