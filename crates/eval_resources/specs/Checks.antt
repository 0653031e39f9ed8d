-- The tests of one title of a body, before the book is asked.
use Rattle.std.specs.Prelude.{ℕ, ⊤, if◌then◌else◌, List, [], ◌∷◌, Option, None, Some, Result, Ok, Err, codes}
use Rattle.pp_tree.specs.Names.{normal}
use Rattle.pp_tree.specs.declared.definition.Class.{Class}
use Rattle.pp_tree.specs.declared.expr.Expr.{Expr}
use Rattle.pp_tree.specs.declared.param.Param.{Param}
use Rattle.pp_values.specs.Answers.{and_then}
use Rattle.pp_values.specs.Datum as d
use Rattle.pp_values.specs.Datum.{Datum}
use Rattle.pp_values.specs.Faults.{fault}
use Rattle.pp_values.specs.Kinds.{is_kind}
use Rattle.pp_values.specs.Rising.{has_text, with_texts}
use Rattle.pp_values.specs.Settings.{Setting}
use Rattle.pp_values.specs.declared.fault.Fault.{Fault}
use Rattle.pp_values.specs.declared.fault.Subject.{Subject}
use Rattle.pp_values.specs.declared.fault.Subject.TheVariants as subject
use Rattle.pp_values.specs.declared.fault.What.TheVariants as what
use Rattle.pp_values.specs.declared.place.Place.{Place}
use Rattle.pp_values.specs.declared.reference.Reference.{Reference}
use Rattle.res_core.specs.AttributeChecks.{known_checked}
use Rattle.res_core.specs.NativeTypes.{row, native_of, attributes_of}
use Rattle.res_core.specs.declared.form.Form.{Form}
use Rattle.res_core.specs.declared.form.Form.TheVariants as form
use Rattle.res_core.specs.declared.native_type.NativeType.{NativeType}
use Rattle.eval_classes.specs.Definitions.{class_found, class_name, define_found, param_names}
use Rattle.eval_classes.specs.Listing.{class_reference}
use Rattle.res_core.specs.Lines.{Line}
use Rattle.res_core.specs.declared.body.Body.{Body}
use Rattle.eval_resources.specs.declared.known_kind.KnownKind.{KnownKind}
use Rattle.eval_resources.specs.declared.named.Named.{Named}
use Rattle.eval_world.specs.Environment.{Environment}

-- ---- the kind

-- a kind that may be declared, and what it takes besides the metaparameters
abbrev pub known_kind : List ℕ → List (List ℕ) → KnownKind
known_kind kind known = record { kind = kind; known = known }

abbrev pub native_kind : NativeType → KnownKind
native_kind n = known_kind (row n).kind (attributes_of n)

-- a define takes its parameters
abbrev pub with_params : List ℕ → List (Param Expr) → KnownKind
with_params kind params = known_kind kind (param_names params)

-- its name has to be one of a kind
abbrev pub define_kind : List ℕ → Place → List (Param Expr) → Result KnownKind Fault
define_kind kind at params =
    if is_kind kind then Ok (with_params kind params) else Err (fault at (what.UnknownType kind))

abbrev pub define_checked : Environment → List ℕ → Place → Result KnownKind Fault
define_checked m kind at = and_then (define_found m kind at) (λ f. define_kind kind at f.params)

abbrev pub kind_by : Option NativeType → Environment → List ℕ → Place → Result KnownKind Fault
kind_by (Some n) m kind at = Ok (native_kind n)
kind_by None m kind at = define_checked m kind at

-- a native type or a define of the site, in lower case without a leading `::`; else F5
unfoldable pub kind_checked : Environment → List ℕ → Place → Result KnownKind Fault
kind_checked m kind at = kind_by (native_of kind) m kind at

-- ---- the title

abbrev pub no_title : Place → Fault
no_title at = fault at (what.TypeMismatch (codes "title"))

abbrev pub filled_checked : List ℕ → Place → Result (List ℕ) Fault
filled_checked [] at = Err (no_title at)
filled_checked (b ∷ bs) at = Ok (b ∷ bs)

-- a text that is not empty, else F8
unfoldable pub title_checked : Datum → Place → Result (List ℕ) Fault
title_checked (d.text t) at = filled_checked t at
title_checked _ at = Err (no_title at)

-- ---- the lines

-- F10 at the first line whose name the resource does not take
unfoldable pub names_known : Reference → List (List ℕ) → List Line → Result ⊤ Fault
names_known r known [] = Ok tt
names_known r known (l ∷ ls) = and_then (known_checked r known l.name l.at) (λ _. names_known r known ls)

-- the same of attributes that all stand at one place
unfoldable pub settings_known : Reference → List (List ℕ) → Place → List Setting → Result ⊤ Fault
settings_known r known at [] = Ok tt
settings_known r known at (s ∷ ss) = and_then (known_checked r known s.0 at) (λ _. settings_known r known at ss)

abbrev pub already_set : Reference → Line → Fault
already_set r l = fault l.at (what.AlreadySet (subject.Reference r) l.name)

-- F15 at the first line whose name stands before it; these are the names of the lines before
unfoldable pub names_apart : Reference → List (List ℕ) → List Line → Result ⊤ Fault
names_apart r names [] = Ok tt
names_apart r names (l ∷ ls) =
    if has_text names l.name then Err (already_set r l) else names_apart r (with_texts names (l.name ∷ [])) ls

-- first that all names are known, and then that none stands twice
unfoldable pub lines_checked : Reference → List (List ℕ) → List Line → Result ⊤ Fault
lines_checked r known ls = and_then (names_known r known ls) (λ _. names_apart r [] ls)

-- ---- in their order

abbrev pub reference_to : KnownKind → List ℕ → Reference
reference_to k title = record { kind = k.kind; title = title }

abbrev pub named_of : KnownKind → List ℕ → Named
named_of k title = record { kind = k.kind; title = title; known = k.known }

abbrev pub title_tested : KnownKind → Datum → Body → Result Named Fault
title_tested k title b = and_then (title_checked title b.at) (λ t.
    and_then (lines_checked (reference_to k t) k.known b.lines) (λ _. Ok (named_of k t)))

unfoldable pub tested : Environment → List ℕ → Datum → Body → Result Named Fault
tested m kind title b = and_then (kind_checked m kind b.at) (λ k. title_tested k title b)

-- ---- classes

-- what F26 names: the class, where the title is a text
abbrev pub class_named : Datum → Subject
class_named (d.text t) = subject.Reference (class_reference (normal t))
class_named _ = subject.Kind (codes "class")

abbrev pub class_virtual : Datum → Place → Fault
class_virtual title at = fault at (what.ClassVirtual (class_named title))

-- no class is virtual or exported: F26
abbrev pub class_form : Form → Datum → Place → Result ⊤ Fault
class_form form.Plain title at = Ok tt
class_form form.Virtual title at = Err (class_virtual title at)
class_form form.Exported title at = Err (class_virtual title at)

-- the class of this title, which is a text, else F8; and there is one, else F4
abbrev pub class_titled : Environment → Datum → Place → Result Class Fault
class_titled m title at = and_then (title_checked title at) (λ t. class_found m (normal t) at)

-- it takes its parameters
abbrev pub class_lines : Class → List Line → Result ⊤ Fault
class_lines c ls = lines_checked (class_reference (class_name c)) (param_names c.params) ls

unfoldable pub class_tested : Environment → Form → Datum → Body → Result Class Fault
class_tested m written title b = and_then (class_form written title b.at) (λ _.
    and_then (class_titled m title b.at) (λ c. and_then (class_lines c b.lines) (λ _. Ok c)))
