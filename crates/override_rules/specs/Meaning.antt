-- What the calls on overrides mean.
use Rattle.std.specs.Prelude.{ℕ, ◌+◌, Bool, if◌then◌else◌, List, ◌∷◌, [], ◌++◌, length, find, slice_get, Option, None}
use Rattle.std.specs.Prelude.{Some, is_some, is_none, option_and_then, Result, Ok, Err, ◌||◌, codes}
use Rattle.std.specs.Str.{bytes_eq}
use Rattle.pp_values.specs.Answers.{and_then}
use Rattle.pp_values.specs.Datum.{Datum}
use Rattle.pp_values.specs.Faults.{fault}
use Rattle.pp_values.specs.declared.fault.Fault.{Fault}
use Rattle.pp_values.specs.declared.fault.Subject.TheVariants as subject
use Rattle.pp_values.specs.declared.fault.What.TheVariants.{AlreadySet}
use Rattle.pp_values.specs.declared.place.Place.{Place}
use Rattle.pp_values.specs.declared.reference.Reference.{Reference}
use Rattle.res_book.specs.Rows.{is_imported, reference_of, number_of}
use Rattle.res_book.specs.declared.row.Row.{Row}
use Rattle.override_rules.specs.Changes.{set_by}
use Rattle.override_rules.specs.Defaults.{Default, Scope, default_key, default_in, with_default, defaults_for}
use Rattle.override_rules.specs.Defaults.{with_scope, nearest, or_else}
use Rattle.override_rules.specs.Fold.{overridden}
use Rattle.override_rules.specs.Lines.{Line, lines_on}
use Rattle.override_rules.specs.Rights.{line_test, line_tests, is_set_by}

-- Lines in the order in which they came; scopes by their number; defaults by kind, scope and name.
pub record State : Type 0 where
  pub lines : List Line
  pub scopes : List Scope
  pub defaults : List Default

-- the declaration of this reference
abbrev pub row_of : Reference → List Row → Option Row
row_of q rows = option_and_then (slice_get rows) (number_of q rows)

-- ---- attributes

-- What the default statements give. An Undef that is nearer hides what is further out, and sets nothing. Imported
-- resources take none.
abbrev pub defaulted : State → Row → List ℕ → Option Datum
defaulted s r name =
    if is_imported r.mode then None else set_by (nearest s.scopes s.defaults r.declared.item.kind name r.declared.scope)

-- the declaration and the lines on it, and else a default
abbrev pub attribute_of : State → Row → List ℕ → Option Datum
attribute_of s r name = or_else (overridden s.lines r.declared name) (defaulted s r name)

abbrev pub attribute_at : State → List Row → ℕ → List ℕ → Option Datum
attribute_at s rows n name = option_and_then (λ r. attribute_of s r name) (slice_get rows n)

-- ---- tests

-- An instance is evaluated once its parameters are bound.
abbrev pub is_evaluated : Row → Bool
is_evaluated r = is_some r.bound

abbrev pub test_of : State → Line → Row → Result (Unit {0}) Fault
test_of s l r =
    line_test r.declared (is_evaluated r) (is_set_by r.declared (lines_on (reference_of r.declared) s.lines) l.name) l

abbrev pub tested : (Row → Result (Unit {0}) Fault) → Option Row → Result (Unit {0}) Fault
tested test None = Ok tt
tested test (Some r) = test r

abbrev pub with_line : State → Line → State
with_line s l = record s { lines = s.lines ++ l ∷ [] }

-- a line is tested where its target stands already
abbrev pub line_added : List Row → Line → State → Result (Unit {0} × State) Fault
line_added rows l s = and_then (tested (test_of s l) (row_of l.target rows)) (λ _. Ok (tt, with_line s l))

-- the tests of the lines on a declaration, in their order
abbrev pub stands : State → List Row → ℕ → Result (Unit {0}) Fault
stands s rows n =
    tested (λ r. line_tests r.declared (is_evaluated r) [] (lines_on (reference_of r.declared) s.lines))
    (slice_get rows n)

-- ---- lines without a target

-- its target is a class, or is not declared
abbrev pub is_orphan : List Row → Line → Bool
is_orphan rows l = bytes_eq l.target.kind (codes "class") || is_none (number_of l.target rows)

abbrev pub orphan : List Row → State → Option Line
orphan rows s = find (is_orphan rows) s.lines

-- ---- defaults

-- F15 names the kind
abbrev pub default_twice : List ℕ → List ℕ → Place → Fault
default_twice kind name at = fault at (AlreadySet (subject.Kind kind) name)

abbrev pub default_put : List ℕ → ℕ → List ℕ → Datum → Place → State → Option Datum → Result (Unit {0} × State) Fault
default_put kind scope name d at s (Some held) = Err (default_twice kind name at)
default_put kind scope name d at s None =
    Ok (tt, record s { defaults = with_default s.defaults (default_key kind scope name) d })

-- a scope has one default at most for each kind and name
abbrev pub default_added : List ℕ → ℕ → List ℕ → Datum → Place → State → Result (Unit {0} × State) Fault
default_added kind scope name d at s = default_put kind scope name d at s (default_in s.defaults kind scope name)

abbrev pub scope_opened : ℕ → Option ℕ → State → State
scope_opened scope parent s = record s { scopes = with_scope s.scopes scope parent }

-- ---- what concerns a declaration

-- the lines on it, and the defaults for its kind
abbrev pub touched_by : State → Row → ℕ
touched_by s r =
    length (lines_on (reference_of r.declared) s.lines) + length (defaults_for r.declared.item.kind s.defaults)
