-- Which line may set or change an attribute.
use Rattle.std.specs.Prelude.{ℕ, Bool, true, false, ◌&&◌, ◌||◌, not, if◌then◌else◌, List, [], ◌∷◌, ◌++◌, Option, None}
use Rattle.std.specs.Prelude.{Some, Result, Ok, Err}
use Rattle.std.specs.Str.{bytes_eq}
use Rattle.pp_values.specs.Answers.{and_then}
use Rattle.pp_values.specs.Datum.{Datum}
use Rattle.pp_values.specs.Faults.{fault}
use Rattle.pp_values.specs.Rising.{has_text}
use Rattle.pp_values.specs.declared.fault.Fault.{Fault}
use Rattle.pp_values.specs.declared.fault.Subject.TheVariants as subject
use Rattle.pp_values.specs.declared.fault.What.TheVariants.{UnknownParameter, AlreadySet}
use Rattle.res_book.specs.Rows.{reference_of, is_class}
use Rattle.res_core.specs.AttributeChecks.{is_known}
use Rattle.res_core.specs.declared.declared.Declared.{Declared}
use Rattle.override_rules.specs.Fold.{declared, after_lines}
use Rattle.override_rules.specs.Lines.{Line}
use Rattle.override_rules.specs.declared.override_line.Right.{Right}
use Rattle.override_rules.specs.declared.override_line.Right.TheVariants as right

abbrev pub is_set : Option Datum → Bool
is_set None = false
is_set (Some d) = true

-- A collector's line may do anything. Another may change what is set only where its source inherits from the
-- resource's, and set what is not set also where the sources are the same.
abbrev pub may : Right → List ℕ → Bool → Bool
may right.Any source set = true
may (right.From own above) source set = has_text above source || (not set && bytes_eq own source)

-- F10
abbrev pub unknown : Declared → Line → Fault
unknown d l = fault l.at (UnknownParameter (reference_of d) l.name)

-- F15
abbrev pub already_set : Declared → Line → Fault
already_set d l = fault l.at (AlreadySet (subject.Reference (reference_of d)) l.name)

-- Of a declaration with this attribute set or not, evaluated or not: the name is known, else F10; the instance is not
-- evaluated and the line may, else F15. A class meets no test.
abbrev pub line_test : Declared → Bool → Bool → Line → Result (Unit {0}) Fault
line_test d evaluated set l =
    if is_class d then Ok tt
    else if not (is_known d.known l.name) then Err (unknown d l)
    else if evaluated || not (may l.right d.class set) then Err (already_set d l)
    else Ok tt

-- the attribute is set by the declaration or by one of these lines
abbrev pub is_set_by : Declared → List Line → List ℕ → Bool
is_set_by d done name = is_set (after_lines name done (declared d name))

-- the lines on a declaration in their order, each after those before it
unfoldable pub line_tests : Declared → Bool → List Line → List Line → Result (Unit {0}) Fault
line_tests d evaluated done [] = Ok tt
line_tests d evaluated done (l ∷ ls) =
    and_then (line_test d evaluated (is_set_by d done l.name) l) (λ _. line_tests d evaluated (done ++ l ∷ []) ls)
