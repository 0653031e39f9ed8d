-- The line that tells a fault.
use Rattle.std.specs.Prelude.{ℕ, ◌==◌, if◌then◌else◌, List, [], ◌∷◌, ◌++◌, ◌-◌, map, slice_index_or, codes, decimal}
use Rattle.pp_values.specs.declared.fault.Fault.{Fault}
use Rattle.pp_values.specs.declared.fault.What.{What}
use Rattle.pp_values.specs.declared.fault.What.TheVariants.{Syntax, UnknownVariable, Reassigned, UnknownClass}
use Rattle.pp_values.specs.declared.fault.What.TheVariants.{UnknownType, UnknownFunction, WrongArguments, TypeMismatch}
use Rattle.pp_values.specs.declared.fault.What.TheVariants.{MissingParameter, UnknownParameter, BadOperand, NumberRange}
use Rattle.pp_values.specs.declared.fault.What.TheVariants.{ZeroDivisor, Duplicate, AlreadySet, NoOverrideTarget}
use Rattle.pp_values.specs.declared.fault.What.TheVariants.{NoRelationTarget, Cycle, NoNode, LookupMissing, LookupLoop}
use Rattle.pp_values.specs.declared.fault.What.TheVariants.{MergeMismatch, BadData, BadInterpolation, Failed}
use Rattle.pp_values.specs.declared.fault.What.TheVariants.{ClassVirtual, RoundLimit, ResourceLimit, DepthLimit}
use Rattle.pp_values.specs.declared.fault.What.TheVariants.{SameNamevar}
use Rattle.pp_values.specs.declared.fault.Subject.{Subject}
use Rattle.pp_values.specs.declared.fault.Subject.TheVariants as subject
use Rattle.pp_values.specs.declared.place.Place.{Place}
use Rattle.pp_values.specs.declared.reference.Reference.{Reference}
use Rattle.site_docs.specs.declared.fault_names.TheConstants.{FAULT_NAMES}
use Rattle.pp_values.specs.Words.{kind_text, reference_text}

-- the faults are numbered from 1
abbrev pub fault_number : What → ℕ
fault_number Syntax = 1
fault_number (UnknownVariable name) = 2
fault_number (Reassigned name) = 3
fault_number (UnknownClass name) = 4
fault_number (UnknownType name) = 5
fault_number (UnknownFunction name) = 6
fault_number (WrongArguments name) = 7
fault_number (TypeMismatch name) = 8
fault_number (MissingParameter reference name) = 9
fault_number (UnknownParameter reference name) = 10
fault_number (BadOperand name) = 11
fault_number (NumberRange name) = 12
fault_number (ZeroDivisor name) = 13
fault_number (Duplicate reference earlier) = 14
fault_number (AlreadySet about name) = 15
fault_number (NoOverrideTarget reference) = 16
fault_number (NoRelationTarget reference) = 17
fault_number (Cycle references) = 18
fault_number (NoNode node) = 19
fault_number (LookupMissing key) = 20
fault_number (LookupLoop key) = 21
fault_number (MergeMismatch key) = 22
fault_number (BadData path) = 23
fault_number (BadInterpolation text) = 24
fault_number (Failed message) = 25
fault_number (ClassVirtual about) = 26
fault_number RoundLimit = 27
fault_number ResourceLimit = 28
fault_number DepthLimit = 29
fault_number (SameNamevar later earlier) = 30

-- each number has its name
abbrev pub fault_name : What → List ℕ
fault_name what = slice_index_or (map (λ name. name.now) FAULT_NAMES) (fault_number what - 1) []

-- a file and a line: `manifests/site.pp:2`
abbrev pub place_text : Place → List ℕ
place_text p = p.file ++ (codes ":" ++ decimal p.line)

-- a reference, or a kind of resource as it is printed
abbrev pub subject_text : Subject → List ℕ
subject_text (subject.Reference r) = reference_text r
subject_text (subject.Kind k) = kind_text k

-- each reference with an arrow before it
abbrev pub links : List Reference → List ℕ
links [] = []
links (r ∷ rs) = codes " -> " ++ (reference_text r ++ links rs)

-- the references joined by arrows, the first again at the end
abbrev pub cycle_text : List Reference → List ℕ
cycle_text [] = []
cycle_text (r ∷ rs) = reference_text r ++ (links rs ++ links (r ∷ []))

abbrev pub details : What → List ℕ
details Syntax = []
details (UnknownVariable name) = name
details (Reassigned name) = name
details (UnknownClass name) = name
details (UnknownType name) = name
details (UnknownFunction name) = name
details (WrongArguments name) = name
details (TypeMismatch name) = name
details (MissingParameter reference name) = reference_text reference ++ (codes " " ++ name)
details (UnknownParameter reference name) = reference_text reference ++ (codes " " ++ name)
details (BadOperand name) = name
details (NumberRange name) = name
details (ZeroDivisor name) = name
details (Duplicate reference earlier) = reference_text reference ++ (codes " " ++ place_text earlier)
details (AlreadySet about name) = subject_text about ++ (codes " " ++ name)
details (NoOverrideTarget reference) = reference_text reference
details (NoRelationTarget reference) = reference_text reference
details (Cycle references) = cycle_text references
details (NoNode node) = node
details (LookupMissing key) = key
details (LookupLoop key) = key
details (MergeMismatch key) = key
details (BadData path) = path
details (BadInterpolation text) = text
details (Failed message) = message
details (ClassVirtual about) = subject_text about
details RoundLimit = []
details ResourceLimit = []
details DepthLimit = []
details (SameNamevar later earlier) = reference_text later ++ (codes " " ++ reference_text earlier)

-- the text behind a space, if it is not empty
abbrev pub spaced : List ℕ → List ℕ
spaced [] = []
spaced (b ∷ bs) = 32 ∷ b ∷ bs

-- a line feed is written as a space
abbrev pub in_line : ℕ → ℕ
in_line b = if b == 10 then 32 else b

-- `Fn FILE:LINE Name DETAILS`, without the last space where there are no details
unfoldable pub plain_line : Fault → List ℕ
plain_line f =
    codes "F" ++ (decimal (fault_number f.what) ++ (codes " " ++
    (place_text f.at ++ (codes " " ++ (fault_name f.what ++ spaced (details f.what))))))

-- the line that tells the fault, without a line feed at its end
unfoldable pub fault_text : Fault → List ℕ
fault_text f = map in_line (plain_line f)
