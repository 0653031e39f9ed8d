-- Results that are exactly what is meant, unless memory ran out.
use Rattle.std.specs.Prelude.{◌≡◌, ⊤, Option, None, Some, Result, Ok, Err, List, [], ◌∷◌}
use Rattle.pp_values.specs.declared.fault.Fault.{Fault}
use Rattle.pp_values.specs.declared.fault.Stop.{Stop}
use Rattle.pp_values.specs.declared.fault.Stop.TheVariants as stop

-- what is meant is this fault; where memory ran out (`None`), nothing is said
abbrev pub IsRefused : {T F : Type 0} → Option F → Result T F → Type 0
IsRefused None meant = ⊤
IsRefused (Some f) meant = meant ≡ Err f

-- The result is exactly what is meant, unless memory ran out. An error tells a fault, or that memory ran out (`None`).
abbrev pub AnswersBy : {T E F : Type 0} → (E → Option F) → Result T E → Result T F → Type 0
AnswersBy told (Ok x) meant = meant ≡ Ok x
AnswersBy told (Err e) meant = IsRefused (told e) meant

-- the fault that a stop tells
abbrev pub fault_told : Stop → Option Fault
fault_told (stop.Fault f) = Some f
fault_told stop.Memory = None

-- a call of the language answers exactly what is meant, unless memory ran out
abbrev pub Answers : {T : Type 0} → Result T Stop → Result T Fault → Type 0
Answers result meant = AnswersBy fault_told result meant

-- one step after another: the first fault is that of the whole
abbrev pub and_then : {A B F : Type 0} → Result A F → (A → Result B F) → Result B F
and_then (Ok x) next = next x
and_then (Err f) next = Err f

-- a step for each of these in turn, from a state on, up to the first fault
unfoldable pub in_turn : {A T F : Type 0} → (A → T → Result A F) → A → List T → Result A F
in_turn step a [] = Ok a
in_turn step a (x ∷ xs) = and_then (step a x) (λ b. in_turn step b xs)
