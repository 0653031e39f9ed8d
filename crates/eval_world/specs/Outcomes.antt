-- Steps of an evaluation: a value and the world after it, or the first fault. They are written in `do` form.
use Rattle.std.specs.Prelude.{◌≡◌, Result, Ok, Err}
use Rattle.pp_values.specs.Answers.{IsRefused, fault_told}
use Rattle.pp_values.specs.Faults as faults
use Rattle.pp_values.specs.declared.fault.Fault.{Fault}
use Rattle.pp_values.specs.declared.fault.Stop.{Stop}
use Rattle.eval_world.specs.declared.world.World.{World}

abbrev pub Outcome : Type 0 → Type 0
Outcome A = Result (A × World) Fault

abbrev pub Step : Type 0 → Type 0
Step A = World → Outcome A

abbrev pub go_on : {A B : Type 0} → Outcome A → (A → World → Outcome B) → Outcome B
go_on (Ok p) next = next p.0 p.1
go_on (Err f) next = Err f

-- one step, and then the next one with what it gave: the first fault is that of the whole
infixl 10 ◌>>=◌
abbrev pub ◌>>=◌ : {A B : Type 0} → Step A → (A → Step B) → Step B
p >>= next = λ w. go_on (p w) next

infixl 10 ◌>>◌
abbrev pub ◌>>◌ : {A B : Type 0} → Step A → Step B → Step B
p >> q = p >>= (λ _. q)

abbrev pub pure : {A : Type 0} → A → Step A
pure a = λ w. Ok (a, w)

-- an answer that changes nothing in the world
abbrev pub answered : {A : Type 0} → Result A Fault → Step A
answered (Ok a) = λ w. Ok (a, w)
answered (Err f) = λ w. Err f

-- A call gives exactly what the step means, unless memory ran out: the value, as `said` tells it, and the world after.
abbrev pub Gives : {A V : Type 0} → (V → A) → Outcome A → Result V Stop → World → Type 0
Gives said meant (Ok v) new = meant ≡ Ok (said v, new)
Gives said meant (Err e) new = IsRefused (fault_told e) meant

abbrev pub same : {A : Type 0} → A → A
same a = a

abbrev pub nothing : Unit {0} → Unit {0}
nothing u = u
