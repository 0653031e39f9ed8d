-- What a call that looks into data may answer. A fault has no place here: it is that of the whole look-up.
use Rattle.std.specs.Prelude.{◌≡◌, ⊤, List, [], ◌∷◌, Result, Ok, Err}
use Rattle.pp_values.specs.declared.fault.What.{What}
use Rattle.hiera_config.specs.declared.refused.Refused.{Refused}
use Rattle.hiera_config.specs.declared.refused.Refused.TheVariants as refused

abbrev pub Meant : Type 0 → Type 0
Meant A = Result A What

-- one step after another: the first fault is that of the whole
unfoldable pub go_on : {A B : Type 0} → Meant A → (A → Meant B) → Meant B
go_on (Ok x) next = next x
go_on (Err f) next = Err f

-- a step for each of these in turn, from a state on, up to the first fault
unfoldable pub in_turn : {A T : Type 0} → (A → T → Meant A) → A → List T → Meant A
in_turn step a [] = Ok a
in_turn step a (x ∷ xs) = go_on (step a x) (λ b. in_turn step b xs)

-- exactly what is meant, where a value is seen as `shown` says, unless memory ran out
pub record MeetsBy {A V : Type 0} (shown : V → A) (result : Result V Refused) (meant : Meant A) : Type 0 where
  pub ok : (v : V) → result ≡ Ok v → meant ≡ Ok (shown v)
  pub fault : (f : What) → result ≡ Err (refused.Fault f) → meant ≡ Err f

-- a refusal is this fault, unless memory ran out
abbrev pub Tells : Refused → What → Type 0
Tells (refused.Fault f) w = f ≡ w
Tells refused.Memory w = ⊤
