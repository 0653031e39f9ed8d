-- Answers within this crate: a value, a refusal, or want of memory; and functions of exactly one argument.
use Rattle.std.specs.Prelude.{⊤, ◌≡◌, Result, Ok, Err, List, [], ◌∷◌}
use Rattle.pp_values.specs.declared.value.Value.{Value}
use Rattle.pp_values.specs.Datum.{Datum}
use Rattle.pp_values.specs.Views.{view}
use Rattle.pp_funcs.specs.declared.refusal.Refusal.{Refusal}
use Rattle.pp_funcs.specs.declared.refusal.Refusal.TheVariants.{Arguments}
use Rattle.pp_funcs.specs.declared.refusal.Halt.{Halt}
use Rattle.pp_funcs.specs.declared.refusal.Halt.TheVariants as halt

abbrev pub Gives : Result Value Halt → Result Datum Refusal → Type 0
Gives (Ok v) meant = meant ≡ Ok (view v)
Gives (Err (halt.Refused r)) meant = meant ≡ Err r
Gives (Err halt.Memory) meant = ⊤

-- a function of exactly one argument
abbrev pub of_one : (Datum → Result Datum Refusal) → List Datum → Result Datum Refusal
of_one f (d ∷ []) = f d
of_one f arguments = Err Arguments
