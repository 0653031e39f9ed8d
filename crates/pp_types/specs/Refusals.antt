-- Answers within this crate, and those of the crate: exactly what is meant, unless memory ran out.
use Rattle.std.specs.Prelude.{⊤, ◌≡◌, Option, None, Some, Result, Ok, Err}
use Rattle.pp_values.specs.declared.fault.Stop.{Stop}
use Rattle.pp_values.specs.declared.ptype.PType.{PType}
use Rattle.pp_values.specs.PTypes.{sort}
use Rattle.pp_values.specs.Sort.{Sort}
use Rattle.pp_types.specs.declared.refusal.Halt.{Halt}
use Rattle.pp_types.specs.declared.refusal.Halt.TheVariants as halt

-- the result says what is meant; where nothing is meant, it is refused
abbrev pub Gives : {T A : Type 0} → (T → A) → Result T Halt → Option A → Type 0
Gives says (Ok x) meant = meant ≡ Some (says x)
Gives says (Err halt.Refused) meant = meant ≡ None
Gives says (Err halt.Memory) meant = ⊤

-- the answer of the call, as what its type says
abbrev pub said : Result PType Stop → Result Sort Stop
said (Ok t) = Ok (sort t)
said (Err s) = Err s
