-- Answers that lend what they name, or tell it.
use Rattle.std.specs.Prelude.{◌≡◌, Result, Ok, Err}
use denote.Ref.{Bor}
use Rattle.pp_values.specs.Answers.{IsRefused, fault_told}
use Rattle.pp_values.specs.declared.fault.Fault.{Fault}
use Rattle.pp_values.specs.declared.fault.Stop.{Stop}

-- what is lent is exactly what is meant, unless memory ran out
abbrev pub Lends : {T : Type 0} → Result (Bor T) Stop → Result T Fault → Type 0
Lends (Ok x) meant = meant ≡ Ok x.now
Lends (Err e) meant = IsRefused (fault_told e) meant

-- what is found, as it is told, is exactly what is meant, unless memory ran out
abbrev pub Tells : {A V : Type 0} → (V → A) → Result V Stop → Result A Fault → Type 0
Tells told (Ok v) meant = meant ≡ Ok (told v)
Tells told (Err e) meant = IsRefused (fault_told e) meant
