-- What calls answer that change a book.
use Rattle.std.specs.Prelude.{◌≡◌, Result, Ok, Err}
use Rattle.pp_values.specs.Answers.{IsRefused, fault_told}
use Rattle.pp_values.specs.declared.fault.Fault.{Fault}
use Rattle.pp_values.specs.declared.fault.Stop.{Stop}

-- The answer and the state after it are exactly what is meant, unless memory ran out. Whatever the error, the state
-- stays as it was.
abbrev pub Changes : {A W : Type 0} → Result (A × W) Fault → W → Result A Stop → W → Type 0
Changes meant old (Ok a) new = meant ≡ Ok (a, new)
Changes meant old (Err e) new = (new ≡ old) × IsRefused (fault_told e) meant
