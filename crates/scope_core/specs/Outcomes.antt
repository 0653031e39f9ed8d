-- What calls on scopes answer.
use Rattle.std.specs.Prelude.{◌≡◌, Bool, true, false, IsTrue, is_err, Result, Ok, Err}
use denote.Ref as Ref
use Rattle.pp_values.specs.Answers.{IsRefused, fault_told}
use Rattle.pp_values.specs.Datum.{Datum}
use Rattle.pp_values.specs.Views.{view}
use Rattle.pp_values.specs.declared.fault.Fault.{Fault}
use Rattle.pp_values.specs.declared.fault.Stop.{Stop}
use Rattle.pp_values.specs.declared.fault.Stop.TheVariants as stop
use Rattle.pp_values.specs.declared.memory.Memory.{Memory}
use Rattle.pp_values.specs.declared.value.Value.{Value}
use Rattle.scope_core.specs.Scopes.{Scopes}

-- a call that lends a value: memory is wanting for the fault's text alone
abbrev pub Reads : Result Datum Fault → Result (Ref.Bor Value) Stop → Type 0
Reads meant (Ok v) = meant ≡ Ok (view v.now)
Reads meant (Err (stop.Fault f)) = meant ≡ Err f
Reads meant (Err stop.Memory) = IsTrue (is_err meant)

-- a call that changes scopes: whatever the error, they stay as they were
abbrev pub Changes : Result Scopes Fault → Scopes → Result (Unit {0}) Stop → Scopes → Type 0
Changes meant old (Ok u) new = meant ≡ Ok new
Changes meant old (Err e) new = (new ≡ old) × IsRefused (fault_told e) meant

-- A call that puts a name into a scope: true where it is set now, false where it may not be set. Where there is no
-- memory, the scopes stay as they were.
abbrev pub Puts : Bool → Scopes → Scopes → Result Bool Memory → Scopes → Type 0
Puts is_set named old (Ok true) new = (is_set ≡ false) × (new ≡ named)
Puts is_set named old (Ok false) new = (is_set ≡ true) × (new ≡ old)
Puts is_set named old (Err e) new = new ≡ old
