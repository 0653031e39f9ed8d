-- What a language means by a site.
use Rattle.std.specs.Prelude.{◌≡◌, ℕ, List, Option, Some, None, Result, IsOkAnd}
use Rattle.pp_values.specs.Answers.{AnswersBy}
use Rattle.pp_values.specs.Datum.{Datum}
use Rattle.res_core.specs.declared.export_set.ExportSet.{ExportSet}
use Rattle.export_store.specs.Sets.{Sets}
use Rattle.site_core.specs.declared.compile_stop.CompileStop.{CompileStop}
use Rattle.site_core.specs.declared.compile_stop.CompileStop.TheVariants as stop

-- what a site means for a node with these facts, where the nodes export these sets: a catalog and the node's exports,
-- or a fault
abbrev pub Meaning : Type 0 → Type 0 → Type 0 → Type 0
Meaning S C F = S → List ℕ → Datum → Sets → Result (C × ExportSet) F

-- the fault that a stop tells
abbrev pub fault_told : {F : Type 0} → CompileStop F → Option F
fault_told (stop.Fault fault) = Some fault
fault_told stop.Memory = None

-- a compile answers exactly what is meant, unless memory ran out
abbrev pub Compiles : {C F : Type 0} → Result (C × ExportSet) (CompileStop F) → Result (C × ExportSet) F → Type 0
Compiles result meant = AnswersBy fault_told result meant

-- what is meant is no fault, and the set is its exports
abbrev pub HasExports : {C F : Type 0} → Result (C × ExportSet) F → ExportSet → Type 0
HasExports meant set = IsOkAnd meant (λ made. made.1 ≡ set)
