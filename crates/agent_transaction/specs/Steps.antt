-- What is done for one property, or to run something: the calls on the machine, from one state of it to another.
use Rattle.std.specs.Prelude.{◌≡◌, Bool, true, false}
use Rattle.pp_values.specs.Settings.{Setting}
use Rattle.pp_values.specs.declared.reference.Reference.{Reference}
use Rattle.agent_machine.specs.Machines.{Told, Asks, Writes, Refreshes}
use Rattle.agent_machine.specs.declared.holds.Holds.{Holds}
use Rattle.agent_machine.specs.declared.holds.Holds.TheVariants as holds
use Rattle.agent_machine.specs.declared.wrote.Wrote.TheVariants as wrote
use Rattle.agent_transaction.specs.declared.step.Step.{Step}
use Rattle.agent_transaction.specs.declared.step.Step.TheVariants as step
use Rattle.agent_transaction.specs.Faults.{holds_fault, write_fault, refresh_fault, run_change}

-- A property that differs is written. With `noop` it is only told what would be written.
abbrev pub Corrects : Bool → Reference → Setting → Step → Told → Told → Type 0
Corrects true what s (step.Changed name) before after = (name ≡ s.0) × (after ≡ before)
Corrects false what s (step.Changed name) before after = (name ≡ s.0) × Writes what s.0 s.1 wrote.Done before after
Corrects false what s (step.Failed fault) before after =
    (fault ≡ write_fault s.0) × Writes what s.0 s.1 wrote.Failed before after
Corrects false what s step.Memory before after = Writes what s.0 s.1 wrote.Memory before after
Corrects noop what s step before after = ⊥

-- what is done once it is known whether the property holds
abbrev pub SetsBy : Bool → Reference → Setting → Holds → Step → Told → Told → Type 0
SetsBy noop what s holds.Yes result before after = (result ≡ step.Kept) × (after ≡ before)
SetsBy noop what s holds.No result before after = Corrects noop what s result before after
SetsBy noop what s holds.Failed result before after = (result ≡ step.Failed (holds_fault s.0)) × (after ≡ before)

-- It is asked whether a property holds, and one that differs is written.
abbrev pub SetsRight : Bool → Reference → Setting → Step → Told → Told → Type 0
SetsRight noop what s result before after =
    (answer : Holds) × (asked : Told) × Asks what s.0 s.1 answer before asked
    × SetsBy noop what s answer result asked after

-- Something is run by one refresh. With `noop` it is only told that it would be.
abbrev pub Runs : Bool → Reference → Step → Told → Told → Type 0
Runs true what (step.Changed name) before after = (name ≡ run_change) × (after ≡ before)
Runs false what (step.Changed name) before after = (name ≡ run_change) × Refreshes what holds.Yes before after
Runs false what (step.Failed fault) before after = (fault ≡ refresh_fault) × Refreshes what holds.Failed before after
Runs noop what step before after = ⊥

-- what is done once it is known whether the file is there
abbrev pub RunsBy : Bool → Reference → Setting → Holds → Step → Told → Told → Type 0
RunsBy noop what s holds.Yes result before after = (result ≡ step.Kept) × (after ≡ before)
RunsBy noop what s holds.No result before after = Runs noop what result before after
RunsBy noop what s holds.Failed result before after = (result ≡ step.Failed (holds_fault s.0)) × (after ≡ before)

-- It is run unless the file holds the property.
abbrev pub RunsUnless : Bool → Reference → Reference → Setting → Step → Told → Told → Type 0
RunsUnless noop what file s result before after =
    (answer : Holds) × (asked : Told) × Asks file s.0 s.1 answer before asked
    × RunsBy noop what s answer result asked after
