-- What contracts see of a machine, and what its calls do.
use Rattle.std.specs.Prelude.{◌≡◌, ◌≢◌, ℕ, ◌≤◌, Bool, true, false, if◌then◌else◌, List, Option, Some, option_map}
use Rattle.std.specs.Prelude.{MatchOption}
use Rattle.pp_values.specs.Datum.{Datum}
use Rattle.pp_values.specs.declared.reference.Reference.{Reference}
use Rattle.agent_machine.specs.declared.holds.Holds.{Holds}
use Rattle.agent_machine.specs.declared.holds.Holds.TheVariants as holds
use Rattle.agent_machine.specs.declared.wrote.Wrote.{Wrote}
use Rattle.agent_machine.specs.declared.wrote.Wrote.TheVariants as wrote
use Rattle.agent_machine.specs.declared.machine_doc.MachineDoc.{MachineDoc}
use Rattle.agent_machine.specs.Contents.{Content, next_count, fails, asked, holds_answer, refresh_answer, write_answer}
use Rattle.agent_machine.specs.Contents.{after_write, with_state, puts, loaded}
use Rattle.agent_machine.specs.States.{has, written}

-- A machine tells its content, or leaves it open; and it counts faults.
pub record Told : Type 0 where
  pub content : Option Content
  pub faults : ℕ

-- what holds of the content, where the machine tells it
abbrev pub IfTold : Told → (Content → Type 0) → Type 0
IfTold m P = MatchOption m.content (Unit {0}) P

-- a fault is counted, unless the count stands at its last value; without one the count doesn't fall
abbrev pub Counts : Bool → ℕ → ℕ → Type 0
Counts true before after = next_count before ≤ after
Counts false before after = before ≤ after

abbrev pub has_failed : Holds → Bool
has_failed holds.Yes = false
has_failed holds.No = false
has_failed holds.Failed = true

-- `holds` asks whether a property has a value
pub record Asks (what : Reference) (name : List ℕ) (value : Datum) (answer : Holds) (before after : Told) : Type 0 where
  pub answers : IfTold before (λ c. answer ≡ holds_answer what name value c)
  pub content : after.content ≡ option_map asked before.content
  pub faults : Counts (has_failed answer) before.faults after.faults

-- a refresh is done or fails
pub record Refreshes (what : Reference) (answer : Holds) (before after : Told) : Type 0 where
  pub done : answer ≢ holds.No
  pub answers : IfTold before (λ c. answer ≡ refresh_answer what c)
  pub content : after.content ≡ option_map asked before.content
  pub faults : Counts (has_failed answer) before.faults after.faults

-- a write was called, or there was no memory for what it puts into the state
abbrev pub Writes : Reference → List ℕ → Datum → Wrote → Told → Told → Type 0
Writes what name value wrote.Done before after =
    IfTold before (λ c. write_answer what name c ≡ wrote.Done)
    × (after.content ≡ option_map (after_write what name value) before.content) × (before.faults ≤ after.faults)
Writes what name value wrote.Failed before after =
    IfTold before (λ c. write_answer what name c ≡ wrote.Failed)
    × (after.content ≡ option_map (after_write what name value) before.content)
    × (next_count before.faults ≤ after.faults)
Writes what name value wrote.Memory before after =
    IfTold before (λ c. puts what name value c ≡ true)
    × (after.content ≡ before.content) × (before.faults ≤ after.faults)

-- another document takes the place of the one that is told
pub record Loads (document : MachineDoc) (before after : Told) : Type 0 where
  pub content : after.content ≡ option_map (loaded document) before.content
  pub faults : after.faults ≡ before.faults

-- a machine in memory before its first call
abbrev pub new_machine : MachineDoc → List ℕ → Told
new_machine document failing =
    record { content = Some (record { document = document; calls = 0; failing = failing }); faults = 0 }

-- whether the next call of a machine that tells its content fails
abbrev pub FailsNext : List ℕ → Bool → Told → Type 0
FailsNext call failed m = IfTold m (λ c. failed ≡ fails call c)

-- one call more, which failed or not
abbrev pub counted : Bool → Told → Told
counted failed m =
    record { content = option_map asked m.content; faults = (if failed then next_count m.faults else m.faults) }

-- whether a resource has a property at a value
abbrev pub Has : Reference → List ℕ → Datum → Bool → Told → Type 0
Has what name value answer m = IfTold m (λ c. answer ≡ has what name value c.document.state)

-- a write without a call
abbrev pub recording : Reference → List ℕ → Datum → Told → Told
recording what name value m = record {
  content = option_map (λ c. with_state (written what name value c.document.state) c) m.content;
  faults = m.faults;
}
