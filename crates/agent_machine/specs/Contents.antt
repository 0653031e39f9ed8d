-- The content of a machine that tells it, and what its calls do.
use Rattle.std.specs.Prelude.{ℕ, ◌+◌, ◌-◌, ◌^◌, min, nat_eq, Bool, true, false, ◌||◌, ◌&&◌, not, if◌then◌else◌, List}
use Rattle.std.specs.Prelude.{◌++◌, codes}
use Rattle.std.specs.List.{list_any}
use Rattle.pp_values.specs.Datum.{Datum}
use Rattle.pp_values.specs.Rising.{has_text}
use Rattle.pp_values.specs.Words.{reference_text}
use Rattle.pp_values.specs.declared.reference.Reference.{Reference}
use Rattle.agent_machine.specs.declared.holds.Holds.{Holds}
use Rattle.agent_machine.specs.declared.holds.Holds.TheVariants as holds
use Rattle.agent_machine.specs.declared.wrote.Wrote.{Wrote}
use Rattle.agent_machine.specs.declared.wrote.Wrote.TheVariants as wrote
use Rattle.agent_machine.specs.declared.machine_doc.MachineDoc.{MachineDoc}
use Rattle.agent_machine.specs.States.{State, has, written, removes}

pub record Content : Type 0 where
  -- what is recorded, and the texts of the calls that fail
  pub document : MachineDoc
  -- how many calls of `holds`, `write` and `refresh` it has met
  pub calls : ℕ
  -- the numbers of the calls that are to fail, counted from 1
  pub failing : List ℕ

-- one more, but a u64 stands still at its last value
abbrev pub next_count : ℕ → ℕ
next_count n = min (n + 1) (2 ^ 64 - 1)

-- the texts of calls: `holds File[/a] mode`, `write File[/a] mode`, `refresh Service[s]`
abbrev pub holds_text : Reference → List ℕ → List ℕ
holds_text what name = codes "holds " ++ reference_text what ++ codes " " ++ name

abbrev pub write_text : Reference → List ℕ → List ℕ
write_text what name = codes "write " ++ reference_text what ++ codes " " ++ name

abbrev pub refresh_text : Reference → List ℕ
refresh_text what = codes "refresh " ++ reference_text what

-- whether the next call fails, by its number or by its text
abbrev pub fails : List ℕ → Content → Bool
fails call c = list_any (λ n. nat_eq n (next_count c.calls)) c.failing || has_text c.document.failing call

-- the content after one more call, which leaves the state as it is
abbrev pub asked : Content → Content
asked c = record { document = c.document; calls = next_count c.calls; failing = c.failing }

abbrev pub holds_by : Bool → Bool → Holds
holds_by true has = holds.Failed
holds_by false true = holds.Yes
holds_by false false = holds.No

abbrev pub holds_answer : Reference → List ℕ → Datum → Content → Holds
holds_answer what name value c = holds_by (fails (holds_text what name) c) (has what name value c.document.state)

abbrev pub refresh_answer : Reference → Content → Holds
refresh_answer what c = holds_by (fails (refresh_text what) c) true

abbrev pub write_fails : Reference → List ℕ → Content → Bool
write_fails what name c = fails (write_text what name) c

abbrev pub write_answer : Reference → List ℕ → Content → Wrote
write_answer what name c = if write_fails what name c then wrote.Failed else wrote.Done

-- another state, without a call
abbrev pub with_state : State → Content → Content
with_state state c =
    record { document = record { failing = c.document.failing; state = state }; calls = c.calls; failing = c.failing }

-- the content after a write
abbrev pub after_write : Reference → List ℕ → Datum → Content → Content
after_write what name value c =
    if write_fails what name c then asked c else asked (with_state (written what name value c.document.state) c)

-- whether a write puts something into the state, for which memory may be wanting
abbrev pub puts : Reference → List ℕ → Datum → Content → Bool
puts what name value c = not (write_fails what name c) && not (removes name value)

-- the content with another document
abbrev pub loaded : MachineDoc → Content → Content
loaded document c = record { document = document; calls = c.calls; failing = c.failing }
