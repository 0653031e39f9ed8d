-- A turn of a wave as it is begun, taken and given back. `state` is what contracts see of a part.
use Rattle.std.specs.Prelude.{◌≡◌, ◌↔◌, ℕ, true, List, [], ◌∷◌, ◌++◌, Option, None, Some, Result, MatchResult}
use Rattle.std.specs.List.{AllZip}
use Rattle.pp_values.specs.declared.memory.Memory.{Memory}
use Rattle.pp_values.specs.declared.reference.Reference.{Reference}
use Rattle.agent_machine.specs.Machines.{Told}
use Rattle.agent_machine.specs.Parts.{part_of, TakesBack}
use Rattle.agent_machine.specs.declared.report_line.ReportLine.{ReportLine}
use Rattle.agent_marks.specs.Spreads.{Marking, IsMarked}
use Rattle.agent_transaction.specs.Runs.{Turned}
use Rattle.agent_transaction.specs.Tasks.{creates_of}
use Rattle.agent_transaction.specs.Turns.{IsTurn, skipped_line}
use Rattle.agent_transaction.specs.declared.planned.Planned.{Planned}
use Rattle.agent_transaction.specs.declared.task.Task.{Task}
use Rattle.wide_apply.specs.declared.apart_turn.ApartTurn.{ApartTurn}
use Rattle.wide_apply.specs.declared.taken_turn.TakenTurn.{TakenTurn}
use Rattle.wide_apply.specs.declared.back.Back.{Back}

-- the part that the turn of this task has
abbrev pub own_part : Task → Told → Told
own_part task found = part_of task.what (creates_of task.work) found

module _ {P : Type 0} (state : P → Told) where
  -- a resource that is blocked has no part
  abbrev pub HasPart : Marking → ℕ → Task → Told → Option P → Type 0
  HasPart blocked at task found None = IsMarked blocked at
  HasPart blocked at task found (Some part) = ¬ (IsMarked blocked at) × (state part ≡ own_part task found)

  -- the turn of a resource is begun, from the machine as its wave found it
  pub record Begins (blocked signalled : Marking) (found : Told) (planned : Planned) (turn : ApartTurn P) : Type 0 where
    pub at : turn.at ≡ planned.at
    pub task : turn.ready ≡ planned.ready
    pub due : (turn.is_signalled ≡ true) ↔ IsMarked signalled planned.at
    pub part : HasPart blocked planned.at planned.ready found turn.part

  abbrev pub TakesPart : ApartTurn P → ReportLine → Option P → Option P → Type 0
  TakesPart turn line None after = (line ≡ skipped_line turn.ready.what) × (after ≡ None)
  TakesPart turn line (Some part) after =
      (left : P) × (after ≡ Some left) × IsTurn turn.ready turn.is_signalled line (state part) (state left)

  -- a turn was taken on its part
  pub record Takes (turn : ApartTurn P) (taken : TakenTurn P) : Type 0 where
    pub at : taken.at ≡ turn.at
    pub what : taken.what ≡ turn.ready.what
    pub part : TakesPart turn taken.line turn.part taken.part

  abbrev pub TakesAll : List (ApartTurn P) → List (TakenTurn P) → Type 0
  TakesAll turns taken = AllZip Takes turns taken

  -- what is left of the machine by a part, where there is one
  abbrev pub TakesBackIf : Reference → Option P → Told → Told → Type 0
  TakesBackIf what None before after = after ≡ before
  TakesBackIf what (Some part) before after = TakesBack what (state part) before after

  abbrev pub TakesAllBack : List (Back P) → Told → Told → Type 0
  TakesAllBack [] before after = after ≡ before
  TakesAllBack (b ∷ bs) before after = (next : Told) × TakesBackIf b.what b.part before next ×
      TakesAllBack bs next after

  -- where memory was wanting the first of them have come back
  abbrev pub BackGives : List (Back P) → Result Unit Memory → Told → Told → Type 0
  BackGives backs result before after =
      MatchResult result (λ _. TakesAllBack backs before after)
      (λ _. (some : List (Back P)) × (left : List (Back P)) × (some ++ left ≡ backs) × TakesAllBack some before after)

  abbrev pub left_by : Told → Option P → Told
  left_by before None = before
  left_by before (Some part) = state part

  -- what a report says of such a turn, and what it left
  abbrev pub turned_by : Told → Planned → ReportLine → Option P → Turned
  turned_by found planned line part = record {
    at = planned.at;
    task = planned.ready;
    before = own_part planned.ready found;
    line = line;
    after = left_by (own_part planned.ready found) part;
  }

abbrev pub back_of : {P : Type 0} → TakenTurn P → Back P
back_of taken = record { what = taken.what; part = taken.part }
