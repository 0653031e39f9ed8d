-- A run by waves: the turns of a wave are taken on parts of the machine as the wave found it.
use Rattle.std.specs.Prelude.{◌≡◌, ℕ, zero, suc, nat_eq, Bool, true, false, if◌then◌else◌, List, [], ◌∷◌, ◌++◌, map}
use Rattle.std.specs.List.{All}
use Rattle.agent_machine.specs.Machines.{Told}
use Rattle.agent_machine.specs.Parts.{part_of, TakesBack}
use Rattle.agent_machine.specs.declared.report_line.ReportLine.{ReportLine}
use Rattle.agent_machine.specs.declared.status.Status.{Status}
use Rattle.agent_machine.specs.declared.status.Status.TheVariants as status
use Rattle.pp_values.specs.declared.reference.Reference.{Reference}
use Rattle.agent_transaction.specs.Runs.{Turned, IsTurned}
use Rattle.agent_transaction.specs.Tasks.{creates_of}
use Rattle.agent_transaction.specs.declared.task.Task.{Task}
use Rattle.wide_apply.specs.Waves.{AreWaves}

abbrev pub is_skipped : Status → Bool
is_skipped status.Skipped = true
is_skipped other = false

-- whose turn it was
abbrev pub turn_of : Turned → ℕ × Task
turn_of t = (t.at, t.task)

-- what is left of the machine by one part: where the resource was skipped, all stays
abbrev pub BackIf : Bool → Reference → Told → Told → Told → Type 0
BackIf true what part before after = after ≡ before
BackIf false what part before after = TakesBack what part before after

abbrev pub GivesBack : Turned → Told → Told → Type 0
GivesBack t before after = BackIf (is_skipped t.line.status) t.task.what t.after before after

-- the parts of these come back, one after another
abbrev pub GiveBack : List Turned → Told → Told → Type 0
GiveBack [] before after = after ≡ before
GiveBack (t ∷ ts) before after = (next : Told) × GivesBack t before next × GiveBack ts next after

-- all that had their turns in these waves
abbrev pub together : List (List Turned) → List Turned
together [] = []
together (w ∷ ws) = w ++ together ws

module _ (Comes Signals : ℕ → ℕ → Type 0) where
  -- A turn that is taken apart from others of its wave: it begins with the part of the machine as the wave found it,
  -- and what it knows of others is what those of the waves before came to.
  pub record IsTurnedApart (earlier : List Turned) (found : Told) (t : Turned) : Type 0 where
    pub part : t.before ≡ part_of t.task.what (creates_of t.task.work) found
    pub turned : IsTurned Comes Signals earlier t

  -- one wave after another, each from the machine as the one before left it
  abbrev pub TakeWaves : List Turned → List (List Turned) → Told → Told → Type 0
  TakeWaves earlier [] before after = after ≡ before
  TakeWaves earlier (w ∷ ws) before after =
      All (IsTurnedApart earlier before) w
      × ((middle : Told) × GiveBack w before middle × TakeWaves (earlier ++ w) ws middle after)

-- the lines of the resource with this index
abbrev pub lines_at : ℕ → List Turned → List ReportLine
lines_at at [] = []
lines_at at (t ∷ ts) = if nat_eq t.at at then t.line ∷ lines_at at ts else lines_at at ts

-- the lines of so many indexes from this one on, in rising order
abbrev pub rising_lines : ℕ → ℕ → List Turned → List ReportLine
rising_lines at zero turned = []
rising_lines at (suc count) turned = lines_at at turned ++ rising_lines (suc at) count turned

-- these are the first of the next wave
abbrev pub AreFirst : List (ℕ × Task) → List (List (ℕ × Task)) → Type 0
AreFirst begun [] = begun ≡ []
AreFirst begun (w ∷ ws) = (left : List (ℕ × Task)) × (begun ++ left ≡ w)

abbrev pub turns_of : List (List Turned) → List (List (ℕ × Task))
turns_of = map (map turn_of)

-- The lines of a report by rising indexes, of so many resources, from one state of the machine to another.
pub record IsWideRunOf (Comes Signals : ℕ → ℕ → Type 0) (count : ℕ) (tasks : List (ℕ × Task)) (lines : List ReportLine)
    (before after : Told) : Type 0 where
  pub waves : List (List Turned)
  pub whose : AreWaves Comes tasks (turns_of waves)
  pub each : TakeWaves Comes Signals [] waves before after
  pub rising : lines ≡ rising_lines 0 count (together waves)

-- A run for which memory was wanting: some waves were whole, and of the next one some turns were whole, of which the
-- parts came back. Of its other turns nothing is left.
pub record IsCutWideRun (Comes Signals : ℕ → ℕ → Type 0) (tasks : List (ℕ × Task)) (before after : Told) : Type 0 where
  pub done : List (List Turned)
  pub begun : List Turned
  pub left : List (List (ℕ × Task))
  pub middle : Told
  pub whose : AreWaves Comes tasks (turns_of done ++ left)
  pub each : TakeWaves Comes Signals [] done before middle
  pub first : AreFirst (map turn_of begun) left
  pub apart : All (IsTurnedApart Comes Signals (together done) middle) begun
  pub back : GiveBack begun middle after
