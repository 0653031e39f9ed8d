-- Room that a turn has for what it changes, and texts that are there before it.
use Rattle.std.specs.Prelude.{◌≡◌, ℕ, ◌≤◌, List, [], length}
use Rattle.agent_transaction.specs.Faults.{run_change, refresh_fault}
use Rattle.agent_transaction.specs.declared.work.Work.{Work}
use Rattle.agent_transaction.specs.declared.work.Work.TheVariants as work

-- how many changes there are at most
abbrev pub most : Work → ℕ
most (work.Set ss) = length ss
most work.Run = 1
most (work.RunUnless file s) = 1
most work.Idle = 1

-- what is kept for a turn
pub record IsReady (work : Work) (changes : List (List ℕ)) (room : ℕ) (change run_fault fault : List ℕ) : Type 0 where
  pub empty : changes ≡ []
  pub space : most work ≤ room
  pub runs : change ≡ run_change
  pub run_fails : run_fault ≡ refresh_fault
  pub fails : fault ≡ refresh_fault
