-- Waves, lines and parts, at worked examples: `notify { 'b': }` and then `notify { 'a': before => Notify['b'] }`.
use Rattle.std.proofs.Common.{◌≡◌, ℕ, zero, suc, false, List, [], ◌∷◌, None, refl, codes}
use Rattle.agent_machine.specs.Machines.{Told}
use Rattle.agent_machine.specs.declared.status.Status.TheVariants as status
use Rattle.agent_transaction.specs.Runs.{Turned}
use Rattle.agent_transaction.specs.declared.task.Task.{Task}
use Rattle.agent_transaction.specs.declared.work.Work.TheVariants as work
use Rattle.wide_apply.specs.Waves.{waves_from}
use Rattle.wide_apply.specs.WideRuns.{rising_lines}

abbrev task_of : List ℕ → Task
task_of title = record {
  what = record { kind = codes "notify"; title = title };
  noop = false;
  refreshes = false;
  work = work.Run;
}

-- b stands at index 0 and comes after a
abbrev wave : ℕ → ℕ
wave zero = 1
wave (suc n) = 0

-- a stands in the first wave, and b in the second
two_waves : waves_from wave ((1, task_of (codes "a")) ∷ (0, task_of (codes "b")) ∷ []) 0 2 ≡
    ((1, task_of (codes "a")) ∷ []) ∷ ((0, task_of (codes "b")) ∷ []) ∷ []
two_waves = refl

abbrev untold : Told
untold = record { content = None; faults = 0 }

abbrev changed : ℕ → List ℕ → Turned
changed at title = record {
  at = at;
  task = task_of title;
  before = untold;
  line = record {
    item = record { kind = codes "notify"; title = title };
    status = status.Changed;
    changes = codes "run" ∷ [];
    refreshed = false;
    fault = None;
  };
  after = untold;
}

-- a had its turn first, and the line of b stands first
b_stands_first : rising_lines 0 2 (changed 1 (codes "a") ∷ changed 0 (codes "b") ∷ []) ≡
    (changed 0 (codes "b")).line ∷ (changed 1 (codes "a")).line ∷ []
b_stands_first = refl
