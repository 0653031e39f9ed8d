-- On a machine that tells its content each turn of the function is a turn.
use Rattle.std.proofs.Common.{◌≡◌, ℕ, ◌+◌, Bool, true, false, ◌&&◌, if◌then◌else◌, List, [], ◌∷◌, Some, refl, sym, ap, arith}
use Rattle.pp_values.specs.Datum.{Datum}
use Rattle.pp_values.specs.Settings.{Setting}
use Rattle.pp_values.specs.declared.reference.Reference.{Reference}
use Rattle.agent_machine.specs.Contents.{Content, next_count, asked, fails, holds_by, holds_answer, refresh_text, write_fails, with_state}
use Rattle.agent_machine.specs.Machines.{Told, Counts, Asks, Refreshes}
use Rattle.agent_machine.specs.States.{written}
use Rattle.agent_machine.specs.declared.holds.Holds.{Holds}
use Rattle.agent_machine.specs.declared.holds.Holds.TheVariants as holds
use Rattle.agent_machine.specs.declared.wrote.Wrote.TheVariants as wrote
use Rattle.agent_transaction.proofs.StepLemmas.{Stepped, steps}
use Rattle.agent_transaction.specs.Laws.{SomeToldTurn}
use Rattle.agent_transaction.specs.Steps.{Corrects, SetsBy, SetsRight, Runs, RunsBy, RunsUnless}
use Rattle.agent_transaction.specs.ToldTurns.{wrote_step, corrected, set_by, set_right, ran_step, run, run_by, run_unless, Worked, go_on, whole, set_all, worked, refreshed_result, refreshed, finished, turn}
use Rattle.agent_transaction.specs.Turns.{Goes, SetsAll, Single, Works, Refreshed, Finishes, IsTurn}
use Rattle.agent_transaction.specs.declared.ended.Ended.{Ended}
use Rattle.agent_transaction.specs.declared.ended.Ended.TheVariants as ended
use Rattle.agent_transaction.specs.declared.step.Step.{Step}
use Rattle.agent_transaction.specs.declared.step.Step.TheVariants as step
use Rattle.agent_transaction.specs.declared.task.Task.{Task}
use Rattle.agent_transaction.specs.declared.work.Work.{Work}
use Rattle.agent_transaction.specs.declared.work.Work.TheVariants as work

-- a machine with this content, which has counted so many faults
abbrev pub told : Content → ℕ → Told
told c f = record { content = Some c; faults = f }

-- enough for any call
abbrev later : ℕ → ℕ
later f = f + next_count f

counts : (b : Bool) (f : ℕ) → Counts b f (later f)
counts true f = omega arith
counts false f = omega arith

asks_made : (what : Reference) (name : List ℕ) (v : Datum) (c : Content) (f : ℕ) →
    Asks what name v (holds_answer what name v c) (told c f) (told (asked c) (later f))
asks_made what name v c f = record { answers = refl; content = refl; faults = counts _ f }

refreshes_made : (what : Reference) (c : Content) (f : ℕ) (b : Bool) → fails (refresh_text what) c ≡ b →
    Refreshes what (holds_by b true) (told c f) (told (asked c) (later f))
refreshes_made what c f true is =
    record {
      done = λ e. absurd (cc e);
      answers = sym (ap
          (λ b. holds_by b true) is);
      content = refl;
      faults = counts true f;
    }
refreshes_made what c f false is =
    record {
      done = λ e. absurd (cc e);
      answers = sym (ap
          (λ b. holds_by b true) is);
      content = refl;
      faults = counts false f;
    }

-- ---- steps

abbrev Corrected : Bool → Reference → Setting → Content → ℕ → Step × Content → Type 0
Corrected noop what s c f p = (g : ℕ) × Corrects noop what s p.0 (told c f) (told p.1 g)

corrects_made : (noop : Bool) (what : Reference) (s : Setting) (c : Content) (f : ℕ) →
    Corrected noop what s c f (corrected noop what s c)
corrects_made true what s c f = (f, (refl, refl))
corrects_made false what s c f =
    elim (write_fails what s.0 c) as (λ b. write_fails what s.0 c ≡ b → Corrected false what s c f (
      wrote_step s (if b then wrote.Failed else wrote.Done),
      if b then asked c else asked (with_state (written what s.0 s.1 c.document.state) c),
    )) [
      | true ↦ λ is. (
        later f,
        (
          refl,
          (
            ap (λ b. if b then wrote.Failed else wrote.Done) is,
            sym (ap (λ b. Some (if b then asked c else asked
                (with_state (written what s.0 s.1 c.document.state) c))) is),
            omega arith,
          ),
        ),
      )
      | false ↦ λ is. (
        later f,
        (
          refl,
          (
            ap (λ b. if b then wrote.Failed else wrote.Done) is,
            sym (ap (λ b. Some (if b then asked c else asked
                (with_state (written what s.0 s.1 c.document.state) c))) is),
            omega arith,
          ),
        ),
      )
    ] refl

sets_by_made : (noop : Bool) (what : Reference) (s : Setting) (a : Holds) (c : Content) (f : ℕ) →
    (g : ℕ) × SetsBy noop what s a (set_by noop what s a c).0 (told c f) (told (set_by noop what s a c).1 g)
sets_by_made noop what s holds.Yes c f = (f, (refl, refl))
sets_by_made noop what s holds.No c f = corrects_made noop what s c f
sets_by_made noop what s holds.Failed c f = (f, (refl, refl))

sets_made : (noop : Bool) (what : Reference) (s : Setting) (c : Content) (f : ℕ) →
    (g : ℕ) × SetsRight noop what s (set_right noop what s c).0 (told c f) (told (set_right noop what s c).1 g)
sets_made noop what s c f =
    let by = sets_by_made noop what s (holds_answer what s.0 s.1 c) (asked c) (later f) in
    (by.0, (holds_answer what s.0 s.1 c, told (asked c) (later f), asks_made what s.0 s.1 c f, by.1))

runs_made : (noop : Bool) (what : Reference) (c : Content) (f : ℕ) →
    (g : ℕ) × Runs noop what (run noop what c).0 (told c f) (told (run noop what c).1 g)
runs_made true what c f = (f, (refl, refl))
runs_made false what c f =
    elim (fails (refresh_text what) c) as (λ b. fails (refresh_text what) c ≡ b →
    (g : ℕ) × Runs false what (ran_step (holds_by b true)) (told c f) (told (asked c) g)) [
      | true ↦ λ is. (later f, (refl, refreshes_made what c f true is))
      | false ↦ λ is. (later f, (refl, refreshes_made what c f false is))
    ] refl

runs_by_made : (noop : Bool) (what : Reference) (s : Setting) (a : Holds) (c : Content) (f : ℕ) →
    (g : ℕ) × RunsBy noop what s a (run_by noop what s a c).0 (told c f) (told (run_by noop what s a c).1 g)
runs_by_made noop what s holds.Yes c f = (f, (refl, refl))
runs_by_made noop what s holds.No c f = runs_made noop what c f
runs_by_made noop what s holds.Failed c f = (f, (refl, refl))

runs_unless_made : (noop : Bool) (what file : Reference) (s : Setting) (c : Content) (f : ℕ) →
    (g : ℕ) × RunsUnless noop what file s (run_unless noop what file s c).0 (told c f)
    (told (run_unless noop what file s c).1 g)
runs_unless_made noop what file s c f =
    let by = runs_by_made noop what s (holds_answer file s.0 s.1 c) (asked c) (later f) in
    (by.0, (holds_answer file s.0 s.1 c, told (asked c) (later f), asks_made file s.0 s.1 c f, by.1))

-- ---- all calls of a turn

module _ (noop : Bool) (what : Reference) (ss : List Setting)
    (rest : (d : Content) (f : ℕ) → (g : ℕ) × SetsAll noop what ss (set_all noop what ss d).0
    (set_all noop what ss d).1.0 (told d f)
    (told (set_all noop what ss d).1.1 g)) where
  goes_made : (p : Step × Content) (f : ℕ) → (g : ℕ) × Goes p.0
      (λ more last m. SetsAll noop what ss more last (told p.1 f) m)
      (go_on p (λ d. set_all noop what ss d)).0 (go_on p (λ d. set_all noop what ss d)).1.0 (told p.1 f)
      (told (go_on p (λ d. set_all noop what ss d)).1.1 g)
  goes_made (step.Kept, d) f = rest d f
  goes_made (step.Changed name, d) f = let more = rest d f in (more.0, ((set_all noop what ss d).0, refl, more.1))
  goes_made (step.Failed fault, d) f = (f, (refl, refl, refl))
  goes_made (step.Memory, d) f = (f, (refl, refl, refl))

all_made : (noop : Bool) (what : Reference) (ss : List Setting) (c : Content) (f : ℕ) →
    (g : ℕ) × SetsAll noop what ss (set_all noop what ss c).0 (set_all noop what ss c).1.0 (told c f)
    (told (set_all noop what ss c).1.1 g)
all_made noop what [] c f = (f, (refl, refl, refl))
all_made noop what (s ∷ ss) c f =
    let one = sets_made noop what s c f in
    let more = goes_made noop what ss (all_made noop what ss) (set_right noop what s c) one.0 in
    (more.0, ((set_right noop what s c).0, told (set_right noop what s c).1 one.0, one.1, more.1))

single_made : (R : Step → Told → Told → Type 0) (c : Content) (f : ℕ) (p : Step × Content) →
    (g : ℕ) × R p.0 (told c f) (told p.1 g) →
    (g : ℕ) × Single R (go_on p whole).0 (go_on p whole).1.0 (told c f) (told (go_on p whole).1.1 g)
single_made R c f (step.Kept, d) h = (h.0, (step.Kept, h.1, (refl, refl)))
single_made R c f (step.Changed name, d) h = (h.0, (step.Changed name, h.1, (refl, refl)))
single_made R c f (step.Failed fault, d) h = (h.0, (step.Failed fault, h.1, (refl, refl)))
single_made R c f (step.Memory, d) h = (h.0, (step.Memory, h.1, (refl, refl)))

works_made : (noop : Bool) (what : Reference) (w : Work) (c : Content) (f : ℕ) →
    (g : ℕ) × Works noop what w (worked noop what w c).0 (worked noop what w c).1.0 (told c f)
    (told (worked noop what w c).1.1 g)
works_made noop what (work.Set ss) c f = all_made noop what ss c f
works_made noop what work.Run c f = single_made (Runs noop what) c f (run noop what c) (runs_made noop what c f)
works_made noop what (work.RunUnless file s) c f =
    single_made (RunsUnless noop what file s) c f (run_unless noop what file s c)
    (runs_unless_made noop what file s c f)
works_made noop what work.Idle c f = (f, (refl, refl, refl))

refreshed_made : (due : Bool) (what : Reference) (c : Content) (f : ℕ) →
    (g : ℕ) × Refreshed due what (refreshed due what c).0 (told c f) (told (refreshed due what c).1 g)
refreshed_made true what c f =
    elim (fails (refresh_text what) c) as (λ b. fails (refresh_text what) c ≡ b →
    (g : ℕ) × Refreshed true what (refreshed_result (holds_by b true)) (told c f) (told (asked c) g)) [
      | true ↦ λ is. (later f, (refl, refreshes_made what c f true is))
      | false ↦ λ is. (later f, (refl, refreshes_made what c f false is))
    ] refl
refreshed_made false what c f = (f, (refl, refl))

finishes_made : (due : Bool) (what : Reference) (end : Ended) (c : Content) (f : ℕ) → (end ≡ ended.Memory → ⊥) →
    (g : ℕ) × Finishes due what end (finished due what end c).0 (told c f) (told (finished due what end c).1 g)
finishes_made due what ended.Whole c f free = refreshed_made due what c f
finishes_made due what (ended.Failed fault) c f free = (f, (refl, refl))
finishes_made due what ended.Memory c f free = absurd (free refl)

-- ---- a machine that tells its content has memory

set_next : (noop : Bool) (what : Reference) (s : Setting) (c : Content) (rest : Content → Worked) →
    ((d : Content) → (rest d).1.0 ≡ ended.Memory → ⊥) → (p : Step × Content) → Stepped noop what s c p →
    (go_on p rest).1.0 ≡ ended.Memory → ⊥
set_next noop what s c rest free (step.Kept, d) h e = free d e
set_next noop what s c rest free (step.Changed name, d) h e = free d e
set_next noop what s c rest free (step.Failed fault, d) h e = absurd (cc e)
set_next noop what s c rest free (step.Memory, d) h e = absurd h

set_never : (noop : Bool) (what : Reference) (ss : List Setting) (c : Content) →
    (set_all noop what ss c).1.0 ≡ ended.Memory → ⊥
set_never noop what [] c e = absurd (cc e)
set_never noop what (s ∷ ss) c e =
    set_next noop what s c (λ d. set_all noop what ss d) (set_never noop what ss) (set_right noop what s c)
    (steps noop what s c) e

run_never : (noop : Bool) (what : Reference) (c : Content) → (go_on (run noop what c) whole).1.0 ≡ ended.Memory → ⊥
run_never true what c e = absurd (cc e)
run_never false what c e =
    elim (fails (refresh_text what) c) as (λ b. (go_on (ran_step (holds_by b true), asked c) whole).1.0
    ≡ ended.Memory → ⊥) [
      | true ↦ λ k. absurd (cc k)
      | false ↦ λ k. absurd (cc k)
    ] e

run_by_never : (noop : Bool) (what : Reference) (s : Setting) (a : Holds) (c : Content) →
    (go_on (run_by noop what s a c) whole).1.0 ≡ ended.Memory → ⊥
run_by_never noop what s holds.Yes c e = absurd (cc e)
run_by_never noop what s holds.No c e = run_never noop what c e
run_by_never noop what s holds.Failed c e = absurd (cc e)

never_memory : (noop : Bool) (what : Reference) (w : Work) (c : Content) → (worked noop what w c).1.0 ≡ ended.Memory → ⊥
never_memory noop what (work.Set ss) c e = set_never noop what ss c e
never_memory noop what work.Run c e = run_never noop what c e
never_memory noop what (work.RunUnless file s) c e = run_by_never noop what s (holds_answer file s.0 s.1 c) (asked c) e
never_memory noop what work.Idle c e = absurd (cc e)

pub turn_made : (task : Task) (signalled : Bool) (c : Content) (f : ℕ) →
    (g : ℕ) × IsTurn task signalled (turn task signalled c).0 (told c f) (told (turn task signalled c).1 g)
turn_made task signalled c f =
    let w = worked task.noop task.what task.work c in
    let did = works_made task.noop task.what task.work c f in
    let end = finishes_made (signalled && task.refreshes) task.what w.1.0 w.1.1 did.0
    (never_memory task.noop task.what task.work c) in (
      end.0,
      record {
        middle = told w.1.1 did.0;
        changes = w.0;
        end = w.1.0;
        result = (finished (signalled && task.refreshes) task.what w.1.0 w.1.1).0;
        works = did.1;
        finishes = end.1;
        told = refl;
      },
    )

pub some_told_turn : SomeToldTurn
some_told_turn task signalled c f =
    let made = turn_made task signalled c f in (told (turn task signalled c).1 made.0, made.1, refl)
