-- Properties of one resource that are set right: afterwards all hold, and where all held before nothing is done.
use Rattle.std.proofs.Common.{◌≡◌, ℕ, Bool, true, false, ◌&&◌, if◌then◌else◌, List, [], ◌∷◌, Result, Ok, bytes_eq, inl, inr, ◌⊎◌, refl, sym, subst, ap, ◌∙◌, true≢false}
use Rattle.pp_values.specs.Datum.{Datum}
use Rattle.pp_values.specs.Settings.{Setting}
use Rattle.pp_values.specs.Words.{reference_text}
use Rattle.pp_values.specs.declared.reference.Reference.{Reference}
use Rattle.agent_machine.specs.Contents.{Content, asked, fails, holds_text, holds_by, refresh_text, write_fails, with_state}
use Rattle.agent_machine.specs.States.{State, is_ensure, has, removes, written}
use Rattle.agent_machine.specs.declared.wrote.Wrote.TheVariants as wrote
use Rattle.agent_transaction.proofs.HoldLemmas.{written_rises, has_other, has_written, has_still}
use Rattle.agent_transaction.proofs.RecordLemmas.{Differ, Rises}
use Rattle.agent_transaction.specs.Runs.{has_failed}
use Rattle.agent_transaction.specs.SecondRuns.{is_settled, unchanged_line}
use Rattle.agent_transaction.specs.ToldTurns.{wrote_step, corrected, set_by, set_right, Worked, go_on, set_all, worked, refreshed_result, finished, with_line, finish_worked, turn}
use Rattle.agent_transaction.specs.Turns.{calm_status, line_of}
use Rattle.agent_transaction.specs.declared.ended.Ended.{Ended}
use Rattle.agent_transaction.specs.declared.ended.Ended.TheVariants as ended
use Rattle.agent_transaction.specs.declared.step.Step.{Step}
use Rattle.agent_transaction.specs.declared.step.Step.TheVariants as step
use Rattle.agent_transaction.specs.declared.task.Task.{Task}
use Rattle.agent_transaction.specs.declared.work.Work.{Work}
use Rattle.agent_transaction.specs.declared.work.Work.TheVariants as work

-- ---- one property

-- what a step tells of the property, and of what it left
abbrev pub Stepped : Bool → Reference → Setting → Content → Step × Content → Type 0
Stepped noop what s c (step.Kept, d) = (has what s.0 s.1 c.document.state ≡ true) × (d.document ≡ c.document)
Stepped noop what s c (step.Changed name, d) =
    (has what s.0 s.1 c.document.state ≡ false)
    × ((noop ≡ true) ⊎ (d.document.state ≡ written what s.0 s.1 c.document.state))
Stepped noop what s c (step.Failed fault, d) = Unit {0}
Stepped noop what s c (step.Memory, d) = ⊥

corrects : (noop : Bool) (what : Reference) (s : Setting) (c : Content) → has what s.0 s.1 c.document.state ≡ false →
    Stepped noop what s c (corrected noop what s (asked c))
corrects true what s c is = (is, inl refl)
corrects false what s c is =
    elim (write_fails what s.0 (asked c)) as (λ b. Stepped false what s c (
      wrote_step s (if b then wrote.Failed else wrote.Done),
      if b then asked (asked c) else asked (with_state (written what s.0 s.1 c.document.state) (asked c)),
    )) [
      | true ↦ tt
      | false ↦ (is, inr refl)
    ]

pub steps : (noop : Bool) (what : Reference) (s : Setting) (c : Content) →
    Stepped noop what s c (set_right noop what s c)
steps noop what s c =
    elim (fails (holds_text what s.0) c) as
    (λ b. Stepped noop what s c (set_by noop what s (holds_by b (has what s.0 s.1 c.document.state)) (asked c))) [
      | true ↦ tt
      | false ↦ elim (has what s.0 s.1 c.document.state) as
          (λ b. has what s.0 s.1 c.document.state ≡ b → Stepped noop what s c
          (set_by noop what s (holds_by false b) (asked c))) [
            | true ↦ λ is. (is, refl)
            | false ↦ λ is. corrects noop what s c is
          ] refl
    ]

-- ---- all properties of a resource

abbrev pub AllHold : Reference → List Setting → State → Type 0
AllHold what [] state = Unit {0}
AllHold what (s ∷ ss) state = (has what s.0 s.1 state ≡ true) × AllHold what ss state

-- none of those after it is the same property or `ensure`, and there is none after a removal
abbrev pub Precedes : Setting → List Setting → Type 0
Precedes s [] = Unit {0}
Precedes s (t ∷ ts) =
    (removes s.0 s.1 ≡ false) × (is_ensure t.0 ≡ false) × (bytes_eq s.0 t.0 ≡ false) × Precedes s ts

abbrev pub InOrder : List Setting → Type 0
InOrder [] = Unit {0}
InOrder (s ∷ ss) = Precedes s ss × InOrder ss

-- no call failed
abbrev Calm : Ended → Type 0
Calm end = (fault : List ℕ) → end ≡ ended.Failed fault → ⊥

-- what is known once all are set right
pub record SetRight (what : Reference) (ss : List Setting) (c d : Content) : Type 0 where
  pub rises : Rises d.document.state
  pub hold : AllHold what ss d.document.state
  pub kept : AllHold what ss c.document.state → d.document ≡ c.document
  pub others : (other : Reference) (n : List ℕ) (v : Datum) → Differ (reference_text other) (reference_text what) →
      has other n v d.document.state ≡ has other n v c.document.state
  pub still : (t : Setting) → Precedes t ss → has what t.0 t.1 c.document.state ≡ true →
      has what t.0 t.1 d.document.state ≡ true

abbrev IsSet : Bool → Reference → List Setting → Content → Worked → Type 0
IsSet noop what ss c w = Rises c.document.state → Calm w.1.0 → (noop ≡ true → w.0 ≡ []) → SetRight what ss c w.1.1

state_same : (c d : Content) → d.document ≡ c.document → d.document.state ≡ c.document.state
state_same c d e i = (e i).state

no_more : (name : List ℕ) (names : List (List ℕ)) → name ∷ names ≡ [] → ⊥
no_more name names e = absurd (cc e)

module _ (noop : Bool) (what : Reference) (s : Setting) (ss : List Setting) (c : Content) (first : Precedes s ss)
    (rest : (d : Content) → IsSet noop what ss d (set_all noop what ss d)) where
  set_next : (p : Step × Content) → Stepped noop what s c p →
      IsSet noop what (s ∷ ss) c (go_on p (λ d. set_all noop what ss d))
  set_next (step.Kept, d) h rises calm quiet =
      let same = state_same c d h.1 in
      let next = rest d (subst Rises (sym same) rises) calm quiet in
      record {
        rises = next.rises;
        hold = (next.still s first (subst (λ x. has what s.0 s.1 x ≡ true) (sym same) h.0), next.hold);
        kept = λ all. next.kept (subst (AllHold what ss) (sym same) all.1) ∙ h.1;
        others = λ other n v apart. next.others other n v apart ∙ ap (has other n v) same;
        still = λ t before there. next.still t before.3 (subst (λ x. has what t.0 t.1 x ≡ true) (sym same) there);
      }
  set_next (step.Changed name, d) (lacks, inl is_noop) rises calm quiet = absurd (no_more _ _ (quiet is_noop))
  set_next (step.Changed name, d) (lacks, inr same) rises calm quiet =
      let next = rest d (subst Rises (sym same) (written_rises what s.0 s.1 c.document.state rises)) calm
      (λ e. absurd (no_more _ _ (quiet e))) in
      record {
        rises = next.rises;
        hold = (
          next.still s first
              (subst (λ x. has what s.0 s.1 x ≡ true) (sym same) (has_written what s.0 s.1 c.document.state rises)),
          next.hold,
        );
        kept = λ all. absurd (true≢false (sym all.0 ∙ lacks));
        others = λ other n v apart. next.others other n v apart ∙ ap (has other n v) same
            ∙ has_other other what n s.0 v s.1 c.document.state apart;
        still = λ t before there. next.still t before.3 (subst (λ x. has what t.0 t.1 x ≡ true) (sym same)
            (has_still what t.0 s.0 t.1 s.1 c.document.state before.0 before.1 before.2 there));
      }
  set_next (step.Failed fault, d) h rises calm quiet = absurd (calm fault refl)
  set_next (step.Memory, d) h rises calm quiet = absurd h

all_set : (noop : Bool) (what : Reference) (ss : List Setting) → InOrder ss → (c : Content) →
    IsSet noop what ss c (set_all noop what ss c)
all_set noop what [] order c = λ rises calm quiet. record {
  rises = rises;
  hold = tt;
  kept = λ all. refl;
  others = λ other n v apart. refl;
  still = λ t before there. there;
}
all_set noop what (s ∷ ss) order c =
    set_next noop what s ss c order.0 (all_set noop what ss order.1) (set_right noop what s c) (steps noop what s c)

-- ---- where all held before

-- nothing was changed
abbrev IsIdle : Content → Worked → Type 0
IsIdle c w = Calm w.1.0 → (w.0 ≡ []) × (w.1.0 ≡ ended.Whole) × (w.1.1.document ≡ c.document)

module _ (noop : Bool) (what : Reference) (s : Setting) (ss : List Setting) (c : Content)
    (all : AllHold what (s ∷ ss) c.document.state)
    (rest : (d : Content) → AllHold what ss d.document.state → IsIdle d (set_all noop what ss d)) where
  idle_next : (p : Step × Content) → Stepped noop what s c p → IsIdle c (go_on p (λ d. set_all noop what ss d))
  idle_next (step.Kept, d) h calm =
      let next = rest d (subst (AllHold what ss) (sym (state_same c d h.1)) all.1) calm in
      (next.0, next.1, next.2 ∙ h.1)
  idle_next (step.Changed name, d) h calm = absurd (true≢false (sym all.0 ∙ h.0))
  idle_next (step.Failed fault, d) h calm = absurd (calm fault refl)
  idle_next (step.Memory, d) h calm = absurd h

all_idle : (noop : Bool) (what : Reference) (ss : List Setting) (c : Content) → AllHold what ss c.document.state →
    IsIdle c (set_all noop what ss c)
all_idle noop what [] c all = λ calm. (refl, refl, refl)
all_idle noop what (s ∷ ss) c all =
    idle_next noop what s ss c all (all_idle noop what ss) (set_right noop what s c) (steps noop what s c)

-- ---- the end of a turn

quiet_by : (noop : Bool) (changes : List (List ℕ)) → is_settled (calm_status noop changes) ≡ true → noop ≡ true →
    changes ≡ []
quiet_by noop [] h e = refl
quiet_by true (x ∷ xs) h e = absurd (true≢false (sym h))
quiet_by false (x ∷ xs) h e = absurd (true≢false (sym e))

whole_calm : Calm ended.Whole
whole_calm fault e = absurd (cc e)

memory_calm : Calm ended.Memory
memory_calm fault e = absurd (cc e)

-- what a settled line tells of the turn's end
record Settled (task : Task) (changes : List (List ℕ)) (end : Ended) (d e : Content) : Type 0 where
  calm : Calm end
  quiet : task.noop ≡ true → changes ≡ []
  same : e.document ≡ d.document

module _ (task : Task) (changes : List (List ℕ)) (d : Content) where
  settled_end : (due : Bool) (end : Ended) →
      is_settled (with_line task changes (finished due task.what end d)).0.status ≡ true →
      Settled task changes end d (finished due task.what end d).1
  settled_end true ended.Whole h =
      elim (fails (refresh_text task.what) d) as
      (λ b. is_settled (line_of task.what task.noop changes (refreshed_result (holds_by b true))).status ≡ true →
      Settled task changes ended.Whole d (asked d)) [
        | true ↦ λ k. absurd (true≢false (sym k))
        | false ↦ λ k. record { calm = whole_calm; quiet = quiet_by task.noop changes k; same = refl }
      ] h
  settled_end false ended.Whole h = record { calm = whole_calm; quiet = quiet_by task.noop changes h; same = refl }
  settled_end due (ended.Failed fault) h = absurd (true≢false (sym h))
  settled_end due ended.Memory h = record { calm = memory_calm; quiet = quiet_by task.noop changes h; same = refl }

  calm_end : (due : Bool) (end : Ended) → has_failed (with_line task changes (finished due task.what end d)).0
      ≡ false → Calm end
  calm_end due ended.Whole h = whole_calm
  calm_end due (ended.Failed fault) h = absurd (true≢false h)
  calm_end due ended.Memory h = memory_calm

-- ---- turns

-- the properties that the work sets
abbrev pub Holding : Reference → Work → State → Type 0
Holding what (work.Set ss) state = AllHold what ss state
Holding what other state = ⊥

abbrev pub Fits : Work → Type 0
Fits (work.Set ss) = InOrder ss
Fits other = ⊥

-- what is known of a turn that settled its resource
pub record TurnSettles (task : Task) (c d : Content) : Type 0 where
  pub rises : Rises d.document.state
  pub hold : Holding task.what task.work d.document.state
  pub kept : Holding task.what task.work c.document.state → d.document ≡ c.document
  pub others : (other : Reference) (n : List ℕ) (v : Datum) → Differ (reference_text other) (reference_text task.what) →
      has other n v d.document.state ≡ has other n v c.document.state

module _ (task : Task) (c : Content) where
  settles_by : (due : Bool) (w : Work) → Fits w → Rises c.document.state →
      is_settled (finish_worked task due (worked task.noop task.what w c)).0.status ≡ true →
      (d : Content) → d ≡ (finish_worked task due (worked task.noop task.what w c)).1 →
      Rises d.document.state × Holding task.what w d.document.state
      × (Holding task.what w c.document.state → d.document ≡ c.document)
      × ((other : Reference) (n : List ℕ) (v : Datum) → Differ (reference_text other) (reference_text task.what) →
      has other n v d.document.state ≡ has other n v c.document.state)
  settles_by due (work.Set ss) fits rises h d is =
      let did = set_all task.noop task.what ss c in
      let end = settled_end task did.0 did.1.1 due did.1.0 h in
      let set = all_set task.noop task.what ss fits c rises end.calm end.quiet in
      let whole_same : d.document ≡ did.1.1.document = ap (λ (x : Content). x.document) is ∙ end.same in
      let same : d.document.state ≡ did.1.1.document.state = state_same did.1.1 d whole_same in (
        subst Rises (sym same) set.rises,
        subst (AllHold task.what ss) (sym same) set.hold,
        λ all. whole_same ∙ set.kept all,
        λ other n v apart. ap (has other n v) same ∙ set.others other n v apart,
      )
  settles_by due work.Run fits rises h d is = absurd fits
  settles_by due (work.RunUnless file s) fits rises h d is = absurd fits
  settles_by due work.Idle fits rises h d is = absurd fits

  pub turn_settles : (signalled : Bool) → Fits task.work → Rises c.document.state →
      is_settled (turn task signalled c).0.status ≡ true → TurnSettles task c (turn task signalled c).1
  turn_settles signalled fits rises h =
      let all = settles_by (signalled && task.refreshes) task.work fits rises h (turn task signalled c).1 refl in
      record { rises = all.0; hold = all.1; kept = all.2; others = all.3 }

  calm_by : (w : Work) → Holding task.what w c.document.state →
      has_failed (finish_worked task false (worked task.noop task.what w c)).0 ≡ false →
      ((finish_worked task false (worked task.noop task.what w c)).0 ≡ unchanged_line task.what)
      × ((finish_worked task false (worked task.noop task.what w c)).1.document ≡ c.document)
  calm_by (work.Set ss) all h =
      let did = set_all task.noop task.what ss c in
      let idle = all_idle task.noop task.what ss c all (calm_end task did.0 did.1.1 false did.1.0 h) in
      let end : finished false task.what did.1.0 did.1.1 ≡ (Ok false, did.1.1) = ap
      (λ e. finished false task.what e did.1.1) idle.1 in (
        ap (λ (p : Result Bool (List ℕ) × Content). line_of task.what task.noop did.0 p.0) end
            ∙ ap (λ l. line_of task.what task.noop l (Ok false)) idle.0,
        ap (λ (p : Result Bool (List ℕ) × Content). p.1.document) end ∙ idle.2,
      )
  calm_by work.Run all h = absurd all
  calm_by (work.RunUnless file s) all h = absurd all
  calm_by work.Idle all h = absurd all

  -- a turn whose properties all hold, where nothing signals
  pub turn_calm : Holding task.what task.work c.document.state → has_failed (turn task false c).0 ≡ false →
      ((turn task false c).0 ≡ unchanged_line task.what) × ((turn task false c).1.document ≡ c.document)
  turn_calm all h = calm_by task.work all h
