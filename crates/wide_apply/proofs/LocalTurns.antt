-- A turn knows no more of a machine than the records of its resource and of the file that it asks for.
use Rattle.std.proofs.Common.{◌≡◌, ℕ, Bool, true, false, ◌||◌, ◌&&◌, if◌then◌else◌, List, [], ◌∷◌, Option, Some, refl}
use Rattle.std.proofs.Common.{sym, subst, ap, ap₂, ◌∙◌, unwrap_or}
use Rattle.std.specs.Prelude.{nat_eq}
use Rattle.std.specs.FinMap.{find, put}
use Rattle.std.specs.List.{list_any}
use Rattle.pp_values.specs.Datum.{Datum}
use Rattle.pp_values.specs.Rising.{text_cmp, has_text}
use Rattle.pp_values.specs.Settings.{Setting}
use Rattle.pp_values.specs.Words.{reference_text}
use Rattle.pp_values.specs.declared.reference.Reference.{Reference}
use Rattle.agent_machine.specs.Contents.{Content, next_count, fails, asked, holds_by, holds_text, write_text}
use Rattle.agent_machine.specs.Contents.{refresh_text, holds_answer, refresh_answer, write_fails, after_write}
use Rattle.agent_machine.specs.Contents.{with_state}
use Rattle.agent_machine.specs.States.{State, record_of, is_ensure, ensure_word, ensure_in, is_ensured, is_recorded}
use Rattle.agent_machine.specs.States.{has, removes, counts_as, without, with_property, written}
use Rattle.agent_machine.specs.declared.holds.Holds.{Holds}
use Rattle.agent_machine.specs.declared.holds.Holds.TheVariants as holds
use Rattle.agent_machine.specs.declared.wrote.Wrote.TheVariants as wrote
use Rattle.agent_transaction.proofs.HoldLemmas.{written_here, written_gone, written_rises}
use Rattle.agent_transaction.proofs.RecordLemmas.{Differ, Rises, find_without_other, record_other}
use Rattle.agent_transaction.specs.ToldTurns as told
use Rattle.agent_transaction.specs.ToldTurns.{Worked, turn}
use Rattle.agent_transaction.specs.Turns.{line_of}
use Rattle.agent_transaction.specs.declared.ended.Ended.{Ended}
use Rattle.agent_transaction.specs.declared.ended.Ended.TheVariants as ended
use Rattle.agent_transaction.specs.declared.step.Step.{Step}
use Rattle.agent_transaction.specs.declared.step.Step.TheVariants as step
use Rattle.agent_transaction.specs.declared.task.Task.{Task}
use Rattle.agent_transaction.specs.declared.work.Work.{Work}
use Rattle.agent_transaction.specs.declared.work.Work.TheVariants as work

-- the same calls fail, none by its number, and the resource has the same record
pub record Alike (what : Reference) (c d : Content) : Type 0 where
  pub texts : c.document.failing ≡ d.document.failing
  pub none : c.failing ≡ []
  pub none_too : d.failing ≡ []
  pub own : record_of what c.document.state ≡ record_of what d.document.state
  pub rises : Rises c.document.state
  pub rises_too : Rises d.document.state

-- the same of the file that is asked for
abbrev pub FileAlike : Work → Content → Content → Type 0
FileAlike (work.RunUnless file s) c d = record_of file c.document.state ≡ record_of file d.document.state
FileAlike other c d = Unit {0}

has_by : Bool → Reference → List ℕ → Datum → Option (List Setting) → Bool
has_by b what name v o = if b then is_ensured (ensure_word what.kind v) (ensure_in name o) else is_recorded name v o

has_alike : (what : Reference) (name : List ℕ) (v : Datum) (s t : State) → record_of what s ≡ record_of what t →
    has what name v s ≡ has what name v t
unfolding has has_by
has_alike what name v s t e = ap (has_by (is_ensure name) what name v) e

fails_alike : (call : List ℕ) (c d : Content) → c.document.failing ≡ d.document.failing → c.failing ≡ [] →
    d.failing ≡ [] → fails call c ≡ fails call d
fails_alike call c d texts none none_too =
    ap₂ (λ a b. a || b)
    (ap (list_any (λ n. nat_eq n (next_count c.calls))) none
    ∙ sym (ap (list_any (λ n. nat_eq n (next_count d.calls))) none_too))
    (ap (λ l. has_text l call) texts)

module _ (what : Reference) where
  asked_alike : (c d : Content) → Alike what c d → Alike what (asked c) (asked d)
  asked_alike c d a = record {
    texts = a.texts;
    none = a.none;
    none_too = a.none_too;
    own = a.own;
    rises = a.rises;
    rises_too = a.rises_too;
  }

  holds_alike : (file : Reference) (name : List ℕ) (v : Datum) (c d : Content) → Alike what c d →
      record_of file c.document.state ≡ record_of file d.document.state →
      holds_answer file name v c ≡ holds_answer file name v d
  holds_alike file name v c d a e =
      ap₂ holds_by (fails_alike (holds_text file name) c d a.texts a.none a.none_too)
      (has_alike file name v c.document.state d.document.state e)

  refresh_alike : (c d : Content) → Alike what c d → refresh_answer what c ≡ refresh_answer what d
  refresh_alike c d a = ap (λ b. holds_by b true) (fails_alike (refresh_text what) c d a.texts a.none a.none_too)

  written_alike : (name : List ℕ) (v : Datum) (s t : State) → Rises s → Rises t → record_of what s ≡ record_of what t →
      (b : Bool) → removes name v ≡ b → record_of what (written what name v s) ≡ record_of what (written what name v t)
  written_alike name v s t r q e true is = written_gone what name v s is r ∙ sym (written_gone what name v t is q)
  written_alike name v s t r q e false is =
      written_here what name v s is ∙ ap (λ o. Some (put text_cmp name (counts_as what name v) (unwrap_or o []))) e
      ∙ sym (written_here what name v t is)

  after_by : Bool → List ℕ → Datum → Content → Content
  after_by b name v c = if b then asked c else asked (with_state (written what name v c.document.state) c)

  after_alike_by : (b : Bool) (name : List ℕ) (v : Datum) (c d : Content) → Alike what c d →
      Alike what (after_by b name v c) (after_by b name v d)
  unfolding after_by
  after_alike_by true name v c d a = asked_alike c d a
  after_alike_by false name v c d a = record {
    texts = a.texts;
    none = a.none;
    none_too = a.none_too;
    own = written_alike name v c.document.state d.document.state a.rises a.rises_too a.own (removes name v) refl;
    rises = written_rises what name v c.document.state a.rises;
    rises_too = written_rises what name v d.document.state a.rises_too;
  }

  write_same : (name : List ℕ) (c d : Content) → Alike what c d → write_fails what name c ≡ write_fails what name d
  write_same name c d a = fails_alike (write_text what name) c d a.texts a.none a.none_too

  after_alike : (name : List ℕ) (v : Datum) (c d : Content) → Alike what c d →
      Alike what (after_write what name v c) (after_write what name v d)
  unfolding after_by
  after_alike name v c d a =
      subst (λ b. Alike what (after_by (write_fails what name c) name v c) (after_by b name v d))
      (write_same name c d a)
      (after_alike_by (write_fails what name c) name v c d a)

  abbrev Both : {R : Type 0} → R × Content → R × Content → Type 0
  Both p q = (p.0 ≡ q.0) × Alike what p.1 q.1

  corrected_alike : (noop : Bool) (s : Setting) (c d : Content) → Alike what c d →
      Both (told.corrected noop what s c) (told.corrected noop what s d)
  corrected_alike true s c d a = (refl, a)
  corrected_alike false s c d a = (
    ap (λ b. told.wrote_step s (if b then wrote.Failed else wrote.Done)) (write_same s.0 c d a),
    after_alike s.0 s.1 c d a,
  )

  set_by_alike : (noop : Bool) (s : Setting) (answer : Holds) (c d : Content) → Alike what c d →
      Both (told.set_by noop what s answer c) (told.set_by noop what s answer d)
  set_by_alike noop s holds.Yes c d a = (refl, a)
  set_by_alike noop s holds.No c d a = corrected_alike noop s c d a
  set_by_alike noop s holds.Failed c d a = (refl, a)

  set_right_alike : (noop : Bool) (s : Setting) (c d : Content) → Alike what c d →
      Both (told.set_right noop what s c) (told.set_right noop what s d)
  set_right_alike noop s c d a =
      subst (λ h. Both (told.set_by noop what s (holds_answer what s.0 s.1 c) (asked c))
      (told.set_by noop what s h (asked d)))
      (holds_alike what s.0 s.1 c d a a.own)
      (set_by_alike noop s (holds_answer what s.0 s.1 c) (asked c) (asked d) (asked_alike c d a))

  run_alike : (noop : Bool) (c d : Content) → Alike what c d → Both (told.run noop what c) (told.run noop what d)
  run_alike true c d a = (refl, a)
  run_alike false c d a = (ap told.ran_step (refresh_alike c d a), asked_alike c d a)

  run_by_alike : (noop : Bool) (s : Setting) (answer : Holds) (c d : Content) → Alike what c d →
      Both (told.run_by noop what s answer c) (told.run_by noop what s answer d)
  run_by_alike noop s holds.Yes c d a = (refl, a)
  run_by_alike noop s holds.No c d a = run_alike noop c d a
  run_by_alike noop s holds.Failed c d a = (refl, a)

  run_unless_alike : (noop : Bool) (file : Reference) (s : Setting) (c d : Content) → Alike what c d →
      record_of file c.document.state ≡ record_of file d.document.state →
      Both (told.run_unless noop what file s c) (told.run_unless noop what file s d)
  run_unless_alike noop file s c d a e =
      subst (λ h. Both (told.run_by noop what s (holds_answer file s.0 s.1 c) (asked c))
      (told.run_by noop what s h (asked d)))
      (holds_alike file s.0 s.1 c d a e)
      (run_by_alike noop s (holds_answer file s.0 s.1 c) (asked c) (asked d) (asked_alike c d a))

  abbrev BothWorked : Worked → Worked → Type 0
  BothWorked w v = (w.0 ≡ v.0) × (w.1.0 ≡ v.1.0) × Alike what w.1.1 v.1.1

  whole_alike : (c d : Content) → Alike what c d → BothWorked (told.whole c) (told.whole d)
  whole_alike c d a = (refl, refl, a)

  go_on_by : (st : Step) (c d : Content) (f g : Content → Worked) → Alike what c d →
      ((c d : Content) → Alike what c d → BothWorked (f c) (g d)) →
      BothWorked (told.go_on (st, c) f) (told.go_on (st, d) g)
  go_on_by step.Kept c d f g a rest = rest c d a
  go_on_by (step.Changed name) c d f g a rest = let r = rest c d a in (ap (λ l. name ∷ l) r.0, r.1, r.2)
  go_on_by (step.Failed fault) c d f g a rest = (refl, refl, a)
  go_on_by step.Memory c d f g a rest = (refl, refl, a)

  go_on_alike : (p q : Step × Content) (f g : Content → Worked) → Both p q →
      ((c d : Content) → Alike what c d → BothWorked (f c) (g d)) →
      BothWorked (told.go_on p f) (told.go_on q g)
  go_on_alike p q f g b rest = subst (λ st. BothWorked (told.go_on (p.0, p.1) f) (told.go_on (st, q.1) g)) b.0
      (go_on_by p.0 p.1 q.1 f g b.1 rest)

  set_all_alike : (noop : Bool) (ss : List Setting) (c d : Content) → Alike what c d →
      BothWorked (told.set_all noop what ss c) (told.set_all noop what ss d)
  set_all_alike noop [] c d a = (refl, refl, a)
  set_all_alike noop (s ∷ ss) c d a =
      go_on_alike (told.set_right noop what s c) (told.set_right noop what s d) (λ e. told.set_all noop what ss e)
      (λ e. told.set_all noop what ss e)
      (set_right_alike noop s c d a) (λ e f. set_all_alike noop ss e f)

  worked_alike : (noop : Bool) (todo : Work) (c d : Content) → Alike what c d → FileAlike todo c d →
      BothWorked (told.worked noop what todo c) (told.worked noop what todo d)
  worked_alike noop (work.Set ss) c d a f = set_all_alike noop ss c d a
  worked_alike noop work.Run c d a f =
      go_on_alike (told.run noop what c) (told.run noop what d) told.whole told.whole (run_alike noop c d a) whole_alike
  worked_alike noop (work.RunUnless file s) c d a f =
      go_on_alike (told.run_unless noop what file s c) (told.run_unless noop what file s d) told.whole told.whole
      (run_unless_alike noop file s c d a f) whole_alike
  worked_alike noop work.Idle c d a f = whole_alike c d a

  refreshed_alike : (due : Bool) (c d : Content) → Alike what c d →
      Both (told.refreshed due what c) (told.refreshed due what d)
  refreshed_alike true c d a = (ap told.refreshed_result (refresh_alike c d a), asked_alike c d a)
  refreshed_alike false c d a = (refl, a)

  finished_by : (due : Bool) (end : Ended) (c d : Content) → Alike what c d →
      Both (told.finished due what end c) (told.finished due what end d)
  finished_by due ended.Whole c d a = refreshed_alike due c d a
  finished_by due (ended.Failed fault) c d a = (refl, a)
  finished_by due ended.Memory c d a = (refl, a)

pub turn_alike : (task : Task) (due : Bool) (c d : Content) → Alike task.what c d → FileAlike task.work c d →
    ((turn task due c).0 ≡ (turn task due d).0) × Alike task.what (turn task due c).1 (turn task due d).1
turn_alike task due c d a f =
    let w = told.worked task.noop task.what task.work c in
    let v = told.worked task.noop task.what task.work d in
    let both = worked_alike task.what task.noop task.work c d a f in
    let end = subst (λ e. Both task.what (told.finished (due && task.refreshes) task.what w.1.0 w.1.1)
    (told.finished (due && task.refreshes) task.what e v.1.1)) both.1
    (finished_by task.what (due && task.refreshes) w.1.0 w.1.1 v.1.1 both.2) in
    (ap₂ (λ changes r. line_of task.what task.noop changes r) both.0 end.0, end.1)

-- ---- what a turn leaves as it was

pub record Framed (what : Reference) (c d : Content) : Type 0 where
  pub texts : d.document.failing ≡ c.document.failing
  pub numbers : d.failing ≡ c.failing
  pub rises : Rises c.document.state → Rises d.document.state
  pub others : (q : List ℕ) → Differ q (reference_text what) →
      find text_cmp q d.document.state ≡ find text_cmp q c.document.state

module _ (what : Reference) where
  pub framed_same : (c : Content) → Framed what c c
  framed_same c = record { texts = refl; numbers = refl; rises = λ r. r; others = λ q a. refl }

  framed_then : (c d e : Content) → Framed what c d → Framed what d e → Framed what c e
  framed_then c d e f g = record {
    texts = g.texts ∙ f.texts;
    numbers = g.numbers ∙ f.numbers;
    rises = λ r. g.rises (f.rises r);
    others = λ q a. g.others q a ∙ f.others q a;
  }

  framed_asked : (c : Content) → Framed what c (asked c)
  framed_asked c = record { texts = refl; numbers = refl; rises = λ r. r; others = λ q a. refl }

  written_by : Bool → List ℕ → Datum → State → State
  written_by b name v s = if b then without (reference_text what) s else with_property what name
      (counts_as what name v) s

  written_other : (name : List ℕ) (v : Datum) (s : State) (q : List ℕ) → Differ q (reference_text what) →
      find text_cmp q (written what name v s) ≡ find text_cmp q s
  unfolding written written_by
  written_other name v s q apart =
      elim (removes name v) as (λ b. find text_cmp q (written_by b name v s) ≡ find text_cmp q s) [
        | true ↦ find_without_other q (reference_text what) apart s
        | false ↦ record_other q (reference_text what) name (counts_as what name v) (record_of what s) s apart
      ]

  framed_by : (b : Bool) (name : List ℕ) (v : Datum) (c : Content) →
      Framed what c (if b then asked c else asked (with_state (written what name v c.document.state) c))
  framed_by true name v c = framed_asked c
  framed_by false name v c = record {
    texts = refl;
    numbers = refl;
    rises = written_rises what name v c.document.state;
    others = λ q a. written_other name v c.document.state q a;
  }

  framed_corrected : (noop : Bool) (s : Setting) (c : Content) → Framed what c (told.corrected noop what s c).1
  framed_corrected true s c = framed_same c
  framed_corrected false s c = framed_by (write_fails what s.0 c) s.0 s.1 c

  framed_set_by : (noop : Bool) (s : Setting) (answer : Holds) (c : Content) →
      Framed what c (told.set_by noop what s answer c).1
  framed_set_by noop s holds.Yes c = framed_same c
  framed_set_by noop s holds.No c = framed_corrected noop s c
  framed_set_by noop s holds.Failed c = framed_same c

  framed_run : (noop : Bool) (c : Content) → Framed what c (told.run noop what c).1
  framed_run true c = framed_same c
  framed_run false c = framed_asked c

  framed_run_by : (noop : Bool) (s : Setting) (answer : Holds) (c : Content) →
      Framed what c (told.run_by noop what s answer c).1
  framed_run_by noop s holds.Yes c = framed_same c
  framed_run_by noop s holds.No c = framed_run noop c
  framed_run_by noop s holds.Failed c = framed_same c

  framed_go_on : (c d : Content) (st : Step) (f : Content → Worked) → Framed what c d →
      ((d : Content) → Framed what d (f d).1.1) → Framed what c (told.go_on (st, d) f).1.1
  framed_go_on c d step.Kept f a rest = framed_then c d (f d).1.1 a (rest d)
  framed_go_on c d (step.Changed name) f a rest = framed_then c d (f d).1.1 a (rest d)
  framed_go_on c d (step.Failed fault) f a rest = a
  framed_go_on c d step.Memory f a rest = a

  framed_set_all : (noop : Bool) (ss : List Setting) (c : Content) → Framed what c (told.set_all noop what ss c).1.1
  framed_set_all noop [] c = framed_same c
  framed_set_all noop (s ∷ ss) c =
      let r = told.set_right noop what s c in
      framed_go_on c r.1 r.0 (λ e. told.set_all noop what ss e)
      (framed_then c (asked c) r.1 (framed_asked c) (framed_set_by noop s (holds_answer what s.0 s.1 c) (asked c)))
      (λ e. framed_set_all noop ss e)

  framed_worked : (noop : Bool) (todo : Work) (c : Content) → Framed what c (told.worked noop what todo c).1.1
  framed_worked noop (work.Set ss) c = framed_set_all noop ss c
  framed_worked noop work.Run c =
      let r = told.run noop what c in framed_go_on c r.1 r.0 told.whole (framed_run noop c) framed_same
  framed_worked noop (work.RunUnless file s) c =
      let r = told.run_unless noop what file s c in
      framed_go_on c r.1 r.0 told.whole
      (framed_then c (asked c) r.1 (framed_asked c) (framed_run_by noop s (holds_answer file s.0 s.1 c) (asked c)))
      framed_same
  framed_worked noop work.Idle c = framed_same c

  framed_finished : (due : Bool) (end : Ended) (c : Content) → Framed what c (told.finished due what end c).1
  framed_finished true ended.Whole c = framed_asked c
  framed_finished false ended.Whole c = framed_same c
  framed_finished due (ended.Failed fault) c = framed_same c
  framed_finished due ended.Memory c = framed_same c

pub turn_framed : (task : Task) (due : Bool) (c : Content) → Framed task.what c (turn task due c).1
turn_framed task due c =
    let w = told.worked task.noop task.what task.work c in
    framed_then task.what c w.1.1 (turn task due c).1 (framed_worked task.what task.noop task.work c)
    (framed_finished task.what (due && task.refreshes) w.1.0 w.1.1)
