-- On a machine that tells its content a turn is that of the function.
use Rattle.std.proofs.Common.{◌≡◌, ℕ, Bool, true, false, ◌&&◌, List, [], ◌∷◌, Some, Result, Ok, Err, refl, sym, subst, ap, ap₂, ◌∙◌}
use Rattle.std.specs.Prelude.{option_map, MatchOption}
use Rattle.pp_values.specs.Datum.{Datum}
use Rattle.pp_values.specs.Settings.{Setting}
use Rattle.pp_values.specs.declared.reference.Reference.{Reference}
use Rattle.agent_machine.specs.Contents.{Content, asked, holds_answer, refresh_answer, write_answer, after_write}
use Rattle.agent_machine.specs.Machines.{Told, Asks, Refreshes}
use Rattle.agent_machine.specs.declared.holds.Holds.{Holds}
use Rattle.agent_machine.specs.declared.holds.Holds.TheVariants as holds
use Rattle.agent_machine.specs.declared.report_line.ReportLine.{ReportLine}
use Rattle.agent_machine.specs.declared.wrote.Wrote.TheVariants as wrote
use Rattle.agent_transaction.specs.Steps.{Corrects, SetsBy, SetsRight, Runs, RunsBy, RunsUnless}
use Rattle.agent_transaction.specs.ToldTurns.{wrote_step, corrected, set_by, set_right, ran_step, run, run_by, run_unless, Worked, go_on, whole, set_all, worked, refreshed_result, refreshed, finished, turn}
use Rattle.agent_transaction.specs.Turns.{Goes, IsOver, SetsAll, Ends, Works, Refreshed, Finishes, line_of, IsTurn}
use Rattle.agent_transaction.specs.declared.ended.Ended.{Ended}
use Rattle.agent_transaction.specs.declared.ended.Ended.TheVariants as ended
use Rattle.agent_transaction.specs.declared.step.Step.{Step}
use Rattle.agent_transaction.specs.declared.step.Step.TheVariants as step
use Rattle.agent_transaction.specs.declared.task.Task.{Task}
use Rattle.agent_transaction.specs.declared.work.Work.{Work}
use Rattle.agent_transaction.specs.declared.work.Work.TheVariants as work

-- the machine tells this content
abbrev pub Tells : Told → Content → Type 0
Tells m c = m.content ≡ Some c

asks_told : (what : Reference) (name : List ℕ) (value : Datum) (answer : Holds) (m after : Told) (c : Content) → Tells m c →
    Asks what name value answer m after → (answer ≡ holds_answer what name value c) × Tells after (asked c)
asks_told what name value answer m after c e h = (
  subst (λ o. MatchOption o (Unit {0}) (λ d. answer ≡ holds_answer what name value d)) e h.answers,
  h.content ∙ ap (option_map asked) e,
)

refreshes_told : (what : Reference) (answer : Holds) (m after : Told) (c : Content) → Tells m c →
    Refreshes what answer m after → (answer ≡ refresh_answer what c) × Tells after (asked c)
refreshes_told what answer m after c e h = (
  subst (λ o. MatchOption o (Unit {0}) (λ d. answer ≡ refresh_answer what d)) e h.answers,
  h.content ∙ ap (option_map asked) e,
)

-- what a step is, and the content after it
abbrev Is : Step → Told → Step × Content → Type 0
Is st after p = (st ≡ p.0) × Tells after p.1

abbrev Fails : Step → Type 0
Fails st = st ≡ step.Memory → ⊥

pub same_told : (m after : Told) (c : Content) → Tells m c → after ≡ m → Tells after c
same_told m after c e same = ap (λ (t : Told). t.content) same ∙ e

corrected_told : (noop : Bool) (what : Reference) (s : Setting) (st : Step) (m after : Told) (c : Content) → Tells m c →
    Fails st → Corrects noop what s st m after → Is st after (corrected noop what s c)
corrected_told true what s step.Kept m after c e free h = absurd h
corrected_told true what s (step.Changed name) m after c e free h = (ap step.Changed h.0, same_told m after c e h.1)
corrected_told true what s (step.Failed fault) m after c e free h = absurd h
corrected_told true what s step.Memory m after c e free h = absurd h
corrected_told false what s step.Kept m after c e free h = absurd h
corrected_told false what s (step.Changed name) m after c e free h =
    let answer : write_answer what s.0 c ≡ wrote.Done =
    subst (λ o. MatchOption o (Unit {0}) (λ d. write_answer what s.0 d ≡ wrote.Done)) e h.1.0 in
    (ap step.Changed h.0 ∙ ap (wrote_step s) (sym answer), h.1.1 ∙ ap (option_map (after_write what s.0 s.1)) e)
corrected_told false what s (step.Failed fault) m after c e free h =
    let answer : write_answer what s.0 c ≡ wrote.Failed =
    subst (λ o. MatchOption o (Unit {0}) (λ d. write_answer what s.0 d ≡ wrote.Failed)) e h.1.0 in
    (ap step.Failed h.0 ∙ ap (wrote_step s) (sym answer), h.1.1 ∙ ap (option_map (after_write what s.0 s.1)) e)
corrected_told false what s step.Memory m after c e free h = absurd (free refl)

set_by_told : (noop : Bool) (what : Reference) (s : Setting) (answer : Holds) (st : Step) (m after : Told) (c : Content) →
    Tells m c → Fails st → SetsBy noop what s answer st m after → Is st after (set_by noop what s answer c)
set_by_told noop what s holds.Yes st m after c e free h = (h.0, same_told m after c e h.1)
set_by_told noop what s holds.No st m after c e free h = corrected_told noop what s st m after c e free h
set_by_told noop what s holds.Failed st m after c e free h = (h.0, same_told m after c e h.1)

set_right_told : (noop : Bool) (what : Reference) (s : Setting) (st : Step) (m after : Told) (c : Content) → Tells m c →
    Fails st → SetsRight noop what s st m after → Is st after (set_right noop what s c)
set_right_told noop what s st m after c e free h =
    let told = asks_told what s.0 s.1 h.0 m h.1 c e h.2 in
    subst (λ a. Is st after (set_by noop what s a (asked c))) told.0
    (set_by_told noop what s h.0 st h.1 after (asked c) told.1 free h.3)

run_told : (noop : Bool) (what : Reference) (st : Step) (m after : Told) (c : Content) → Tells m c →
    Runs noop what st m after → Is st after (run noop what c)
run_told true what step.Kept m after c e h = absurd h
run_told true what (step.Changed name) m after c e h = (ap step.Changed h.0, same_told m after c e h.1)
run_told true what (step.Failed fault) m after c e h = absurd h
run_told true what step.Memory m after c e h = absurd h
run_told false what step.Kept m after c e h = absurd h
run_told false what (step.Changed name) m after c e h =
    let told = refreshes_told what holds.Yes m after c e h.1 in (ap step.Changed h.0 ∙ ap ran_step told.0, told.1)
run_told false what (step.Failed fault) m after c e h =
    let told = refreshes_told what holds.Failed m after c e h.1 in (ap step.Failed h.0 ∙ ap ran_step told.0, told.1)
run_told false what step.Memory m after c e h = absurd h

run_by_told : (noop : Bool) (what : Reference) (s : Setting) (answer : Holds) (st : Step) (m after : Told) (c : Content) →
    Tells m c → RunsBy noop what s answer st m after → Is st after (run_by noop what s answer c)
run_by_told noop what s holds.Yes st m after c e h = (h.0, same_told m after c e h.1)
run_by_told noop what s holds.No st m after c e h = run_told noop what st m after c e h
run_by_told noop what s holds.Failed st m after c e h = (h.0, same_told m after c e h.1)

run_unless_told : (noop : Bool) (what file : Reference) (s : Setting) (st : Step) (m after : Told) (c : Content) → Tells m c →
    RunsUnless noop what file s st m after → Is st after (run_unless noop what file s c)
run_unless_told noop what file s st m after c e h =
    let told = asks_told file s.0 s.1 h.0 m h.1 c e h.2 in
    subst (λ a. Is st after (run_by noop what s a (asked c))) told.0 (run_by_told noop what s h.0 st h.1 after (asked c) told.1 h.3)

-- ---- all calls of a turn

-- what was changed, how the calls ended, and the content after them
abbrev Are : List (List ℕ) → Ended → Told → Worked → Type 0
Are changes end after w = (changes ≡ w.0) × (end ≡ w.1.0) × Tells after w.1.1

abbrev Whole : Ended → Type 0
Whole end = end ≡ ended.Memory → ⊥

over_told : (now after : Told) (changes : List (List ℕ)) (end : Ended) (c : Content) → Tells now c →
    IsOver now changes end after → Are changes end after (whole c)
over_told now after changes end c e h = (h.0, h.1, same_told now after c e h.2)

goes_told : (st : Step) (Rest : List (List ℕ) → Ended → Told → Type 0) (changes : List (List ℕ)) (end : Ended) (now after : Told)
    (c : Content) (rest : Content → Worked) → Tells now c → Whole end →
    ((more : List (List ℕ)) → Rest more end after → Are more end after (rest c)) →
    Goes st Rest changes end now after → Are changes end after (go_on (st, c) rest)
goes_told step.Kept Rest changes end now after c rest e free f h = f changes h
goes_told (step.Changed name) Rest changes end now after c rest e free f h =
    let more = f h.0 h.2 in (h.1 ∙ ap (λ l. name ∷ l) more.0, more.1, more.2)
goes_told (step.Failed fault) Rest changes end now after c rest e free f h = (h.0, h.1, same_told now after c e h.2)
goes_told step.Memory Rest changes end now after c rest e free f h = absurd (free h.1)

not_memory : (st : Step) (Rest : List (List ℕ) → Ended → Told → Type 0) (changes : List (List ℕ)) (end : Ended) (now after : Told) →
    Whole end → Goes st Rest changes end now after → Fails st
not_memory step.Kept Rest changes end now after free h = λ is. absurd (cc is)
not_memory (step.Changed name) Rest changes end now after free h = λ is. absurd (cc is)
not_memory (step.Failed fault) Rest changes end now after free h = λ is. absurd (cc is)
not_memory step.Memory Rest changes end now after free h = λ is. free h.1

set_all_told : (noop : Bool) (what : Reference) (ss : List Setting) (changes : List (List ℕ)) (end : Ended) (m after : Told)
    (c : Content) → Tells m c → Whole end → SetsAll noop what ss changes end m after → Are changes end after (set_all noop what ss c)
set_all_told noop what [] changes end m after c e free h = over_told m after changes end c e h
set_all_told noop what (s ∷ ss) changes end m after c e free h =
    let st = h.0 in
    let next = h.1 in
    let here = set_right_told noop what s st m next c e
    (not_memory st (λ more last n. SetsAll noop what ss more last next n) changes end next after free h.3) h.2 in
    subst (λ p. Are changes end after (go_on (p, (set_right noop what s c).1) (λ d. set_all noop what ss d))) here.0
    (goes_told st (λ more last n. SetsAll noop what ss more last next n) changes end next after (set_right noop what s c).1
    (λ d. set_all noop what ss d) here.1 free
    (λ more r. set_all_told noop what ss more end next after (set_right noop what s c).1 here.1 free r) h.3)

ends_told : (st : Step) (changes : List (List ℕ)) (end : Ended) (after : Told) (c : Content) → Tells after c → Whole end →
    Ends st changes end → Are changes end after (go_on (st, c) whole)
ends_told step.Kept changes end after c e free h = (h.0, h.1, e)
ends_told (step.Changed name) changes end after c e free h = (h.0, h.1, e)
ends_told (step.Failed fault) changes end after c e free h = (h.0, h.1, e)
ends_told step.Memory changes end after c e free h = absurd (free h.1)

works_told : (noop : Bool) (what : Reference) (w : Work) (changes : List (List ℕ)) (end : Ended) (m after : Told) (c : Content) →
    Tells m c → Whole end → Works noop what w changes end m after → Are changes end after (worked noop what w c)
works_told noop what (work.Set ss) changes end m after c e free h = set_all_told noop what ss changes end m after c e free h
works_told noop what work.Run changes end m after c e free h =
    let here = run_told noop what h.0 m after c e h.1 in
    subst (λ p. Are changes end after (go_on (p, (run noop what c).1) whole)) here.0
    (ends_told h.0 changes end after (run noop what c).1 here.1 free h.2)
works_told noop what (work.RunUnless file s) changes end m after c e free h =
    let here = run_unless_told noop what file s h.0 m after c e h.1 in
    subst (λ p. Are changes end after (go_on (p, (run_unless noop what file s c).1) whole)) here.0
    (ends_told h.0 changes end after (run_unless noop what file s c).1 here.1 free h.2)
works_told noop what work.Idle changes end m after c e free h = over_told m after changes end c e h

-- ---- the end of a turn

abbrev Comes : Result Bool (List ℕ) → Told → Result Bool (List ℕ) × Content → Type 0
Comes result after p = (result ≡ p.0) × Tells after p.1

refreshed_told : (due : Bool) (what : Reference) (result : Result Bool (List ℕ)) (m after : Told) (c : Content) → Tells m c →
    Refreshed due what result m after → Comes result after (refreshed due what c)
refreshed_told true what (Ok b) m after c e h =
    let told = refreshes_told what holds.Yes m after c e h.1 in (ap Ok h.0 ∙ ap refreshed_result told.0, told.1)
refreshed_told true what (Err fault) m after c e h =
    let told = refreshes_told what holds.Failed m after c e h.1 in (ap Err h.0 ∙ ap refreshed_result told.0, told.1)
refreshed_told false what result m after c e h = (h.0, same_told m after c e h.1)

finished_told : (due : Bool) (what : Reference) (end : Ended) (result : Result Bool (List ℕ)) (m after : Told) (c : Content) →
    Tells m c → Finishes due what end result m after → Comes result after (finished due what end c)
finished_told due what ended.Whole result m after c e h = refreshed_told due what result m after c e h
finished_told due what (ended.Failed fault) result m after c e h = (h.0, same_told m after c e h.1)
finished_told due what ended.Memory result m after c e h = absurd h

ends_whole : (due : Bool) (what : Reference) (end : Ended) (result : Result Bool (List ℕ)) (m after : Told) →
    Finishes due what end result m after → Whole end
ends_whole due what ended.Whole result m after h = λ is. absurd (cc is)
ends_whole due what (ended.Failed fault) result m after h = λ is. absurd (cc is)
ends_whole due what ended.Memory result m after h = absurd h

pub turn_told : (task : Task) (signalled : Bool) (line : ReportLine) (m after : Told) (c : Content) → m.content ≡ Some c →
    IsTurn task signalled line m after → (line ≡ (turn task signalled c).0) × (after.content ≡ Some (turn task signalled c).1)
turn_told task signalled line m after c e h =
    let due = signalled && task.refreshes in
    let did = works_told task.noop task.what task.work h.changes h.end m h.middle c e
    (ends_whole due task.what h.end h.result h.middle after h.finishes) h.works in
    let w = worked task.noop task.what task.work c in
    let fin = finished_told due task.what h.end h.result h.middle after w.1.1 did.2 h.finishes in
    let over : finished due task.what h.end w.1.1 ≡ finished due task.what w.1.0 w.1.1 =
    ap (λ x. finished due task.what x w.1.1) did.1 in (
      h.told ∙ ap₂ (λ changes result. line_of task.what task.noop changes result) did.0 (fin.0 ∙ ap (λ (p : Result Bool (List ℕ) × Content). p.0) over),
      fin.1 ∙ ap (λ (p : Result Bool (List ℕ) × Content). Some p.1) over,
    )
