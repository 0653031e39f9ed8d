-- What a machine has after a part of it came back, and what a part has.
use Rattle.std.proofs.Common.{◌≡◌, ℕ, true, false, List, [], Option, None, Some, refl, sym, ap, ◌∙◌}
use Rattle.std.specs.FinMap.{find}
use Rattle.std.specs.Ordering.{eq_by_cmp}
use Rattle.pp_values.specs.Rising.{text_cmp}
use Rattle.pp_values.specs.Settings.{Setting}
use Rattle.pp_values.specs.Words.{reference_text}
use Rattle.pp_values.specs.declared.reference.Reference.{Reference}
use Rattle.agent_machine.specs.Contents.{Content}
use Rattle.agent_machine.specs.Parts.{with_record_at, copied, file_of, file_part, part_state, content_back}
use Rattle.agent_machine.specs.States.{State, record_of, is_key}
use Rattle.agent_transaction.proofs.RecordLemmas.{Differ, Rises, one_key, find_without, find_without_other, find_put}
use Rattle.agent_transaction.proofs.RecordLemmas.{find_put_other, rises_put, rises_without}
use Rattle.wide_apply.proofs.LocalTurns.{Framed}

at_here : (key : List ℕ) (o : Option (List Setting)) (state : State) → Rises state →
    find text_cmp key (with_record_at key o state) ≡ o
at_here key None state rises = find_without key state rises
at_here key (Some r) state rises = find_put key r state

at_other : (q key : List ℕ) (o : Option (List Setting)) (state : State) → Differ q key →
    find text_cmp q (with_record_at key o state) ≡ find text_cmp q state
at_other q key None state far = find_without_other q key far state
at_other q key (Some r) state far = find_put_other q key r state far

at_rises : (key : List ℕ) (o : Option (List Setting)) (state : State) → Rises state → Rises (with_record_at key o state)
at_rises key None state rises = rises_without (is_key key) state rises
at_rises key (Some r) state rises = rises_put key r state rises

pub copied_here : (what : Reference) (from into : State) → Rises into →
    record_of what (copied what from into) ≡ record_of what from
copied_here what from into rises = at_here (reference_text what) (record_of what from) into rises

pub copied_other : (what : Reference) (from into : State) (q : List ℕ) → Differ q (reference_text what) →
    find text_cmp q (copied what from into) ≡ find text_cmp q into
copied_other what from into q far = at_other q (reference_text what) (record_of what from) into far

pub copied_rises : (what : Reference) (from into : State) → Rises into → Rises (copied what from into)
copied_rises what from into rises = at_rises (reference_text what) (record_of what from) into rises

-- ---- parts

file_rises : (creates : Option (List ℕ)) (state : State) → Rises (file_part creates state)
file_rises None state = refl
file_rises (Some path) state = copied_rises (file_of path) state [] refl

pub part_rises : (what : Reference) (creates : Option (List ℕ)) (state : State) → Rises (part_state what creates state)
part_rises what creates state = copied_rises what state (file_part creates state) (file_rises creates state)

pub part_own : (what : Reference) (creates : Option (List ℕ)) (state : State) →
    record_of what (part_state what creates state) ≡ record_of what state
part_own what creates state = copied_here what state (file_part creates state) (file_rises creates state)

pub part_file : (what : Reference) (path : List ℕ) (state : State) →
    record_of (file_of path) (part_state what (Some path) state) ≡ record_of (file_of path) state
part_file what path state =
    elim (eq_by_cmp text_cmp (reference_text (file_of path)) (reference_text what)) as
    (λ b. eq_by_cmp text_cmp (reference_text (file_of path)) (reference_text what) ≡ b →
    record_of (file_of path) (part_state what (Some path) state) ≡ record_of (file_of path) state) [
      | true ↦ λ is.
          let one = one_key (reference_text (file_of path)) (reference_text what) is in
          ap (λ k. find text_cmp k (part_state what (Some path) state)) one ∙ part_own what (Some path) state
          ∙ ap (λ k. find text_cmp k state) (sym one)
      | false ↦ λ is. copied_other what state (file_part (Some path) state) (reference_text (file_of path)) is
          ∙ copied_here (file_of path) state [] refl
    ] refl

-- ---- what came back

pub back_framed : (what : Reference) (part c : Content) → Framed what c (content_back what part c)
back_framed what part c = record {
  texts = refl;
  numbers = refl;
  rises = λ r. copied_rises what part.document.state c.document.state r;
  others = λ q far. copied_other what part.document.state c.document.state q far;
}

pub back_own : (what : Reference) (part c : Content) → Rises c.document.state →
    record_of what (content_back what part c).document.state ≡ record_of what part.document.state
back_own what part c rises = copied_here what part.document.state c.document.state rises
