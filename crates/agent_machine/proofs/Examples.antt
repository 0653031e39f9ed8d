-- What is recorded, what is held against it, and what calls do, at worked examples.
use Rattle.std.proofs.Common.{◌≡◌, true, false, [], ◌∷◌, None, Some, refl}
use Rattle.std.specs.Prelude.{codes}
use Rattle.pp_values.specs.Datum.{flag, text}
use Rattle.pp_values.specs.declared.reference.Reference.{Reference}
use Rattle.agent_machine.specs.Contents.{Content, holds_answer, refresh_answer, write_answer, after_write}
use Rattle.agent_machine.specs.Parts.{part_state, content_back}
use Rattle.agent_machine.specs.States.{State, present, absent, has, written}
use Rattle.agent_machine.specs.declared.holds.Holds.TheVariants as holds
use Rattle.agent_machine.specs.declared.wrote.Wrote.TheVariants as wrote

abbrev file_a : Reference
file_a = record { kind = codes "file"; title = codes "/a" }

abbrev service_s : Reference
service_s = record { kind = codes "service"; title = codes "s" }

abbrev some_state : State
some_state =
    (codes "File[/a]", (codes "content", text (codes "x")) ∷ [])
    ∷ (codes "Service[s]", (codes "ensure", text (codes "running")) ∷ []) ∷ []

-- ---- what a resource has

-- a record without `ensure` is of what is present; a property is held letter by letter
a_is_present : has file_a (codes "ensure") present some_state ≡ true
unfolding has
a_is_present = refl

a_has_content : has file_a (codes "content") (text (codes "x")) some_state ≡ true
unfolding has
a_has_content = refl

a_lacks_content : has file_a (codes "content") (text (codes "X")) some_state ≡ false
unfolding has
a_lacks_content = refl

a_lacks_mode : has file_a (codes "mode") (text (codes "0644")) some_state ≡ false
unfolding has
a_lacks_mode = refl

-- what has no record is absent
nothing_is_absent : has file_a (codes "ensure") absent [] ≡ true
unfolding has
nothing_is_absent = refl

nothing_is_not_present : has file_a (codes "ensure") present [] ≡ false
unfolding has
nothing_is_not_present = refl

-- `installed` counts as `present`; a service's truth values are words, and those of others are not
a_is_installed : has file_a (codes "ensure") (text (codes "installed")) some_state ≡ true
unfolding has
a_is_installed = refl

s_is_on : has service_s (codes "ensure") (flag true) some_state ≡ true
unfolding has
s_is_on = refl

s_is_not_off : has service_s (codes "ensure") (flag false) some_state ≡ false
unfolding has
s_is_not_off = refl

a_is_not_true : has file_a (codes "ensure") (flag true) some_state ≡ false
unfolding has
a_is_not_true = refl

-- any word but `absent` will do for `present`
s_is_present : has service_s (codes "ensure") present some_state ≡ true
unfolding has
s_is_present = refl

-- ---- what is written

a_written : written file_a (codes "mode") (text (codes "0644")) [] ≡
    (codes "File[/a]", (codes "mode", text (codes "0644")) ∷ []) ∷ []
unfolding written
a_written = refl

-- another value of what is recorded, and one property more
s_stopped : written service_s (codes "ensure") (flag false) some_state ≡
    (codes "File[/a]", (codes "content", text (codes "x")) ∷ [])
    ∷ (codes "Service[s]", (codes "ensure", text (codes "stopped")) ∷ []) ∷ []
unfolding written
s_stopped = refl

s_enabled : written service_s (codes "enable") (flag true) some_state ≡
    (codes "File[/a]", (codes "content", text (codes "x")) ∷ [])
    ∷ (codes "Service[s]", (codes "enable", flag true) ∷ (codes "ensure", text (codes "running")) ∷ []) ∷ []
unfolding written
s_enabled = refl

-- `absent` removes the record
a_removed : written file_a (codes "ensure") absent some_state ≡
    (codes "Service[s]", (codes "ensure", text (codes "running")) ∷ []) ∷ []
unfolding written
a_removed = refl

-- ---- calls

abbrev fails_second : Content
fails_second = record {
  document = record { failing = codes "refresh Service[s]" ∷ codes "write File[/a] mode" ∷ []; state = some_state };
  calls = 1;
  failing = 2 ∷ [];
}

abbrev fails_by_text : Content
fails_by_text = record { document = fails_second.document; calls = 2; failing = 2 ∷ [] }

by_number : holds_answer file_a (codes "content") (text (codes "x")) fails_second ≡ holds.Failed
by_number = refl

not_by_number : holds_answer file_a (codes "content") (text (codes "x")) fails_by_text ≡ holds.Yes
unfolding has
not_by_number = refl

by_text : refresh_answer service_s fails_by_text ≡ holds.Failed
by_text = refl

write_by_text : write_answer file_a (codes "mode") fails_by_text ≡ wrote.Failed
write_by_text = refl

-- a write that fails is counted, and leaves the state
failed_write : after_write file_a (codes "mode") (text (codes "0644")) fails_by_text ≡
    record { document = fails_second.document; calls = 3; failing = 2 ∷ [] }
failed_write = refl

-- ---- parts

-- a part holds the record of its resource, and of the file that is asked for
part_of_both : part_state service_s (Some (codes "/a")) some_state ≡ some_state
part_of_both = refl

part_of_one : part_state service_s None some_state ≡ (codes "Service[s]", (codes "ensure", text (codes "running")) ∷ []) ∷ []
part_of_one = refl

part_of_none : part_state file_a (Some (codes "/b")) [] ≡ []
part_of_none = refl

abbrev part_of_a : State → Content
part_of_a state = record { document = record { failing = []; state = state }; calls = 5; failing = 2 ∷ [] }

-- the record of the resource comes back, and no other one; calls are counted on
back_with_mode : content_back file_a (part_of_a ((codes "File[/a]", (codes "mode", text (codes "0644")) ∷ []) ∷ (codes "Service[s]", []) ∷ [])) fails_second ≡
    record {
      document = record {
        failing = fails_second.document.failing;
        state = (codes "File[/a]", (codes "mode", text (codes "0644")) ∷ [])
            ∷ (codes "Service[s]", (codes "ensure", text (codes "running")) ∷ []) ∷ [];
      };
      calls = 5;
      failing = 2 ∷ [];
    }
back_with_mode = refl

back_without : (content_back file_a (part_of_a []) fails_second).document.state ≡
    (codes "Service[s]", (codes "ensure", text (codes "running")) ∷ []) ∷ []
back_without = refl
