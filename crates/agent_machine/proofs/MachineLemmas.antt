-- What the calls of a machine in memory are made of.
use Rattle.std.proofs.Common.{◌≡◌, ℕ, Bool, true, false, not, ◌&&◌, if◌then◌else◌, List, Option, None, Some, refl, sym, ap, ap₂, subst, ◌∙◌, arith}
use Rattle.std.specs.Prelude.{option_map}
use Rattle.pp_values.specs.Datum.{Datum}
use Rattle.pp_values.specs.declared.reference.Reference.{Reference}
use Rattle.agent_machine.specs.Contents.{Content, next_count, fails, asked, holds_by, holds_text, refresh_text, write_text, write_fails, write_answer, after_write, with_state, puts}
use Rattle.agent_machine.specs.Machines.{Told, IfTold, Counts, has_failed, counted, recording, FailsNext, Has, Asks, Refreshes, Writes}
use Rattle.agent_machine.specs.States.{has, written, removes}
use Rattle.agent_machine.specs.declared.holds.Holds.{Holds}
use Rattle.agent_machine.specs.declared.holds.Holds.TheVariants as holds
use Rattle.agent_machine.specs.declared.wrote.Wrote.TheVariants as wrote

counts_by : (failed there : Bool) (f : ℕ) → Counts (has_failed (holds_by failed there)) f (if failed then next_count f else f)
counts_by true there f = omega arith
counts_by false true f = omega arith
counts_by false false f = omega arith

told_by : (what : Reference) (name : List ℕ) (value : Datum) (o : Option Content) (f : ℕ) (failed there : Bool) →
    FailsNext (holds_text what name) failed (record { content = o; faults = f }) →
    Has what name value there (record { content = o; faults = f }) →
    IfTold (record { content = o; faults = f }) (λ c. holds_by failed there ≡ holds_by (fails (holds_text what name) c) (has what name value c.document.state))
told_by what name value None f failed there e h = tt
told_by what name value (Some c) f failed there e h = ap₂ holds_by e h

pub asks_it : (what : Reference) (name : List ℕ) (value : Datum) (m : Told) (failed there : Bool) (answer : Holds) (after : Told) →
    FailsNext (holds_text what name) failed m → Has what name value there m → answer ≡ holds_by failed there →
    after ≡ counted failed m → Asks what name value answer m after
asks_it what name value m failed there answer after e h is next =
    subst (λ x. Asks what name value answer m x) (sym next)
    (subst (λ a. Asks what name value a m (counted failed m)) (sym is) (record {
      answers = told_by what name value m.content m.faults failed there e h;
      content = refl;
      faults = counts_by failed there m.faults;
    }))

is_no_no : (failed : Bool) → ¬ (holds_by failed true ≡ holds.No)
is_no_no true e = absurd (cc e)
is_no_no false e = absurd (cc e)

refreshed_by : (what : Reference) (o : Option Content) (f : ℕ) (failed : Bool) →
    FailsNext (refresh_text what) failed (record { content = o; faults = f }) →
    IfTold (record { content = o; faults = f }) (λ c. holds_by failed true ≡ holds_by (fails (refresh_text what) c) true)
refreshed_by what None f failed e = tt
refreshed_by what (Some c) f failed e = ap (λ b. holds_by b true) e

pub refreshes_it : (what : Reference) (m : Told) (failed : Bool) (answer : Holds) (after : Told) →
    FailsNext (refresh_text what) failed m → answer ≡ holds_by failed true → after ≡ counted failed m →
    Refreshes what answer m after
refreshes_it what m failed answer after e is next =
    subst (λ x. Refreshes what answer m x) (sym next)
    (subst (λ a. Refreshes what a m (counted failed m)) (sym is) (record {
      done = is_no_no failed;
      answers = refreshed_by what m.content m.faults failed e;
      content = refl;
      faults = counts_by failed true m.faults;
    }))

module _ (what : Reference) (name : List ℕ) (value : Datum) where
  failing_told : (o : Option Content) (f : ℕ) (failed : Bool) → failed ≡ true →
      FailsNext (write_text what name) failed (record { content = o; faults = f }) →
      IfTold (record { content = o; faults = f }) (λ c. write_answer what name c ≡ wrote.Failed)
      × (option_map asked o ≡ option_map (after_write what name value) o)
  failing_told None f failed is e = (tt, refl)
  failing_told (Some c) f failed is e =
      let there : write_fails what name c ≡ true = sym e ∙ is in (
        ap (λ b. if b then wrote.Failed else wrote.Done) there,
        ap Some (sym (ap (λ b. if b then asked c else asked (with_state (written what name value c.document.state) c)) there)),
      )

  pub write_failing : (m : Told) (failed : Bool) (after : Told) → FailsNext (write_text what name) failed m →
      failed ≡ true → after ≡ counted true m → Writes what name value wrote.Failed m after
  write_failing m failed after e is next =
      let told = failing_told m.content m.faults failed is e in
      subst (λ x. Writes what name value wrote.Failed m x) (sym next) (told.0, told.1, omega arith)

  done_told : (o : Option Content) (f : ℕ) (failed : Bool) → failed ≡ false →
      FailsNext (write_text what name) failed (record { content = o; faults = f }) →
      IfTold (record { content = o; faults = f }) (λ c. write_answer what name c ≡ wrote.Done)
      × (option_map asked (option_map (λ c. with_state (written what name value c.document.state) c) o)
      ≡ option_map (after_write what name value) o)
  done_told None f failed is e = (tt, refl)
  done_told (Some c) f failed is e =
      let stays : write_fails what name c ≡ false = sym e ∙ is in (
        ap (λ b. if b then wrote.Failed else wrote.Done) stays,
        ap Some (sym (ap (λ b. if b then asked c else asked (with_state (written what name value c.document.state) c)) stays)),
      )

  pub write_done : (m : Told) (failed : Bool) (middle after : Told) → FailsNext (write_text what name) failed m →
      failed ≡ false → middle ≡ recording what name value m → after ≡ counted false middle →
      Writes what name value wrote.Done m after
  write_done m failed middle after e is put next =
      let told = done_told m.content m.faults failed is e in
      subst (λ x. Writes what name value wrote.Done m x) (sym (next ∙ ap (counted false) put)) (told.0, told.1, omega arith)

  memory_told : (o : Option Content) (f : ℕ) (failed : Bool) → failed ≡ false → removes name value ≡ false →
      FailsNext (write_text what name) failed (record { content = o; faults = f }) →
      IfTold (record { content = o; faults = f }) (λ c. puts what name value c ≡ true)
  memory_told None f failed is stays e = tt
  memory_told (Some c) f failed is stays e = ap₂ (λ a b. not a && not b) (sym e ∙ is) stays

  pub write_forgotten : (m : Told) (failed : Bool) (after : Told) → FailsNext (write_text what name) failed m →
      failed ≡ false → removes name value ≡ false → after ≡ m → Writes what name value wrote.Memory m after
  write_forgotten m failed after e is stays same =
      subst (λ x. Writes what name value wrote.Memory m x) (sym same)
      (memory_told m.content m.faults failed is stays e, refl, omega arith)
