-- A property holds once it was written, and as long as neither it nor the resource's `ensure` is written again.
use Rattle.std.proofs.Common.{◌≡◌, ℕ, Bool, true, false, not, ◌&&◌, if◌then◌else◌, List, [], None, Some, Option, codes, bytes_eq, refl, sym, ap, ◌∙◌, unwrap_or, true≢false}
use Rattle.std.specs.FinMap.{find, put}
use Rattle.std.proofs.lemmas.Map.Text.{is_eq-slice_cmp}
use Rattle.pp_ops.specs.Same.{same}
use Rattle.pp_values.specs.Datum as d
use Rattle.pp_values.specs.Datum.{Datum}
use Rattle.pp_values.specs.Rising.{text_cmp}
use Rattle.pp_values.specs.Settings.{Setting}
use Rattle.pp_values.specs.Words.{reference_text}
use Rattle.pp_values.specs.declared.reference.Reference.{Reference}
use Rattle.agent_machine.specs.States.{State, present, absent, is_ensure, record_of, ensure_in, service_word, ensure_word, counts_as, is_ensured, is_value, is_recorded, has, removes, without, with_property, written}
use Rattle.agent_transaction.proofs.SameLemmas.{same_itself, text_before, text_behind}
use Rattle.agent_transaction.proofs.RecordLemmas.{Differ, Rises, find_without, find_without_other, rises_without, find_put, find_put_other, record_here, record_other, record_rises}

abbrev key_of : Reference → List ℕ
key_of what = reference_text what

-- ---- records after a write

module _ (what : Reference) (name : List ℕ) (v : Datum) (state : State) where
  after : Bool → State
  after b = if b then without (key_of what) state else with_property what name (counts_as what name v) state

  pub written_here : removes name v ≡ false →
      record_of what (written what name v state)
      ≡ Some (put text_cmp name (counts_as what name v) (unwrap_or (record_of what state) []))
  unfolding written after
  written_here stays =
      ap (λ b. find text_cmp (key_of what) (after b)) stays
      ∙ record_here (key_of what) name (counts_as what name v) (record_of what state) state refl

  pub written_gone : removes name v ≡ true → Rises state → record_of what (written what name v state) ≡ None
  unfolding written after
  written_gone goes rises = ap (λ b. find text_cmp (key_of what) (after b)) goes
      ∙ find_without (key_of what) state rises

  pub written_rises : Rises state → Rises (written what name v state)
  unfolding written after
  written_rises rises = elim (removes name v) as (λ b. Rises (after b)) [
    | true ↦ rises_without _ state rises
    | false ↦ record_rises (key_of what) name (counts_as what name v) (record_of what state) state rises
  ]

  pub written_other : (other : Reference) → Differ (key_of other) (key_of what) →
      record_of other (written what name v state) ≡ record_of other state
  unfolding written after
  written_other other apart =
      elim (removes name v) as (λ b. find text_cmp (key_of other) (after b) ≡ record_of other state) [
        | true ↦ find_without_other (key_of other) (key_of what) apart state
        | false ↦ record_other (key_of other) (key_of what) name (counts_as what name v)
            (record_of what state) state apart
      ]

-- ---- what holds of a record

-- `has`, of the record
abbrev has_by : Bool → List ℕ → List ℕ → Datum → Option (List Setting) → Bool
has_by b kind name v o = if b then is_ensured (ensure_word kind v) (ensure_in name o) else is_recorded name v o

has_is : (what : Reference) (name : List ℕ) (v : Datum) (state : State) →
    has what name v state ≡ has_by (is_ensure name) what.kind name v (record_of what state)
unfolding has
has_is what name v state = refl

-- what another resource has is the same after the write
pub has_other : (other what : Reference) (n name : List ℕ) (w v : Datum) (state : State) →
    Differ (key_of other) (key_of what) →
    has other n w (written what name v state) ≡ has other n w state
has_other other what n name w v state apart =
    has_is other n w (written what name v state)
    ∙ ap (has_by (is_ensure n) other.kind n w) (written_other what name v state other apart)
    ∙ sym (has_is other n w state)

first : (a b : Bool) → (a && b) ≡ true → a ≡ true
first true b e = refl
first false b e = e

second : (a b : Bool) → (a && b) ≡ true → b ≡ true
second true b e = e
second false b e = absurd (cc e)

-- ---- a value that was written

-- it is what is wanted
wanted_itself : (w : Datum) → is_ensured w w ≡ true
wanted_itself w =
    elim (same w present) as (λ b. same w present ≡ b → (if b then not (same w absent) else same w w) ≡ true) [
      | true ↦ λ is. ap (λ x. not (same x absent)) (text_before w (codes "present") is)
      | false ↦ λ is. same_itself w
    ] refl

set_then : (b : Bool) (kind name : List ℕ) (v : Datum) (properties : List Setting) →
    has_by b kind name v (Some (put text_cmp name (if b then ensure_word kind v else v) properties)) ≡ true
set_then true kind name v properties =
    ap (λ o. is_ensured (ensure_word kind v) (unwrap_or o present)) (find_put name (ensure_word kind v) properties)
    ∙ wanted_itself (ensure_word kind v)
set_then false kind name v properties = ap (is_value v) (find_put name v properties) ∙ same_itself v

absent_word : (kind : List ℕ) → ensure_word kind absent ≡ absent
absent_word kind = elim (bytes_eq kind (codes "service")) as (λ b. (if b then absent else absent) ≡ absent) [
  | true ↦ refl
  | false ↦ refl
]

gone_then : (name kind : List ℕ) (v : Datum) → removes name v ≡ true → has_by (is_ensure name) kind name v None ≡ true
gone_then name kind v goes =
    let is : v ≡ absent = text_before v (codes "absent") (second (is_ensure name) (same v absent) goes) in
    ap (λ b. has_by b kind name v None) (first (is_ensure name) (same v absent) goes)
    ∙ ap (λ x. is_ensured (ensure_word kind x) absent) is ∙ ap (λ x. is_ensured x absent) (absent_word kind)

-- What was written holds.
pub has_written : (what : Reference) (name : List ℕ) (v : Datum) (state : State) → Rises state →
    has what name v (written what name v state) ≡ true
has_written what name v state rises =
    has_is what name v (written what name v state)
    ∙ elim (removes name v) as
    (λ b. removes name v ≡ b → has_by (is_ensure name) what.kind name v (record_of what (written what name v state))
    ≡ true) [
      | true ↦ λ goes. ap (has_by (is_ensure name) what.kind name v) (written_gone what name v state goes rises)
          ∙ gone_then name what.kind v goes
      | false ↦ λ stays. ap (has_by (is_ensure name) what.kind name v) (written_here what name v state stays)
          ∙ set_then (is_ensure name) what.kind name v (unwrap_or (record_of what state) [])
    ] refl

-- ---- a value that was not written again

-- a wanted `ensure` that an absent resource has is `absent`
word_back : (kind : List ℕ) (v : Datum) → ensure_word kind v ≡ absent → v ≡ absent
word_back kind v is =
    elim (same v (d.text (codes "installed"))) as
    (λ b. (if b then present else (if bytes_eq kind (codes "service") then service_word v else v)) ≡ absent →
    v ≡ absent) [
      | true ↦ λ e. absurd (true≢false (ap (λ x. same x present) e))
      | false ↦ λ e. elim (bytes_eq kind (codes "service")) as
          (λ b. (if b then service_word v else v) ≡ absent → v ≡ absent) [
            | true ↦ service_back v
            | false ↦ λ f. f
          ] e
    ] is where
      service_back : (w : Datum) → service_word w ≡ absent → w ≡ absent
      service_back (d.flag true) e = absurd (true≢false (sym (ap (λ x. same x absent) e)))
      service_back (d.flag false) e = absurd (true≢false (sym (ap (λ x. same x absent) e)))
      service_back w e = e

ensured_absent : (w : Datum) → is_ensured w absent ≡ true → w ≡ absent
ensured_absent w h =
    elim (same w present) as (λ b. (if b then not (same absent absent) else same absent w) ≡ true → w ≡ absent) [
      | true ↦ λ e. absurd (cc e)
      | false ↦ λ e. text_behind w (codes "absent") e
    ] h

differ_by : (n m : List ℕ) → bytes_eq n m ≡ false → Differ n m
differ_by n m h = is_eq-slice_cmp n m ∙ h

kept_by : (b : Bool) (kind n m : List ℕ) (v w : Datum) (o : Option (List Setting)) → (b && same v absent) ≡ false →
    bytes_eq n m ≡ false →
    has_by b kind n v o ≡ true → has_by b kind n v (Some (put text_cmp m w (unwrap_or o []))) ≡ true
kept_by true kind n m v w None stays apart h =
    let is : v ≡ absent = word_back kind v (ensured_absent (ensure_word kind v) h) in
    absurd (cc (sym (ap (λ x. same x absent) is) ∙ stays))
kept_by true kind n m v w (Some properties) stays apart h =
    ap (λ o. is_ensured (ensure_word kind v) (unwrap_or o present))
    (find_put_other n m w properties (differ_by n m apart)) ∙ h
kept_by false kind n m v w None stays apart h = absurd (cc h)
kept_by false kind n m v w (Some properties) stays apart h =
    ap (is_value v) (find_put_other n m w properties (differ_by n m apart)) ∙ h

left_false : (a b : Bool) → a ≡ false → (a && b) ≡ false
left_false true b e = absurd (cc e)
left_false false b e = refl

-- A property still holds after another one was written that is not `ensure`.
pub has_still : (what : Reference) (n m : List ℕ) (v w : Datum) (state : State) → removes n v ≡ false →
    is_ensure m ≡ false →
    bytes_eq n m ≡ false → has what n v state ≡ true → has what n v (written what m w state) ≡ true
has_still what n m v w state stays plain apart h =
    has_is what n v (written what m w state)
    ∙ ap (has_by (is_ensure n) what.kind n v) (written_here what m w state
    (left_false (is_ensure m) (same w absent) plain))
    ∙ kept_by (is_ensure n) what.kind n m v (counts_as what m w) (record_of what state) stays apart
    (sym (has_is what n v state) ∙ h)
