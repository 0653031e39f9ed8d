-- One item, one record and one property after another.
use Rattle.std.proofs.Common.{◌≡◌, ◌≤◌, ◌<◌, ◌-◌, ℕ, List, [], ◌∷◌, ◌++◌, length, take, drop, get_or, Ok, String, string_bytes, refl, ap, sym, subst, ◌∙◌, arith}
use Rattle.std.proofs.lemmas.Grind.{common_steps}
use Rattle.std.specs.declared.alloc.Global.{Global}
use Rattle.serde_json.specs.declared.value.Value.{Value}
use Rattle.serde_json.specs.View.{view, items_view, members_view}
use Rattle.pp_values.specs.Settings.{Setting}
use Rattle.agent_machine.specs.States.{State}
use Rattle.agent_docs.specs.declared.machine_stop.MachineStop.{MachineStop}
use Rattle.agent_docs.specs.MachineMembers.{Refuses, result_and_then, failing_text, texts_from, with_property, with_properties, with_record, with_records}
use Rattle.agent_docs.proofs.Chains.{refuses_then, refuses_same}

-- ---- items

rest_of : (y : Value) (ys : List Value) → take (length (y ∷ ys) - 1) (drop 1 (y ∷ ys)) ≡ ys
rest_of y ys = grind (arith, common_steps)

pub first_of : (xs : List Value) (x : Value) → 1 ≤ length xs → x ≡ get_or xs 0 x → xs ≡ x ∷
    take (length xs - 1) (drop 1 xs)
first_of [] x h at = absurd (omega (arith, h))
first_of (y ∷ ys) x h at = ap (λ z. z ∷ ys) (sym at) ∙ ap (λ l. x ∷ l) (sym (rest_of y ys))

first_text : (xs rest : List Value) (x : Value) (found : List (List ℕ)) → xs ≡ x ∷ rest →
    texts_from found (items_view xs) ≡ result_and_then (λ t. texts_from (found ++ t ∷ []) (items_view rest))
    (failing_text (length found) (view x))
unfolding texts_from
first_text xs rest x found is = ap (λ l. texts_from found (items_view l)) is

pub text_found : (xs rest : List Value) (x : Value) (old new : List (List ℕ)) (t : List ℕ) (n : ℕ) → xs ≡ x ∷ rest →
    n ≡ length old → failing_text n (view x) ≡ Ok t →
    new ≡ old ++ t ∷ [] → texts_from new (items_view rest) ≡ texts_from old (items_view xs)
text_found xs rest x old new t n is count made more =
    ap (λ l. texts_from l (items_view rest)) more
    ∙ sym (first_text xs rest x old is ∙ ap (λ k. result_and_then
    (λ u. texts_from (old ++ u ∷ []) (items_view rest)) (failing_text k (view x))) (sym count)
    ∙ ap (result_and_then (λ u. texts_from (old ++ u ∷ []) (items_view rest))) made)

pub text_refused : (s : MachineStop) (xs rest : List Value) (x : Value) (found : List (List ℕ)) (n : ℕ) → xs ≡ x ∷ rest →
    n ≡ length found → Refuses s (failing_text n (view x)) → Refuses s (texts_from found (items_view xs))
text_refused s xs rest x found n is count h =
    refuses_same s _ _ (first_text xs rest x found is)
    (refuses_then s (failing_text (length found) (view x)) _ (subst (λ k. Refuses s (failing_text k (view x))) count h))

pub no_items_left : (xs : List Value) (found : List (List ℕ)) → length xs < 1 →
    texts_from found (items_view xs) ≡ Ok found
unfolding texts_from
no_items_left [] found h = refl
no_items_left (x ∷ xs) found h = absurd (omega (arith, h))

-- ---- records

abbrev Entry : Type 0
Entry = String Global × Value

first_record : (es rest : List Entry) (key : String Global) (value : Value) (name : List ℕ) (state : State) →
    es ≡ (key, value) ∷ rest → name ≡ string_bytes key →
    with_records (members_view es) state ≡ result_and_then (with_records (members_view rest))
    (with_record state name (view value))
unfolding with_records
first_record es rest key value name state is named =
    ap (λ l. with_records (members_view l) state) is ∙ ap
    (λ k. result_and_then (with_records (members_view rest)) (with_record state k (view value))) (sym named)

pub record_put : (es rest : List Entry) (key : String Global) (value : Value) (name : List ℕ) (old new : State) →
    es ≡ (key, value) ∷ rest → name ≡ string_bytes key → with_record old name (view value) ≡ Ok new →
    with_records (members_view rest) new ≡ with_records (members_view es) old
record_put es rest key value name old new is named made =
    sym (first_record es rest key value name old is named
    ∙ ap (result_and_then (with_records (members_view rest))) made)

pub record_refused : (s : MachineStop) (es rest : List Entry) (key : String Global) (value : Value) (name : List ℕ)
    (state : State) → es ≡ (key, value) ∷ rest → name ≡ string_bytes key →
    Refuses s (with_record state name (view value)) → Refuses s (with_records (members_view es) state)
record_refused s es rest key value name state is named h =
    refuses_same s _ _ (first_record es rest key value name state is named)
    (refuses_then s (with_record state name (view value)) (with_records (members_view rest)) h)

pub no_records_left : (es : List Entry) (state : State) → es ≡ [] → with_records (members_view es) state ≡ Ok state
unfolding with_records
no_records_left es state is = ap (λ l. with_records (members_view l) state) is

-- ---- properties, of the record at a text

module _ (at : List ℕ) where
  first_property : (es rest : List Entry) (key : String Global) (value : Value) (name : List ℕ) (ps : List Setting) →
      es ≡ (key, value) ∷ rest → name ≡ string_bytes key →
      with_properties at (members_view es) ps ≡ result_and_then (with_properties at (members_view rest))
      (with_property at ps name (view value))
  unfolding with_properties
  first_property es rest key value name ps is named =
      ap (λ l. with_properties at (members_view l) ps) is ∙ ap
      (λ k. result_and_then (with_properties at (members_view rest)) (with_property at ps k (view value))) (sym named)

  pub property_put : (es rest : List Entry) (key : String Global) (value : Value) (name : List ℕ)
      (old new : List Setting) →
      es ≡ (key, value) ∷ rest → name ≡ string_bytes key → with_property at old name (view value) ≡ Ok new →
      with_properties at (members_view rest) new ≡ with_properties at (members_view es) old
  property_put es rest key value name old new is named made =
      sym (first_property es rest key value name old is named
      ∙ ap (result_and_then (with_properties at (members_view rest))) made)

  pub property_refused : (s : MachineStop) (es rest : List Entry) (key : String Global) (value : Value) (name : List ℕ)
      (ps : List Setting) → es ≡ (key, value) ∷ rest → name ≡ string_bytes key →
      Refuses s (with_property at ps name (view value)) → Refuses s (with_properties at (members_view es) ps)
  property_refused s es rest key value name ps is named h =
      refuses_same s _ _ (first_property es rest key value name ps is named)
      (refuses_then s (with_property at ps name (view value)) (with_properties at (members_view rest)) h)

  pub no_properties_left : (es : List Entry) (ps : List Setting) → es ≡ [] →
      with_properties at (members_view es) ps ≡ Ok ps
  unfolding with_properties
  no_properties_left es ps is = ap (λ l. with_properties at (members_view l) ps) is
