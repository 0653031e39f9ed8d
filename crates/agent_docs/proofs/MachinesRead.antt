-- The line of a machine is read as that machine, and no other line is read as one.
use Rattle.std.proofs.Common.{◌≡◌, ℕ, ◌<◌, ◌≤◌, ◌^◌, Bool, true, false, ◌&&◌, if◌then◌else◌, List, [], ◌∷◌, ◌++◌, length, map, codes, Option, Some, None, option_and_then, Result, Ok, Err, Ordering, Less, Equal, Greater, refl, sym, ap, subst, ◌∙◌, arith, append-nil}
use Rattle.std.proofs.lemmas.List.{map-append}
use Rattle.std.specs.BTreeSet.{insert_key}
use Rattle.std.specs.Cmp.{first_so, second_so}
use Rattle.std.specs.Cmp.Derive.{both_true}
use Rattle.std.specs.FinMap.{put}
use Rattle.std.specs.FinMap.Entries.{by_order}
use Rattle.std.specs.List.{list_all}
use Rattle.std.specs.Option.{ok_or}
use Rattle.std.specs.Ordering.{match_ordering}
use Rattle.std.specs.Prelude.{⊤, is_some}
use Rattle.std.specs.Str.{bytes_eq}
use Rattle.serde_json.proofs.OnLiterals.{serde_json_on_literals}
use Rattle.serde_json.specs.Data as j
use Rattle.serde_json.specs.Data.{Data, Members, no_members, member, string, array, object, depth}
use Rattle.serde_json.specs.Find.{get, get_member, as_object}
use Rattle.serde_json.specs.Read.{max_depth, read}
use Rattle.serde_json.specs.View.{items_of}
use Rattle.pp_values.proofs.RisingLemmas.{above_first, is_rising-insert_key}
use Rattle.pp_values.specs.Rising.{text_cmp, is_rising}
use Rattle.pp_values.specs.Settings.{Setting, setting_names}
use Rattle.json_values.specs.Forms.{value_of}
use Rattle.json_values.specs.ValueForm.{setting_members}
use Rattle.agent_machine.specs.States.{State}
use Rattle.agent_machine.specs.declared.machine_doc.MachineDoc.{MachineDoc}
use Rattle.json_documents.specs.ExactData.{names, has_rising, members_have_rising, is_read, are_members_read}
use Rattle.json_documents.specs.LinesOfText.{has_byte}
use Rattle.json_documents.specs.ProperValues.{is_proper, have_proper}
use Rattle.json_documents.specs.SmallNumbers.{has_small, members_have_small}
use Rattle.json_documents.proofs.Feeds.{no_feed}
use Rattle.json_documents.proofs.ReadBack.{one_value, read_written, shallow_if_read}
use Rattle.json_documents.proofs.ReadData.{Each, any, read_is_read}
use Rattle.json_documents.proofs.ReadForms.{read_is_proper}
use Rattle.json_documents.proofs.SmallForms.{form_back, settings_small, object_rises, all_small, all_rise}
use Rattle.agent_docs.specs.MachineLaws.{MachinesAreToldApart}
use Rattle.agent_docs.specs.MachineMembers.{result_and_then, under, record_path, texts_from, given_failing, property_value, with_property, with_properties, all_properties, with_record, with_records, given_state, members_said, machine_said}
use Rattle.agent_docs.specs.MachineReading.{unless_refused, said_by, if_written, machine_written, machine_in}
use Rattle.agent_docs.specs.MachineText.{record_members, machine_object, machine_data, machine_text, are_properties, IsMachine, IsMachineLine}
use Rattle.agent_docs.proofs.ReportsRead.{Holds, holds_then, holds_if, same_bytes, is_same}

abbrev keys : {X : Type 0} → List (List ℕ × X) → List (List ℕ)
keys es = map (λ e. e.0) es

-- ---- what is put one after another in rising order stands in that order

put_end : {X : Type 0} (done : List (List ℕ × X)) (k : List ℕ) (v : X) (left : List (List ℕ)) →
    is_rising (keys done ++ k ∷ left) ≡ true → put text_cmp k v done ≡ done ++ (k, v) ∷ []
put_end [] k v left h = refl
put_end (e ∷ done) k v left h =
    rw (above_first e.0 k (keys done) left h) (ap (λ es. e ∷ es) (put_end done k v left (second_so _ _ h)))

one_more : {X : Type 0} (done : List X) (x : X) (left : List X) → done ++ (x ∷ left) ≡ (done ++ (x ∷ [])) ++ left
one_more [] x left = refl
one_more (e ∷ done) x left = ap (λ xs. e ∷ xs) (one_more done x left)

keys_rise : {X : Type 0} (done : List (List ℕ × X)) (e : List ℕ × X) (left : List (List ℕ × X)) →
    is_rising (keys (done ++ e ∷ left)) ≡ true → is_rising (keys done ++ e.0 ∷ keys left) ≡ true
keys_rise {X} done e left h =
    subst (λ ns. is_rising ns ≡ true) (map-append (λ (x : List ℕ × X). x.0) done (e ∷ left)) h

next_rise : {X : Type 0} (done : List (List ℕ × X)) (e : List ℕ × X) (left : List (List ℕ × X)) →
    is_rising (keys (done ++ e ∷ left)) ≡ true → is_rising (keys ((done ++ e ∷ []) ++ left)) ≡ true
next_rise done e left h = subst (λ es. is_rising (keys es) ≡ true) (one_more done e left) h

properties_from : (key : List ℕ) (left done : List Setting) → have_proper left ≡ true →
    is_rising (keys (done ++ left)) ≡ true → with_properties key (setting_members left) done ≡ Ok (done ++ left)
unfolding with_properties
properties_from key [] done p h = ap Ok (sym (append-nil done))
properties_from key (s ∷ left) done p h =
    ap (λ o. result_and_then (with_properties key (setting_members left))
    (result_and_then (λ v. Ok (put text_cmp s.0 v done)) (ok_or o (under (record_path key) s.0))))
    (form_back s.1 (first_so (is_proper s.1) _ p))
    ∙ ap (with_properties key (setting_members left)) (put_end done s.0 s.1 (keys left) (keys_rise done s left h))
    ∙ properties_from key left (done ++ s ∷ []) (second_so (is_proper s.1) _ p) (next_rise done s left h)
    ∙ ap Ok (sym (one_more done s left))

records_from : (left done : State) → list_all are_properties left ≡ true → is_rising (keys (done ++ left)) ≡ true →
    with_records (record_members left) done ≡ Ok (done ++ left)
unfolding with_records
records_from [] done p h = ap Ok (sym (append-nil done))
records_from (r ∷ left) done p h =
    let own = first_so (are_properties r) _ p in
    ap (λ m. result_and_then (with_records (record_members left)) (result_and_then (λ ps. Ok (put text_cmp r.0 ps done)) m))
    (properties_from r.0 r.1 [] (second_so (is_rising (setting_names r.1)) _ own) (first_so (is_rising (setting_names r.1)) _ own))
    ∙ ap (with_records (record_members left)) (put_end done r.0 r.1 (keys left) (keys_rise done r left h))
    ∙ records_from left (done ++ r ∷ []) (second_so (are_properties r) _ p) (next_rise done r left h)
    ∙ ap Ok (sym (one_more done r left))

failing_from : (left done : List (List ℕ)) → texts_from done (items_of (map string left)) ≡ Ok (done ++ left)
unfolding texts_from
failing_from [] done = ap Ok (sym (append-nil done))
failing_from (t ∷ left) done = failing_from left (done ++ t ∷ []) ∙ ap Ok (sym (one_more done t left))

machine_back : (m : MachineDoc) → IsMachine m → machine_said (machine_data m) ≡ Ok m
unfolding members_said machine_data machine_object serde_json_on_literals
machine_back m h = λ i.
    result_and_then (λ failing. result_and_then (λ state. Ok (record { failing = failing; state = state }))
    (records_from m.state [] h.1 h.0 i)) (failing_from m.failing [] i)

-- ---- its text is read back

records_small : (rs : State) → list_all are_properties rs ≡ true → members_have_small (record_members rs) ≡ true
records_small [] h = refl
records_small (r ∷ rs) h =
    both_true (settings_small r.1 (second_so (is_rising (setting_names r.1)) _ (first_so (are_properties r) _ h)))
    (records_small rs (second_so (are_properties r) _ h))

record_names : (rs : State) → names (record_members rs) ≡ keys rs
record_names [] = refl
record_names (r ∷ rs) = ap (λ ns. r.0 ∷ ns) (record_names rs)

records_rise : (rs : State) → list_all are_properties rs ≡ true → members_have_rising (record_members rs) ≡ true
records_rise [] h = refl
records_rise (r ∷ rs) h =
    both_true (object_rises r.1 (first_so (is_rising (setting_names r.1)) _ (first_so (are_properties r) _ h)))
    (records_rise rs (second_so (are_properties r) _ h))

machine_small : (m : MachineDoc) → IsMachine m → has_small (machine_data m) ≡ true
unfolding machine_data machine_object
machine_small m h = both_true (all_small string (λ t. refl) m.failing) (both_true (records_small m.state h.1) refl)

machine_rises : (m : MachineDoc) → IsMachine m → has_rising (machine_data m) ≡ true
unfolding machine_data machine_object
machine_rises m h =
    both_true (all_rise string (λ t. refl) m.failing)
    (both_true (both_true (ap is_rising (record_names m.state) ∙ h.0) (records_rise m.state h.1)) refl)

pub machine_complete : (m : MachineDoc) (l : List ℕ) → length l < 2 ^ 64 → IsMachineLine m l → machine_in l ≡ Some m
machine_complete m l short (h, deep, e) =
    ap (option_and_then (machine_written l))
    (ap read e ∙ read_written (machine_data m) (machine_small m h) (machine_rises m h) deep)
    ∙ ap (λ o. option_and_then (if_written l) (unless_refused o)) (machine_back m h)
    ∙ ap (λ b. if b then Some m else None) (is_same (machine_text m) l e)

abbrev value_or : {A : Type 0} → A → Result A (List ℕ) → A
value_or d (Ok a) = a
value_or d (Err p) = d

pub machines_told_apart : MachinesAreToldApart
machines_told_apart m n h k same =
    let e = one_value (machine_data m) (machine_data n) (machine_small m h) (machine_small n k) same in
    ap (value_or m) (sym (machine_back m h) ∙ ap machine_said e ∙ machine_back n k)

-- ---- nothing else is read

abbrev EachOk : {A : Type 0} → (A → Bool) → Result A (List ℕ) → Type 0
EachOk f (Ok a) = f a ≡ true
EachOk f (Err p) = ⊤

ok_then : {A B : Type 0} (f : A → Bool) (g : B → Bool) (h : A → Result B (List ℕ)) →
    ((a : A) → f a ≡ true → EachOk g (h a)) → (m : Result A (List ℕ)) → EachOk f m → EachOk g (result_and_then h m)
ok_then f g h k (Ok a) x = k a x
ok_then f g h k (Err p) x = tt

ok_from : {A : Type 0} (f : A → Bool) (o : Option A) (p : List ℕ) → Each f o → EachOk f (ok_or o p)
ok_from f None p x = tt
ok_from f (Some a) p x = x

ok_any : {A : Type 0} (m : Result A (List ℕ)) → EachOk any m
ok_any (Ok a) = refl
ok_any (Err p) = tt

each_said : {A : Type 0} (f : A → Bool) (o : Option A) → ((a : A) → o ≡ Some a → f a ≡ true) → Each f o
each_said f None h = tt
each_said f (Some a) h = h a refl

-- entries whose keys rise, and whose values pass
abbrev are_kept : {X : Type 0} → (X → Bool) → List (List ℕ × X) → Bool
are_kept g es = is_rising (keys es) && list_all (λ e. g e.1) es

keys_put : {X : Type 0} (k : List ℕ) (v : X) (es : List (List ℕ × X)) →
    keys (put text_cmp k v es) ≡ insert_key text_cmp (keys es) k
keys_put k v [] = refl
keys_put k v (e ∷ es) =
    elim (text_cmp k e.0) as (λ o. keys (by_order o ((k, v) ∷ e ∷ es) ((e.0, v) ∷ es) (e ∷ put text_cmp k v es))
    ≡ match_ordering o (k ∷ e.0 ∷ keys es) (e.0 ∷ keys es) (e.0 ∷ insert_key text_cmp (keys es) k)) [
      | Less ↦ refl
      | Equal ↦ refl
      | Greater ↦ ap (λ ns. e.0 ∷ ns) (keys_put k v es)
    ]

values_put : {X : Type 0} (g : X → Bool) (k : List ℕ) (v : X) (es : List (List ℕ × X)) → g v ≡ true →
    list_all (λ e. g e.1) es ≡ true → list_all (λ e. g e.1) (put text_cmp k v es) ≡ true
values_put g k v [] h r = both_true h refl
values_put g k v (e ∷ es) h r =
    elim (text_cmp k e.0) as (λ o. list_all (λ e. g e.1)
    (by_order o ((k, v) ∷ e ∷ es) ((e.0, v) ∷ es) (e ∷ put text_cmp k v es)) ≡ true) [
      | Less ↦ both_true h r
      | Equal ↦ both_true h (second_so (g e.1) _ r)
      | Greater ↦ both_true (first_so (g e.1) _ r) (values_put g k v es h (second_so (g e.1) _ r))
    ]

put_kept : {X : Type 0} (g : X → Bool) (k : List ℕ) (v : X) (es : List (List ℕ × X)) → g v ≡ true →
    are_kept g es ≡ true → are_kept g (put text_cmp k v es) ≡ true
put_kept g k v es h r =
    both_true (ap is_rising (keys_put k v es) ∙ is_rising-insert_key (keys es) k (first_so (is_rising (keys es)) _ r))
    (values_put g k v es h (second_so (is_rising (keys es)) _ r))

properties_kept : (key : List ℕ) (ms : Members) (ps : List Setting) → are_members_read ms ≡ true →
    are_kept is_proper ps ≡ true → EachOk (are_kept is_proper) (with_properties key ms ps)
unfolding with_properties
properties_kept key no_members ps r h = h
properties_kept key (member name d ms) ps r h =
    ok_then (are_kept is_proper) (are_kept is_proper) (with_properties key ms)
    (λ qs k. properties_kept key ms qs (second_so (is_read d) _ r) k) (with_property key ps name d)
    (ok_then is_proper (are_kept is_proper) (λ v. Ok (put text_cmp name v ps)) (λ v k. put_kept is_proper name v ps k h)
    (property_value key name d)
    (ok_from is_proper (value_of d) _ (each_said is_proper (value_of d) (λ v e. read_is_proper d v (first_so (is_read d) _ r) e))))

object_read : (d : Data) → is_read d ≡ true → Each are_members_read (as_object d)
object_read j.null r = tt
object_read (j.boolean b) r = tt
object_read (j.number n) r = tt
object_read (string s) r = tt
object_read (array ds) r = tt
object_read (object ms) r = second_so (is_rising (names ms)) _ r

abbrev are_own : List Setting → Bool
are_own ps = are_kept is_proper ps

record_kept : (key : List ℕ) (d : Data) → is_read d ≡ true → EachOk are_own (all_properties key d)
record_kept key d r =
    ok_then are_members_read are_own (λ ms. with_properties key ms []) (λ ms k. properties_kept key ms [] k refl)
    (ok_or (as_object d) (record_path key)) (ok_from are_members_read (as_object d) _ (object_read d r))

records_kept : (ms : Members) (state : State) → are_members_read ms ≡ true → are_kept are_own state ≡ true →
    EachOk (are_kept are_own) (with_records ms state)
unfolding with_records
records_kept no_members state r h = h
records_kept (member key d ms) state r h =
    ok_then (are_kept are_own) (are_kept are_own) (with_records ms)
    (λ more k. records_kept ms more (second_so (is_read d) _ r) k) (with_record state key d)
    (ok_then are_own (are_kept are_own) (λ ps. Ok (put text_cmp key ps state)) (λ ps k. put_kept are_own key ps state k h)
    (all_properties key d) (record_kept key d (first_so (is_read d) _ r)))

either_read : (o : Ordering) (a : Option Data) (e : Data) → Each is_read a → is_read e ≡ true →
    Each is_read (match_ordering o a (Some e) a)
either_read Less a e h k = h
either_read Equal a e h k = k
either_read Greater a e h k = h

member_read : (key : List ℕ) (ms : Members) → are_members_read ms ≡ true → Each is_read (get_member key ms)
member_read key no_members r = tt
member_read key (member l d ms) r =
    either_read (text_cmp key l) (get_member key ms) d (member_read key ms (second_so (is_read d) _ r))
    (first_so (is_read d) _ r)

got_read : (key : List ℕ) (d : Data) → is_read d ≡ true → Each is_read (get key d)
got_read key j.null r = tt
got_read key (j.boolean b) r = tt
got_read key (j.number n) r = tt
got_read key (string s) r = tt
got_read key (array ds) r = tt
got_read key (object ms) r = member_read key ms (second_so (is_rising (names ms)) _ r)

state_kept : (o : Option Data) → Each is_read o → EachOk (are_kept are_own) (given_state o)
state_kept None r = refl
state_kept (Some d) r =
    ok_then are_members_read (are_kept are_own) (λ ms. with_records ms []) (λ ms k. records_kept ms [] k refl)
    (ok_or (as_object d) (codes "machine.state")) (ok_from are_members_read (as_object d) _ (object_read d r))

abbrev is_machine : MachineDoc → Bool
is_machine m = are_kept are_own m.state

ok_if : (b : Bool) (m : Result MachineDoc (List ℕ)) (p : List ℕ) → EachOk is_machine m →
    EachOk is_machine (if b then m else Err p)
ok_if true m p h = h
ok_if false m p h = tt

said_kept : (d : Data) → is_read d ≡ true → EachOk is_machine (machine_said d)
unfolding members_said
said_kept d r =
    ok_if (is_some (as_object d)) (members_said d) (codes "machine") (ok_then any is_machine
    (λ failing. result_and_then (λ state. Ok (record { failing = failing; state = state }))
    (given_state (get (codes "state") d)))
    (λ failing k. ok_then (are_kept are_own) is_machine (λ state. Ok (record { failing = failing; state = state }))
    (λ state h. h) (given_state (get (codes "state") d)) (state_kept (get (codes "state") d) (got_read (codes "state") d r)))
    (given_failing (get (codes "failing") d)) (ok_any (given_failing (get (codes "failing") d))))

unrefused : (m : Result MachineDoc (List ℕ)) → EachOk is_machine m → Each is_machine (unless_refused m)
unrefused (Ok m) h = h
unrefused (Err p) h = tt

line_of : (l : List ℕ) (d : Data) (m : MachineDoc) → read l ≡ Some d → is_machine m ≡ true →
    bytes_eq (machine_text m) l ≡ true → IsMachineLine m l
line_of l d m e h w =
    let same : l ≡ machine_text m = same_bytes (machine_text m) l w in
    let is : IsMachine m = (first_so (is_rising (keys m.state)) _ h, second_so (is_rising (keys m.state)) _ h) in
    (is, shallow_if_read (machine_data m) d (machine_small m is) (ap read (sym same) ∙ e), same)

lines_of : (l : List ℕ) (o : Option Data) → read l ≡ o → Holds (λ m. IsMachineLine m l) (option_and_then (machine_written l) o)
lines_of l None e = tt
lines_of l (Some d) e =
    holds_then is_machine (λ m. IsMachineLine m l) (if_written l)
    (λ m h. holds_if (λ m. IsMachineLine m l) (bytes_eq (machine_text m) l) m (line_of l d m e h)) (said_by d)
    (unrefused (machine_said d) (said_kept d (read_is_read l d e)))

pub machine_sound : (m : MachineDoc) (l : List ℕ) → length l < 2 ^ 64 → machine_in l ≡ Some m → IsMachineLine m l
machine_sound m l short e = subst (Holds (λ m. IsMachineLine m l)) e (lines_of l (read l) refl)

pub machine_one : (m : MachineDoc) (l : List ℕ) → IsMachineLine m l → has_byte 10 l ≡ false
machine_one m l h = ap (has_byte 10) h.2 ∙ no_feed (machine_data m)

abbrev no_machine : MachineDoc
no_machine = record { failing = []; state = [] }

shallow : depth (machine_data no_machine) ≤ max_depth
unfolding machine_data machine_object
shallow = omega arith

pub some_machine : (m : MachineDoc) × (l : List ℕ) × IsMachineLine m l
some_machine = (no_machine, machine_text no_machine, ((refl, refl), shallow, refl))
