-- What is read out of a form is plain, and what is read out of the form in a text is a proper value.
use Rattle.std.proofs.Common.{◌≡◌, ◌^◌, Bool, true, false, ◌&&◌, ◌||◌, not, nat_lt, List, [], ◌∷◌, pos, negsuc, Some, None, option_map, refl, ap, subst, ◌∙◌}
use Rattle.std.specs.Cmp.{first_so, second_so}
use Rattle.std.specs.Cmp.Derive.{both_true}
use Rattle.serde_json.specs.Data as j
use Rattle.serde_json.specs.Find.{as_i64}
use Rattle.pp_values.specs.Datum.{Datum, int, text, list, hash, Data, no_data, datum, Entries, no_entries, entry, Pair, pairs_of}
use Rattle.pp_values.specs.Keys.{are_distinct}
use Rattle.pp_values.specs.Kinds.{is_kind, kind_of}
use Rattle.pp_values.specs.Plain.{is_plain_value, are_plain_values, are_plain_pairs}
use Rattle.pp_values.specs.Rising.{is_rising}
use Rattle.json_values.specs.Forms.{value_of, values_of, members_of, object_value, marked_value, is_long, last_value, hash_in_turn, in_turn, long_hash, three, is_reference, reference_in, marked_reference, reference_of, reference_to}
use Rattle.json_values.specs.ValueForm.{is_plain}
use Rattle.json_documents.specs.ExactData.{names, is_number_read, is_read, are_items_read, are_members_read}
use Rattle.json_documents.specs.ProperValues.{is_integer, is_proper, are_proper, are_proper_pairs}
use Rattle.json_documents.proofs.Cutting.{or_right}
use Rattle.json_documents.proofs.ReadData.{Each, any, all, each_map, each_then, each_if, each_both}

or_left : (a b : Bool) → a ≡ true → (a || b) ≡ true
or_left true b e = refl
or_left false b e = absurd cc

proper_number : (n : j.Num) → is_number_read n ≡ true → Each is_proper (option_map int (as_i64 n))
proper_number (j.unsigned n) h =
    each_map is_integer is_proper int (λ z g. g) (as_i64 (j.unsigned n))
    (each_if is_integer (nat_lt n (2 ^ 63)) (Some (pos n)) None (λ e. e) (λ e. tt))
proper_number (j.negative (pos n)) h = absurd cc
proper_number (j.negative (negsuc n)) h = h
proper_number (j.float x) h = tt

plain_number : (n : j.Num) → Each is_plain_value (option_map int (as_i64 n))
plain_number n = each_map any is_plain_value int (λ z g. refl) (as_i64 n) (all (as_i64 n))

-- ---- proper values

abbrev proper_list : List Pair → Bool
proper_list [] = true
proper_list (p ∷ ps) = is_proper p.0 && (is_proper p.1 && proper_list ps)

proper_pairs : (es : Entries) → proper_list (pairs_of es) ≡ are_proper_pairs es
proper_pairs no_entries = refl
proper_pairs (entry k v es) = ap (λ b. is_proper k && (is_proper v && b)) (proper_pairs es)

proper_last : (ps : List Pair) → proper_list ps ≡ true → is_proper (last_value ps) ≡ true
proper_last [] h = refl
proper_last (p ∷ []) h = first_so (is_proper p.1) _ (second_so (is_proper p.0) _ h)
proper_last (p ∷ q ∷ ps) h = proper_last (q ∷ ps) (second_so (is_proper p.1) _ (second_so (is_proper p.0) _ h))

proper_turns : (ds : Data) → are_proper ds ≡ true → Each are_proper_pairs (in_turn ds)
proper_turns no_data h = refl
proper_turns (datum k no_data) h = tt
proper_turns (datum k (datum v ds)) h =
    let rest = second_so (is_proper k) _ h in
    each_map are_proper_pairs are_proper_pairs (entry k v)
    (λ es r. both_true (first_so (is_proper k) _ h) (both_true (first_so (is_proper v) _ rest) r)) (in_turn ds)
    (proper_turns ds (second_so (is_proper v) _ rest))

proper_long : (es : Entries) → are_proper_pairs es ≡ true → Each is_proper (long_hash es)
proper_long es h =
    each_if is_proper (are_distinct (pairs_of es) && not (is_plain es)) (Some (hash es)) None
    (λ e. both_true (or_right (is_plain es) _ (first_so (are_distinct (pairs_of es)) _ e)) h) (λ e. tt)

proper_in_turn : (v : Datum) → is_proper v ≡ true → Each is_proper (hash_in_turn v)
proper_in_turn (list ds) h = each_then are_proper_pairs is_proper long_hash proper_long (in_turn ds) (proper_turns ds h)
proper_in_turn v h = tt

proper_reference_of : (k t : Datum) → Each is_proper (reference_of k t)
proper_reference_of (text k) (text t) =
    each_map is_kind is_proper (λ name. reference_to name t) (λ name h. h) (kind_of k)
    (each_if is_kind (is_kind k) (Some k) None (λ e. e) (λ e. tt))
proper_reference_of k t = tt

proper_reference : (ms : Pair × (Pair × Pair)) → any ms ≡ true → Each is_proper (reference_in ms)
proper_reference ms h =
    each_if is_proper (is_reference ms.0 ms.1.0 ms.1.1) (reference_of ms.1.0.1 ms.1.1.1) None
    (λ e. proper_reference_of ms.1.0.1 ms.1.1.1) (λ e. tt)

proper_marked : (ps : List Pair) → proper_list ps ≡ true → Each is_proper (marked_value ps)
proper_marked ps h =
    each_if is_proper (is_long ps) (hash_in_turn (last_value ps)) (marked_reference ps)
    (λ e. proper_in_turn (last_value ps) (proper_last ps h))
    (λ e. each_then any is_proper reference_in proper_reference (three ps) (all (three ps)))

proper_object : (es : Entries) → are_proper_pairs es ≡ true → Each is_proper (object_value es)
proper_object es h =
    each_if is_proper (is_plain es) (Some (hash es)) (marked_value (pairs_of es))
    (λ e. both_true (or_left (is_plain es) _ e) h)
    (λ e. proper_marked (pairs_of es) (proper_pairs es ∙ h))

mutual
  proper_value : (d : j.Data) → is_read d ≡ true → Each is_proper (value_of d)
  proper_value j.null h = refl
  proper_value (j.boolean b) h = refl
  proper_value (j.number n) h = proper_number n h
  proper_value (j.string s) h = refl
  proper_value (j.array ds) h = each_map are_proper is_proper list (λ vs g. g) (values_of ds) (proper_items ds h)
  proper_value (j.object ms) h =
      each_then are_proper_pairs is_proper object_value proper_object (members_of ms) (proper_members ms (second_so (is_rising (names ms)) _ h))

  proper_items : (ds : j.Items) → are_items_read ds ≡ true → Each are_proper (values_of ds)
  proper_items j.no_items h = refl
  proper_items (j.item d ds) h =
      each_both is_proper are_proper are_proper datum (λ v vs x y. both_true x y) (value_of d) (values_of ds)
      (proper_value d (first_so (is_read d) _ h)) (proper_items ds (second_so (is_read d) _ h))

  proper_members : (ms : j.Members) → are_members_read ms ≡ true → Each are_proper_pairs (members_of ms)
  proper_members j.no_members h = refl
  proper_members (j.member k d ms) h =
      each_both is_proper are_proper_pairs are_proper_pairs (entry (text k)) (λ v es x y. both_true x y) (value_of d) (members_of ms)
      (proper_value d (first_so (is_read d) _ h)) (proper_members ms (second_so (is_read d) _ h))

-- a value that was read out of a text
pub read_is_proper : (d : j.Data) (v : Datum) → is_read d ≡ true → value_of d ≡ Some v → is_proper v ≡ true
read_is_proper d v h e = subst (Each is_proper) e (proper_value d h)

-- ---- plain values

abbrev plain_list : List Pair → Bool
plain_list [] = true
plain_list (p ∷ ps) = is_plain_value p.0 && (is_plain_value p.1 && plain_list ps)

plain_pairs : (es : Entries) → plain_list (pairs_of es) ≡ are_plain_pairs es
plain_pairs no_entries = refl
plain_pairs (entry k v es) = ap (λ b. is_plain_value k && (is_plain_value v && b)) (plain_pairs es)

plain_last : (ps : List Pair) → plain_list ps ≡ true → is_plain_value (last_value ps) ≡ true
plain_last [] h = refl
plain_last (p ∷ []) h = first_so (is_plain_value p.1) _ (second_so (is_plain_value p.0) _ h)
plain_last (p ∷ q ∷ ps) h = plain_last (q ∷ ps) (second_so (is_plain_value p.1) _ (second_so (is_plain_value p.0) _ h))

plain_turns : (ds : Data) → are_plain_values ds ≡ true → Each are_plain_pairs (in_turn ds)
plain_turns no_data h = refl
plain_turns (datum k no_data) h = tt
plain_turns (datum k (datum v ds)) h =
    let rest = second_so (is_plain_value k) _ h in
    each_map are_plain_pairs are_plain_pairs (entry k v)
    (λ es r. both_true (first_so (is_plain_value k) _ h) (both_true (first_so (is_plain_value v) _ rest) r)) (in_turn ds)
    (plain_turns ds (second_so (is_plain_value v) _ rest))

plain_long : (es : Entries) → are_plain_pairs es ≡ true → Each is_plain_value (long_hash es)
plain_long es h =
    each_if is_plain_value (are_distinct (pairs_of es) && not (is_plain es)) (Some (hash es)) None
    (λ e. h) (λ e. tt)

plain_in_turn : (v : Datum) → is_plain_value v ≡ true → Each is_plain_value (hash_in_turn v)
plain_in_turn (list ds) h = each_then are_plain_pairs is_plain_value long_hash plain_long (in_turn ds) (plain_turns ds h)
plain_in_turn v h = tt

plain_reference_of : (k t : Datum) → Each is_plain_value (reference_of k t)
plain_reference_of (text k) (text t) =
    each_map is_kind is_plain_value (λ name. reference_to name t) (λ name h. refl) (kind_of k)
    (each_if is_kind (is_kind k) (Some k) None (λ e. e) (λ e. tt))
plain_reference_of k t = tt

plain_reference : (ms : Pair × (Pair × Pair)) → any ms ≡ true → Each is_plain_value (reference_in ms)
plain_reference ms h =
    each_if is_plain_value (is_reference ms.0 ms.1.0 ms.1.1) (reference_of ms.1.0.1 ms.1.1.1) None
    (λ e. plain_reference_of ms.1.0.1 ms.1.1.1) (λ e. tt)

plain_marked : (ps : List Pair) → plain_list ps ≡ true → Each is_plain_value (marked_value ps)
plain_marked ps h =
    each_if is_plain_value (is_long ps) (hash_in_turn (last_value ps)) (marked_reference ps)
    (λ e. plain_in_turn (last_value ps) (plain_last ps h))
    (λ e. each_then any is_plain_value reference_in plain_reference (three ps) (all (three ps)))

plain_object : (es : Entries) → are_plain_pairs es ≡ true → Each is_plain_value (object_value es)
plain_object es h =
    each_if is_plain_value (is_plain es) (Some (hash es)) (marked_value (pairs_of es))
    (λ e. h)
    (λ e. plain_marked (pairs_of es) (plain_pairs es ∙ h))

mutual
  plain_value : (d : j.Data) → Each is_plain_value (value_of d)
  plain_value j.null = refl
  plain_value (j.boolean b) = refl
  plain_value (j.number n) = plain_number n
  plain_value (j.string s) = refl
  plain_value (j.array ds) = each_map are_plain_values is_plain_value list (λ vs g. g) (values_of ds) (plain_items ds)
  plain_value (j.object ms) =
      each_then are_plain_pairs is_plain_value object_value plain_object (members_of ms) (plain_members ms)

  plain_items : (ds : j.Items) → Each are_plain_values (values_of ds)
  plain_items j.no_items = refl
  plain_items (j.item d ds) =
      each_both is_plain_value are_plain_values are_plain_values datum (λ v vs x y. both_true x y) (value_of d) (values_of ds)
      (plain_value d) (plain_items ds)

  plain_members : (ms : j.Members) → Each are_plain_pairs (members_of ms)
  plain_members j.no_members = refl
  plain_members (j.member k d ms) =
      each_both is_plain_value are_plain_pairs are_plain_pairs (entry (text k)) (λ v es x y. both_true x y) (value_of d) (members_of ms)
      (plain_value d) (plain_members ms)

pub read_is_plain : (d : j.Data) (v : Datum) → value_of d ≡ Some v → is_plain_value v ≡ true
read_is_plain d v e = subst (Each is_plain_value) e (plain_value d)
