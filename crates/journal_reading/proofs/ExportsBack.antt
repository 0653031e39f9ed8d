-- The exported resource that its own JSON says is the resource, and what is said to be one is one.
use Rattle.std.proofs.Common.{◌≡◌, ℕ, ◌+◌, ◌-◌, ◌*◌, ◌/◌, ◌%◌, ◌^◌, ◌<◌, ◌≤◌, ◌==◌, Bool, true, false, ◌&&◌, ◌||◌, List, [], ◌∷◌, ◌++◌, map, codes, decimal, Some, None, option_map, option_and_then, refl, ap, ap₂, ◌∙◌, arith}
use Rattle.std.proofs.lemmas.Bool.{lt-ltb, ltb-true, eq-eqb}
use Rattle.std.proofs.lemmas.Fmt.{decimal_by_steps}
use Rattle.std.specs.Char.{is_ascii_digit, to_ascii_lowercase, to_ascii_uppercase}
use Rattle.std.specs.Cmp.{first_so, second_so}
use Rattle.std.specs.Cmp.Derive.{both_true}
use Rattle.std.specs.List.{list_all}
use Rattle.std.specs.Prelude.{if◌then◌else◌}
use Rattle.std.specs.Str.{str_to_ascii_lowercase}
use Rattle.serde_json.proofs.OnLiterals.{serde_json_on_literals}
use Rattle.serde_json.specs.Data.{Data, Items, no_items, item, Members, no_members, member, string, array}
use Rattle.serde_json.specs.View.{items_of}
use Rattle.pp_values.specs.Datum.{Datum}
use Rattle.pp_values.specs.Kinds.{is_kind, is_kind_byte, kind_of}
use Rattle.pp_values.specs.Plain.{is_plain_value}
use Rattle.pp_values.specs.Rising.{is_rising}
use Rattle.pp_values.specs.Settings.{Setting, setting_names}
use Rattle.pp_values.specs.Words.{capitalised_after, kind_text}
use Rattle.pp_values.specs.declared.place.Place.{Place}
use Rattle.res_core.specs.PlainAttributes.{are_plain}
use Rattle.res_core.specs.declared.exported.Exported.{Exported}
use Rattle.res_core.specs.declared.resource.Resource.{Resource}
use Rattle.json_values.specs.Forms.{value_of}
use Rattle.json_values.specs.FromData.{both}
use Rattle.json_values.specs.ValueForm.{form, setting_members}
use Rattle.json_documents.specs.ExactData.{has_rising, is_read, are_items_read, are_members_read}
use Rattle.json_documents.specs.LinesOfText.{has_byte}
use Rattle.json_documents.specs.ProperValues.{is_proper, have_proper}
use Rattle.json_documents.specs.SmallNumbers.{has_small}
use Rattle.json_documents.proofs.Cutting.{has_later, has_append}
use Rattle.json_documents.proofs.ReadData.{Each, any, all, each_map, each_then, each_if, each_both}
use Rattle.json_documents.proofs.ReadForms.{read_is_plain}
use Rattle.json_documents.proofs.SmallForms.{form_back, settings_small, object_rises, all_small, all_rise}
use Rattle.agent_docs.specs.ReportReading.{text_at, items_at, texts_said}
use Rattle.site_docs.specs.FaultText.{place_text}
use Rattle.site_docs.specs.JournalText.{export_object, export_data}
use Rattle.journal_reading.specs.Journals.{is_count, is_export}
use Rattle.journal_reading.specs.EntryReading.{cut_last, with_digit, digits_from, place_of, place_said, settings_said, if_rising, attributes_said, if_tags, tags_said, kind_said, name_said, resource_of, lists_said, if_plain, resource_said, export_said, exports_said}
use Rattle.journal_reading.specs.SiteReading.{members_at}
use Rattle.journal_reading.proofs.SitesBack.{members_read, value_proper}

-- ---- the digits of a number

digit_taken : (m n : ℕ) → n < 10 → m * 10 + n < 2 ^ 32 → with_digit m (48 + n) ≡ Some (m * 10 + n)
digit_taken m n small fits =
    let value : 48 + n - 48 ≡ n = omega arith in
    let digit : is_ascii_digit (48 + n) ≡ true = grind arith in
    rw (value, digit, lt-ltb (m * 10 + n) (2 ^ 32) fits) refl

digits_on : (m d : ℕ) (ds : List ℕ) →
    digits_from m (ds ++ d ∷ []) ≡ option_and_then (λ k. digits_from k (d ∷ [])) (digits_from m ds)
digits_on m d [] = refl
digits_on m d (b ∷ bs) =
    elim (with_digit m b) as (λ o. option_and_then (λ k. digits_from k (bs ++ d ∷ [])) o
    ≡ option_and_then (λ k. digits_from k (d ∷ [])) (option_and_then (λ k. digits_from k bs) o)) [
      | None ↦ refl
      | Some k ↦ digits_on k d bs
    ]

abbrev Reads : ℕ → List ℕ → Type 0
Reads n ds = n < 2 ^ 32 → digits_from 0 ds ≡ Some n

one_digit : (n : ℕ) → n < 10 → Reads n ((48 + n) ∷ [])
one_digit n small fits =
    let whole : 0 * 10 + n ≡ n = omega arith in
    ap (option_and_then (λ m. digits_from m [])) (digit_taken 0 n small (omega arith)) ∙ ap Some whole

more_digits : (n : ℕ) (ds : List ℕ) → 10 ≤ n → Reads (n / 10) ds → Reads n (ds ++ (48 + n % 10) ∷ [])
more_digits n ds large front fits =
    let last : n % 10 < 10 = omega arith in
    let whole : n / 10 * 10 + n % 10 ≡ n = omega arith in
    digits_on 0 (48 + n % 10) ds
    ∙ ap (option_and_then (λ k. digits_from k ((48 + n % 10) ∷ []))) (front (omega arith))
    ∙ ap (option_and_then (λ m. digits_from m [])) (digit_taken (n / 10) (n % 10) last (omega (arith, whole)))
    ∙ ap Some whole

digits_back : (n : ℕ) → n < 2 ^ 32 → digits_from 0 (decimal n) ≡ Some n
digits_back n fits = decimal_by_steps Reads one_digit more_digits n (omega arith) fits

-- ---- places

no_colon : (n : ℕ) → n < 10 → (48 + n == 58) ≡ false
no_colon n small = grind arith

digits_lack : (n : ℕ) → n < 2 ^ 64 → has_byte 58 (decimal n) ≡ false
digits_lack =
    decimal_by_steps (λ n ds. has_byte 58 ds ≡ false) (λ n small. ap (λ b. b || false) (no_colon n small))
    (λ n ds large front. has_append 58 ds ((48 + n % 10) ∷ []) front (ap (λ b. b || false) (no_colon (n % 10) (omega arith))))

pub last_cut : (c : ℕ) (xs ys : List ℕ) → has_byte c ys ≡ false → cut_last c (xs ++ c ∷ ys) ≡ Some (xs, ys)
last_cut c [] ys h = rw (h, eq-eqb c c refl) refl
last_cut c (x ∷ xs) ys h =
    rw (has_later c xs ys) (ap (option_map (λ p. (x ∷ p.0, p.1))) (last_cut c xs ys h))

pub not_cut : (c : ℕ) (bs : List ℕ) → has_byte c bs ≡ false → cut_last c bs ≡ None
not_cut c [] h = refl
not_cut c (b ∷ bs) h =
    let parts = or_parts (b == c) (has_byte c bs) h in rw (parts.1, parts.0) refl
  where
    or_parts : (a b : Bool) → (a || b) ≡ false → (a ≡ false) × (b ≡ false)
    or_parts true b e = absurd cc
    or_parts false b e = (refl, e)

place_back : (p : Place) → is_count p.line ≡ true → place_said (place_text p) ≡ Some p
place_back p h =
    let fits : p.line < 2 ^ 32 = ltb-true _ _ h in
    ap (option_and_then place_of) (last_cut 58 p.file (decimal p.line) (digits_lack p.line (omega arith)))
    ∙ ap (option_map (λ line. record { file = p.file; line = line })) (digits_back p.line fits)

-- ---- kinds as they are printed

abbrev shown : Bool → ℕ → ℕ
shown after b = if after then to_ascii_uppercase b else b

lower_again : (after : Bool) (b : ℕ) → is_kind_byte b ≡ true → to_ascii_lowercase (shown after b) ≡ b
lower_again true b h = grind arith
lower_again false b h = grind arith

lower_kind : (last : ℕ) (bs : List ℕ) → list_all is_kind_byte bs ≡ true →
    str_to_ascii_lowercase (capitalised_after last bs) ≡ bs
lower_kind last [] h = refl
lower_kind last (b ∷ bs) h =
    ap₂ (λ x xs. x ∷ xs) (lower_again (last == 58) b (first_so (is_kind_byte b) _ h))
    (lower_kind b bs (second_so (is_kind_byte b) _ h))

kind_bytes : (k : List ℕ) → is_kind k ≡ true → list_all is_kind_byte k ≡ true
kind_bytes [] h = refl
kind_bytes (b ∷ bs) h = h

kind_back : (k : List ℕ) → is_kind k ≡ true → kind_of (str_to_ascii_lowercase (kind_text k)) ≡ Some k
kind_back k h = ap kind_of (lower_kind 58 k (kind_bytes k h)) ∙ ap (λ b. if b then Some k else None) h

-- ---- attributes and tags

settings_back : (ss : List Setting) → have_proper ss ≡ true → settings_said (setting_members ss) ≡ Some ss
settings_back [] h = refl
settings_back (s ∷ ss) h =
    ap₂ (both (λ v rest. (s.0, v) ∷ rest)) (form_back s.1 (first_so (is_proper s.1) _ h))
    (settings_back ss (second_so (is_proper s.1) _ h))

attributes_back : (ss : List Setting) → is_rising (setting_names ss) ≡ true → have_proper ss ≡ true →
    option_and_then if_rising (settings_said (setting_members ss)) ≡ Some ss
attributes_back ss r h =
    ap (option_and_then if_rising) (settings_back ss h) ∙ ap (λ b. if b then Some ss else None) r

all_texts_back : (ts : List (List ℕ)) → texts_said (items_of (map string ts)) ≡ Some ts
all_texts_back [] = refl
all_texts_back (t ∷ ts) = ap (both (λ x xs. x ∷ xs) (Some t)) (all_texts_back ts)

tags_back : (ts : List (List ℕ)) → is_rising ts ≡ true →
    option_and_then if_tags (texts_said (items_of (map string ts))) ≡ Some ts
tags_back ts r = ap (option_and_then if_tags) (all_texts_back ts) ∙ ap (λ b. if b then Some ts else None) r

proper_is_plain : (v : Datum) → is_proper v ≡ true → is_plain_value v ≡ true
proper_is_plain v h = read_is_plain (form v) v (form_back v h)

all_plain : (ss : List Setting) → have_proper ss ≡ true → are_plain ss ≡ true
all_plain [] h = refl
all_plain (s ∷ ss) h =
    both_true (proper_is_plain s.1 (first_so (is_proper s.1) _ h)) (all_plain ss (second_so (is_proper s.1) _ h))

-- ---- exported resources

abbrev after_line : Exported → Bool
after_line e =
    is_kind e.item.kind && (is_rising (setting_names e.item.attributes) &&
    (have_proper e.item.attributes && is_rising e.item.tags))

abbrev after_kind : Exported → Bool
after_kind e = is_rising (setting_names e.item.attributes) && (have_proper e.item.attributes && is_rising e.item.tags)

abbrev after_names : Exported → Bool
after_names e = have_proper e.item.attributes && is_rising e.item.tags

record Parts (e : Exported) : Type 0 where
  line : is_count e.node_place.line ≡ true
  kind : is_kind e.item.kind ≡ true
  rising : is_rising (setting_names e.item.attributes) ≡ true
  proper : have_proper e.item.attributes ≡ true
  tags : is_rising e.item.tags ≡ true

parts_of : (e : Exported) → is_export e ≡ true → Parts e
parts_of e h =
    let a = second_so (is_count e.node_place.line) (after_line e) h in
    let b = second_so (is_kind e.item.kind) (after_kind e) a in
    let c = second_so (is_rising (setting_names e.item.attributes)) (after_names e) b in record {
      line = first_so (is_count e.node_place.line) (after_line e) h;
      kind = first_so (is_kind e.item.kind) (after_kind e) a;
      rising = first_so (is_rising (setting_names e.item.attributes)) (after_names e) b;
      proper = first_so (have_proper e.item.attributes) (is_rising e.item.tags) c;
      tags = second_so (have_proper e.item.attributes) (is_rising e.item.tags) c;
    }

export_back : (e : Exported) → is_export e ≡ true → export_said (export_data e) ≡ Some e
unfolding export_said export_data export_object serde_json_on_literals
export_back e h =
    let p = parts_of e h in
    (λ i. both (λ place item. record { node_place = place; item = item }) (place_back e.node_place p.line i)
    (option_and_then if_plain (both resource_of
    (both (λ kind title. (kind, title)) (kind_back e.item.kind p.kind i) (Some e.item.title))
    (both (λ attributes tags. (attributes, tags)) (attributes_back e.item.attributes p.rising p.proper i)
    (tags_back e.item.tags p.tags i)))))
    ∙ ap (λ b. both (λ place item. record { node_place = place; item = item }) (Some e.node_place)
    (if b then Some e.item else None)) (all_plain e.item.attributes p.proper)

pub exports_back : (es : List Exported) → list_all is_export es ≡ true →
    exports_said (items_of (map export_data es)) ≡ Some es
exports_back [] h = refl
exports_back (e ∷ es) h =
    ap₂ (both (λ x xs. x ∷ xs)) (export_back e (first_so (is_export e) _ h)) (exports_back es (second_so (is_export e) _ h))

export_small : (e : Exported) → is_export e ≡ true → has_small (export_data e) ≡ true
unfolding export_data export_object
export_small e h =
    both_true (settings_small e.item.attributes (parts_of e h).proper)
    (both_true (all_small string (λ t. refl) e.item.tags) refl)

export_rises : (e : Exported) → is_export e ≡ true → has_rising (export_data e) ≡ true
unfolding export_data export_object
export_rises e h =
    both_true (object_rises e.item.attributes (parts_of e h).rising)
    (both_true (all_rise string (λ t. refl) e.item.tags) refl)

pub exports_small : (es : List Exported) → list_all is_export es ≡ true →
    has_small (array (items_of (map export_data es))) ≡ true
exports_small [] h = refl
exports_small (e ∷ es) h =
    both_true (export_small e (first_so (is_export e) _ h)) (exports_small es (second_so (is_export e) _ h))

pub exports_rise : (es : List Exported) → list_all is_export es ≡ true →
    has_rising (array (items_of (map export_data es))) ≡ true
exports_rise [] h = refl
exports_rise (e ∷ es) h =
    both_true (export_rises e (first_so (is_export e) _ h)) (exports_rise es (second_so (is_export e) _ h))

-- ---- what is said is an exported resource

digit_counts : (n b : ℕ) → Each is_count (with_digit n b)
digit_counts n b =
    each_if is_count (is_ascii_digit b && is_count (n * 10 + (b - 48))) (Some (n * 10 + (b - 48))) None
    (λ e. second_so (is_ascii_digit b) _ e) (λ e. tt)

digits_count : (n : ℕ) (ds : List ℕ) → is_count n ≡ true → Each is_count (digits_from n ds)
digits_count n [] h = h
digits_count n (b ∷ bs) h =
    each_then is_count is_count (λ m. digits_from m bs) (λ m k. digits_count m bs k) (with_digit n b) (digit_counts n b)

abbrev good_place : Place → Bool
good_place p = is_count p.line

place_good : (t : List ℕ) → Each good_place (place_said t)
place_good t =
    each_then any good_place place_of
    (λ p h. each_map is_count good_place (λ line. record { file = p.0; line = line }) (λ n k. k) (digits_from 0 p.1)
    (digits_count 0 p.1 refl)) (cut_last 58 t) (all _)

abbrev good_name : List ℕ × List ℕ → Bool
good_name n = is_kind n.0

name_good : (d : Data) → Each good_name (name_said d)
name_good d =
    each_both is_kind any good_name (λ kind title. (kind, title)) (λ k t x y. x) (kind_said d) (text_at (codes "title") d)
    (each_then any is_kind (λ t. kind_of (str_to_ascii_lowercase t))
    (λ t h. each_if is_kind (is_kind (str_to_ascii_lowercase t)) (Some (str_to_ascii_lowercase t)) None (λ e. e) (λ e. tt))
    (text_at (codes "type") d) (all _)) (all _)

settings_proper : (ms : Members) → are_members_read ms ≡ true → Each have_proper (settings_said ms)
settings_proper no_members h = refl
settings_proper (member name d ms) h =
    each_both is_proper have_proper have_proper (λ v ss. (name, v) ∷ ss) (λ v ss x y. both_true x y) (value_of d)
    (settings_said ms) (value_proper d (first_so (is_read d) _ h)) (settings_proper ms (second_so (is_read d) _ h))

abbrev good_attributes : List Setting → Bool
good_attributes ss = is_rising (setting_names ss) && have_proper ss

attributes_good : (d : Data) → is_read d ≡ true → Each good_attributes (attributes_said d)
attributes_good d h =
    each_then have_proper good_attributes if_rising
    (λ ss p. each_if good_attributes (is_rising (setting_names ss)) (Some ss) None (λ e. both_true e p) (λ e. tt))
    (option_and_then settings_said (members_at (codes "attrs") d))
    (each_then are_members_read have_proper settings_said settings_proper (members_at (codes "attrs") d)
    (members_read (codes "attrs") d h))

tags_good : (d : Data) → Each is_rising (tags_said d)
tags_good d =
    each_then any is_rising if_tags (λ ts h. each_if is_rising (is_rising ts) (Some ts) None (λ e. e) (λ e. tt))
    (option_and_then texts_said (items_at (codes "tags") d)) (all _)

abbrev good_lists : List Setting × List (List ℕ) → Bool
good_lists l = good_attributes l.0 && is_rising l.1

abbrev good_resource : Resource → Bool
good_resource r = is_kind r.kind && (is_rising (setting_names r.attributes) && (have_proper r.attributes && is_rising r.tags))

lists_step : (k t : List ℕ) (ss : List Setting) (ts : List (List ℕ)) → is_kind k ≡ true → good_lists (ss, ts) ≡ true →
    good_resource (resource_of (k, t) (ss, ts)) ≡ true
lists_step k t ss ts h l =
    let a = first_so (good_attributes ss) _ l in
    both_true h (both_true (first_so (is_rising (setting_names ss)) _ a)
    (both_true (second_so (is_rising (setting_names ss)) _ a) (second_so (good_attributes ss) _ l)))

resource_good : (d : Data) → is_read d ≡ true → Each good_resource (resource_said d)
resource_good d h =
    each_then good_resource good_resource if_plain
    (λ r g. each_if good_resource (are_plain r.attributes) (Some r) None (λ e. g) (λ e. tt))
    (both resource_of (name_said d) (lists_said d))
    (each_both good_name good_lists good_resource resource_of (λ n l x y. lists_step n.0 n.1 l.0 l.1 x y)
    (name_said d) (lists_said d) (name_good d)
    (each_both good_attributes is_rising good_lists (λ attributes tags. (attributes, tags)) (λ a t x y. both_true x y)
    (attributes_said d) (tags_said d) (attributes_good d h) (tags_good d)))

export_good : (d : Data) → is_read d ≡ true → Each is_export (export_said d)
unfolding export_said
export_good d h =
    each_both good_place good_resource is_export (λ place item. record { node_place = place; item = item })
    (λ p r x y. both_true x y) (option_and_then place_said (text_at (codes "at") d)) (resource_said d)
    (each_then any good_place place_said (λ t k. place_good t) (text_at (codes "at") d) (all _)) (resource_good d h)

pub exports_good : (ds : Items) → are_items_read ds ≡ true → Each (list_all is_export) (exports_said ds)
exports_good no_items h = refl
exports_good (item d ds) h =
    each_both is_export (list_all is_export) (list_all is_export) (λ e es. e ∷ es) (λ e es x y. both_true x y)
    (export_said d) (exports_said ds) (export_good d (first_so (is_read d) _ h)) (exports_good ds (second_so (is_read d) _ h))
