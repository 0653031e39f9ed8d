-- The line of a catalog is read as that catalog.
use Rattle.std.proofs.Common.{◌≡◌, ℕ, ◌<◌, ◌^◌, ◌==◌, Bool, true, false, if◌then◌else◌, List, [], ◌∷◌, length, map, codes, Option, Some, None, option_and_then, refl, sym, ap, ap₂, ◌∙◌, arith}
use Rattle.std.proofs.lemmas.Bool.{lt-ltb, ltb-true}
use Rattle.std.specs.Char.{to_ascii_lowercase, to_ascii_uppercase}
use Rattle.std.specs.Cmp.{first_so, second_so}
use Rattle.std.specs.Cmp.Derive.{both_true}
use Rattle.std.specs.List.{list_all}
use Rattle.std.specs.Str.{str_to_ascii_lowercase}
use Rattle.serde_json.proofs.OnLiterals.{serde_json_on_literals}
use Rattle.serde_json.specs.Data.{Data, string, array}
use Rattle.serde_json.specs.Find.{as_str}
use Rattle.serde_json.specs.Read.{read}
use Rattle.serde_json.specs.View.{items_of}
use Rattle.pp_values.specs.Kinds.{is_kind, is_kind_byte, kind_of}
use Rattle.pp_values.specs.Rising.{is_rising}
use Rattle.pp_values.specs.Settings.{Setting, setting_names}
use Rattle.pp_values.specs.Words.{capitalised_after, kind_text}
use Rattle.res_core.specs.Catalogs.{Catalog, IsCatalog, has_form}
use Rattle.res_core.specs.declared.edge.Edge.{Edge}
use Rattle.res_core.specs.declared.held.Held.{Held}
use Rattle.json_values.specs.FromData.{both}
use Rattle.json_values.specs.ValueForm.{setting_members}
use Rattle.json_documents.specs.ExactData.{has_rising, items_have_rising}
use Rattle.json_documents.specs.ProperValues.{is_proper, have_proper}
use Rattle.json_documents.specs.SmallNumbers.{has_small, items_have_small}
use Rattle.json_documents.specs.Tokens.{index_data}
use Rattle.json_documents.proofs.ReadBack.{read_written}
use Rattle.json_documents.proofs.SmallForms.{form_back, settings_small, object_rises, all_small, all_rise}
use Rattle.agent_docs.proofs.ReportsRead.{is_same}
use Rattle.site_docs.specs.CatalogText.{held_object, held_data, edge_data, catalog_object, catalog_data, catalog_text}
use Rattle.catalog_reading.specs.CatalogDocuments.{is_index, is_kept, has_indexes, IsPlainCatalog, IsCatalogLine}
use Rattle.catalog_reading.specs.CatalogParts.{each_said, list_said, said_at, index_said, edge_of, edge_said, kind_in, settings_said, if_rising, tags_said, resource_of, resource_said, if_plain, held_said}
use Rattle.catalog_reading.specs.CatalogReading.{is_whole, parts_said, if_whole, catalog_said, if_written, catalog_written, catalog_in}

-- ---- a kind as it is printed

-- a byte as it stands after a colon, or after another byte
abbrev shown : Bool → ℕ → ℕ
shown after b = if after then to_ascii_uppercase b else b

lower_again : (after : Bool) (b : ℕ) → is_kind_byte b ≡ true → to_ascii_lowercase (shown after b) ≡ b
lower_again true b h = grind arith
lower_again false b h = grind arith

lower_kind : (last : ℕ) (bs : List ℕ) → list_all is_kind_byte bs ≡ true →
    str_to_ascii_lowercase (capitalised_after last bs) ≡ bs
lower_kind last [] h = refl
lower_kind last (b ∷ bs) h =
    ap₂ (λ x xs. x ∷ xs) (lower_again (last == 58) b (first_so (is_kind_byte b) _ h))
    (lower_kind b bs (second_so (is_kind_byte b) _ h))

kind_bytes : (k : List ℕ) → is_kind k ≡ true → list_all is_kind_byte k ≡ true
kind_bytes [] h = refl
kind_bytes (b ∷ bs) h = h

kind_back : (k : List ℕ) → is_kind k ≡ true → kind_in (kind_text k) ≡ Some k
kind_back k h = ap kind_of (lower_kind 58 k (kind_bytes k h)) ∙ ap (λ b. if b then Some k else None) h

-- ---- what the parts say

each_back : {A : Type 0} (said : Data → Option A) (f : A → Data) (p : A → Bool) →
    ((x : A) → p x ≡ true → said (f x) ≡ Some x) → (xs : List A) → list_all p xs ≡ true →
    each_said said (items_of (map f xs)) ≡ Some xs
each_back said f p one [] h = refl
each_back said f p one (x ∷ xs) h =
    ap₂ (both (λ y ys. y ∷ ys)) (one x (first_so (p x) _ h)) (each_back said f p one xs (second_so (p x) _ h))

texts_back : (ts : List (List ℕ)) → each_said as_str (items_of (map string ts)) ≡ Some ts
texts_back [] = refl
texts_back (t ∷ ts) = ap (λ o. both (λ x xs. x ∷ xs) (Some t) o) (texts_back ts)

index_back : (n : ℕ) → is_index n ≡ true → index_said (index_data n) ≡ Some n
index_back n h = ap (λ b. if b then Some n else None) h

edge_back : (e : Edge) → has_indexes e ≡ true → edge_said (edge_data e) ≡ Some e
unfolding edge_data
edge_back e h =
    ap₂ (λ a b. both edge_of a (both (λ to signal. (to, signal)) b (Some e.signal)))
    (index_back e.from (first_so (is_index e.from) _ h)) (index_back e.to (second_so (is_index e.from) _ h))

settings_back : (ss : List Setting) → have_proper ss ≡ true → settings_said (setting_members ss) ≡ Some ss
settings_back [] h = refl
settings_back (s ∷ ss) h =
    ap₂ (both (λ v rest. (s.0, v) ∷ rest)) (form_back s.1 (first_so (is_proper s.1) _ h))
    (settings_back ss (second_so (is_proper s.1) _ h))

tags_back : (ts : List (List ℕ)) → is_rising ts ≡ true → tags_said (array (items_of (map string ts))) ≡ Some ts
tags_back ts h = ap (option_and_then if_rising) (texts_back ts) ∙ ap (λ b. if b then Some ts else None) h

abbrev AreKept : Held → Type 0
AreKept h = (is_rising (setting_names h.item.attributes) ≡ true) × (have_proper h.item.attributes ≡ true)
    × (is_rising h.item.tags ≡ true) × (list_all is_index h.inside ≡ true)

kept_so : (h : Held) → is_kept h ≡ true → AreKept h
kept_so h e =
    let a = second_so (is_rising (setting_names h.item.attributes)) _ e in
    let b = second_so (have_proper h.item.attributes) _ a in (
      first_so (is_rising (setting_names h.item.attributes)) _ e,
      first_so (have_proper h.item.attributes) _ a,
      first_so (is_rising h.item.tags) _ b,
      second_so (is_rising h.item.tags) _ b,
    )

resource_back : (h : Held) → is_kept h ≡ true → has_form h ≡ true → resource_said (held_data h) ≡ Some h.item
unfolding resource_said held_data held_object serde_json_on_literals
resource_back h e f =
    let k = kept_so h e in λ i.
    both resource_of
    (both (λ kind title. (kind, title)) (kind_back h.item.kind (first_so (is_kind h.item.kind) _ f) i)
    (Some h.item.title))
    (both (λ attributes tags. (attributes, tags)) (settings_back h.item.attributes k.1 i) (tags_back h.item.tags k.2 i))

inside_back : (h : Held) → is_kept h ≡ true → said_at (list_said index_said) (codes "in") (held_data h) ≡ Some h.inside
unfolding held_data held_object serde_json_on_literals
inside_back h e = each_back index_said index_data is_index index_back h.inside ((kept_so h e).3)

held_back : (h : Held) → is_kept h ≡ true → has_form h ≡ true → held_said (held_data h) ≡ Some h
unfolding held_said
held_back h e f =
    ap₂ (both (λ item inside. record { item = item; inside = inside }))
    (ap (option_and_then if_plain) (resource_back h e f)
    ∙ ap (λ b. if b then Some h.item else None) (second_so (is_kind h.item.kind) _ f)) (inside_back h e)

resources_back : (hs : List Held) → list_all is_kept hs ≡ true → list_all has_form hs ≡ true →
    each_said held_said (items_of (map held_data hs)) ≡ Some hs
resources_back [] e f = refl
resources_back (h ∷ hs) e f =
    ap₂ (both (λ x xs. x ∷ xs)) (held_back h (first_so (is_kept h) _ e) (first_so (has_form h) _ f))
    (resources_back hs (second_so (is_kept h) _ e) (second_so (has_form h) _ f))

-- ---- what the catalog says

parts_back : (c : Catalog) → IsPlainCatalog c → parts_said (catalog_data c) ≡ Some (c.node, (c.resources, c.edges))
unfolding parts_said catalog_data catalog_object serde_json_on_literals
parts_back c p = λ i.
    both (λ node rest. (node, rest)) (Some c.node)
    (both (λ resources edges. (resources, edges)) (resources_back c.resources p.resources p.catalog.forms i)
    (each_back edge_said edge_data has_indexes edge_back c.edges p.edges i))

whole_back : (hs : List Held) (es : List Edge) → IsCatalog hs es → is_whole hs es ≡ true
unfolding is_whole
whole_back hs es c = both_true c.contained (both_true c.between (both_true c.ordered c.apart))

catalog_back : (c : Catalog) → IsPlainCatalog c → catalog_said (catalog_data c) ≡ Some c
catalog_back c p =
    ap (option_and_then if_whole) (parts_back c p)
    ∙ ap (λ b. if b then Some (record { node = c.node; resources = c.resources; edges = c.edges; log = [] }) else None)
    (whole_back c.resources c.edges p.catalog)
    ∙ ap (λ l. Some (record { node = c.node; resources = c.resources; edges = c.edges; log = l })) (sym p.log)

-- ---- its text is read back

small_index : (n : ℕ) → is_index n ≡ true → has_small (index_data n) ≡ true
small_index n h = let below : n < 2 ^ 32 = ltb-true _ _ h in lt-ltb n (2 ^ 64) (omega arith)

each_small : {X : Type 0} (f : X → Data) (p : X → Bool) → ((x : X) → p x ≡ true → has_small (f x) ≡ true) →
    (xs : List X) → list_all p xs ≡ true → items_have_small (items_of (map f xs)) ≡ true
each_small f p one [] h = refl
each_small f p one (x ∷ xs) h =
    both_true (one x (first_so (p x) _ h)) (each_small f p one xs (second_so (p x) _ h))

edge_small : (e : Edge) → has_indexes e ≡ true → has_small (edge_data e) ≡ true
unfolding edge_data
edge_small e h =
    both_true (small_index e.from (first_so (is_index e.from) _ h))
    (both_true (small_index e.to (second_so (is_index e.from) _ h)) refl)

held_small : (h : Held) → is_kept h ≡ true → has_small (held_data h) ≡ true
unfolding held_data held_object
held_small h e =
    let k = kept_so h e in
    both_true (settings_small h.item.attributes k.1)
    (both_true (each_small index_data is_index small_index h.inside k.3)
    (both_true (all_small string (λ t. refl) h.item.tags) refl))

pub catalog_small : (c : Catalog) → IsPlainCatalog c → has_small (catalog_data c) ≡ true
unfolding catalog_data catalog_object
catalog_small c p =
    both_true (each_small edge_data has_indexes edge_small c.edges p.edges)
    (both_true (each_small held_data is_kept held_small c.resources p.resources) refl)

each_rises : {X : Type 0} (f : X → Data) (p : X → Bool) → ((x : X) → p x ≡ true → has_rising (f x) ≡ true) →
    (xs : List X) → list_all p xs ≡ true → items_have_rising (items_of (map f xs)) ≡ true
each_rises f p one [] h = refl
each_rises f p one (x ∷ xs) h =
    both_true (one x (first_so (p x) _ h)) (each_rises f p one xs (second_so (p x) _ h))

edge_rises : (e : Edge) → has_rising (edge_data e) ≡ true
unfolding edge_data
edge_rises e = refl

held_rises : (h : Held) → is_kept h ≡ true → has_rising (held_data h) ≡ true
unfolding held_data held_object
held_rises h e =
    both_true (object_rises h.item.attributes (kept_so h e).0)
    (both_true (all_rise index_data (λ n. refl) h.inside)
    (both_true (all_rise string (λ t. refl) h.item.tags) refl))

catalog_rises : (c : Catalog) → IsPlainCatalog c → has_rising (catalog_data c) ≡ true
unfolding catalog_data catalog_object
catalog_rises c p =
    both_true (all_rise edge_data edge_rises c.edges)
    (both_true (each_rises held_data is_kept held_rises c.resources p.resources) refl)

pub catalog_complete : (c : Catalog) (l : List ℕ) → length l < 2 ^ 64 → IsCatalogLine c l → catalog_in l ≡ Some c
catalog_complete c l short (p, deep, e) =
    ap (option_and_then (catalog_written l))
    (ap read e ∙ read_written (catalog_data c) (catalog_small c p) (catalog_rises c p) deep)
    ∙ ap (option_and_then (if_written l)) (catalog_back c p)
    ∙ ap (λ b. if b then Some c else None) (is_same (catalog_text c) l e)
