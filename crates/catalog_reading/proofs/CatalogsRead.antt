-- No other line is read as a catalog.
use Rattle.std.proofs.Common.{Ordering, Less, Equal, Greater, ◌≡◌, ℕ, ◌<◌, ◌≤◌, ◌^◌, Bool, true, false, ◌&&◌, List, [], ◌∷◌, length, codes, Option, Some, None, option_and_then, refl, sym, ap, subst, ◌∙◌, arith}
use Rattle.std.specs.Cmp.{first_so, second_so}
use Rattle.std.specs.Cmp.Derive.{both_true}
use Rattle.std.specs.List.{list_all}
use Rattle.std.specs.Ordering.{match_ordering}
use Rattle.std.specs.Str.{bytes_eq, str_to_ascii_lowercase}
use Rattle.serde_json.specs.Data as j
use Rattle.serde_json.specs.Data.{Data, Items, no_items, item, Members, no_members, member, string, array, object, depth}
use Rattle.serde_json.specs.Find.{get, get_member, as_array, as_bool, as_number, as_str, as_u64}
use Rattle.serde_json.specs.Read.{max_depth, read}
use Rattle.pp_values.specs.Datum.{Datum}
use Rattle.pp_values.specs.Kinds.{is_kind}
use Rattle.pp_values.specs.Rising.{is_rising, text_cmp}
use Rattle.pp_values.specs.Settings.{Setting, setting_names}
use Rattle.res_core.specs.Catalogs.{Catalog, IsCatalog, edge_cmp, has_form, is_between, is_ordered}
use Rattle.res_core.specs.PlainAttributes.{are_plain}
use Rattle.res_core.specs.declared.edge.Edge.{Edge}
use Rattle.res_core.specs.declared.held.Held.{Held}
use Rattle.res_core.specs.declared.resource.Resource.{Resource}
use Rattle.json_values.specs.Forms.{value_of}
use Rattle.json_values.specs.FromData.{both}
use Rattle.json_documents.specs.ExactData.{names, is_read, are_items_read, are_members_read}
use Rattle.json_documents.specs.LinesOfText.{has_byte}
use Rattle.json_documents.specs.ProperValues.{is_proper, have_proper}
use Rattle.json_documents.proofs.Feeds.{no_feed}
use Rattle.json_documents.proofs.ReadBack.{shallow_if_read}
use Rattle.json_documents.proofs.ReadData.{Each, any, all, each_then, each_if, each_both, read_is_read}
use Rattle.json_documents.proofs.ReadForms.{read_is_proper}
use Rattle.agent_docs.proofs.ReportsRead.{Holds, holds_then, holds_if, same_bytes}
use Rattle.site_docs.specs.CatalogText.{catalog_object, catalog_data, catalog_text}
use Rattle.catalog_reading.specs.CatalogDocuments.{is_index, is_kept, has_indexes, IsPlainCatalog, IsCatalogLine}
use Rattle.catalog_reading.specs.CatalogParts.{each_said, list_said, said_at, if_index, index_said, edge_of, edge_in, edge_said, kind_in, kind_said, settings_said, attributes_said, if_rising, tags_said, resource_of, name_said, resource_said, if_plain, held_said}
use Rattle.catalog_reading.proofs.CatalogsBack.{catalog_small}
use Rattle.catalog_reading.specs.CatalogReading.{are_contained, is_whole, parts_said, if_whole, catalog_said, if_written, catalog_written, catalog_in}

-- ---- nothing else is read

each_known : {A : Type 0} (f : A → Bool) (o : Option A) → ((a : A) → o ≡ Some a → f a ≡ true) → Each f o
each_known f None h = tt
each_known f (Some a) h = h a refl

each_kept : {A : Type 0} (p : A → Bool) (said : Data → Option A) → ((d : Data) → is_read d ≡ true → Each p (said d)) →
    (ds : Items) → are_items_read ds ≡ true → Each (list_all p) (each_said said ds)
each_kept p said one no_items r = refl
each_kept p said one (item d ds) r =
    each_both p (list_all p) (list_all p) (λ x xs. x ∷ xs) (λ x xs a b. both_true a b) (said d) (each_said said ds)
    (one d (first_so (is_read d) _ r)) (each_kept p said one ds (second_so (is_read d) _ r))

array_read : (d : Data) → is_read d ≡ true → Each are_items_read (as_array d)
array_read j.null r = tt
array_read (j.boolean b) r = tt
array_read (j.number n) r = tt
array_read (string s) r = tt
array_read (array ds) r = r
array_read (object ms) r = tt

list_kept : {A : Type 0} (p : A → Bool) (said : Data → Option A) → ((d : Data) → is_read d ≡ true → Each p (said d)) →
    (d : Data) → is_read d ≡ true → Each (list_all p) (list_said said d)
list_kept p said one d r =
    each_then are_items_read (list_all p) (each_said said) (each_kept p said one) (as_array d) (array_read d r)

index_kept : (d : Data) → Each is_index (index_said d)
index_kept d =
    each_then any is_index if_index (λ n h. each_if is_index (is_index n) (Some n) None (λ e. e) (λ e. tt))
    (option_and_then as_u64 (as_number d)) (all _)

edge_in_kept : (ds : Items) → Each has_indexes (edge_in ds)
edge_in_kept no_items = tt
edge_in_kept (item a no_items) = tt
edge_in_kept (item a (item b no_items)) = tt
edge_in_kept (item a (item b (item c no_items))) =
    each_both is_index (λ r. is_index r.0) has_indexes edge_of (λ x y g h. both_true g h) (index_said a)
    (both (λ to signal. (to, signal)) (index_said b) (as_bool c)) (index_kept a)
    (each_both is_index any (λ r. is_index r.0) (λ to signal. (to, signal)) (λ x y g h. g) (index_said b) (as_bool c)
    (index_kept b) (all _))
edge_in_kept (item a (item b (item c (item d ds)))) = tt

edge_kept : (d : Data) → Each has_indexes (edge_said d)
edge_kept d = each_then any has_indexes edge_in (λ ds h. edge_in_kept ds) (as_array d) (all _)

-- ---- attributes

value_kept : (d : Data) → is_read d ≡ true → Each is_proper (value_of d)
value_kept d r = each_known is_proper (value_of d) (λ v e. read_is_proper d v r e)

settings_kept : (ms : Members) → are_members_read ms ≡ true → Each have_proper (settings_said ms)
settings_kept no_members r = refl
settings_kept (member k d ms) r =
    each_both is_proper have_proper have_proper (λ v ss. (k, v) ∷ ss) (λ v ss x y. both_true x y) (value_of d)
    (settings_said ms) (value_kept d (first_so (is_read d) _ r)) (settings_kept ms (second_so (is_read d) _ r))

-- the names of what was read are those of the members
named : (k : List ℕ) (ns : List (List ℕ)) (o : Option Datum) (p : Option (List Setting)) →
    Holds (λ ss. setting_names ss ≡ ns) p → Holds (λ ss. setting_names ss ≡ k ∷ ns) (both (λ v ss. (k, v) ∷ ss) o p)
named k ns None p h = tt
named k ns (Some v) None h = tt
named k ns (Some v) (Some ss) h = ap (λ xs. k ∷ xs) h

pub all_named : (ms : Members) → Holds (λ ss. setting_names ss ≡ names ms) (settings_said ms)
all_named no_members = refl
all_named (member k d ms) = named k (names ms) (value_of d) (settings_said ms) (all_named ms)

abbrev are_own : List Setting → Bool
are_own ss = is_rising (setting_names ss) && have_proper ss

members_kept : (ms : Members) → (is_rising (names ms) && are_members_read ms) ≡ true → Each are_own (settings_said ms)
members_kept ms r =
    each_known are_own (settings_said ms) (λ ss e. both_true
    (ap is_rising (subst (Holds (λ xs. setting_names xs ≡ names ms)) e (all_named ms))
    ∙ first_so (is_rising (names ms)) _ r)
    (subst (Each have_proper) e (settings_kept ms (second_so (is_rising (names ms)) _ r))))

attributes_kept : (d : Data) → is_read d ≡ true → Each are_own (attributes_said d)
attributes_kept j.null r = tt
attributes_kept (j.boolean b) r = tt
attributes_kept (j.number n) r = tt
attributes_kept (string s) r = tt
attributes_kept (array ds) r = tt
attributes_kept (object ms) r = members_kept ms r

-- ---- members by name

either_read : (o : Ordering) (a : Option Data) (e : Data) → Each is_read a → is_read e ≡ true →
    Each is_read (match_ordering o a (Some e) a)
either_read Less a e h k = h
either_read Equal a e h k = k
either_read Greater a e h k = h

member_read : (key : List ℕ) (ms : Members) → are_members_read ms ≡ true → Each is_read (get_member key ms)
member_read key no_members r = tt
member_read key (member l d ms) r =
    either_read (text_cmp key l) (get_member key ms) d (member_read key ms (second_so (is_read d) _ r))
    (first_so (is_read d) _ r)

got_read : (key : List ℕ) (d : Data) → is_read d ≡ true → Each is_read (get key d)
got_read key j.null r = tt
got_read key (j.boolean b) r = tt
got_read key (j.number n) r = tt
got_read key (string s) r = tt
got_read key (array ds) r = tt
got_read key (object ms) r = member_read key ms (second_so (is_rising (names ms)) _ r)

at_kept : {A : Type 0} (p : A → Bool) (said : Data → Option A) → ((d : Data) → is_read d ≡ true → Each p (said d)) →
    (key : List ℕ) (d : Data) → is_read d ≡ true → Each p (said_at said key d)
at_kept p said one key d r = each_then is_read p said one (get key d) (got_read key d r)

-- ---- resources

kind_kept : (d : Data) → Each is_kind (kind_said d)
kind_kept d =
    each_then any is_kind kind_in
    (λ t h. each_if is_kind (is_kind (str_to_ascii_lowercase t)) (Some (str_to_ascii_lowercase t)) None
    (λ e. e) (λ e. tt)) (as_str d) (all _)

tags_kept : (d : Data) → Each is_rising (tags_said d)
tags_kept d =
    each_then any is_rising if_rising (λ ts h. each_if is_rising (is_rising ts) (Some ts) None (λ e. e) (λ e. tt))
    (list_said as_str d) (all _)

name_kept : (d : Data) → Each (λ n. is_kind n.0) (name_said d)
name_kept d =
    each_both is_kind any (λ n. is_kind n.0) (λ kind title. (kind, title)) (λ k t x y. x) (said_at kind_said (codes "type") d)
    (said_at as_str (codes "title") d)
    (each_then any is_kind kind_said (λ e h. kind_kept e) (get (codes "type") d) (all _)) (all _)

abbrev has_kind : Resource → Bool
has_kind r = is_kind r.kind

kind_of_resource : (d : Data) → Each has_kind (resource_said d)
unfolding resource_said
kind_of_resource d =
    each_both (λ n. is_kind n.0) any has_kind resource_of (λ n rest x y. x) (name_said d)
    (both (λ attributes tags. (attributes, tags)) (said_at attributes_said (codes "attrs") d) (said_at tags_said (codes "tags") d))
    (name_kept d) (all _)

abbrev is_formed : Resource → Bool
is_formed r = is_kind r.kind && are_plain r.attributes

resource_formed : (d : Data) → Each is_formed (option_and_then if_plain (resource_said d))
resource_formed d =
    each_then has_kind is_formed if_plain
    (λ r h. each_if is_formed (are_plain r.attributes) (Some r) None (λ e. both_true h e) (λ e. tt)) (resource_said d)
    (kind_of_resource d)

held_formed : (d : Data) → Each has_form (held_said d)
unfolding held_said
held_formed d =
    each_both is_formed any has_form (λ item inside. record { item = item; inside = inside }) (λ r is x y. x)
    (option_and_then if_plain (resource_said d)) (said_at (list_said index_said) (codes "in") d) (resource_formed d) (all _)

all_formed : (ds : Items) → Each (list_all has_form) (each_said held_said ds)
all_formed no_items = refl
all_formed (item d ds) =
    each_both has_form (list_all has_form) (list_all has_form) (λ x xs. x ∷ xs) (λ x xs a b. both_true a b)
    (held_said d) (each_said held_said ds) (held_formed d) (all_formed ds)

abbrev is_sound : Resource → Bool
is_sound r = are_own r.attributes && is_rising r.tags

resource_kept : (d : Data) → is_read d ≡ true → Each is_sound (resource_said d)
unfolding resource_said
resource_kept d r =
    each_both any (λ rest. are_own rest.0 && is_rising rest.1) is_sound resource_of (λ n rest x y. y) (name_said d)
    (both (λ attributes tags. (attributes, tags)) (said_at attributes_said (codes "attrs") d) (said_at tags_said (codes "tags") d))
    (all _)
    (each_both are_own is_rising (λ rest. are_own rest.0 && is_rising rest.1) (λ attributes tags. (attributes, tags))
    (λ a t x y. both_true x y) (said_at attributes_said (codes "attrs") d) (said_at tags_said (codes "tags") d)
    (at_kept are_own attributes_said attributes_kept (codes "attrs") d r)
    (each_then any is_rising tags_said (λ e h. tags_kept e) (get (codes "tags") d) (all _)))

plain_kept : (d : Data) → is_read d ≡ true → Each is_sound (option_and_then if_plain (resource_said d))
plain_kept d r =
    each_then is_sound is_sound if_plain
    (λ s h. each_if is_sound (are_plain s.attributes) (Some s) None (λ e. h) (λ e. tt)) (resource_said d)
    (resource_kept d r)

inside_kept : (d : Data) → is_read d ≡ true → Each (list_all is_index) (said_at (list_said index_said) (codes "in") d)
inside_kept d r =
    at_kept (list_all is_index) (list_said index_said) (list_kept is_index index_said (λ e h. index_kept e)) (codes "in") d r

put_together : (r : Resource) (is : List ℕ) → is_sound r ≡ true → list_all is_index is ≡ true →
    is_kept (record { item = r; inside = is }) ≡ true
put_together r is h g =
    let own = first_so (are_own r.attributes) _ h in
    both_true (first_so (is_rising (setting_names r.attributes)) _ own)
    (both_true (second_so (is_rising (setting_names r.attributes)) _ own)
    (both_true (second_so (are_own r.attributes) _ h) g))

held_kept : (d : Data) → is_read d ≡ true → Each is_kept (held_said d)
unfolding held_said
held_kept d r =
    each_both is_sound (list_all is_index) is_kept (λ item inside. record { item = item; inside = inside }) put_together
    (option_and_then if_plain (resource_said d)) (said_at (list_said index_said) (codes "in") d) (plain_kept d r)
    (inside_kept d r)

-- ---- the catalog

abbrev Parts : Type 0
Parts = List ℕ × (List Held × List Edge)

parts_formed : (d : Data) → Each (λ (p : Parts). list_all has_form p.1.0) (parts_said d)
unfolding parts_said
parts_formed d =
    each_both any (λ (r : List Held × List Edge). list_all has_form r.0) (λ (p : Parts). list_all has_form p.1.0)
    (λ node rest. (node, rest)) (λ n r x y. y) (said_at as_str (codes "node") d)
    (both (λ resources edges. (resources, edges)) (said_at (list_said held_said) (codes "resources") d)
    (said_at (list_said edge_said) (codes "edges") d)) (all _)
    (each_both (list_all has_form) any (λ (r : List Held × List Edge). list_all has_form r.0)
    (λ resources edges. (resources, edges)) (λ hs es x y. x) (said_at (list_said held_said) (codes "resources") d)
    (said_at (list_said edge_said) (codes "edges") d)
    (each_then any (list_all has_form) (list_said held_said)
    (λ e h. each_then any (list_all has_form) (each_said held_said) (λ ds g. all_formed ds) (as_array e) (all _)) (get (codes "resources") d) (all _)) (all _))

pub resources_formed : (d : Data) (p : Parts) → parts_said d ≡ Some p → list_all has_form p.1.0 ≡ true
resources_formed d p e = subst (Each (λ (q : Parts). list_all has_form q.1.0)) e (parts_formed d)

abbrev are_kept : Parts → Bool
are_kept p = list_all is_kept p.1.0 && list_all has_indexes p.1.1

parts_kept : (d : Data) → is_read d ≡ true → Each are_kept (parts_said d)
unfolding parts_said
parts_kept d r =
    each_both any (λ (r : List Held × List Edge). list_all is_kept r.0 && list_all has_indexes r.1) are_kept
    (λ node rest. (node, rest)) (λ n r x y. y) (said_at as_str (codes "node") d)
    (both (λ resources edges. (resources, edges)) (said_at (list_said held_said) (codes "resources") d)
    (said_at (list_said edge_said) (codes "edges") d)) (all _)
    (each_both (list_all is_kept) (list_all has_indexes)
    (λ (r : List Held × List Edge). list_all is_kept r.0 && list_all has_indexes r.1)
    (λ resources edges. (resources, edges)) (λ hs es x y. both_true x y) (said_at (list_said held_said) (codes "resources") d)
    (said_at (list_said edge_said) (codes "edges") d)
    (at_kept (list_all is_kept) (list_said held_said) (list_kept is_kept held_said held_kept) (codes "resources") d r)
    (at_kept (list_all has_indexes) (list_said edge_said) (list_kept has_indexes edge_said (λ e h. edge_kept e))
    (codes "edges") d r))

pub is_catalog : (hs : List Held) (es : List Edge) → list_all has_form hs ≡ true → is_whole hs es ≡ true →
    IsCatalog hs es
unfolding is_whole
is_catalog hs es f w =
    let a = second_so (are_contained (length hs) hs) _ w in
    let b = second_so (list_all (is_between (length hs)) es) _ a in record {
      apart = second_so (is_ordered edge_cmp es) _ b;
      contained = first_so (are_contained (length hs) hs) _ w;
      forms = f;
      between = first_so (list_all (is_between (length hs)) es) _ a;
      ordered = first_so (is_ordered edge_cmp es) _ b;
    }

plain_catalog : (p : Parts) → list_all has_form p.1.0 ≡ true → are_kept p ≡ true → is_whole p.1.0 p.1.1 ≡ true →
    IsPlainCatalog (record { node = p.0; resources = p.1.0; edges = p.1.1; log = [] })
plain_catalog p f k w = record {
  catalog = is_catalog p.1.0 p.1.1 f w;
  resources = first_so (list_all is_kept p.1.0) _ k;
  edges = second_so (list_all is_kept p.1.0) _ k;
  log = refl;
}

abbrev are_sound : Parts → Bool
are_sound p = list_all has_form p.1.0 && are_kept p

both_each : {A : Type 0} (f g : A → Bool) (o : Option A) → Each f o → Each g o → Each (λ a. f a && g a) o
both_each f g None h k = tt
both_each f g (Some a) h k = both_true h k

parts_sound : (d : Data) → is_read d ≡ true → Each are_sound (parts_said d)
parts_sound d r =
    both_each (λ (p : Parts). list_all has_form p.1.0) are_kept (parts_said d) (parts_formed d) (parts_kept d r)

said_plain : (d : Data) → is_read d ≡ true → Holds IsPlainCatalog (catalog_said d)
said_plain d r =
    holds_then are_sound IsPlainCatalog if_whole
    (λ p h. holds_if IsPlainCatalog (is_whole p.1.0 p.1.1)
    (record { node = p.0; resources = p.1.0; edges = p.1.1; log = [] })
    (plain_catalog p (first_so (list_all has_form p.1.0) _ h) (second_so (list_all has_form p.1.0) _ h)))
    (parts_said d) (parts_sound d r)

line_of : (l : List ℕ) (d : Data) (c : Catalog) → read l ≡ Some d → IsPlainCatalog c →
    bytes_eq (catalog_text c) l ≡ true → IsCatalogLine c l
line_of l d c e p w =
    let same : l ≡ catalog_text c = same_bytes (catalog_text c) l w in
    (p, shallow_if_read (catalog_data c) d (catalog_small c p) (ap read (sym same) ∙ e), same)

written_line : (l : List ℕ) (d : Data) → read l ≡ Some d → (o : Option Catalog) → Holds IsPlainCatalog o →
    Holds (λ c. IsCatalogLine c l) (option_and_then (if_written l) o)
written_line l d e None h = tt
written_line l d e (Some c) h = holds_if (λ c. IsCatalogLine c l) (bytes_eq (catalog_text c) l) c (line_of l d c e h)

lines_of : (l : List ℕ) (o : Option Data) → read l ≡ o →
    Holds (λ c. IsCatalogLine c l) (option_and_then (catalog_written l) o)
lines_of l None e = tt
lines_of l (Some d) e = written_line l d e (catalog_said d) (said_plain d (read_is_read l d e))

pub catalog_sound : (c : Catalog) (l : List ℕ) → length l < 2 ^ 64 → catalog_in l ≡ Some c → IsCatalogLine c l
catalog_sound c l short e = subst (Holds (λ c. IsCatalogLine c l)) e (lines_of l (read l) refl)

pub catalog_one : (c : Catalog) (l : List ℕ) → IsCatalogLine c l → has_byte 10 l ≡ false
catalog_one c l h = ap (has_byte 10) h.2 ∙ no_feed (catalog_data c)

abbrev no_catalog : Catalog
no_catalog = record { node = []; resources = []; edges = []; log = [] }

shallow : depth (catalog_data no_catalog) ≤ max_depth
unfolding catalog_data catalog_object
shallow = omega arith

nothing : IsPlainCatalog no_catalog
nothing = record {
  catalog = record { apart = refl; contained = refl; forms = refl; between = refl; ordered = refl };
  resources = refl;
  edges = refl;
  log = refl;
}

pub some_catalog : (c : Catalog) × (l : List ℕ) × IsCatalogLine c l
some_catalog = (no_catalog, catalog_text no_catalog, (nothing, shallow, refl))
