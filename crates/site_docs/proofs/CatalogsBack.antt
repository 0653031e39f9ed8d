-- Catalogs of one text are the same.
use Rattle.std.proofs.Common.{◌≡◌, ℕ, zero, suc, true, false, IsTrue, List, [], ◌∷◌, ◌++◌, map, codes, refl, sym, ap, ap₂, ◌∙◌}
use Rattle.std.specs.Cmp.{first_so, second_so}
use Rattle.std.specs.List.{list_all}
use Rattle.serde_json.specs.Data.{Data, null, string, array, object, Items, no_items, item}
use Rattle.pp_values.specs.Kinds.{is_kind}
use Rattle.pp_values.specs.Settings.{Setting}
use Rattle.pp_values.specs.Words.{kind_text}
use Rattle.pp_values.proofs.Printed.{printed_apart}
use Rattle.res_core.specs.Catalogs.{Catalog, has_form}
use Rattle.res_core.specs.declared.edge.Edge.{Edge}
use Rattle.res_core.specs.declared.held.Held.{Held}
use Rattle.json_documents.specs.Tokens.{index_data}
use Rattle.site_docs.specs.CatalogText.{held_object, held_data, edge_data, catalog_object, catalog_data}
use Rattle.site_docs.specs.DocumentLaws.{CatalogsAreToldApart}
use Rattle.json_documents.proofs.DocumentParts.{part, text_said, index_said, flag_said, list_said, items_back, all_back}
use Rattle.json_documents.proofs.ReadBack.{one_value}
use Rattle.json_documents.proofs.ValuesBack.{settings_said, settings_back}

-- ---- attributes

abbrev attributes_said : Data → List Setting
attributes_said (object ms) = settings_said ms
attributes_said d = []

-- ---- edges

abbrev item_at : ℕ → Items → Data
item_at n no_items = null
item_at zero (item d ds) = d
item_at (suc n) (item d ds) = item_at n ds

abbrev edge_said : Data → Edge
edge_said (array ds) =
    record { from = index_said (item_at 0 ds); to = index_said (item_at 1 ds); signal = flag_said (item_at 2 ds) }
edge_said d = record { from = 0; to = 0; signal = false }

edge_back : (e : Edge) → edge_said (edge_data e) ≡ e
unfolding edge_data
edge_back e = refl

-- ---- resources, with their kinds as they are printed

abbrev printed : Held → Held
printed h = record {
  item = record {
    kind = kind_text h.item.kind;
    title = h.item.title;
    attributes = h.item.attributes;
    tags = h.item.tags;
  };
  inside = h.inside;
}

abbrev held_said : Data → Held
held_said d = record {
  item = record {
    kind = text_said (part 4 d);
    title = text_said (part 3 d);
    attributes = attributes_said (part 0 d);
    tags = list_said text_said (part 2 d);
  };
  inside = list_said index_said (part 1 d);
}

held_back : (h : Held) → has_form h ≡ true → held_said (held_data h) ≡ printed h
unfolding held_data held_object
held_back h form = λ i. record {
  item = record {
    kind = kind_text h.item.kind;
    title = h.item.title;
    attributes = settings_back h.item.attributes (second_so (is_kind h.item.kind) _ form) i;
    tags = all_back text_said string (λ t. refl) h.item.tags i;
  };
  inside = all_back index_said index_data (λ n. refl) h.inside i;
}

same_kind : (k l : List ℕ) → IsTrue (is_kind k) → IsTrue (is_kind l) → kind_text k ≡ kind_text l → k ≡ l
same_kind k l h g e =
    ap (λ r. r.kind) (printed_apart (record { kind = k; title = [] }) (record { kind = l; title = [] }) h g
    (ap (λ t. t ++ codes "[" ++ [] ++ codes "]") e))

one_held : (h k : Held) → has_form h ≡ true → has_form k ≡ true → printed h ≡ printed k → h ≡ k
one_held h k form other e =
    let kinds = same_kind h.item.kind k.item.kind (first_so (is_kind h.item.kind) _ form)
    (first_so (is_kind k.item.kind) _ other)
    (ap (λ x. x.item.kind) e) in λ i. record {
      item = record {
        kind = kinds i;
        title = (e i).item.title;
        attributes = (e i).item.attributes;
        tags = (e i).item.tags;
      };
      inside = (e i).inside;
    }

abbrev first_or : Held → List Held → Held
first_or h [] = h
first_or h (k ∷ ks) = k

abbrev behind : List Held → List Held
behind [] = []
behind (k ∷ ks) = ks

one_list : (hs ks : List Held) → list_all has_form hs ≡ true → list_all has_form ks ≡ true →
    map printed hs ≡ map printed ks → hs ≡ ks
one_list [] [] h g e = refl
one_list [] (k ∷ ks) h g e = absurd cc
one_list (h ∷ hs) [] f g e = absurd cc
one_list (h ∷ hs) (k ∷ ks) f g e =
    ap₂ (λ x xs. x ∷ xs)
    (one_held h k (first_so (has_form h) _ f) (first_so (has_form k) _ g) (ap (first_or (printed h)) e))
    (one_list hs ks (second_so (has_form h) _ f) (second_so (has_form k) _ g) (ap behind e))

-- ---- catalogs

abbrev edges_said : Data → List Edge
edges_said d = list_said edge_said (part 1 d)

abbrev node_said : Data → List ℕ
node_said d = text_said (part 2 d)

abbrev resources_said : Data → List Held
resources_said d = list_said held_said (part 3 d)

edges_back : (c : Catalog) → edges_said (catalog_data c) ≡ c.edges
unfolding catalog_data catalog_object
edges_back c = all_back edge_said edge_data edge_back c.edges

node_back : (c : Catalog) → node_said (catalog_data c) ≡ c.node
unfolding catalog_data catalog_object
node_back c = refl

resources_back : (c : Catalog) → list_all has_form c.resources ≡ true →
    resources_said (catalog_data c) ≡ map printed c.resources
unfolding catalog_data catalog_object
resources_back c h = items_back held_said held_data printed has_form held_back c.resources h

pub catalogs_told_apart : CatalogsAreToldApart
catalogs_told_apart c d holds held small fits same =
    let e = one_value (catalog_data c) (catalog_data d) small fits same in
    let edges = sym (edges_back c) ∙ ap edges_said e ∙ edges_back d in
    let nodes = sym (node_back c) ∙ ap node_said e ∙ node_back d in
    let all = one_list c.resources d.resources holds.forms held.forms
    (sym (resources_back c holds.forms) ∙ ap resources_said e ∙ resources_back d held.forms) in
    λ i. record { node = nodes i; resources = all i; edges = edges i; log = [] }
