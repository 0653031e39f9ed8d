-- The text of a catalog: compact JSON, with the members of each object in byte order.
use Rattle.std.specs.Prelude.{ℕ, List, map, codes}
use Rattle.json_documents.specs.Tokens.{index_data}
use Rattle.serde_json.specs.Data.{Data, boolean, string, array, object, no_items, item, no_members, member}
use Rattle.serde_json.specs.View.{items_of}
use Rattle.serde_json.specs.Written.{compact_text}
use Rattle.pp_values.specs.Words.{kind_text}
use Rattle.res_core.specs.declared.held.Held.{Held}
use Rattle.res_core.specs.declared.edge.Edge.{Edge}
use Rattle.res_core.specs.declared.catalog.Catalog.{Catalog}
use Rattle.json_values.specs.ValueForm.{setting_members}

-- a resource, from the forms of its parts
unfoldable pub held_object : Data → Data → Data → List ℕ → List ℕ → Data
held_object attributes inside tags title kind =
    object (member (codes "attrs") attributes
    (member (codes "in") inside
    (member (codes "tags") tags
    (member (codes "title") (string title)
    (member (codes "type") (string kind) no_members)))))

unfoldable pub held_data : Held → Data
held_data h =
    held_object (object (setting_members h.item.attributes)) (array (items_of (map index_data h.inside)))
    (array (items_of (map string h.item.tags)))
    h.item.title (kind_text h.item.kind)

unfoldable pub edge_data : Edge → Data
edge_data e = array (item (index_data e.from) (item (index_data e.to) (item (boolean e.signal) no_items)))

-- a catalog, from the forms of its parts; 1 is the version of this form
unfoldable pub catalog_object : Data → List ℕ → Data → Data
catalog_object edges node resources =
    object (member (codes "catalog") (index_data 1)
    (member (codes "edges") edges
    (member (codes "node") (string node)
    (member (codes "resources") resources no_members))))

unfoldable pub catalog_data : Catalog → Data
catalog_data c = catalog_object (array (items_of (map edge_data c.edges))) c.node
    (array (items_of (map held_data c.resources)))

-- without a line feed at the end
abbrev pub catalog_text : Catalog → List ℕ
catalog_text c = compact_text (catalog_data c)
