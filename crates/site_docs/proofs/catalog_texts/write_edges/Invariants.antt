use Rattle.std.proofs.Common.{◌≡◌, ◌∷◌, ◌++◌, map, length}
use Rattle.json.specs.Token.{begin_array}
use Rattle.site_docs.specs.CatalogText.{edge_data}
use Rattle.json_documents.proofs.Outlines.{item_tokens}
use Rattle.site_docs.proofs.catalog_texts.write_edges.Given as goal

abbrev pub invariant-loop-left : goal.invariant-loop-left
invariant-loop-left l = l.out ++ item_tokens (map edge_data l.left) ≡ l.fn.out ++ begin_array ∷ item_tokens (map edge_data l.edges)

abbrev pub decreases-loop-left : goal.decreases-loop-left
decreases-loop-left l = length l.left
