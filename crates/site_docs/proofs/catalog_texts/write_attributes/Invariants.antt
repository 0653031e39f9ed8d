use Rattle.std.proofs.Common.{◌≡◌, ◌∷◌, ◌++◌, length}
use Rattle.json.specs.Token.{begin_object}
use Rattle.res_core.specs.AttributeViews.{settings}
use Rattle.json_documents.proofs.Outlines.{setting_tokens}
use Rattle.site_docs.proofs.catalog_texts.write_attributes.Given as goal

abbrev pub invariant-loop-left : goal.invariant-loop-left
invariant-loop-left l =
    l.out ++ setting_tokens (settings l.left) ≡ l.fn.out ++ begin_object ∷ setting_tokens l.attributes

abbrev pub decreases-loop-left : goal.decreases-loop-left
decreases-loop-left l = length l.left
