use Rattle.site_docs.specs.CatalogText.{held_data}
use Rattle.site_docs.proofs.HeldTokens.{held_tokens}
use Rattle.site_docs.proofs.catalog_texts.write_held.Goals as goal

pub returns : goal.returns
unfolding held_data
returns c =
    rw (
      c.in_ok-end_object.ensures,
      c.in_ok-write_kind.ensures,
      c.in_ok-key-5.ensures,
      c.in_ok-string.ensures,
      c.as_str.ensures.text,
      c.in_ok-key-4.ensures,
      c.in_ok-write_texts.ensures,
      c.as_slice-2.ensures.tags,
      c.in_ok-key-3.ensures,
      c.in_ok-write_indexes.ensures,
      c.as_slice.ensures,
      c.in_ok-key-2.ensures,
      c.in_ok-write_attributes.ensures,
      c.in_ok-key.ensures,
      c.in_ok-begin_object.ensures,
      c.as_resource-item.ensures.resource,
    ) (held_tokens _ _ _ _ _ _)
