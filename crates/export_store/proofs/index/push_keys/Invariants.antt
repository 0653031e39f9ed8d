-- The keys so far, and then those of the tags from the index on.
use Rattle.std.proofs.Common.{◌≡◌, ◌++◌, Some, map, drop}
use Rattle.export_store.specs.Indexing.{key_of, resource_keys}
use Rattle.export_store.proofs.index.push_keys.Given as goal

abbrev pub invariant-loop-tag : goal.invariant-loop-tag
invariant-loop-tag l =
    l.keys.items ++ map (λ tag. key_of l.resource.kind (Some tag)) (drop l.tag-index l.resource.tags)
    ≡ l.fn.keys.items ++ resource_keys l.resource.kind l.resource.tags
