-- For callers: what computes on bytes that are written out.
use Rattle.std.specs.Prelude.{⊤}
use Rattle.std.specs.Fmt.{digits}
use Rattle.std.specs.Str.{is_utf8, chars}
use Rattle.agent_docs.specs.MachineMembers.{texts_from, with_properties, with_records, members_said}
use Rattle.serde_json.proofs.OnLiterals.{serde_json_on_literals}
use Rattle.site_bundle.specs.Documents.{json_of}
use Rattle.site_bundle.specs.Nodes.{with_nodes}
use Rattle.site_bundle.specs.RequestsOf.{asked_from, item_count}
use Rattle.site_bundle.specs.Bundles.{site_in, members_of, bundle_of, site_said}

-- what an answer unfolds to compute what the bytes of a bundle say, or those of a site
unfoldable pub bundle_on_literals : ⊤
unfolding bundle_of site_said json_of is_utf8 chars digits members_of site_in with_nodes asked_from item_count
    texts_from with_properties with_records members_said serde_json_on_literals
bundle_on_literals = tt
