use Rattle.std.proofs.Common.{◌≡◌}
use Rattle.serde_json.specs.View.{members_view}
use Rattle.serde_json.specs.Data.{no_members}
use Rattle.json_values.specs.ValueForm.{put_all}
use Rattle.site_bundle.specs.Listing.{listed}
use Rattle.site_docs.proofs.site_texts.node_forms.Given as goal

abbrev pub invariant-loop-name : goal.invariant-loop-name
invariant-loop-name l = put_all (listed l.name-iterator) (members_view l.members.entries) ≡ put_all
    (listed l.nodes.entries) no_members
