-- The files that are left, put after those that were, give all.
use Rattle.std.proofs.Common.{◌≡◌}
use Rattle.serde_json.specs.View.{members_view}
use Rattle.json_values.specs.ValueForm.{put_all}
use Rattle.hiera_config.specs.Keeping.{filed}
use Rattle.site_docs.specs.SiteText.{file_settings}
use Rattle.site_docs.proofs.site_texts.put_data.Given as goal

abbrev pub invariant-loop-path : goal.invariant-loop-path
invariant-loop-path l =
    put_all (file_settings (filed l.path-iterator)) (members_view l.members.entries) ≡ put_all
    (file_settings (filed l.files.entries)) (members_view l.initial.members.entries)
