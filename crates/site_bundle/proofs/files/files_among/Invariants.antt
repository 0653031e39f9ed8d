-- The files that are left lead to what all of them lead to.
use Rattle.std.proofs.Common.{◌≡◌}
use Rattle.serde_json.specs.View.{members_view}
use Rattle.site_bundle.specs.Files.{with_files}
use Rattle.site_bundle.specs.Keeping.{no_files}
use Rattle.site_bundle.proofs.files.files_among.Given as goal

abbrev pub invariant-loop-path : goal.invariant-loop-path
invariant-loop-path l = with_files (members_view l.path-iterator) l.files ≡ with_files (members_view l.members.entries) no_files
