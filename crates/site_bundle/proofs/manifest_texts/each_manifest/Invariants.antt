-- Those that are done and those that are left are all of them, and what is left is short.
use Rattle.std.proofs.Common.{◌≡◌, ◌++◌}
use Rattle.site_bundle.specs.Listing.{AreShort}
use Rattle.site_bundle.proofs.manifest_texts.each_manifest.Given as goal

abbrev pub invariant-loop-path : goal.invariant-loop-path
invariant-loop-path l = (l.manifests.items ++ l.path-iterator ≡ l.fn.by_path.entries) × AreShort l.path-iterator
