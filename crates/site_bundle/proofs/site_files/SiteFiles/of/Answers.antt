use Rattle.std.proofs.Common.{sym, ◌∙◌}
use Rattle.std.proofs.lemmas.List.{nil_from_length}
use Rattle.site_bundle.proofs.SiteLemmas.{put_step, put_end}
use Rattle.site_bundle.proofs.site_files.SiteFiles.of.Goals as goal

pub loop-manifest-preserved : goal.loop-manifest-preserved
loop-manifest-preserved c =
    put_step c.loop-manifest.files c.put.new.self c.loop-manifest.left.items c.pop.new.self.items c.args.manifests.items
    c.in-Some.manifest c.in-Some.ensures.items c.in_ok-put.ensures c.loop-manifest.invariant

pub returns : goal.returns
returns c =
    put_end c.loop-manifest.files c.loop-manifest.left.items c.args.manifests.items
    (nil_from_length c.loop-manifest.left.items (sym c.loop-manifest.left.ok.0 ∙ c.in_default.ensures.cases.0))
    c.loop-manifest.invariant
