use Rattle.std.proofs.Common.{length, ◌+◌, ◌^◌}
use Rattle.std.specs.Prelude.{nat_lt}
use Rattle.site_bundle.specs.SiteView.{Filed}
use Rattle.site_bundle.proofs.KeptLemmas.{one_kept, all_kept}
use Rattle.site_bundle.proofs.SiteLemmas.{each_before}
use Rattle.site_bundle.proofs.site.keep_files.Goals as goal

pub loop-path-preserved : goal.loop-path-preserved
loop-path-preserved c = (
  one_kept c.loop-path.kept c.keep.new.self c.loop-path.left c.pop.new.self c.args.files
      c.in-Some.path c.in-Some.text c.in-Some.ensures
      c.in_ok-keep.ensures c.loop-path.invariant.0,
  each_before (λ (f : Filed). nat_lt (length f.1 + 1) (2 ^ 32)) c.pop.new.self c.loop-path.left
      (c.in-Some.path, c.in-Some.text) c.in-Some.ensures
      c.loop-path.invariant.1,
)

pub returns : goal.returns
returns c = all_kept c.loop-path.kept c.loop-path.left c.args.files c.in_default.ensures.0 c.loop-path.invariant.0
