use Rattle.std.proofs.Common.{subst}
use Rattle.std.proofs.lemmas.List.Elements.{All-head, All-tail}
use Rattle.site_bundle.specs.Listing.{IsShort, AreShort}
use Rattle.site_bundle.proofs.SiteLemmas.{one_listed, all_listed}
use Rattle.site_bundle.proofs.manifest_texts.each_manifest.Goals as goal

pub new-requires : goal.new-requires
new-requires c = All-head IsShort _ _ (subst AreShort c.in-Some.ensures.steps c.loop-path.invariant.1)

pub loop-path-preserved : goal.loop-path-preserved
loop-path-preserved c = (
  one_listed _ _ _ _ _ _ _ c.in-Some.ensures.steps c.new.ensures c.in_ok-push.ensures.items c.loop-path.invariant.0,
  All-tail IsShort _ _ (subst AreShort c.in-Some.ensures.steps c.loop-path.invariant.1),
)

pub returns : goal.returns
returns c = all_listed _ _ _ c.in-None.ensures.steps.0 c.loop-path.invariant.0
