use Rattle.std.proofs.Common.{refl, ap}
use Rattle.site_bundle.specs.FolderSites.{facts_walk}
use Rattle.site_bundle.proofs.WalkSteps.{first_of, none_left, turn_next, turn_stop, turns_end}
use Rattle.site_bundle.proofs.walking.read_all_facts.Goals as goal

pub returns-in_err-read_facts : goal.returns-in_err-read_facts
returns-in_err-read_facts g c =
    turn_stop _ _ (facts_walk c.args.front.now) _ _ _ _ _ _ _ (first_of _ _ c.in-len1-up.len_at_least c.name-item.is)
    (ap (λ n. facts_walk c.args.front.now n c.loop-left.gathered) c.as_str.ensures.text) c.loop-left.invariant c.from_residual.ensures.1
    c.in_err-read_facts.ensures

pub loop-left-preserved : goal.loop-left-preserved
loop-left-preserved g c =
    turn_next _ (facts_walk c.args.front.now) _ _ _ _ _ _ (first_of _ _ c.in-len1-up.len_at_least c.name-item.is)
    (ap (λ n. facts_walk c.args.front.now n c.loop-left.gathered) c.as_str.ensures.text) c.loop-left.invariant c.in_ok-read_facts.ensures

pub returns : goal.returns
returns g c =
    turns_end _ _ (facts_walk c.args.front.now) _ _ (none_left _ c.in_default.len_below) c.loop-left.invariant refl
