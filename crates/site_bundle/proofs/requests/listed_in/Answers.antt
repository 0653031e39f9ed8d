use Rattle.serde_json.specs.View.{view}
use Rattle.site_bundle.proofs.Chains.{if_read}
use Rattle.site_bundle.proofs.RequestSteps.{asked-few, asked_give_facts}
use Rattle.site_bundle.proofs.requests.listed_in.Goals as goal

pub returns-clause-facts : goal.returns-clause-facts
returns-clause-facts c = if_read _ _ _ c.all_asked_in.ensures (asked_give_facts (view c.args.requests.now))

pub returns-clause-few : goal.returns-clause-few
returns-clause-few c = if_read _ _ _ c.all_asked_in.ensures (asked-few (view c.args.requests.now))
