use Rattle.site_bundle.proofs.RequestSteps.{few_enough, too_many}
use Rattle.site_bundle.proofs.requests.asked_among.Goals as goal

pub returns-then-items-le-MOST_REQUESTS : goal.returns-then-items-le-MOST_REQUESTS
returns-then-items-le-MOST_REQUESTS c = few_enough _ _ c.if-items-le-MOST_REQUESTS.true c.asked_from.ensures

pub returns-else-items-le-MOST_REQUESTS : goal.returns-else-items-le-MOST_REQUESTS
returns-else-items-le-MOST_REQUESTS c = too_many _ _ c.if-items-le-MOST_REQUESTS.false c.too_large.ensures
