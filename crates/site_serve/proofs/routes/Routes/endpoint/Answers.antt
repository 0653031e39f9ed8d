use Rattle.site_serve.proofs.Routing.{endpoint_named}
use Rattle.site_serve.proofs.routes.Routes.endpoint.Goals as goal

pub returns : goal.returns
returns c = endpoint_named _ _ _ c.route.ensures c.named_by.ensures
