use Rattle.site_serve.specs.Ends.{dialect}
use Rattle.site_serve.proofs.Talking.{unbegun}
use Rattle.site_serve.proofs.Order.{nothing_promptly}
use Rattle.site_serve.proofs.serving.serve_connection.Goals as goal

pub returns-in-Err-clause-ends : goal.returns-in-Err-clause-ends
returns-in-Err-clause-ends g c = unbegun _ _ _ _ _ c.keeps.ensures.legal c.keeps.ensures.few

pub returns-in-Err-clause-prompt : goal.returns-in-Err-clause-prompt
returns-in-Err-clause-prompt g c =
    nothing_promptly (dialect g.L.Language.said_site g.L.Language.catalog_form g.L.Language.fault_form)
    (g.C.Outside.stream c.args.connection.now)
