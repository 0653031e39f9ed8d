use Rattle.site_serve.specs.Ends.{dialect}
use Rattle.site_service.proofs.Wholes.{closes_opening, unserved, from_listening}
use Rattle.site_service.proofs.service.serve_shared.Goals as goal

pub close-requires-clause-all : goal.close-requires-clause-all
close-requires-clause-all g c = (closes_opening c.args.shared c.args.pass c.requires.opening).1

pub returns-in-Failed : goal.returns-in-Failed
returns-in-Failed g c =
    unserved g.L.Language.meaning g.L.Language.listed
    (dialect g.L.Language.said_site g.L.Language.catalog_form g.L.Language.fault_form) c.args.shared c.args.pass
    c.args.count (g.N.Listener.net c.args.net.now) (g.N.Listener.net c.listen.new.self) c.args.ends.items
    c.close.result.entries c.requires.opening c.in-Failed.ensures.0 c.in-Failed.ensures.1 c.requires.no_ends
    c.close.ensures.legal c.close.ensures.front c.close.ensures.few c.close.ensures.own

pub returns-in-Listening : goal.returns-in-Listening
returns-in-Listening g c =
    from_listening g.L.Language.meaning g.L.Language.listed
    (dialect g.L.Language.said_site g.L.Language.catalog_form g.L.Language.fault_form) c.args.pass.terms.limit
    c.args.pass.terms.base c.args.pass.front c.args.count (g.N.Listener.net c.args.net.now)
    (g.N.Listener.net c.listen.new.self) (g.N.Listener.net c.serve_all.new.net) c.serve_all.result.ends.items
    c.serve_all.result.stop c.serve_all.result.history.entries c.in-Listening.ensures c.serve_all.ensures
