use Rattle.site_core.specs.declared.history.TheConstants.{MOST_ENTRIES}
use Rattle.site_serve.specs.Ends.{dialect}
use Rattle.shared_site.specs.Shows.{resumed}
use Rattle.site_service.proofs.Wholes.{resuming_of, from_first}
use Rattle.site_service.proofs.service.serve_resumed.Goals as goal

pub serve_shared-requires-clause-opening : goal.serve_shared-requires-clause-opening
serve_shared-requires-clause-opening g c κs within =
    resuming_of c.in_ok-shared.shared c.in_ok-shared.pass c.args.history.entries MOST_ENTRIES c.in_ok-shared.ensures.1

pub returns-clause-ok : goal.returns-clause-ok
returns-clause-ok g c = (
  c.in_ok-shared.ensures.0,
  from_first g.L.Language.meaning g.L.Language.listed
      (dialect g.L.Language.said_site g.L.Language.catalog_form g.L.Language.fault_form) c.in_ok-shared.shared
      c.in_ok-shared.pass (resumed c.args.history.entries MOST_ENTRIES) c.args.count (g.N.Listener.net c.args.net.now)
      (g.N.Listener.net c.serve_shared.new.net) c.serve_shared.result.ends.items c.serve_shared.result.stop
      c.serve_shared.result.history.entries c.in_ok-shared.ensures.1 c.serve_shared.ensures,
)
