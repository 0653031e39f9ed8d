use Rattle.std.proofs.Common.{sym, ◌∙◌}
use Rattle.serde_json.specs.View.{view as json_view}
use Rattle.journal_reading.proofs.SitesBack.{files_ready, nodes_ready}
use Rattle.journal_reading.proofs.sites.site_said.Goals as goal

pub make_site-requires-clause-paths : goal.make_site-requires-clause-paths
make_site-requires-clause-paths c =
    (files_ready (json_view c.args.json.now) c.in-Some.files (sym c.in-Some.is ∙ c.in_ok-files.ensures)).distinct

pub make_site-requires-clause-names : goal.make_site-requires-clause-names
make_site-requires-clause-names c =
    (nodes_ready (json_view c.args.json.now) c.in-Some-2.nodes (sym c.in-Some-2.is ∙ c.in_ok-nodes.ensures)).distinct

pub make_site-requires-clause-facts : goal.make_site-requires-clause-facts
make_site-requires-clause-facts c =
    (nodes_ready (json_view c.args.json.now) c.in-Some-2.nodes (sym c.in-Some-2.is ∙ c.in_ok-nodes.ensures)).facts
