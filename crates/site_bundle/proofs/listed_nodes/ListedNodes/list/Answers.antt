use Rattle.std.proofs.Common.{sym, ap, subst, ◌∙◌}
use Rattle.std.specs.Prelude.{IsTrue}
use Rattle.std.specs.FinMap.{put}
use Rattle.pp_values.specs.Rising.{text_cmp}
use Rattle.pp_values.specs.Views.{view}
use Rattle.site_bundle.specs.Listing.{listed}
use Rattle.site_bundle.specs.SiteView.{are_rising, have_facts}
use Rattle.site_bundle.proofs.SiteLemmas.{shown-insert, rising-put, have_facts-put}
use Rattle.site_bundle.proofs.listed_nodes.ListedNodes.list.Goals as goal

pub invariant_of-self-2 : goal.invariant_of-self-2
invariant_of-self-2 c =
    let es = c.self.inside.by_name.entries in
    let is = ap listed c.in_ok-insert.ensures.entries ∙ shown-insert view es c.args.name c.args.facts in (
      subst (λ l. IsTrue (are_rising l)) (sym is) (rising-put c.args.name (view c.args.facts) (listed es)
          c.self.invariant.0),
      subst (λ l. IsTrue (have_facts l)) (sym is) (have_facts-put c.args.name (view c.args.facts) (listed es) c.requires
          c.self.invariant.1),
    )

pub returns : goal.returns
returns c =
    ap listed c.in_ok-insert.ensures.entries ∙ shown-insert view c.self.inside.by_name.entries c.args.name c.args.facts
    ∙ ap (put text_cmp c.args.name (view c.args.facts)) c.self.view_is
