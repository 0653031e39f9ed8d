use Rattle.std.proofs.Common.{sym, ap, ◌∙◌}
use Rattle.std.proofs.lemmas.List.{nil_from_length}
use Rattle.pp_values.specs.Facts.{are_facts}
use Rattle.pp_values.specs.PairLists.{fact_views}
use Rattle.pp_values.specs.Views.{view}
use Rattle.site_bundle.specs.SiteView.{Listed}
use Rattle.site_bundle.proofs.SiteLemmas.{put_step, put_end, each_before, last_too, views_parts}
use Rattle.site_bundle.proofs.site.list_nodes.Goals as goal

pub list-requires : goal.list-requires
list-requires c =
    last_too (λ (n : Listed). are_facts n.1) (fact_views c.pop.new.self.items) _ (c.in-Some.name, view c.in-Some.facts)
    (views_parts c.pop.new.self.items _ (c.in-Some.name, c.in-Some.facts) c.in-Some.ensures.items)
    c.loop-name.invariant.1

pub loop-name-preserved : goal.loop-name-preserved
loop-name-preserved c =
    let parts = views_parts c.pop.new.self.items c.loop-name.left.items (c.in-Some.name, c.in-Some.facts)
    c.in-Some.ensures.items in (
      put_step c.loop-name.listed c.list.new.self (fact_views c.loop-name.left.items) (fact_views c.pop.new.self.items)
          c.args.nodes
          (c.in-Some.name, view c.in-Some.facts) parts c.in_ok-list.ensures c.loop-name.invariant.0,
      each_before (λ (n : Listed). are_facts n.1) (fact_views c.pop.new.self.items) (fact_views c.loop-name.left.items)
          (c.in-Some.name, view c.in-Some.facts) parts c.loop-name.invariant.1,
    )

pub returns : goal.returns
returns c =
    put_end c.loop-name.listed (fact_views c.loop-name.left.items) c.args.nodes
    (ap fact_views (nil_from_length c.loop-name.left.items (sym c.loop-name.left.ok.0 ∙ c.in_default.ensures.cases.0)))
    c.loop-name.invariant.0
