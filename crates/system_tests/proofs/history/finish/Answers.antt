use Rattle.std.proofs.Common.{subst}
use Rattle.pp_values.specs.Views.{view}
use Rattle.site_core.specs.Meaning.{HasExports}
use Rattle.site_core.proofs.Meant.{has_exports}
use Rattle.system_tests.proofs.history.finish.Goals as goal

pub done-requires : goal.done-requires
done-requires g c =
    record {
      facts = c.no_facts-facts.ensures;
      of = c.requires;
      meant = subst (λ site. HasExports (g.L.Language.meaning site c.args.node (view c.no_facts-facts.result) c.args.snapshot.version) c.in-Ok.set)
          c.deref.ensures (has_exports _ c.in-Ok.catalog c.in-Ok.set c.in-Ok.ensures);
    }
