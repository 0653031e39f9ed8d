use Rattle.std.proofs.Common.{ap, ◌∙◌}
use Rattle.std.specs.Arc.{arc_value}
use Rattle.export_store.specs.Indexing.{set_keys}
use Rattle.export_store.proofs.IndexLemmas.{put_in}
use Rattle.export_store.proofs.version.Version.with_other.Goals as goal

pub invariant_of-result : goal.invariant_of-result
invariant_of-result c =
    put_in c.self.inside.sets _ c.args.node.now (arc_value c.args.set) c.deref-2.result.now c.in_ok-others.others _ c.in_ok-sets.ensures c.in_ok-others.ensures
    (c.deref-2.ensures.value ∙ c.in_ok-keys.ensures ∙ ap set_keys c.deref.ensures) c.in_ok-index.ensures
