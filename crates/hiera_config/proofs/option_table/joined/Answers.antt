use Rattle.std.proofs.Common.{◌++◌, ap, subst, ◌∙◌}
use Rattle.std.specs.Prelude.{option_to_list}
use Rattle.pp_values.specs.Views.{view}
use Rattle.hiera_merge.specs.Merges.{pairs_in}
use Rattle.hiera_config.specs.OptionTables.{PutsOver}
use Rattle.hiera_config.proofs.OptionLemmas.{tables_left, one_higher}
use Rattle.hiera_config.proofs.option_table.joined.Goals as goal

pub loop-source-preserved : goal.loop-source-preserved
loop-source-preserved c =
    let parts = c.pop.ensures.items ∙ ap (λ o. c.pop.new.self.items ++ option_to_list o) c.in-Some.is in
    let puts =
    subst (λ v. PutsOver (pairs_in (view v)) c.loop-source.by_key.entries c.put_table.new.by_key.entries)
    c.into_value.ensures c.in_ok-put_table.ensures in (
      tables_left c.loop-source.left.items c.pop.new.self.items c.in-Some.source parts c.loop-source.invariant.0,
      λ root.
          one_higher root c.loop-source.left.items c.pop.new.self.items c.in-Some.source c.loop-source.by_key.entries
          c.put_table.new.by_key.entries _ parts c.loop-source.invariant.0 puts (c.loop-source.invariant.1 root),
    )
