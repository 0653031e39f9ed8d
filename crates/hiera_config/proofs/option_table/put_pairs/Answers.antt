use Rattle.std.proofs.Common.{◌++◌, ap, ◌∙◌}
use Rattle.std.specs.Prelude.{option_to_list}
use Rattle.hiera_config.proofs.OptionLemmas.{one_less}
use Rattle.hiera_config.proofs.option_table.put_pairs.Goals as goal

pub loop-key-preserved : goal.loop-key-preserved
loop-key-preserved c = λ root.
    one_less root c.loop-key.left.items c.pop.new.self.items (c.in-Some.key, c.in-Some.value) c.loop-key.by_key.entries
    c.put_option.new.by_key.entries _
    (c.pop.ensures.items ∙ ap (λ o. c.pop.new.self.items ++ option_to_list o) c.in-Some.is)
    c.in_ok-put_option.ensures (c.loop-key.invariant root)
