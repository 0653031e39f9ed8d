use Rattle.std.proofs.Common.{◌∙◌}
use Rattle.pp_values.specs.Views.{view}
use Rattle.hiera_merge.proofs.StackLemmas.{up_turned}
use Rattle.hiera_merge.proofs.deepening.deep_merge.Goals as goal

pub returns : goal.returns
returns c =
    c.in_ok-merged_up.ensures
    ∙ up_turned c.args.lower.items c.reverse.new.self.items (view c.args.high) c.reverse.ensures.items
