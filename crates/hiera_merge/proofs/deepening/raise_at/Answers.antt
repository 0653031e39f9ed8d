use Rattle.std.proofs.Common.{arith}
use Rattle.std.proofs.lemmas.Grind.{common_steps}
use Rattle.pp_values.specs.Views.{view}
use Rattle.hiera_merge.proofs.StackLemmas.{raised_set}
use Rattle.hiera_merge.proofs.deepening.raise_at.Goals as goal

pub returns : goal.returns
returns c =
    grind (
      arith,
      common_steps,
      raised_set c.args.columns.now.items c.args.place (view c.args.value) c.raise.new.column c.index_mut.result.now,
    )
