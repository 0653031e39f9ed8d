use Rattle.std.proofs.Common.{◌≡◌, arith, ap}
use Rattle.hiera_merge.specs.DeepSteps.{put_stacks, stacks, stacks_size}
use Rattle.hiera_merge.proofs.StackLemmas.{one_hash, one_size, puts_size}
use Rattle.hiera_merge.proofs.deepening.columns_of.Goals as goal

pub loop-value-preserved : goal.loop-value-preserved
loop-value-preserved c =
    let split = c.in-Some.ensures.steps.0 in
    let before = c.loop-value.invariant in (
      one_hash c.in-Some.value _ _ _ _ _ _ split c.pairs_of.ensures c.in_ok-put_pairs.ensures before.0,
      one_size c.in-Some.value _ _ _ _ _ _ split c.pairs_of.ensures c.in_ok-put_pairs.ensures before.1,
    )

pub returns-clause-size : goal.returns-clause-size
returns-clause-size c =
    let made : stacks_size (stacks c.put_pairs-2.new.columns.items)
    ≡ stacks_size (put_stacks c.args.high (stacks c.loop-value.columns.items)) =
    ap stacks_size c.in_ok-put_pairs-2.ensures in
    omega (arith, made, puts_size c.args.high (stacks c.loop-value.columns.items), c.loop-value.invariant.1)
