use Rattle.std.proofs.Common.{arith, ap, subst, ◌∙◌}
use Rattle.pp_values.specs.Sizes.{pairs_size}
use Rattle.pp_values.specs.Views.{view, views}
use Rattle.hiera_merge.specs.DeepSteps.{AreKeyed}
use Rattle.hiera_merge.proofs.LaidLemmas.{pairs_fall}
use Rattle.hiera_merge.proofs.StackLemmas.{hashes_joined, joined_distinct, one_merged, first_size, rest_size}
use Rattle.hiera_merge.proofs.deepening.+deep.Goals as goal

pub merged_up-hashes_up-requires : goal.merged_up-hashes_up-requires
merged_up-hashes_up-requires t c =
    (omega (arith, c.decreases, ap pairs_size c.pairs_of-high.ensures, pairs_fall (view c.args.high)), tt)

pub hashes_up-columns_merged-requires : goal.hashes_up-columns_merged-requires
hashes_up-columns_merged-requires t c = (omega (arith, c.decreases, c.in_ok-columns.ensures.size), tt)

pub hashes_up-from_vec-requires : goal.hashes_up-from_vec-requires
hashes_up-from_vec-requires t c =
    joined_distinct (views c.args.lower.items) c.args.high _ _
    (subst (λ xs. AreKeyed (views xs)) c.as_slice.ensures.value c.are_keyed.ensures) c.is_keyed.ensures
    c.in_ok-columns.ensures.columns c.in_ok-columns_merged.ensures

pub hashes_up-returns : goal.hashes_up-returns
hashes_up-returns t c =
    hashes_joined (views c.args.lower.items) c.args.high c.in_ok-pairs.pairs _
    (subst (λ xs. AreKeyed (views xs)) c.as_slice.ensures.value c.are_keyed.ensures) c.is_keyed.ensures
    c.in_ok-columns.ensures.columns (c.in_ok-pairs.ensures ∙ c.in_ok-columns_merged.ensures)

pub columns_merged-loop-column-preserved : goal.columns_merged-loop-column-preserved
columns_merged-loop-column-preserved t c =
    let split = c.in-Some.ensures.steps.0 in
    let before = c.loop-column.invariant in (
      one_merged _ _ _ c.in-Some.column _ _ _ c.in_ok-push.ensures.items split c.in_ok-column_merged.ensures before.0,
      rest_size c.in-Some.column _ _ _ split before.1,
    )

pub columns_merged-column_merged-requires : goal.columns_merged-column_merged-requires
columns_merged-column_merged-requires t c =
    let split = c.in-Some.ensures.steps.0 in
    (omega (arith, c.decreases, first_size c.in-Some.column _ _ _ split c.loop-column.invariant.1), tt)
