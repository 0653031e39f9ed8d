-- The keys stay distinct, the depth is that of the pairs, and the edit is that of the definition.
use Rattle.std.proofs.Common.{◌≡◌, ◌+◌, ◌<◌, length, subst, arith, rules}
use Rattle.std.proofs.lemmas.Grind.{common_steps}
use Rattle.pp_values.specs.Depth.{deepest_value}
use Rattle.pp_values.specs.Views.{view, pair_views}
use Rattle.pp_values.proofs.Depths.{kept-push_pair, set-limit, set-deepest}
use Rattle.pp_values.proofs.Distinct.{with_pair-no_place, with_pair-place, are_distinct-with_value, are_distinct-append}
use Rattle.pp_values.proofs.pairs.Pairs.put.Goals as goal

pub invariant_of-self : goal.invariant_of-self
invariant_of-self c =
    let pairs = pair_views c.self.inside.items.items in
    let limit =
    set-limit (view c.args.value) c.in-Some.place pairs _ _ _ c.self.invariant.1 c.in_ok-depth.ensures.deeper
    c.depth_of.ensures.depth in
    let exact =
    subst (λ xs. c.depth_once_set-self-inside.result ≡ deepest_value (pair_views xs) + 1)
    c.deref-in-Some.ensures.value c.depth_once_set-self-inside.ensures in (
      rw (c.replace_value.ensures, are_distinct-with_value) c.self.invariant.0,
      (exact, rw c.replace_value.ensures (omega (arith, limit))),
    )

pub depth_once_set-self-inside-requires-clause-limit : goal.depth_once_set-self-inside-requires-clause-limit
depth_once_set-self-inside-requires-clause-limit c =
    rw (c.deref-in-Some.ensures.value, c.replace_value.ensures)
    (set-limit _ _ _ _ _ _ c.self.invariant.1 c.in_ok-depth.ensures.deeper c.depth_of.ensures.depth)

pub depth_once_set-self-inside-requires-clause-deepest : goal.depth_once_set-self-inside-requires-clause-deepest
depth_once_set-self-inside-requires-clause-deepest c = λ le.
    let within : c.in-Some.place < length c.self.inside.items.items = search rules in
    rw (c.deref-in-Some.ensures.value, c.replace_value.ensures)
    (set-deepest _ _ _ _ _ _ within c.self.invariant.1 c.in_ok-depth.ensures.deeper c.depth_of.ensures.depth le)

pub invariant_of-self-in-None : goal.invariant_of-self-in-None
invariant_of-self-in-None c =
    let pairs = pair_views c.self.inside.items.items in
    let distinct = are_distinct-append (view c.args.key) (view c.args.value) pairs in (
      grind (arith, common_steps, distinct, c.self.invariant.0, c.requires),
      rw (c.max-self-inside.ensures, c.in_ok-push-in-None.ensures.items)
          (kept-push_pair _ _ _ _ _ c.self.invariant.1 c.in_ok-depth.ensures.deeper c.depth_of.ensures.depth),
    )

pub returns-in-Some : goal.returns-in-Some
returns-in-Some c =
    grind (arith, common_steps, with_pair-place (view c.args.key) (view c.args.value) (pair_views c.self.inside.items.items) c.in-Some.place)

pub returns-in_ok-push-in-None : goal.returns-in_ok-push-in-None
returns-in_ok-push-in-None c =
    grind (arith, common_steps, with_pair-no_place (view c.args.key) (view c.args.value) (pair_views c.self.inside.items.items))
