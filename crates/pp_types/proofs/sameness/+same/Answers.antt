-- The lists of types, and each pair of types that is compared within others is smaller.
use Rattle.std.proofs.Common.{arith, sym, ◌∙◌}
use Rattle.pp_types.specs.declared.layer.Choices.TheVariants as choices
use Rattle.pp_types.specs.Forms.{list_of}
use Rattle.pp_types.specs.Layers.{choice_forms}
use Rattle.pp_types.specs.Rules.{same}
use Rattle.pp_types.proofs.Places.{same_forms-lists, size_at, pair_goes_on, pair_stops}
use Rattle.pp_types.proofs.sameness.+same.Goals as goal

pub same-returns-in-Variant-other : goal.same-returns-in-Variant-other
same-returns-in-Variant-other t c =
    rw (
      ← c.in-Variant.ensures,
      ← c.in-Variant-other.ensures,
      same_forms-lists (choice_forms c.in-Variant.choices) (choice_forms c.in-Variant-other.other),
    ) c.same_choices.ensures

pub same-returns-in-Tuple-other : goal.same-returns-in-Tuple-other
same-returns-in-Tuple-other t c =
    rw (
      ← c.in-Tuple.ensures,
      ← c.in-Tuple-other.ensures,
      same_forms-lists
          (choice_forms (choices.Given c.in-Tuple.types))
          (choice_forms (choices.Given c.in-Tuple-other.other)),
    ) c.same_choices-in-Tuple-other.ensures

pub same_choices-same-requires : goal.same_choices-same-requires
same_choices-same-requires t c = (omega (arith, c.decreases, size_at (choice_forms c.args.a) _ _ c.choice_at.ensures), tt)

pub same_choices-returns-then-not-same : goal.same_choices-returns-then-not-same
same_choices-returns-then-not-same t c =
    sym (c.loop-place.invariant ∙ pair_stops same (list_of (choice_forms c.args.a)) (list_of (choice_forms c.args.b)) c.loop-place.place _ _
    c.choice_at.ensures c.choice_at-in-loop-place.ensures (sym c.same.ensures ∙ c.if-not-same.true))

pub same_choices-loop-place-preserved : goal.same_choices-loop-place-preserved
same_choices-loop-place-preserved t c =
    c.loop-place.invariant ∙ pair_goes_on same (list_of (choice_forms c.args.a)) (list_of (choice_forms c.args.b)) c.loop-place.place _ _
    c.choice_at.ensures c.choice_at-in-loop-place.ensures (sym c.same.ensures ∙ c.if-not-same.false)
