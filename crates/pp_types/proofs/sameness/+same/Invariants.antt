-- The measures: the size of the first type. The loop: the types are the same where they are so from the place on.
use Rattle.std.proofs.Common.{◌≡◌, drop}
use Rattle.std.specs.Cmp.Lexicographic.{pointwise}
use Rattle.pp_types.specs.Forms.{form_size, forms_size, list_of}
use Rattle.pp_types.specs.Layers.{seen_form, choice_forms}
use Rattle.pp_types.specs.Rules.{same}
use Rattle.pp_types.proofs.sameness.+same.Given as goal

abbrev pub decreases-same : goal.decreases-same
decreases-same l = form_size (seen_form l.a)

abbrev pub decreases-same_choices : goal.decreases-same_choices
decreases-same_choices l = forms_size (choice_forms l.a)

abbrev pub invariant-same_choices-loop-place : goal.invariant-same_choices-loop-place
invariant-same_choices-loop-place l =
    pointwise same (list_of (choice_forms l.a)) (list_of (choice_forms l.b))
    ≡ pointwise same (drop l.place (list_of (choice_forms l.a))) (drop l.place (list_of (choice_forms l.b)))
