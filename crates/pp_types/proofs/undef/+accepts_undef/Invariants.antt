-- The measures: the size of the type. The loop: what holds is told by the types from the place on.
use Rattle.std.proofs.Common.{◌≡◌, drop}
use Rattle.std.specs.List.{list_any}
use Rattle.pp_types.specs.Forms.{form_size, forms_size, list_of}
use Rattle.pp_types.specs.Layers.{seen_form, choice_forms}
use Rattle.pp_types.specs.Rules.{accepts_undef}
use Rattle.pp_types.proofs.undef.+accepts_undef.Given as goal

abbrev pub decreases-accepts_undef : goal.decreases-accepts_undef
decreases-accepts_undef l = form_size (seen_form l.seen)

abbrev pub decreases-some_accepts_undef : goal.decreases-some_accepts_undef
decreases-some_accepts_undef l = forms_size (choice_forms l.choices)

abbrev pub invariant-some_accepts_undef-loop-place : goal.invariant-some_accepts_undef-loop-place
invariant-some_accepts_undef-loop-place l =
    list_any accepts_undef (list_of (choice_forms l.choices))
    ≡ list_any accepts_undef (drop l.place (list_of (choice_forms l.choices)))
