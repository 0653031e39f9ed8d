-- The measures: eight times the weight of the pair, and the place of the function among those that are asked of one pair.
-- The loops: what holds is told by the types from the place on.
use Rattle.std.proofs.Common.{◌≡◌, ◌+◌, ◌*◌, drop}
use Rattle.std.specs.Cmp.Lexicographic.{pointwise}
use Rattle.std.specs.List.{list_all, list_any}
use Rattle.pp_types.specs.Forms.{form_size, forms_size, list_of}
use Rattle.pp_types.specs.Includes.{includes}
use Rattle.pp_types.specs.Layers.{seen_form, layer_form, choice_forms, part_form}
use Rattle.pp_types.proofs.inclusion.+includes.Given as goal

abbrev pub decreases-includes_seen : goal.decreases-includes_seen
decreases-includes_seen l = 8 * (4 * form_size (seen_form l.wide) + form_size (seen_form l.narrow)) + 6

abbrev pub decreases-by_narrow : goal.decreases-by_narrow
decreases-by_narrow l = 8 * (4 * form_size (seen_form l.wide) + form_size (seen_form l.narrow)) + 5

abbrev pub decreases-by_wide : goal.decreases-by_wide
decreases-by_wide l = 8 * (4 * form_size (seen_form l.wide) + form_size (seen_form l.narrow)) + 4

abbrev pub decreases-covers : goal.decreases-covers
decreases-covers l = 8 * (4 * form_size (layer_form l.wide) + form_size (layer_form l.narrow)) + 3

abbrev pub decreases-array_covers : goal.decreases-array_covers
decreases-array_covers l = 8 * (4 * (form_size (seen_form l.of) + 1) + form_size (layer_form l.narrow)) + 2

abbrev pub decreases-data_covers : goal.decreases-data_covers
decreases-data_covers l = 8 * (4 + form_size (seen_form l.narrow)) + 3

abbrev pub decreases-includes_data : goal.decreases-includes_data
decreases-includes_data l = 8 * (4 * form_size (seen_form l.wide) + 1) + 4

abbrev pub decreases-includes_part : goal.decreases-includes_part
decreases-includes_part l = 8 * (4 * form_size (seen_form l.wide) + 3)

abbrev pub decreases-has_arrays_of_data : goal.decreases-has_arrays_of_data
decreases-has_arrays_of_data l = 8 * (4 * (form_size (seen_form l.of) + 1) + 2) + 7

abbrev pub decreases-has_hashes_of_data : goal.decreases-has_hashes_of_data
decreases-has_hashes_of_data l = 8 * (4 * (form_size (seen_form l.key) + form_size (seen_form l.value) + 1) + 2) + 7

abbrev pub decreases-tuple_is_within : goal.decreases-tuple_is_within
decreases-tuple_is_within l = 8 * (4 * form_size (seen_form l.of) + forms_size (choice_forms l.types) + 1)

abbrev pub decreases-includes_each : goal.decreases-includes_each
decreases-includes_each l = 8 * (4 * form_size (seen_form l.wide) + forms_size (choice_forms l.choices)) + 7

abbrev pub decreases-some_includes : goal.decreases-some_includes
decreases-some_includes l = 8 * (4 * forms_size (choice_forms l.choices) + form_size (seen_form l.narrow)) + 7

abbrev pub decreases-some_includes_part : goal.decreases-some_includes_part
decreases-some_includes_part l = 8 * (4 * forms_size (choice_forms l.choices) + 3) + 7

abbrev pub decreases-in_places : goal.decreases-in_places
decreases-in_places l = 8 * (4 * forms_size (choice_forms l.wide) + forms_size (choice_forms l.narrow)) + 7

abbrev pub invariant-includes_each-loop-place : goal.invariant-includes_each-loop-place
invariant-includes_each-loop-place l =
    list_all (includes (seen_form l.wide)) (list_of (choice_forms l.choices))
    ≡ list_all (includes (seen_form l.wide)) (drop l.place (list_of (choice_forms l.choices)))

abbrev pub invariant-some_includes-loop-place : goal.invariant-some_includes-loop-place
invariant-some_includes-loop-place l =
    list_any (λ t. includes t (seen_form l.narrow)) (list_of (choice_forms l.choices))
    ≡ list_any (λ t. includes t (seen_form l.narrow)) (drop l.place (list_of (choice_forms l.choices)))

abbrev pub invariant-some_includes_part-loop-place : goal.invariant-some_includes_part-loop-place
invariant-some_includes_part-loop-place l =
    list_any (λ t. includes t (part_form l.part)) (list_of (choice_forms l.choices))
    ≡ list_any (λ t. includes t (part_form l.part)) (drop l.place (list_of (choice_forms l.choices)))

abbrev pub invariant-in_places-loop-place : goal.invariant-in_places-loop-place
invariant-in_places-loop-place l =
    pointwise includes (list_of (choice_forms l.wide)) (list_of (choice_forms l.narrow))
    ≡ pointwise includes (drop l.place (list_of (choice_forms l.wide))) (drop l.place (list_of (choice_forms l.narrow)))
