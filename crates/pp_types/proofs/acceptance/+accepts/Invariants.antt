-- The measures: four times the size of the type, and the place of the function. The loops: what holds is told by what is
-- left from the place on.
use Rattle.std.proofs.Common.{◌≡◌, ◌+◌, ◌*◌, ◌&&◌, drop}
use Rattle.std.specs.Cmp.Lexicographic.{pointwise}
use Rattle.std.specs.List.{list_all, list_any}
use Rattle.pp_values.specs.Views.{view, views, pair_views}
use Rattle.pp_types.specs.Accepts.{accepts}
use Rattle.pp_types.specs.Forms.{form_size, forms_size, list_of}
use Rattle.pp_types.specs.Layers.{seen_form, choice_forms}
use Rattle.pp_types.proofs.acceptance.+accepts.Given as goal

abbrev pub decreases-accepts_seen : goal.decreases-accepts_seen
decreases-accepts_seen l = 4 * form_size (seen_form l.seen)

abbrev pub decreases-is_list_of : goal.decreases-is_list_of
decreases-is_list_of l = 4 * form_size (seen_form l.of) + 3

abbrev pub decreases-accepts_items : goal.decreases-accepts_items
decreases-accepts_items l = 4 * form_size (seen_form l.of) + 2

abbrev pub decreases-accepts_all : goal.decreases-accepts_all
decreases-accepts_all l = 4 * form_size (seen_form l.of) + 1

abbrev pub decreases-is_hash_of : goal.decreases-is_hash_of
decreases-is_hash_of l = 4 * (form_size (seen_form l.key) + form_size (seen_form l.of)) + 3

abbrev pub decreases-accepts_entries : goal.decreases-accepts_entries
decreases-accepts_entries l = 4 * (form_size (seen_form l.key) + form_size (seen_form l.of)) + 2

abbrev pub decreases-accepts_pairs : goal.decreases-accepts_pairs
decreases-accepts_pairs l = 4 * (form_size (seen_form l.key) + form_size (seen_form l.of)) + 1

abbrev pub decreases-some_accepts : goal.decreases-some_accepts
decreases-some_accepts l = 4 * forms_size (choice_forms l.choices) + 1

abbrev pub decreases-accepts_list : goal.decreases-accepts_list
decreases-accepts_list l = 4 * forms_size (choice_forms l.types) + 2

abbrev pub decreases-accepts_members : goal.decreases-accepts_members
decreases-accepts_members l = 4 * forms_size (choice_forms l.types) + 1

abbrev pub invariant-accepts_all-loop-item : goal.invariant-accepts_all-loop-item
invariant-accepts_all-loop-item l =
    list_all (accepts (seen_form l.of)) (views l.items)
    ≡ list_all (accepts (seen_form l.of)) (views (drop l.item-index l.items))

abbrev pub invariant-accepts_pairs-loop-name : goal.invariant-accepts_pairs-loop-name
invariant-accepts_pairs-loop-name l =
    list_all (λ p. accepts (seen_form l.key) p.0 && accepts (seen_form l.of) p.1) (pair_views l.pairs)
    ≡ list_all (λ p. accepts (seen_form l.key) p.0
    && accepts (seen_form l.of) p.1) (pair_views (drop l.name-index l.pairs))

abbrev pub invariant-some_accepts-loop-place : goal.invariant-some_accepts-loop-place
invariant-some_accepts-loop-place l =
    list_any (λ t. accepts t (view l.value)) (list_of (choice_forms l.choices))
    ≡ list_any (λ t. accepts t (view l.value)) (drop l.place (list_of (choice_forms l.choices)))

abbrev pub invariant-accepts_members-loop-place : goal.invariant-accepts_members-loop-place
invariant-accepts_members-loop-place l =
    pointwise accepts (list_of (choice_forms l.types)) (views l.items)
    ≡ pointwise accepts (drop l.place (list_of (choice_forms l.types))) (views (drop l.place l.items))
