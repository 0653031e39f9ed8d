-- The measures: the size of what is written. The loops: what was written, and what is left from the index on.
use Rattle.std.proofs.Common.{◌≡◌, ◌++◌, map, drop}
use Rattle.serde_json.specs.Data.{no_members}
use Rattle.serde_json.specs.View.{view as json_view, members_view}
use Rattle.pp_values.specs.Datum.{entries_of}
use Rattle.pp_values.specs.Sizes.{datum_size, data_size, pairs_size}
use Rattle.pp_values.specs.Views.{view, views, pair_views}
use Rattle.json_values.specs.ValueForm.{form, pair_data, plain_settings, put_all}
use Rattle.json_values.proofs.value_forms.+form.Given as goal

abbrev pub decreases-value_form : goal.decreases-value_form
decreases-value_form l = datum_size (view l.value.now)

abbrev pub decreases-list_forms : goal.decreases-list_forms
decreases-list_forms l = data_size (views l.items.now)

abbrev pub decreases-pair_forms : goal.decreases-pair_forms
decreases-pair_forms l = pairs_size (pair_views l.pairs.now)

abbrev pub decreases-member_forms : goal.decreases-member_forms
decreases-member_forms l = pairs_size (pair_views l.pairs.now)

abbrev pub invariant-list_forms-loop-item : goal.invariant-list_forms-loop-item
invariant-list_forms-loop-item l = map json_view l.forms.items ++ map form (views (drop l.item-index l.items)) ≡ map form (views l.items)

abbrev pub invariant-pair_forms-loop-key : goal.invariant-pair_forms-loop-key
invariant-pair_forms-loop-key l = map json_view l.forms.items ++ pair_data (pair_views (drop l.key-index l.pairs)) ≡ pair_data (pair_views l.pairs)

abbrev pub invariant-member_forms-loop-key : goal.invariant-member_forms-loop-key
invariant-member_forms-loop-key l =
    put_all (plain_settings (entries_of (pair_views (drop l.key-index l.pairs)))) (members_view l.members.entries)
    ≡ put_all (plain_settings (entries_of (pair_views l.pairs))) no_members
