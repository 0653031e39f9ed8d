-- Each value within another is smaller, and its form stands in the other's.
use Rattle.std.proofs.Common.{map, arith, ap, sym, ◌∙◌, refl}
use Rattle.serde_json.specs.Data.{array, object}
use Rattle.serde_json.specs.View.{items_of}
use Rattle.serde_json.proofs.Views.{view-Array, view-Object}
use Rattle.pp_values.specs.Datum as d
use Rattle.pp_values.specs.Datum.{entries_of}
use Rattle.pp_values.specs.Sizes.{datum_size, data_size, pairs_size}
use Rattle.pp_values.specs.Falls.{inner_size-data_of, entries_size-entries_of}
use Rattle.pp_values.specs.Views.{view, pair_views}
use Rattle.pp_values.proofs.Inner.{item_falls, pair_falls}
use Rattle.json_values.specs.ValueForm.{form, long_form}
use Rattle.json_values.proofs.FormLemmas.{items_of-forms, short_hash, long_hash}
use Rattle.json_values.proofs.value_forms.+form.Goals as goal

pub value_form-list_forms-requires : goal.value_form-list_forms-requires
value_form-list_forms-requires t c =
    (omega (arith, c.decreases, ap data_size c.as_slice.ensures, ap (λ x. datum_size (view x)) c.in-List.is, inner_size-data_of c.in-List.items), tt)

pub value_form-member_forms-requires : goal.value_form-member_forms-requires
value_form-member_forms-requires t c =
    (omega (arith, c.decreases, ap pairs_size c.as_slice-pairs.ensures.pairs, ap (λ x. datum_size (view x)) c.in-Hash.is, entries_size-entries_of c.in-Hash.pairs), tt)

pub value_form-pair_forms-requires : goal.value_form-pair_forms-requires
value_form-pair_forms-requires t c =
    (omega (arith, c.decreases, ap pairs_size c.as_slice-pairs.ensures.pairs, ap (λ x. datum_size (view x)) c.in-Hash.is, entries_size-entries_of c.in-Hash.pairs), tt)

pub list_forms-value_form-requires : goal.list_forms-value_form-requires
list_forms-value_form-requires t c = (omega (arith, c.decreases, item_falls c.args.items.now _ _ _ refl c.loop-item-test.true c.item-item.is), tt)

pub pair_forms-value_form-requires : goal.pair_forms-value_form-requires
pair_forms-value_form-requires t c = (omega (arith, c.decreases, pair_falls c.args.pairs.now _ _ _ refl c.loop-key-test.true c.loop-key-item.is), tt)

pub pair_forms-value_form-requires-in-loop-key : goal.pair_forms-value_form-requires-in-loop-key
pair_forms-value_form-requires-in-loop-key t c =
    (omega (arith, c.decreases, pair_falls c.args.pairs.now _ _ _ refl c.loop-key-test.true c.loop-key-item.is), tt)

pub member_forms-value_form-requires : goal.member_forms-value_form-requires
member_forms-value_form-requires t c = (omega (arith, c.decreases, pair_falls c.args.pairs.now _ _ _ refl c.loop-key-test.true c.loop-key-item.is), tt)

pub value_form-returns-in_ok-list_forms-in-List : goal.value_form-returns-in_ok-list_forms-in-List
value_form-returns-in_ok-list_forms-in-List t c =
    view-Array c.in_ok-list_forms-in-List.field-0
    ∙ ap (λ ds. array (items_of ds)) c.in_ok-list_forms-in-List.ensures
    ∙ ap (λ ds. array (items_of (map form ds))) c.as_slice.ensures
    ∙ ap array (items_of-forms c.in-List.items)
    ∙ sym (ap (λ x. form (view x)) c.in-List.is)

pub value_form-returns-in_ok-member_forms-in-Hash : goal.value_form-returns-in_ok-member_forms-in-Hash
value_form-returns-in_ok-member_forms-in-Hash t c =
    view-Object c.in_ok-member_forms-in-Hash.field-0
    ∙ ap object c.in_ok-member_forms-in-Hash.ensures
    ∙ short_hash (pair_views c.as_slice-pairs.result.now) (sym c.is_plain.ensures ∙ c.if-is_plain.true)
    ∙ ap (λ ps. form (d.hash (entries_of ps))) c.as_slice-pairs.ensures.pairs
    ∙ sym (ap (λ x. form (view x)) c.in-Hash.is)

pub value_form-returns-in_ok-long_form-in-Hash : goal.value_form-returns-in_ok-long_form-in-Hash
value_form-returns-in_ok-long_form-in-Hash t c =
    c.in_ok-long_form-in-Hash.ensures
    ∙ ap long_form (view-Array c.in_ok-pair_forms-in-Hash.field-0)
    ∙ ap (λ ds. long_form (array (items_of ds))) c.in_ok-pair_forms-in-Hash.ensures
    ∙ long_hash (pair_views c.as_slice-pairs.result.now) (sym c.is_plain.ensures ∙ c.if-is_plain.false)
    ∙ ap (λ ps. form (d.hash (entries_of ps))) c.as_slice-pairs.ensures.pairs
    ∙ sym (ap (λ x. form (view x)) c.in-Hash.is)
