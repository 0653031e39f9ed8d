use Rattle.std.proofs.Common.{◌+◌, Some, sym, ap, ◌∙◌, drop}
use Rattle.std.proofs.Math.ListN.{drop_of_length-le}
use Rattle.serde_json.specs.View.{items_view, members_view}
use Rattle.pp_values.specs.Datum.{text, data_of}
use Rattle.json_values.specs.Forms.{values_of, members_of}
use Rattle.json_values.proofs.Items.{list_so_far, hash_so_far, list_whole, item_at}
use Rattle.json_values.proofs.FormSteps.{item_read, member_read, no_members_left}
use Rattle.json_values.proofs.reading.+reading.Goals as goal

pub values_of-loop-item-preserved : goal.values_of-loop-item-preserved
values_of-loop-item-preserved t c =
    let left = drop (c.loop-item.item-index + 1) c.deref-item-items.result.now in
    ap (λ vs. list_so_far vs (values_of (items_view left))) c.in_ok-push.ensures.items
    ∙ item_read c.loop-item.values.items c.in_ok-value.value c.item-item.result left c.in_ok-value.ensures
    ∙ ap (λ js. list_so_far c.loop-item.values.items (values_of (items_view js))) (sym (item_at _ _ _ c.loop-item-test.true c.item-item.is))
    ∙ c.loop-item.invariant

pub values_of-returns : goal.values_of-returns
values_of-returns t c =
    ap (λ xs. values_of (items_view xs)) (sym c.deref-item-items.ensures.value)
    ∙ sym c.loop-item.invariant
    ∙ ap (λ js. list_so_far c.loop-item.values.items (values_of (items_view js))) (drop_of_length-le c.deref-item-items.result.now c.loop-item-test.false)
    ∙ list_whole c.loop-item.values.items
    ∙ ap (λ l. Some (data_of l)) (sym c.in_ok-from_vec.ensures)

pub members_of-loop-name-preserved : goal.members_of-loop-name-preserved
members_of-loop-name-preserved t c =
    ap (λ ps. hash_so_far ps (members_of (members_view c.next.new.self))) c.in_ok-push.ensures.items
    ∙ member_read c.loop-name.pairs.items _ c.in_ok-value.value c.in-Some.name.now c.in-Some.member.now c.loop-name.name-iterator c.next.new.self c.in-Some.ensures.steps
    (ap text (c.in_ok-from_str.ensures ∙ c.as_str.ensures.value)) c.in_ok-value.ensures
    ∙ c.loop-name.invariant

pub members_of-returns : goal.members_of-returns
members_of-returns t c = sym c.loop-name.invariant ∙ no_members_left c.loop-name.pairs.items c.loop-name.name-iterator c.in-None.ensures.steps.0
