use Rattle.std.proofs.Common.{◌+◌, Some, sym, ap, subst, ◌∙◌, drop, IsTrue}
use Rattle.std.proofs.Math.ListN.{drop_of_length-le}
use Rattle.serde_json.specs.View.{items_view, members_view}
use Rattle.pp_values.specs.Datum.{text, data_of, entries_of}
use Rattle.pp_values.specs.Facts.{are_members, are_pairs}
use Rattle.pp_values.specs.Views.{views, pair_views}
use Rattle.json_values.specs.FromData.{item_values, member_values}
use Rattle.json_values.proofs.Items.{list_so_far, hash_so_far, list_whole, item_at}
use Rattle.json_values.proofs.DataSteps.{item_made, member_made, no_members_left, have_facts, one_more_fact, one_more_pair, members_are_facts}
use Rattle.json_values.proofs.RisingKeys.{facts_distinct}
use Rattle.json_values.proofs.data.+data.Goals as goal

pub item_values-loop-item-preserved : goal.item_values-loop-item-preserved
item_values-loop-item-preserved t c =
    let left = drop (c.loop-item.item-index + 1) c.deref-item-items.result.now in (
      ap (λ vs. list_so_far vs (item_values c.args.mode (items_view left))) c.in_ok-push.ensures.items
          ∙ item_made c.args.mode c.loop-item.values.items c.in_ok-value.value c.item-item.result left c.in_ok-value.ensures.value
          ∙ ap (λ js. list_so_far c.loop-item.values.items (item_values c.args.mode (items_view js))) (sym (item_at _ _ _ c.loop-item-test.true c.item-item.is))
          ∙ c.loop-item.invariant.0,
      subst (λ vs. IsTrue (are_members (data_of (views vs)))) (sym c.in_ok-push.ensures.items) (one_more_fact c.loop-item.values.items c.in_ok-value.value c.loop-item.invariant.1 c.in_ok-value.ensures.facts),
    )

pub item_values-returns-clause-value : goal.item_values-returns-clause-value
item_values-returns-clause-value t c =
    ap (λ xs. item_values c.args.mode (items_view xs)) (sym c.deref-item-items.ensures.value)
    ∙ sym c.loop-item.invariant.0
    ∙ ap (λ js. list_so_far c.loop-item.values.items (item_values c.args.mode (items_view js))) (drop_of_length-le c.deref-item-items.result.now c.loop-item-test.false)
    ∙ list_whole c.loop-item.values.items
    ∙ ap (λ l. Some (data_of l)) (sym c.in_ok-from_vec.ensures)

pub member_values-loop-name-preserved : goal.member_values-loop-name-preserved
member_values-loop-name-preserved t c = (
  ap (λ ps. hash_so_far ps (member_values c.args.mode (members_view c.next.new.self))) c.in_ok-push.ensures.items
      ∙ member_made c.args.mode c.loop-name.pairs.items _ c.in_ok-value.value c.in-Some.name.now c.in-Some.member.now c.loop-name.name-iterator c.next.new.self c.in-Some.ensures.steps
      (ap text (c.in_ok-from_str.ensures ∙ c.as_str.ensures.value)) c.in_ok-value.ensures.value
      ∙ c.loop-name.invariant.0,
  subst (λ ps. IsTrue (have_facts ps)) (sym c.in_ok-push.ensures.items) (one_more_pair c.loop-name.pairs.items _ c.loop-name.invariant.1 c.in_ok-value.ensures.facts),
)

pub member_values-from_vec-requires : goal.member_values-from_vec-requires
member_values-from_vec-requires t c =
    facts_distinct (pair_views c.loop-name.pairs.items)
    (members_are_facts c.args.mode c.args.members.now.entries c.loop-name.pairs.items
    (sym c.loop-name.invariant.0 ∙ no_members_left c.args.mode c.loop-name.pairs.items c.loop-name.name-iterator c.in-None.ensures.steps.0)
    c.iter-name-items.ensures.ordered c.loop-name.invariant.1)

pub member_values-returns-clause-value : goal.member_values-returns-clause-value
member_values-returns-clause-value t c =
    sym c.loop-name.invariant.0 ∙ no_members_left c.args.mode c.loop-name.pairs.items c.loop-name.name-iterator c.in-None.ensures.steps.0
    ∙ ap (λ l. Some (entries_of l)) (sym c.in_ok-from_vec.ensures)

pub member_values-returns-clause-facts : goal.member_values-returns-clause-facts
member_values-returns-clause-facts t c =
    subst (λ l. IsTrue (are_pairs (entries_of l))) (sym c.in_ok-from_vec.ensures)
    (members_are_facts c.args.mode c.args.members.now.entries c.loop-name.pairs.items
    (sym c.loop-name.invariant.0 ∙ no_members_left c.args.mode c.loop-name.pairs.items c.loop-name.name-iterator c.in-None.ensures.steps.0)
    c.iter-name-items.ensures.ordered c.loop-name.invariant.1)
