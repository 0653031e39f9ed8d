-- Lists of types and values, gone through by place.
use Rattle.std.proofs.Common.{arith, sym, ◌∙◌}
use Rattle.pp_values.specs.Views.{view}
use Rattle.pp_values.proofs.Lists.{members_of-data_of, pairs_of-entries_of}
use Rattle.pp_types.specs.Accepts.{accepts}
use Rattle.pp_types.specs.Forms.{list_of}
use Rattle.pp_types.specs.Layers.{choice_forms}
use Rattle.pp_types.proofs.Members.{some_accept-list, accept_members-lists, member_goes_on, member_stops}
use Rattle.pp_types.proofs.Places.{size_at, any_goes_on, any_stops}
use Rattle.pp_types.proofs.acceptance.+accepts.Goals as goal

pub some_accepts-accepts_seen-requires : goal.some_accepts-accepts_seen-requires
some_accepts-accepts_seen-requires t c = (omega (arith, c.decreases, size_at (choice_forms c.args.choices) _ _ c.choice_at.ensures), tt)

pub some_accepts-returns-then-accepts_seen : goal.some_accepts-returns-then-accepts_seen
some_accepts-returns-then-accepts_seen t c =
    sym (c.loop-place.invariant ∙ any_stops (λ f. accepts f (view c.args.value.now)) (list_of (choice_forms c.args.choices)) c.loop-place.place _
    c.choice_at.ensures (sym c.accepts_seen.ensures ∙ c.if-accepts_seen.true))

pub some_accepts-loop-place-preserved : goal.some_accepts-loop-place-preserved
some_accepts-loop-place-preserved t c =
    c.loop-place.invariant ∙ any_goes_on (λ f. accepts f (view c.args.value.now)) (list_of (choice_forms c.args.choices)) c.loop-place.place _
    c.choice_at.ensures (sym c.accepts_seen.ensures ∙ c.if-accepts_seen.false)

pub accepts_seen-returns-in-Variant : goal.accepts_seen-returns-in-Variant
accepts_seen-returns-in-Variant t c =
    rw (← c.in-Variant.ensures, some_accept-list (choice_forms c.in-Variant.choices) (view c.args.value.now)) c.some_accepts.ensures

pub accepts_members-accepts_seen-requires : goal.accepts_members-accepts_seen-requires
accepts_members-accepts_seen-requires t c = (omega (arith, c.decreases, size_at (choice_forms c.args.types) _ _ c.choice_at.ensures), tt)

pub accepts_members-returns-then-not-accepts_seen : goal.accepts_members-returns-then-not-accepts_seen
accepts_members-returns-then-not-accepts_seen t c =
    sym (c.loop-place.invariant ∙ member_stops (list_of (choice_forms c.args.types)) c.args.items.now c.loop-place.place _ _
    c.choice_at.ensures (omega (arith, c.loop-place-test.true)) c.index-items-place.is (sym c.accepts_seen.ensures ∙ c.if-not-accepts_seen.true))

pub accepts_members-loop-place-preserved : goal.accepts_members-loop-place-preserved
accepts_members-loop-place-preserved t c =
    c.loop-place.invariant ∙ member_goes_on (list_of (choice_forms c.args.types)) c.args.items.now c.loop-place.place _ _
    c.choice_at.ensures (omega (arith, c.loop-place-test.true)) c.index-items-place.is (sym c.accepts_seen.ensures ∙ c.if-not-accepts_seen.false)

pub accepts_list-returns-in-List : goal.accepts_list-returns-in-List
accepts_list-returns-in-List t c =
    rw (
      c.in-List.is,
      members_of-data_of c.in-List.items,
      accept_members-lists (choice_forms c.args.types) c.in-List.items,
      ← c.as_slice.ensures,
    ) c.accepts_members.ensures

pub is_list_of-returns-in-List : goal.is_list_of-returns-in-List
is_list_of-returns-in-List t c = rw (c.in-List.is, members_of-data_of c.in-List.items) c.accepts_items.ensures

pub is_hash_of-returns-in-Hash : goal.is_hash_of-returns-in-Hash
is_hash_of-returns-in-Hash t c = rw (c.in-Hash.is, pairs_of-entries_of c.in-Hash.pairs) c.accepts_entries.ensures
