-- The rules hold of `includes`, and the types of a list are smaller than the list.
use Rattle.std.proofs.Common.{arith, sym, ◌∙◌}
use Rattle.pp_types.specs.Forms.{list_of}
use Rattle.pp_types.specs.Includes.{includes}
use Rattle.pp_types.specs.Layers.{seen_form, layer_form, choice_forms, part_form}
use Rattle.pp_types.specs.Rules.{covers, by_wide}
use Rattle.pp_types.proofs.Cases.{includes-first, includes-past, wide_other, data_data, part_any, part_data, part_variant, part_not_undef, part_array, part_hash, part_array_hash, part_hash_array, part_other}
use Rattle.pp_types.proofs.Places.{size_at, pair_goes_on, pair_stops, all_goes_on, all_stops, any_goes_on, any_stops, lengths_differ}
use Rattle.pp_types.proofs.inclusion.+includes.Goals as goal

pub includes_seen-returns-then-is_first_case : goal.includes_seen-returns-then-is_first_case
includes_seen-returns-then-is_first_case t c =
    sym (includes-first (seen_form c.args.wide) (seen_form c.args.narrow) (sym c.is_first_case.ensures ∙ c.if-is_first_case.true))

pub includes_seen-returns-else-is_first_case : goal.includes_seen-returns-else-is_first_case
includes_seen-returns-else-is_first_case t c =
    c.by_narrow.ensures
    ∙ sym (includes-past (seen_form c.args.wide) (seen_form c.args.narrow) (sym c.is_first_case.ensures ∙ c.if-is_first_case.false))

pub includes_each-includes_seen-requires : goal.includes_each-includes_seen-requires
includes_each-includes_seen-requires t c = (omega (arith, c.decreases, size_at (choice_forms c.args.choices) _ _ c.choice_at.ensures), tt)

pub includes_each-returns-then-not-includes_seen : goal.includes_each-returns-then-not-includes_seen
includes_each-returns-then-not-includes_seen t c =
    sym (c.loop-place.invariant ∙ all_stops (includes (seen_form c.args.wide)) (list_of (choice_forms c.args.choices)) c.loop-place.place _
    c.choice_at.ensures (sym c.includes_seen.ensures ∙ c.if-not-includes_seen.true))

pub includes_each-loop-place-preserved : goal.includes_each-loop-place-preserved
includes_each-loop-place-preserved t c =
    c.loop-place.invariant ∙ all_goes_on (includes (seen_form c.args.wide)) (list_of (choice_forms c.args.choices)) c.loop-place.place _
    c.choice_at.ensures (sym c.includes_seen.ensures ∙ c.if-not-includes_seen.false)

pub some_includes-includes_seen-requires : goal.some_includes-includes_seen-requires
some_includes-includes_seen-requires t c = (omega (arith, c.decreases, size_at (choice_forms c.args.choices) _ _ c.choice_at.ensures), tt)

pub some_includes-returns-then-includes_seen : goal.some_includes-returns-then-includes_seen
some_includes-returns-then-includes_seen t c =
    sym (c.loop-place.invariant ∙ any_stops (λ w. includes w (seen_form c.args.narrow)) (list_of (choice_forms c.args.choices)) c.loop-place.place _
    c.choice_at.ensures (sym c.includes_seen.ensures ∙ c.if-includes_seen.true))

pub some_includes-loop-place-preserved : goal.some_includes-loop-place-preserved
some_includes-loop-place-preserved t c =
    c.loop-place.invariant ∙ any_goes_on (λ w. includes w (seen_form c.args.narrow)) (list_of (choice_forms c.args.choices)) c.loop-place.place _
    c.choice_at.ensures (sym c.includes_seen.ensures ∙ c.if-includes_seen.false)

pub some_includes_part-includes_part-requires : goal.some_includes_part-includes_part-requires
some_includes_part-includes_part-requires t c = (omega (arith, c.decreases, size_at (choice_forms c.args.choices) _ _ c.choice_at.ensures), tt)

pub some_includes_part-returns-then-includes_part : goal.some_includes_part-returns-then-includes_part
some_includes_part-returns-then-includes_part t c =
    sym (c.loop-place.invariant ∙ any_stops (λ w. includes w (part_form c.args.part)) (list_of (choice_forms c.args.choices)) c.loop-place.place _
    c.choice_at.ensures (sym c.includes_part.ensures ∙ c.if-includes_part.true))

pub some_includes_part-loop-place-preserved : goal.some_includes_part-loop-place-preserved
some_includes_part-loop-place-preserved t c =
    c.loop-place.invariant ∙ any_goes_on (λ w. includes w (part_form c.args.part)) (list_of (choice_forms c.args.choices)) c.loop-place.place _
    c.choice_at.ensures (sym c.includes_part.ensures ∙ c.if-includes_part.false)

pub in_places-includes_seen-requires : goal.in_places-includes_seen-requires
in_places-includes_seen-requires t c =
    (omega (arith, c.decreases, size_at (choice_forms c.args.wide) _ _ c.choice_at.ensures, size_at (choice_forms c.args.narrow) _ _ c.choice_at-in-loop-place.ensures), tt)

pub in_places-returns-then-not-includes_seen : goal.in_places-returns-then-not-includes_seen
in_places-returns-then-not-includes_seen t c =
    sym (c.loop-place.invariant ∙ pair_stops includes (list_of (choice_forms c.args.wide)) (list_of (choice_forms c.args.narrow)) c.loop-place.place _ _
    c.choice_at.ensures c.choice_at-in-loop-place.ensures (sym c.includes_seen.ensures ∙ c.if-not-includes_seen.true))

pub in_places-loop-place-preserved : goal.in_places-loop-place-preserved
in_places-loop-place-preserved t c =
    c.loop-place.invariant ∙ pair_goes_on includes (list_of (choice_forms c.args.wide)) (list_of (choice_forms c.args.narrow)) c.loop-place.place _ _
    c.choice_at.ensures c.choice_at-in-loop-place.ensures (sym c.includes_seen.ensures ∙ c.if-not-includes_seen.false)

pub in_places-returns-then-choice_count-count : goal.in_places-returns-then-choice_count-count
in_places-returns-then-choice_count-count t c =
    sym (lengths_differ includes (list_of (choice_forms c.args.wide)) (list_of (choice_forms c.args.narrow))
    (λ e. omega (arith, e, c.if-choice_count-count.true, c.choice_count.ensures, c.choice_count-count.ensures)))

pub by_wide-returns-in_default : goal.by_wide-returns-in_default
by_wide-returns-in_default t c =
    c.covers.ensures
    ∙ (λ i. covers includes (layer_form c.layer_of-layer.result) (c.layer_of.ensures i))
    ∙ wide_other c.layer_of-layer.result (seen_form c.args.narrow) c.in_default.not-Variant c.in_default.not-NotUndef c.in_default.not-Data
    ∙ (λ i. by_wide includes (c.layer_of-layer.ensures i) (seen_form c.args.narrow))

pub includes_data-returns-in-Data : goal.includes_data-returns-in-Data
includes_data-returns-in-Data t c = rw (← c.in-Data.ensures) (sym data_data)

pub includes_part-returns-in-Any : goal.includes_part-returns-in-Any
includes_part-returns-in-Any t c = rw (← c.in-Any.ensures) (sym (part_any c.args.part))

pub includes_part-returns-in-Data : goal.includes_part-returns-in-Data
includes_part-returns-in-Data t c = rw (← c.in-Data.ensures) (sym (part_data c.args.part))

pub includes_part-returns-in-Variant : goal.includes_part-returns-in-Variant
includes_part-returns-in-Variant t c =
    rw (← c.in-Variant.ensures) (c.some_includes_part.ensures ∙ sym (part_variant c.args.part (choice_forms c.in-Variant.choices)))

pub includes_part-returns-in-NotUndef : goal.includes_part-returns-in-NotUndef
includes_part-returns-in-NotUndef t c =
    rw (← c.in-NotUndef.ensures) (c.includes_part.ensures ∙ sym (part_not_undef c.args.part (seen_form c.in-NotUndef.inner)))

pub includes_part-returns-in-Array-part : goal.includes_part-returns-in-Array-part
includes_part-returns-in-Array-part t c =
    rw (← c.in-Array.ensures, c.in-Array-part.is)
    (c.has_arrays_of_data.ensures ∙ sym (part_array (seen_form c.in-Array.of) c.in-Array.count))

pub includes_part-returns-in-Hash-part : goal.includes_part-returns-in-Hash-part
includes_part-returns-in-Hash-part t c =
    rw (← c.in-Array.ensures, c.in-Hash-part.is) (sym (part_array_hash (seen_form c.in-Array.of) c.in-Array.count))

pub includes_part-returns-in-Array-part-2 : goal.includes_part-returns-in-Array-part-2
includes_part-returns-in-Array-part-2 t c =
    rw (← c.in-Hash.ensures, c.in-Array-part-2.is)
    (sym (part_hash_array (seen_form c.in-Hash.key) (seen_form c.in-Hash.value) c.in-Hash.count))

pub includes_part-returns-in-Hash-part-2 : goal.includes_part-returns-in-Hash-part-2
includes_part-returns-in-Hash-part-2 t c =
    rw (← c.in-Hash.ensures, c.in-Hash-part-2.is)
    (c.has_hashes_of_data.ensures ∙ sym (part_hash (seen_form c.in-Hash.key) (seen_form c.in-Hash.value) c.in-Hash.count))

pub includes_part-returns-in_default : goal.includes_part-returns-in_default
includes_part-returns-in_default t c =
    sym (part_other c.args.part c.layer_of.result c.in_default.not-Any c.in_default.not-Data c.in_default.not-Variant c.in_default.not-NotUndef
    c.in_default.not-Array c.in_default.not-Hash) ∙ (λ i. includes (c.layer_of.ensures i) (part_form c.args.part))
