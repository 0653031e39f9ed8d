-- Each type of a `Variant` is smaller.
use Rattle.std.proofs.Common.{arith, sym, ◌∙◌}
use Rattle.pp_types.specs.Forms.{list_of}
use Rattle.pp_types.specs.Layers.{choice_forms}
use Rattle.pp_types.specs.Rules.{accepts_undef}
use Rattle.pp_types.proofs.Places.{size_at, any_goes_on, any_stops, some_accept_undef-list}
use Rattle.pp_types.proofs.undef.+accepts_undef.Goals as goal

pub accepts_undef-returns-in-Variant : goal.accepts_undef-returns-in-Variant
accepts_undef-returns-in-Variant t c =
    rw (← c.in-Variant.ensures, some_accept_undef-list (choice_forms c.in-Variant.choices)) c.some_accepts_undef.ensures

pub some_accepts_undef-accepts_undef-requires : goal.some_accepts_undef-accepts_undef-requires
some_accepts_undef-accepts_undef-requires t c =
    (omega (arith, c.decreases, size_at (choice_forms c.args.choices) _ _ c.choice_at.ensures), tt)

pub some_accepts_undef-returns-then-accepts_undef : goal.some_accepts_undef-returns-then-accepts_undef
some_accepts_undef-returns-then-accepts_undef t c =
    sym (c.loop-place.invariant ∙ any_stops accepts_undef (list_of (choice_forms c.args.choices)) c.loop-place.place _
    c.choice_at.ensures (sym c.accepts_undef.ensures ∙ c.if-accepts_undef.true))

pub some_accepts_undef-loop-place-preserved : goal.some_accepts_undef-loop-place-preserved
some_accepts_undef-loop-place-preserved t c =
    c.loop-place.invariant ∙ any_goes_on accepts_undef (list_of (choice_forms c.args.choices)) c.loop-place.place _
    c.choice_at.ensures (sym c.accepts_undef.ensures ∙ c.if-accepts_undef.false)
