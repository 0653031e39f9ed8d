use Rattle.std.proofs.Common.{◌-◌, Some, sym, ap, ◌∙◌, arith}
use Rattle.override_rules.proofs.Outward.{near_end, near_none, near_closed, near_open}
use Rattle.override_rules.proofs.nearest.nearest_outward.Goals as goal
use Rattle.override_rules.specs.Defaults.{or_else, nearest_within}

pub returns-in-None : goal.returns-in-None
returns-in-None c =
    sym (c.loop-left.invariant
    ∙ near_closed c.loop-left.left c.args.scopes.now c.args.defaults.now c.args.kind.now c.args.name.now
    c.loop-left.wanted
    (sym c.in-None.ensures))

pub returns-in-Some-get : goal.returns-in-Some-get
returns-in-Some-get c =
    let t = c.loop-left-test.true in
    let left = c.loop-left.left in
    sym (c.loop-left.invariant
    ∙ near_open left (left - 1) c.args.scopes.now c.args.defaults.now c.args.kind.now c.args.name.now
    c.loop-left.wanted
    c.in-Some.parent (omega arith) (sym c.in-Some.ensures)
    ∙ ap (λ o. or_else o (nearest_within (left - 1) c.args.scopes.now c.args.defaults.now c.args.kind.now
    c.args.name.now c.in-Some.parent))
    (sym c.in-Some-get.ensures))

pub returns-in-None-parent : goal.returns-in-None-parent
returns-in-None-parent c =
    let t = c.loop-left-test.true in
    let left = c.loop-left.left in
    sym (c.loop-left.invariant
    ∙ near_open left (left - 1) c.args.scopes.now c.args.defaults.now c.args.kind.now c.args.name.now
    c.loop-left.wanted
    c.in-Some.parent (omega arith) (sym c.in-Some.ensures)
    ∙ ap (λ o. or_else o (nearest_within (left - 1) c.args.scopes.now c.args.defaults.now c.args.kind.now
    c.args.name.now c.in-Some.parent))
    (sym c.in_default.ensures)
    ∙ near_none (left - 1) c.args.scopes.now c.args.defaults.now c.args.kind.now c.args.name.now c.in-Some.parent
    c.in-None-parent.is)

pub loop-left-preserved : goal.loop-left-preserved
loop-left-preserved c =
    let t = c.loop-left-test.true in
    let left = c.loop-left.left in
    c.loop-left.invariant
    ∙ near_open left (left - 1) c.args.scopes.now c.args.defaults.now c.args.kind.now c.args.name.now
    c.loop-left.wanted
    c.in-Some.parent (omega arith) (sym c.in-Some.ensures)
    ∙ ap (λ o. or_else o (nearest_within (left - 1) c.args.scopes.now c.args.defaults.now c.args.kind.now
    c.args.name.now c.in-Some.parent))
    (sym c.in_default.ensures)
    ∙ ap (nearest_within (left - 1) c.args.scopes.now c.args.defaults.now c.args.kind.now c.args.name.now)
    c.in-Some-parent.is

pub returns : goal.returns
returns c =
    let t = c.loop-left-test.false in
    sym (c.loop-left.invariant
    ∙ near_end c.loop-left.left c.args.scopes.now c.args.defaults.now c.args.kind.now c.args.name.now
    (Some c.loop-left.wanted) (omega arith))
