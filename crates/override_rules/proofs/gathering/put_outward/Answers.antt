use Rattle.std.proofs.Common.{◌-◌, Some, sym, ap, ◌∙◌, arith}
use Rattle.pp_values.specs.Rising.{with_texts}
use Rattle.override_rules.proofs.Gathered.{put_scope}
use Rattle.override_rules.proofs.Outward.{names_end, names_none, names_closed}
use Rattle.override_rules.proofs.gathering.put_outward.Goals as goal
use Rattle.override_rules.specs.Names.{names_within}

pub returns-in-None : goal.returns-in-None
returns-in-None c =
    sym (ap (with_texts c.loop-left.names.keys) (names_closed c.loop-left.left c.args.scopes.now c.args.defaults.now
    c.args.kind.now
    c.loop-left.wanted (sym c.in-None.ensures)))
    ∙ c.loop-left.invariant

pub returns-in-None-parent : goal.returns-in-None-parent
returns-in-None-parent c =
    let t = c.loop-left-test.true in
    let left = c.loop-left.left in
    sym (put_scope left (left - 1) c.args.scopes.now c.args.defaults.now c.args.kind.now c.loop-left.wanted
    c.in-Some.parent
    c.loop-left.names.keys c.put_names.new.names.keys (omega arith) (sym c.in-Some.ensures)
    c.in_ok-put_names-in-Some.ensures
    ∙ ap (with_texts c.put_names.new.names.keys)
    (names_none (left - 1) c.args.scopes.now c.args.defaults.now c.args.kind.now c.in-Some.parent
    c.in-None-parent.is))
    ∙ c.loop-left.invariant

pub loop-left-preserved : goal.loop-left-preserved
loop-left-preserved c =
    let t = c.loop-left-test.true in
    let left = c.loop-left.left in
    sym (put_scope left (left - 1) c.args.scopes.now c.args.defaults.now c.args.kind.now c.loop-left.wanted
    c.in-Some.parent
    c.loop-left.names.keys c.put_names.new.names.keys (omega arith) (sym c.in-Some.ensures)
    c.in_ok-put_names-in-Some.ensures
    ∙ ap (λ p. with_texts c.put_names.new.names.keys (names_within (left - 1) c.args.scopes.now c.args.defaults.now
    c.args.kind.now p))
    c.in-Some-parent.is)
    ∙ c.loop-left.invariant

pub returns : goal.returns
returns c =
    let t = c.loop-left-test.false in
    sym (ap (with_texts c.loop-left.names.keys) (names_end c.loop-left.left c.args.scopes.now c.args.defaults.now
    c.args.kind.now
    (Some c.loop-left.wanted) (omega arith)))
    ∙ c.loop-left.invariant
