use Rattle.std.proofs.Common.{◌≡◌, ℕ, ap, ◌∙◌, ◌++◌, arith}
use Rattle.std.specs.declared.vec.Vec.{Vec}
use Rattle.std.specs.declared.alloc.Global.{Global}
use Rattle.rel_graph.specs.Releases.{targets}
use Rattle.rel_graph.proofs.VisitLemmas.{reaching_again, reaching_more, lighter_more}
use Rattle.rel_graph.proofs.visits.go_on.Goals as goal

ahead_is : (c : goal.In_ok-append) → c.append.new.ahead.items ≡ c.args.ahead.now.items ++ targets c.args.pairs.now
    c.args.at
ahead_is c = c.in_ok-append.ensures ∙ ap (λ ts. c.args.ahead.now.items ++ ts) (c.as_slice.ensures.value ∙
    ap (λ (w : Vec ℕ Global). w.items) c.index-out-at.is ∙ c.requires.out c.args.at c.index-out-at.result
    (let e = c.requires.long in let h = c.requires.at in omega (arith, e, h)))

pub returns-then-marks-at-clause-reaching : goal.returns-then-marks-at-clause-reaching
returns-then-marks-at-clause-reaching c = λ before start r. reaching_again c.args.pairs.now before start
    c.args.marks.now
    c.args.ahead.now.items c.args.found.now.items c.args.at r c.if-marks-at.true

pub returns-clause-reaching : goal.returns-clause-reaching
returns-clause-reaching c = λ before start r. rw (ahead_is c, c.in_ok-push.ensures.items) (reaching_more
    c.args.pairs.now
    before start c.args.marks.now c.args.ahead.now.items c.args.found.now.items c.args.at r c.requires.below
    c.requires.at c.if-marks-at.false)

pub returns-clause-lighter : goal.returns-clause-lighter
returns-clause-lighter c = rw (ahead_is c) (lighter_more c.args.pairs.now c.args.marks.now c.args.ahead.now.items
    c.args.at
    c.requires.at c.if-marks-at.false)
