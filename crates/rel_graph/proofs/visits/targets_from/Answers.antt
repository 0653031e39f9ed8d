use Rattle.std.proofs.Common.{◌≡◌, ◌∙◌, ℕ, ◌≤◌, ◌++◌, length, get_or, Contains, ap, sym, subst, arith, take_all}
use Rattle.std.specs.declared.vec.Vec.{Vec}
use Rattle.std.specs.declared.alloc.Global.{Global}
use Rattle.rel_graph.specs.Releases.{targets}
use Rattle.rel_graph.proofs.VisitLemmas.{all_more, sound_more}
use Rattle.rel_graph.proofs.visits.targets_from.Goals as goal

pub loop-at-preserved : goal.loop-at-preserved
loop-at-preserved c =
    let pairs = c.args.pairs.now in
    let found = c.args.found.now in
    let ts = c.loop-at.targets.items in
    let i = c.loop-at.at-index in
    let s = c.loop-at.invariant in
    let at : ℕ = get_or found i 0 in
    let here : c.as_slice.result.now ≡ targets pairs at = c.as_slice.ensures.value ∙
    ap (λ (w : Vec ℕ Global). w.items) c.index-out-at.is ∙
    c.requires.out at c.index-out-at.result (c.requires.found i 0 c.loop-at-test.true) in
    let now : c.append.new.ahead.items ≡ ts ++ targets pairs at = c.in_ok-append.ensures ∙ ap (λ l. ts ++ l) here in
    record {
      all = λ x y h p. subst (λ l. Contains l y) (sym now) (all_more pairs found ts i c.loop-at-test.true s.all x y h
          p);
      sound = λ y h. sound_more pairs found ts i c.loop-at-test.true s.sound y (subst (λ l. Contains l y) now h);
    }

pub returns-clause-all : goal.returns-clause-all
returns-clause-all c = λ x y h p.
    let end : length c.args.found.now ≤ c.loop-at.at-index = omega arith in
    c.loop-at.invariant.all x y (subst (λ l. Contains l x) (sym (take_all c.loop-at.at-index c.args.found.now end)) h) p

pub returns-clause-sound : goal.returns-clause-sound
returns-clause-sound c = λ y h.
    let end : length c.args.found.now ≤ c.loop-at.at-index = omega arith in
    let s = c.loop-at.invariant.sound y h in
    (s.0, subst (λ l. Contains l s.0) (take_all c.loop-at.at-index c.args.found.now end) s.1, s.2)
