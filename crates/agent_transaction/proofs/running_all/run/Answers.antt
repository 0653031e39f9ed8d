use Rattle.std.proofs.Common.{◌≡◌, suc, ◌+◌, ◌∷◌, [], length, map, sym, subst, ap, ◌∙◌, arith, length-append}
use Rattle.std.proofs.lemmas.Result.{err_from_is_err_and}
use Rattle.rel_graph.specs.Before.{Before, Direct}
use Rattle.agent_transaction.proofs.RunLemmas.{going_start, going_more, going_broken, going_end, below_first, below_rest, spread_size}
use Rattle.agent_transaction.specs.Marking.{planned_pair, SpreadsIf, Going, AreBelow}
use Rattle.agent_transaction.specs.Runs.{IsRunOf, RunGives}
use Rattle.agent_transaction.proofs.running_all.run.Goals as goal

pub loop-planned-init : goal.loop-planned-init
loop-planned-init g c =
    let start = g.M.Machine.state c.args.machine.now in
    let tasks = map planned_pair c.args.plan in
    record {
      going = λ containers edges signals count new new_too.
          subst (λ l. Going (Before containers edges) (Direct containers signals) tasks tasks l c.args.blocked c.args.signalled start start)
          (sym c.requires.empty)
          (going_start (Before containers edges) (Direct containers signals) tasks start count c.args.blocked c.args.signalled new new_too);
      room = let e : length c.args.room.items ≡ 0 = ap length c.requires.empty in let r = c.requires.room in omega (arith, e, r);
      below = c.requires.below;
      below_too = c.requires.below_too;
    }

pub returns-in_err-line : goal.returns-in_err-line
returns-in_err-line g c = λ containers edges signals count new new_too.
    let state = g.M.Machine.state in
    let tasks = map planned_pair c.args.plan in
    let p = err_from_is_err_and c.from_residual.result c.from_residual.ensures.1 in
    subst (λ r. RunGives (Before containers edges) (Direct containers signals) tasks r (state c.args.machine.now) (state c.turn_of.new.machine))
    (sym p.1)
    (going_broken (Before containers edges) (Direct containers signals) tasks (state c.args.machine.now)
    (map planned_pair c.loop-planned.left) (map planned_pair c.take.new.self) c.loop-planned.lines.items c.loop-planned.blocked
    c.loop-planned.signalled (state c.loop-planned.machine) c.in-Some.planned.at c.in-Some.planned.ready
    (ap (map planned_pair) c.in-Some.ensures) (c.loop-planned.invariant.going containers edges signals count new new_too)
    (state c.turn_of.new.machine) c.in_err-line.ensures.0 c.in_err-line.ensures.1)

pub mark_if-requires : goal.mark_if-requires
mark_if-requires g c =
    below_first c.loop-planned.blocked.count c.loop-planned.left c.take.new.self c.in-Some.planned c.in-Some.ensures
    c.loop-planned.invariant.below

pub mark_if-requires-in-Some : goal.mark_if-requires-in-Some
mark_if-requires-in-Some g c =
    below_first c.loop-planned.signalled.count c.loop-planned.left c.take.new.self c.in-Some.planned c.in-Some.ensures
    c.loop-planned.invariant.below_too

pub loop-planned-preserved : goal.loop-planned-preserved
loop-planned-preserved g c =
    let state = g.M.Machine.state in
    let tasks = map planned_pair c.args.plan in
    let at = c.in-Some.planned.at in
    let spread = subst (λ b. SpreadsIf b at c.loop-planned.blocked c.mark_if.new.marks) c.has_failed.ensures c.mark_if.ensures in
    let spread_too = subst (λ b. SpreadsIf b at c.loop-planned.signalled c.mark_if-in-Some.new.marks) c.signals.ensures c.mark_if-in-Some.ensures in
    record {
      going = λ containers edges signals count new new_too.
          subst (λ l. Going (Before containers edges) (Direct containers signals) tasks (map planned_pair c.take.new.self) l
          c.mark_if.new.marks c.mark_if-in-Some.new.marks (state c.args.machine.now) (state c.turn_of.new.machine))
          (sym c.push_ready.ensures.items)
          (going_more (Before containers edges) (Direct containers signals) tasks (state c.args.machine.now)
          (map planned_pair c.loop-planned.left) (map planned_pair c.take.new.self) c.loop-planned.lines.items c.loop-planned.blocked
          c.loop-planned.signalled (state c.loop-planned.machine) at c.in-Some.planned.ready
          (ap (map planned_pair) c.in-Some.ensures) (c.loop-planned.invariant.going containers edges signals count new new_too)
          c.in_ok-line.line (state c.turn_of.new.machine) c.mark_if.new.marks c.mark_if-in-Some.new.marks
          c.in_ok-line.ensures spread spread_too);
      room =
          let cut : length c.loop-planned.left ≡ suc (length c.take.new.self) = ap length c.in-Some.ensures in
          let grown : length c.push_ready.new.items.items ≡ length c.loop-planned.lines.items + 1 =
          ap length c.push_ready.ensures.items ∙ length-append c.loop-planned.lines.items (c.in_ok-line.line ∷ []) in
          let a = c.loop-planned.invariant.room in let b = c.push_ready.ensures.capacity in omega (arith, cut, grown, a, b);
      below = subst (λ n. AreBelow n c.take.new.self) (sym (spread_size c.has_failed.result at c.loop-planned.blocked c.mark_if.new.marks c.mark_if.ensures))
          (below_rest c.loop-planned.blocked.count c.loop-planned.left c.take.new.self c.in-Some.planned c.in-Some.ensures
          c.loop-planned.invariant.below);
      below_too = subst (λ n. AreBelow n c.take.new.self) (sym (spread_size c.signals.result at c.loop-planned.signalled c.mark_if-in-Some.new.marks c.mark_if-in-Some.ensures))
          (below_rest c.loop-planned.signalled.count c.loop-planned.left c.take.new.self c.in-Some.planned c.in-Some.ensures
          c.loop-planned.invariant.below_too);
    }

pub returns : goal.returns
returns g c = λ containers edges signals count new new_too.
    let state = g.M.Machine.state in
    let tasks = map planned_pair c.args.plan in
    subst (λ l. IsRunOf (Before containers edges) (Direct containers signals) tasks l (state c.args.machine.now) (state c.loop-planned.machine))
    (sym c.from_vec.ensures)
    (going_end (Before containers edges) (Direct containers signals) tasks (state c.args.machine.now)
    (map planned_pair c.loop-planned.left) c.loop-planned.lines.items c.loop-planned.blocked c.loop-planned.signalled
    (state c.loop-planned.machine) (ap (map planned_pair) c.in_default.ensures.0)
    (c.loop-planned.invariant.going containers edges signals count new new_too))
