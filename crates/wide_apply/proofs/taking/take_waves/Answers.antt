use Rattle.std.proofs.Common.{◌≡◌, ◌++◌, ◌∷◌, [], map, length, refl, sym, subst, ap, ◌∙◌, arith, append_assoc}
use Rattle.std.proofs.lemmas.Result.{err_from_is_err_and}
use Rattle.agent_transaction.specs.Marking.{planned_pair}
use Rattle.wide_apply.specs.Going.{tasks_in, Going, WavesGive}
use Rattle.wide_apply.specs.WideRuns.{together}
use Rattle.wide_apply.proofs.ShareLemmas.{nothing_left}
use Rattle.wide_apply.proofs.TakingLemmas.{cut_first, going_start, going_more, going_cut, going_by, wave_within}
use Rattle.wide_apply.proofs.taking.take_waves.Goals as goal

pub returns-in_err-slots : goal.returns-in_err-slots
returns-in_err-slots g c = λ r new new_too.
    let start = g.W.Machine.state c.args.machine.now in
    let p = err_from_is_err_and c.from_residual.result c.from_residual.ensures.1 in
    subst (λ x. WavesGive r (tasks_in c.args.waves.items) c.args.count x start start) (sym p.1)
    (cut_first r (tasks_in c.args.waves.items) start start refl)

pub loop-wave-init : goal.loop-wave-init
loop-wave-init g c =
    let start = g.W.Machine.state c.args.machine.now in
    let all = c.into_iter-wave-iterator.ensures.into_iter_gives.0 in
    record {
      all = all;
      long = c.in_ok-slots.ensures.long;
      in_blocked = c.requires.blocked;
      in_signalled = c.requires.signalled;
      going = λ r new new_too.
          subst (λ l. Going r (tasks_in c.args.waves.items) l c.in_ok-slots.slots.items c.args.blocked c.args.signalled
          start start) (ap tasks_in (sym all))
          (going_start r (tasks_in c.args.waves.items) c.args.count c.in_ok-slots.slots.items c.args.blocked
          c.args.signalled start c.in_ok-slots.ensures.none new new_too);
    }

pub take_wave-requires-clause-within : goal.take_wave-requires-clause-within
take_wave-requires-clause-within g c κs within =
    wave_within c.args.waves.items c.loop-wave.yielded c.next.new.self.rest.items c.in-Some.wave c.args.count
    c.loop-wave.slots.items
    c.loop-wave.blocked c.loop-wave.signalled
    (ap (λ l. c.loop-wave.yielded ++ l) (sym c.in-Some.ensures.steps.0) ∙ c.loop-wave.invariant.all) c.requires.below
    c.loop-wave.invariant.long c.loop-wave.invariant.in_blocked c.loop-wave.invariant.in_signalled

pub loop-wave-preserved : goal.loop-wave-preserved
loop-wave-preserved g c =
    let whole = g.W.Machine.state in
    let inv = c.loop-wave.invariant in
    let sizes = c.in_ok-take_wave.ensures.sizes in
    record {
      all = append_assoc c.loop-wave.yielded (c.in-Some.wave ∷ []) c.next.new.self.rest.items
          ∙ ap (λ l. c.loop-wave.yielded ++ l) (sym c.in-Some.ensures.steps.0) ∙ inv.all;
      long = sizes.same_slots ∙ inv.long;
      in_blocked = sizes.same_blocked ∙ inv.in_blocked;
      in_signalled = sizes.same_signalled ∙ inv.in_signalled;
      going = λ r new new_too.
          let going = subst (λ l. Going r (tasks_in c.args.waves.items) l c.loop-wave.slots.items c.loop-wave.blocked
          c.loop-wave.signalled
          (whole c.args.machine.now) (whole c.loop-wave.machine)) (ap tasks_in c.in-Some.ensures.steps.0)
          (inv.going r new new_too) in
          going_more r (tasks_in c.args.waves.items) (tasks_in c.next.new.self.rest.items)
          (map planned_pair c.in-Some.wave.items) c.loop-wave.slots.items
          c.loop-wave.blocked c.loop-wave.signalled (whole c.args.machine.now) (whole c.loop-wave.machine) going
          c.take_wave.new.slots.items c.take_wave.new.blocked c.take_wave.new.signalled (whole c.take_wave.new.machine)
          (c.in_ok-take_wave.ensures.wave r (together going.done) going.known);
    }

pub returns-in_err-take_wave : goal.returns-in_err-take_wave
returns-in_err-take_wave g c = λ r new new_too.
    let whole = g.W.Machine.state in
    let p = err_from_is_err_and c.from_residual-in_err-take_wave.result c.from_residual-in_err-take_wave.ensures.1 in
    let going = subst (λ l. Going r (tasks_in c.args.waves.items) l c.loop-wave.slots.items c.loop-wave.blocked
    c.loop-wave.signalled
    (whole c.args.machine.now) (whole c.loop-wave.machine)) (ap tasks_in c.in-Some.ensures.steps.0)
    (c.loop-wave.invariant.going r new new_too) in
    subst (λ x. WavesGive r (tasks_in c.args.waves.items) c.args.count x (whole c.args.machine.now)
    (whole c.take_wave.new.machine)) (sym p.1)
    (going_cut r (tasks_in c.args.waves.items) (tasks_in c.next.new.self.rest.items)
    (map planned_pair c.in-Some.wave.items) c.loop-wave.slots.items
    c.loop-wave.blocked c.loop-wave.signalled (whole c.args.machine.now) (whole c.loop-wave.machine) going
    (whole c.take_wave.new.machine)
    (c.in_err-take_wave.ensures.wave r (together going.done) going.known))

pub returns : goal.returns
returns g c = λ r new new_too.
    let whole = g.W.Machine.state in
    let rest = c.loop-wave.wave-iterator.rest in
    let over : length rest.items ≡ 0 = (let none = c.in-None.ensures.steps.0 in omega (arith, none, rest.ok)) in
    going_by c.lines_of.result r (tasks_in c.args.waves.items) (tasks_in rest.items) c.args.count
    c.loop-wave.slots.items c.loop-wave.blocked
    c.loop-wave.signalled (whole c.args.machine.now) (whole c.loop-wave.machine)
    (c.loop-wave.invariant.going r new new_too)
    (ap tasks_in (nothing_left rest.items over)) c.loop-wave.invariant.long c.lines_of.ensures
