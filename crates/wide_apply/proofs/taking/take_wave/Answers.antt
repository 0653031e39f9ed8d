use Rattle.std.proofs.Common.{sym, subst}
use Rattle.wide_apply.specs.Apart.{BackGives}
use Rattle.wide_apply.specs.Going.{AreWithin}
use Rattle.wide_apply.proofs.ApartLemmas.{plan_ats}
use Rattle.wide_apply.proofs.TakingLemmas.{wave_by}
use Rattle.wide_apply.proofs.taking.take_wave.Goals as goal

pub file_all-requires : goal.file_all-requires
file_all-requires g c = record {
  within = subst (λ l. AreWithin l c.args.slots.now.items c.args.blocked.now c.args.signalled.now)
      (sym (plan_ats g.W.Part.Machine.state (g.W.Machine.state c.args.machine.now) c.args.blocked.now
      c.args.signalled.now c.args.wave.items
      c.in_ok-turns.turns.items c.in_ok-taken.taken.items c.in_ok-turns.ensures.begins c.in_ok-taken.ensures))
      c.requires.within;
}

pub returns-clause-wave : goal.returns-clause-wave
returns-clause-wave g c = λ r earlier known.
    let state = g.W.Part.Machine.state in
    let whole = g.W.Machine.state in
    let found = whole c.args.machine.now in
    wave_by state found r earlier c.args.slots.now.items c.args.blocked.now c.args.signalled.now known c.args.wave.items
    c.in_ok-turns.turns.items c.in_ok-taken.taken.items c.in_ok-turns.ensures.begins c.in_ok-taken.ensures
    c.give_back.result
    c.file_all.new.slots.items c.file_all.new.blocked c.file_all.new.signalled (whole c.give_back.new.machine)
    (λ wave e f. c.in_ok-backs.ensures.known r earlier wave e f known) c.in_ok-backs.backs.items
    c.in_ok-backs.ensures.back
    (subst (λ m. BackGives state c.in_ok-backs.backs.items c.give_back.result m (whole c.give_back.new.machine))
    c.begin_all.ensures.same c.give_back.ensures)
