use Rattle.std.proofs.Common.{rules, ap, sym, ◌∙◌, ◌++◌, ◌∷◌, [], Some, length}
use Rattle.atomic_table.specs.Table.{rest}
use Rattle.hist_lock.proofs.Keeps.{gives_more_at}
use Rattle.hist_lock.proofs.Placed.{turn_seat, added_me, added_is, added_own, added_shown}
use Rattle.hist_lock.proofs.lock.HistLock.give_with.Goals as goal

pub fetch_add-served-requires : goal.fetch_add-served-requires
fetch_add-served-requires g c =
    let p = c.pass.inside in let t = c.requires.list in let e = c.pass.view_is in (
      search rules,
      search rules,
      gives_more_at g.V.StandsFor.entries g.V.StandsFor.author _ _ _ p.seat.me.0 c.args.turn.value t.0 p.author _ c.exchange.ensures.3 (ap (λ h. h.turn) e ∙ c.requires.turn)
          (t.1 ∙ ap (λ h. h.front ++ t.0 ∷ []) (sym e)) (t.2 ∙ ap (λ h. Some h.author) (sym e)) c.pass.invariant.mine,
    )

pub invariant_of-pass : goal.invariant_of-pass
invariant_of-pass g c =
    let p = c.pass.inside in
    let a = added_me g.V.StandsFor.author p.seat.me.0 g.V.StandsFor.entries c.args.turn.value (rest p.seat.me.1) c.exchange.new.seat.me c.fetch_add-served.new.seat.me c.exchange.ensures.3 c.fetch_add-served.ensures.2 in
    let placed = turn_seat p.seat (ap (λ h. h.turn) c.pass.view_is ∙ c.requires.turn) c.pass.invariant.placed in
    added_is g.V.StandsFor.author p.seat c.fetch_add-served.new.seat p.room p.author (g.V.StandsFor.entries c.args.turn.value) (p.seat.me.0.calls ++ length p.seat.me.0.front ∷ []) (rest p.seat.me.1) a.0 (ap rest placed) a.1 c.pass.invariant

pub returns-clause-pass : goal.returns-clause-pass
returns-clause-pass g c =
    let p = c.pass.inside in
    let a = added_me g.V.StandsFor.author p.seat.me.0 g.V.StandsFor.entries c.args.turn.value (rest p.seat.me.1) c.exchange.new.seat.me c.fetch_add-served.new.seat.me c.exchange.ensures.3 c.fetch_add-served.ensures.2 in
    added_shown p.seat c.fetch_add-served.new.seat p.author (g.V.StandsFor.entries c.args.turn.value) (rest p.seat.me.1) c.args.pass.now (c.fetch_add-served.ensures.0 ∙ c.exchange.ensures.0) a.0 c.pass.view_is

pub returns-clause-own : goal.returns-clause-own
returns-clause-own g c =
    let p = c.pass.inside in
    let a = added_me g.V.StandsFor.author p.seat.me.0 g.V.StandsFor.entries c.args.turn.value (rest p.seat.me.1) c.exchange.new.seat.me c.fetch_add-served.new.seat.me c.exchange.ensures.3 c.fetch_add-served.ensures.2 in
    added_own g.V.StandsFor.author p.seat c.fetch_add-served.new.seat (g.V.StandsFor.entries c.args.turn.value) (p.seat.me.0.calls ++ length p.seat.me.0.front ∷ []) (rest p.seat.me.1) a.0 a.1
