use Rattle.std.proofs.Common.{sym, ap, subst, ◌≡◌, true, ◌∙◌, ◌++◌, ◌∷◌, [], List, arith}
use Rattle.std.specs.List.{list_all}
use Rattle.res_core.specs.Catalogs.{has_form}
use Rattle.res_core.specs.declared.held.Held.{Held}
use Rattle.catalog_finish.specs.Catalogs.{held}
use Rattle.catalog_finish.proofs.KeptLemmas.{one_more_form}
use Rattle.catalog_finish.proofs.LayoutLemmas.{live_turn, dead_turn}
use Rattle.catalog_finish.proofs.resources.resources.Goals as goal
use Rattle.catalog_finish.proofs.resources.resources.Goals.{then-live+in_ok-held+in_ok-push, else-live}

pub loop-number-preserved : goal.loop-number-preserved
loop-number-preserved c = elim c.if-live.branch [
  | then-live+in_ok-held+in_ok-push w ↦
      let put = ap (λ v. v.items) w.items-is ∙ w.in_ok-push.ensures.items in (
        live_turn (held c.args.lines.now c.args.layout.now) c.args.book.now c.loop-number.number c.loop-number.items.items _ _
            (omega (arith, c.loop-number-test.true, c.count-number-end.ensures)) c.loop-number.invariant.0 _ w.row.ensures
            (sym c.live.ensures ∙ w.if-live.true)
            (put ∙ ap (λ x. c.loop-number.items.items ++ x ∷ []) w.in_ok-held.ensures.held),
        one_more_form c.loop-number.items.items _ _ put c.loop-number.invariant.1 w.in_ok-held.ensures.form,
      )
  | else-live w ↦
      let same = ap (λ v. v.items) w.items-is in (
        dead_turn (held c.args.lines.now c.args.layout.now) c.args.book.now c.loop-number.number c.loop-number.items.items _ _
            (omega (arith, c.loop-number-test.true, c.count-number-end.ensures)) c.loop-number.invariant.0
            (sym c.live.ensures ∙ w.if-live.false) same,
        subst (λ hs. list_all has_form hs ≡ true) (sym same) c.loop-number.invariant.1,
      )
]
