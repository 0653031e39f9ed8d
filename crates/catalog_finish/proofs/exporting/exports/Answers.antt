use Rattle.std.proofs.Common.{◌<◌, length, Ok, sym, ap, ◌∙◌, arith}
use Rattle.std.proofs.lemmas.List.{append-nil}
use Rattle.std.proofs.lemmas.Result.{err_from_is_err_and}
use Rattle.catalog_finish.proofs.ExportLemmas.{export_turn, export_stops, exports_end}
use Rattle.catalog_finish.proofs.exporting.exports.Goals as goal
use Rattle.catalog_finish.proofs.exporting.exports.Goals.{in-Some+in_ok-push-in-Some, in-None}

pub returns-in_err-export : goal.returns-in_err-export
returns-in_err-export c =
    let p = err_from_is_err_and c.from_residual.result c.from_residual.ensures.1 in
    rw (p.1, p.2)
    (export_stops c.args.lines.now c.args.book.now c.loop-number.number c.row.result.now c.loop-number.exports.items _
    (omega (arith, c.loop-number-test.true, c.count-number-end.ensures)) c.row.ensures c.loop-number.invariant
    c.in_err-export.field-0.0 c.in_err-export.ensures)

pub loop-number-preserved : goal.loop-number-preserved
loop-number-preserved c =
    let h : c.loop-number.number < length c.args.book.now =
    omega (arith, c.loop-number-test.true, c.count-number-end.ensures) in
    elim c.match-branch-2.branch [
      | in-Some+in_ok-push-in-Some w ↦
          export_turn c.args.lines.now c.args.book.now c.loop-number.number c.row.result.now c.loop-number.exports.items _ h
          c.row.ensures c.loop-number.invariant _ _ (c.in_ok-export.ensures ∙ ap Ok w.in-Some.is)
          (ap (λ v. v.items) w.exports-is ∙ w.in_ok-push-in-Some.ensures.items)
      | in-None w ↦
          export_turn c.args.lines.now c.args.book.now c.loop-number.number c.row.result.now c.loop-number.exports.items _ h
          c.row.ensures c.loop-number.invariant _ _ (c.in_ok-export.ensures ∙ ap Ok w.in-None.is)
          (ap (λ v. v.items) w.exports-is ∙ sym (append-nil c.loop-number.exports.items))
    ]

pub returns : goal.returns
returns c =
    exports_end c.args.lines.now c.args.book.now c.loop-number.number _ _
    (omega (arith, c.loop-number-test.false, c.count-number-end.ensures)) c.loop-number.invariant
    ∙ sym (ap Ok c.from_vec.ensures)
