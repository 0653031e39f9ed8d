use Rattle.std.proofs.Common.{Ok, sym, ap, ap₂, ◌∙◌}
use Rattle.std.proofs.Math.ListN.{drop_of_length-le}
use Rattle.std.proofs.lemmas.Result.{err_from_is_err_and}
use Rattle.pp_values.proofs.Turns.{first_stops}
use Rattle.pp_values.specs.Answers.{and_then, fault_told}
use Rattle.catalog_finish.proofs.RelatingLemmas.{next_is, turn_on, turn_stops, turns_end}
use Rattle.catalog_finish.specs.EdgeTables.{joined}
use Rattle.catalog_finish.specs.Relating.{ends_of, line_step}
use Rattle.catalog_finish.specs.Sources.{sources_of}
use Rattle.catalog_finish.proofs.relating.lines_related.Goals as goal

pub returns-in_err-ends : goal.returns-in_err-ends
returns-in_err-ends c =
    let p = err_from_is_err_and c.from_residual.result c.from_residual.ensures.1 in
    let t = sources_of c.args.tables.now in
    rw (p.1, p.2)
    (turn_stops (line_step t) fault_told c.in_err-ends.field-0.0 c.loop-line.edges c.line-item.result _ _ _
    (next_is c.args.lines.now c.loop-line.line-index c.line-item.result c.loop-line-test.true c.line-item.is)
    (first_stops fault_told c.in_err-ends.field-0.0 (ends_of t c.line-item.result)
    (λ e. Ok (joined c.loop-line.edges e.left e.right c.line-item.result.signal)) c.in_err-ends.ensures)
    c.loop-line.invariant)

pub loop-line-preserved : goal.loop-line-preserved
loop-line-preserved c =
    let t = sources_of c.args.tables.now in
    turn_on (line_step t) c.loop-line.edges _ c.line-item.result _ _ _
    (next_is c.args.lines.now c.loop-line.line-index c.line-item.result c.loop-line-test.true c.line-item.is)
    (ap (λ m. and_then m (λ e. Ok (joined c.loop-line.edges e.left e.right c.line-item.result.signal)))
    c.in_ok-ends.ensures
    ∙ ap Ok (ap₂ (λ left right. joined c.loop-line.edges left right c.line-item.result.signal) (sym c.as_slice.ensures)
    (sym c.as_slice-in-loop-line.ensures) ∙ sym c.in_ok-join.ensures))
    c.loop-line.invariant

pub returns : goal.returns
returns c =
    turns_end (line_step (sources_of c.args.tables.now)) c.loop-line.edges _ _
    (drop_of_length-le c.args.lines.now c.loop-line-test.false) c.loop-line.invariant
