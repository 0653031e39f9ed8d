use Rattle.std.proofs.Common.{◌<◌, length, arith}
use Rattle.std.proofs.lemmas.Result.{err_from_is_err_and}
use Rattle.pp_values.specs.Answers.{fault_told}
use Rattle.catalog_finish.proofs.RelatingLemmas.{numbered_next, numbered_end, turn_on, turn_stops, turns_end}
use Rattle.catalog_finish.specs.Relating.{row_step}
use Rattle.catalog_finish.specs.Sources.{sources_of}
use Rattle.catalog_finish.proofs.relating.rows_related.Goals as goal

pub returns-in_err-edges : goal.returns-in_err-edges
returns-in_err-edges c =
    let p = err_from_is_err_and c.from_residual.result c.from_residual.ensures.1 in
    let rows = c.args.tables.now.book.now in
    let h : c.loop-number.number < length rows = omega (arith, c.loop-number-test.true, c.count-number-end.ensures) in
    rw (p.1, p.2)
    (turn_stops (row_step (sources_of c.args.tables.now)) fault_told c.in_err-edges.field-0.0 c.loop-number.edges
    (c.loop-number.number, c.row.result.now) _ _ _
    (numbered_next rows c.loop-number.number c.row.result.now h c.row.ensures) c.in_err-edges.ensures
    c.loop-number.invariant)

pub loop-number-preserved : goal.loop-number-preserved
loop-number-preserved c =
    let rows = c.args.tables.now.book.now in
    let h : c.loop-number.number < length rows = omega (arith, c.loop-number-test.true, c.count-number-end.ensures) in
    turn_on (row_step (sources_of c.args.tables.now)) c.loop-number.edges _ (c.loop-number.number, c.row.result.now) _ _ _
    (numbered_next rows c.loop-number.number c.row.result.now h c.row.ensures) c.in_ok-edges.ensures
    c.loop-number.invariant

pub returns : goal.returns
returns c =
    turns_end (row_step (sources_of c.args.tables.now)) c.loop-number.edges _ _
    (numbered_end c.args.tables.now.book.now c.loop-number.number
    (omega (arith, c.loop-number-test.false, c.count-number-end.ensures))) c.loop-number.invariant
