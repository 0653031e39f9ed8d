use Rattle.std.proofs.Common.{◌<◌, length, arith}
use Rattle.std.proofs.Math.ListN.{drop_of_length-le}
use Rattle.std.proofs.lemmas.Result.{err_from_is_err_and}
use Rattle.pp_values.specs.Answers.{fault_told}
use Rattle.catalog_finish.proofs.RelatingLemmas.{rows_next, turn_on, turn_stops, turns_end}
use Rattle.catalog_finish.specs.Naming.{name_step}
use Rattle.catalog_finish.proofs.naming.names_of_all.Goals as goal

pub returns-in_err-names : goal.returns-in_err-names
returns-in_err-names c =
    let p = err_from_is_err_and c.from_residual.result c.from_residual.ensures.1 in
    let h : c.loop-number.number < length c.args.book.now =
    omega (arith, c.loop-number-test.true, c.count-number-end.ensures) in
    rw (p.1, p.2)
    (turn_stops (name_step c.args.lines.now) fault_told c.in_err-names.field-0.0 c.loop-number.names c.row.result.now _ _ _
    (rows_next c.args.book.now c.loop-number.number c.row.result.now h c.row.ensures) c.in_err-names.ensures
    c.loop-number.invariant)

pub loop-number-preserved : goal.loop-number-preserved
loop-number-preserved c =
    let h : c.loop-number.number < length c.args.book.now =
    omega (arith, c.loop-number-test.true, c.count-number-end.ensures) in
    turn_on (name_step c.args.lines.now) c.loop-number.names _ c.row.result.now _ _ _
    (rows_next c.args.book.now c.loop-number.number c.row.result.now h c.row.ensures) c.in_ok-names.ensures
    c.loop-number.invariant

pub returns : goal.returns
returns c =
    turns_end (name_step c.args.lines.now) c.loop-number.names _ _
    (drop_of_length-le c.args.book.now (omega (arith, c.loop-number-test.false, c.count-number-end.ensures)))
    c.loop-number.invariant
