use Rattle.std.proofs.Common.{◌++◌, Ok, sym, ap, ◌∙◌}
use Rattle.std.proofs.Math.ListN.{drop_of_length-le}
use Rattle.std.proofs.lemmas.Result.{err_from_is_err_and}
use Rattle.pp_values.proofs.Turns.{first_stops}
use Rattle.pp_values.specs.Answers.{and_then, fault_told}
use Rattle.catalog_finish.proofs.RelatingLemmas.{next_is, turn_on, turn_stops, turns_end}
use Rattle.catalog_finish.specs.Relating.{operand_of, operand_step}
use Rattle.catalog_finish.specs.Sources.{sources_of}
use Rattle.catalog_finish.proofs.relating.side_of.Goals as goal

pub returns-in_err-more : goal.returns-in_err-more
returns-in_err-more c =
    let p = err_from_is_err_and c.from_residual.result c.from_residual.ensures.1 in
    let t = sources_of c.args.tables.now in
    rw (p.1, p.2)
    (turn_stops (operand_step t c.args.at.now) fault_told c.in_err-more.field-0.0 c.loop-operand.found
    c.operand-item.result _ _ _
    (next_is c.args.operands.now c.loop-operand.operand-index c.operand-item.result c.loop-operand-test.true
    c.operand-item.is)
    (first_stops fault_told c.in_err-more.field-0.0 (operand_of t c.args.at.now c.operand-item.result)
    (λ is. Ok (c.loop-operand.found ++ is)) c.in_err-more.ensures)
    c.loop-operand.invariant)

pub loop-operand-preserved : goal.loop-operand-preserved
loop-operand-preserved c =
    let t = sources_of c.args.tables.now in
    turn_on (operand_step t c.args.at.now) c.loop-operand.found _ c.operand-item.result _ _ _
    (next_is c.args.operands.now c.loop-operand.operand-index c.operand-item.result c.loop-operand-test.true
    c.operand-item.is)
    (ap (λ m. and_then m (λ is. Ok (c.loop-operand.found ++ is))) c.in_ok-more.ensures
    ∙ ap Ok (sym c.in_ok-append.ensures))
    c.loop-operand.invariant

pub returns : goal.returns
returns c =
    turns_end (operand_step (sources_of c.args.tables.now) c.args.at.now) c.loop-operand.found _ _
    (drop_of_length-le c.args.operands.now c.loop-operand-test.false) c.loop-operand.invariant
