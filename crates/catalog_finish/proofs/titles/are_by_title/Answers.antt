use Rattle.std.proofs.Common.{◌<◌, length, sym, ◌∙◌, arith}
use Rattle.std.proofs.Math.ListN.{drop_of_length-le}
use Rattle.catalog_finish.proofs.RelatingLemmas.{rows_next}
use Rattle.catalog_finish.proofs.TitleLemmas.{sure_next, sure_stops, sure_end, title_next, title_end}
use Rattle.catalog_finish.proofs.titles.are_by_title.Goals as goal

pub returns-then-not-is_by_title-clause-exact : goal.returns-then-not-is_by_title-clause-exact
returns-then-not-is_by_title-clause-exact c =
    let h : c.loop-number.number < length c.args.book.now =
    omega (arith, c.loop-number-test.true, c.count-number-end.ensures) in
    sure_stops c.args.lines.now c.args.book.now c.loop-number.number c.row.result.now
    (rows_next c.args.book.now c.loop-number.number c.row.result.now h c.row.ensures) c.loop-number.invariant.exact
    (sym c.is_by_title.ensures.exact ∙ c.if-not-is_by_title.true)

pub loop-number-preserved : goal.loop-number-preserved
loop-number-preserved c =
    let h : c.loop-number.number < length c.args.book.now =
    omega (arith, c.loop-number-test.true, c.count-number-end.ensures) in
    let next = rows_next c.args.book.now c.loop-number.number c.row.result.now h c.row.ensures in
    record {
      exact = sure_next c.args.lines.now c.args.book.now c.loop-number.number c.row.result.now next
          c.loop-number.invariant.exact (sym c.is_by_title.ensures.exact ∙ c.if-not-is_by_title.false);
      holds = title_next c.args.lines.now c.args.book.now c.loop-number.number c.row.result.now next
          (c.is_by_title.ensures.holds c.if-not-is_by_title.false) c.loop-number.invariant.holds;
    }

pub returns-clause-exact : goal.returns-clause-exact
returns-clause-exact c =
    sure_end c.args.lines.now c.args.book.now c.loop-number.number
    (drop_of_length-le c.args.book.now (omega (arith, c.loop-number-test.false, c.count-number-end.ensures)))
    c.loop-number.invariant.exact

pub returns-clause-holds : goal.returns-clause-holds
returns-clause-holds c = λ _.
    title_end c.args.lines.now c.args.book.now c.loop-number.number
    (drop_of_length-le c.args.book.now (omega (arith, c.loop-number-test.false, c.count-number-end.ensures)))
    c.loop-number.invariant.holds
