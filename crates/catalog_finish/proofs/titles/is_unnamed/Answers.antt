use Rattle.std.proofs.Common.{sym, ◌∙◌}
use Rattle.catalog_finish.proofs.TitleLemmas.{by_own, unnamed_alone, unnamed_not}
use Rattle.catalog_finish.proofs.titles.is_unnamed.Goals as goal

pub returns-then-is_untouched-clause-exact : goal.returns-then-is_untouched-clause-exact
returns-then-is_untouched-clause-exact c =
    unnamed_alone c.args.lines.now c.args.row.now c.is_untouched.result c.has_no_name.result c.args.native
    c.as_slice.result.now c.is_untouched.ensures c.if-is_untouched.true c.as_slice.ensures.attributes
    c.has_no_name.ensures

pub returns-then-is_untouched-clause-holds : goal.returns-then-is_untouched-clause-holds
returns-then-is_untouched-clause-holds c = λ unnamed.
    by_own c.args.lines.now c.args.row.now c.is_untouched.result c.args.native c.as_slice.result.now
    c.is_untouched.ensures c.if-is_untouched.true c.as_slice.ensures.attributes c.as_slice.ensures.rising
    (sym c.has_no_name.ensures ∙ unnamed)

pub returns-clause-exact : goal.returns-clause-exact
returns-clause-exact c =
    unnamed_not c.args.lines.now c.args.row.now c.is_untouched.result c.args.native c.is_untouched.ensures
    c.if-is_untouched.false
