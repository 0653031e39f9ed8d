use Rattle.std.proofs.Common.{sym, ◌∙◌}
use Rattle.catalog_finish.proofs.UnrelatedLemmas.{told_alone, told_touched, untouched_apart}
use Rattle.catalog_finish.proofs.relating.may_relate.Goals as goal

pub returns-then-is_untouched-clause-exact : goal.returns-then-is_untouched-clause-exact
returns-then-is_untouched-clause-exact c =
    told_alone c.args.lines.now c.args.row.now c.is_untouched.result c.has_relation.result c.as_slice.result.now
    c.is_untouched.ensures c.if-is_untouched.true c.as_slice.ensures.attributes c.has_relation.ensures

pub returns-then-is_untouched-clause-holds : goal.returns-then-is_untouched-clause-holds
returns-then-is_untouched-clause-holds c = λ none.
    untouched_apart c.args.lines.now c.args.row.now c.is_untouched.result c.as_slice.result.now c.is_untouched.ensures
    c.if-is_untouched.true c.as_slice.ensures.attributes c.as_slice.ensures.rising (sym c.has_relation.ensures ∙ none)

pub returns-clause-exact : goal.returns-clause-exact
returns-clause-exact c =
    told_touched c.args.lines.now c.args.row.now c.is_untouched.result c.is_untouched.ensures c.if-is_untouched.false
