-- The measures: the levels that are left, and how far each function is from the next level. The loops: what is left
-- decides.
use Rattle.std.proofs.Common.{◌≡◌, ◌+◌, ◌*◌, [], length}
use Rattle.eval_collectors.specs.Queries.{tests_from, conjunctions_from, query_within}
use Rattle.eval_collectors.proofs.queries.+asking.Given as goal

abbrev pub decreases-query : goal.decreases-query
decreases-query g l = l.levels * 6

abbrev pub decreases-test : goal.decreases-test
decreases-test g l = l.levels * 6 + 1

abbrev pub decreases-each_test : goal.decreases-each_test
decreases-each_test g l = l.levels * 6 + 2

abbrev pub decreases-all_of : goal.decreases-all_of
decreases-all_of g l = l.levels * 6 + 3

abbrev pub decreases-each_of : goal.decreases-each_of
decreases-each_of g l = l.levels * 6 + 4

abbrev pub decreases-some_of : goal.decreases-some_of
decreases-some_of g l = l.levels * 6 + 5

abbrev pub invariant-each_test-loop-next : goal.invariant-each_test-loop-next
invariant-each_test-loop-next g l =
    tests_from (g.M.Meaning.within l.forms.left) (query_within l.levels (g.M.Meaning.within l.forms.left) l.line) []
    l.tests l.here l.fn.world
    ≡ tests_from (g.M.Meaning.within l.forms.left) (query_within l.levels (g.M.Meaning.within l.forms.left) l.line)
    l.done l.rest l.here l.world

abbrev pub decreases-each_test-loop-next : goal.decreases-each_test-loop-next
decreases-each_test-loop-next g l = length l.rest

abbrev pub invariant-each_of-loop-next : goal.invariant-each_of-loop-next
invariant-each_of-loop-next g l =
    conjunctions_from (g.M.Meaning.within l.forms.left)
    (query_within l.levels (g.M.Meaning.within l.forms.left) l.line) [] l.conjunctions l.here l.fn.world
    ≡ conjunctions_from (g.M.Meaning.within l.forms.left)
    (query_within l.levels (g.M.Meaning.within l.forms.left) l.line) l.done l.rest l.here l.world

abbrev pub decreases-each_of-loop-next : goal.decreases-each_of-loop-next
decreases-each_of-loop-next g l = length l.rest
