use Rattle.std.proofs.Common.{true≢false, sym}
use Rattle.rel_graph.proofs.SpanLemmas.{no_inside, no_before}
use Rattle.rel_graph.proofs.graph.cyclic_of.Goals as goal

pub returns-then-is_line : goal.returns-then-is_line
returns-then-is_line c = let line = c.is_line.ensures.0 c.if-is_line.true in record {
  contains = no_inside _ _ _ line;
  no = λ _. no_before _ _ _ line;
  yes = λ h. absurd (true≢false (sym h));
}

pub returns : goal.returns
returns c = record {
  contains = c.in_ok-check_containment.ensures;
  no = c.in_ok-cyclic.ensures.no;
  yes = c.in_ok-cyclic.ensures.yes;
}
