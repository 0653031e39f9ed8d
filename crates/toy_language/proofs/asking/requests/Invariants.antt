use Rattle.std.specs.Prelude.{IsTrue}
use Rattle.res_core.specs.AskedFacts.{give_facts}
use Rattle.toy_language.proofs.asking.requests.Given as goal

abbrev pub invariant-loop-word : goal.invariant-loop-word
invariant-loop-word l = IsTrue (give_facts l.requests)
