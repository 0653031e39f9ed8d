-- What is there, with what is left put in, is all.
use Rattle.std.proofs.Common.{◌≡◌, IsTrue}
use Rattle.res_core.specs.PlainAttributes.{are_plain}
use Rattle.agent_machine.specs.Recorded.{recorded}
use Rattle.agent_machine.proofs.CopyLemmas.{puts}
use Rattle.agent_machine.proofs.properties.Properties.copy.Given as goal

abbrev pub invariant-loop-name : goal.invariant-loop-name
invariant-loop-name l = record {
  puts : puts l.copied (recorded l.name-iterator) ≡ l.self;
  plain : IsTrue (are_plain (recorded l.name-iterator));
}
