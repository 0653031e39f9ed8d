-- What those that were yielded came to is filed.
use Rattle.std.proofs.Common.{◌≡◌, ◌++◌, List, map}
use Rattle.agent_transaction.specs.Runs.{Turned}
use Rattle.wide_apply.specs.Apart.{back_of}
use Rattle.wide_apply.specs.Going.{Related, AreKnown, SameSizes}
use Rattle.wide_apply.proofs.filed.file_all.Given as goal

abbrev pub invariant-loop-turn : goal.invariant-loop-turn
invariant-loop-turn g l = record {
  all : l.yielded ++ l.turn-iterator.rest.items ≡ l.fn.taken.items;
  back : l.backs.items ≡ map back_of l.yielded;
  sizes : SameSizes l.fn.slots.items l.slots.items l.fn.blocked l.blocked l.fn.signalled l.signalled;
  known : (r : Related) (turned wave : List Turned) → map (λ t. t.at) wave ≡ map (λ t. t.at) l.yielded →
      map (λ t. t.line) wave ≡ map (λ t. t.line) l.yielded →
      AreKnown r turned l.fn.slots.items l.fn.blocked l.fn.signalled →
      AreKnown r (turned ++ wave) l.slots.items l.blocked l.signalled;
}
