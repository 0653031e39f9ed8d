-- A plan that lies the other way round.
use Rattle.std.proofs.Common.{◌≡◌, List, length, reverse, sym}
use Rattle.std.proofs.lemmas.List.{length-reverse, reverse-reverse}
use Rattle.agent_transaction.specs.declared.planned.Planned.{Planned}

pub twice : (l : List Planned) → reverse (reverse l) ≡ l
twice l = reverse-reverse l

pub same_length : (l : List Planned) → length l ≡ length (reverse l)
same_length l = sym (length-reverse l)
