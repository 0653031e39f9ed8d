-- What is left, from what was read last, tells what the whole tells.
use Rattle.std.proofs.Common.{◌≡◌, drop, Some}
use Rattle.pp_types.specs.declared.naming.Read.TheVariants as read
use Rattle.pp_types.specs.Names.{is_read}
use Rattle.pp_types.proofs.naming.is_read.Given as goal

abbrev pub invariant-loop-byte : goal.invariant-loop-byte
invariant-loop-byte l = is_read (Some read.Nothing) l.bytes ≡ is_read (Some l.read) (drop l.byte-index l.bytes)
