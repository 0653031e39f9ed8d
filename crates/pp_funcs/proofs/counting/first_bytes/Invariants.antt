-- The characters that were gone through, which are no more than the bytes.
use Rattle.std.proofs.Common.{◌≡◌, ◌+◌, ◌≤◌, drop}
use Rattle.std.specs.Fmt.{is_char_start}
use Rattle.std.specs.List.{count_by}
use Rattle.pp_funcs.proofs.counting.first_bytes.Given as goal

abbrev pub invariant-loop-byte : goal.invariant-loop-byte
invariant-loop-byte l = record {
  count : count_by is_char_start l.text ≡ l.count + count_by is_char_start (drop l.byte-index l.text);
  within : l.count ≤ l.byte-index;
}
