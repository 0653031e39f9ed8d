use Rattle.std.proofs.Common.{◌≡◌, ◌+◌, length}
use Rattle.std.specs.List.{position_or_len}
use Rattle.http_wire.specs.Fields.{is_comma}
use Rattle.http_wire.proofs.fields.behind_comma.Given as goal

abbrev pub invariant-loop-left : goal.invariant-loop-left
invariant-loop-left l = record {
  place : position_or_len is_comma l.list ≡ l.count + position_or_len is_comma l.left;
  size : l.count + length l.left ≡ length l.list;
}

abbrev pub decreases-loop-left : goal.decreases-loop-left
decreases-loop-left l = length l.left
