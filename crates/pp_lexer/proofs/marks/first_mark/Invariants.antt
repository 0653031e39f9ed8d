use Rattle.std.proofs.Common.{◌≡◌, length, map}
use Rattle.pp_lexer.specs.Marks.{first_mark, AllEndInAscii}
use Rattle.pp_lexer.proofs.marks.first_mark.Given as goal

abbrev pub invariant-loop-table : goal.invariant-loop-table
invariant-loop-table l = record {
  value : first_mark (map (λ m. (m.0.now, m.1)) l.table) l.bytes ≡ first_mark (map (λ m. (m.0.now, m.1)) l.initial.table) l.bytes;
  ascii : AllEndInAscii (map (λ m. (m.0.now, m.1)) l.table);
}

abbrev pub decreases-loop-table : goal.decreases-loop-table
decreases-loop-table l = length l.table
