use Rattle.std.proofs.Common.{◌≡◌, ◌++◌, length, IsUtf8, string_bytes}
use Rattle.pp_lexer.specs.Escapes.{said}
use Rattle.pp_lexer.proofs.escapes.unescaped.Given as goal

abbrev pub invariant-loop-plain : goal.invariant-loop-plain
invariant-loop-plain l = record { said : string_bytes l.text ++ said l.quotes 0 l.rest ≡ said l.quotes 0 l.spelling; utf8 : IsUtf8 l.rest }

abbrev pub decreases-loop-plain : goal.decreases-loop-plain
decreases-loop-plain l = length l.rest
