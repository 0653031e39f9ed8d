use Rattle.std.proofs.Common.{arith}
use Rattle.std.proofs.lemmas.Str.{IsCharBoundary-after_ascii}
use Rattle.pp_lexer.proofs.scanning.quoted_token.Goals as goal

pub range-requires-clause-start_boundary : goal.range-requires-clause-start_boundary
range-requires-clause-start_boundary c = λ _. IsCharBoundary-after_ascii c.args.spelling.now 0 c.utf8.spelling (omega (arith, c.requires.two)) (omega (arith, c.requires.opening))
