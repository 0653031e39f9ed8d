use Rattle.std.proofs.Common.{arith}
use Rattle.std.proofs.lemmas.Str.{IsCharBoundary-after_ascii}
use Rattle.pp_lexer.proofs.scanning.dollar_token.Goals as goal

pub range_from-requires : goal.range_from-requires
range_from-requires c = λ _. IsCharBoundary-after_ascii c.args.spelling.now 0 c.utf8.spelling c.requires.some (omega (arith, c.requires.dollar))
