-- What stands at a place outside of texts, by its first byte.
use Rattle.std.proofs.Common.{◌≡◌, ℕ, ◌<◌, ◌==◌, false, List, drop, get_or, refl, arith}
use Rattle.std.proofs.lemmas.Bool.Decides.{nat_tests}
use Rattle.pp_lexer.specs.Bytes.{blank_len, line_end}
use Rattle.pp_lexer.specs.Fronts.{front}
use Rattle.pp_lexer.specs.Tokens.{in_code}
use Rattle.pp_lexer.specs.declared.front.Found.TheVariants as found

-- a comment to the end of its line
pub comment_here : (z : List ℕ) (len : ℕ) → get_or z 0 0 ≡ 35 → len ≡ line_end 1 (drop 1 z) → 0 < len → front found.Blank len ≡ in_code z
unfolding in_code blank_len
comment_here z len is end some =
    let no : (line_end 1 (drop 1 z) == 0) ≡ false = grind (arith, nat_tests, end, some) in
    rw (is, no, end) refl
