-- A text of ASCII alone has a character for each byte.
use Rattle.std.proofs.Common.{◌≡◌, ℕ, suc, ◌+◌, ◌<◌, List, [], ◌∷◌, length, cond, arith, refl}
use Rattle.std.proofs.lemmas.List.Sums.{sum_by-cons}
use Rattle.std.specs.Fmt.{is_char_start}
use Rattle.std.specs.Str.{IsAscii}
use Rattle.pp_funcs.specs.Counts.{characters}

abbrev counted : ℕ → ℕ
counted b = cond (is_char_start b) 1 0

alone : (b : ℕ) → b < 128 → counted b ≡ 1
alone b h = grind arith

pub ascii_characters : (t : List ℕ) → IsAscii t → length t ≡ characters t
ascii_characters [] ascii = refl
ascii_characters (b ∷ t) ascii =
    let here : counted b ≡ 1 = alone b (ascii 0) in
    let rest = ascii_characters t (λ i. ascii (suc i)) in
    let step : characters (b ∷ t) ≡ counted b + characters t = sum_by-cons counted b t in
    omega (arith, here, rest, step)
