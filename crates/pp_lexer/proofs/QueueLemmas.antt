-- A list that is taken from its end is the other list, taken from its front.
use Rattle.std.proofs.Common.{◌≡◌, List, [], ◌∷◌, ◌++◌, length, reverse, ap, sym, ◌∙◌}
use Rattle.std.proofs.lemmas.List.{length-reverse, reverse-append, reverse-reverse}
use Rattle.pp_lexer.specs.Seen.{Token}

pub twice : (l : List Token) → reverse (reverse l) ≡ l
twice l = reverse-reverse l

pub same_length : (l : List Token) → length l ≡ length (reverse l)
same_length l = sym (length-reverse l)

pub last_first : (l front : List Token) (t : Token) → l ≡ front ++ t ∷ [] → reverse l ≡ t ∷ reverse front
last_first l front t is = ap reverse is ∙ reverse-append front (t ∷ [])
