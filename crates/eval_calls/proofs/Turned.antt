-- A list that is taken from its end is the other list, taken from its front.
use Rattle.std.proofs.Common.{◌≡◌, List, [], ◌∷◌, ◌++◌, reverse, ap, sym, ◌∙◌}
use Rattle.std.proofs.lemmas.List.{append_assoc, reverse-append}
use Rattle.expr_eval.specs.Turns.{Turn}

pub last_first : (l front : List Turn) (t : Turn) → l ≡ front ++ t ∷ [] → reverse l ≡ t ∷ reverse front
last_first l front t is = ap reverse is ∙ reverse-append front (t ∷ [])

-- a turn that is taken from the end of what is left, and put behind what was taken, is in its place
pub turn_moved : (all left front back more : List Turn) (t : Turn) → left ++ reverse back ≡ all
    → left ≡ front ++ t ∷ [] → more ≡ back ++ t ∷ [] → front ++ reverse more ≡ all
turn_moved all left front back more t before taken put =
    ap (λ l. front ++ l) (last_first more back t put)
    ∙ sym (append_assoc front (t ∷ []) (reverse back))
    ∙ ap (λ l. l ++ reverse back) (sym taken)
    ∙ before
