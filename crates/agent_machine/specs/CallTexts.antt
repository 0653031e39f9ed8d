-- Texts that are compared piece by piece.
use Rattle.std.specs.Prelude.{◌≡◌, ℕ, List, ◌++◌, Result, MatchResult}
use Rattle.std.specs.Borrow.{Bor}
use Rattle.std.specs.declared.cmp.Ordering.{Ordering}
use Rattle.pp_values.specs.Rising.{text_cmp}
use Rattle.pp_values.specs.Words.{reference_text}
use Rattle.agent_machine.specs.declared.call_text.CallText.{CallText}

-- the piece, whatever follows it, compares so with the other text; or it begins the other text, and what follows the
-- piece is to be compared with the rest
abbrev pub Meets : List ℕ → List ℕ → Result (Bor (List ℕ)) Ordering → Type 0
Meets piece other result =
    MatchResult result (λ rest. (more : List ℕ) → text_cmp (piece ++ more) other ≡ text_cmp more rest.now)
    (λ order. (more : List ℕ) → text_cmp (piece ++ more) other ≡ order)

-- the text of the pieces
abbrev pub pieces_text : CallText → List ℕ
pieces_text q = q.before.now ++ reference_text q.what.now ++ q.gap.now ++ q.name.now
