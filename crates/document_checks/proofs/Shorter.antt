-- What stands behind a line is shorter than all.
use Rattle.std.proofs.Common.{◌≡◌, ℕ, ◌<◌, ◌∷◌, List, length, length-append, Some, ap, subst, arith}
use Rattle.json_documents.specs.LinesOfText.{cut_line}
use Rattle.json_documents.proofs.Cutting.{IsCut, is_cut}

pub behind_is_shorter : (text line behind : List ℕ) → cut_line text ≡ Some (line, behind) → length behind < length text
behind_is_shorter text line behind e =
    omega (arith, ap length (subst (IsCut 10 text) e (is_cut 10 text)).0, length-append line (10 ∷ behind))
