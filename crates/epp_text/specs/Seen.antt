-- A piece of a template as contracts see it.
use Rattle.std.specs.Prelude.{ℕ, List, refl}
use Rattle.std.specs.Coded.{Coded, code_by, coded×, coded_ℕ, coded_list}
use Rattle.epp_text.specs.declared.piece.PieceKind.{PieceKind}

-- what it is, its text, and the line of its first byte
pub record Piece : Type 0 where
  pub kind : PieceKind
  pub text : List ℕ
  pub line : ℕ

-- how a proof tells pieces apart, where it tells their kinds apart
abbrev pub piece_code : Coded PieceKind → Coded Piece
piece_code kinds =
    code_by (PieceKind × (List ℕ × ℕ)) (coded× kinds (coded× (coded_list coded_ℕ) coded_ℕ))
    (λ p. (p.kind, (p.text, p.line))) (λ q. record { kind = q.0; text = q.1.0; line = q.1.1 }) (λ _. refl)

-- a path, and the text that stands there
abbrev pub Filed : Type 0
Filed = List ℕ × List ℕ
