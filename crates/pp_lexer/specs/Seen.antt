-- A token as contracts see it.
use Rattle.std.specs.Prelude.{ℕ, ℤ, List, refl}
use Rattle.std.specs.Coded.{Coded, code_by, coded×, coded_ℕ, coded_ℤ, coded_list}
use Rattle.pp_lexer.specs.declared.kind.Kind.{Kind}

-- what it is, what it says, the line of its first byte, and the value of a number
pub record Token : Type 0 where
  pub kind : Kind
  pub text : List ℕ
  pub line : ℕ
  pub number : ℤ

-- how a proof tells tokens apart, where it tells their kinds apart
abbrev pub token_code : Coded Kind → Coded Token
token_code kinds =
    code_by (Kind × (List ℕ × (ℕ × ℤ))) (coded× kinds (coded× (coded_list coded_ℕ) (coded× coded_ℕ coded_ℤ)))
    (λ t. (t.kind, (t.text, (t.line, t.number))))
    (λ p. record { kind = p.0; text = p.1.0; line = p.1.1.0; number = p.1.1.1 }) (λ _. refl)
