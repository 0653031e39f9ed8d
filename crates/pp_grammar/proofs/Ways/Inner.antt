-- What is read one level further in, and which kinds surely end it.
use Rattle.std.proofs.Common.{◌≡◌, ℕ, Bool, true, false, not, Option, Some, None, ap, ◌∙◌}
use Rattle.pp_lexer.specs.declared.kind.Kind.{Kind}
use Rattle.pp_lexer.specs.declared.kind.Kind.TheVariants as k
use Rattle.pp_grammar.proofs.Reader.Input.{Input, Parser, ◌>>=◌, ◌>>◌, pure, expect, separated}
use Rattle.pp_grammar.proofs.Reader.Inner.{whole_in, operand_in, interpolated_in, param_in, statements_in, function_statements_in, case_option_in, query_in}
use Rattle.pp_grammar.specs.Kinds.{is_kind}
use Rattle.pp_grammar.proofs.Reader.Levels.{within}
use Rattle.pp_tree.specs.declared.expr.Expr.{Expr}
use Rattle.pp_grammar.proofs.Sound.Steps.{is_kind_is}
use Rattle.pp_grammar.proofs.Local.Steps.{Falls, any}
use Rattle.pp_grammar.proofs.Local.Inner.{InnerLocal}
use Rattle.pp_grammar.proofs.Local.Levels.{nowhere, itself}
use Rattle.pp_grammar.proofs.Ways.Steps.{Rule, everything}
use Rattle.pp_grammar.proofs.Ways.Lists.{always, separated_goes}

-- what no expression goes on with
abbrev pub ends_expression : Option Kind → Bool
ends_expression None = true
ends_expression (Some k.CloseBracket) = true
ends_expression (Some k.CloseParen) = true
ends_expression (Some k.CloseBrace) = true
ends_expression (Some k.Comma) = true
ends_expression (Some k.Colon) = true
ends_expression (Some k.Semicolon) = true
ends_expression (Some k.Arrow) = true
ends_expression (Some k.OpenBrace) = true
ends_expression (Some k.InterpolationEnd) = true
ends_expression (Some k.CloseCollector) = true
ends_expression (Some k.CloseExported) = true
ends_expression (Some k.Variable) = true
ends_expression (Some k.TagEnd) = true
ends_expression (Some k.ParamsEnd) = true
ends_expression _ = false

-- the end of a parameter
abbrev pub ends_param : Option Kind → Bool
ends_param (Some k.Comma) = true
ends_param (Some k.CloseParen) = true
ends_param (Some k.ParamsEnd) = true
ends_param _ = false

-- the end of a block's statements, or of a case's options
abbrev pub closes_block : Option Kind → Bool
closes_block (Some k.CloseBrace) = true
closes_block _ = false

-- the end of a collector's query
abbrev pub ends_query : Option Kind → Bool
ends_query (Some k.CloseParen) = true
ends_query (Some k.CloseCollector) = true
ends_query (Some k.CloseExported) = true
ends_query _ = false

-- what ends an interpolation
abbrev pub finish : Expr → Parser Expr
finish x = expect k.InterpolationEnd >> pure x

pub record InnerGoes (n : ℕ) : Type 0 where
  pub whole : (bars : Bool) → Rule n (Some k.Name) (always ends_expression) (whole_in (within n) bars) (λ m. whole_in (within m) bars)
  pub operand : (bars : Bool) → Rule n (Some k.Name) (always ends_expression) (operand_in (within n) bars) (λ m. operand_in (within m) bars)
  -- with what ends it, since a name is a variable before that
  pub interpolated : Rule n (Some k.Name) everything (interpolated_in (within n) >>= finish) (λ m. interpolated_in (within m) >>= finish)
  pub param : (bars : Bool) → Rule n (Some k.Name) (always ends_param) (param_in (within n) bars) (λ m. param_in (within m) bars)
  pub statements : Rule n None (always closes_block) (statements_in (within n)) (λ m. statements_in (within m))
  pub function_statements : Rule n None (always closes_block) (function_statements_in (within n)) (λ m. function_statements_in (within m))
  pub option : Rule n (Some k.Name) everything (case_option_in (within n)) (λ m. case_option_in (within m))
  pub query : Rule n (Some k.Name) (always ends_query) (query_in (within n)) (λ m. query_in (within m))

-- a reader of some level takes as many tokens as ever
pub here_too : (m : ℕ) → InnerLocal nowhere (within m) (within m)
here_too m = itself 0 m 0

pub of_kind : (x : Kind) (F : Option Kind → Bool) → F (Some x) ≡ true → (next : Option Kind) → is_kind x next ≡ true → F next ≡ true
unfolding is_kind
of_kind x F h None e = absurd cc
of_kind x F h (Some y) e = ap (λ (z : Kind). F (Some z)) (is_kind_is x y e) ∙ h

-- a list up to the token that closes it
pub until : {A : Type 0} {k : Kind} {I : Option Kind → Bool} {n : ℕ} {p : Parser A} (close separator : Kind) (item : ℕ → Parser A) → ((m : ℕ) (i : Input) → Falls any i (item m i)) → I (Some close) ≡ true → not (is_kind separator (Some close)) ≡ true
    → Rule n (Some k) (always I) p item → Rule n None (always (is_kind close)) (separated (is_kind close) separator p) (λ m. separated (is_kind close) separator (item m))
until {I = I} close separator item falls ends apart P = separated_goes (is_kind close) separator item falls (λ next e. e) (of_kind close I ends) (of_kind close (λ next. not (is_kind separator next)) apart) P
