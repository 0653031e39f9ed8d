-- What is read one level further in, by two readers of which the second may open more levels.
use Rattle.std.proofs.Common.{◌≡◌, Bool}
use Rattle.pp_lexer.specs.declared.kind.Kind.{Kind}
use Rattle.pp_lexer.specs.Seen.{Token}
use Rattle.pp_parser.specs.declared.inset.Inset.{Inset}
use Rattle.pp_parser.specs.declared.inset.Inset.TheVariants as goal
use Rattle.pp_parser.specs.declared.inset.InsetTree.{InsetTree}
use Rattle.pp_parser.specs.declared.inset.InsetTree.TheVariants as part
use Rattle.pp_grammar.proofs.Reader.Input.{Parser, ◌>>=◌}
use Rattle.pp_grammar.proofs.Reader.Inner.{Inner, opening, expr_of, param_of, block_of, case_option_of, query_of, whole_in, operand_in, interpolated_in, param_in, statements_in, function_statements_in, case_option_in, query_in}
use Rattle.pp_grammar.proofs.Local.Steps.{Cut, IsLocal, any, one, bind_local, first_local, Opening, open_local, pure_local, refuse_local}

pub record InnerLocal (c : Cut) (inner outer : Inner) : Type 0 where
  -- the first one may open no level anywhere
  pub deepest : Bool
  pub opening : Opening c deepest inner.is_deepest outer.is_deepest
  pub keys : inner.doubled_key ≡ outer.doubled_key
  pub reads : (goal : Inset) → IsLocal c deepest any (inner.read goal) (outer.read goal)
  -- an option of a case takes a token
  pub options : IsLocal c deepest one (inner.read goal.CaseOption) (outer.read goal.CaseOption)

pub opening_local : {A : Type 0} {c : Cut} {deepest : Bool} {a b : Inner} {f g : Token → Parser A} (I : InnerLocal c a b) → (k : Kind) → ((t : Token) → IsLocal c I.deepest any (f t) (g t))
    → IsLocal c deepest one (opening a k >>= f) (opening b k >>= g)
opening_local I k F = open_local k I.opening F

expr_of_local : {c : Cut} {deepest : Bool} (x : InsetTree) → IsLocal c deepest any (expr_of x) (expr_of x)
expr_of_local (part.Expr x) = pure_local x
expr_of_local _ = refuse_local

param_of_local : {c : Cut} {deepest : Bool} (x : InsetTree) → IsLocal c deepest any (param_of x) (param_of x)
param_of_local (part.Param x) = pure_local x
param_of_local _ = refuse_local

block_of_local : {c : Cut} {deepest : Bool} (x : InsetTree) → IsLocal c deepest any (block_of x) (block_of x)
block_of_local (part.Block x) = pure_local x
block_of_local _ = refuse_local

case_option_of_local : {c : Cut} {deepest : Bool} (x : InsetTree) → IsLocal c deepest any (case_option_of x) (case_option_of x)
case_option_of_local (part.CaseOption x) = pure_local x
case_option_of_local _ = refuse_local

query_of_local : {c : Cut} {deepest : Bool} (x : InsetTree) → IsLocal c deepest any (query_of x) (query_of x)
query_of_local (part.Query x) = pure_local x
query_of_local _ = refuse_local

module _ {c : Cut} {a b : Inner} (I : InnerLocal c a b) where
  pub whole_in_local : (bars : Bool) → IsLocal c I.deepest any (whole_in a bars) (whole_in b bars)
  unfolding whole_in
  whole_in_local bars = bind_local (I.reads (goal.Whole bars)) expr_of_local

  pub operand_in_local : (bars : Bool) → IsLocal c I.deepest any (operand_in a bars) (operand_in b bars)
  unfolding operand_in
  operand_in_local bars = bind_local (I.reads (goal.Operand bars)) expr_of_local

  pub interpolated_in_local : IsLocal c I.deepest any (interpolated_in a) (interpolated_in b)
  unfolding interpolated_in
  interpolated_in_local = bind_local (I.reads goal.Interpolated) expr_of_local

  pub param_in_local : (bars : Bool) → IsLocal c I.deepest any (param_in a bars) (param_in b bars)
  unfolding param_in
  param_in_local bars = bind_local (I.reads (goal.Param bars)) param_of_local

  pub statements_in_local : IsLocal c I.deepest any (statements_in a) (statements_in b)
  unfolding statements_in
  statements_in_local = bind_local (I.reads goal.Statements) block_of_local

  pub function_statements_in_local : IsLocal c I.deepest any (function_statements_in a) (function_statements_in b)
  unfolding function_statements_in
  function_statements_in_local = bind_local (I.reads goal.FunctionStatements) block_of_local

  pub case_option_in_local : IsLocal c I.deepest one (case_option_in a) (case_option_in b)
  unfolding case_option_in
  case_option_in_local = first_local I.options case_option_of_local

  pub query_in_local : IsLocal c I.deepest any (query_in a) (query_in b)
  unfolding query_in
  query_in_local = bind_local (I.reads goal.Query) query_of_local
