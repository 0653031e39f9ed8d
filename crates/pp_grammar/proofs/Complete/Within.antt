-- What has to hold of the level further in, so that a rule reads whatever stands by its phrase.
use Rattle.std.proofs.Common.{◌≡◌, ℕ, ◌+◌, ◌≤◌, Bool, List, length, Ok, refl, arith}
use Rattle.pp_lexer.specs.declared.kind.Kind.{Kind}
use Rattle.pp_lexer.specs.Seen.{Token}
use Rattle.pp_tree.specs.declared.expr.Expr.{Expr}
use Rattle.pp_tree.specs.declared.statement.Statement.{Statement}
use Rattle.pp_parser.specs.declared.inset.Inset.{Inset}
use Rattle.pp_parser.specs.declared.inset.Inset.TheVariants as goal
use Rattle.pp_parser.specs.declared.inset.InsetTree.{InsetTree}
use Rattle.pp_parser.specs.declared.inset.InsetTree.TheVariants as part
use Rattle.pp_grammar.proofs.Reader.Input.{Input}
use Rattle.pp_grammar.proofs.Reader.Inner.{Inner, opening, whole_in, operand_in, interpolated_in, param_in, statements_in, function_statements_in, case_option_in, query_in}
use Rattle.pp_grammar.specs.Keys.{doubled_key}
use Rattle.pp_grammar.specs.Places.{Within, Opens}
use Rattle.pp_grammar.specs.Expressions as phrase
use Rattle.pp_grammar.specs.Statements.{InnerQuery}
use Rattle.pp_grammar.proofs.Complete.Steps.{opening_gives}
use Rattle.pp_grammar.proofs.Complete.Lists.{Falls, Given}

-- the fewest tokens that a goal's part takes: a block may have no statement
abbrev pub least : Inset → ℕ
least goal.Statements = 0
least goal.FunctionStatements = 0
least _ = 1

pub record IsFalling (N : Within) : Type 0 where
  pub falls : (g : Inset) (i j : Input) (p : InsetTree) → N.reads g i p j → least g + length j.left ≤ length i.left

-- what stands there by the relation, the function reads
pub record IsComplete (inner : Inner) (N : Within) : Type 0 where
  pub deepest : inner.is_deepest ≡ N.is_deepest
  pub keys : inner.doubled_key ≡ doubled_key
  pub reads : (g : Inset) (i j : Input) (p : InsetTree) → N.reads g i p j → inner.read g i ≡ Ok (p, j)
  pub falling : IsFalling N

module _ (N : Within) (w : IsFalling N) where
  pub inner_falls : (bars : Bool) → Falls (phrase.Inner N bars)
  inner_falls bars i j x d = omega (arith, w.falls (goal.Whole bars) i j (part.Expr x) d)

  pub inner_param_falls : (bars : Bool) → Falls (phrase.InnerParam N bars)
  inner_param_falls bars i j x d = omega (arith, w.falls (goal.Param bars) i j (part.Param x) d)

  pub inner_option_falls : Falls (phrase.InnerOption N)
  inner_option_falls i j x d = omega (arith, w.falls goal.CaseOption i j (part.CaseOption x) d)

  pub inner_query_falls : Falls (InnerQuery N)
  inner_query_falls i j x d = omega (arith, w.falls goal.Query i j (part.Query x) d)

module _ (inner : Inner) (N : Within) (c : IsComplete inner N) where
  pub open_gives : (word : Kind) {i j : Input} {t : Token} → Opens N word i t j → opening inner word i ≡ Ok (t, j)
  open_gives word o = opening_gives inner word c.deepest o

  pub whole_in_gives : (bars : Bool) → Given (whole_in inner bars) (phrase.Inner N bars)
  unfolding whole_in
  whole_in_gives bars i j x d = rw (c.reads (goal.Whole bars) i j (part.Expr x) d) refl

  pub operand_in_gives : (bars : Bool) (i j : Input) (x : Expr) → N.reads (goal.Operand bars) i (part.Expr x) j → operand_in inner bars i ≡ Ok (x, j)
  unfolding operand_in
  operand_in_gives bars i j x d = rw (c.reads (goal.Operand bars) i j (part.Expr x) d) refl

  pub interpolated_in_gives : (i j : Input) (x : Expr) → N.reads goal.Interpolated i (part.Expr x) j → interpolated_in inner i ≡ Ok (x, j)
  unfolding interpolated_in
  interpolated_in_gives i j x d = rw (c.reads goal.Interpolated i j (part.Expr x) d) refl

  pub param_in_gives : (bars : Bool) → Given (param_in inner bars) (phrase.InnerParam N bars)
  unfolding param_in
  param_in_gives bars i j x d = rw (c.reads (goal.Param bars) i j (part.Param x) d) refl

  pub statements_in_gives : (i j : Input) (ss : List Statement) → N.reads goal.Statements i (part.Block ss) j → statements_in inner i ≡ Ok (ss, j)
  unfolding statements_in
  statements_in_gives i j ss d = rw (c.reads goal.Statements i j (part.Block ss) d) refl

  pub function_statements_in_gives : (i j : Input) (ss : List Statement) → N.reads goal.FunctionStatements i (part.Block ss) j → function_statements_in inner i ≡ Ok (ss, j)
  unfolding function_statements_in
  function_statements_in_gives i j ss d = rw (c.reads goal.FunctionStatements i j (part.Block ss) d) refl

  pub case_option_in_gives : Given (case_option_in inner) (phrase.InnerOption N)
  unfolding case_option_in
  case_option_in_gives i j x d = rw (c.reads goal.CaseOption i j (part.CaseOption x) d) refl

  pub query_in_gives : Given (query_in inner) (InnerQuery N)
  unfolding query_in
  query_in_gives i j x d = rw (c.reads goal.Query i j (part.Query x) d) refl
