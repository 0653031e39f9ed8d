-- What is asked of the readers one level further in.
use Rattle.std.proofs.Common.{◌≡◌, Bool, Ok, ap}
use Rattle.pp_lexer.specs.declared.kind.Kind.{Kind}
use Rattle.pp_parser.specs.declared.inset.Inset.{Inset}
use Rattle.pp_parser.specs.declared.inset.Inset.TheVariants as goal
use Rattle.pp_parser.specs.declared.inset.InsetTree.{InsetTree}
use Rattle.pp_parser.specs.declared.inset.InsetTree.TheVariants as part
use Rattle.pp_grammar.proofs.Reader.Input.{Input}
use Rattle.pp_grammar.proofs.Reader.Inner.{Inner, opening, expr_of, param_of, block_of, case_option_of, query_of, whole_in, operand_in, interpolated_in, param_in, statements_in, function_statements_in, case_option_in, query_in}
use Rattle.pp_grammar.specs.Keys.{doubled_key}
use Rattle.pp_grammar.specs.Places.{Within, Opens}
use Rattle.pp_grammar.proofs.Sound.Steps.{Meets, Sound, met, bind, done, refused, open_sound}

-- what the readers one level further in read, stands there
pub record IsSound (inner : Inner) (N : Within) : Type 0 where
  pub deepest : inner.is_deepest ≡ N.is_deepest
  pub keys : inner.doubled_key ≡ doubled_key
  pub reads : (g : Inset) (i j : Input) (p : InsetTree) → inner.read g i ≡ Ok (p, j) → N.reads g i p j

module _ (inner : Inner) (N : Within) (s : IsSound inner N) where
  pub opening_sound : (x : Kind) → Sound (opening inner x) (λ i t j. Opens N x i t j)
  opening_sound x i = open_sound N x i (inner.is_deepest i) (ap (λ (d : Input → Bool). d i) s.deepest)

  part_sound : (g : Inset) (i : Input) → Meets (inner.read g i) (N.reads g i)
  part_sound g i = met (λ p j e. s.reads g i j p e)

  expr_sound : (g : Inset) (i : Input) (p : InsetTree) (j : Input) → N.reads g i p j → Meets (expr_of p j) (λ x l. N.reads g i (part.Expr x) l)
  expr_sound g i (part.Expr x) j h = done h
  expr_sound g i _ j h = refused

  pub whole_in_sound : (bars : Bool) → Sound (whole_in inner bars) (λ i x j. N.reads (goal.Whole bars) i (part.Expr x) j)
  unfolding whole_in
  whole_in_sound bars i = bind (part_sound (goal.Whole bars) i) (expr_sound (goal.Whole bars) i)

  pub operand_in_sound : (bars : Bool) → Sound (operand_in inner bars) (λ i x j. N.reads (goal.Operand bars) i (part.Expr x) j)
  unfolding operand_in
  operand_in_sound bars i = bind (part_sound (goal.Operand bars) i) (expr_sound (goal.Operand bars) i)

  pub interpolated_in_sound : Sound (interpolated_in inner) (λ i x j. N.reads goal.Interpolated i (part.Expr x) j)
  unfolding interpolated_in
  interpolated_in_sound i = bind (part_sound goal.Interpolated i) (expr_sound goal.Interpolated i)

  pub param_in_sound : (bars : Bool) → Sound (param_in inner bars) (λ i p j. N.reads (goal.Param bars) i (part.Param p) j)
  unfolding param_in
  param_in_sound bars i = bind (part_sound (goal.Param bars) i) go
    where
      go : (p : InsetTree) (j : Input) → N.reads (goal.Param bars) i p j → Meets (param_of p j) (λ x l. N.reads (goal.Param bars) i (part.Param x) l)
      go (part.Param x) j h = done h
      go _ j h = refused

  pub statements_in_sound : Sound (statements_in inner) (λ i ss j. N.reads goal.Statements i (part.Block ss) j)
  unfolding statements_in
  statements_in_sound i = bind (part_sound goal.Statements i) go
    where
      go : (p : InsetTree) (j : Input) → N.reads goal.Statements i p j → Meets (block_of p j) (λ ss l. N.reads goal.Statements i (part.Block ss) l)
      go (part.Block ss) j h = done h
      go _ j h = refused

  pub function_statements_in_sound : Sound (function_statements_in inner) (λ i ss j. N.reads goal.FunctionStatements i (part.Block ss) j)
  unfolding function_statements_in
  function_statements_in_sound i = bind (part_sound goal.FunctionStatements i) go
    where
      go : (p : InsetTree) (j : Input) → N.reads goal.FunctionStatements i p j → Meets (block_of p j) (λ ss l. N.reads goal.FunctionStatements i (part.Block ss) l)
      go (part.Block ss) j h = done h
      go _ j h = refused

  pub case_option_in_sound : Sound (case_option_in inner) (λ i o j. N.reads goal.CaseOption i (part.CaseOption o) j)
  unfolding case_option_in
  case_option_in_sound i = bind (part_sound goal.CaseOption i) go
    where
      go : (p : InsetTree) (j : Input) → N.reads goal.CaseOption i p j → Meets (case_option_of p j) (λ o l. N.reads goal.CaseOption i (part.CaseOption o) l)
      go (part.CaseOption o) j h = done h
      go _ j h = refused

  pub query_in_sound : Sound (query_in inner) (λ i q j. N.reads goal.Query i (part.Query q) j)
  unfolding query_in
  query_in_sound i = bind (part_sound goal.Query i) go
    where
      go : (p : InsetTree) (j : Input) → N.reads goal.Query i p j → Meets (query_of p j) (λ q l. N.reads goal.Query i (part.Query q) l)
      go (part.Query q) j h = done h
      go _ j h = refused
