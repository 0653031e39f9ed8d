-- Each phrase of the grammar of expressions takes a token, where it may not be left out.
use Rattle.std.proofs.Common.{◌≡◌, ℕ, suc, ◌<◌, ◌≤◌, Bool, true, false, not, List, length, Option, refl, arith}
use Rattle.pp_lexer.specs.declared.kind.Kind.{Kind}
use Rattle.pp_lexer.specs.declared.kind.Kind.TheVariants as k
use Rattle.pp_tree.specs.declared.expr.Expr.{Expr}
use Rattle.pp_tree.specs.declared.expr.Form.{Form}
use Rattle.pp_tree.specs.declared.expr.Piece.{Piece}
use Rattle.pp_tree.specs.declared.expr.Pair.{Pair}
use Rattle.pp_tree.specs.declared.expr.Operation.{Operation}
use Rattle.pp_tree.specs.declared.expr.Postfix.{Postfix}
use Rattle.pp_tree.specs.declared.expr.Lambda.{Lambda}
use Rattle.pp_tree.specs.declared.param.Param.{Param}
use Rattle.pp_tree.specs.declared.statement.Statement.{Statement}
use Rattle.pp_tree.specs.declared.conditions.CaseOption.{CaseOption}
use Rattle.pp_tree.specs.declared.conditions.Elsif.{Elsif}
use Rattle.pp_parser.specs.declared.inset.Inset.TheVariants as goal
use Rattle.pp_parser.specs.declared.inset.InsetTree.TheVariants as part
use Rattle.pp_grammar.proofs.Reader.Input.{Input}
use Rattle.pp_grammar.specs.Kinds.{is_kind, is_bar}
use Rattle.pp_grammar.specs.Places.{Within, Separated, SeparatedSome, Maybe}
use Rattle.pp_grammar.specs.Expressions.{begins_lambda, begins_piece, begins_postfix, Inner, InnerParam, InnerOption, IsBlock, AreArguments, OptionalArguments, IsLambda, IsCallOrName, IsPiece, IsFirstRun, IsQuoted, IsCondition, IsElsif, IsElse, IsPair, IsPrimary, IsPostfix, IsValue, IsOperand, IsBinary, AreOperations, IsWhole, IsNameThere, IsValueThere, IsBinaryThere, IsInterpolated, IsDefault, IsParam, IsCaseOption}
use Rattle.pp_grammar.proofs.Complete.Steps.{stands_falls}
use Rattle.pp_grammar.proofs.Complete.Lists.{many_falls, separated_falls, some_falls, maybe_falls}
use Rattle.pp_grammar.proofs.Complete.Within.{IsFalling, inner_falls, inner_param_falls, inner_option_falls}

module _ (N : Within) (w : IsFalling N) where
  wholes_fall : (closer : Kind) {i j : Input} {xs : List Expr} → Separated (is_kind closer) k.Comma (Inner N false) i xs j → length j.left ≤ length i.left
  wholes_fall closer d = separated_falls (Inner N false) (inner_falls N w false) (is_kind closer) k.Comma d

  some_wholes_fall : (closer : Kind) {i j : Input} {xs : List Expr} → SeparatedSome (is_kind closer) k.Comma (Inner N false) i xs j → length j.left < length i.left
  some_wholes_fall closer d = some_falls (Inner N false) (inner_falls N w false) (is_kind closer) k.Comma d

  pub block_falls : {i j : Input} {ss : List Statement} → IsBlock N i ss j → length j.left < length i.left
  block_falls (IsBlock.block i j l m opener closer ss o r s) = omega (arith, stands_falls o.token, w.falls goal.Statements j l (part.Block ss) r, stands_falls s)

  pub arguments_fall : {i j : Input} {xs : List Expr} → AreArguments N i xs j → length j.left < length i.left
  arguments_fall (AreArguments.arguments i j l m opener closer xs o ds s) = omega (arith, stands_falls o.token, wholes_fall k.CloseParen ds, stands_falls s)

  pub optional_arguments_fall : {i j : Input} {xs : List Expr} → OptionalArguments N i xs j → length j.left ≤ length i.left
  optional_arguments_fall (OptionalArguments.left_out i e) = omega arith
  optional_arguments_fall (OptionalArguments.given i j xs d) = omega (arith, arguments_fall d)

  pub lambda_falls : (i j : Input) (x : Lambda) → IsLambda N i x j → length j.left < length i.left
  lambda_falls _ _ _ (IsLambda.lambda i j l m n bar opener closer ps ss e o ds s d) =
      omega (arith, stands_falls o.token, separated_falls (InnerParam N true) (inner_param_falls N w true) is_bar k.Comma ds, stands_falls s, block_falls d)

  optional_lambda_falls : (bars : Bool) {i j : Input} {x : Option Lambda} → Maybe (IsLambda N) (begins_lambda bars) i x j → length j.left ≤ length i.left
  optional_lambda_falls bars d = maybe_falls (IsLambda N) lambda_falls (begins_lambda bars) d

  pub call_falls : {bars : Bool} {name : List ℕ} {i j : Input} {f : Form} → IsCallOrName N bars name i f j → length j.left ≤ length i.left
  call_falls {bars = bars} (IsCallOrName.call i j l xs last d lambda) = omega (arith, arguments_fall d, optional_lambda_falls bars lambda)
  call_falls (IsCallOrName.name i e) = omega arith

  pub piece_falls : (i j : Input) (x : Piece Expr) → IsPiece N i x j → length j.left < length i.left
  piece_falls _ _ _ (IsPiece.run i j t s) = omega (arith, stands_falls s)
  piece_falls _ _ _ (IsPiece.variable i j t s) = omega (arith, stands_falls s)
  piece_falls _ _ _ (IsPiece.interpolation i j l m opener closer x o r s) = omega (arith, stands_falls o.token, w.falls goal.Interpolated j l (part.Expr x) r, stands_falls s)

  first_run_falls : {i j : Input} {said : List ℕ} → IsFirstRun N i said j → length j.left ≤ length i.left
  first_run_falls (IsFirstRun.none i e) = omega arith
  first_run_falls (IsFirstRun.run i j t s) = omega (arith, stands_falls s)

  quoted_falls : {i j : Input} {f : Form} → IsQuoted N i f j → length j.left < length i.left
  quoted_falls (IsQuoted.plain i j l m opener closer said s r e) = omega (arith, stands_falls s, first_run_falls r, stands_falls e)
  quoted_falls (IsQuoted.interpolated i j l m n opener closer said pieces s r go ds e) =
      omega (arith, stands_falls s, first_run_falls r, many_falls (IsPiece N) piece_falls begins_piece ds, stands_falls e)

  condition_falls : {word : Kind} {i j : Input} {x : Expr} → IsCondition N word i x j → length j.left < length i.left
  condition_falls (IsCondition.condition i j l t x o d) = omega (arith, stands_falls o.token, inner_falls N w false j l x d)

  pub elsif_falls : (i j : Input) (x : Elsif) → IsElsif N i x j → length j.left < length i.left
  elsif_falls _ _ _ (IsElsif.elsif i j l x ss d b) = omega (arith, condition_falls d, block_falls b)

  pub else_falls : (i j : Input) (ss : List Statement) → IsElse N i ss j → length j.left < length i.left
  else_falls _ _ _ (IsElse.otherwise i j l t ss s b) = omega (arith, stands_falls s, block_falls b)

  optional_else_falls : {i j : Input} {ss : Option (List Statement)} → Maybe (IsElse N) (is_kind k.Else) i ss j → length j.left ≤ length i.left
  optional_else_falls d = maybe_falls (IsElse N) else_falls (is_kind k.Else) d

  pub pair_falls : (i j : Input) (p : Pair Expr) → IsPair N i p j → length j.left < length i.left
  pair_falls _ _ _ (IsPair.pair i j l m arrow x y d s e) = omega (arith, inner_falls N w false i j x d, stands_falls s, inner_falls N w false l m y e)

  pub primary_falls : {bars : Bool} {i j : Input} {f : Form} → IsPrimary N bars i f j → length j.left < length i.left
  primary_falls (IsPrimary.named i j l t f s d) = omega (arith, stands_falls s, call_falls d)
  primary_falls (IsPrimary.type i j t s) = omega (arith, stands_falls s)
  primary_falls (IsPrimary.variable i j t s) = omega (arith, stands_falls s)
  primary_falls (IsPrimary.number i j t s) = omega (arith, stands_falls s)
  primary_falls (IsPrimary.text i j t s) = omega (arith, stands_falls s)
  primary_falls (IsPrimary.quoted i j f d) = quoted_falls d
  primary_falls (IsPrimary.true_word i j t s) = omega (arith, stands_falls s)
  primary_falls (IsPrimary.false_word i j t s) = omega (arith, stands_falls s)
  primary_falls (IsPrimary.undef i j t s) = omega (arith, stands_falls s)
  primary_falls (IsPrimary.default i j t s) = omega (arith, stands_falls s)
  primary_falls (IsPrimary.list i j l m bracket opener closer xs e o ds s) = omega (arith, stands_falls o.token, wholes_fall k.CloseBracket ds, stands_falls s)
  primary_falls (IsPrimary.hash i j l m opener closer ps o ds s) =
      omega (arith, stands_falls o.token, separated_falls (IsPair N) pair_falls (is_kind k.CloseBrace) k.Comma ds, stands_falls s)
  primary_falls (IsPrimary.parentheses i j l m opener closer x o d s) = omega (arith, stands_falls o.token, inner_falls N w false j l x d, stands_falls s)
  primary_falls (IsPrimary.if_word i j l m n x ss es last d b ds e) =
      omega (arith, condition_falls d, block_falls b, many_falls (IsElsif N) elsif_falls (is_kind k.Elsif) ds, optional_else_falls e)
  primary_falls (IsPrimary.unless_word i j l m x ss last d b e) = omega (arith, condition_falls d, block_falls b, optional_else_falls e)
  primary_falls (IsPrimary.case_word i j l m n opener closer x os d o ds s) =
      omega (arith, condition_falls d, stands_falls o.token, many_falls (InnerOption N) (inner_option_falls N w) (λ next. not (is_kind k.CloseBrace next)) ds, stands_falls s)

  pub postfix_falls : (bars : Bool) (i j : Input) (p : Postfix) → IsPostfix N bars i p j → length j.left < length i.left
  postfix_falls bars _ _ _ (IsPostfix.access i j l m opener closer xs o ds s) = omega (arith, stands_falls o.token, some_wholes_fall k.CloseBracket ds, stands_falls s)
  postfix_falls bars _ _ _ (IsPostfix.method i j l m n dot name xs last s e ds lambda) =
      omega (arith, stands_falls s, stands_falls e, optional_arguments_fall ds, optional_lambda_falls bars lambda)
  postfix_falls bars _ _ _ (IsPostfix.selector i j l m n mark opener closer ps s o ds e) =
      omega (arith, stands_falls s, stands_falls o.token, some_falls (IsPair N) pair_falls (is_kind k.CloseBrace) k.Comma ds, stands_falls e)

  pub value_falls : {bars : Bool} {i j : Input} {x : Expr} → IsValue N bars i x j → length j.left < length i.left
  value_falls {bars = bars} (IsValue.value i j l f ps d ds) = omega (arith, primary_falls d, many_falls (IsPostfix N bars) (postfix_falls bars) begins_postfix ds)

  pub operand_falls : {bars : Bool} {i j : Input} {x : Expr} → IsOperand N bars i x j → length j.left < length i.left
  operand_falls {bars = bars} (IsOperand.prefixed i j l mark t o x e s d) = omega (arith, stands_falls s.token, w.falls (goal.Operand bars) j l (part.Expr x) d)
  operand_falls (IsOperand.value i j x d) = value_falls d

  mutual
    pub binary_falls : {bars : Bool} {n : ℕ} {i j : Input} {x : Expr} → IsBinary N bars n i x j → length j.left < length i.left
    binary_falls (IsBinary.operand i j x d) = operand_falls d
    binary_falls (IsBinary.chain tighter i j l x os d ds) = omega (arith, binary_falls d, operations_fall ds)

    pub operations_fall : {bars : Bool} {n : ℕ} {i j : Input} {os : List (Operation Expr)} → AreOperations N bars n i os j → length j.left ≤ length i.left
    operations_fall (AreOperations.none n i e) = omega arith
    operations_fall (AreOperations.more tighter i j l m t o x os is e d ds) =
        let taken : length i.left ≡ suc (length j.left) = rw is refl in
        omega (arith, taken, binary_falls d, operations_fall ds)

  pub whole_falls : {bars behind : Bool} {i j : Input} {x : Expr} → IsWhole N bars behind i x j → length j.left < length i.left
  whole_falls {behind = behind} (IsWhole.assigned i j l m t mark x s o d) = omega (arith, stands_falls s, stands_falls o.token, inner_falls N w behind l m x d)
  whole_falls (IsWhole.binary i j x e d) = binary_falls d

  name_there_falls : {i j : Input} {f : Form} → IsNameThere N i f j → length j.left < length i.left
  name_there_falls (IsNameThere.variable i j t s e) = omega (arith, stands_falls s)
  name_there_falls (IsNameThere.other i j l t f s e d) = omega (arith, stands_falls s, call_falls d)

  value_there_falls : {i j : Input} {x : Expr} → IsValueThere N i x j → length j.left < length i.left
  value_there_falls (IsValueThere.value i j l f ps d ds) = omega (arith, name_there_falls d, many_falls (IsPostfix N false) (postfix_falls false) begins_postfix ds)

  binary_there_falls : {n : ℕ} {i j : Input} {x : Expr} → IsBinaryThere N n i x j → length j.left < length i.left
  binary_there_falls (IsBinaryThere.value i j x d) = value_there_falls d
  binary_there_falls (IsBinaryThere.chain tighter i j l x os d ds) = omega (arith, binary_there_falls d, operations_fall ds)

  pub interpolated_falls : {i j : Input} {x : Expr} → IsInterpolated N i x j → length j.left < length i.left
  interpolated_falls (IsInterpolated.by_name i j x e d) = binary_there_falls d
  interpolated_falls (IsInterpolated.other i j x e d) = whole_falls d

  default_falls : (bars : Bool) (i j : Input) (x : Expr) → IsDefault N bars i x j → length j.left < length i.left
  default_falls bars _ _ _ (IsDefault.default i j l mark x o d) = omega (arith, stands_falls o.token, inner_falls N w bars j l x d)

  pub param_falls : {bars : Bool} {i j : Input} {p : Param Expr} → IsParam N bars i p j → length j.left < length i.left
  param_falls (IsParam.untyped i j x p d e as_param) = whole_falls d
  param_falls {bars = bars} (IsParam.typed i j l m type t last d s e) =
      omega (arith, whole_falls d, stands_falls s, maybe_falls (IsDefault N bars) (default_falls bars) (is_kind k.Assign) e)

  pub case_option_falls : {i j : Input} {o : CaseOption} → IsCaseOption N i o j → length j.left < length i.left
  case_option_falls (IsCaseOption.option i j l m colon xs ss ds s b) =
      omega (arith, some_falls (IsWhole N false false) (λ g h x d. whole_falls d) (is_kind k.Colon) k.Comma ds, stands_falls s, block_falls b)
