-- The parts of an expression: brackets, calls, texts and conditions. What stands there, the rule reads.
use Rattle.std.proofs.Common.{◌≡◌, ℕ, Bool, true, false, not, List, [], Option, Some, None, Ok, refl, ◌∙◌}
use Rattle.pp_lexer.specs.declared.kind.Kind.{Kind}
use Rattle.pp_lexer.specs.declared.kind.Kind.TheVariants as k
use Rattle.pp_lexer.specs.Seen.{Token}
use Rattle.pp_tree.specs.declared.expr.Expr.{Expr}
use Rattle.pp_tree.specs.declared.expr.Form.{Form}
use Rattle.pp_tree.specs.declared.expr.Form.TheVariants as form
use Rattle.pp_tree.specs.declared.expr.Piece.{Piece}
use Rattle.pp_tree.specs.declared.expr.Lambda.{Lambda}
use Rattle.pp_tree.specs.declared.param.Param.{Param}
use Rattle.pp_tree.specs.declared.statement.Statement.{Statement}
use Rattle.pp_tree.specs.Building.{lambda as lambda_of}
use Rattle.pp_grammar.proofs.Reader.Input.{Input, ◌>>=◌, ◌>>◌, ◌<$>◌, pure, kind, expect, repeat, separated, separated_some}
use Rattle.pp_grammar.proofs.Reader.Inner.{Inner, whole_in, param_in, case_option_in}
use Rattle.pp_grammar.specs.Kinds.{is_kind, same_kind, is_bar}
use Rattle.pp_grammar.proofs.Reader.Expressions.{pieces, block, arguments, arguments_by, optional_arguments, pair_rule, lambda_from, lambda_by, optional_lambda, call_or_name_by, call_or_name, interpolation, piece_by, piece_rule, text_by, text_after, quoted_by, quoted, otherwise_by, otherwise, condition, elsif_by, elsif_rule, case_options_by, case_options}
use Rattle.pp_grammar.specs.Places.{Within, Stands, Opens, Many, Separated, SeparatedSome, Maybe}
use Rattle.pp_grammar.specs.Expressions.{begins_lambda, begins_piece, Inner as InnerExpr, InnerParam, InnerOption, IsBlock, AreArguments, OptionalArguments, IsLambda, IsCallOrName, IsPiece, IsFirstRun, IsQuoted, IsCondition, IsElsif, IsElse, IsPair}
use Rattle.pp_grammar.proofs.Complete.Steps.{word_there, take_gives, expect_gives, expect_any_gives}
use Rattle.pp_grammar.proofs.Complete.Lists.{Given, GivenSome, Stops, repeat_gives, separated_gives, some_gives, maybe_gives}
use Rattle.pp_grammar.proofs.Complete.Within.{IsComplete, inner_falls, inner_param_falls, open_gives, whole_in_gives, interpolated_in_gives, param_in_gives, statements_in_gives, case_option_in_gives}
use Rattle.pp_grammar.proofs.Complete.ExpressionFalls.{piece_falls}

module _ (inner : Inner) (N : Within) (c : IsComplete inner N) where
  pub wholes_complete : (closer : Kind) {i j : Input} {xs : List Expr} → Separated (is_kind closer) k.Comma (InnerExpr N false) i xs j
      → separated (is_kind closer) k.Comma (whole_in inner false) i ≡ Ok (xs, j)
  wholes_complete closer ds = separated_gives (InnerExpr N false) (inner_falls N c.falling false) (is_kind closer) k.Comma (whole_in inner false) (whole_in_gives inner N c false) ds

  pub some_wholes_complete : (closer : Kind) {i j : Input} {xs : List Expr} → SeparatedSome (is_kind closer) k.Comma (InnerExpr N false) i xs j
      → separated_some (is_kind closer) k.Comma (whole_in inner false) i ≡ Ok (xs, j)
  some_wholes_complete closer ds = some_gives (InnerExpr N false) (inner_falls N c.falling false) (is_kind closer) k.Comma (whole_in inner false) (whole_in_gives inner N c false) ds

  -- ---- brackets

  pub block_complete : {i j : Input} {ss : List Statement} → IsBlock N i ss j → block inner i ≡ Ok (ss, j)
  unfolding block
  block_complete (IsBlock.block i j l m opener closer ss o r s) = rw (open_gives inner N c k.OpenBrace o, statements_in_gives inner N c j l ss r, expect_gives k.CloseBrace s) refl

  pub arguments_complete : {i j : Input} {xs : List Expr} → AreArguments N i xs j → arguments inner i ≡ Ok (xs, j)
  unfolding arguments
  arguments_complete (AreArguments.arguments i j l m opener closer xs o ds s) = rw (open_gives inner N c k.OpenParen o, wholes_complete k.CloseParen ds, expect_gives k.CloseParen s) refl

  pub arguments_begin : {i j : Input} {xs : List Expr} → AreArguments N i xs j → kind i ≡ Some k.OpenParen
  arguments_begin (AreArguments.arguments i j l m opener closer xs o ds s) = word_there o.token

  no_arguments : (next : Option Kind) (i : Input) → is_kind k.OpenParen next ≡ false → arguments_by inner next i ≡ Ok ([], i)
  unfolding is_kind same_kind
  no_arguments (Some k.OpenParen) i e = cc
  no_arguments _ i e = refl

  pub optional_arguments_complete : {i j : Input} {xs : List Expr} → OptionalArguments N i xs j → optional_arguments inner i ≡ Ok (xs, j)
  unfolding optional_arguments
  optional_arguments_complete (OptionalArguments.left_out i e) = no_arguments (kind i) i e
  optional_arguments_complete (OptionalArguments.given i j xs d) = rw (arguments_begin d) (arguments_complete d)

  pub pair_complete : Given (pair_rule inner) (IsPair N)
  unfolding pair_rule
  pair_complete _ _ _ (IsPair.pair i j l m arrow x y d s e) = rw (whole_in_gives inner N c false i j x d, expect_gives k.Arrow s, whole_in_gives inner N c false l m y e) refl

  -- ---- lambdas

  lambda_complete : (bar : Kind) {i j l m n : Input} {opener closer : Token} {ps : List (Param Expr)} {ss : List Statement} → Opens N bar i opener j → Separated is_bar k.Comma (InnerParam N true) j ps l → Stands is_bar l closer m → IsBlock N m ss n
      → lambda_from inner bar i ≡ Ok (lambda_of ps ss, n)
  unfolding lambda_from
  lambda_complete bar o ds s d =
      rw (open_gives inner N c bar o, separated_gives (InnerParam N true) (inner_param_falls N c.falling true) is_bar k.Comma (param_in inner true) (param_in_gives inner N c true) ds, expect_any_gives s, block_complete d) refl

  a_lambda : (bars : Bool) (bar : Kind) (i : Input) → begins_lambda bars (Some bar) ≡ true → lambda_by inner bars (Some bar) i ≡ (Some <$> lambda_from inner bar) i
  a_lambda bars k.Bar i e = refl
  a_lambda false k.LastBar i e = refl
  a_lambda _ _ i e = cc

  no_lambda : (bars : Bool) (next : Option Kind) (i : Input) → begins_lambda bars next ≡ false → lambda_by inner bars next i ≡ Ok (None, i)
  no_lambda bars (Some k.Bar) i e = cc
  no_lambda true (Some k.LastBar) i e = refl
  no_lambda false (Some k.LastBar) i e = cc
  no_lambda _ _ i e = refl

  lambda_given : (bars : Bool) → GivenSome (optional_lambda inner bars) (begins_lambda bars) (IsLambda N)
  unfolding optional_lambda
  lambda_given bars _ _ _ begun (IsLambda.lambda i j l m n bar opener closer ps ss e o ds s d) =
      let begun' : begins_lambda bars (Some bar) ≡ true = rw (word_there o.token) at begun in
      rw (word_there o.token, a_lambda bars bar i begun', lambda_complete bar o ds s d) refl

  lambda_left_out : (bars : Bool) → Stops (optional_lambda inner bars) (begins_lambda bars)
  unfolding optional_lambda
  lambda_left_out bars i e = no_lambda bars (kind i) i e

  pub optional_lambda_complete : (bars : Bool) {i j : Input} {x : Option Lambda} → Maybe (IsLambda N) (begins_lambda bars) i x j → optional_lambda inner bars i ≡ Ok (x, j)
  optional_lambda_complete bars d = maybe_gives (IsLambda N) (begins_lambda bars) (optional_lambda inner bars) (lambda_left_out bars) (lambda_given bars) d

  -- ---- names and calls

  no_call : (bars : Bool) (name : List ℕ) (next : Option Kind) (i : Input) → is_kind k.OpenParen next ≡ false → call_or_name_by inner bars name next i ≡ Ok (form.Name name, i)
  unfolding is_kind same_kind
  no_call bars name (Some k.OpenParen) i e = cc
  no_call bars name _ i e = refl

  pub call_or_name_complete : {bars : Bool} {name : List ℕ} {i j : Input} {f : Form} → IsCallOrName N bars name i f j → call_or_name inner bars name i ≡ Ok (f, j)
  unfolding call_or_name
  call_or_name_complete {bars = bars} (IsCallOrName.call i j l xs last d lambda) = rw (arguments_begin d, arguments_complete d, optional_lambda_complete bars lambda) refl
  call_or_name_complete {bars = bars} {name = name} (IsCallOrName.name i e) = no_call bars name (kind i) i e

  -- ---- texts

  no_piece : (next : Option Kind) (i : Input) → begins_piece next ≡ false → piece_by inner next i ≡ Ok (None, i)
  no_piece (Some k.Piece) i e = cc
  no_piece (Some k.VariableInText) i e = cc
  no_piece (Some k.InterpolationBegin) i e = cc
  no_piece _ i e = refl

  piece_stops : Stops (piece_rule inner) begins_piece
  unfolding piece_rule
  piece_stops i e = no_piece (kind i) i e

  piece_given : GivenSome (piece_rule inner) begins_piece (IsPiece N)
  unfolding piece_rule interpolation
  piece_given _ _ _ begun (IsPiece.run i j t s) = rw (word_there s, take_gives s) refl
  piece_given _ _ _ begun (IsPiece.variable i j t s) = rw (word_there s, take_gives s) refl
  piece_given _ _ _ begun (IsPiece.interpolation i j l m opener closer x o r s) =
      rw (word_there o.token, open_gives inner N c k.InterpolationBegin o, interpolated_in_gives inner N c j l x r, expect_gives k.InterpolationEnd s) refl

  no_run : (next : Option Kind) (i : Input) → is_kind k.Piece next ≡ false → quoted_by inner next i ≡ text_after inner [] i
  unfolding is_kind same_kind
  no_run (Some k.Piece) i e = cc
  no_run _ i e = refl

  first_run : {i j : Input} {said : List ℕ} → IsFirstRun N i said j → quoted_by inner (kind i) i ≡ text_after inner said j
  first_run (IsFirstRun.none i e) = no_run (kind i) i e
  first_run (IsFirstRun.run i j t s) = rw (word_there s, take_gives s) refl

  goes_on : (said : List ℕ) (next : Option Kind) (i : Input) → is_kind k.TextEnd next ≡ false
      → text_by inner said next i ≡ (repeat (piece_rule inner) >>= (λ more. expect k.TextEnd >> pure (form.Interpolated (pieces said more)))) i
  unfolding is_kind same_kind
  goes_on said (Some k.TextEnd) i e = cc
  goes_on said _ i e = refl

  plain_text : (said : List ℕ) {i j : Input} {t : Token} → Stands (is_kind k.TextEnd) i t j → text_after inner said i ≡ Ok (form.Text said, j)
  unfolding text_after
  plain_text said s = rw (word_there s, take_gives s) refl

  more_text : (said : List ℕ) {i j l : Input} {t : Token} {more : List (Piece Expr)} → is_kind k.TextEnd (kind i) ≡ false → Many (IsPiece N) begins_piece i more j → Stands (is_kind k.TextEnd) j t l
      → text_after inner said i ≡ Ok (form.Interpolated (pieces said more), l)
  unfolding text_after
  more_text said {i = i} e ds s =
      rw (goes_on said (kind i) i e, repeat_gives (IsPiece N) (piece_falls N c.falling) begins_piece (piece_rule inner) piece_stops piece_given ds, expect_gives k.TextEnd s) refl

  pub quoted_complete : {i j : Input} {f : Form} → IsQuoted N i f j → quoted inner i ≡ Ok (f, j)
  unfolding quoted
  quoted_complete (IsQuoted.plain i j l m opener closer said s r e) = rw (expect_gives k.TextBegin s) (first_run r ∙ plain_text said e)
  quoted_complete (IsQuoted.interpolated i j l m n opener closer said more s r go ds e) = rw (expect_gives k.TextBegin s) (first_run r ∙ more_text said go ds e)

  -- ---- conditions

  pub condition_complete : (word : Kind) {i j : Input} {x : Expr} → IsCondition N word i x j → condition inner word i ≡ Ok (x, j)
  unfolding condition
  condition_complete word (IsCondition.condition i j l t x o d) = rw (open_gives inner N c word o) (whole_in_gives inner N c false j l x d)

  no_else : (next : Option Kind) (i : Input) → is_kind k.Else next ≡ false → otherwise_by inner next i ≡ Ok (None, i)
  unfolding is_kind same_kind
  no_else (Some k.Else) i e = cc
  no_else _ i e = refl

  else_stops : Stops (otherwise inner) (is_kind k.Else)
  unfolding otherwise
  else_stops i e = no_else (kind i) i e

  else_given : GivenSome (otherwise inner) (is_kind k.Else) (IsElse N)
  unfolding otherwise
  else_given _ _ _ begun (IsElse.otherwise i j l t ss s b) = rw (word_there s, take_gives s, block_complete b) refl

  pub otherwise_complete : {i j : Input} {ss : Option (List Statement)} → Maybe (IsElse N) (is_kind k.Else) i ss j → otherwise inner i ≡ Ok (ss, j)
  otherwise_complete d = maybe_gives (IsElse N) (is_kind k.Else) (otherwise inner) else_stops else_given d

  no_elsif : (next : Option Kind) (i : Input) → is_kind k.Elsif next ≡ false → elsif_by inner next i ≡ Ok (None, i)
  unfolding is_kind same_kind
  no_elsif (Some k.Elsif) i e = cc
  no_elsif _ i e = refl

  pub elsif_stops : Stops (elsif_rule inner) (is_kind k.Elsif)
  unfolding elsif_rule
  elsif_stops i e = no_elsif (kind i) i e

  condition_begins : {word : Kind} {i j : Input} {x : Expr} → IsCondition N word i x j → kind i ≡ Some word
  condition_begins (IsCondition.condition i j l t x o d) = word_there o.token

  pub elsif_given : GivenSome (elsif_rule inner) (is_kind k.Elsif) (IsElsif N)
  unfolding elsif_rule
  elsif_given _ _ _ begun (IsElsif.elsif i j l x ss d b) = rw (condition_begins d, condition_complete k.Elsif d, block_complete b) refl

  case_end : (next : Option Kind) (i : Input) → not (is_kind k.CloseBrace next) ≡ false → case_options_by inner next i ≡ Ok (None, i)
  unfolding is_kind same_kind
  case_end (Some k.CloseBrace) i e = refl
  case_end _ i e = cc

  case_more : (next : Option Kind) (i : Input) → not (is_kind k.CloseBrace next) ≡ true → case_options_by inner next i ≡ (Some <$> case_option_in inner) i
  unfolding is_kind same_kind
  case_more (Some k.CloseBrace) i e = cc
  case_more _ i e = refl

  pub options_stop : Stops (case_options inner) (λ next. not (is_kind k.CloseBrace next))
  unfolding case_options
  options_stop i e = case_end (kind i) i e

  pub options_given : GivenSome (case_options inner) (λ next. not (is_kind k.CloseBrace next)) (InnerOption N)
  unfolding case_options
  options_given i j o begun d = rw (case_more (kind i) i begun, case_option_in_gives inner N c i j o d) refl
