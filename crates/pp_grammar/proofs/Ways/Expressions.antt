-- Behind what was read of an expression there is a way.
use Rattle.std.proofs.Common.{◌≡◌, ℕ, zero, suc, Bool, true, false, if◌then◌else◌, List, [], Option, Some, None, refl, sym, ap, subst, arith}
use Rattle.pp_lexer.specs.declared.kind.Kind.{Kind}
use Rattle.pp_lexer.specs.declared.kind.Kind.TheVariants as k
use Rattle.pp_lexer.specs.Seen.{Token}
use Rattle.pp_grammar.proofs.Reader.Input.{Input, Parser, and_then, ◌>>=◌, pure, refuse, peek, take, kind}
use Rattle.pp_grammar.proofs.Reader.Inner.{Inner}
use Rattle.pp_grammar.specs.Kinds.{is_kind, same_kind, is_name, is_bar}
use Rattle.pp_grammar.proofs.Reader.Levels.{within}
use Rattle.pp_tree.specs.Layers.{FormLayer}
use Rattle.pp_grammar.proofs.Reader.Params.{param_by_form, param_from}
use Rattle.pp_grammar.specs.Keys.{doubled_key}
use Rattle.pp_grammar.specs.Names.{is_simple}
use Rattle.pp_parser.specs.declared.started.Started.{Started}
use Rattle.pp_tree.specs.declared.operators.BinaryOperator.{BinaryOperator}
use Rattle.pp_tree.specs.declared.operators.PrefixOperator.{PrefixOperator}
use Rattle.pp_tree.specs.declared.operators.PrefixOperator.TheVariants as prefix
use Rattle.pp_tree.specs.declared.collector.Test.TheOpen.{Form-F}
use Rattle.pp_tree.specs.declared.expr.Expr.{Expr}
use Rattle.pp_tree.specs.declared.expr.Form.{Form, out-Form}
use Rattle.pp_tree.specs.declared.expr.Form.TheVariants as form
use Rattle.pp_tree.specs.declared.expr.Lambda.{Lambda}
use Rattle.pp_tree.specs.declared.param.Param.{Param}
use Rattle.pp_tree.specs.declared.statement.Statement.{Statement}
use Rattle.pp_tree.specs.Building.{expr_at, form_of, case_option as option_of_case}
use Rattle.pp_grammar.proofs.Reader.Expressions.{block, arguments, arguments_by, optional_arguments, access, list, pair_rule, hash, parentheses, lambda_from, lambda_by, optional_lambda, call_or_name_by, call_or_name, named, interpolation, piece_by, piece_rule, text_by, text_after, quoted_by, quoted, otherwise_by, otherwise, condition, elsif_by, elsif_rule, if_rule, unless_rule, case_options_by, case_options, case_rule, primary_by, primary, method, selector, postfix_by, postfix_rule, postfixes, value, prefixed, operand_by, operand, operation_by, operation_rule, operator_at, binary_operator, chain, loosest, started, assigned_by, assigned, whole_by, whole, variable_or_call_by, variable_or_call, begun_by_name, interpolated, default_by, default_rule, typed_param, param_by, param_rule, case_option}
use Rattle.pp_grammar.proofs.Local.Steps.{loose_local}
use Rattle.pp_grammar.proofs.Local.Inner.{whole_in_local, param_in_local}
use Rattle.pp_grammar.proofs.Local.Expressions.{pair_rule_local, piece_rule_local, elsif_rule_local, case_options_local, postfix_rule_local, operation_rule_local, chain_local, whole_local}
use Rattle.pp_grammar.proofs.Ways.Steps.{Holds, Rule, Meets, everything, bind_holds, first, first_any, first_each, after, pure_goes, refuse_holds, take_goes}
use Rattle.pp_grammar.proofs.Ways.NextToken.{Branch, peek_some, peek_none, here_some, leaves, taking, test_holds, test_branch, same_rule, expect_goes, expect_any_goes, noting_goes, opening_goes}
use Rattle.pp_grammar.proofs.Ways.Lists.{always, repeat_goes, separated_some_goes, closed_goes, reassociated}
use Rattle.pp_grammar.proofs.Ways.Inner.{ends_expression, ends_param, closes_block, finish, InnerGoes, here_too, of_kind, until}

-- ---- what is left out before a token that ends an expression

no_arguments : (inner : Inner) (next : Option Kind) → ends_expression next ≡ true → arguments_by inner next ≡ pure []
no_arguments inner (Some k.OpenParen) e = absurd cc
no_arguments inner _ e = refl

no_lambda : (inner : Inner) (bars : Bool) (next : Option Kind) → ends_expression next ≡ true → lambda_by inner bars next ≡ pure None
no_lambda inner bars (Some k.Bar) e = absurd cc
no_lambda inner bars (Some k.LastBar) e = absurd cc
no_lambda inner bars _ e = refl

pub no_call : (inner : Inner) (bars : Bool) (name : List ℕ) (next : Option Kind) → ends_expression next ≡ true → call_or_name_by inner bars name next ≡ pure (form.Name name)
no_call inner bars name (Some k.OpenParen) e = absurd cc
no_call inner bars name _ e = refl

abbrev ends_text : Option Kind → Bool
ends_text (Some k.TextEnd) = true
ends_text _ = false

no_piece : (inner : Inner) (next : Option Kind) → ends_text next ≡ true → piece_by inner next ≡ pure None
no_piece inner (Some k.Piece) e = absurd cc
no_piece inner (Some k.VariableInText) e = absurd cc
no_piece inner (Some k.InterpolationBegin) e = absurd cc
no_piece inner _ e = refl

no_else : (inner : Inner) (next : Option Kind) → ends_expression next ≡ true → otherwise_by inner next ≡ pure None
no_else inner (Some k.Else) e = absurd cc
no_else inner _ e = refl

no_elsif : (inner : Inner) (next : Option Kind) → ends_expression next ≡ true → elsif_by inner next ≡ pure None
no_elsif inner (Some k.Elsif) e = absurd cc
no_elsif inner _ e = refl

no_option : (inner : Inner) (next : Option Kind) → closes_block next ≡ true → case_options_by inner next ≡ pure None
no_option inner (Some k.CloseBrace) e = refl
no_option inner _ e = absurd cc

pub no_postfix : (inner : Inner) (bars : Bool) (next : Option Kind) → ends_expression next ≡ true → postfix_by inner bars next ≡ pure None
no_postfix inner bars (Some k.TightBracket) e = absurd cc
no_postfix inner bars (Some k.Dot) e = absurd cc
no_postfix inner bars (Some k.Question) e = absurd cc
no_postfix inner bars _ e = refl

neither : {A : Type 0} (b : Bool) (x : Option A) → x ≡ None → (if b then x else None) ≡ None
neither true x e = e
neither false x e = refl

no_binary : (next : Option Kind) → ends_expression next ≡ true → binary_operator next ≡ None
no_binary (Some k.In) e = absurd cc
no_binary (Some k.Match) e = absurd cc
no_binary (Some k.NoMatch) e = absurd cc
no_binary (Some k.Star) e = absurd cc
no_binary (Some k.Slash) e = absurd cc
no_binary (Some k.Percent) e = absurd cc
no_binary (Some k.Plus) e = absurd cc
no_binary (Some k.Minus) e = absurd cc
no_binary (Some k.Append) e = absurd cc
no_binary (Some k.Equal) e = absurd cc
no_binary (Some k.NotEqual) e = absurd cc
no_binary (Some k.AtLeast) e = absurd cc
no_binary (Some k.AtMost) e = absurd cc
no_binary (Some k.Greater) e = absurd cc
no_binary (Some k.Less) e = absurd cc
no_binary (Some k.And) e = absurd cc
no_binary (Some k.Or) e = absurd cc
no_binary _ e = refl

pub no_operator : (strength : ℕ) (next : Option Kind) → ends_expression next ≡ true → operator_at strength next ≡ None
unfolding operator_at
no_operator strength next e = neither _ (binary_operator next) (no_binary next e)

pub no_assign : (inner : Inner) (bars behind : Bool) (at : ℕ) (name : List ℕ) (next : Option Kind) → ends_expression next ≡ true → assigned_by inner bars behind at name next ≡ chain inner bars loosest (Some (started (expr_at at (form.Variable name))))
no_assign inner bars behind at name (Some k.Assign) e = absurd cc
no_assign inner bars behind at name _ e = refl

pub no_default : (inner : Inner) (bars : Bool) (next : Option Kind) → ends_expression next ≡ true → default_by inner bars next ≡ pure None
no_default inner bars (Some k.Assign) e = absurd cc
no_default inner bars _ e = refl

param_ends : (next : Option Kind) → ends_param next ≡ true → ends_expression next ≡ true
param_ends (Some k.Comma) e = refl
param_ends (Some k.CloseParen) e = refl
param_ends (Some k.ParamsEnd) e = refl
param_ends _ e = absurd cc

-- what an expression answers where a parameter stands
pub data Answer (p : Parser (Param Expr)) : Type 0 where
  gives : (x : Param Expr) → p ≡ pure x → Answer p
  refuses : p ≡ refuse → Answer p

answer_if : (b : Bool) (x : Param Expr) → Answer (if b then pure x else refuse)
answer_if true x = gives x refl
answer_if false x = refuses refl

answer_by : (at : ℕ) (layer : FormLayer) → Answer (param_by_form at layer)
answer_by at (Form-F.Variable name) = answer_if (is_simple name) _
answer_by at (Form-F.Assign name default) = gives _ refl
answer_by at _ = refuses refl

pub answer : (at : ℕ) (x : Expr) → Answer (param_from at x)
unfolding param_from
answer at x = answer_by at (out-Form (form_of x))

-- where it answers none, a variable makes a parameter of it
abbrev pub asks : {p : Parser (Param Expr)} → Answer p → Option Kind
asks (gives x e) = None
asks (refuses e) = Some k.Variable

chosen : {A B : Type 0} (b : Bool) (p q : Parser A) (g : A → Parser B) (i : Input) → (if b then (p >>= g) else (q >>= g)) i ≡ and_then ((if b then p else q) i) g
chosen true p q g i = refl
chosen false p q g i = refl

chosen_as : {A B : Type 0} (b : Bool) (p p2 q : Parser A) (g : A → Parser B) (r : Parser B) (i : Input) → r i ≡ (p >>= g) i → (if b then r else (q >>= g)) i ≡ and_then ((if b then p else q) i) g
chosen_as true p p2 q g r i e = e
chosen_as false p p2 q g r i e = refl

abbrev pub begun_behind : Inner → Token → Form → Parser Expr
begun_behind inner t found = chain inner false loosest (Some (started (expr_at t.line found)))

abbrev pub finished : Inner → Option Kind → Parser Expr
finished inner next = if is_name next then (take >>= (λ t. peek >>= (λ next. (variable_or_call_by inner t.text next >>= begun_behind inner t) >>= finish))) else (whole inner false false >>= finish)

pub finished_is : (inner : Inner) (i : Input) → finished inner (kind i) i ≡ (interpolated inner >>= finish) i
unfolding interpolated begun_by_name variable_or_call
finished_is inner i = chosen_as (is_name (kind i)) (begun_by_name inner) (begun_by_name inner) (whole inner false false) finish _ i (sym (reassociated (take i) _ finish))

pub no_type : (bars : Bool) (at : ℕ) (x : Expr) (inner : Inner) (next : Option Kind) → ends_param next ≡ true → param_by inner bars at x next ≡ param_from at x
no_type bars at x inner (Some k.Variable) e = absurd cc
no_type bars at x inner _ e = refl

pub param_meets : {p : Parser (Param Expr)} (a : Answer p) (x : Expr) → Meets {B = Param Expr} (always ends_expression) (asks a) (always ends_param) x
param_meets (gives y e) x = λ _ next h. param_ends next h
param_meets (refuses e) x = refl

module _ {n : ℕ} (I : InnerGoes n) where
  pub block_goes : {E : List Statement → Option Kind → Bool} → Rule n (Some k.OpenBrace) E (block (within n)) (λ m. block (within m))
  unfolding block is_kind same_kind
  block_goes = first_any (opening_goes k.OpenBrace refl) (λ _. after I.statements (λ _. first_any (expect_goes k.CloseBrace refl) (λ _. pure_goes _)) (λ _. refl))

  pub arguments_goes : {E : List Expr → Option Kind → Bool} → Rule n (Some k.OpenParen) E (arguments (within n)) (λ m. arguments (within m))
  unfolding arguments is_kind same_kind
  arguments_goes = first_any (opening_goes k.OpenParen refl) (λ _. after (until k.CloseParen k.Comma _ (λ m. (whole_in_local (here_too m) false).falls) refl refl (I.whole false)) (λ _. first_any (expect_goes k.CloseParen refl) (λ _. pure_goes _)) (λ _. refl))

  arguments_by_goes : (next : Option Kind) → Branch n (always ends_expression) (pure []) (λ m. pure []) (arguments_by (within n) next) (λ m. arguments_by (within m) next)
  arguments_by_goes (Some k.OpenParen) = taking arguments_goes
  arguments_by_goes _ = leaves refl refl

  pub optional_arguments_goes : Rule n None (always ends_expression) (optional_arguments (within n)) (λ m. optional_arguments (within m))
  unfolding optional_arguments
  optional_arguments_goes = peek_none (pure_goes []) arguments_by_goes (λ _ next e m. no_arguments (within m) next e)

  pub access_goes : {E : List Expr → Option Kind → Bool} → Rule n (Some k.TightBracket) E (access (within n)) (λ m. access (within m))
  unfolding access is_kind same_kind
  access_goes = first_any (opening_goes k.TightBracket refl)
      (λ _. first (separated_some_goes (is_kind k.CloseBracket) k.Comma _ (λ m. (whole_in_local (here_too m) false).falls) (λ _ e. e) (of_kind k.CloseBracket ends_expression refl) (of_kind k.CloseBracket _ refl) (I.whole false)) (λ _. first_any (expect_goes k.CloseBracket refl) (λ _. pure_goes _)) (λ _. refl))

  list_goes : {E : Form → Option Kind → Bool} (bracket : Kind) → is_kind bracket (Some bracket) ≡ true → Rule n (Some bracket) E (list (within n) bracket) (λ m. list (within m) bracket)
  unfolding list is_kind same_kind
  list_goes bracket h = first_any (opening_goes bracket h) (λ _. after (until k.CloseBracket k.Comma _ (λ m. (whole_in_local (here_too m) false).falls) refl refl (I.whole false)) (λ _. first_any (expect_goes k.CloseBracket refl) (λ _. pure_goes _)) (λ _. refl))

  pair_rule_goes : Rule n (Some k.Name) (always ends_expression) (pair_rule (within n)) (λ m. pair_rule (within m))
  unfolding pair_rule is_kind same_kind
  pair_rule_goes = first (I.whole false) (λ _. first_any (expect_goes k.Arrow refl) (λ _. first (I.whole false) (λ _. pure_goes _) (λ _ _ _ e. e))) (λ _. refl)

  hash_goes : {E : Form → Option Kind → Bool} → Rule n (Some k.OpenBrace) E (hash (within n)) (λ m. hash (within m))
  unfolding hash is_kind same_kind
  hash_goes = first_any (opening_goes k.OpenBrace refl) (λ _. after (until k.CloseBrace k.Comma _ (λ m. (pair_rule_local (here_too m)).falls) refl refl pair_rule_goes)
      (λ pairs. first_any (expect_goes k.CloseBrace refl) (λ _. after (noting_goes {E = everything} doubled_key pairs) (λ _. pure_goes _) (λ _ _ _ _. refl))) (λ _. refl))

  parentheses_goes : {E : Form → Option Kind → Bool} → Rule n (Some k.OpenParen) E (parentheses (within n)) (λ m. parentheses (within m))
  unfolding parentheses is_kind same_kind
  parentheses_goes = first_any (opening_goes k.OpenParen refl) (λ _. first (I.whole false) (λ _. first_any (expect_goes k.CloseParen refl) (λ _. pure_goes _)) (λ _. refl))

  -- ---- lambdas, names and calls

  -- behind a parameter a comma stands before the last bar, where the parameter might go on at the bar
  lambda_from_goes : {E : Lambda → Option Kind → Bool} (bar : Kind) → is_kind bar (Some bar) ≡ true → Rule n (Some bar) E (lambda_from (within n) bar) (λ m. lambda_from (within m) bar)
  unfolding lambda_from is_kind same_kind
  lambda_from_goes bar h = first_any (opening_goes bar h) (λ _. closed_goes k.LastBar is_bar k.Comma _ _ (λ m. (param_in_local (here_too m) true).falls) refl refl refl (I.param true)
      (λ params. first_any (expect_any_goes is_bar k.LastBar refl) (λ _. first_any block_goes (λ _. pure_goes _))) refl)

  lambda_by_goes : (bars : Bool) (next : Option Kind) → Branch n (always ends_expression) (pure None) (λ m. pure None) (lambda_by (within n) bars next) (λ m. lambda_by (within m) bars next)
  unfolding is_kind same_kind
  lambda_by_goes bars (Some k.Bar) = taking (first_any (lambda_from_goes k.Bar refl) (λ _. pure_goes _))
  lambda_by_goes bars (Some k.LastBar) = test_branch bars (leaves refl refl) (taking (first_any (lambda_from_goes k.LastBar refl) (λ _. pure_goes _)))
  lambda_by_goes bars _ = leaves refl refl

  pub optional_lambda_goes : (bars : Bool) → Rule n None (always ends_expression) (optional_lambda (within n) bars) (λ m. optional_lambda (within m) bars)
  unfolding optional_lambda
  optional_lambda_goes bars = peek_none (pure_goes None) (lambda_by_goes bars) (λ _ next e m. no_lambda (within m) bars next e)

  call_or_name_by_goes : (bars : Bool) (name : List ℕ) (next : Option Kind) → Branch n (always ends_expression) (pure (form.Name name)) (λ m. pure (form.Name name)) (call_or_name_by (within n) bars name next) (λ m. call_or_name_by (within m) bars name next)
  call_or_name_by_goes bars name (Some k.OpenParen) = taking (first_any arguments_goes (λ _. after (optional_lambda_goes bars) (λ _. pure_goes _) (λ _ _ _ e. e)))
  call_or_name_by_goes bars name _ = leaves refl refl

  pub call_or_name_goes : (bars : Bool) (name : List ℕ) → Rule n None (always ends_expression) (call_or_name (within n) bars name) (λ m. call_or_name (within m) bars name)
  unfolding call_or_name
  call_or_name_goes bars name = peek_none (pure_goes _) (call_or_name_by_goes bars name) (λ _ next e m. no_call (within m) bars name next e)

  named_goes : {x : Kind} (bars : Bool) → Rule n (Some x) (always ends_expression) (named (within n) bars) (λ m. named (within m) bars)
  unfolding named
  named_goes {x = x} bars = first_any (take_goes {k = x}) (λ t. call_or_name_goes bars t.text)

  -- ---- texts with interpolation

  interpolation_goes : Rule n (Some k.InterpolationBegin) everything (interpolation (within n)) (λ m. interpolation (within m))
  unfolding interpolation is_kind same_kind
  interpolation_goes = first_any (opening_goes k.InterpolationBegin refl) (λ _. I.interpolated)

  piece_by_goes : (next : Option Kind) → Branch n (always ends_text) (pure None) (λ m. pure None) (piece_by (within n) next) (λ m. piece_by (within m) next)
  piece_by_goes (Some k.Piece) = taking (first_any (take_goes {k = k.Piece}) (λ _. pure_goes _))
  piece_by_goes (Some k.VariableInText) = taking (first_any (take_goes {k = k.VariableInText}) (λ _. pure_goes _))
  piece_by_goes (Some k.InterpolationBegin) = taking (first_any interpolation_goes (λ _. pure_goes _))
  piece_by_goes _ = leaves refl refl

  piece_rule_goes : Rule n None (always ends_text) (piece_rule (within n)) (λ m. piece_rule (within m))
  unfolding piece_rule
  piece_rule_goes = peek_none (pure_goes None) piece_by_goes (λ _ next e m. no_piece (within m) next e)

  text_by_holds : {E : Form → Option Kind → Bool} (text : List ℕ) (next : Option Kind) → Holds n 1 E (text_by (within n) text next) (λ m. text_by (within m) text next)
  unfolding is_kind same_kind
  text_by_holds text (Some k.TextEnd) = (first_any (take_goes {k = k.TextEnd}) (λ _. pure_goes _)).holds
  text_by_holds text _ = (after (repeat_goes _ (λ m. (piece_rule_local (here_too m) {d = true}).falls) piece_rule_goes) (λ _. first_any (expect_goes k.TextEnd refl) (λ _. pure_goes _)) (λ _. refl)).holds

  text_after_goes : {E : Form → Option Kind → Bool} (text : List ℕ) → Rule n (Some k.TextEnd) E (text_after (within n) text) (λ m. text_after (within m) text)
  unfolding text_after
  text_after_goes text = peek_some (text_by_holds text) (first_any (take_goes {n = n} {k = k.TextEnd}) (λ _. pure_goes _)).fresh

  quoted_by_holds : {E : Form → Option Kind → Bool} (next : Option Kind) → Holds n 1 E (quoted_by (within n) next) (λ m. quoted_by (within m) next)
  quoted_by_holds (Some k.Piece) = (first_any (take_goes {k = k.Piece}) (λ t. text_after_goes t.text)).holds
  quoted_by_holds _ = (text_after_goes []).holds

  quoted_goes : {E : Form → Option Kind → Bool} → Rule n (Some k.TextBegin) E (quoted (within n)) (λ m. quoted (within m))
  unfolding quoted is_kind same_kind
  quoted_goes = first_any (expect_goes k.TextBegin refl) (λ _. peek_some quoted_by_holds (text_after_goes []).fresh)

  -- ---- conditions

  otherwise_by_goes : (next : Option Kind) → Branch n (always ends_expression) (pure None) (λ m. pure None) (otherwise_by (within n) next) (λ m. otherwise_by (within m) next)
  otherwise_by_goes (Some k.Else) = taking (first_any (take_goes {k = k.Else}) (λ _. first_any block_goes (λ _. pure_goes _)))
  otherwise_by_goes _ = leaves refl refl

  otherwise_goes : Rule n None (always ends_expression) (otherwise (within n)) (λ m. otherwise (within m))
  unfolding otherwise
  otherwise_goes = peek_none (pure_goes None) otherwise_by_goes (λ _ next e m. no_else (within m) next e)

  condition_goes : (word : Kind) → is_kind word (Some word) ≡ true → Rule n (Some word) (always ends_expression) (condition (within n) word) (λ m. condition (within m) word)
  unfolding condition
  condition_goes word h = first_any (opening_goes word h) (λ _. I.whole false)

  elsif_by_goes : (next : Option Kind) → Branch n (always ends_expression) (pure None) (λ m. pure None) (elsif_by (within n) next) (λ m. elsif_by (within m) next)
  unfolding is_kind same_kind
  elsif_by_goes (Some k.Elsif) = taking (first (condition_goes k.Elsif refl) (λ _. first_any block_goes (λ _. pure_goes _)) (λ _. refl))
  elsif_by_goes _ = leaves refl refl

  elsif_rule_goes : Rule n None (always ends_expression) (elsif_rule (within n)) (λ m. elsif_rule (within m))
  unfolding elsif_rule
  elsif_rule_goes = peek_none (pure_goes None) elsif_by_goes (λ _ next e m. no_elsif (within m) next e)

  if_rule_goes : Rule n (Some k.If) (always ends_expression) (if_rule (within n)) (λ m. if_rule (within m))
  unfolding if_rule is_kind same_kind
  if_rule_goes = first (condition_goes k.If refl) (λ _. first_any block_goes (λ _. after (repeat_goes _ (λ m. (elsif_rule_local (here_too m) {d = true}).falls) elsif_rule_goes) (λ _. after otherwise_goes (λ _. pure_goes _) (λ _ _ _ e. e)) (λ _ _ _ e. e))) (λ _. refl)

  unless_rule_goes : Rule n (Some k.Unless) (always ends_expression) (unless_rule (within n)) (λ m. unless_rule (within m))
  unfolding unless_rule is_kind same_kind
  unless_rule_goes = first (condition_goes k.Unless refl) (λ _. first_any block_goes (λ _. after otherwise_goes (λ _. pure_goes _) (λ _ _ _ e. e))) (λ _. refl)

  case_options_by_goes : (next : Option Kind) → Branch n (always closes_block) (pure None) (λ m. pure None) (case_options_by (within n) next) (λ m. case_options_by (within m) next)
  case_options_by_goes (Some k.CloseBrace) = leaves refl refl
  case_options_by_goes _ = taking (first_any I.option (λ _. pure_goes _))

  case_options_goes : Rule n None (always closes_block) (case_options (within n)) (λ m. case_options (within m))
  unfolding case_options
  case_options_goes = peek_none (pure_goes None) case_options_by_goes (λ _ next e m. no_option (within m) next e)

  case_rule_goes : {E : Form → Option Kind → Bool} → Rule n (Some k.Case) E (case_rule (within n)) (λ m. case_rule (within m))
  unfolding case_rule is_kind same_kind
  case_rule_goes = first (condition_goes k.Case refl) (λ _. first_any (opening_goes k.OpenBrace refl) (λ _. after (repeat_goes _ (λ m. (case_options_local (here_too m)).falls) case_options_goes) (λ _. first_any (expect_goes k.CloseBrace refl) (λ _. pure_goes _)) (λ _. refl))) (λ _. refl)

  -- ---- values and what follows them

  primary_by_holds : (bars : Bool) (next : Option Kind) → Holds n 1 (always ends_expression) (primary_by (within n) bars next) (λ m. primary_by (within m) bars next)
  unfolding is_kind same_kind
  primary_by_holds bars (Some k.Name) = (named_goes {x = k.Name} bars).holds
  primary_by_holds bars (Some k.StatementFunction) = (named_goes {x = k.Name} bars).holds
  primary_by_holds bars (Some k.Type) = (first_any (take_goes {k = k.Type}) (λ _. pure_goes _)).holds
  primary_by_holds bars (Some k.Variable) = (first_any (take_goes {k = k.Variable}) (λ _. pure_goes _)).holds
  primary_by_holds bars (Some k.QualifiedVariable) = (first_any (take_goes {k = k.Variable}) (λ _. pure_goes _)).holds
  primary_by_holds bars (Some k.Number) = (first_any (take_goes {k = k.Number}) (λ _. pure_goes _)).holds
  primary_by_holds bars (Some k.Text) = (first_any (take_goes {k = k.Text}) (λ _. pure_goes _)).holds
  primary_by_holds bars (Some k.TextBegin) = quoted_goes.holds
  primary_by_holds bars (Some k.True) = (first_any (take_goes {k = k.True}) (λ _. pure_goes _)).holds
  primary_by_holds bars (Some k.False) = (first_any (take_goes {k = k.False}) (λ _. pure_goes _)).holds
  primary_by_holds bars (Some k.Undef) = (first_any (take_goes {k = k.Undef}) (λ _. pure_goes _)).holds
  primary_by_holds bars (Some k.Default) = (first_any (take_goes {k = k.Default}) (λ _. pure_goes _)).holds
  primary_by_holds bars (Some k.TightBracket) = (list_goes k.TightBracket refl).holds
  primary_by_holds bars (Some k.OpenBracket) = (list_goes k.OpenBracket refl).holds
  primary_by_holds bars (Some k.OpenBrace) = hash_goes.holds
  primary_by_holds bars (Some k.OpenParen) = parentheses_goes.holds
  primary_by_holds bars (Some k.If) = if_rule_goes.holds
  primary_by_holds bars (Some k.Unless) = unless_rule_goes.holds
  primary_by_holds bars (Some k.Case) = case_rule_goes.holds
  primary_by_holds bars _ = refuse_holds

  primary_goes : (bars : Bool) → Rule n (Some k.Name) (always ends_expression) (primary (within n) bars) (λ m. primary (within m) bars)
  unfolding primary
  primary_goes bars = here_some (λ at. peek_some (λ next. bind_holds 1 (primary_by_holds bars next) (λ found. pure_goes (expr_at at found)) (λ _. omega arith) (λ _ _ _ e. e)) (first (named_goes {x = k.Name} bars) (λ found. pure_goes (expr_at at found)) (λ _ _ _ e. e)).fresh)

  method_goes : (bars : Bool) → Rule n (Some k.Dot) (always ends_expression) (method (within n) bars) (λ m. method (within m) bars)
  unfolding method is_kind same_kind
  method_goes bars = first_any (expect_goes k.Dot refl) (λ _. first_any (expect_any_goes is_name k.Name refl) (λ _. after optional_arguments_goes (λ _. after (optional_lambda_goes bars) (λ _. pure_goes _) (λ _ _ _ e. e)) (λ _ _ _ e. e)))

  selector_goes : Rule n (Some k.Question) everything (selector (within n)) (λ m. selector (within m))
  unfolding selector is_kind same_kind
  selector_goes = first_any (expect_goes k.Question refl) (λ _. first_any (opening_goes k.OpenBrace refl)
      (λ _. first (separated_some_goes (is_kind k.CloseBrace) k.Comma _ (λ m. (pair_rule_local (here_too m)).falls) (λ _ e. e) (of_kind k.CloseBrace ends_expression refl) (of_kind k.CloseBrace _ refl) pair_rule_goes) (λ _. first_any (expect_goes k.CloseBrace refl) (λ _. pure_goes _)) (λ _. refl)))

  postfix_by_goes : (bars : Bool) (next : Option Kind) → Branch n (always ends_expression) (pure None) (λ m. pure None) (postfix_by (within n) bars next) (λ m. postfix_by (within m) bars next)
  postfix_by_goes bars (Some k.TightBracket) = taking (first_any access_goes (λ _. pure_goes _))
  postfix_by_goes bars (Some k.Dot) = taking (first (method_goes bars) (λ _. pure_goes _) (λ _ _ _ e. e))
  postfix_by_goes bars (Some k.Question) = taking (first_any selector_goes (λ _. pure_goes _))
  postfix_by_goes bars _ = leaves refl refl

  postfix_rule_goes : (bars : Bool) → Rule n None (always ends_expression) (postfix_rule (within n) bars) (λ m. postfix_rule (within m) bars)
  unfolding postfix_rule
  postfix_rule_goes bars = peek_none (pure_goes None) (postfix_by_goes bars) (λ _ next e m. no_postfix (within m) bars next e)

  postfixes_goes : (bars : Bool) (s : Started) → Rule n None (always ends_expression) (postfixes (within n) bars s) (λ m. postfixes (within m) bars s)
  unfolding postfixes
  postfixes_goes bars s = after (repeat_goes _ (λ m. (postfix_rule_local (here_too m) {d = true} bars).falls) (postfix_rule_goes bars)) (λ _. pure_goes _) (λ _ _ _ e. e)

  pub value_goes : (bars : Bool) → Rule n (Some k.Name) (always ends_expression) (value (within n) bars) (λ m. value (within m) bars)
  unfolding value
  value_goes bars = first (primary_goes bars) (λ base. postfixes_goes bars (started base)) (λ _ _ _ e. e)

  -- ---- operators

  prefixed_goes : (bars : Bool) (mark : Kind) → is_kind mark (Some mark) ≡ true → (operator : PrefixOperator) → Rule n (Some mark) (always ends_expression) (prefixed (within n) bars mark operator) (λ m. prefixed (within m) bars mark operator)
  unfolding prefixed
  prefixed_goes bars mark h operator = here_some (λ at. first_any (opening_goes mark h) (λ _. first (I.operand bars) (λ x. pure_goes (expr_at at (form.Prefix operator x))) (λ _ _ _ e. e)))

  operand_by_holds : (bars : Bool) (next : Option Kind) → Holds n 1 (always ends_expression) (operand_by (within n) bars next) (λ m. operand_by (within m) bars next)
  unfolding is_kind same_kind
  operand_by_holds bars (Some k.Bang) = (prefixed_goes bars k.Bang refl prefix.Not).holds
  operand_by_holds bars (Some k.Minus) = (prefixed_goes bars k.Minus refl prefix.Negate).holds
  operand_by_holds bars (Some k.Star) = (prefixed_goes bars k.Star refl prefix.Splat).holds
  operand_by_holds bars _ = (value_goes bars).holds

  pub operand_goes : (bars : Bool) → Rule n (Some k.Name) (always ends_expression) (operand (within n) bars) (λ m. operand (within m) bars)
  unfolding operand
  operand_goes bars = peek_some (operand_by_holds bars) (value_goes bars).fresh

  operation_by_goes : {p : Parser Expr} {q : ℕ → Parser Expr} → Rule n (Some k.Name) (always ends_expression) p q → (o : Option BinaryOperator) → Branch n (always ends_expression) (pure None) (λ m. pure None) (operation_by (within n) p o) (λ m. operation_by (within m) (q m) o)
  operation_by_goes P (Some o) = taking (first_any (take_goes {k = k.Plus}) (λ _. first P (λ _. pure_goes _) (λ _ _ _ e. e)))
  operation_by_goes P None = leaves refl refl

  operation_rule_goes : {p : Parser Expr} {q : ℕ → Parser Expr} → Rule n (Some k.Name) (always ends_expression) p q → (strength : ℕ) → Rule n None (always ends_expression) (operation_rule (within n) p strength) (λ m. operation_rule (within m) (q m) strength)
  unfolding operation_rule
  operation_rule_goes {q = q} P strength = peek_none (pure_goes None) (λ next. operation_by_goes P (operator_at strength next)) (λ _ next e m. ap (operation_by (within m) (q m)) (no_operator strength next e))

  pub chain_goes : (bars : Bool) (strength : ℕ) → Rule n (Some k.Name) (always ends_expression) (chain (within n) bars strength None) (λ m. chain (within m) bars strength None)
  unfolding chain
  chain_goes bars zero = operand_goes bars
  chain_goes bars (suc tighter) = first (chain_goes bars tighter)
      (λ _. after (repeat_goes _ (λ m. (operation_rule_local (here_too m) {d = true} (loose_local (chain_local (here_too m) bars tighter)) (suc tighter)).falls) (operation_rule_goes (chain_goes bars tighter) (suc tighter))) (λ _. pure_goes _) (λ _ _ _ e. e)) (λ _ _ _ e. e)

  pub begun_chain_goes : (bars : Bool) (strength : ℕ) (s : Started) → Rule n None (always ends_expression) (chain (within n) bars strength (Some s)) (λ m. chain (within m) bars strength (Some s))
  unfolding chain
  begun_chain_goes bars zero s = postfixes_goes bars s
  begun_chain_goes bars (suc tighter) s = after (begun_chain_goes bars tighter s)
      (λ _. after (repeat_goes _ (λ m. (operation_rule_local (here_too m) {d = true} (loose_local (chain_local (here_too m) bars tighter)) (suc tighter)).falls) (operation_rule_goes (chain_goes bars tighter) (suc tighter))) (λ _. pure_goes _) (λ _ _ _ e. e)) (λ _ _ _ e. e)

  assigned_by_goes : (bars behind : Bool) (at : ℕ) (name : List ℕ) (next : Option Kind)
      → Branch n (always ends_expression) (chain (within n) bars loosest (Some (started (expr_at at (form.Variable name))))) (λ m. chain (within m) bars loosest (Some (started (expr_at at (form.Variable name))))) (assigned_by (within n) bars behind at name next) (λ m. assigned_by (within m) bars behind at name next)
  unfolding is_kind same_kind
  assigned_by_goes bars behind at name (Some k.Assign) = taking (first_any (opening_goes k.Assign refl) (λ _. first (I.whole behind) (λ _. pure_goes _) (λ _ _ _ e. e)))
  assigned_by_goes bars behind at name _ = leaves refl refl

  assigned_goes : (bars behind : Bool) (at : ℕ) (name : List ℕ) → Rule n None (always ends_expression) (assigned (within n) bars behind at name) (λ m. assigned (within m) bars behind at name)
  unfolding assigned
  assigned_goes bars behind at name = peek_none (begun_chain_goes bars loosest _) (assigned_by_goes bars behind at name) (λ _ next e m. no_assign (within m) bars behind at name next e)

  whole_by_holds : (bars behind : Bool) (next : Option Kind) → Holds n 1 (always ends_expression) (whole_by (within n) bars behind next) (λ m. whole_by (within m) bars behind next)
  whole_by_holds bars behind (Some k.Variable) = (first_any (take_goes {k = k.Variable}) (λ t. assigned_goes bars behind t.line t.text)).holds
  whole_by_holds bars behind _ = (chain_goes bars loosest).holds

  pub whole_goes : (bars behind : Bool) → Rule n (Some k.Name) (always ends_expression) (whole (within n) bars behind) (λ m. whole (within m) bars behind)
  unfolding whole
  whole_goes bars behind = peek_some (whole_by_holds bars behind) (chain_goes bars loosest).fresh

  -- ---- what stands between `${` and `}`, with the `}`

  finish_goes : (x : Expr) → Rule n (Some k.InterpolationEnd) everything (finish x) (λ m. finish x)
  unfolding is_kind same_kind
  finish_goes x = first_any (expect_goes k.InterpolationEnd refl) (λ _. pure_goes x)

  variable_or_call_by_goes : (name : List ℕ) (next : Option Kind) → Rule n None (always ends_expression) (variable_or_call_by (within n) name next) (λ m. variable_or_call_by (within m) name next)
  variable_or_call_by_goes name (Some k.InterpolationEnd) = pure_goes _
  variable_or_call_by_goes name (Some k.TightBracket) = pure_goes _
  variable_or_call_by_goes name (Some k.OpenBracket) = pure_goes _
  variable_or_call_by_goes name (Some k.Dot) = pure_goes _
  variable_or_call_by_goes name _ = call_or_name_goes false name

  finished_goes : (t : Token) (next : Option Kind) → Rule n (Some k.InterpolationEnd) everything ((variable_or_call_by (within n) t.text next >>= begun_behind (within n) t) >>= finish) (λ m. (variable_or_call_by (within m) t.text next >>= begun_behind (within m) t) >>= finish)
  finished_goes t next = after (after (variable_or_call_by_goes t.text next) (λ found. begun_chain_goes false loosest _) (λ _ _ _ e. e)) finish_goes (λ _. refl)

  begun_goes : Rule n (Some k.Name) everything (take >>= (λ t. peek >>= (λ next. (variable_or_call_by (within n) t.text next >>= begun_behind (within n) t) >>= finish))) (λ m. take >>= (λ t. peek >>= (λ next. (variable_or_call_by (within m) t.text next >>= begun_behind (within m) t) >>= finish)))
  begun_goes = first_any (take_goes {k = k.Name}) (λ t. peek_some (λ next. (finished_goes t next).holds) (finished_goes t (Some k.InterpolationEnd)).fresh)

  pub interpolated_goes : Rule n (Some k.Name) everything (interpolated (within n) >>= finish) (λ m. interpolated (within m) >>= finish)
  interpolated_goes = same_rule (finished_is (within n)) (λ m i. finished_is (within m) i)
      (peek_some {f = finished (within n)} {g = λ next m. finished (within m) next} (λ next. test_holds (is_name next) begun_goes.holds (first (whole_goes false false) finish_goes (λ _. refl)).holds) begun_goes.fresh)

  -- ---- parameters and options

  default_by_goes : (bars : Bool) (next : Option Kind) → Branch n (always ends_expression) (pure None) (λ m. pure None) (default_by (within n) bars next) (λ m. default_by (within m) bars next)
  unfolding is_kind same_kind
  default_by_goes bars (Some k.Assign) = taking (first_any (opening_goes k.Assign refl) (λ _. first (I.whole bars) (λ _. pure_goes _) (λ _ _ _ e. e)))
  default_by_goes bars _ = leaves refl refl

  default_rule_goes : (bars : Bool) → Rule n None (always ends_expression) (default_rule (within n) bars) (λ m. default_rule (within m) bars)
  unfolding default_rule
  default_rule_goes bars = peek_none (pure_goes None) (default_by_goes bars) (λ _ next e m. no_default (within m) bars next e)

  typed_param_goes : (bars : Bool) (type : Expr) → Rule n (Some k.Variable) (always ends_param) (typed_param (within n) bars type) (λ m. typed_param (within m) bars type)
  unfolding typed_param is_kind same_kind
  typed_param_goes bars type = first_any (expect_goes k.Variable refl) (λ _. after (default_rule_goes bars) (λ _. pure_goes _) (λ _ _ next e. param_ends next e))

  given_goes : (bars : Bool) (at : ℕ) (x : Expr) (next : Option Kind) → Branch n (always ends_param) (param_from at x) (λ m. param_from at x) (param_by (within n) bars at x next) (λ m. param_by (within m) bars at x next)
  given_goes bars at x (Some k.Variable) = taking (typed_param_goes bars x)
  given_goes bars at x _ = leaves refl refl

  asked_holds : (bars : Bool) (at : ℕ) (x : Expr) → param_from at x ≡ refuse → (next : Option Kind) → Holds n 1 (always ends_param) (param_by (within n) bars at x next) (λ m. param_by (within m) bars at x next)
  asked_holds bars at x e (Some k.Variable) = (typed_param_goes bars x).holds
  asked_holds bars at x e _ = subst (λ (p : Parser _). Holds n 1 (always ends_param) p (λ m. param_from at x)) (sym e) refuse_holds

  param_by_goes : (bars : Bool) (at : ℕ) (x : Expr) (a : Answer (param_from at x)) → Rule n (asks a) (always ends_param) (peek >>= param_by (within n) bars at x) (λ m. peek >>= param_by (within m) bars at x)
  param_by_goes bars at x (gives y e) = peek_none (subst (λ (p : Parser _). Rule n None (always ends_param) p (λ m. p)) (sym e) (pure_goes y)) (given_goes bars at x) (λ _ next h m. no_type bars at x (within m) next h)
  param_by_goes bars at x (refuses e) = peek_some (asked_holds bars at x e) (typed_param_goes bars x).fresh

  pub param_rule_goes : (bars : Bool) → Rule n (Some k.Name) (always ends_param) (param_rule (within n) bars) (λ m. param_rule (within m) bars)
  unfolding param_rule
  param_rule_goes bars = here_some (λ at. first_each {t = λ x. asks (answer at x)} (whole_goes false bars) (λ x. param_by_goes bars at x (answer at x)) (λ x. param_meets (answer at x) x))

  pub case_option_goes : Rule n (Some k.Name) everything (case_option (within n)) (λ m. case_option (within m))
  unfolding case_option is_kind same_kind
  case_option_goes = here_some (λ at. first (separated_some_goes (is_kind k.Colon) k.Comma _ (λ m. (loose_local (whole_local (here_too m) {d = true} false false)).falls) (λ _ e. e) (of_kind k.Colon ends_expression refl) (of_kind k.Colon _ refl) (whole_goes false false))
      (λ values. first_any (expect_goes k.Colon refl) (λ _. first_any block_goes (λ body. pure_goes (option_of_case values body at)))) (λ _. refl))
