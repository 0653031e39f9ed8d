-- Expressions look at the next token alone.
use Rattle.std.proofs.Common.{subst, ℕ, zero, suc, Bool, true, false, List, [], Option, Some, None}
use Rattle.pp_lexer.specs.declared.kind.Kind.{Kind}
use Rattle.pp_lexer.specs.declared.kind.Kind.TheVariants as k
use Rattle.pp_grammar.proofs.Reader.Input.{Parser}
use Rattle.pp_grammar.proofs.Reader.Inner.{Inner}
use Rattle.pp_grammar.specs.Kinds.{is_name}
use Rattle.pp_tree.specs.Layers.{FormLayer}
use Rattle.pp_grammar.proofs.Reader.Params.{param_by_form, param_from}
use Rattle.pp_grammar.specs.Names.{is_simple}
use Rattle.pp_parser.specs.declared.started.Started.{Started}
use Rattle.pp_tree.specs.declared.operators.BinaryOperator.{BinaryOperator}
use Rattle.pp_tree.specs.declared.operators.PrefixOperator.{PrefixOperator}
use Rattle.pp_tree.specs.declared.operators.PrefixOperator.TheVariants as prefix
use Rattle.pp_tree.specs.declared.collector.Test.TheOpen.{Form-F}
use Rattle.pp_tree.specs.declared.expr.Expr.{Expr}
use Rattle.pp_tree.specs.declared.expr.Pair.{Pair}
use Rattle.pp_grammar.proofs.Reader.Keys.{noting}
use Rattle.pp_tree.specs.declared.expr.Form.{out-Form}
use Rattle.pp_tree.specs.declared.expr.Form.TheVariants as form
use Rattle.pp_tree.specs.Building.{expr_at, form_of, case_option as option_of_case}
use Rattle.pp_grammar.proofs.Reader.Expressions.{block, arguments, arguments_by, optional_arguments, access, list, pair_rule, hash, parentheses, lambda_from, lambda_by, optional_lambda, call_or_name_by, call_or_name, named, interpolation, piece_by, piece_rule, text_by, text_after, quoted_by, quoted, otherwise_by, otherwise, condition, elsif_by, elsif_rule, if_rule, unless_rule, case_options_by, case_options, case_rule, primary_by, primary, method, selector, postfix_by, postfix_rule, postfixes, value, prefixed, operand_by, operand, operation_by, operation_rule, operator_at, chain, loosest, started, assigned_by, assigned, whole_by, whole, variable_or_call_by, variable_or_call, begun_by_name, interpolated, default_by, default_rule, typed_param, param_by, param_rule, case_option, is_at}
use Rattle.pp_grammar.proofs.Local.Steps.{Cut, IsLocal, any, one, if_given, bind_local, first_local, loose_local, given_local, none_local, pure_local, refuse_local, peek_local, here_local, if_local, take_local, expect_local, expect_any_local, noting_local}
use Rattle.pp_grammar.proofs.Local.Lists.{repeat_local, separated_local, separated_some_local}
use Rattle.pp_grammar.proofs.Local.Inner.{InnerLocal, opening_local, whole_in_local, operand_in_local, interpolated_in_local, param_in_local, statements_in_local, case_option_in_local}

param_by_form_local : {c : Cut} {d : Bool} (at : ℕ) (layer : FormLayer) → IsLocal c d any (param_by_form at layer) (param_by_form at layer)
param_by_form_local at (Form-F.Variable name) = if_local (is_simple name) (pure_local _) refuse_local
param_by_form_local at (Form-F.Assign name default) = pure_local _
param_by_form_local at _ = refuse_local

param_from_local : {c : Cut} {d : Bool} (at : ℕ) (x : Expr) → IsLocal c d any (param_from at x) (param_from at x)
unfolding param_from
param_from_local at x = param_by_form_local at (out-Form (form_of x))

module _ {c : Cut} {a b : Inner} (I : InnerLocal c a b) where
  pub block_local : {d : Bool} → IsLocal c d one (block a) (block b)
  unfolding block
  block_local = opening_local I k.OpenBrace (λ _. bind_local (statements_in_local I) (λ _. bind_local (expect_local _) (λ _. pure_local _)))

  pub arguments_local : {d : Bool} → IsLocal c d one (arguments a) (arguments b)
  unfolding arguments
  arguments_local = opening_local I k.OpenParen (λ _. bind_local (separated_local _ _ (whole_in_local I false)) (λ _. bind_local (expect_local _) (λ _. pure_local _)))

  pub arguments_by_local : {d : Bool} (next : Option Kind) → IsLocal c d any (arguments_by a next) (arguments_by b next)
  arguments_by_local (Some k.OpenParen) = loose_local arguments_local
  arguments_by_local _ = pure_local _

  pub optional_arguments_local : {d : Bool} → IsLocal c d any (optional_arguments a) (optional_arguments b)
  unfolding optional_arguments
  optional_arguments_local = peek_local arguments_by_local

  pub access_local : {d : Bool} → IsLocal c d one (access a) (access b)
  unfolding access
  access_local = opening_local I k.TightBracket (λ _. bind_local (separated_some_local _ _ (whole_in_local I false)) (λ _. bind_local (expect_local _) (λ _. pure_local _)))

  pub list_local : {d : Bool} (bracket : Kind) → IsLocal c d one (list a bracket) (list b bracket)
  unfolding list
  list_local bracket = opening_local I bracket (λ _. bind_local (separated_local _ _ (whole_in_local I false)) (λ _. bind_local (expect_local _) (λ _. pure_local _)))

  pub pair_rule_local : IsLocal c I.deepest any (pair_rule a) (pair_rule b)
  unfolding pair_rule
  pair_rule_local = bind_local (whole_in_local I false) (λ _. bind_local (expect_local _) (λ _. bind_local (whole_in_local I false) (λ _. pure_local _)))

  noted_local : {d : Bool} (pairs : List (Pair Expr)) → IsLocal c d any (noting a.doubled_key pairs) (noting b.doubled_key pairs)
  noted_local {d = d} pairs = subst (λ (keys : List (Pair Expr) → Option ℕ). IsLocal c d any (noting a.doubled_key pairs) (noting keys pairs)) I.keys (noting_local a.doubled_key pairs)

  pub hash_local : {d : Bool} → IsLocal c d one (hash a) (hash b)
  unfolding hash
  hash_local = opening_local I k.OpenBrace (λ _. bind_local (separated_local _ _ pair_rule_local) (λ pairs. bind_local (expect_local _) (λ _. bind_local (noted_local pairs) (λ _. pure_local _))))

  pub parentheses_local : {d : Bool} → IsLocal c d one (parentheses a) (parentheses b)
  unfolding parentheses
  parentheses_local = opening_local I k.OpenParen (λ _. bind_local (whole_in_local I false) (λ _. bind_local (expect_local _) (λ _. pure_local _)))

  -- ---- lambdas, names and calls

  pub lambda_from_local : {d : Bool} (bar : Kind) → IsLocal c d one (lambda_from a bar) (lambda_from b bar)
  unfolding lambda_from
  lambda_from_local bar = opening_local I bar (λ _. bind_local (separated_local _ _ (param_in_local I true)) (λ _. bind_local (expect_any_local _) (λ _. bind_local block_local (λ _. pure_local _))))

  pub lambda_by_local : {d : Bool} (bars : Bool) (next : Option Kind) → IsLocal c d any (lambda_by a bars next) (lambda_by b bars next)
  lambda_by_local bars (Some k.Bar) = bind_local (lambda_from_local k.Bar) (λ _. pure_local _)
  lambda_by_local bars (Some k.LastBar) = if_local bars (pure_local _) (bind_local (lambda_from_local k.LastBar) (λ _. pure_local _))
  lambda_by_local bars _ = pure_local _

  pub optional_lambda_local : {d : Bool} (bars : Bool) → IsLocal c d any (optional_lambda a bars) (optional_lambda b bars)
  unfolding optional_lambda
  optional_lambda_local bars = peek_local (lambda_by_local bars)

  pub call_or_name_by_local : {d : Bool} (bars : Bool) (name : List ℕ) (next : Option Kind) → IsLocal c d any (call_or_name_by a bars name next) (call_or_name_by b bars name next)
  call_or_name_by_local bars name (Some k.OpenParen) = bind_local arguments_local (λ _. bind_local (optional_lambda_local bars) (λ _. pure_local _))
  call_or_name_by_local bars name _ = pure_local _

  pub call_or_name_local : {d : Bool} (bars : Bool) (name : List ℕ) → IsLocal c d any (call_or_name a bars name) (call_or_name b bars name)
  unfolding call_or_name
  call_or_name_local bars name = peek_local (call_or_name_by_local bars name)

  pub named_local : {d : Bool} (bars : Bool) → IsLocal c d one (named a bars) (named b bars)
  unfolding named
  named_local bars = first_local take_local (λ t. call_or_name_local bars t.text)

  -- ---- texts with interpolation

  pub interpolation_local : {d : Bool} → IsLocal c d one (interpolation a) (interpolation b)
  unfolding interpolation
  interpolation_local = opening_local I k.InterpolationBegin (λ _. bind_local (interpolated_in_local I) (λ _. bind_local (expect_local _) (λ _. pure_local _)))

  pub piece_by_local : {d : Bool} (next : Option Kind) → IsLocal c d if_given (piece_by a next) (piece_by b next)
  piece_by_local (Some k.Piece) = given_local (first_local take_local (λ _. pure_local _))
  piece_by_local (Some k.VariableInText) = given_local (first_local take_local (λ _. pure_local _))
  piece_by_local (Some k.InterpolationBegin) = given_local (first_local interpolation_local (λ _. pure_local _))
  piece_by_local _ = none_local

  pub piece_rule_local : {d : Bool} → IsLocal c d if_given (piece_rule a) (piece_rule b)
  unfolding piece_rule
  piece_rule_local = peek_local piece_by_local

  pub text_by_local : {d : Bool} (said : List ℕ) (next : Option Kind) → IsLocal c d any (text_by a said next) (text_by b said next)
  text_by_local said (Some k.TextEnd) = bind_local take_local (λ _. pure_local _)
  text_by_local said _ = bind_local (repeat_local piece_rule_local) (λ _. bind_local (expect_local _) (λ _. pure_local _))

  pub text_after_local : {d : Bool} (said : List ℕ) → IsLocal c d any (text_after a said) (text_after b said)
  unfolding text_after
  text_after_local said = peek_local (text_by_local said)

  pub quoted_by_local : {d : Bool} (next : Option Kind) → IsLocal c d any (quoted_by a next) (quoted_by b next)
  quoted_by_local (Some k.Piece) = bind_local take_local (λ t. text_after_local t.text)
  quoted_by_local _ = text_after_local []

  pub quoted_local : {d : Bool} → IsLocal c d one (quoted a) (quoted b)
  unfolding quoted
  quoted_local = first_local (expect_local _) (λ _. peek_local quoted_by_local)

  -- ---- conditions

  pub otherwise_by_local : {d : Bool} (next : Option Kind) → IsLocal c d any (otherwise_by a next) (otherwise_by b next)
  otherwise_by_local (Some k.Else) = bind_local take_local (λ _. bind_local block_local (λ _. pure_local _))
  otherwise_by_local _ = pure_local _

  pub otherwise_local : {d : Bool} → IsLocal c d any (otherwise a) (otherwise b)
  unfolding otherwise
  otherwise_local = peek_local otherwise_by_local

  pub condition_local : {d : Bool} (word : Kind) → IsLocal c d one (condition a word) (condition b word)
  unfolding condition
  condition_local word = opening_local I word (λ _. whole_in_local I false)

  pub elsif_by_local : {d : Bool} (next : Option Kind) → IsLocal c d if_given (elsif_by a next) (elsif_by b next)
  elsif_by_local (Some k.Elsif) = given_local (first_local (condition_local _) (λ _. bind_local block_local (λ _. pure_local _)))
  elsif_by_local _ = none_local

  pub elsif_rule_local : {d : Bool} → IsLocal c d if_given (elsif_rule a) (elsif_rule b)
  unfolding elsif_rule
  elsif_rule_local = peek_local elsif_by_local

  pub if_rule_local : {d : Bool} → IsLocal c d one (if_rule a) (if_rule b)
  unfolding if_rule
  if_rule_local = first_local (condition_local _) (λ _. bind_local block_local (λ _. bind_local (repeat_local elsif_rule_local) (λ _. bind_local otherwise_local (λ _. pure_local _))))

  pub unless_rule_local : {d : Bool} → IsLocal c d one (unless_rule a) (unless_rule b)
  unfolding unless_rule
  unless_rule_local = first_local (condition_local _) (λ _. bind_local block_local (λ _. bind_local otherwise_local (λ _. pure_local _)))

  pub case_options_by_local : (next : Option Kind) → IsLocal c I.deepest if_given (case_options_by a next) (case_options_by b next)
  case_options_by_local (Some k.CloseBrace) = none_local
  case_options_by_local _ = given_local (first_local (case_option_in_local I) (λ _. pure_local _))

  pub case_options_local : IsLocal c I.deepest if_given (case_options a) (case_options b)
  unfolding case_options
  case_options_local = peek_local case_options_by_local

  pub case_rule_local : {d : Bool} → IsLocal c d one (case_rule a) (case_rule b)
  unfolding case_rule
  case_rule_local = first_local (condition_local _) (λ _. loose_local (opening_local I k.OpenBrace (λ _. bind_local (repeat_local case_options_local) (λ _. bind_local (expect_local _) (λ _. pure_local _)))))

  -- ---- values and what follows them

  pub primary_by_local : {d : Bool} (bars : Bool) (next : Option Kind) → IsLocal c d one (primary_by a bars next) (primary_by b bars next)
  primary_by_local bars (Some k.Name) = named_local bars
  primary_by_local bars (Some k.StatementFunction) = named_local bars
  primary_by_local bars (Some k.Type) = first_local take_local (λ _. pure_local _)
  primary_by_local bars (Some k.Variable) = first_local take_local (λ _. pure_local _)
  primary_by_local bars (Some k.QualifiedVariable) = first_local take_local (λ _. pure_local _)
  primary_by_local bars (Some k.Number) = first_local take_local (λ _. pure_local _)
  primary_by_local bars (Some k.Text) = first_local take_local (λ _. pure_local _)
  primary_by_local bars (Some k.TextBegin) = quoted_local
  primary_by_local bars (Some k.True) = first_local take_local (λ _. pure_local _)
  primary_by_local bars (Some k.False) = first_local take_local (λ _. pure_local _)
  primary_by_local bars (Some k.Undef) = first_local take_local (λ _. pure_local _)
  primary_by_local bars (Some k.Default) = first_local take_local (λ _. pure_local _)
  primary_by_local bars (Some k.TightBracket) = list_local k.TightBracket
  primary_by_local bars (Some k.OpenBracket) = list_local k.OpenBracket
  primary_by_local bars (Some k.OpenBrace) = hash_local
  primary_by_local bars (Some k.OpenParen) = parentheses_local
  primary_by_local bars (Some k.If) = if_rule_local
  primary_by_local bars (Some k.Unless) = unless_rule_local
  primary_by_local bars (Some k.Case) = case_rule_local
  primary_by_local bars _ = refuse_local

  pub primary_local : {d : Bool} (bars : Bool) → IsLocal c d one (primary a bars) (primary b bars)
  unfolding primary
  primary_local bars = here_local (λ at. peek_local (λ next. first_local (primary_by_local bars next) (λ found. pure_local (expr_at at found))))

  pub method_local : {d : Bool} (bars : Bool) → IsLocal c d one (method a bars) (method b bars)
  unfolding method
  method_local bars = first_local (expect_local _) (λ _. bind_local (expect_any_local _) (λ _. bind_local optional_arguments_local (λ _. bind_local (optional_lambda_local bars) (λ _. pure_local _))))

  pub selector_local : {d : Bool} → IsLocal c d one (selector a) (selector b)
  unfolding selector
  selector_local = first_local (expect_local _) (λ _. loose_local (opening_local I k.OpenBrace (λ _. bind_local (separated_some_local _ _ pair_rule_local) (λ _. bind_local (expect_local _) (λ _. pure_local _)))))

  pub postfix_by_local : {d : Bool} (bars : Bool) (next : Option Kind) → IsLocal c d if_given (postfix_by a bars next) (postfix_by b bars next)
  postfix_by_local bars (Some k.TightBracket) = given_local (first_local access_local (λ _. pure_local _))
  postfix_by_local bars (Some k.Dot) = given_local (first_local (method_local bars) (λ _. pure_local _))
  postfix_by_local bars (Some k.Question) = given_local (first_local selector_local (λ _. pure_local _))
  postfix_by_local bars _ = none_local

  pub postfix_rule_local : {d : Bool} (bars : Bool) → IsLocal c d if_given (postfix_rule a bars) (postfix_rule b bars)
  unfolding postfix_rule
  postfix_rule_local bars = peek_local (postfix_by_local bars)

  pub postfixes_local : {d : Bool} (bars : Bool) (s : Started) → IsLocal c d any (postfixes a bars s) (postfixes b bars s)
  unfolding postfixes
  postfixes_local bars s = bind_local (repeat_local (postfix_rule_local bars)) (λ _. pure_local _)

  pub value_local : {d : Bool} (bars : Bool) → IsLocal c d one (value a bars) (value b bars)
  unfolding value
  value_local bars = first_local (primary_local bars) (λ base. postfixes_local bars (started base))

  -- ---- operators

  pub prefixed_local : {d : Bool} (bars : Bool) (mark : Kind) (operator : PrefixOperator) → IsLocal c d one (prefixed a bars mark operator) (prefixed b bars mark operator)
  unfolding prefixed
  prefixed_local bars mark operator = here_local (λ at. opening_local I mark (λ _. bind_local (operand_in_local I bars) (λ x. pure_local (expr_at at (form.Prefix operator x)))))

  pub operand_by_local : {d : Bool} (bars : Bool) (next : Option Kind) → IsLocal c d one (operand_by a bars next) (operand_by b bars next)
  operand_by_local bars (Some k.Bang) = prefixed_local bars k.Bang prefix.Not
  operand_by_local bars (Some k.Minus) = prefixed_local bars k.Minus prefix.Negate
  operand_by_local bars (Some k.Star) = prefixed_local bars k.Star prefix.Splat
  operand_by_local bars _ = value_local bars

  pub operand_local : {d : Bool} (bars : Bool) → IsLocal c d one (operand a bars) (operand b bars)
  unfolding operand
  operand_local bars = peek_local (operand_by_local bars)

  pub operation_by_local : {d : Bool} {p q : Parser Expr} → IsLocal c d any p q → (o : Option BinaryOperator) → IsLocal c d if_given (operation_by a p o) (operation_by b q o)
  operation_by_local P (Some o) = given_local (first_local take_local (λ _. bind_local P (λ _. pure_local _)))
  operation_by_local P None = none_local

  pub operation_rule_local : {d : Bool} {p q : Parser Expr} → IsLocal c d any p q → (strength : ℕ) → IsLocal c d if_given (operation_rule a p strength) (operation_rule b q strength)
  unfolding operation_rule
  operation_rule_local P strength = peek_local (λ next. operation_by_local P (operator_at strength next))

  -- a chain takes a token, where its first operand was not begun yet
  pub chain_local : {d : Bool} (bars : Bool) (strength : ℕ) → IsLocal c d one (chain a bars strength None) (chain b bars strength None)
  unfolding chain
  chain_local bars zero = operand_local bars
  chain_local bars (suc tighter) = first_local (chain_local bars tighter) (λ _. bind_local (repeat_local (operation_rule_local (loose_local (chain_local bars tighter)) (suc tighter))) (λ _. pure_local _))

  pub begun_chain_local : {d : Bool} (bars : Bool) (strength : ℕ) (s : Started) → IsLocal c d any (chain a bars strength (Some s)) (chain b bars strength (Some s))
  unfolding chain
  begun_chain_local bars zero s = postfixes_local bars s
  begun_chain_local bars (suc tighter) s = bind_local (begun_chain_local bars tighter s) (λ _. bind_local (repeat_local (operation_rule_local (loose_local (chain_local bars tighter)) (suc tighter))) (λ _. pure_local _))

  pub assigned_by_local : {d : Bool} (bars behind : Bool) (at : ℕ) (name : List ℕ) (next : Option Kind) → IsLocal c d any (assigned_by a bars behind at name next) (assigned_by b bars behind at name next)
  assigned_by_local bars behind at name (Some k.Assign) = loose_local (opening_local I k.Assign (λ _. bind_local (whole_in_local I behind) (λ _. pure_local _)))
  assigned_by_local bars behind at name _ = begun_chain_local bars loosest _

  pub assigned_local : {d : Bool} (bars behind : Bool) (at : ℕ) (name : List ℕ) → IsLocal c d any (assigned a bars behind at name) (assigned b bars behind at name)
  unfolding assigned
  assigned_local bars behind at name = peek_local (assigned_by_local bars behind at name)

  pub whole_by_local : {d : Bool} (bars behind : Bool) (next : Option Kind) → IsLocal c d one (whole_by a bars behind next) (whole_by b bars behind next)
  whole_by_local bars behind (Some k.Variable) = first_local take_local (λ t. assigned_local bars behind t.line t.text)
  whole_by_local bars behind _ = chain_local bars loosest

  pub whole_local : {d : Bool} (bars behind : Bool) → IsLocal c d one (whole a bars behind) (whole b bars behind)
  unfolding whole
  whole_local bars behind = peek_local (whole_by_local bars behind)

  -- ---- what stands between `${` and `}`

  pub variable_or_call_by_local : {d : Bool} (name : List ℕ) (next : Option Kind) → IsLocal c d any (variable_or_call_by a name next) (variable_or_call_by b name next)
  variable_or_call_by_local name (Some k.InterpolationEnd) = pure_local _
  variable_or_call_by_local name (Some k.TightBracket) = pure_local _
  variable_or_call_by_local name (Some k.OpenBracket) = pure_local _
  variable_or_call_by_local name (Some k.Dot) = pure_local _
  variable_or_call_by_local name _ = call_or_name_local false name

  pub variable_or_call_local : {d : Bool} (name : List ℕ) → IsLocal c d any (variable_or_call a name) (variable_or_call b name)
  unfolding variable_or_call
  variable_or_call_local name = peek_local (variable_or_call_by_local name)

  pub begun_by_name_local : {d : Bool} → IsLocal c d one (begun_by_name a) (begun_by_name b)
  unfolding begun_by_name
  begun_by_name_local = first_local take_local (λ t. bind_local (variable_or_call_local t.text) (λ found. begun_chain_local false loosest _))

  pub interpolated_local : {d : Bool} → IsLocal c d one (interpolated a) (interpolated b)
  unfolding interpolated
  interpolated_local = peek_local (λ next. if_local (is_name next) begun_by_name_local (whole_local false false))

  -- ---- parameters and options

  pub default_by_local : {d : Bool} (bars : Bool) (next : Option Kind) → IsLocal c d any (default_by a bars next) (default_by b bars next)
  default_by_local bars (Some k.Assign) = loose_local (opening_local I k.Assign (λ _. bind_local (whole_in_local I bars) (λ _. pure_local _)))
  default_by_local bars _ = pure_local _

  pub default_rule_local : {d : Bool} (bars : Bool) → IsLocal c d any (default_rule a bars) (default_rule b bars)
  unfolding default_rule
  default_rule_local bars = peek_local (default_by_local bars)

  pub typed_param_local : {d : Bool} (bars : Bool) (type : Expr) → IsLocal c d any (typed_param a bars type) (typed_param b bars type)
  unfolding typed_param
  typed_param_local bars type = bind_local (expect_local _) (λ _. bind_local (default_rule_local bars) (λ _. pure_local _))

  pub param_by_local : {d : Bool} (bars : Bool) (at : ℕ) (x : Expr) (next : Option Kind) → IsLocal c d any (param_by a bars at x next) (param_by b bars at x next)
  param_by_local bars at x (Some k.Variable) = typed_param_local bars x
  param_by_local bars at x _ = param_from_local at x

  pub param_rule_local : {d : Bool} (bars : Bool) → IsLocal c d any (param_rule a bars) (param_rule b bars)
  unfolding param_rule
  param_rule_local bars = here_local (λ at. bind_local (whole_local false bars) (λ x. peek_local (param_by_local bars at x)))

  pub case_option_local : {d : Bool} → IsLocal c d one (case_option a) (case_option b)
  unfolding case_option
  case_option_local = here_local (λ at. bind_local (separated_some_local (is_at k.Colon) k.Comma (loose_local (whole_local false false))) (λ values. first_local (expect_local k.Colon) (λ _. bind_local block_local (λ body. pure_local (option_of_case values body at)))))
