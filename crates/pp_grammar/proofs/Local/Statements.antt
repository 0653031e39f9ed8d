-- Statements look at the next token alone.
use Rattle.std.proofs.Common.{◌≡◌, ℕ, zero, suc, ◌+◌, ◌<◌, ◌≤◌, Bool, true, false, if◌then◌else◌, List, [], ◌∷◌, ◌++◌, length, Option, Some, None, refl, ap, arith}
use Rattle.pp_lexer.specs.declared.kind.Kind.{Kind}
use Rattle.pp_lexer.specs.declared.kind.Kind.TheVariants as k
use Rattle.pp_lexer.specs.Seen.{Token}
use Rattle.pp_tree.specs.declared.expr.Expr.{Expr}
use Rattle.pp_tree.specs.declared.expr.Postfix.{Postfix}
use Rattle.pp_tree.specs.declared.expr.Postfix.TheVariants as postfix
use Rattle.pp_tree.specs.declared.statement.Statement.{Statement}
use Rattle.pp_tree.specs.declared.statement.Statement.TheVariants as statement
use Rattle.pp_tree.specs.declared.statement.Operand.{Operand}
use Rattle.pp_tree.specs.declared.statement.Arrow.{Arrow}
use Rattle.pp_tree.specs.declared.resource.ResourceForm.{ResourceForm}
use Rattle.pp_tree.specs.declared.resource.ResourceForm.TheVariants as resource_form
use Rattle.pp_tree.specs.declared.definition.Name.{Name}
use Rattle.pp_tree.specs.Building.{body as body_of, words as words_of}
use Rattle.pp_parser.specs.declared.argument.WordArgument.{WordArgument}
use Rattle.pp_parser.specs.declared.argument.WordArgument.TheVariants as argument
use Rattle.pp_grammar.proofs.Reader.Input.{Input, Parser, ◌>>=◌, ◌>>◌, pure, kind, eat}
use Rattle.pp_grammar.proofs.Reader.Inner.{Inner}
use Rattle.pp_grammar.specs.Kinds.{is_name, begins_expression, ends_body}
use Rattle.pp_grammar.proofs.Reader.Expressions.{loosest, is_at}
use Rattle.pp_grammar.proofs.Reader.Statements.{Read, arrow_at, taken_name, assigns_by, assigns, setting_rule, splat_rule, attribute_by, attribute, attributes, body, resource, marked, compares_by, compares, comparison_rule, query_in_parentheses, test_by, test_rule, another_by, another, conjunction_rule, query, optional_query, settings_by, optional_settings, collector, expression_from, behind_name_by, behind_name, behind_type_by, behind_type, operand_by, operand_rule, link_by, link_rule, chain_from, defaults_rule, override_rule, reference_by, reference_rule, typed_by, typed, argument_from_by, argument_from, argument_rule, argument_then, words_from, words, function_by, function, emitted_value, statement_by, statement_rule, ends_block, statements_from, statements}
use Rattle.pp_grammar.proofs.Local.Steps.{Cut, IsLocal, Falls, any, one, if_given, if_true, bind_by, bind_local, first_local, loose_local, given_local, map_by, none_local, pure_by, pure_local, refuse_local, peek_local, here_local, if_local, take_local, expect_local, expect_any_local, eat_local, eat_falls}
use Rattle.pp_grammar.proofs.Local.Lists.{same_then, same_if, turns_local, repeat_local, separated_local, separated_some_local}
use Rattle.pp_grammar.proofs.Local.Inner.{InnerLocal, opening_local, whole_in_local, query_in_local}
use Rattle.pp_grammar.proofs.Local.Expressions.{access_local, call_or_name_local, begun_chain_local, value_local, whole_local}

-- ---- the name that was taken already

abbrev pub pending_count : Option Name → ℕ
pending_count None = 0
pending_count (Some _) = 1

pub pending_most : (p : Option Name) → pending_count p ≤ 1
pending_most None = omega arith
pending_most (Some x) = omega arith

-- a statement is made of its tokens and of the name that was taken before it, less that which was taken for the next one
abbrev pub spent : Option Name → Option Name → ℕ
spent None next = suc (pending_count next)
spent (Some _) next = pending_count next

pub spent_is : (before next : Option Name) → spent before next + pending_count before ≡ suc (pending_count next)
spent_is None next = omega arith
spent_is (Some x) next = omega arith

abbrev pub waiting : {A : Type 0} → A × Option Name → ℕ
waiting r = pending_count r.1

abbrev pub stated : Option Name → Read → ℕ
stated pending r = spent pending r.1

-- ---- how many turns the lists of arguments and statements have makes no difference

pub same_argument : (inner : Inner) (found : List Expr) (x : WordArgument) (go other : List Expr → Parser (List Expr × Option Name)) (i : Input)
    → ((more : List Expr) (j : Input) → length j.left < length i.left → go more j ≡ other more j) → argument_then inner found go x i ≡ argument_then inner found other x i
same_argument inner found (argument.Pending name) go other i h = refl
same_argument inner found (argument.Argument x) go other i h =
    same_then if_true i (eat k.Comma i) (λ more. if more then go (found ++ x ∷ []) else pure (found ++ x ∷ [], None)) (λ more. if more then other (found ++ x ∷ []) else pure (found ++ x ∷ [], None)) (eat_falls k.Comma i)
    (λ more j l. same_if more (go (found ++ x ∷ [])) (other (found ++ x ∷ [])) (pure (found ++ x ∷ [], None)) (pure (found ++ x ∷ [], None)) j (λ e. let w : if_true more ≡ 1 = ap if_true e in h (found ++ x ∷ []) j (omega arith)) (λ e. refl))

pub words_turns : (inner : Inner) (falls : (i : Input) → Falls one i (argument_rule inner i)) (n m : ℕ) (found : List Expr) (i : Input) → length i.left < n → length i.left < m → words_from inner n found i ≡ words_from inner m found i
unfolding words_from
words_turns inner falls zero m found i h l = absurd (omega arith)
words_turns inner falls (suc n) zero found i h l = absurd (omega arith)
words_turns inner falls (suc n) (suc m) found i h l =
    same_if (begins_expression (kind i)) (argument_rule inner >>= argument_then inner found (words_from inner n)) (argument_rule inner >>= argument_then inner found (words_from inner m)) (pure (found, None)) (pure (found, None)) i
    (λ e. same_then one i (argument_rule inner i) (argument_then inner found (words_from inner n)) (argument_then inner found (words_from inner m)) (falls i)
    (λ x j a. same_argument inner found x (words_from inner n) (words_from inner m) j (λ more w t. words_turns inner falls n m more w (omega arith) (omega arith))))
    (λ e. refl)

pub statements_turns : (inner : Inner) (falls : (pending : Option Name) (i : Input) → Falls (stated pending) i (statement_rule inner pending i)) (n m : ℕ) (found : List Statement) (pending : Option Name) (i : Input)
    → length i.left + pending_count pending < n → length i.left + pending_count pending < m → statements_from inner n found pending i ≡ statements_from inner m found pending i
unfolding statements_from
statements_turns inner falls zero m found pending i h l = absurd (omega arith)
statements_turns inner falls (suc n) zero found pending i h l = absurd (omega arith)
statements_turns inner falls (suc n) (suc m) found pending i h l =
    let next = λ (turns : ℕ) (read : Read). eat k.Semicolon >> statements_from inner turns (found ++ read.0 ∷ []) read.1 in
    same_if (ends_block pending (kind i)) (pure found) (pure found) (statement_rule inner pending >>= next n) (statement_rule inner pending >>= next m) i
    (λ e. refl)
    (λ e. same_then (stated pending) i (statement_rule inner pending i) (next n) (next m) (falls pending i)
    (λ read j a. same_then if_true j (eat k.Semicolon j) (λ _. statements_from inner n (found ++ read.0 ∷ []) read.1) (λ _. statements_from inner m (found ++ read.0 ∷ []) read.1) (eat_falls k.Semicolon j)
    (λ eaten w t. let s = spent_is pending read.1 in statements_turns inner falls n m (found ++ read.0 ∷ []) read.1 w (omega arith) (omega arith))))

pub taken_name_local : {c : Cut} {d : Bool} → IsLocal c d one taken_name taken_name
taken_name_local = first_local take_local (λ _. pure_local _)

module _ {c : Cut} {a b : Inner} (I : InnerLocal c a b) where
  -- ---- attributes

  pub assigns_by_local : {d : Bool} (may_append : Bool) (next : Option Kind) → IsLocal c d any (assigns_by a may_append next) (assigns_by b may_append next)
  assigns_by_local may_append (Some k.Arrow) = bind_local take_local (λ _. pure_local _)
  assigns_by_local may_append (Some k.PlusArrow) = if_local may_append (bind_local take_local (λ _. pure_local _)) refuse_local
  assigns_by_local may_append _ = refuse_local

  pub assigns_local : {d : Bool} (may_append : Bool) → IsLocal c d any (assigns a may_append) (assigns b may_append)
  unfolding assigns
  assigns_local may_append = peek_local (assigns_by_local may_append)

  pub setting_rule_local : (may_append : Bool) → IsLocal c I.deepest any (setting_rule a may_append) (setting_rule b may_append)
  unfolding setting_rule
  setting_rule_local may_append = bind_local (expect_any_local _) (λ _. bind_local (assigns_local may_append) (λ _. bind_local (whole_in_local I false) (λ _. pure_local _)))

  pub splat_rule_local : IsLocal c I.deepest any (splat_rule a) (splat_rule b)
  unfolding splat_rule
  splat_rule_local = bind_local (expect_local _) (λ _. bind_local (expect_local _) (λ _. bind_local (whole_in_local I false) (λ _. pure_local _)))

  pub attribute_by_local : (may_append : Bool) (next : Option Kind) → IsLocal c I.deepest any (attribute_by a may_append next) (attribute_by b may_append next)
  attribute_by_local may_append (Some k.Star) = splat_rule_local
  attribute_by_local may_append _ = setting_rule_local may_append

  pub attribute_local : (may_append : Bool) → IsLocal c I.deepest any (attribute a may_append) (attribute b may_append)
  unfolding attribute
  attribute_local may_append = peek_local (attribute_by_local may_append)

  pub attributes_local : {d : Bool} (may_append : Bool) → IsLocal c d one (attributes a may_append) (attributes b may_append)
  unfolding attributes
  attributes_local may_append = opening_local I k.OpenBrace (λ _. bind_local (separated_local _ _ (attribute_local may_append)) (λ _. bind_local (expect_local _) (λ _. pure_local _)))

  -- ---- resources

  pub body_local : IsLocal c I.deepest any (body a) (body b)
  unfolding body
  body_local = here_local (λ at. bind_local (whole_in_local I false) (λ title. bind_local (expect_local k.Colon) (λ _. bind_local (separated_local ends_body k.Comma (attribute_local false)) (λ found. pure_local (body_of title found at)))))

  pub resource_local : {d : Bool} (sort : ResourceForm) (kind : List ℕ) (at : ℕ) → IsLocal c d one (resource a sort kind at) (resource b sort kind at)
  unfolding resource
  resource_local sort kind at = opening_local I k.OpenBrace (λ _. bind_local (separated_some_local _ _ body_local) (λ _. bind_local (expect_local _) (λ _. pure_local _)))

  pub marked_local : {d : Bool} (sort : ResourceForm) → IsLocal c d one (marked a sort) (marked b sort)
  unfolding marked
  marked_local sort = first_local take_local (λ mark. bind_local (expect_any_local _) (λ t. loose_local (resource_local sort t.text mark.line)))

  -- ---- collectors

  pub compares_by_local : {d : Bool} (next : Option Kind) → IsLocal c d any (compares_by a next) (compares_by b next)
  compares_by_local (Some k.Equal) = bind_local take_local (λ _. pure_local _)
  compares_by_local (Some k.NotEqual) = bind_local take_local (λ _. pure_local _)
  compares_by_local _ = refuse_local

  pub compares_local : {d : Bool} → IsLocal c d any (compares a) (compares b)
  unfolding compares
  compares_local = peek_local compares_by_local

  pub comparison_rule_local : {d : Bool} → IsLocal c d one (comparison_rule a) (comparison_rule b)
  unfolding comparison_rule
  comparison_rule_local = first_local (expect_any_local _) (λ _. bind_local compares_local (λ _. bind_local (value_local I false) (λ _. pure_local _)))

  pub query_in_parentheses_local : {d : Bool} → IsLocal c d one (query_in_parentheses a) (query_in_parentheses b)
  unfolding query_in_parentheses
  query_in_parentheses_local = opening_local I k.OpenParen (λ _. bind_local (query_in_local I) (λ _. bind_local (expect_local _) (λ _. pure_local _)))

  pub test_by_local : {d : Bool} (next : Option Kind) → IsLocal c d one (test_by a next) (test_by b next)
  test_by_local (Some k.OpenParen) = query_in_parentheses_local
  test_by_local _ = comparison_rule_local

  pub test_local : {d : Bool} → IsLocal c d one (test_rule a) (test_rule b)
  unfolding test_rule
  test_local = peek_local test_by_local

  pub another_by_local : {A : Type 0} {d : Bool} {p q : Parser A} → IsLocal c d one p q → (found : Bool) → IsLocal c d if_given (another_by a p found) (another_by b q found)
  unfolding another_by
  another_by_local P found = if_local found (given_local (first_local P (λ _. pure_local _))) none_local

  pub another_local : {A : Type 0} {d : Bool} {p q : Parser A} (word : Kind) → IsLocal c d one p q → IsLocal c d if_given (another a word p) (another b word q)
  unfolding another
  another_local word P = bind_local (eat_local word) (another_by_local P)

  pub conjunction_rule_local : {d : Bool} → IsLocal c d one (conjunction_rule a) (conjunction_rule b)
  unfolding conjunction_rule
  conjunction_rule_local = first_local test_local (λ _. bind_local (repeat_local (another_local k.And test_local)) (λ _. pure_local _))

  pub query_local : {d : Bool} → IsLocal c d one (query a) (query b)
  unfolding query
  query_local = first_local conjunction_rule_local (λ _. bind_local (repeat_local (another_local k.Or conjunction_rule_local)) (λ _. pure_local _))

  pub optional_query_local : (close : Kind) → IsLocal c I.deepest any (optional_query a close) (optional_query b close)
  unfolding optional_query
  optional_query_local close = peek_local (λ next. if_local (is_at close next) (pure_local None) (bind_local (query_in_local I) (λ x. pure_local (Some x))))

  pub settings_by_local : {d : Bool} (next : Option Kind) → IsLocal c d any (settings_by a next) (settings_by b next)
  settings_by_local (Some k.OpenBrace) = loose_local (attributes_local true)
  settings_by_local _ = pure_local _

  pub optional_settings_local : {d : Bool} → IsLocal c d any (optional_settings a) (optional_settings b)
  unfolding optional_settings
  optional_settings_local = peek_local settings_by_local

  pub collector_local : {d : Bool} (exported : Bool) (opens close : Kind) (kind : List ℕ) (at : ℕ) → IsLocal c d one (collector a exported opens close kind at) (collector b exported opens close kind at)
  unfolding collector
  collector_local exported opens close kind at = opening_local I opens (λ _. bind_local (optional_query_local close) (λ _. bind_local (expect_local _) (λ _. bind_local optional_settings_local (λ _. pure_local _))))

  -- ---- operands of a chain

  pub expression_from_local : {d : Bool} (base : Expr) (postfixes : List Postfix) → IsLocal c d any (expression_from a base postfixes) (expression_from b base postfixes)
  unfolding expression_from
  expression_from_local base postfixes = bind_local (begun_chain_local I false loosest _) (λ _. pure_local _)

  pub behind_name_by_local : {d : Bool} (name : Name) (next : Option Kind) → IsLocal c d any (behind_name_by a name next) (behind_name_by b name next)
  behind_name_by_local name (Some k.OpenBrace) = loose_local (resource_local resource_form.Plain name.text name.at)
  behind_name_by_local name _ = bind_local (call_or_name_local I false name.text) (λ _. expression_from_local _ [])

  pub behind_name_local : {d : Bool} (name : Name) → IsLocal c d any (behind_name a name) (behind_name b name)
  unfolding behind_name
  behind_name_local name = peek_local (behind_name_by_local name)

  pub behind_type_by_local : {d : Bool} (type : Name) (next : Option Kind) → IsLocal c d any (behind_type_by a type next) (behind_type_by b type next)
  behind_type_by_local type (Some k.OpenCollector) = loose_local (collector_local false k.OpenCollector k.CloseCollector type.text type.at)
  behind_type_by_local type (Some k.OpenExported) = loose_local (collector_local true k.OpenExported k.CloseExported type.text type.at)
  behind_type_by_local type _ = expression_from_local _ []

  pub behind_type_local : {d : Bool} (type : Name) → IsLocal c d any (behind_type a type) (behind_type b type)
  unfolding behind_type
  behind_type_local type = peek_local (behind_type_by_local type)

  pub operand_by_local : {d : Bool} (next : Option Kind) → IsLocal c d one (operand_by a next) (operand_by b next)
  operand_by_local (Some k.At) = marked_local resource_form.Virtual
  operand_by_local (Some k.AtAt) = marked_local resource_form.Exported
  operand_by_local (Some k.Class) = first_local take_local (λ t. loose_local (resource_local resource_form.Plain t.text t.line))
  operand_by_local (Some k.Name) = first_local taken_name_local behind_name_local
  operand_by_local (Some k.StatementFunction) = first_local taken_name_local behind_name_local
  operand_by_local (Some k.Type) = first_local taken_name_local behind_type_local
  operand_by_local _ = first_local (whole_local I false false) (λ _. pure_local _)

  pub operand_rule_local : {d : Bool} → IsLocal c d one (operand_rule a) (operand_rule b)
  unfolding operand_rule
  operand_rule_local = peek_local operand_by_local

  -- ---- statements

  pub link_by_local : {d : Bool} (mark : Option Arrow) → IsLocal c d if_given (link_by a mark) (link_by b mark)
  link_by_local (Some mark) = given_local (first_local take_local (λ _. bind_local operand_rule_local (λ _. pure_local _)))
  link_by_local None = none_local

  pub link_rule_local : {d : Bool} → IsLocal c d if_given (link_rule a) (link_rule b)
  unfolding link_rule
  link_rule_local = peek_local (λ next. link_by_local (arrow_at next))

  pub chain_from_local : {d : Bool} (at : ℕ) (first : Operand) → IsLocal c d waiting (chain_from a at first) (chain_from b at first)
  unfolding chain_from
  chain_from_local at first = bind_local (repeat_local link_rule_local) (λ _. pure_by _ refl)

  pub defaults_rule_local : {d : Bool} (type : Name) → IsLocal c d waiting (defaults_rule a type) (defaults_rule b type)
  unfolding defaults_rule
  defaults_rule_local type = bind_local (attributes_local false) (λ _. pure_by _ refl)

  pub override_rule_local : {d : Bool} (type : Name) (args : List Expr) → IsLocal c d waiting (override_rule a type args) (override_rule b type args)
  unfolding override_rule
  override_rule_local type args = bind_local (attributes_local true) (λ _. pure_by _ refl)

  pub reference_by_local : {d : Bool} (type : Name) (args : List Expr) (next : Option Kind) → IsLocal c d waiting (reference_by a type args next) (reference_by b type args next)
  reference_by_local type args (Some k.OpenBrace) = override_rule_local type args
  reference_by_local type args _ = bind_local (expression_from_local _ (postfix.Access args ∷ [])) (chain_from_local type.at)

  pub reference_rule_local : {d : Bool} (type : Name) (args : List Expr) → IsLocal c d waiting (reference_rule a type args) (reference_rule b type args)
  unfolding reference_rule
  reference_rule_local type args = peek_local (reference_by_local type args)

  pub typed_by_local : {d : Bool} (type : Name) (next : Option Kind) → IsLocal c d waiting (typed_by a type next) (typed_by b type next)
  typed_by_local type (Some k.OpenBrace) = defaults_rule_local type
  typed_by_local type (Some k.TightBracket) = bind_local (access_local I) (reference_rule_local type)
  typed_by_local type _ = bind_local (behind_type_local type) (chain_from_local type.at)

  pub typed_local : {d : Bool} (type : Name) → IsLocal c d waiting (typed a type) (typed b type)
  unfolding typed
  typed_local type = peek_local (typed_by_local type)

  -- ---- statement functions

  pub argument_from_by_local : {d : Bool} (name : Name) (next : Option Kind) → IsLocal c d any (argument_from_by a name next) (argument_from_by b name next)
  argument_from_by_local name (Some k.OpenBrace) = pure_local _
  argument_from_by_local name _ = bind_local (call_or_name_local I false name.text) (λ _. bind_local (begun_chain_local I false loosest _) (λ _. pure_local _))

  pub argument_from_local : {d : Bool} (name : Name) → IsLocal c d any (argument_from a name) (argument_from b name)
  unfolding argument_from
  argument_from_local name = peek_local (argument_from_by_local name)

  pub argument_rule_local : {d : Bool} → IsLocal c d one (argument_rule a) (argument_rule b)
  unfolding argument_rule
  argument_rule_local = peek_local (λ next. if_local (is_name next) (first_local taken_name_local argument_from_local) (first_local (whole_local I false false) (λ x. pure_local (argument.Argument x))))

  pub argument_then_local : {d : Bool} (found : List Expr) {go other : List Expr → Parser (List Expr × Option Name)} → ((more : List Expr) → IsLocal c d waiting (go more) (other more))
      → (x : WordArgument) → IsLocal c d any (argument_then a found go x) (argument_then b found other x)
  argument_then_local found h (argument.Pending name) = pure_local _
  argument_then_local found h (argument.Argument x) = bind_local (eat_local _) (λ more. if_local more (loose_local (h (found ++ x ∷ []))) (pure_local (found ++ x ∷ [], None)))

  pub words_from_local : {d : Bool} (n : ℕ) (found : List Expr) → IsLocal c d waiting (words_from a n found) (words_from b n found)
  unfolding words_from
  words_from_local zero found = refuse_local
  words_from_local (suc n) found = peek_local (λ next. if_local (begins_expression next) (bind_by 1 waiting (λ x. omega arith) (λ x. pending_most x.1) argument_rule_local (argument_then_local found (words_from_local n))) (pure_by (found, None) refl))

  pub words_local : {d : Bool} (name : Name) → IsLocal c d waiting (words a name) (words b name)
  unfolding words
  words_local name = map_by waiting (λ (found : List Expr × Option Name). (statement.Words (words_of name.text found.0 name.at), found.1)) (λ x. omega arith)
      (turns_local (λ n. words_from_local n []) (λ n m i. words_turns a (argument_rule_local {d = I.deepest}).falls n m [] i) (λ n m i. words_turns b (argument_rule_local {d = I.deepest}).falls_too n m [] i))

  pub function_by_local : {d : Bool} (name : Name) (next : Option Kind) → IsLocal c d waiting (function_by a name next) (function_by b name next)
  function_by_local name (Some k.OpenParen) = bind_local (behind_name_local name) (chain_from_local name.at)
  function_by_local name (Some k.OpenBrace) = bind_local (behind_name_local name) (chain_from_local name.at)
  function_by_local name _ = words_local name

  pub function_local : {d : Bool} (name : Name) → IsLocal c d waiting (function a name) (function b name)
  unfolding function
  function_local name = peek_local (function_by_local name)

  emitted_value_local : {d : Bool} → IsLocal c d (stated None) (emitted_value a) (emitted_value b)
  unfolding emitted_value
  emitted_value_local = bind_by {behind = waiting} 1 (stated None) (λ x. omega arith) (λ x. omega arith) take_local
      (λ _. bind_local (whole_local I false false) (λ x. bind_local (expect_local _) (λ _. pure_by (statement.EmitValue x, None) refl)))

  pub statement_by_local : {d : Bool} (next : Option Kind) → IsLocal c d (stated None) (statement_by a next) (statement_by b next)
  statement_by_local (Some k.RenderString) = map_by (stated None) (λ (t : Token). (statement.Emit t.text, None)) (λ x. omega arith) take_local
  statement_by_local (Some k.RenderExpr) = emitted_value_local
  statement_by_local (Some k.StatementFunction) = bind_by 1 (stated None) (λ x. omega arith) (λ x. omega arith) taken_name_local function_local
  statement_by_local (Some k.Type) = bind_by 1 (stated None) (λ x. omega arith) (λ x. omega arith) taken_name_local typed_local
  statement_by_local _ = here_local (λ at. bind_by 1 (stated None) (λ x. omega arith) (λ x. omega arith) operand_rule_local (chain_from_local at))

  pub statement_rule_local : {d : Bool} (pending : Option Name) → IsLocal c d (stated pending) (statement_rule a pending) (statement_rule b pending)
  unfolding statement_rule
  statement_rule_local (Some name) = bind_local (behind_name_local name) (chain_from_local name.at)
  statement_rule_local None = peek_local statement_by_local

  -- ---- blocks

  pub statements_from_local : {d : Bool} (n : ℕ) (found : List Statement) (pending : Option Name) → IsLocal c d any (statements_from a n found pending) (statements_from b n found pending)
  unfolding statements_from
  statements_from_local zero found pending = refuse_local
  statements_from_local (suc n) found pending = peek_local (λ next. if_local (ends_block pending next) (pure_local found) (bind_local (statement_rule_local pending) (λ read. bind_local (eat_local k.Semicolon) (λ _. statements_from_local n (found ++ read.0 ∷ []) read.1))))

  pub statements_local : {d : Bool} → IsLocal c d any (statements a) (statements b)
  unfolding statements
  statements_local = turns_local (λ n. statements_from_local n [] None)
      (λ n m i h l. statements_turns a (λ pending. (statement_rule_local {d = I.deepest} pending).falls) n m [] None i (omega arith) (omega arith))
      (λ n m i h l. statements_turns b (λ pending. (statement_rule_local {d = I.deepest} pending).falls_too) n m [] None i (omega arith) (omega arith))
