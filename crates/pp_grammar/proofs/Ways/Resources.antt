-- Behind what was read of a resource, a collector or an operand of a chain there is a way.
use Rattle.std.proofs.Common.{◌≡◌, ℕ, Bool, true, false, not, if◌then◌else◌, List, [], Option, Some, None, refl, ap}
use Rattle.pp_lexer.specs.declared.kind.Kind.{Kind}
use Rattle.pp_lexer.specs.declared.kind.Kind.TheVariants as k
use Rattle.pp_tree.specs.declared.expr.Expr.{Expr}
use Rattle.pp_tree.specs.declared.expr.Postfix.{Postfix}
use Rattle.pp_tree.specs.declared.statement.Operand.{Operand}
use Rattle.pp_tree.specs.declared.resource.Attribute.{Attribute}
use Rattle.pp_tree.specs.declared.resource.ResourceForm.{ResourceForm}
use Rattle.pp_tree.specs.declared.resource.ResourceForm.TheVariants as resource_form
use Rattle.pp_tree.specs.declared.definition.Name.{Name}
use Rattle.pp_tree.specs.declared.collector.Test.{Test}
use Rattle.pp_tree.specs.declared.expr.Form.TheVariants as form
use Rattle.pp_tree.specs.Building.{expr_at, body as body_of}
use Rattle.pp_grammar.proofs.Reader.Input.{Parser, ◌>>=◌, pure, kind, refuse}
use Rattle.pp_grammar.proofs.Reader.Inner.{Inner, query_in}
use Rattle.pp_grammar.specs.Kinds.{is_kind, same_kind, is_word, ends_body}
use Rattle.pp_grammar.proofs.Reader.Levels.{within}
use Rattle.pp_grammar.proofs.Reader.Expressions.{call_or_name, loosest}
use Rattle.pp_grammar.proofs.Reader.Statements.{arrow_at, name_of, taken_name, names_resource, assigns_by, assigns, setting_rule, splat_rule, attribute_by, attribute, attributes, body, resource, marked, compares_by, compares, comparison_rule, query_in_parentheses, test_by, test_rule, another_by, another, conjunction_rule, query, optional_query, settings_by, optional_settings, collector, expression_from, behind_name_by, behind_name, behind_type_by, behind_type, operand_by, operand_rule, link_by, link_rule}
use Rattle.pp_grammar.proofs.Local.Statements.{attribute_local, body_local, test_local, another_local, conjunction_rule_local}
use Rattle.pp_grammar.proofs.Ways.Steps.{Holds, Rule, first, first_any, after, pure_goes, refuse_holds, take_goes}
use Rattle.pp_grammar.proofs.Ways.NextToken.{Branch, peek_some, peek_none, here_some, leaves, taking, test_holds, test_branch, expect_goes, expect_any_goes, opening_goes, eat_if}
use Rattle.pp_grammar.proofs.Ways.Lists.{always, repeat_goes, separated_goes, separated_some_goes}
use Rattle.pp_grammar.proofs.Ways.Inner.{ends_expression, ends_query, InnerGoes, here_too, of_kind, until}
use Rattle.pp_grammar.proofs.Ways.Expressions.{call_or_name_goes, begun_chain_goes, value_goes, whole_goes}

-- what surely ends a statement
abbrev pub ends_statement : Option Kind → Bool
ends_statement None = true
ends_statement (Some k.CloseBrace) = true
ends_statement (Some k.Semicolon) = true
ends_statement _ = false

pub statement_ends : (next : Option Kind) → ends_statement next ≡ true → ends_expression next ≡ true
statement_ends None e = refl
statement_ends (Some k.CloseBrace) e = refl
statement_ends (Some k.Semicolon) e = refl
statement_ends _ e = absurd cc

pub query_ends : (next : Option Kind) → ends_query next ≡ true → ends_expression next ≡ true
query_ends (Some k.CloseParen) e = refl
query_ends (Some k.CloseCollector) e = refl
query_ends (Some k.CloseExported) e = refl
query_ends _ e = absurd cc

pub no_word : (word : Kind) → not (is_kind word (Some k.CloseParen)) ≡ true → not (is_kind word (Some k.CloseCollector)) ≡ true → not (is_kind word (Some k.CloseExported)) ≡ true → (next : Option Kind) → ends_query next ≡ true → not (is_kind word next) ≡ true
no_word word a b c (Some k.CloseParen) e = a
no_word word a b c (Some k.CloseCollector) e = b
no_word word a b c (Some k.CloseExported) e = c
no_word word a b c _ e = absurd cc

body_ends : (next : Option Kind) → ends_body next ≡ true → ends_expression next ≡ true
body_ends (Some k.Semicolon) e = refl
body_ends (Some k.CloseBrace) e = refl
body_ends _ e = absurd cc

no_comma : (next : Option Kind) → ends_body next ≡ true → not (is_kind k.Comma next) ≡ true
unfolding is_kind same_kind
no_comma (Some k.Semicolon) e = refl
no_comma (Some k.CloseBrace) e = refl
no_comma _ e = absurd cc

no_settings : (inner : Inner) (next : Option Kind) → ends_statement next ≡ true → settings_by inner next ≡ pure []
no_settings inner (Some k.OpenBrace) e = absurd cc
no_settings inner _ e = refl

-- a name that no `{` follows
abbrev pub name_expression : Inner → Name → Parser Operand
name_expression inner name = call_or_name inner false name.text >>= (λ found. expression_from inner (expr_at name.at found) [])

no_resource : (inner : Inner) (name : Name) (next : Option Kind) → ends_statement next ≡ true → behind_name_by inner name next ≡ name_expression inner name
no_resource inner name (Some k.OpenBrace) e = absurd cc
no_resource inner name _ e = refl

abbrev type_expression : Inner → Name → Parser Operand
type_expression inner type = expression_from inner (expr_at type.at (form.Type type.text)) []

no_collector : (inner : Inner) (type : Name) (next : Option Kind) → ends_statement next ≡ true → behind_type_by inner type next ≡ type_expression inner type
no_collector inner type (Some k.OpenCollector) e = absurd cc
no_collector inner type (Some k.OpenExported) e = absurd cc
no_collector inner type _ e = refl

no_arrow : (next : Option Kind) → ends_statement next ≡ true → arrow_at next ≡ None
no_arrow (Some k.InEdge) e = absurd cc
no_arrow (Some k.InEdgeSub) e = absurd cc
no_arrow (Some k.OutEdge) e = absurd cc
no_arrow (Some k.OutEdgeSub) e = absurd cc
no_arrow _ e = refl

-- the next token as a name
pub taken_name_goes : {n : ℕ} {k : Kind} {E : Name → Option Kind → Bool} → Rule n (Some k) E taken_name (λ m. taken_name)
taken_name_goes = first_any take_goes (λ t. pure_goes (name_of t))

module _ {n : ℕ} (I : InnerGoes n) where
  -- ---- attributes

  assigns_by_holds : {E : Bool → Option Kind → Bool} (may_append : Bool) (next : Option Kind) → Holds n 1 E (assigns_by (within n) may_append next) (λ m. assigns_by (within m) may_append next)
  assigns_by_holds may_append (Some k.Arrow) = (first_any (take_goes {k = k.Arrow}) (λ _. pure_goes _)).holds
  assigns_by_holds may_append (Some k.PlusArrow) = test_holds may_append (first_any (take_goes {k = k.PlusArrow}) (λ _. pure_goes _)).holds (refuse_holds {q = λ m. refuse})
  assigns_by_holds may_append _ = refuse_holds

  assigns_goes : {E : Bool → Option Kind → Bool} (may_append : Bool) → Rule n (Some k.Arrow) E (assigns (within n) may_append) (λ m. assigns (within m) may_append)
  unfolding assigns
  assigns_goes may_append = peek_some (assigns_by_holds may_append) (first_any (take_goes {n = n} {k = k.Arrow}) (λ _. pure_goes _)).fresh

  setting_rule_goes : (may_append : Bool) → Rule n (Some k.Name) (always ends_expression) (setting_rule (within n) may_append) (λ m. setting_rule (within m) may_append)
  unfolding setting_rule is_kind same_kind
  setting_rule_goes may_append = first_any (expect_any_goes is_word k.Name refl) (λ _. first_any (assigns_goes may_append) (λ _. first (I.whole false) (λ _. pure_goes _) (λ _ _ _ e. e)))

  splat_rule_goes : Rule n (Some k.Star) (always ends_expression) (splat_rule (within n)) (λ m. splat_rule (within m))
  unfolding splat_rule is_kind same_kind
  splat_rule_goes = first_any (expect_goes k.Star refl) (λ _. first_any (expect_goes k.Arrow refl) (λ _. first (I.whole false) (λ _. pure_goes _) (λ _ _ _ e. e)))

  attribute_by_holds : (may_append : Bool) (next : Option Kind) → Holds n 1 (always ends_expression) (attribute_by (within n) may_append next) (λ m. attribute_by (within m) may_append next)
  attribute_by_holds may_append (Some k.Star) = splat_rule_goes.holds
  attribute_by_holds may_append _ = (setting_rule_goes may_append).holds

  attribute_goes : (may_append : Bool) → Rule n (Some k.Name) (always ends_expression) (attribute (within n) may_append) (λ m. attribute (within m) may_append)
  unfolding attribute
  attribute_goes may_append = peek_some (attribute_by_holds may_append) (setting_rule_goes may_append).fresh

  pub attributes_goes : {E : List (Attribute Expr) → Option Kind → Bool} (may_append : Bool) → Rule n (Some k.OpenBrace) E (attributes (within n) may_append) (λ m. attributes (within m) may_append)
  unfolding attributes is_kind same_kind
  attributes_goes may_append = first_any (opening_goes k.OpenBrace refl) (λ _. after (until k.CloseBrace k.Comma _ (λ m. (attribute_local (here_too m) may_append).falls) refl refl (attribute_goes may_append)) (λ _. first_any (expect_goes k.CloseBrace refl) (λ _. pure_goes _)) (λ _. refl))

  -- ---- resources

  body_goes : Rule n (Some k.Name) (always ends_body) (body (within n)) (λ m. body (within m))
  unfolding body is_kind same_kind
  body_goes = here_some (λ at. first (I.whole false) (λ title. first_any (expect_goes k.Colon refl)
      (λ _. after (separated_goes ends_body k.Comma _ (λ m. (attribute_local (here_too m) false).falls) (λ _ e. e) body_ends no_comma (attribute_goes false)) (λ found. pure_goes (body_of title found at)) (λ _ _ _ e. e))) (λ _. refl))

  pub resource_goes : {E : Operand → Option Kind → Bool} (sort : ResourceForm) (kind : List ℕ) (at : ℕ) → Rule n (Some k.OpenBrace) E (resource (within n) sort kind at) (λ m. resource (within m) sort kind at)
  unfolding resource is_kind same_kind
  resource_goes sort kind at = first_any (opening_goes k.OpenBrace refl)
      (λ _. first (separated_some_goes (is_kind k.CloseBrace) k.Semicolon _ (λ m. (body_local (here_too m)).falls) (λ _ e. e) (of_kind k.CloseBrace ends_body refl) (of_kind k.CloseBrace _ refl) body_goes) (λ _. first_any (expect_goes k.CloseBrace refl) (λ _. pure_goes _)) (λ _. refl))

  marked_goes : {E : Operand → Option Kind → Bool} {x : Kind} (sort : ResourceForm) → Rule n (Some x) E (marked (within n) sort) (λ m. marked (within m) sort)
  unfolding marked
  marked_goes {x = x} sort = first_any (take_goes {k = x}) (λ mark. first_any (expect_any_goes names_resource k.Name refl) (λ t. resource_goes sort t.text mark.line))

  -- ---- collectors

  compares_by_holds : {E : Bool → Option Kind → Bool} (next : Option Kind) → Holds n 1 E (compares_by (within n) next) (λ m. compares_by (within m) next)
  compares_by_holds (Some k.Equal) = (first_any (take_goes {k = k.Equal}) (λ _. pure_goes _)).holds
  compares_by_holds (Some k.NotEqual) = (first_any (take_goes {k = k.NotEqual}) (λ _. pure_goes _)).holds
  compares_by_holds _ = refuse_holds

  compares_goes : {E : Bool → Option Kind → Bool} → Rule n (Some k.Equal) E (compares (within n)) (λ m. compares (within m))
  unfolding compares
  compares_goes = peek_some compares_by_holds (first_any (take_goes {n = n} {k = k.Equal}) (λ _. pure_goes _)).fresh

  comparison_rule_goes : Rule n (Some k.Name) (always ends_query) (comparison_rule (within n)) (λ m. comparison_rule (within m))
  unfolding comparison_rule
  comparison_rule_goes = first_any (expect_any_goes is_word k.Name refl) (λ _. first_any compares_goes (λ _. first (value_goes I false) (λ _. pure_goes _) (λ _ _ next e. query_ends next e)))

  query_in_parentheses_goes : {E : Test → Option Kind → Bool} → Rule n (Some k.OpenParen) E (query_in_parentheses (within n)) (λ m. query_in_parentheses (within m))
  unfolding query_in_parentheses is_kind same_kind
  query_in_parentheses_goes = first_any (opening_goes k.OpenParen refl) (λ _. first I.query (λ _. first_any (expect_goes k.CloseParen refl) (λ _. pure_goes _)) (λ _. refl))

  test_by_holds : (next : Option Kind) → Holds n 1 (always ends_query) (test_by (within n) next) (λ m. test_by (within m) next)
  test_by_holds (Some k.OpenParen) = query_in_parentheses_goes.holds
  test_by_holds _ = comparison_rule_goes.holds

  test_rule_goes : Rule n (Some k.Name) (always ends_query) (test_rule (within n)) (λ m. test_rule (within m))
  unfolding test_rule
  test_rule_goes = peek_some test_by_holds comparison_rule_goes.fresh

  another_goes : {A : Type 0} {x : Kind} {p : Parser A} {q : ℕ → Parser A} (word : Kind) → ((next : Option Kind) → ends_query next ≡ true → not (is_kind word next) ≡ true) → Rule n (Some x) (always ends_query) p q
      → Rule n None (always ends_query) (another (within n) word p) (λ m. another (within m) word (q m))
  unfolding another another_by
  another_goes word apart P = eat_if word (λ _ next e. apart next e) (first P (λ _. pure_goes _) (λ _ _ _ e. e)) (pure_goes None)

  conjunction_rule_goes : Rule n (Some k.Name) (always ends_query) (conjunction_rule (within n)) (λ m. conjunction_rule (within m))
  unfolding conjunction_rule is_kind same_kind
  conjunction_rule_goes = first test_rule_goes (λ _. after (repeat_goes _ (λ m. (another_local (here_too m) {d = true} k.And (test_local (here_too m))).falls) (another_goes k.And (no_word k.And refl refl refl) test_rule_goes)) (λ _. pure_goes _) (λ _ _ _ e. e)) (λ _ _ _ e. e)

  pub query_goes : Rule n (Some k.Name) (always ends_query) (query (within n)) (λ m. query (within m))
  unfolding query is_kind same_kind
  query_goes = first conjunction_rule_goes (λ _. after (repeat_goes _ (λ m. (another_local (here_too m) {d = true} k.Or (conjunction_rule_local (here_too m))).falls) (another_goes k.Or (no_word k.Or refl refl refl) conjunction_rule_goes)) (λ _. pure_goes _) (λ _ _ _ e. e)) (λ _ _ _ e. e)

  optional_query_goes : (close : Kind) → ends_query (Some close) ≡ true → Rule n None (always (is_kind close)) (optional_query (within n) close) (λ m. optional_query (within m) close)
  unfolding optional_query
  optional_query_goes close h = peek_none (pure_goes None) (λ next. test_branch (is_kind close next) (leaves refl refl) (taking (first I.query (λ x. pure_goes (Some x)) (λ _ _ next e. of_kind close ends_query h next e))))
      (λ _ next e m. ap (λ (b : Bool). if b then pure None else (query_in (within m) >>= (λ x. pure (Some x)))) e)

  settings_by_goes : (next : Option Kind) → Branch n (always ends_statement) (pure []) (λ m. pure []) (settings_by (within n) next) (λ m. settings_by (within m) next)
  settings_by_goes (Some k.OpenBrace) = taking (attributes_goes true)
  settings_by_goes _ = leaves refl refl

  optional_settings_goes : Rule n None (always ends_statement) (optional_settings (within n)) (λ m. optional_settings (within m))
  unfolding optional_settings
  optional_settings_goes = peek_none (pure_goes []) settings_by_goes (λ _ next e m. no_settings (within m) next e)

  collector_goes : (exported : Bool) (opens close : Kind) (kind : List ℕ) (at : ℕ) → is_kind opens (Some opens) ≡ true → is_kind close (Some close) ≡ true → ends_query (Some close) ≡ true
      → Rule n (Some opens) (always ends_statement) (collector (within n) exported opens close kind at) (λ m. collector (within m) exported opens close kind at)
  unfolding collector
  collector_goes exported opens close kind at h c e = first_any (opening_goes opens h) (λ _. after (optional_query_goes close e) (λ _. first_any (expect_goes close c) (λ _. after optional_settings_goes (λ _. pure_goes _) (λ _ _ _ e. e))) (λ _. c))

  -- ---- operands of a chain

  pub expression_from_goes : (base : Expr) (postfixes : List Postfix) → Rule n None (always ends_statement) (expression_from (within n) base postfixes) (λ m. expression_from (within m) base postfixes)
  unfolding expression_from
  expression_from_goes base postfixes = after (begun_chain_goes I false loosest _) (λ _. pure_goes _) (λ _ _ next e. statement_ends next e)

  name_expression_goes : (name : Name) → Rule n None (always ends_statement) (name_expression (within n) name) (λ m. name_expression (within m) name)
  name_expression_goes name = after (call_or_name_goes I false name.text) (λ _. expression_from_goes _ []) (λ _ _ next e. statement_ends next e)

  behind_name_by_goes : (name : Name) (next : Option Kind) → Branch n (always ends_statement) (name_expression (within n) name) (λ m. name_expression (within m) name) (behind_name_by (within n) name next) (λ m. behind_name_by (within m) name next)
  behind_name_by_goes name (Some k.OpenBrace) = taking (resource_goes resource_form.Plain name.text name.at)
  behind_name_by_goes name _ = leaves refl refl

  pub behind_name_goes : (name : Name) → Rule n None (always ends_statement) (behind_name (within n) name) (λ m. behind_name (within m) name)
  unfolding behind_name
  behind_name_goes name = peek_none (name_expression_goes name) (behind_name_by_goes name) (λ _ next e m. no_resource (within m) name next e)

  behind_type_by_goes : (type : Name) (next : Option Kind) → Branch n (always ends_statement) (type_expression (within n) type) (λ m. type_expression (within m) type) (behind_type_by (within n) type next) (λ m. behind_type_by (within m) type next)
  unfolding is_kind same_kind
  behind_type_by_goes type (Some k.OpenCollector) = taking (collector_goes false k.OpenCollector k.CloseCollector type.text type.at refl refl refl)
  behind_type_by_goes type (Some k.OpenExported) = taking (collector_goes true k.OpenExported k.CloseExported type.text type.at refl refl refl)
  behind_type_by_goes type _ = leaves refl refl

  pub behind_type_goes : (type : Name) → Rule n None (always ends_statement) (behind_type (within n) type) (λ m. behind_type (within m) type)
  unfolding behind_type
  behind_type_goes type = peek_none (expression_from_goes _ []) (behind_type_by_goes type) (λ _ next e m. no_collector (within m) type next e)

  operand_by_holds : (next : Option Kind) → Holds n 1 (always ends_statement) (operand_by (within n) next) (λ m. operand_by (within m) next)
  operand_by_holds (Some k.At) = (marked_goes {x = k.At} resource_form.Virtual).holds
  operand_by_holds (Some k.AtAt) = (marked_goes {x = k.AtAt} resource_form.Exported).holds
  operand_by_holds (Some k.Class) = (first_any (take_goes {k = k.Class}) (λ t. resource_goes resource_form.Plain t.text t.line)).holds
  operand_by_holds (Some k.Name) = (first_any (taken_name_goes {k = k.Name}) behind_name_goes).holds
  operand_by_holds (Some k.StatementFunction) = (first_any (taken_name_goes {k = k.Name}) behind_name_goes).holds
  operand_by_holds (Some k.Type) = (first_any (taken_name_goes {k = k.Type}) behind_type_goes).holds
  operand_by_holds _ = (first (whole_goes I false false) (λ _. pure_goes _) (λ _ _ next e. statement_ends next e)).holds

  pub operand_rule_goes : Rule n (Some k.Name) (always ends_statement) (operand_rule (within n)) (λ m. operand_rule (within m))
  unfolding operand_rule
  operand_rule_goes = peek_some operand_by_holds (first_any (taken_name_goes {n = n} {k = k.Name}) behind_name_goes).fresh

  link_by_goes : (mark : Option _) → Branch n (always ends_statement) (pure None) (λ m. pure None) (link_by (within n) mark) (λ m. link_by (within m) mark)
  link_by_goes (Some mark) = taking (first_any (take_goes {k = k.InEdge}) (λ _. first operand_rule_goes (λ _. pure_goes _) (λ _ _ _ e. e)))
  link_by_goes None = leaves refl refl

  pub link_rule_goes : Rule n None (always ends_statement) (link_rule (within n)) (λ m. link_rule (within m))
  unfolding link_rule
  link_rule_goes = peek_none (pure_goes None) (λ next. link_by_goes (arrow_at next)) (λ _ next e m. ap (link_by (within m)) (no_arrow next e))
