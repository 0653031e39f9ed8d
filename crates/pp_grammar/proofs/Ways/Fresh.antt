-- From nothing there is a way of what may stand one level further in: a name, a comparison of two names, a name and a variable.
use Rattle.std.proofs.Common.{◌≡◌, ℕ, zero, suc, Bool, true, false, not, List, [], ◌∷◌, Option, Some, None, refl, sym, ap, subst}
use Rattle.pp_lexer.specs.declared.kind.Kind.{Kind}
use Rattle.pp_lexer.specs.declared.kind.Kind.TheVariants as k
use Rattle.pp_grammar.proofs.Reader.Input.{Parser, ◌>>=◌, ◌>>◌, pure, peek, take, expect, separated_some}
use Rattle.pp_grammar.specs.Kinds.{is_kind, same_kind, is_word}
use Rattle.pp_grammar.proofs.Reader.Levels.{within}
use Rattle.pp_grammar.proofs.Reader.Params.{param_from}
use Rattle.pp_parser.specs.declared.started.Started.{Started}
use Rattle.pp_tree.specs.declared.expr.Expr.{Expr}
use Rattle.pp_tree.specs.declared.expr.Form.TheVariants as form
use Rattle.pp_tree.specs.Building.{expr_at, case_option as option_of_case}
use Rattle.pp_grammar.proofs.Reader.Expressions.{block, call_or_name_by, call_or_name, named, primary_by, primary, postfix_by, postfix_rule, postfixes, value, operand_by, operand, operation_by, operation_rule, operator_at, chain, loosest, started, whole_by, whole, variable_or_call_by, interpolated, default_by, default_rule, typed_param, param_by, param_rule, case_option}
use Rattle.pp_grammar.proofs.Reader.Statements.{compares_by, compares, comparison_rule, test_by, test_rule, another_by, another, conjunction_rule, query, statement_rule, statements}
use Rattle.pp_grammar.proofs.Reader.Inner.{statements_in}
use Rattle.pp_grammar.proofs.Local.Steps.{loose_local}
use Rattle.pp_grammar.proofs.Local.Expressions.{postfix_rule_local, operation_rule_local, chain_local, whole_local}
use Rattle.pp_grammar.proofs.Local.Statements.{test_local, another_local, conjunction_rule_local}
use Rattle.pp_grammar.proofs.Ways.Steps.{Fresh, everything, fresh_first, fresh_after, fresh_each, take_goes}
use Rattle.pp_grammar.proofs.Ways.NextToken.{pure_fresh, test_fresh, eat_goes, eat_none_fresh, expect_goes, expect_any_goes, opening_goes, peek_fresh, peek_none_fresh, here_fresh, same_fresh}
use Rattle.pp_grammar.proofs.Ways.Lists.{always, repeat_fresh, listed_fresh, eaten}
use Rattle.pp_grammar.proofs.Ways.Inner.{ends_expression, ends_param, ends_query, closes_block, finish, here_too, of_kind}
use Rattle.pp_grammar.proofs.Ways.Expressions.{no_call, no_postfix, no_operator, no_default, no_type, Answer, gives, refuses, answer, asks, param_meets, begun_behind, finished, finished_is}
use Rattle.pp_grammar.proofs.Ways.Resources.{query_ends, no_word}
use Rattle.pp_grammar.proofs.Ways.Turns.{none_fresh}
use Rattle.pp_grammar.proofs.Local.FunctionBodies.{next_statement_local}
use Rattle.pp_grammar.proofs.Reader.FunctionBodies.{next_statement_by, next_statement, function_statements}
use Rattle.pp_grammar.proofs.Ways.FunctionBodies.{no_statement}
use Rattle.pp_grammar.proofs.Ways.Blocks.{taken_up, taken_up_none, add_read, read_next, statement_falls, taken_up_falls, block_statement, block_apart, statements_is}

-- ---- a name as an expression

call_or_name_fresh : (bars : Bool) (name : List ℕ) → Fresh None (always ends_expression) (λ m. call_or_name (within m) bars name)
unfolding call_or_name
call_or_name_fresh bars name = peek_none_fresh (λ next m. call_or_name_by (within m) bars name next) (pure_fresh _) (λ next e m. no_call (within m) bars name next e)

named_fresh : (bars : Bool) → Fresh (Some k.Name) (always ends_expression) (λ m. named (within m) bars)
unfolding named
named_fresh bars = fresh_first {E = everything} (take_goes {n = 0} {k = k.Name}).fresh (λ t. call_or_name_fresh bars t.text) (λ _ _ _ _. refl)

primary_fresh : (bars : Bool) → Fresh (Some k.Name) (always ends_expression) (λ m. primary (within m) bars)
unfolding primary
primary_fresh bars = here_fresh k.Name (λ at m. peek >>= (λ next. primary_by (within m) bars next >>= (λ found. pure (expr_at at found))))
    (peek_fresh k.Name (λ next m. primary_by (within m) bars next >>= (λ found. pure (expr_at 1 found))) (fresh_first (named_fresh bars) (λ found. pure_fresh (expr_at 1 found)) (λ _ _ _ e. e)))

postfix_rule_fresh : (bars : Bool) → Fresh None (always ends_expression) (λ m. postfix_rule (within m) bars)
unfolding postfix_rule
postfix_rule_fresh bars = peek_none_fresh (λ next m. postfix_by (within m) bars next) (pure_fresh None) (λ next e m. no_postfix (within m) bars next e)

postfixes_fresh : (bars : Bool) (s : Started) → Fresh None (always ends_expression) (λ m. postfixes (within m) bars s)
unfolding postfixes
postfixes_fresh bars s = fresh_after (repeat_fresh _ (λ m. (postfix_rule_local (here_too m) {d = true} bars).falls) (postfix_rule_fresh bars)) (λ _. pure_fresh _) (λ _ _ _ e. e)

value_fresh : (bars : Bool) → Fresh (Some k.Name) (always ends_expression) (λ m. value (within m) bars)
unfolding value
value_fresh bars = fresh_first (primary_fresh bars) (λ base. postfixes_fresh bars (started base)) (λ _ _ _ e. e)

pub operand_fresh : (bars : Bool) → Fresh (Some k.Name) (always ends_expression) (λ m. operand (within m) bars)
unfolding operand
operand_fresh bars = peek_fresh k.Name (λ next m. operand_by (within m) bars next) (value_fresh bars)

operation_rule_fresh : (q : ℕ → Parser Expr) (strength : ℕ) → Fresh None (always ends_expression) (λ m. operation_rule (within m) (q m) strength)
unfolding operation_rule
operation_rule_fresh q strength = peek_none_fresh (λ next m. operation_by (within m) (q m) (operator_at strength next)) (pure_fresh None) (λ next e m. ap (operation_by (within m) (q m)) (no_operator strength next e))

chain_fresh : (bars : Bool) (strength : ℕ) → Fresh (Some k.Name) (always ends_expression) (λ m. chain (within m) bars strength None)
unfolding chain
chain_fresh bars zero = operand_fresh bars
chain_fresh bars (suc tighter) = fresh_first (chain_fresh bars tighter)
    (λ _. fresh_after (repeat_fresh _ (λ m. (operation_rule_local (here_too m) {d = true} (loose_local (chain_local (here_too m) bars tighter)) (suc tighter)).falls) (operation_rule_fresh (λ m. chain (within m) bars tighter None) (suc tighter))) (λ _. pure_fresh _) (λ _ _ _ e. e)) (λ _ _ _ e. e)

begun_chain_fresh : (bars : Bool) (strength : ℕ) (s : Started) → Fresh None (always ends_expression) (λ m. chain (within m) bars strength (Some s))
unfolding chain
begun_chain_fresh bars zero s = postfixes_fresh bars s
begun_chain_fresh bars (suc tighter) s = fresh_after (begun_chain_fresh bars tighter s)
    (λ _. fresh_after (repeat_fresh _ (λ m. (operation_rule_local (here_too m) {d = true} (loose_local (chain_local (here_too m) bars tighter)) (suc tighter)).falls) (operation_rule_fresh (λ m. chain (within m) bars tighter None) (suc tighter))) (λ _. pure_fresh _) (λ _ _ _ e. e)) (λ _ _ _ e. e)

pub whole_fresh : (bars behind : Bool) → Fresh (Some k.Name) (always ends_expression) (λ m. whole (within m) bars behind)
unfolding whole
whole_fresh bars behind = peek_fresh k.Name (λ next m. whole_by (within m) bars behind next) (chain_fresh bars loosest)

-- ---- a variable and the end of an interpolation

finish_fresh : (x : Expr) → Fresh (Some k.InterpolationEnd) everything (λ m. finish x)
unfolding is_kind same_kind
finish_fresh x = fresh_first {E = everything} (expect_goes {n = 0} k.InterpolationEnd refl).fresh (λ _. pure_fresh x) (λ _ _ _ _. refl)

begun_fresh : Fresh (Some k.Name) everything (λ m. take >>= (λ t. peek >>= (λ next. (variable_or_call_by (within m) t.text next >>= begun_behind (within m) t) >>= finish)))
begun_fresh = fresh_first {E = everything} (take_goes {n = 0} {k = k.Name}).fresh
    (λ t. peek_fresh k.InterpolationEnd (λ next m. (variable_or_call_by (within m) t.text next >>= begun_behind (within m) t) >>= finish) (fresh_after {E = always ends_expression} (fresh_after {E = always ends_expression} (pure_fresh (form.Variable t.text)) (λ found. begun_chain_fresh false loosest (started (expr_at t.line found))) (λ _ _ _ e. e)) finish_fresh (λ _. refl))) (λ _. refl)

pub interpolated_fresh : Fresh (Some k.Name) everything (λ m. interpolated (within m) >>= finish)
interpolated_fresh = same_fresh (λ m i. finished_is (within m) i) (peek_fresh k.Name (λ next m. finished (within m) next) begun_fresh)

-- ---- a name and a variable as a parameter

default_rule_fresh : (bars : Bool) → Fresh None (always ends_expression) (λ m. default_rule (within m) bars)
unfolding default_rule
default_rule_fresh bars = peek_none_fresh (λ next m. default_by (within m) bars next) (pure_fresh None) (λ next e m. no_default (within m) bars next e)

param_expression : (next : Option Kind) → ends_param next ≡ true → ends_expression next ≡ true
param_expression (Some k.Comma) e = refl
param_expression (Some k.CloseParen) e = refl
param_expression (Some k.ParamsEnd) e = refl
param_expression _ e = absurd cc

typed_param_fresh : (bars : Bool) (type : Expr) → Fresh (Some k.Variable) (always ends_param) (λ m. typed_param (within m) bars type)
unfolding typed_param is_kind same_kind
typed_param_fresh bars type = fresh_first {E = everything} (expect_goes {n = 0} k.Variable refl).fresh (λ _. fresh_after (default_rule_fresh bars) (λ _. pure_fresh _) (λ _ _ next e. param_expression next e)) (λ _ _ _ _. refl)

param_by_fresh : (bars : Bool) (at : ℕ) (x : Expr) (a : Answer (param_from at x)) → Fresh (asks a) (always ends_param) (λ m. peek >>= param_by (within m) bars at x)
param_by_fresh bars at x (gives y e) = peek_none_fresh (λ next m. param_by (within m) bars at x next) (subst (λ (p : Parser _). Fresh None (always ends_param) (λ m. p)) (sym e) (pure_fresh y)) (λ next h m. no_type bars at x (within m) next h)
param_by_fresh bars at x (refuses e) = peek_fresh k.Variable (λ next m. param_by (within m) bars at x next) (typed_param_fresh bars x)

pub param_rule_fresh : (bars : Bool) → Fresh (Some k.Name) (always ends_param) (λ m. param_rule (within m) bars)
unfolding param_rule
param_rule_fresh bars = here_fresh k.Name (λ at m. whole (within m) false bars >>= (λ x. peek >>= param_by (within m) bars at x))
    (fresh_each {t = λ x. asks (answer 1 x)} (whole_fresh false bars) (λ x. param_by_fresh bars 1 x (answer 1 x)) (λ x. param_meets (answer 1 x) x))

-- ---- no statements, and an option of a case

pub statements_fresh : Fresh None (always closes_block) (λ m. statements (within m))
statements_fresh = same_fresh (λ m i. statements_is (within m) refl i)
    (none_fresh closes_block add_read read_next (λ m. statement_rule (within m) None) (λ m. taken_up (within m)) statement_falls taken_up_falls (λ m name i r e. (taken_up_none (within m) name i).holds r.0 r.1 e) block_statement block_apart [])

next_statement_fresh : Fresh None (always closes_block) (λ m. next_statement (within m))
unfolding next_statement
next_statement_fresh = peek_none_fresh (λ next m. next_statement_by (within m) next) (pure_fresh None) (λ next e m. no_statement (within m) next e)

pub function_statements_fresh : Fresh None (always closes_block) (λ m. function_statements (within m))
unfolding function_statements
function_statements_fresh = repeat_fresh _ (λ m. (next_statement_local (here_too m) {d = true}).falls) next_statement_fresh

-- with what stands one level further in given
module _ (S : Fresh None (always closes_block) (λ m. statements_in (within m))) where
  block_fresh : Fresh (Some k.OpenBrace) everything (λ m. block (within m))
  unfolding block is_kind same_kind
  block_fresh = fresh_first {E = everything} (opening_goes {n = 0} k.OpenBrace refl).fresh (λ _. fresh_after S (λ _. fresh_first {E = everything} (expect_goes {n = 0} k.CloseBrace refl).fresh (λ _. pure_fresh _) (λ _ _ _ _. refl)) (λ _. refl)) (λ _. refl)

  values_fresh : Fresh (Some k.Name) (always (is_kind k.Colon)) (λ m. separated_some (is_kind k.Colon) k.Comma (whole (within m) false false))
  unfolding separated_some
  values_fresh = fresh_first (whole_fresh false false)
      (λ x. fresh_after (eat_goes {n = 0} k.Comma).fresh (λ more. test_fresh more (listed_fresh (is_kind k.Colon) k.Comma (λ m. whole (within m) false false) (λ m. (loose_local (whole_local (here_too m) {d = true} false false)).falls) (λ _ e. e) (of_kind k.Colon ends_expression refl) (of_kind k.Colon (λ next. not (is_kind k.Comma next)) comma) (x ∷ [])) (pure_fresh (x ∷ []))) (eaten k.Comma (of_kind k.Colon (λ next. not (is_kind k.Comma next)) comma)))
      (λ _ _ next e. of_kind k.Colon ends_expression refl next e)
    where
      comma : not (is_kind k.Comma (Some k.Colon)) ≡ true
      comma = unfold is_kind same_kind in refl

  pub case_option_fresh : Fresh (Some k.Name) everything (λ m. case_option (within m))
  unfolding case_option is_kind same_kind
  case_option_fresh = here_fresh k.Name (λ at m. separated_some (is_kind k.Colon) k.Comma (whole (within m) false false) >>= (λ values. expect k.Colon >> (block (within m) >>= (λ body. pure (option_of_case values body at)))))
      (fresh_first values_fresh (λ values. fresh_first {E = everything} (expect_goes {n = 0} k.Colon refl).fresh (λ _. fresh_first block_fresh (λ body. pure_fresh (option_of_case values body 1)) (λ _ _ _ _. refl)) (λ _. refl)) (λ _. refl))

-- ---- a comparison as a query

compares_fresh : Fresh (Some k.Equal) everything (λ m. compares (within m))
unfolding compares
compares_fresh = peek_fresh k.Equal (λ next m. compares_by (within m) next) (fresh_first {E = everything} (take_goes {n = 0} {k = k.Equal}).fresh (λ _. pure_fresh _) (λ _ _ _ _. refl))

comparison_rule_fresh : Fresh (Some k.Name) (always ends_query) (λ m. comparison_rule (within m))
unfolding comparison_rule
comparison_rule_fresh = fresh_first {E = everything} (expect_any_goes {n = 0} is_word k.Name refl).fresh (λ _. fresh_first compares_fresh (λ _. fresh_first (value_fresh false) (λ _. pure_fresh _) (λ _ _ next e. query_ends next e)) (λ _. refl)) (λ _. refl)

test_rule_fresh : Fresh (Some k.Name) (always ends_query) (λ m. test_rule (within m))
unfolding test_rule
test_rule_fresh = peek_fresh k.Name (λ next m. test_by (within m) next) comparison_rule_fresh

another_fresh : {A : Type 0} (word : Kind) (q : ℕ → Parser A) → ((next : Option Kind) → ends_query next ≡ true → not (is_kind word next) ≡ true) → Fresh None (always ends_query) (λ m. another (within m) word (q m))
unfolding another another_by
another_fresh word q apart = eat_none_fresh word (λ m. q m >>= (λ x. pure (Some x))) (λ _ next e. apart next e) (pure_fresh None)

conjunction_rule_fresh : Fresh (Some k.Name) (always ends_query) (λ m. conjunction_rule (within m))
unfolding conjunction_rule is_kind same_kind
conjunction_rule_fresh = fresh_first test_rule_fresh (λ _. fresh_after (repeat_fresh _ (λ m. (another_local (here_too m) {d = true} k.And (test_local (here_too m))).falls) (another_fresh k.And _ (no_word k.And refl refl refl))) (λ _. pure_fresh _) (λ _ _ _ e. e)) (λ _ _ _ e. e)

pub query_fresh : Fresh (Some k.Name) (always ends_query) (λ m. query (within m))
unfolding query is_kind same_kind
query_fresh = fresh_first conjunction_rule_fresh (λ _. fresh_after (repeat_fresh _ (λ m. (another_local (here_too m) {d = true} k.Or (conjunction_rule_local (here_too m))).falls) (another_fresh k.Or _ (no_word k.Or refl refl refl))) (λ _. pure_fresh _) (λ _ _ _ e. e)) (λ _ _ _ e. e)
