-- Behind what was read of the body of a function there is a way.
use Rattle.std.proofs.Common.{◌≡◌, ℕ, Bool, true, false, not, if◌then◌else◌, List, Option, Some, None, refl, sym, ap, ◌∙◌}
use Rattle.pp_lexer.specs.declared.kind.Kind.{Kind}
use Rattle.pp_lexer.specs.declared.kind.Kind.TheVariants as k
use Rattle.pp_tree.specs.declared.expr.Expr.{Expr}
use Rattle.pp_tree.specs.declared.statement.Statement.{Statement}
use Rattle.pp_tree.specs.declared.definition.Name.{Name}
use Rattle.pp_tree.specs.Building.{expr_at}
use Rattle.pp_grammar.proofs.Reader.Input.{Input, Parser, and_then, ◌>>=◌, pure, refuse, kind, peek}
use Rattle.pp_grammar.proofs.Reader.Inner.{Inner}
use Rattle.pp_grammar.specs.Kinds.{is_kind, same_kind, is_name}
use Rattle.pp_grammar.proofs.Reader.Levels.{within}
use Rattle.pp_grammar.proofs.Reader.Expressions.{call_or_name_by, call_or_name, chain, loosest, started, whole}
use Rattle.pp_grammar.proofs.Reader.Statements.{taken_name}
use Rattle.pp_grammar.proofs.Reader.FunctionBodies.{begins_none, stated, unbraced_value, unbraced_by, unbraced_from, unbraced, function_words, worded_by, worded, value_statement, function_statement_by, function_statement, ended_statement, next_statement_by, next_statement, function_statements, function_block}
use Rattle.pp_grammar.proofs.Local.Steps.{loose_local}
use Rattle.pp_grammar.proofs.Local.FunctionBodies.{unbraced_local, next_statement_local}
use Rattle.pp_grammar.proofs.Ways.Steps.{Holds, Rule, first, first_any, after, pure_goes, refuse_holds}
use Rattle.pp_grammar.proofs.Ways.NextToken.{Branch, Case, moves, stays, leaves, taking, less, peek_some, peek_none, peek_cases, here_some, test_holds, same_rule, eat_goes, expect_goes, opening_goes}
use Rattle.pp_grammar.proofs.Ways.Lists.{always, eaten, repeat_goes, separated_goes}
use Rattle.pp_grammar.proofs.Ways.Inner.{ends_expression, closes_block, InnerGoes, here_too}
use Rattle.pp_grammar.proofs.Ways.Expressions.{arguments_goes, optional_lambda_goes, call_or_name_goes, begun_chain_goes, whole_goes}
use Rattle.pp_grammar.proofs.Ways.Resources.{ends_statement, statement_ends, taken_name_goes}
use Rattle.pp_grammar.proofs.Ways.Blocks.{block_statement, block_apart}

-- what surely ends an expression that no `{` may follow
abbrev ends_unbraced : Option Kind → Bool
ends_unbraced None = true
ends_unbraced (Some k.CloseBrace) = true
ends_unbraced (Some k.Semicolon) = true
ends_unbraced (Some k.Comma) = true
ends_unbraced _ = false

unbraced_ends : (next : Option Kind) → ends_unbraced next ≡ true → ends_expression next ≡ true
unbraced_ends None e = refl
unbraced_ends (Some k.CloseBrace) e = refl
unbraced_ends (Some k.Semicolon) e = refl
unbraced_ends (Some k.Comma) e = refl
unbraced_ends _ e = absurd cc

statement_unbraced : (next : Option Kind) → ends_statement next ≡ true → ends_unbraced next ≡ true
statement_unbraced None e = refl
statement_unbraced (Some k.CloseBrace) e = refl
statement_unbraced (Some k.Semicolon) e = refl
statement_unbraced _ e = absurd cc

no_word : (next : Option Kind) → ends_statement next ≡ true → begins_none next ≡ true
no_word None e = refl
no_word (Some k.CloseBrace) e = refl
no_word (Some k.Semicolon) e = refl
no_word _ e = absurd cc

no_comma : (next : Option Kind) → ends_statement next ≡ true → not (is_kind k.Comma next) ≡ true
unfolding is_kind same_kind
no_comma None e = refl
no_comma (Some k.CloseBrace) e = refl
no_comma (Some k.Semicolon) e = refl
no_comma _ e = absurd cc

no_brace : (inner : Inner) (name : Name) (next : Option Kind) → ends_unbraced next ≡ true → unbraced_by inner name next ≡ unbraced_value inner name
no_brace inner name (Some k.OpenBrace) e = absurd cc
no_brace inner name _ e = refl

pub no_statement : (inner : Inner) (next : Option Kind) → closes_block next ≡ true → next_statement_by inner next ≡ pure None
no_statement inner (Some k.CloseBrace) e = refl
no_statement inner _ e = absurd cc

-- ---- a call, by its bracket

abbrev called : Inner → Name → Parser Expr
called inner name = call_or_name_by inner false name.text (Some k.OpenParen) >>= (λ found. chain inner false loosest (Some (started (expr_at name.at found))))

abbrev worded_cases : Inner → Name → Option Kind → Parser Statement
worded_cases inner name (Some k.OpenParen) = called inner name >>= (λ x. pure (stated name.at x))
worded_cases inner name (Some k.OpenBrace) = refuse
worded_cases inner name _ = function_words inner name

worded_by_is : (inner : Inner) (name : Name) (i : Input) (next : Option Kind) → kind i ≡ next → worded_cases inner name next i ≡ worded_by inner name next i
unfolding unbraced_from call_or_name
worded_by_is inner name i (Some k.OpenParen) e =
    sym (ap (λ (next : Option Kind). and_then (unbraced_by inner name next i) (λ x. pure (stated name.at x))) e
    ∙ ap (λ (next : Option Kind). and_then (and_then (call_or_name_by inner false name.text next i) (λ found. chain inner false loosest (Some (started (expr_at name.at found))))) (λ x. pure (stated name.at x))) e)
worded_by_is inner name i (Some k.OpenBrace) e = sym (ap (λ (next : Option Kind). and_then (unbraced_by inner name next i) (λ x. pure (stated name.at x))) e)
worded_by_is inner name i _ e = refl

worded_is : (inner : Inner) (name : Name) (i : Input) → (peek >>= worded_cases inner name) i ≡ worded inner name i
unfolding worded
worded_is inner name i = worded_by_is inner name i (kind i) refl

no_call : (inner : Inner) (name : Name) (next : Option Kind) → ends_statement next ≡ true → worded_cases inner name next ≡ function_words inner name
no_call inner name (Some k.OpenParen) e = absurd cc
no_call inner name (Some k.OpenBrace) e = absurd cc
no_call inner name _ e = refl

module _ {n : ℕ} (I : InnerGoes n) where
  -- ---- expressions

  unbraced_value_goes : (name : Name) → Rule n None (always ends_unbraced) (unbraced_value (within n) name) (λ m. unbraced_value (within m) name)
  unbraced_value_goes name = less (λ _ next e. unbraced_ends next e) (after (call_or_name_goes I false name.text) (λ f. begun_chain_goes I false loosest _) (λ _ _ _ e. e))

  unbraced_by_goes : (name : Name) (next : Option Kind) → Case n (always ends_unbraced) (λ next m. unbraced_by (within m) name next) (unbraced_by (within n) name next) (λ m. unbraced_by (within m) name next)
  unbraced_by_goes name (Some k.OpenBrace) = moves refuse_holds
  unbraced_by_goes name _ = stays (unbraced_value_goes name).holds (λ i r e z next h m. no_brace (within m) name next h)

  unbraced_from_goes : (name : Name) → Rule n None (always ends_unbraced) (unbraced_from (within n) name) (λ m. unbraced_from (within m) name)
  unfolding unbraced_from
  unbraced_from_goes name = peek_cases (unbraced_by_goes name) (unbraced_value_goes name).fresh (λ next e m. no_brace (within m) name next e)

  named_goes : Rule n (Some k.Name) (always ends_unbraced) (taken_name >>= unbraced_from (within n)) (λ m. taken_name >>= unbraced_from (within m))
  named_goes = first_any (taken_name_goes {k = k.Name}) unbraced_from_goes

  unbraced_choice_holds : (next : Option Kind) → Holds n 1 (always ends_unbraced) (if is_name next then (taken_name >>= unbraced_from (within n)) else whole (within n) false false) (λ m. if is_name next then (taken_name >>= unbraced_from (within m)) else whole (within m) false false)
  unbraced_choice_holds next = test_holds (is_name next) named_goes.holds (less (λ _ next e. unbraced_ends next e) (whole_goes I false false)).holds

  unbraced_goes : Rule n (Some k.Name) (always ends_unbraced) (unbraced (within n)) (λ m. unbraced (within m))
  unfolding unbraced
  unbraced_goes = peek_some unbraced_choice_holds named_goes.fresh

  -- ---- statements

  function_words_goes : (name : Name) → Rule n None (always ends_statement) (function_words (within n) name) (λ m. function_words (within m) name)
  unfolding function_words
  function_words_goes name =
      after (separated_goes begins_none k.Comma (λ m. unbraced (within m)) (λ m. (loose_local (unbraced_local (here_too m) {d = true})).falls) no_word statement_unbraced no_comma unbraced_goes) (λ _. pure_goes _) (λ _ _ _ e. e)

  called_goes : (name : Name) → Rule n (Some k.OpenParen) (always ends_expression) (called (within n) name) (λ m. called (within m) name)
  called_goes name = first (first_any (arguments_goes I) (λ _. after (optional_lambda_goes I false) (λ _. pure_goes _) (λ _ _ _ e. e))) (λ _. begun_chain_goes I false loosest _) (λ _ _ _ e. e)

  worded_cases_goes : (name : Name) (next : Option Kind) → Case n (always ends_statement) (λ next m. worded_cases (within m) name next) (worded_cases (within n) name next) (λ m. worded_cases (within m) name next)
  worded_cases_goes name (Some k.OpenParen) = moves (first (called_goes name) (λ x. pure_goes (stated name.at x)) (λ _ _ next e. statement_ends next e)).holds
  worded_cases_goes name (Some k.OpenBrace) = moves refuse_holds
  worded_cases_goes name _ = stays (function_words_goes name).holds (λ i r e z next h m. no_call (within m) name next h)

  worded_goes : (name : Name) → Rule n None (always ends_statement) (worded (within n) name) (λ m. worded (within m) name)
  worded_goes name = same_rule (worded_is (within n) name) (λ m i. worded_is (within m) name i)
      (peek_cases {f = worded_cases (within n) name} {g = λ next m. worded_cases (within m) name next} (worded_cases_goes name) (function_words_goes name).fresh (λ next e m. no_call (within m) name next e))

  value_statement_goes : Rule n (Some k.Name) (always ends_statement) (value_statement (within n)) (λ m. value_statement (within m))
  unfolding value_statement
  value_statement_goes = here_some (λ at. first unbraced_goes (λ x. pure_goes (stated at x)) (λ _ _ next e. statement_unbraced next e))

  function_statement_by_holds : (next : Option Kind) → Holds n 1 (always ends_statement) (function_statement_by (within n) next) (λ m. function_statement_by (within m) next)
  function_statement_by_holds (Some k.StatementFunction) = (first_any (taken_name_goes {k = k.Name}) worded_goes).holds
  function_statement_by_holds _ = value_statement_goes.holds

  function_statement_goes : Rule n (Some k.Name) (always ends_statement) (function_statement (within n)) (λ m. function_statement (within m))
  unfolding function_statement
  function_statement_goes = peek_some function_statement_by_holds value_statement_goes.fresh

  -- ---- blocks

  ended_goes : Rule n (Some k.Name) (always closes_block) (ended_statement (within n)) (λ m. ended_statement (within m))
  ended_goes = first function_statement_goes (λ s. after (eat_goes k.Semicolon) (λ _. pure_goes (Some s)) (eaten k.Semicolon block_apart)) (λ _ _ next e. block_statement next e)

  next_statement_by_goes : (next : Option Kind) → Branch n (always closes_block) (pure None) (λ m. pure None) (next_statement_by (within n) next) (λ m. next_statement_by (within m) next)
  next_statement_by_goes (Some k.CloseBrace) = leaves refl refl
  next_statement_by_goes _ = taking ended_goes

  next_statement_goes : Rule n None (always closes_block) (next_statement (within n)) (λ m. next_statement (within m))
  unfolding next_statement
  next_statement_goes = peek_none (pure_goes None) next_statement_by_goes (λ _ next e m. no_statement (within m) next e)

  pub function_statements_goes : Rule n None (always closes_block) (function_statements (within n)) (λ m. function_statements (within m))
  unfolding function_statements
  function_statements_goes = repeat_goes _ (λ m. (next_statement_local (here_too m) {d = true}).falls) next_statement_goes

  pub function_block_goes : {E : List Statement → Option Kind → Bool} → Rule n (Some k.OpenBrace) E (function_block (within n)) (λ m. function_block (within m))
  unfolding function_block is_kind same_kind
  function_block_goes = first_any (opening_goes k.OpenBrace refl) (λ _. after I.function_statements (λ _. first_any (expect_goes k.CloseBrace refl) (λ _. pure_goes _)) (λ _. refl))
