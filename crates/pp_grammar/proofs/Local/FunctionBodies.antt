-- Bodies of functions look at the next token alone.
use Rattle.std.proofs.Common.{Bool, false, Option, Some}
use Rattle.pp_lexer.specs.declared.kind.Kind.{Kind}
use Rattle.pp_lexer.specs.declared.kind.Kind.TheVariants as k
use Rattle.pp_tree.specs.declared.definition.Name.{Name}
use Rattle.pp_grammar.proofs.Reader.Inner.{Inner}
use Rattle.pp_grammar.specs.Kinds.{is_name}
use Rattle.pp_grammar.proofs.Reader.Expressions.{loosest}
use Rattle.pp_grammar.proofs.Reader.FunctionBodies.{stated, unbraced_by, unbraced_from, unbraced, function_words, worded_by, worded, value_statement, function_statement_by, function_statement, next_statement_by, next_statement, function_statements, function_block}
use Rattle.pp_grammar.proofs.Local.Steps.{Cut, IsLocal, any, one, if_given, bind_local, first_local, loose_local, given_local, none_local, pure_local, refuse_local, peek_local, here_local, if_local, expect_local, eat_local}
use Rattle.pp_grammar.proofs.Local.Lists.{repeat_local, separated_local}
use Rattle.pp_grammar.proofs.Local.Inner.{InnerLocal, opening_local, function_statements_in_local}
use Rattle.pp_grammar.proofs.Local.Expressions.{call_or_name_local, begun_chain_local, whole_local}
use Rattle.pp_grammar.proofs.Local.Statements.{taken_name_local}

module _ {c : Cut} {a b : Inner} (I : InnerLocal c a b) where
  unbraced_by_local : {d : Bool} (name : Name) (next : Option Kind) → IsLocal c d any (unbraced_by a name next) (unbraced_by b name next)
  unbraced_by_local name (Some k.OpenBrace) = refuse_local
  unbraced_by_local name _ = bind_local (call_or_name_local I false name.text) (λ _. begun_chain_local I false loosest _)

  pub unbraced_from_local : {d : Bool} (name : Name) → IsLocal c d any (unbraced_from a name) (unbraced_from b name)
  unfolding unbraced_from
  unbraced_from_local name = peek_local (unbraced_by_local name)

  pub unbraced_local : {d : Bool} → IsLocal c d one (unbraced a) (unbraced b)
  unfolding unbraced
  unbraced_local = peek_local (λ next. if_local (is_name next) (first_local taken_name_local unbraced_from_local) (whole_local I false false))

  -- ---- statements

  pub function_words_local : {d : Bool} (name : Name) → IsLocal c d any (function_words a name) (function_words b name)
  unfolding function_words
  function_words_local name = bind_local (separated_local _ _ (loose_local unbraced_local)) (λ _. pure_local _)

  worded_by_local : {d : Bool} (name : Name) (next : Option Kind) → IsLocal c d any (worded_by a name next) (worded_by b name next)
  worded_by_local name (Some k.OpenParen) = bind_local (unbraced_from_local name) (λ _. pure_local _)
  worded_by_local name (Some k.OpenBrace) = bind_local (unbraced_from_local name) (λ _. pure_local _)
  worded_by_local name _ = function_words_local name

  worded_local : {d : Bool} (name : Name) → IsLocal c d any (worded a name) (worded b name)
  unfolding worded
  worded_local name = peek_local (worded_by_local name)

  value_statement_local : {d : Bool} → IsLocal c d one (value_statement a) (value_statement b)
  unfolding value_statement
  value_statement_local = here_local (λ at. first_local unbraced_local (λ x. pure_local (stated at x)))

  function_statement_by_local : {d : Bool} (next : Option Kind) → IsLocal c d one (function_statement_by a next) (function_statement_by b next)
  function_statement_by_local (Some k.StatementFunction) = first_local taken_name_local worded_local
  function_statement_by_local _ = value_statement_local

  pub function_statement_local : {d : Bool} → IsLocal c d one (function_statement a) (function_statement b)
  unfolding function_statement
  function_statement_local = peek_local function_statement_by_local

  -- ---- blocks

  next_statement_by_local : {d : Bool} (next : Option Kind) → IsLocal c d if_given (next_statement_by a next) (next_statement_by b next)
  next_statement_by_local (Some k.CloseBrace) = none_local
  next_statement_by_local _ = given_local (first_local function_statement_local (λ _. bind_local (eat_local k.Semicolon) (λ _. pure_local _)))

  pub next_statement_local : {d : Bool} → IsLocal c d if_given (next_statement a) (next_statement b)
  unfolding next_statement
  next_statement_local = peek_local next_statement_by_local

  pub function_statements_local : {d : Bool} → IsLocal c d any (function_statements a) (function_statements b)
  unfolding function_statements
  function_statements_local = repeat_local next_statement_local

  pub function_block_local : {d : Bool} → IsLocal c d one (function_block a) (function_block b)
  unfolding function_block
  function_block_local = opening_local I k.OpenBrace (λ _. bind_local (function_statements_in_local I) (λ _. bind_local (expect_local _) (λ _. pure_local _)))
