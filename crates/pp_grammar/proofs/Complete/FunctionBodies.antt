-- Bodies of functions: what stands there, the rule reads.
use Rattle.std.proofs.Common.{◌≡◌, ◌<◌, ◌≤◌, Bool, true, false, not, List, length, Option, Some, None, Ok, refl, sym, ◌∙◌, arith}
use Rattle.pp_lexer.specs.declared.kind.Kind.{Kind}
use Rattle.pp_lexer.specs.declared.kind.Kind.TheVariants as k
use Rattle.pp_lexer.specs.Seen.{Token}
use Rattle.pp_tree.specs.declared.definition.Name.{Name}
use Rattle.pp_tree.specs.declared.expr.Expr.{Expr}
use Rattle.pp_tree.specs.declared.statement.Statement.{Statement}
use Rattle.pp_tree.specs.declared.statement.Statement.TheVariants as statement
use Rattle.pp_tree.specs.Building.{words as words_of}
use Rattle.pp_parser.specs.declared.inset.Inset.TheVariants as goal
use Rattle.pp_parser.specs.declared.inset.InsetTree.TheVariants as part
use Rattle.pp_grammar.proofs.Reader.Input.{Input, kind, line_at}
use Rattle.pp_grammar.proofs.Reader.Inner.{Inner}
use Rattle.pp_grammar.specs.Kinds.{is_kind, same_kind, is_name}
use Rattle.pp_grammar.proofs.Reader.Statements.{name_of}
use Rattle.pp_grammar.proofs.Reader.FunctionBodies.{stated, unbraced_value, unbraced_by, unbraced_from, unbraced, function_words, named_statement, worded_by, worded, value_statement, function_statement_by, function_statement, ended_statement, next_statement_by, next_statement, function_statements, function_block}
use Rattle.pp_grammar.specs.Places.{Within, Stands, Begins}
use Rattle.pp_grammar.specs.Expressions.{IsWhole}
use Rattle.pp_grammar.specs.Statements.{calls_or_declares}
use Rattle.pp_grammar.specs.FunctionBodies.{begins_none, IsUnbraced, AreFunctionWords, IsFunctionStatement, IsEndedStatement, AreFunctionStatements, IsFunctionBlock}
use Rattle.pp_grammar.proofs.Complete.Steps.{kind_is, fits_kind, kind_there, line_there, word_there, stands_falls, take_gives, expect_gives}
use Rattle.pp_grammar.proofs.Complete.Lists.{Falls, GivenSome, Stops, many_falls, separated_falls, separated_gives, repeat_gives}
use Rattle.pp_grammar.proofs.Complete.Within.{IsFalling, IsComplete, open_gives, function_statements_in_gives}
use Rattle.pp_grammar.proofs.Complete.ExpressionFalls.{whole_falls}
use Rattle.pp_grammar.proofs.Complete.StatementFalls.{end_falls}
use Rattle.pp_grammar.proofs.Complete.Expressions.{is_false}
use Rattle.pp_grammar.proofs.Complete.Operands.{NameRead, name_read}
use Rattle.pp_grammar.proofs.Complete.Wholes.{whole_complete}
use Rattle.pp_grammar.proofs.Complete.Statements.{is_true, function_is_name, end_eaten}

-- the body goes on
abbrev not_brace : Option Kind → Bool
not_brace next = not (is_kind k.CloseBrace next)

-- ---- how much they take

module _ (N : Within) (w : IsFalling N) where
  unbraced_falls : Falls (IsUnbraced N)
  unbraced_falls _ _ _ (IsUnbraced.unbraced i j x e d) = whole_falls N w d

  function_statement_falls : {i j : Input} {s : Statement} → IsFunctionStatement N i s j → length j.left < length i.left
  function_statement_falls (IsFunctionStatement.words i j l t xs s e ds) = omega (arith, stands_falls s, separated_falls (IsUnbraced N) unbraced_falls begins_none k.Comma ds)
  function_statement_falls (IsFunctionStatement.expression i j x e d) = unbraced_falls i j x d

  ended_falls : Falls (IsEndedStatement N)
  ended_falls _ _ _ (IsEndedStatement.ended i j l s d e) = omega (arith, function_statement_falls d, end_falls N w e)

  pub function_statements_fall : {i j : Input} {ss : List Statement} → AreFunctionStatements N i ss j → length j.left ≤ length i.left
  function_statements_fall ds = many_falls (IsEndedStatement N) ended_falls not_brace ds

  pub function_block_falls : {i j : Input} {ss : List Statement} → IsFunctionBlock N i ss j → length j.left < length i.left
  function_block_falls (IsFunctionBlock.block i j l m opener closer ss o r s) = omega (arith, stands_falls o.token, w.falls goal.FunctionStatements j l (part.Block ss) r, stands_falls s)

-- ---- what is read

module _ (inner : Inner) (N : Within) (c : IsComplete inner N) where
  no_brace : (name : Name) (next : Option Kind) (i : Input) → is_kind k.OpenBrace next ≡ false → unbraced_by inner name next i ≡ unbraced_value inner name i
  unfolding is_kind same_kind
  no_brace name (Some k.OpenBrace) i e = cc
  no_brace name _ i e = refl

  unbraced_at_name : {i j : Input} {x : Expr} → (Begins is_name (is_kind k.OpenBrace) i → ⊥) → (r : NameRead inner N c i x j) → unbraced_from inner (name_of r.token) r.behind ≡ Ok (x, j)
  unfolding unbraced_from
  unbraced_at_name alone r =
      let other = is_false (is_kind k.OpenBrace (kind r.behind)) (λ e. alone (record { token = r.token; behind = r.behind; stands = r.stands; next = e })) in
      no_brace (name_of r.token) (kind r.behind) r.behind other ∙ rw (r.call, r.goes) refl

  unbraced_read : (named : Bool) {i j : Input} {x : Expr} → is_name (kind i) ≡ named → (Begins is_name (is_kind k.OpenBrace) i → ⊥) → IsWhole N false false i x j → unbraced inner i ≡ Ok (x, j)
  unfolding unbraced
  unbraced_read true {i = i} e alone d =
      let r = name_read inner N c d e in
      rw (e, take_gives r.stands) (unbraced_at_name alone r)
  unbraced_read false e alone d = rw (e, whole_complete inner N c d) refl

  unbraced_complete : (i j : Input) (x : Expr) → IsUnbraced N i x j → unbraced inner i ≡ Ok (x, j)
  unbraced_complete _ _ _ (IsUnbraced.unbraced i j x alone d) = unbraced_read (is_name (kind i)) refl alone d

  -- ---- statements

  a_call : (name : Name) (next : Option Kind) (i : Input) → calls_or_declares next ≡ true → worded_by inner name next i ≡ named_statement inner name i
  a_call name (Some k.OpenParen) i e = refl
  a_call name (Some k.OpenBrace) i e = refl
  a_call name _ i e = cc

  no_call : (name : Name) (next : Option Kind) (i : Input) → calls_or_declares next ≡ false → worded_by inner name next i ≡ function_words inner name i
  no_call name (Some k.OpenParen) i e = cc
  no_call name (Some k.OpenBrace) i e = cc
  no_call name _ i e = refl

  called : {i j : Input} {x : Expr} → kind i ≡ Some k.StatementFunction → (Begins (is_kind k.StatementFunction) (λ next. not (calls_or_declares next)) i → ⊥) → (Begins is_name (is_kind k.OpenBrace) i → ⊥) → IsWhole N false false i x j
      → function_statement_by inner (kind i) i ≡ Ok (stated (line_at i.left) x, j)
  unfolding worded
  called {i = i} e no_words alone d =
      let r = name_read inner N c d (function_is_name (kind i) e) in
      let call = is_true (calls_or_declares (kind r.behind)) (λ f. no_words (record { token = r.token; behind = r.behind; stands = record { is = r.stands.is; kind = fits_kind k.StatementFunction (sym (kind_there r.stands) ∙ e) }; next = f })) in
      rw (e, take_gives r.stands) (a_call (name_of r.token) (kind r.behind) r.behind call ∙ rw (unbraced_at_name alone r, line_there r.stands) refl)

  other_statement : (next : Option Kind) (i : Input) → is_kind k.StatementFunction next ≡ false → function_statement_by inner next i ≡ value_statement inner i
  unfolding is_kind same_kind
  other_statement (Some k.StatementFunction) i e = cc
  other_statement _ i e = refl

  value_complete : {i j : Input} {x : Expr} → IsUnbraced N i x j → value_statement inner i ≡ Ok (stated (line_at i.left) x, j)
  unfolding value_statement
  value_complete {i = i} {j = j} {x = x} d = rw (unbraced_complete i j x d) refl

  expression_read : (calls : Bool) {i j : Input} {x : Expr} → is_kind k.StatementFunction (kind i) ≡ calls → (Begins (is_kind k.StatementFunction) (λ next. not (calls_or_declares next)) i → ⊥) → IsUnbraced N i x j
      → function_statement_by inner (kind i) i ≡ Ok (stated (line_at i.left) x, j)
  expression_read true {i = i} e no_words (IsUnbraced.unbraced _ _ _ alone d) = called (kind_is k.StatementFunction (kind i) e) no_words alone d
  expression_read false {i = i} e no_words d = other_statement (kind i) i e ∙ value_complete d

  words_read : {i j l : Input} {t : Token} {xs : List Expr} → Stands (is_kind k.StatementFunction) i t j → calls_or_declares (kind j) ≡ false → AreFunctionWords N j xs l
      → function_statement_by inner (kind i) i ≡ Ok (statement.Words (words_of t.text xs t.line), l)
  unfolding worded function_words
  words_read {j = j} {t = t} s e ds =
      rw (word_there s, take_gives s) (no_call (name_of t) (kind j) j e
      ∙ rw (separated_gives (IsUnbraced N) (unbraced_falls N c.falling) begins_none k.Comma (unbraced inner) unbraced_complete ds) refl)

  function_statement_complete : {i j : Input} {s : Statement} → IsFunctionStatement N i s j → function_statement inner i ≡ Ok (s, j)
  unfolding function_statement
  function_statement_complete (IsFunctionStatement.words i j l t xs s e ds) = words_read s e ds
  function_statement_complete (IsFunctionStatement.expression i j x no_words d) = expression_read (is_kind k.StatementFunction (kind i)) refl no_words d

  -- ---- blocks

  at_brace : (next : Option Kind) (i : Input) → not_brace next ≡ false → next_statement_by inner next i ≡ Ok (None, i)
  unfolding is_kind same_kind
  at_brace (Some k.CloseBrace) i e = refl
  at_brace _ i e = cc

  before_brace : (next : Option Kind) (i : Input) → not_brace next ≡ true → next_statement_by inner next i ≡ ended_statement inner i
  unfolding is_kind same_kind
  before_brace (Some k.CloseBrace) i e = cc
  before_brace _ i e = refl

  body_stops : Stops (next_statement inner) not_brace
  unfolding next_statement
  body_stops i e = at_brace (kind i) i e

  body_given : GivenSome (next_statement inner) not_brace (IsEndedStatement N)
  unfolding next_statement
  body_given _ _ _ begun (IsEndedStatement.ended i j l s d e) = before_brace (kind i) i begun ∙ rw (function_statement_complete d, (end_eaten inner N c e).read) refl

  pub function_statements_complete : {i j : Input} {ss : List Statement} → AreFunctionStatements N i ss j → function_statements inner i ≡ Ok (ss, j)
  unfolding function_statements
  function_statements_complete ds = repeat_gives (IsEndedStatement N) (ended_falls N c.falling) not_brace (next_statement inner) body_stops body_given ds

  pub function_block_complete : {i j : Input} {ss : List Statement} → IsFunctionBlock N i ss j → function_block inner i ≡ Ok (ss, j)
  unfolding function_block
  function_block_complete (IsFunctionBlock.block i j l m opener closer ss o r s) = rw (open_gives inner N c k.OpenBrace o, function_statements_in_gives inner N c j l ss r, expect_gives k.CloseBrace s) refl
