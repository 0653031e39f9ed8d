-- Bodies of functions: what a rule reads, stands there.
use Rattle.std.proofs.Common.{◌≡◌, ℕ, Bool, false, not, Option, Some, refl, ap, subst}
use Rattle.pp_lexer.specs.declared.kind.Kind.{Kind}
use Rattle.pp_lexer.specs.declared.kind.Kind.TheVariants as k
use Rattle.pp_lexer.specs.Seen.{Token}
use Rattle.pp_tree.specs.declared.expr.Expr.{Expr}
use Rattle.pp_grammar.proofs.Reader.Input.{Input, kind, line_at}
use Rattle.pp_grammar.proofs.Reader.Inner.{Inner}
use Rattle.pp_grammar.specs.Kinds.{is_kind, same_kind, is_name}
use Rattle.pp_grammar.proofs.Reader.Statements.{name_of}
use Rattle.pp_grammar.proofs.Reader.FunctionBodies as rule
use Rattle.pp_grammar.specs.Places.{Within, Stands, Maybe, Begins}
use Rattle.pp_grammar.specs.Statements.{calls_or_declares}
use Rattle.pp_grammar.specs.FunctionBodies.{begins_none, IsUnbraced, IsFunctionStatement, IsEndedStatement, AreFunctionStatements, IsFunctionBlock}
use Rattle.pp_grammar.proofs.Sound.Steps.{Meets, Sound, bind, bind_made, done, refused, either_at, weaker, take_at, take_sound, expect_sound, eat_sound, at_next, not_begins, not_before, line_of_stands, other_kind}
use Rattle.pp_grammar.proofs.Sound.Lists.{repeat_sound, separated_sound}
use Rattle.pp_grammar.proofs.Sound.Inner.{IsSound, opening_sound, function_statements_in_sound}
use Rattle.pp_grammar.proofs.Sound.Expressions.{call_or_name_sound, whole_sound}
use Rattle.pp_grammar.proofs.Sound.Statements.{plain_end, by_name_sound}

-- no words stand here: a statement function that no bracket follows
abbrev NoWords : Input → Type 0
NoWords i = Begins (is_kind k.StatementFunction) (λ next. not (calls_or_declares next)) i → ⊥

abbrev not_brace : Option Kind → Bool
not_brace next = not (is_kind k.CloseBrace next)

module _ (inner : Inner) (N : Within) (s : IsSound inner N) where
  -- ---- expressions

  unbraced_from_sound : (i j : Input) (t : Token) → Stands is_name i t j → Meets (rule.unbraced_from inner (name_of t) j) (IsUnbraced N i)
  unfolding rule.unbraced_from is_kind same_kind
  unbraced_from_sound i j t st = go (kind j) refl
    where
      go : (next : Option Kind) → kind j ≡ next → Meets (rule.unbraced_by inner (name_of t) next j) (IsUnbraced N i)
      go (Some k.OpenBrace) e = refused
      go _ e = bind (call_or_name_sound inner N s false t.text j) λ f l c. weaker (by_name_sound inner N s i j l t f st c) λ x m w.
          IsUnbraced.unbraced i m x (not_before st (at_next (is_kind k.OpenBrace) j e refl)) w

  unbraced_sound : Sound (rule.unbraced inner) (IsUnbraced N)
  unfolding rule.unbraced
  unbraced_sound i = either_at _ _ (λ e. bind_made _ (take_sound is_name i e) λ t j st. unbraced_from_sound i j t st)
      (λ e. weaker (whole_sound inner N s false false i) λ x j w. IsUnbraced.unbraced i j x (not_begins e) w)

  -- ---- statements

  function_words_sound : (i j : Input) (t : Token) → Stands (is_kind k.StatementFunction) i t j → calls_or_declares (kind j) ≡ false → Meets (rule.function_words inner (name_of t) j) (IsFunctionStatement N i)
  unfolding rule.function_words
  function_words_sound i j t st e = bind (separated_sound begins_none k.Comma (IsUnbraced N) _ unbraced_sound j) λ xs l h. done (IsFunctionStatement.words i j l t xs st e h)

  -- the line is that of the first token
  at_line : (i l : Input) (x : Expr) (line : ℕ) → line_at i.left ≡ line → NoWords i → IsUnbraced N i x l → IsFunctionStatement N i (rule.stated line x) l
  at_line i l x line e no_words h = subst (λ (at : ℕ). IsFunctionStatement N i (rule.stated at x) l) e (IsFunctionStatement.expression i l x no_words h)

  named_statement_sound : (i j : Input) (t : Token) → Stands (is_kind k.StatementFunction) i t j → NoWords i → Meets (rule.named_statement inner (name_of t) j) (IsFunctionStatement N i)
  named_statement_sound i j t st no_words = bind (unbraced_from_sound i j t (other_kind k.StatementFunction st is_name refl)) λ x l h. done (at_line i l x t.line (line_of_stands st) no_words h)

  worded_sound : (i j : Input) (t : Token) → Stands (is_kind k.StatementFunction) i t j → (next : Option Kind) → kind j ≡ next → Meets (rule.worded_by inner (name_of t) next j) (IsFunctionStatement N i)
  worded_sound i j t st (Some k.OpenParen) e = named_statement_sound i j t st (not_before st (ap not (at_next calls_or_declares j e refl)))
  worded_sound i j t st (Some k.OpenBrace) e = named_statement_sound i j t st (not_before st (ap not (at_next calls_or_declares j e refl)))
  worded_sound i j t st _ e = function_words_sound i j t st (at_next calls_or_declares j e refl)

  value_statement_sound : (i : Input) → NoWords i → Meets (rule.value_statement inner i) (IsFunctionStatement N i)
  unfolding rule.value_statement
  value_statement_sound i no_words = bind (unbraced_sound i) λ x j h. done (IsFunctionStatement.expression i j x no_words h)

  function_statement_sound : Sound (rule.function_statement inner) (IsFunctionStatement N)
  unfolding rule.function_statement rule.worded is_kind same_kind
  function_statement_sound i = go (kind i) refl
    where
      go : (next : Option Kind) → kind i ≡ next → Meets (rule.function_statement_by inner next i) (IsFunctionStatement N i)
      go (Some k.StatementFunction) e = bind_made _ (take_at (is_kind k.StatementFunction) i _ e refl) λ t j st. worded_sound i j t st (kind j) refl
      go _ e = value_statement_sound i (not_begins (at_next (is_kind k.StatementFunction) i e refl))

  -- ---- blocks

  next_statement_sound : Sound (rule.next_statement inner) (Maybe (IsEndedStatement N) not_brace)
  unfolding rule.next_statement is_kind same_kind
  next_statement_sound i = go (kind i) refl
    where
      go : (next : Option Kind) → kind i ≡ next → Meets (rule.next_statement_by inner next i) (Maybe (IsEndedStatement N) not_brace i)
      go (Some k.CloseBrace) e = done (Maybe.left_out i (at_next not_brace i e refl))
      go _ e = bind (function_statement_sound i) λ st j h. bind (eat_sound k.Semicolon j) λ b l f.
          done (Maybe.given i l st (at_next not_brace i e refl) (IsEndedStatement.ended i j l st h (plain_end N b j l f)))

  pub function_statements_sound : Sound (rule.function_statements inner) (AreFunctionStatements N)
  unfolding rule.function_statements
  function_statements_sound i = repeat_sound (IsEndedStatement N) not_brace _ next_statement_sound i

  pub function_block_sound : Sound (rule.function_block inner) (IsFunctionBlock N)
  unfolding rule.function_block
  function_block_sound i = bind (opening_sound inner N s k.OpenBrace i) λ opener j o. bind (function_statements_in_sound inner N s j) λ ss l h.
      bind (expect_sound k.CloseBrace l) λ closer m c. done (IsFunctionBlock.block i j l m opener closer ss o h c)
