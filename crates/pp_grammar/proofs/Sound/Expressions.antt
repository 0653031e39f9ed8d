-- Expressions: what a rule reads, stands there.
use Rattle.std.proofs.Common.{◌≡◌, ℕ, zero, suc, Bool, true, false, not, if◌then◌else◌, List, [], ◌∷◌, Option, Some, None, refl, sym, ap, subst, ◌∙◌}
use Rattle.pp_lexer.specs.declared.kind.Kind.{Kind}
use Rattle.pp_lexer.specs.declared.kind.Kind.TheVariants as k
use Rattle.pp_lexer.specs.Seen.{Token}
use Rattle.pp_tree.specs.declared.expr.Expr.{Expr}
use Rattle.pp_tree.specs.declared.expr.Pair.{Pair}
use Rattle.pp_tree.specs.declared.collector.Test.TheOpen.{Form-F}
use Rattle.pp_tree.specs.declared.expr.Form.{Form, out-Form, roll-Form, roll-out-Form}
use Rattle.pp_tree.specs.declared.expr.Form.TheVariants as form
use Rattle.pp_tree.specs.declared.expr.Piece.TheVariants as piece
use Rattle.pp_tree.specs.declared.expr.Operation.{Operation}
use Rattle.pp_tree.specs.declared.expr.Postfix.{Postfix}
use Rattle.pp_tree.specs.declared.expr.Postfix.TheVariants as postfix
use Rattle.pp_tree.specs.declared.operators.BinaryOperator.{BinaryOperator}
use Rattle.pp_tree.specs.declared.operators.PrefixOperator.{PrefixOperator}
use Rattle.pp_tree.specs.declared.operators.PrefixOperator.TheVariants as prefix
use Rattle.pp_tree.specs.Building.{expr_at, line_of, form_of, param as param_of, operation as operation_of}
use Rattle.pp_parser.specs.declared.started.Started.{Started}
use Rattle.pp_grammar.proofs.Reader.Input.{Input, Parser, kind, kind_at, line_at, pure, refuse, ◌<$>◌}
use Rattle.pp_grammar.proofs.Reader.Inner.{Inner}
use Rattle.pp_grammar.specs.Keys.{earlier_line}
use Rattle.pp_grammar.proofs.Reader.Keys.{noting}
use Rattle.pp_grammar.specs.Kinds.{is_kind, same_kind, is_name, is_bar}
use Rattle.pp_tree.specs.Layers.{FormLayer}
use Rattle.pp_grammar.proofs.Reader.Params.{param_by_form, param_from}
use Rattle.pp_grammar.specs.Names.{is_simple}
use Rattle.pp_grammar.proofs.Reader.Expressions as rule
use Rattle.pp_grammar.specs.Places.{Phrase, Within, Opens, Stands, Many, SeparatedSome, Maybe, before}
use Rattle.pp_grammar.specs.Operators.{prefix_at}
use Rattle.pp_grammar.specs.Expressions.{begins_lambda, begins_piece, begins_postfix, is_variable, is_bracket, follows_variable, InnerParam, InnerOption, IsBlock, AreArguments, OptionalArguments, IsLambda, IsCallOrName, IsPiece, IsFirstRun, IsQuoted, IsCondition, IsElsif, IsElse, IsPair, IsPrimary, IsPostfix, IsValue, IsOperand, IsBinary, AreOperations, IsWhole, IsNameThere, IsValueThere, IsBinaryThere, IsInterpolated, IsDefault, AsParam, IsParam, IsCaseOption}
use Rattle.pp_grammar.specs.Expressions.{Inner as WholeIn}
use Rattle.pp_grammar.proofs.Sound.Steps.{Meets, Sound, bind, done, refused, either_at, weaker, take_is, take_at, take_sound, is_kind_is, expect_sound, expect_any_sound, at_next, not_begins, not_before, line_of_stands}
use Rattle.pp_grammar.proofs.Sound.Lists.{repeat_sound, separated_sound, separated_some_sound}
use Rattle.pp_grammar.proofs.Sound.Inner.{IsSound, opening_sound, whole_in_sound, operand_in_sound, interpolated_in_sound, param_in_sound, statements_in_sound, case_option_in_sound}

-- an operator of this strength and its right operand
data IsOperation (B : Phrase Expr) (strength : ℕ) : Input → Operation Expr → Input → Type 0 where
  operation : (i j l : Input) (t : Token) (o : BinaryOperator) (x : Expr) → i ≡ before t j → rule.operator_at strength (Some t.kind) ≡ Some o → B j x l
      → IsOperation B strength i (operation_of o x) l

abbrev is_some : {A : Type 0} → Option A → Bool
is_some (Some a) = true
is_some None = false

abbrev continues : ℕ → Option Kind → Bool
continues strength next = is_some (rule.operator_at strength next)

no_some : {A : Type 0} (o : Option A) → is_some o ≡ false → o ≡ None
no_some (Some a) h = absurd cc
no_some None h = refl

a_variable : {i : Input} {t : Token} {j : Input} → Stands (is_kind k.Variable) i t j → Stands is_variable i t j
a_variable {t = t} st = record { is = st.is; kind = ap (λ (x : Kind). is_variable (Some x)) (is_kind_is k.Variable t.kind st.kind) }

-- a form that opens to one is that one
variable_form : (f : Form) (name : List ℕ) → out-Form f ≡ Form-F.Variable name → f ≡ form.Variable name
unfolding roll-Form denote.Hole.Carrier.roll
variable_form f name h = sym (roll-out-Form f) ∙ ap roll-Form h

assign_form : (f : Form) (name : List ℕ) (x : Expr) → out-Form f ≡ Form-F.Assign name x → f ≡ form.Assign name x
unfolding roll-Form denote.Hole.Carrier.roll
assign_form f name x h = sym (roll-out-Form f) ∙ ap roll-Form h

-- `[ args ]` behind a value
pub data IsAccess (N : Within) : Input → List Expr → Input → Type 0 where
  access : (i j l m : Input) (opener closer : Token) (xs : List Expr)
      → Opens N k.TightBracket i opener j → SeparatedSome (is_kind k.CloseBracket) k.Comma (WholeIn N false) j xs l → Stands (is_kind k.CloseBracket) l closer m → IsAccess N i xs m

pub as_postfix : (N : Within) (bars : Bool) (i : Input) (xs : List Expr) (j : Input) → IsAccess N i xs j → IsPostfix N bars i (postfix.Access xs) j
as_postfix N bars i xs j (IsAccess.access _ l m _ opener closer _ o b c) = IsPostfix.access i l m j opener closer xs o b c

module _ (inner : Inner) (N : Within) (s : IsSound inner N) where
  -- ---- what stands in brackets

  pub block_sound : Sound (rule.block inner) (IsBlock N)
  unfolding rule.block
  block_sound i = bind (opening_sound inner N s k.OpenBrace i) λ opener j o. bind (statements_in_sound inner N s j) λ ss l b.
      bind (expect_sound k.CloseBrace l) λ closer m c. done (IsBlock.block i j l m opener closer ss o b c)

  pub arguments_sound : Sound (rule.arguments inner) (AreArguments N)
  unfolding rule.arguments
  arguments_sound i = bind (opening_sound inner N s k.OpenParen i) λ opener j o.
      bind (separated_sound (is_kind k.CloseParen) k.Comma (WholeIn N false) _ (whole_in_sound inner N s false) j) λ xs l b.
      bind (expect_sound k.CloseParen l) λ closer m c. done (AreArguments.arguments i j l m opener closer xs o b c)

  pub optional_arguments_sound : Sound (rule.optional_arguments inner) (OptionalArguments N)
  unfolding rule.optional_arguments is_kind same_kind
  optional_arguments_sound i = go (kind i) refl
    where
      go : (next : Option Kind) → kind i ≡ next → Meets (rule.arguments_by inner next i) (OptionalArguments N i)
      go (Some k.OpenParen) e = weaker (arguments_sound i) (λ xs j a. OptionalArguments.given i j xs a)
      go _ e = done (OptionalArguments.left_out i (at_next (is_kind k.OpenParen) i e refl))

  -- ---- lambdas and calls

  lambda_from_sound : (bar : Kind) → is_bar (Some bar) ≡ true → Sound (rule.lambda_from inner bar) (IsLambda N)
  unfolding rule.lambda_from
  lambda_from_sound bar is i = bind (opening_sound inner N s bar i) λ first j o.
      bind (separated_sound is_bar k.Comma (InnerParam N true) _ (param_in_sound inner N s true) j) λ ps l b.
      bind (expect_any_sound is_bar l) λ last m c. bind (block_sound m) λ ss n d.
      done (IsLambda.lambda i j l m n bar first last ps ss is o b c d)

  optional_lambda_sound : (bars : Bool) → Sound (rule.optional_lambda inner bars) (Maybe (IsLambda N) (begins_lambda bars))
  unfolding rule.optional_lambda
  optional_lambda_sound bars i = go (kind i) refl
    where
      last_bar : (b : Bool) → bars ≡ b → kind i ≡ Some k.LastBar → Meets ((if b then pure None else (Some <$> rule.lambda_from inner k.LastBar)) i) (Maybe (IsLambda N) (begins_lambda bars) i)
      last_bar true b e = done (Maybe.left_out i (at_next (begins_lambda bars) i e (ap not b)))
      last_bar false b e = bind (lambda_from_sound k.LastBar refl i) λ x j h. done (Maybe.given i j x (at_next (begins_lambda bars) i e (ap not b)) h)

      go : (next : Option Kind) → kind i ≡ next → Meets (rule.lambda_by inner bars next i) (Maybe (IsLambda N) (begins_lambda bars) i)
      go (Some k.Bar) e = bind (lambda_from_sound k.Bar refl i) λ x j h. done (Maybe.given i j x (at_next (begins_lambda bars) i e refl) h)
      go (Some k.LastBar) e = last_bar bars refl e
      go _ e = done (Maybe.left_out i (at_next (begins_lambda bars) i e refl))

  pub call_or_name_sound : (bars : Bool) (name : List ℕ) → Sound (rule.call_or_name inner bars name) (IsCallOrName N bars name)
  unfolding rule.call_or_name is_kind same_kind
  call_or_name_sound bars name i = go (kind i) refl
    where
      go : (next : Option Kind) → kind i ≡ next → Meets (rule.call_or_name_by inner bars name next i) (IsCallOrName N bars name i)
      go (Some k.OpenParen) e = bind (arguments_sound i) λ xs j a. bind (optional_lambda_sound bars j) λ last l b. done (IsCallOrName.call i j l xs last a b)
      go _ e = done (IsCallOrName.name i (at_next (is_kind k.OpenParen) i e refl))

  -- ---- texts with interpolation

  piece_sound : Sound (rule.piece_rule inner) (Maybe (IsPiece N) begins_piece)
  unfolding rule.piece_rule rule.interpolation is_kind same_kind
  piece_sound i = go (kind i) refl
    where
      go : (next : Option Kind) → kind i ≡ next → Meets (rule.piece_by inner next i) (Maybe (IsPiece N) begins_piece i)
      go (Some k.Piece) e = bind (take_at (is_kind k.Piece) i _ e refl) λ t j st. done (Maybe.given i j _ (at_next begins_piece i e refl) (IsPiece.run i j t st))
      go (Some k.VariableInText) e = bind (take_at (is_kind k.VariableInText) i _ e refl) λ t j st. done (Maybe.given i j _ (at_next begins_piece i e refl) (IsPiece.variable i j t st))
      go (Some k.InterpolationBegin) e =
          bind {P = λ x m. IsPiece N i (piece.Value x) m} (bind (opening_sound inner N s k.InterpolationBegin i) λ opener j o. bind (interpolated_in_sound inner N s j) λ x l b.
          bind (expect_sound k.InterpolationEnd l) λ closer m c. done (IsPiece.interpolation i j l m opener closer x o b c)) λ x m p.
          done (Maybe.given i m _ (at_next begins_piece i e refl) p)
      go _ e = done (Maybe.left_out i (at_next begins_piece i e refl))

  text_after_sound : (i j : Input) (opener : Token) (said : List ℕ) (l : Input) → Stands (is_kind k.TextBegin) i opener j → IsFirstRun N j said l
      → Meets (rule.text_after inner said l) (IsQuoted N i)
  unfolding rule.text_after is_kind same_kind
  text_after_sound i j opener said l st said_run = go (kind l) refl
    where
      go : (next : Option Kind) → kind l ≡ next → Meets (rule.text_by inner said next l) (IsQuoted N i)
      go (Some k.TextEnd) e = bind (take_at (is_kind k.TextEnd) l _ e refl) λ closer m c. done (IsQuoted.plain i j l m opener closer said st said_run c)
      go _ e = bind (repeat_sound (IsPiece N) begins_piece _ piece_sound l) λ more m ps. bind (expect_sound k.TextEnd m) λ closer n c.
          done (IsQuoted.interpolated i j l m n opener closer said more st said_run (at_next (is_kind k.TextEnd) l e refl) ps c)

  quoted_sound : Sound (rule.quoted inner) (IsQuoted N)
  unfolding rule.quoted is_kind same_kind
  quoted_sound i = bind (expect_sound k.TextBegin i) λ opener j st. go opener j st (kind j) refl
    where
      go : (opener : Token) (j : Input) → Stands (is_kind k.TextBegin) i opener j → (next : Option Kind) → kind j ≡ next → Meets (rule.quoted_by inner next j) (IsQuoted N i)
      go opener j st (Some k.Piece) e = bind (take_at (is_kind k.Piece) j _ e refl) λ t l run. text_after_sound i j opener t.text l st (IsFirstRun.run j l t run)
      go opener j st _ e = text_after_sound i j opener [] j st (IsFirstRun.none j (at_next (is_kind k.Piece) j e refl))

  -- ---- conditions

  otherwise_sound : Sound (rule.otherwise inner) (Maybe (IsElse N) (is_kind k.Else))
  unfolding rule.otherwise is_kind same_kind
  otherwise_sound i = go (kind i) refl
    where
      go : (next : Option Kind) → kind i ≡ next → Meets (rule.otherwise_by inner next i) (Maybe (IsElse N) (is_kind k.Else) i)
      go (Some k.Else) e = bind (take_at (is_kind k.Else) i _ e refl) λ t j st. bind (block_sound j) λ ss l b.
          done (Maybe.given i l ss (at_next (is_kind k.Else) i e refl) (IsElse.otherwise i j l t ss st b))
      go _ e = done (Maybe.left_out i (at_next (is_kind k.Else) i e refl))

  condition_sound : (word : Kind) → Sound (rule.condition inner word) (IsCondition N word)
  unfolding rule.condition
  condition_sound word i = bind (opening_sound inner N s word i) λ t j o. weaker (whole_in_sound inner N s false j) λ x l h. IsCondition.condition i j l t x o h

  elsif_sound : Sound (rule.elsif_rule inner) (Maybe (IsElsif N) (is_kind k.Elsif))
  unfolding rule.elsif_rule is_kind same_kind
  elsif_sound i = go (kind i) refl
    where
      go : (next : Option Kind) → kind i ≡ next → Meets (rule.elsif_by inner next i) (Maybe (IsElsif N) (is_kind k.Elsif) i)
      go (Some k.Elsif) e = bind (condition_sound k.Elsif i) λ x j c. bind (block_sound j) λ ss l b.
          done (Maybe.given i l _ (at_next (is_kind k.Elsif) i e refl) (IsElsif.elsif i j l x ss c b))
      go _ e = done (Maybe.left_out i (at_next (is_kind k.Elsif) i e refl))

  if_sound : (bars : Bool) → Sound (rule.if_rule inner) (IsPrimary N bars)
  unfolding rule.if_rule
  if_sound bars i = bind (condition_sound k.If i) λ x j c. bind (block_sound j) λ ss l b.
      bind (repeat_sound (IsElsif N) (is_kind k.Elsif) _ elsif_sound l) λ es m d. bind (otherwise_sound m) λ last n o.
      done (IsPrimary.if_word i j l m n x ss es last c b d o)

  unless_sound : (bars : Bool) → Sound (rule.unless_rule inner) (IsPrimary N bars)
  unfolding rule.unless_rule
  unless_sound bars i = bind (condition_sound k.Unless i) λ x j c. bind (block_sound j) λ ss l b. bind (otherwise_sound l) λ last m o.
      done (IsPrimary.unless_word i j l m x ss last c b o)

  case_options_sound : Sound (rule.case_options inner) (Maybe (InnerOption N) (λ next. not (is_kind k.CloseBrace next)))
  unfolding rule.case_options is_kind same_kind
  case_options_sound i = go (kind i) refl
    where
      goes_on : Option Kind → Bool
      goes_on next = not (is_kind k.CloseBrace next)

      go : (next : Option Kind) → kind i ≡ next → Meets (rule.case_options_by inner next i) (Maybe (InnerOption N) (λ next. not (is_kind k.CloseBrace next)) i)
      go (Some k.CloseBrace) e = done (Maybe.left_out i (at_next goes_on i e refl))
      go _ e = bind (case_option_in_sound inner N s i) λ o j h. done (Maybe.given i j o (at_next goes_on i e refl) h)

  case_sound : (bars : Bool) → Sound (rule.case_rule inner) (IsPrimary N bars)
  unfolding rule.case_rule
  case_sound bars i = bind (condition_sound k.Case i) λ x j c. bind (opening_sound inner N s k.OpenBrace j) λ opener l o.
      bind (repeat_sound (InnerOption N) (λ next. not (is_kind k.CloseBrace next)) _ case_options_sound l) λ os m d. bind (expect_sound k.CloseBrace m) λ closer n e.
      done (IsPrimary.case_word i j l m n opener closer x os c o d e)

  -- ---- lists and hashes

  list_sound : (bars : Bool) (bracket : Kind) → is_bracket (Some bracket) ≡ true → Sound (rule.list inner bracket) (IsPrimary N bars)
  unfolding rule.list
  list_sound bars bracket is i = bind (opening_sound inner N s bracket i) λ opener j o.
      bind (separated_sound (is_kind k.CloseBracket) k.Comma (WholeIn N false) _ (whole_in_sound inner N s false) j) λ xs l b.
      bind (expect_sound k.CloseBracket l) λ closer m c. done (IsPrimary.list i j l m bracket opener closer xs is o b c)

  pair_sound : Sound (rule.pair_rule inner) (IsPair N)
  unfolding rule.pair_rule
  pair_sound i = bind (whole_in_sound inner N s false i) λ x j a. bind (expect_sound k.Arrow j) λ arrow l b. bind (whole_in_sound inner N s false l) λ y m c.
      done (IsPair.pair i j l m arrow x y a b c)

  hash_sound : (bars : Bool) → Sound (rule.hash inner) (IsPrimary N bars)
  unfolding rule.hash noting
  hash_sound bars i = bind (opening_sound inner N s k.OpenBrace i) λ opener j o.
      bind (separated_sound (is_kind k.CloseBrace) k.Comma (IsPair N) _ pair_sound j) λ ps l b.
      bind (expect_sound k.CloseBrace l) λ closer m c.
      done (subst (λ (keys : List (Pair Expr) → Option ℕ). IsPrimary N bars i (form.Hash ps) (record { left = m.left; doubled = earlier_line m.doubled (keys ps) })) (sym s.keys) (IsPrimary.hash i j l m opener closer ps o b c))

  parentheses_sound : (bars : Bool) → Sound (rule.parentheses inner) (IsPrimary N bars)
  unfolding rule.parentheses
  parentheses_sound bars i = bind (opening_sound inner N s k.OpenParen i) λ opener j o. bind (whole_in_sound inner N s false j) λ x l b.
      bind (expect_sound k.CloseParen l) λ closer m c. done (IsPrimary.parentheses i j l m opener closer x o b c)

  -- ---- values

  primary_by_sound : (bars : Bool) (i : Input) (next : Option Kind) → kind i ≡ next → Meets (rule.primary_by inner bars next i) (IsPrimary N bars i)
  unfolding rule.named is_kind same_kind
  primary_by_sound bars i (Some k.Name) e = bind (take_at is_name i _ e refl) λ t j st. weaker (call_or_name_sound bars t.text j) λ f l c. IsPrimary.named i j l t f st c
  primary_by_sound bars i (Some k.StatementFunction) e = bind (take_at is_name i _ e refl) λ t j st. weaker (call_or_name_sound bars t.text j) λ f l c. IsPrimary.named i j l t f st c
  primary_by_sound bars i (Some k.Type) e = bind (take_at (is_kind k.Type) i _ e refl) λ t j st. done (IsPrimary.type i j t st)
  primary_by_sound bars i (Some k.Variable) e = bind (take_at is_variable i _ e refl) λ t j st. done (IsPrimary.variable i j t st)
  primary_by_sound bars i (Some k.QualifiedVariable) e = bind (take_at is_variable i _ e refl) λ t j st. done (IsPrimary.variable i j t st)
  primary_by_sound bars i (Some k.Number) e = bind (take_at (is_kind k.Number) i _ e refl) λ t j st. done (IsPrimary.number i j t st)
  primary_by_sound bars i (Some k.Text) e = bind (take_at (is_kind k.Text) i _ e refl) λ t j st. done (IsPrimary.text i j t st)
  primary_by_sound bars i (Some k.TextBegin) e = weaker (quoted_sound i) λ f j q. IsPrimary.quoted i j f q
  primary_by_sound bars i (Some k.True) e = bind (take_at (is_kind k.True) i _ e refl) λ t j st. done (IsPrimary.true_word i j t st)
  primary_by_sound bars i (Some k.False) e = bind (take_at (is_kind k.False) i _ e refl) λ t j st. done (IsPrimary.false_word i j t st)
  primary_by_sound bars i (Some k.Undef) e = bind (take_at (is_kind k.Undef) i _ e refl) λ t j st. done (IsPrimary.undef i j t st)
  primary_by_sound bars i (Some k.Default) e = bind (take_at (is_kind k.Default) i _ e refl) λ t j st. done (IsPrimary.default i j t st)
  primary_by_sound bars i (Some k.TightBracket) e = list_sound bars k.TightBracket refl i
  primary_by_sound bars i (Some k.OpenBracket) e = list_sound bars k.OpenBracket refl i
  primary_by_sound bars i (Some k.OpenBrace) e = hash_sound bars i
  primary_by_sound bars i (Some k.OpenParen) e = parentheses_sound bars i
  primary_by_sound bars i (Some k.If) e = if_sound bars i
  primary_by_sound bars i (Some k.Unless) e = unless_sound bars i
  primary_by_sound bars i (Some k.Case) e = case_sound bars i
  primary_by_sound bars i _ e = refused

  -- what follows a value

  pub access_sound : Sound (rule.access inner) (IsAccess N)
  unfolding rule.access
  access_sound i = bind (opening_sound inner N s k.TightBracket i) λ opener j o.
      bind (separated_some_sound (is_kind k.CloseBracket) k.Comma (WholeIn N false) _ (whole_in_sound inner N s false) j) λ xs l b.
      bind (expect_sound k.CloseBracket l) λ closer m c. done (IsAccess.access i j l m opener closer xs o b c)

  method_sound : (bars : Bool) → Sound (rule.method inner bars) (IsPostfix N bars)
  unfolding rule.method
  method_sound bars i = bind (expect_sound k.Dot i) λ dot j a. bind (expect_any_sound is_name j) λ name l b. bind (optional_arguments_sound l) λ xs m c.
      bind (optional_lambda_sound bars m) λ last n d. done (IsPostfix.method i j l m n dot name xs last a b c d)

  selector_sound : (bars : Bool) → Sound (rule.selector inner) (IsPostfix N bars)
  unfolding rule.selector
  selector_sound bars i = bind (expect_sound k.Question i) λ mark j a. bind (opening_sound inner N s k.OpenBrace j) λ opener l o.
      bind (separated_some_sound (is_kind k.CloseBrace) k.Comma (IsPair N) _ pair_sound l) λ ps m b.
      bind (expect_sound k.CloseBrace m) λ closer n c. done (IsPostfix.selector i j l m n mark opener closer ps a o b c)

  postfix_sound : (bars : Bool) → Sound (rule.postfix_rule inner bars) (Maybe (IsPostfix N bars) begins_postfix)
  unfolding rule.postfix_rule
  postfix_sound bars i = go (kind i) refl
    where
      go : (next : Option Kind) → kind i ≡ next → Meets (rule.postfix_by inner bars next i) (Maybe (IsPostfix N bars) begins_postfix i)
      go (Some k.TightBracket) e = bind (access_sound i) λ xs j p. done (Maybe.given i j _ (at_next begins_postfix i e refl) (as_postfix N bars i xs j p))
      go (Some k.Dot) e = bind (method_sound bars i) λ x j p. done (Maybe.given i j x (at_next begins_postfix i e refl) p)
      go (Some k.Question) e = bind (selector_sound bars i) λ x j p. done (Maybe.given i j x (at_next begins_postfix i e refl) p)
      go _ e = done (Maybe.left_out i (at_next begins_postfix i e refl))

  -- ---- operands

  -- behind a value's base, where what follows is read
  pub postfixes_sound : (bars : Bool) (i j : Input) (at : ℕ) (f : Form) → line_at i.left ≡ at → IsPrimary N bars i f j
      → Meets (rule.postfixes inner bars (rule.started (expr_at at f)) j) (IsValue N bars i)
  unfolding rule.postfixes
  postfixes_sound bars i j at f e p = bind (repeat_sound (IsPostfix N bars) begins_postfix _ (postfix_sound bars) j) λ ps l m.
      done (subst (λ (line : ℕ). IsValue N bars i (rule.postfixed (expr_at line f) ps) l) e (IsValue.value i j l f ps p m))

  -- the same where one postfix was read already
  pub more_postfixes_sound : (bars : Bool) (i j l : Input) (at : ℕ) (f : Form) (first : Postfix) → line_at i.left ≡ at → IsPrimary N bars i f j
      → begins_postfix (kind j) ≡ true → IsPostfix N bars j first l
      → Meets (rule.postfixes inner bars (record { base = expr_at at f; postfixes = first ∷ [] }) l) (IsValue N bars i)
  unfolding rule.postfixes
  more_postfixes_sound bars i j l at f first e p b q = bind (repeat_sound (IsPostfix N bars) begins_postfix _ (postfix_sound bars) l) λ ps m more.
      done (subst (λ (line : ℕ). IsValue N bars i (rule.postfixed (expr_at line f) (first ∷ ps)) m) e (IsValue.value i j m f (first ∷ ps) p (Many.more j l m first ps b q more)))

  pub value_sound : (bars : Bool) → Sound (rule.value inner bars) (IsValue N bars)
  unfolding rule.value rule.primary
  value_sound bars i = bind {P = λ x j. (f : Form) × (x ≡ expr_at (line_at i.left) f) × IsPrimary N bars i f j}
      (bind (primary_by_sound bars i (kind i) refl) λ f j p. done (f, refl, p))
      λ x j h. subst (λ (y : Expr). Meets (rule.postfixes inner bars (rule.started y) j) (IsValue N bars i)) (sym h.1) (postfixes_sound bars i j (line_at i.left) h.0 refl h.2)

  prefixed_sound : (bars : Bool) (mark : Kind) (o : PrefixOperator) → prefix_at (Some mark) ≡ Some o → Sound (rule.prefixed inner bars mark o) (IsOperand N bars)
  unfolding rule.prefixed
  prefixed_sound bars mark o is i = bind (opening_sound inner N s mark i) λ t j op. bind (operand_in_sound inner N s bars j) λ x l h.
      done (subst (λ (line : ℕ). IsOperand N bars i (expr_at line (form.Prefix o x)) l) (sym (line_of_stands op.token)) (IsOperand.prefixed i j l mark t o x is op h))

  pub operand_sound : (bars : Bool) → Sound (rule.operand inner bars) (IsOperand N bars)
  unfolding rule.operand
  operand_sound bars i = go (kind i) refl
    where
      go : (next : Option Kind) → kind i ≡ next → Meets (rule.operand_by inner bars next i) (IsOperand N bars i)
      go (Some k.Bang) e = prefixed_sound bars k.Bang prefix.Not refl i
      go (Some k.Minus) e = prefixed_sound bars k.Minus prefix.Negate refl i
      go (Some k.Star) e = prefixed_sound bars k.Star prefix.Splat refl i
      go _ e = weaker (value_sound bars i) (λ x j v. IsOperand.value i j x v)

  -- ---- operators

  operation_sound : (strength : ℕ) (B : Phrase Expr) (tighter : Parser Expr) → Sound tighter B → Sound (rule.operation_rule inner tighter strength) (Maybe (IsOperation B strength) (continues strength))
  unfolding rule.operation_rule kind kind_at
  operation_sound strength B tighter sb i = go (rule.operator_at strength (kind i)) refl
    where
      go : (o : Option BinaryOperator) → rule.operator_at strength (kind i) ≡ o → Meets (rule.operation_by inner tighter o i) (Maybe (IsOperation B strength) (continues strength) i)
      go (Some o) e = bind (take_is i) λ t j is. bind (sb j) λ x l b.
          done (Maybe.given i l _ (ap is_some e) (IsOperation.operation i j l t o x is (subst (λ (y : Input). rule.operator_at strength (kind y) ≡ Some o) is e) b))
      go None e = done (Maybe.left_out i (ap is_some e))

  operations : (bars : Bool) (tighter : ℕ) (i : Input) (os : List (Operation Expr)) (j : Input)
      → Many (IsOperation (IsBinary N bars tighter) (suc tighter)) (continues (suc tighter)) i os j → AreOperations N bars (suc tighter) i os j
  operations bars tighter i os j (Many.none _ h) = AreOperations.none (suc tighter) _ (no_some _ h)
  operations bars tighter i os j (Many.more _ l m x xs h (IsOperation.operation _ n _ t o y is op b) others) = AreOperations.more tighter _ n l m t o y xs is op b (operations bars tighter l xs m others)

  pub chain_sound : (bars : Bool) (strength : ℕ) → Sound (rule.chain inner bars strength None) (IsBinary N bars strength)
  unfolding rule.chain
  chain_sound bars zero i = weaker (operand_sound bars i) (λ x j o. IsBinary.operand i j x o)
  chain_sound bars (suc t) i = bind (chain_sound bars t i) λ x j b.
      bind (repeat_sound (IsOperation (IsBinary N bars t) (suc t)) (continues (suc t)) _ (operation_sound (suc t) (IsBinary N bars t) (rule.chain inner bars t None) (chain_sound bars t)) j) λ os l m.
      done (IsBinary.chain t i j l x os b (operations bars t j os l m))

  -- The same where the first operand was begun: it stands at an earlier place.
  pub chain_from_sound : (bars : Bool) (i j : Input) (start : Option Started) (F : ℕ → Expr → Input → Type 0)
      → ((t : ℕ) (l m : Input) (x : Expr) (os : List (Operation Expr)) → F t x l → AreOperations N bars (suc t) l os m → F (suc t) (rule.chained x os) m)
      → Meets (rule.operand_from inner bars start j) (F zero) → (strength : ℕ) → Meets (rule.chain inner bars strength start j) (F strength)
  unfolding rule.chain
  chain_from_sound bars i j start F grow first zero = first
  chain_from_sound bars i j start F grow first (suc t) = bind (chain_from_sound bars i j start F grow first t) λ x l b.
      bind (repeat_sound (IsOperation (IsBinary N bars t) (suc t)) (continues (suc t)) _ (operation_sound (suc t) (IsBinary N bars t) (rule.chain inner bars t None) (chain_sound bars t)) l) λ os m h.
      done (grow t l m x os b (operations bars t l os m h))

  pub begun_sound : (bars : Bool) (i j : Input) (start : Started) → Meets (rule.postfixes inner bars start j) (IsValue N bars i)
      → Meets (rule.chain inner bars rule.loosest (Some start) j) (IsBinary N bars rule.loosest i)
  begun_sound bars i j start first = chain_from_sound bars i j (Some start) (λ strength x l. IsBinary N bars strength i x l) (λ t l m x os b h. IsBinary.chain t i l m x os b h)
      (weaker first (λ x l v. IsBinary.operand i l x (IsOperand.value i l x v))) rule.loosest

  -- ---- whole expressions

  pub whole_sound : (bars behind : Bool) → Sound (rule.whole inner bars behind) (IsWhole N bars behind)
  unfolding rule.whole rule.assigned is_kind same_kind
  whole_sound bars behind i = go (kind i) refl
    where
      assigned : (t : Token) (j : Input) → Stands (is_kind k.Variable) i t j → (next : Option Kind) → kind j ≡ next
          → Meets (rule.assigned_by inner bars behind t.line t.text next j) (IsWhole N bars behind i)
      assigned t j st (Some k.Assign) e = bind (opening_sound inner N s k.Assign j) λ mark l o. bind (whole_in_sound inner N s behind l) λ x m h.
          done (IsWhole.assigned i j l m t mark x st o h)
      assigned t j st _ e = weaker (begun_sound bars i j _ (postfixes_sound bars i j t.line (form.Variable t.text) (line_of_stands st) (IsPrimary.variable i j t (a_variable st))))
          (λ x l b. IsWhole.binary i l x (not_before st (at_next (is_kind k.Assign) j e refl)) b)

      go : (next : Option Kind) → kind i ≡ next → Meets (rule.whole_by inner bars behind next i) (IsWhole N bars behind i)
      go (Some k.Variable) e = bind (take_at (is_kind k.Variable) i _ e refl) λ t j st. assigned t j st (kind j) refl
      go _ e = weaker (chain_sound bars rule.loosest i) (λ x j b. IsWhole.binary i j x (not_begins (at_next (is_kind k.Variable) i e refl)) b)

  -- ---- what stands between `${` and `}`

  there_sound : (i j : Input) (t : Token) → Stands is_name i t j → (next : Option Kind) → kind j ≡ next → Meets (rule.variable_or_call_by inner t.text next j) (IsNameThere N i)
  there_sound i j t st (Some k.InterpolationEnd) e = done (IsNameThere.variable i j t st (at_next follows_variable j e refl))
  there_sound i j t st (Some k.TightBracket) e = done (IsNameThere.variable i j t st (at_next follows_variable j e refl))
  there_sound i j t st (Some k.OpenBracket) e = done (IsNameThere.variable i j t st (at_next follows_variable j e refl))
  there_sound i j t st (Some k.Dot) e = done (IsNameThere.variable i j t st (at_next follows_variable j e refl))
  there_sound i j t st _ e = weaker (call_or_name_sound false t.text j) λ f l c. IsNameThere.other i j l t f st (at_next follows_variable j e refl) c

  by_name_sound : (i : Input) → is_name (kind i) ≡ true → Meets (rule.begun_by_name inner i) (IsBinaryThere N rule.loosest i)
  unfolding rule.begun_by_name rule.variable_or_call rule.postfixes
  by_name_sound i is = bind (take_sound is_name i is) λ t j st. bind (there_sound i j t st (kind j) refl) λ f l there.
      chain_from_sound false i l (Some (rule.started (expr_at t.line f))) (λ strength x m. IsBinaryThere N strength i x m) (λ n l m x os b h. IsBinaryThere.chain n i l m x os b h)
      (bind (repeat_sound (IsPostfix N false) begins_postfix _ (postfix_sound false) l) λ ps m more.
      done (subst (λ (line : ℕ). IsBinaryThere N zero i (rule.postfixed (expr_at line f) ps) m) (line_of_stands st)
      (IsBinaryThere.value i m _ (IsValueThere.value i l m f ps there more)))) rule.loosest

  pub interpolated_sound : Sound (rule.interpolated inner) (IsInterpolated N)
  unfolding rule.interpolated
  interpolated_sound i = either_at _ _ (λ e. weaker (by_name_sound i e) λ x j b. IsInterpolated.by_name i j x e b)
      (λ e. weaker (whole_sound false false i) λ x j b. IsInterpolated.other i j x e b)

  -- ---- parameters and options

  default_sound : (bars : Bool) → Sound (rule.default_rule inner bars) (Maybe (IsDefault N bars) (is_kind k.Assign))
  unfolding rule.default_rule is_kind same_kind
  default_sound bars i = go (kind i) refl
    where
      go : (next : Option Kind) → kind i ≡ next → Meets (rule.default_by inner bars next i) (Maybe (IsDefault N bars) (is_kind k.Assign) i)
      go (Some k.Assign) e = bind (opening_sound inner N s k.Assign i) λ mark j o. bind (whole_in_sound inner N s bars j) λ x l h.
          done (Maybe.given i l x (at_next (is_kind k.Assign) i e refl) (IsDefault.default i j l mark x o h))
      go _ e = done (Maybe.left_out i (at_next (is_kind k.Assign) i e refl))

  -- an expression that is a parameter
  as_param : (at : ℕ) (x : Expr) (i : Input) → Meets (param_from at x i) (λ p j. (i ≡ j) × AsParam N at x p)
  unfolding param_from
  as_param at x i = go (out-Form (form_of x)) refl
    where
      simple : (name : List ℕ) (b : Bool) → is_simple name ≡ b → out-Form (form_of x) ≡ Form-F.Variable name
          → Meets ((if b then pure (param_of None name None at) else refuse) i) (λ p j. (i ≡ j) × AsParam N at x p)
      simple name true b e = done (refl, subst (λ (f : Form). AsParam N at (expr_at (line_of x) f) (param_of None name None at)) (sym (variable_form (form_of x) name e)) (AsParam.plain (line_of x) name b))
      simple name false b e = refused

      go : (f : FormLayer) → out-Form (form_of x) ≡ f → Meets (param_by_form at f i) (λ p j. (i ≡ j) × AsParam N at x p)
      go (Form-F.Variable name) e = simple name (is_simple name) refl e
      go (Form-F.Assign name y) e = done (refl, subst (λ (f : Form). AsParam N at (expr_at (line_of x) f) (param_of None name (Some y) at)) (sym (assign_form (form_of x) name y e)) (AsParam.with_default (line_of x) name y))
      go _ e = refused

  pub param_sound : (bars : Bool) → Sound (rule.param_rule inner bars) (IsParam N bars)
  unfolding rule.param_rule rule.typed_param is_kind same_kind
  param_sound bars i = bind (whole_sound false bars i) λ x j h. go x j h (kind j) refl
    where
      go : (x : Expr) (j : Input) → IsWhole N false bars i x j → (next : Option Kind) → kind j ≡ next → Meets (rule.param_by inner bars (line_at i.left) x next j) (IsParam N bars i)
      go x j h (Some k.Variable) e = bind (expect_sound k.Variable j) λ t l st. bind (default_sound bars l) λ last m d. done (IsParam.typed i j l m x t last h st d)
      go x j h _ e = weaker (as_param (line_at i.left) x j) λ p l found.
          subst (λ (m : Input). IsParam N bars i p m) found.0 (IsParam.untyped i j x p h (at_next (is_kind k.Variable) j e refl) found.1)

  pub case_option_sound : Sound (rule.case_option inner) (IsCaseOption N)
  unfolding rule.case_option
  case_option_sound i = bind (separated_some_sound (is_kind k.Colon) k.Comma (IsWhole N false false) _ (whole_sound false false) i) λ xs j h.
      bind (expect_sound k.Colon j) λ colon l c. bind (block_sound l) λ ss m b. done (IsCaseOption.option i j l m colon xs ss h c b)
