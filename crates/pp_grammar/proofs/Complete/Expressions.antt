-- Expressions: what stands there, the rule reads.
use Rattle.std.proofs.Common.{◌≡◌, ℕ, zero, suc, pred, ◌<◌, Bool, true, false, not, List, [], ◌∷◌, ◌++◌, length, Option, Some, None, Ok, refl, ap, ◌∙◌, append-nil, arith}
use Rattle.pp_lexer.specs.declared.kind.Kind.{Kind}
use Rattle.pp_lexer.specs.declared.kind.Kind.TheVariants as k
use Rattle.pp_lexer.specs.Seen.{Token}
use Rattle.pp_tree.specs.declared.operators.BinaryOperator.{BinaryOperator}
use Rattle.pp_tree.specs.declared.operators.PrefixOperator.{PrefixOperator}
use Rattle.pp_tree.specs.declared.expr.Expr.{Expr}
use Rattle.pp_tree.specs.declared.expr.Form.{Form}
use Rattle.pp_tree.specs.declared.expr.Form.TheVariants as form
use Rattle.pp_tree.specs.declared.expr.Operation.{Operation}
use Rattle.pp_tree.specs.declared.expr.Postfix.{Postfix}
use Rattle.pp_tree.specs.Building.{expr_at, operation}
use Rattle.pp_parser.specs.declared.inset.Inset.TheVariants as goal
use Rattle.pp_parser.specs.declared.inset.InsetTree.TheVariants as part
use Rattle.pp_parser.specs.declared.started.Started.{Started}
use Rattle.pp_grammar.proofs.Reader.Input.{Input, Parser, ◌<$>◌, kind, line_at, take, repeat, repeat_from, turns}
use Rattle.pp_grammar.proofs.Reader.Inner.{Inner}
use Rattle.pp_grammar.proofs.Reader.Keys.{noting}
use Rattle.pp_grammar.specs.Kinds.{is_kind, is_name}
use Rattle.pp_grammar.proofs.Reader.Expressions.{operator_at, chained, postfixed, started, access, list, pair_rule, hash, parentheses, named, elsif_rule, if_rule, unless_rule, case_options, case_rule, primary_by, primary, method, selector, postfix_by, postfix_rule, postfixes, value, prefixed, operand_by, operand, operand_from, operation_rule, chain}
use Rattle.pp_grammar.specs.Places.{Within, Stands, Opens, Many, SeparatedSome, before}
use Rattle.pp_grammar.specs.Operators.{prefix_at}
use Rattle.pp_grammar.specs.Expressions.{begins_postfix, is_variable, is_bracket, Inner as InnerExpr, InnerOption, IsCallOrName, IsElsif, IsPair, IsPrimary, IsPostfix, IsValue, IsOperand, IsBinary, AreOperations}
use Rattle.pp_grammar.proofs.Complete.Steps.{stands_falls, kind_there, line_there, word_there, fits_there, take_gives, expect_gives, expect_any_gives}
use Rattle.pp_grammar.proofs.Complete.Lists.{GivenSome, Stops, one_more, repeat_more, repeat_end, repeat_gives, separated_gives, some_gives}
use Rattle.pp_grammar.proofs.Complete.Within.{IsComplete, inner_option_falls, open_gives, whole_in_gives, operand_in_gives}
use Rattle.pp_grammar.proofs.Complete.ExpressionFalls.{pair_falls, elsif_falls, postfix_falls, binary_falls}
use Rattle.pp_grammar.proofs.Complete.Begins.{begins_value, quoted_begins, condition_begins, value_begins}
use Rattle.pp_grammar.proofs.Complete.Parts.{wholes_complete, some_wholes_complete, block_complete, optional_arguments_complete, pair_complete, optional_lambda_complete, call_or_name_complete, quoted_complete, condition_complete, otherwise_complete, elsif_stops, elsif_given, options_stop, options_given}

pub is_false : (b : Bool) → (b ≡ true → ⊥) → b ≡ false
is_false true f = absurd (f refl)
is_false false f = refl

module _ (inner : Inner) (N : Within) (c : IsComplete inner N) where
  -- ---- values

  by_name : (bars : Bool) (next : Option Kind) (i : Input) → is_name next ≡ true → primary_by inner bars next i ≡ named inner bars i
  by_name bars (Some k.Name) i e = refl
  by_name bars (Some k.StatementFunction) i e = refl
  by_name bars _ i e = cc

  by_variable : (bars : Bool) (next : Option Kind) (i : Input) → is_variable next ≡ true → primary_by inner bars next i ≡ ((λ t. form.Variable t.text) <$> take) i
  by_variable bars (Some k.Variable) i e = refl
  by_variable bars (Some k.QualifiedVariable) i e = refl
  by_variable bars _ i e = cc

  by_bracket : (bars : Bool) (bracket : Kind) (i : Input) → is_bracket (Some bracket) ≡ true → primary_by inner bars (Some bracket) i ≡ list inner bracket i
  by_bracket bars k.TightBracket i e = refl
  by_bracket bars k.OpenBracket i e = refl
  by_bracket bars _ i e = cc

  named_complete : {bars : Bool} {i j l : Input} {t : Token} {f : Form} → Stands is_name i t j → IsCallOrName N bars t.text j f l → named inner bars i ≡ Ok (f, l)
  unfolding named
  named_complete s d = rw (take_gives s) (call_or_name_complete inner N c d)

  primary_read : {bars : Bool} {i j : Input} {f : Form} → IsPrimary N bars i f j → primary_by inner bars (kind i) i ≡ Ok (f, j)
  unfolding list hash parentheses if_rule unless_rule case_rule noting
  primary_read {bars = bars} (IsPrimary.named i j l t f s d) = by_name bars (kind i) i (fits_there s) ∙ named_complete s d
  primary_read (IsPrimary.type i j t s) = rw (word_there s, take_gives s) refl
  primary_read {bars = bars} (IsPrimary.variable i j t s) = by_variable bars (kind i) i (fits_there s) ∙ rw (take_gives s) refl
  primary_read (IsPrimary.number i j t s) = rw (word_there s, take_gives s) refl
  primary_read (IsPrimary.text i j t s) = rw (word_there s, take_gives s) refl
  primary_read (IsPrimary.quoted i j f d) = rw (quoted_begins N d) (quoted_complete inner N c d)
  primary_read (IsPrimary.true_word i j t s) = rw (word_there s, take_gives s) refl
  primary_read (IsPrimary.false_word i j t s) = rw (word_there s, take_gives s) refl
  primary_read (IsPrimary.undef i j t s) = rw (word_there s, take_gives s) refl
  primary_read (IsPrimary.default i j t s) = rw (word_there s, take_gives s) refl
  primary_read {bars = bars} (IsPrimary.list i j l m bracket opener closer xs e o ds s) =
      rw (word_there o.token, by_bracket bars bracket i e, open_gives inner N c bracket o, wholes_complete inner N c k.CloseBracket ds, expect_gives k.CloseBracket s) refl
  primary_read (IsPrimary.hash i j l m opener closer ps o ds s) =
      rw (word_there o.token, open_gives inner N c k.OpenBrace o, separated_gives (IsPair N) (λ g h p d. pair_falls N c.falling g h p d) (is_kind k.CloseBrace) k.Comma (pair_rule inner) (pair_complete inner N c) ds, expect_gives k.CloseBrace s, c.keys) refl
  primary_read (IsPrimary.parentheses i j l m opener closer x o d s) = rw (word_there o.token, open_gives inner N c k.OpenParen o, whole_in_gives inner N c false j l x d, expect_gives k.CloseParen s) refl
  primary_read (IsPrimary.if_word i j l m n x ss es last d b ds e) =
      rw (condition_begins N d, condition_complete inner N c k.If d, block_complete inner N c b, repeat_gives (IsElsif N) (λ g h y r. elsif_falls N c.falling g h y r) (is_kind k.Elsif) (elsif_rule inner) (elsif_stops inner N c) (elsif_given inner N c) ds, otherwise_complete inner N c e) refl
  primary_read (IsPrimary.unless_word i j l m x ss last d b e) = rw (condition_begins N d, condition_complete inner N c k.Unless d, block_complete inner N c b, otherwise_complete inner N c e) refl
  primary_read (IsPrimary.case_word i j l m n opener closer x os d o ds s) =
      rw (condition_begins N d, condition_complete inner N c k.Case d, open_gives inner N c k.OpenBrace o, repeat_gives (InnerOption N) (inner_option_falls N c.falling) (λ next. not (is_kind k.CloseBrace next)) (case_options inner) (options_stop inner N c) (options_given inner N c) ds, expect_gives k.CloseBrace s) refl

  primary_complete : {bars : Bool} {i j : Input} {f : Form} → IsPrimary N bars i f j → primary inner bars i ≡ Ok (expr_at (line_at i.left) f, j)
  unfolding primary
  primary_complete d = rw (primary_read d) refl

  -- ---- what follows a value

  no_postfix : (bars : Bool) (next : Option Kind) (i : Input) → begins_postfix next ≡ false → postfix_by inner bars next i ≡ Ok (None, i)
  no_postfix bars (Some k.TightBracket) i e = cc
  no_postfix bars (Some k.Dot) i e = cc
  no_postfix bars (Some k.Question) i e = cc
  no_postfix bars _ i e = refl

  postfix_stops : (bars : Bool) → Stops (postfix_rule inner bars) begins_postfix
  unfolding postfix_rule
  postfix_stops bars i e = no_postfix bars (kind i) i e

  pub access_complete : {i j l m : Input} {opener closer : Token} {xs : List Expr} → Opens N k.TightBracket i opener j → SeparatedSome (is_kind k.CloseBracket) k.Comma (InnerExpr N false) j xs l → Stands (is_kind k.CloseBracket) l closer m
      → access inner i ≡ Ok (xs, m)
  unfolding access
  access_complete o ds s = rw (open_gives inner N c k.TightBracket o, some_wholes_complete inner N c k.CloseBracket ds, expect_gives k.CloseBracket s) refl

  postfix_given : (bars : Bool) → GivenSome (postfix_rule inner bars) begins_postfix (IsPostfix N bars)
  unfolding postfix_rule method selector
  postfix_given bars _ _ _ begun (IsPostfix.access i j l m opener closer xs o ds s) = rw (word_there o.token, access_complete o ds s) refl
  postfix_given bars _ _ _ begun (IsPostfix.method i j l m n dot name xs last s e ds lambda) =
      rw (word_there s, expect_gives k.Dot s, expect_any_gives e, optional_arguments_complete inner N c ds, optional_lambda_complete inner N c bars lambda) refl
  postfix_given bars _ _ _ begun (IsPostfix.selector i j l m n mark opener closer ps s o ds e) =
      rw (word_there s, expect_gives k.Question s, open_gives inner N c k.OpenBrace o, some_gives (IsPair N) (λ g h p d. pair_falls N c.falling g h p d) (is_kind k.CloseBrace) k.Comma (pair_rule inner) (pair_complete inner N c) ds, expect_gives k.CloseBrace e) refl

  -- behind a value and what followed it so far
  pub postfixes_complete : (bars : Bool) (s : Started) {i j : Input} {ps : List Postfix} → Many (IsPostfix N bars) begins_postfix i ps j → postfixes inner bars s i ≡ Ok (postfixed s.base (s.postfixes ++ ps), j)
  unfolding postfixes
  postfixes_complete bars s ds = rw (repeat_gives (IsPostfix N bars) (postfix_falls N c.falling bars) begins_postfix (postfix_rule inner bars) (postfix_stops bars) (postfix_given bars) ds) refl

  pub value_complete : {bars : Bool} {i j : Input} {x : Expr} → IsValue N bars i x j → value inner bars i ≡ Ok (x, j)
  unfolding value
  value_complete {bars = bars} (IsValue.value i j l f ps d ds) = rw (primary_complete d) (postfixes_complete bars (started (expr_at (line_at i.left) f)) ds)

  -- ---- operands

  by_prefix : (bars : Bool) (mark : Kind) (o : PrefixOperator) (i : Input) → prefix_at (Some mark) ≡ Some o → operand_by inner bars (Some mark) i ≡ prefixed inner bars mark o i
  by_prefix bars k.Bang o i e = ap (λ x. prefixed inner bars k.Bang x i) (cc)
  by_prefix bars k.Minus o i e = ap (λ x. prefixed inner bars k.Minus x i) (cc)
  by_prefix bars k.Star o i e = ap (λ x. prefixed inner bars k.Star x i) (cc)
  by_prefix bars _ o i e = cc

  by_value : (bars : Bool) (next : Option Kind) (i : Input) → begins_value next ≡ true → operand_by inner bars next i ≡ value inner bars i
  by_value bars (Some k.Bang) i e = cc
  by_value bars (Some k.Minus) i e = cc
  by_value bars (Some k.Star) i e = cc
  by_value bars _ i e = refl

  prefixed_complete : (bars : Bool) (mark : Kind) (o : PrefixOperator) {i j l : Input} {t : Token} {x : Expr} → Opens N mark i t j → N.reads (goal.Operand bars) j (part.Expr x) l → prefixed inner bars mark o i ≡ Ok (expr_at t.line (form.Prefix o x), l)
  unfolding prefixed
  prefixed_complete bars mark o {j = j} {l = l} {x = x} s d = rw (open_gives inner N c mark s, operand_in_gives inner N c bars j l x d, line_there s.token) refl

  pub operand_complete : {bars : Bool} {i j : Input} {x : Expr} → IsOperand N bars i x j → operand inner bars i ≡ Ok (x, j)
  unfolding operand
  operand_complete {bars = bars} (IsOperand.prefixed i j l mark t o x e s d) = rw (word_there s.token) (by_prefix bars mark o i e ∙ prefixed_complete bars mark o s d)
  operand_complete {bars = bars} (IsOperand.value i j x d) = by_value bars (kind i) i (value_begins N d) ∙ value_complete d

  -- ---- operators

  -- Operands and operators of one strength and tighter: the first operand, and what is read where it is read, be it begun or not.
  pub record Chained (bars : Bool) (n : ℕ) (i : Input) (x : Expr) (j : Input) : Type 0 where
    pub first : Expr
    pub behind : Input
    pub operand : IsOperand N bars i first behind
    pub goes : (start : Option Started) (h : Input) → operand_from inner bars start h ≡ Ok (first, behind) → chain inner bars n start h ≡ Ok (x, j)

  no_operation : (tighter : Parser Expr) (strength : ℕ) (i : Input) → operator_at strength (kind i) ≡ None → operation_rule inner tighter strength i ≡ Ok (None, i)
  unfolding operation_rule
  no_operation tighter strength i e = rw e refl

  taken : {t : Token} {i j : Input} → i ≡ before t j → Stands (λ next. true) i t j
  taken is = record { is = is; kind = refl }

  an_operation : (tighter : Parser Expr) (strength : ℕ) {i j l : Input} {t : Token} {o : BinaryOperator} {x : Expr} → Stands (λ next. true) i t j → operator_at strength (Some t.kind) ≡ Some o → tighter j ≡ Ok (x, l)
      → operation_rule inner tighter strength i ≡ Ok (Some (operation o x), l)
  unfolding operation_rule
  an_operation tighter strength s e d = rw (kind_there s, e, take_gives s, d) refl

  -- one strength more loosely
  pub chain_more : (bars : Bool) (tighter : ℕ) (start : Option Started) (i : Input) {j l : Input} {x : Expr} {os : List (Operation Expr)} → chain inner bars tighter start i ≡ Ok (x, j)
      → repeat (operation_rule inner (chain inner bars tighter None) (suc tighter)) j ≡ Ok (os, l) → chain inner bars (suc tighter) start i ≡ Ok (chained x os, l)
  unfolding chain
  chain_more bars tighter start i d ds = rw (d, ds) refl

  pub repeat_all : {A : Type 0} (step : Parser (Option A)) (i : Input) {j : Input} {xs : List A} → repeat_from step (turns i) [] i ≡ Ok (xs, j) → repeat step i ≡ Ok (xs, j)
  unfolding repeat
  repeat_all step i e = e

  single : (bars : Bool) {i j : Input} {x : Expr} → IsOperand N bars i x j → Chained bars zero i x j
  unfolding chain
  single bars {j = j} {x = x} d = record { first = x; behind = j; operand = d; goes = λ start h e. e }

  looser : (bars : Bool) (tighter : ℕ) {i j l : Input} {x : Expr} {os : List (Operation Expr)} → Chained bars tighter i x j
      → repeat_from (operation_rule inner (chain inner bars tighter None) (suc tighter)) (turns j) [] j ≡ Ok (os, l) → Chained bars (suc tighter) i (chained x os) l
  looser bars tighter {j = j} below ds = record {
    first = below.first;
    behind = below.behind;
    operand = below.operand;
    goes = λ start h e. chain_more bars tighter start h (below.goes start h e) (repeat_all (operation_rule inner (chain inner bars tighter None) (suc tighter)) j ds);
  }

  right : (bars : Bool) (tighter : ℕ) {i j : Input} {x : Expr} → Chained bars tighter i x j → chain inner bars tighter None i ≡ Ok (x, j)
  right bars tighter {i = i} d = d.goes None i (operand_complete d.operand)

  mutual
    pub chained_from : {bars : Bool} {n : ℕ} {i j : Input} {x : Expr} → IsBinary N bars n i x j → Chained bars n i x j
    chained_from {bars = bars} (IsBinary.operand i j x d) = single bars d
    chained_from {bars = bars} (IsBinary.chain tighter i j l x os d ds) = looser bars tighter (chained_from d) (operations ds (turns j) (omega arith) [])

    pub operations : {bars : Bool} {n : ℕ} {i j : Input} {os : List (Operation Expr)} → AreOperations N bars n i os j → (m : ℕ) → length i.left < m → (found : List (Operation Expr))
        → repeat_from (operation_rule inner (chain inner bars (pred n) None) n) m found i ≡ Ok (found ++ os, j)
    operations d zero below found = absurd (omega arith)
    operations {bars = bars} (AreOperations.none n i e) (suc m) below found = repeat_end (operation_rule inner (chain inner bars (pred n) None) n) m found i (no_operation (chain inner bars (pred n) None) n i e) ∙ rw append-nil refl
    operations {bars = bars} (AreOperations.more tighter i j l h t o x os is e d ds) (suc m) below found =
        let step = operation_rule inner (chain inner bars tighter None) (suc tighter) in
        let less : length l.left < m = omega (arith, stands_falls (taken is), binary_falls N c.falling d) in
        repeat_more step m found i l (operation o x) (an_operation (chain inner bars tighter None) (suc tighter) (taken is) e (right bars tighter (chained_from d)))
        ∙ operations ds m less (found ++ operation o x ∷ []) ∙ ap (λ ys. Ok (ys, h)) (one_more found (operation o x) os)
