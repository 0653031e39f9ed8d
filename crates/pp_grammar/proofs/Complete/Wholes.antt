-- Whole expressions, and what is made of them: what stands between `${` and `}`, parameters and the options of a `case`.
use Rattle.std.proofs.Common.{◌≡◌, ℕ, zero, suc, Bool, true, false, List, [], Option, Some, None, Ok, refl, sym, ap, ◌∙◌, arith}
use Rattle.pp_lexer.specs.declared.kind.Kind.{Kind}
use Rattle.pp_lexer.specs.declared.kind.Kind.TheVariants as k
use Rattle.pp_lexer.specs.Seen.{Token}
use Rattle.pp_tree.specs.declared.expr.Expr.{Expr}
use Rattle.pp_tree.specs.declared.collector.Test.TheOpen.{Form-F}
use Rattle.pp_tree.specs.declared.expr.Form.{Form, out-Form, out-roll-Form}
use Rattle.pp_tree.specs.declared.expr.Form.TheVariants as form
use Rattle.pp_tree.specs.declared.expr.Operation.{Operation}
use Rattle.pp_tree.specs.declared.param.Param.{Param}
use Rattle.pp_tree.specs.declared.conditions.CaseOption.{CaseOption}
use Rattle.pp_tree.specs.Building.{expr_at}
use Rattle.pp_parser.specs.declared.started.Started.{Started}
use Rattle.pp_grammar.proofs.Reader.Input.{Input, kind, line_at, turns}
use Rattle.pp_grammar.proofs.Reader.Inner.{Inner}
use Rattle.pp_grammar.specs.Kinds.{is_kind, same_kind, is_name}
use Rattle.pp_grammar.proofs.Reader.Params.{param_from}
use Rattle.pp_grammar.proofs.Reader.Expressions.{loosest, chained, postfixed, started, call_or_name, operand_from, operation_rule, chain, assigned_by, assigned, whole_by, whole, variable_or_call_by, variable_or_call, begun_by_name, interpolated, default_by, default_rule, typed_param, param_by, param_rule, case_option}
use Rattle.pp_grammar.specs.Places.{Within, Stands, Begins}
use Rattle.pp_grammar.specs.Expressions.{is_variable, follows_variable, AreOperations, IsWhole, IsNameThere, IsValueThere, IsBinaryThere, IsInterpolated, IsDefault, AsParam, IsParam, IsCaseOption}
use Rattle.pp_grammar.proofs.Complete.Steps.{kind_there, line_there, word_there, kind_is, fits_kind, take_gives, expect_gives}
use Rattle.pp_grammar.proofs.Complete.Lists.{GivenSome, Stops, some_gives, maybe_gives}
use Rattle.pp_grammar.proofs.Complete.Within.{IsComplete, open_gives, whole_in_gives}
use Rattle.pp_grammar.proofs.Complete.ExpressionFalls.{whole_falls}
use Rattle.pp_grammar.proofs.Complete.Begins.{Valued, valued, sorted, TokenThere, variable_sort}
use Rattle.pp_grammar.proofs.Complete.Parts.{block_complete, call_or_name_complete}
use Rattle.pp_grammar.proofs.Complete.Expressions.{is_false, Chained, chained_from, chain_more, repeat_all, operations, operand_complete, postfixes_complete}

-- a form is what it was made of
a_variable_is : (name : List ℕ) → out-Form (form.Variable name) ≡ Form-F.Variable name
a_variable_is name = ap out-Form (sym (form.rolls-Variable name)) ∙ out-roll-Form (Form-F.Variable name)

an_assignment_is : (name : List ℕ) (x : Expr) → out-Form (form.Assign name x) ≡ Form-F.Assign name x
an_assignment_is name x = ap out-Form (sym (form.rolls-Assign name x)) ∙ out-roll-Form (Form-F.Assign name x)

module _ (inner : Inner) (N : Within) (c : IsComplete inner N) where
  -- A chain whose first operand is a value, of which what stands before its postfixes was read already.
  pub goes_behind : (bars : Bool) (n : ℕ) {i j : Input} {x : Expr} (d : Chained inner N c bars n i x j) (v : Valued N bars i d.first d.behind) (line : ℕ) → line_at i.left ≡ line
      → chain inner bars n (Some (started (expr_at line v.form))) v.behind ≡ Ok (x, j)
  goes_behind bars n d v line e =
      let same : postfixed (expr_at line v.form) v.postfixes ≡ d.first = rw (v.is, e) refl in
      d.goes (Some (started (expr_at line v.form))) v.behind (postfixes_complete inner N c bars (started (expr_at line v.form)) v.more ∙ ap (λ y. Ok (y, d.behind)) same)

  -- ---- whole expressions

  no_variable : (bars behind : Bool) (next : Option Kind) (i : Input) → is_kind k.Variable next ≡ false → whole_by inner bars behind next i ≡ chain inner bars loosest None i
  unfolding is_kind same_kind
  no_variable bars behind (Some k.Variable) i e = cc
  no_variable bars behind _ i e = refl

  no_assign : (bars behind : Bool) (at : ℕ) (name : List ℕ) (next : Option Kind) (i : Input) → is_kind k.Assign next ≡ false
      → assigned_by inner bars behind at name next i ≡ chain inner bars loosest (Some (started (expr_at at (form.Variable name)))) i
  unfolding is_kind same_kind
  no_assign bars behind at name (Some k.Assign) i e = cc
  no_assign bars behind at name _ i e = refl

  -- a variable that no `=` follows
  behind_variable : (bars behind : Bool) {i j l : Input} {t : Token} {x : Expr} → Stands (is_kind k.Variable) i t j → (Begins (is_kind k.Variable) (is_kind k.Assign) i → ⊥)
      → chain inner bars loosest (Some (started (expr_at t.line (form.Variable t.text)))) j ≡ Ok (x, l) → whole inner bars behind i ≡ Ok (x, l)
  unfolding whole assigned
  behind_variable bars behind {j = j} {t = t} s alone d =
      let other = is_false (is_kind k.Assign (kind j)) (λ e. alone (record { token = t; behind = j; stands = s; next = e })) in
      rw (word_there s, take_gives s) (no_assign bars behind t.line t.text (kind j) j other ∙ d)

  at_variable : (bars behind : Bool) {i j l : Input} {f : Form} {x : Expr} → kind i ≡ Some k.Variable → (Begins (is_kind k.Variable) (is_kind k.Assign) i → ⊥) → TokenThere N is_variable (λ said. form.Variable said) i f j
      → ((line : ℕ) → line_at i.left ≡ line → chain inner bars loosest (Some (started (expr_at line f))) j ≡ Ok (x, l)) → whole inner bars behind i ≡ Ok (x, l)
  at_variable bars behind {i = i} {j = j} {l = l} {x = x} e alone there d =
      let s : Stands (is_kind k.Variable) i there.token j = record { is = there.stands.is; kind = fits_kind k.Variable (sym (kind_there there.stands) ∙ e) } in
      let d' : chain inner bars loosest (Some (started (expr_at there.token.line (form.Variable there.token.text)))) j ≡ Ok (x, l) = rw there.is at (d there.token.line (line_there s)) in
      behind_variable bars behind s alone d'

  binary_whole : (bars behind : Bool) (b : Bool) {i j : Input} {x : Expr} → is_kind k.Variable (kind i) ≡ b → (Begins (is_kind k.Variable) (is_kind k.Assign) i → ⊥) → Chained inner N c bars loosest i x j → whole inner bars behind i ≡ Ok (x, j)
  unfolding whole
  binary_whole bars behind false {i = i} e alone d = no_variable bars behind (kind i) i e ∙ d.goes None i (operand_complete inner N c d.operand)
  binary_whole bars behind true {i = i} e alone d =
      let there = kind_is k.Variable (kind i) e in
      let v = valued N d.operand (rw there refl) in
      at_variable bars behind there alone (variable_sort N (sorted N v.primary) (rw there refl)) (goes_behind bars loosest d v)

  pub whole_complete : {bars behind : Bool} {i j : Input} {x : Expr} → IsWhole N bars behind i x j → whole inner bars behind i ≡ Ok (x, j)
  unfolding whole assigned
  whole_complete {behind = behind} (IsWhole.assigned i j l m t mark x s o d) = rw (word_there s, take_gives s, word_there o.token, open_gives inner N c k.Assign o, whole_in_gives inner N c behind l m x d) refl
  whole_complete {bars = bars} {behind = behind} (IsWhole.binary i j x alone d) = binary_whole bars behind (is_kind k.Variable (kind i)) refl alone (chained_from inner N c d)

  -- ---- what stands between `${` and `}`

  a_variable : (name : List ℕ) (next : Option Kind) (i : Input) → follows_variable next ≡ true → variable_or_call_by inner name next i ≡ Ok (form.Variable name, i)
  a_variable name (Some k.InterpolationEnd) i e = refl
  a_variable name (Some k.TightBracket) i e = refl
  a_variable name (Some k.OpenBracket) i e = refl
  a_variable name (Some k.Dot) i e = refl
  a_variable name _ i e = cc

  a_call : (name : List ℕ) (next : Option Kind) (i : Input) → follows_variable next ≡ false → variable_or_call_by inner name next i ≡ call_or_name inner false name i
  a_call name (Some k.InterpolationEnd) i e = cc
  a_call name (Some k.TightBracket) i e = cc
  a_call name (Some k.OpenBracket) i e = cc
  a_call name (Some k.Dot) i e = cc
  a_call name _ i e = refl

  record FormThere (i : Input) (f : Form) (l : Input) : Type 0 where
    token : Token
    behind : Input
    stands : Stands is_name i token behind
    read : variable_or_call inner token.text behind ≡ Ok (f, l)

  name_there : {i j : Input} {f : Form} → IsNameThere N i f j → FormThere i f j
  unfolding variable_or_call
  name_there (IsNameThere.variable i j t s e) = record { token = t; behind = j; stands = s; read = a_variable t.text (kind j) j e }
  name_there (IsNameThere.other i j l t f s e d) = record { token = t; behind = j; stands = s; read = a_call t.text (kind j) j e ∙ call_or_name_complete inner N c d }

  record ChainedThere (n : ℕ) (i : Input) (x : Expr) (j : Input) : Type 0 where
    first : Expr
    behind : Input
    value : IsValueThere N i first behind
    goes : (start : Option Started) (h : Input) → operand_from inner false start h ≡ Ok (first, behind) → chain inner false n start h ≡ Ok (x, j)

  single_there : {i j : Input} {x : Expr} → IsValueThere N i x j → ChainedThere zero i x j
  unfolding chain
  single_there {j = j} {x = x} d = record { first = x; behind = j; value = d; goes = λ start h e. e }

  looser_there : (tighter : ℕ) {i j l : Input} {x : Expr} {os : List (Operation Expr)} → ChainedThere tighter i x j → AreOperations N false (suc tighter) j os l → ChainedThere (suc tighter) i (chained x os) l
  looser_there tighter {j = j} below ds = record {
    first = below.first;
    behind = below.behind;
    value = below.value;
    goes = λ start h e. chain_more inner N c false tighter start h (below.goes start h e) (repeat_all inner N c (operation_rule inner (chain inner false tighter None) (suc tighter)) j (operations inner N c ds (turns j) (omega arith) []));
  }

  chained_there : {n : ℕ} {i j : Input} {x : Expr} → IsBinaryThere N n i x j → ChainedThere n i x j
  chained_there (IsBinaryThere.value i j x d) = single_there d
  chained_there (IsBinaryThere.chain tighter i j l x os d ds) = looser_there tighter (chained_there d) ds

  value_read : {i j l : Input} {x y : Expr} → IsValueThere N i y j → ((start : Option Started) (h : Input) → operand_from inner false start h ≡ Ok (y, j) → chain inner false loosest start h ≡ Ok (x, l)) → begun_by_name inner i ≡ Ok (x, l)
  unfolding begun_by_name
  value_read (IsValueThere.value i j l f ps d ds) goes =
      let there = name_there d in
      let base = started (expr_at there.token.line f) in
      rw (take_gives there.stands, there.read) (goes (Some base) j (postfixes_complete inner N c false base ds ∙ rw (line_there there.stands) refl))

  named_read : {i j : Input} {x : Expr} → ChainedThere loosest i x j → begun_by_name inner i ≡ Ok (x, j)
  named_read d = value_read d.value d.goes

  pub interpolated_complete : {i j : Input} {x : Expr} → IsInterpolated N i x j → interpolated inner i ≡ Ok (x, j)
  unfolding interpolated
  interpolated_complete (IsInterpolated.by_name i j x e d) = rw e (named_read (chained_there d))
  interpolated_complete (IsInterpolated.other i j x e d) = rw e (whole_complete d)

  -- ---- parameters

  no_default : (bars : Bool) (next : Option Kind) (i : Input) → is_kind k.Assign next ≡ false → default_by inner bars next i ≡ Ok (None, i)
  unfolding is_kind same_kind
  no_default bars (Some k.Assign) i e = cc
  no_default bars _ i e = refl

  default_stops : (bars : Bool) → Stops (default_rule inner bars) (is_kind k.Assign)
  unfolding default_rule
  default_stops bars i e = no_default bars (kind i) i e

  default_given : (bars : Bool) → GivenSome (default_rule inner bars) (is_kind k.Assign) (IsDefault N bars)
  unfolding default_rule
  default_given bars _ _ _ begun (IsDefault.default i j l mark x o d) = rw (word_there o.token, open_gives inner N c k.Assign o, whole_in_gives inner N c bars j l x d) refl

  no_type : (bars : Bool) (at : ℕ) (x : Expr) (next : Option Kind) (i : Input) → is_kind k.Variable next ≡ false → param_by inner bars at x next i ≡ param_from at x i
  unfolding is_kind same_kind
  no_type bars at x (Some k.Variable) i e = cc
  no_type bars at x _ i e = refl

  as_param : {at : ℕ} {x : Expr} {p : Param Expr} (i : Input) → AsParam N at x p → param_from at x i ≡ Ok (p, i)
  unfolding param_from
  as_param i (AsParam.plain line name e) = rw (a_variable_is name, e) refl
  as_param i (AsParam.with_default line name x) = rw (an_assignment_is name x) refl

  pub param_complete : {bars : Bool} {i j : Input} {p : Param Expr} → IsParam N bars i p j → param_rule inner bars i ≡ Ok (p, j)
  unfolding param_rule typed_param
  param_complete {bars = bars} (IsParam.untyped i j x p d e q) = rw (whole_complete d) (no_type bars (line_at i.left) x (kind j) j e ∙ as_param j q)
  param_complete {bars = bars} (IsParam.typed i j l m type t last d s e) =
      rw (whole_complete d, word_there s, expect_gives k.Variable s, maybe_gives (IsDefault N bars) (is_kind k.Assign) (default_rule inner bars) (default_stops bars) (default_given bars) e) refl

  -- ---- options of a `case`

  pub case_option_complete : {i j : Input} {o : CaseOption} → IsCaseOption N i o j → case_option inner i ≡ Ok (o, j)
  unfolding case_option
  case_option_complete (IsCaseOption.option i j l m colon xs ss ds s b) =
      rw (some_gives (IsWhole N false false) (λ g h x d. whole_falls N c.falling d) (is_kind k.Colon) k.Comma (whole inner false false) (λ g h x d. whole_complete d) ds, expect_gives k.Colon s, block_complete inner N c b) refl
