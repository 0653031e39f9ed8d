-- What an expression begins with: which token stands at the place of a value, and what that says of the value.
use Rattle.std.proofs.Common.{◌≡◌, ℕ, Bool, true, false, List, Option, Some, refl}
use Rattle.pp_lexer.specs.declared.kind.Kind.{Kind}
use Rattle.pp_lexer.specs.declared.kind.Kind.TheVariants as k
use Rattle.pp_lexer.specs.Seen.{Token}
use Rattle.pp_tree.specs.declared.operators.PrefixOperator.{PrefixOperator}
use Rattle.pp_tree.specs.declared.expr.Expr.{Expr}
use Rattle.pp_tree.specs.declared.expr.Form.{Form}
use Rattle.pp_tree.specs.declared.expr.Form.TheVariants as form
use Rattle.pp_tree.specs.declared.expr.Postfix.{Postfix}
use Rattle.pp_tree.specs.Building.{expr_at}
use Rattle.pp_grammar.proofs.Reader.Input.{Input, kind, line_at}
use Rattle.pp_grammar.specs.Kinds.{is_kind, is_name, begins_expression}
use Rattle.pp_grammar.proofs.Reader.Expressions.{postfixed}
use Rattle.pp_grammar.specs.Places.{Within, Stands, Many}
use Rattle.pp_grammar.specs.Operators.{prefix_at}
use Rattle.pp_grammar.specs.Expressions.{begins_postfix, is_variable, is_bracket, IsCallOrName, IsQuoted, IsCondition, IsPrimary, IsPostfix, IsValue, IsOperand, IsBinary, IsWhole}
use Rattle.pp_grammar.proofs.Complete.Steps.{word_there, fits_there}

-- what a value begins with that is no name, type or variable
abbrev pub begins_other : Option Kind → Bool
begins_other (Some k.Number) = true
begins_other (Some k.Text) = true
begins_other (Some k.TextBegin) = true
begins_other (Some k.True) = true
begins_other (Some k.False) = true
begins_other (Some k.Undef) = true
begins_other (Some k.Default) = true
begins_other (Some k.TightBracket) = true
begins_other (Some k.OpenBracket) = true
begins_other (Some k.OpenBrace) = true
begins_other (Some k.OpenParen) = true
begins_other (Some k.If) = true
begins_other (Some k.Unless) = true
begins_other (Some k.Case) = true
begins_other _ = false

-- what a value begins with
abbrev pub begins_value : Option Kind → Bool
begins_value (Some k.Name) = true
begins_value (Some k.StatementFunction) = true
begins_value (Some k.Type) = true
begins_value (Some k.Variable) = true
begins_value (Some k.QualifiedVariable) = true
begins_value next = begins_other next

-- ---- these exclude one another

pub name_or_other : (next : Option Kind) → is_name next ≡ true → begins_other next ≡ true → ⊥
name_or_other (Some k.Name) a b = cc
name_or_other _ a b = cc

pub type_or_other : (next : Option Kind) → next ≡ Some k.Type → begins_other next ≡ true → ⊥
type_or_other (Some k.Type) a b = cc
type_or_other _ a b = cc

pub variable_or_other : (next : Option Kind) → is_variable next ≡ true → begins_other next ≡ true → ⊥
variable_or_other (Some k.Variable) a b = cc
variable_or_other _ a b = cc

pub name_or_type : (next : Option Kind) → is_name next ≡ true → next ≡ Some k.Type → ⊥
name_or_type (Some k.Name) a b = cc
name_or_type _ a b = cc

pub name_or_variable : (next : Option Kind) → is_name next ≡ true → is_variable next ≡ true → ⊥
name_or_variable (Some k.Name) a b = cc
name_or_variable _ a b = cc

pub type_or_variable : (next : Option Kind) → next ≡ Some k.Type → is_variable next ≡ true → ⊥
type_or_variable (Some k.Variable) a b = cc
type_or_variable _ a b = cc

pub prefix_or_value : (next : Option Kind) (o : PrefixOperator) → prefix_at next ≡ Some o → begins_value next ≡ true → ⊥
prefix_or_value (Some k.Bang) o a b = cc
prefix_or_value (Some k.Minus) o a b = cc
prefix_or_value (Some k.Star) o a b = cc
prefix_or_value _ o a b = cc

-- ---- and each is what a value begins with

pub names_begin : (next : Option Kind) → is_name next ≡ true → begins_value next ≡ true
names_begin (Some k.Name) a = refl
names_begin (Some k.StatementFunction) a = refl
names_begin _ a = cc

variables_begin : (next : Option Kind) → is_variable next ≡ true → begins_value next ≡ true
variables_begin (Some k.Variable) a = refl
variables_begin (Some k.QualifiedVariable) a = refl
variables_begin _ a = cc

others_begin : (next : Option Kind) → begins_other next ≡ true → begins_value next ≡ true
others_begin (Some k.Name) a = cc
others_begin (Some k.StatementFunction) a = cc
others_begin (Some k.Type) a = cc
others_begin (Some k.Variable) a = cc
others_begin (Some k.QualifiedVariable) a = cc
others_begin _ a = a

values_begin : (next : Option Kind) → begins_value next ≡ true → begins_expression next ≡ true
values_begin (Some k.Bang) a = refl
values_begin (Some k.Minus) a = refl
values_begin (Some k.Star) a = refl
values_begin _ a = a

prefixes_begin : (next : Option Kind) (o : PrefixOperator) → prefix_at next ≡ Some o → begins_expression next ≡ true
prefixes_begin (Some k.Bang) o a = refl
prefixes_begin (Some k.Minus) o a = refl
prefixes_begin (Some k.Star) o a = refl
prefixes_begin _ o a = cc

brackets_begin : (bracket : Kind) → is_bracket (Some bracket) ≡ true → begins_other (Some bracket) ≡ true
brackets_begin k.TightBracket a = refl
brackets_begin k.OpenBracket a = refl
brackets_begin _ a = cc

module _ (N : Within) where
  -- the sorts of values by their first token
  pub data Sort (bars : Bool) : Input → Form → Input → Type 0 where
    name : (i j l : Input) (t : Token) (f : Form) → Stands is_name i t j → IsCallOrName N bars t.text j f l → Sort bars i f l
    type : (i j : Input) (t : Token) → Stands (is_kind k.Type) i t j → Sort bars i (form.Type t.text) j
    variable : (i j : Input) (t : Token) → Stands is_variable i t j → Sort bars i (form.Variable t.text) j
    other : (i j : Input) (f : Form) → begins_other (kind i) ≡ true → Sort bars i f j

  pub quoted_begins : {i j : Input} {f : Form} → IsQuoted N i f j → kind i ≡ Some k.TextBegin
  quoted_begins (IsQuoted.plain i j l m opener closer said s r e) = word_there s
  quoted_begins (IsQuoted.interpolated i j l m n opener closer said more s r go ds e) = word_there s

  pub condition_begins : {word : Kind} {i j : Input} {x : Expr} → IsCondition N word i x j → kind i ≡ Some word
  condition_begins (IsCondition.condition i j l t x o d) = word_there o.token

  pub sorted : {bars : Bool} {i j : Input} {f : Form} → IsPrimary N bars i f j → Sort bars i f j
  sorted (IsPrimary.named i j l t f s d) = Sort.name i j l t f s d
  sorted (IsPrimary.type i j t s) = Sort.type i j t s
  sorted (IsPrimary.variable i j t s) = Sort.variable i j t s
  sorted (IsPrimary.number i j t s) = Sort.other i j (form.Number t.number) (rw (word_there s) refl)
  sorted (IsPrimary.text i j t s) = Sort.other i j (form.Text t.text) (rw (word_there s) refl)
  sorted (IsPrimary.quoted i j f d) = Sort.other i j f (rw (quoted_begins d) refl)
  sorted (IsPrimary.true_word i j t s) = Sort.other i j (form.Flag true) (rw (word_there s) refl)
  sorted (IsPrimary.false_word i j t s) = Sort.other i j (form.Flag false) (rw (word_there s) refl)
  sorted (IsPrimary.undef i j t s) = Sort.other i j form.Undef (rw (word_there s) refl)
  sorted (IsPrimary.default i j t s) = Sort.other i j form.Default (rw (word_there s) refl)
  sorted {j = h} {f = f} (IsPrimary.list i j l m bracket opener closer xs e o ds s) = Sort.other i m (form.List xs) (rw (word_there o.token) (brackets_begin bracket e))
  sorted {j = h} (IsPrimary.hash i j l m opener closer ps o ds s) = Sort.other i h (form.Hash ps) (rw (word_there o.token) refl)
  sorted (IsPrimary.parentheses i j l m opener closer x o d s) = Sort.other i m (form.Parentheses x) (rw (word_there o.token) refl)
  sorted {f = f} (IsPrimary.if_word i j l m n x ss es last d b ds e) = Sort.other i n f (rw (condition_begins d) refl)
  sorted {f = f} (IsPrimary.unless_word i j l m x ss last d b e) = Sort.other i m f (rw (condition_begins d) refl)
  sorted {f = f} (IsPrimary.case_word i j l m n opener closer x os d o ds s) = Sort.other i n f (rw (condition_begins d) refl)

  sort_begins : {bars : Bool} {i j : Input} {f : Form} → Sort bars i f j → begins_value (kind i) ≡ true
  sort_begins (Sort.name i j l t f s d) = names_begin (kind i) (fits_there s)
  sort_begins (Sort.type i j t s) = rw (word_there s) refl
  sort_begins (Sort.variable i j t s) = variables_begin (kind i) (fits_there s)
  sort_begins (Sort.other i j f e) = others_begin (kind i) e

  pub primary_begins : {bars : Bool} {i j : Input} {f : Form} → IsPrimary N bars i f j → begins_value (kind i) ≡ true
  primary_begins d = sort_begins (sorted d)

  -- ---- what a name, a type or a variable begins

  pub record NameThere (bars : Bool) (i : Input) (f : Form) (l : Input) : Type 0 where
    pub token : Token
    pub behind : Input
    pub stands : Stands is_name i token behind
    pub call : IsCallOrName N bars token.text behind f l

  pub record TokenThere (fits : Option Kind → Bool) (as_form : List ℕ → Form) (i : Input) (f : Form) (l : Input) : Type 0 where
    pub token : Token
    pub stands : Stands fits i token l
    pub is : f ≡ as_form token.text

  pub name_sort : {bars : Bool} {i j : Input} {f : Form} → Sort bars i f j → is_name (kind i) ≡ true → NameThere bars i f j
  name_sort (Sort.name i j l t f s d) e = record { token = t; behind = j; stands = s; call = d }
  name_sort (Sort.type i j t s) e = absurd (name_or_type (kind i) e (word_there s))
  name_sort (Sort.variable i j t s) e = absurd (name_or_variable (kind i) e (fits_there s))
  name_sort (Sort.other i j f o) e = absurd (name_or_other (kind i) e o)

  pub type_sort : {bars : Bool} {i j : Input} {f : Form} → Sort bars i f j → kind i ≡ Some k.Type → TokenThere (is_kind k.Type) (λ said. form.Type said) i f j
  type_sort (Sort.name i j l t f s d) e = absurd (name_or_type (kind i) (fits_there s) e)
  type_sort (Sort.type i j t s) e = record { token = t; stands = s; is = refl }
  type_sort (Sort.variable i j t s) e = absurd (type_or_variable (kind i) e (fits_there s))
  type_sort (Sort.other i j f o) e = absurd (type_or_other (kind i) e o)

  pub variable_sort : {bars : Bool} {i j : Input} {f : Form} → Sort bars i f j → is_variable (kind i) ≡ true → TokenThere is_variable (λ said. form.Variable said) i f j
  variable_sort (Sort.name i j l t f s d) e = absurd (name_or_variable (kind i) (fits_there s) e)
  variable_sort (Sort.type i j t s) e = absurd (type_or_variable (kind i) (word_there s) e)
  variable_sort (Sort.variable i j t s) e = record { token = t; stands = s; is = refl }
  variable_sort (Sort.other i j f o) e = absurd (variable_or_other (kind i) e o)

  -- ---- an operand that a value's token begins is a value

  pub record Valued (bars : Bool) (i : Input) (x : Expr) (l : Input) : Type 0 where
    pub form : Form
    pub behind : Input
    pub postfixes : List Postfix
    pub primary : IsPrimary N bars i form behind
    pub more : Many (IsPostfix N bars) begins_postfix behind postfixes l
    pub is : x ≡ postfixed (expr_at (line_at i.left) form) postfixes

  value_valued : {bars : Bool} {i j : Input} {x : Expr} → IsValue N bars i x j → Valued bars i x j
  value_valued (IsValue.value i j l f ps d ds) = record { form = f; behind = j; postfixes = ps; primary = d; more = ds; is = refl }

  pub valued : {bars : Bool} {i j : Input} {x : Expr} → IsOperand N bars i x j → begins_value (kind i) ≡ true → Valued bars i x j
  valued (IsOperand.prefixed i j l mark t o x e s d) begun =
      let begun' : begins_value (Some mark) ≡ true = rw (word_there s.token) at begun in
      absurd (prefix_or_value (Some mark) o e begun')
  valued (IsOperand.value i j x d) begun = value_valued d

  pub value_begins : {bars : Bool} {i j : Input} {x : Expr} → IsValue N bars i x j → begins_value (kind i) ≡ true
  value_begins (IsValue.value i j l f ps d ds) = primary_begins d

  -- ---- what an expression begins with

  operand_begins : {bars : Bool} {i j : Input} {x : Expr} → IsOperand N bars i x j → begins_expression (kind i) ≡ true
  operand_begins (IsOperand.prefixed i j l mark t o x e s d) = rw (word_there s.token) (prefixes_begin (Some mark) o e)
  operand_begins (IsOperand.value i j x d) = values_begin (kind i) (value_begins d)

  binary_begins : {bars : Bool} {n : ℕ} {i j : Input} {x : Expr} → IsBinary N bars n i x j → begins_expression (kind i) ≡ true
  binary_begins (IsBinary.operand i j x d) = operand_begins d
  binary_begins (IsBinary.chain tighter i j l x os d ds) = binary_begins d

  pub whole_begins : {bars behind : Bool} {i j : Input} {x : Expr} → IsWhole N bars behind i x j → begins_expression (kind i) ≡ true
  whole_begins (IsWhole.assigned i j l m t mark x s o d) = rw (word_there s) refl
  whole_begins (IsWhole.binary i j x e d) = binary_begins d
