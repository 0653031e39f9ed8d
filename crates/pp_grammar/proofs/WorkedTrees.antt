-- Each operator and how it binds beside its neighbours: texts with their trees, which the definitions compute.
use Rattle.std.proofs.Common.{◌≡◌, true, false, List, [], ◌∷◌, ◌++◌, map, Some, None, Result, refl}
use Rattle.std.specs.Prelude.{ℕ, codes}
use Rattle.pp_values.specs.declared.fault.Fault.{Fault}
use Rattle.pp_tree.specs.declared.expr.Expr.{Expr}
use Rattle.pp_tree.specs.declared.expr.Form.TheVariants as form
use Rattle.pp_tree.specs.declared.expr.Postfix.{Postfix}
use Rattle.pp_tree.specs.declared.expr.Postfix.TheVariants as postfix
use Rattle.pp_tree.specs.declared.file.File.{File}
use Rattle.pp_tree.specs.declared.operators.BinaryOperator.{BinaryOperator}
use Rattle.pp_tree.specs.declared.operators.BinaryOperator.TheVariants as binary
use Rattle.pp_tree.specs.declared.operators.PrefixOperator.{PrefixOperator}
use Rattle.pp_tree.specs.declared.operators.PrefixOperator.TheVariants as prefix
use Rattle.pp_tree.specs.declared.resource.Attribute.{Attribute}
use Rattle.pp_tree.specs.declared.resource.Attribute.TheVariants as attribute
use Rattle.pp_tree.specs.declared.statement.Operand.TheVariants as operand
use Rattle.pp_tree.specs.declared.statement.Statement.{Statement}
use Rattle.pp_tree.specs.declared.statement.Statement.TheVariants as statement
use Rattle.pp_tree.specs.Building as tree
use Rattle.pp_parser.specs.Manifest.{main_path, file_of}
use Rattle.pp_grammar.proofs.Examples.{read, says, alone, number, name, variable, binary_of}

-- expressions one behind the other, as statements
abbrev each : List Expr → Result File Fault
each xs = says (map alone xs)

-- `1` to `6`, and `$a`, all on line 1
abbrev n : ℕ → Expr
n i = number 1 i

abbrev a : Expr
a = variable 1 (codes "a")

abbrev with : Expr → BinaryOperator → Expr → Expr
with x o y = binary_of x (tree.operation o y ∷ [])

abbrev prefixed : PrefixOperator → Expr → Expr
prefixed o x = tree.expr_at 1 (form.Prefix o x)

abbrev followed : Expr → List Postfix → Expr
followed x ps = tree.expr_at 1 (form.Postfix x ps)

-- ---- operators between two operands

-- what each says
one_operator : file_of main_path (codes "1 in 2; 1 =~ 2; 1 !~ 2; 1 * 2; 1 / 2; 1 % 2; 1 + 2; 1 - 2; 1 << 2; 1 == 2; 1 != 2; 1 >= 2; 1 <= 2; 1 > 2; 1 < 2; 1 and 2; 1 or 2")
    ≡ each (map (λ o. with (n 1) o (n 2)) (binary.In ∷ binary.Match ∷ binary.NoMatch ∷ binary.Multiply ∷ binary.Divide ∷ binary.Modulo ∷ binary.Add ∷ binary.Subtract ∷ binary.Append
    ∷ binary.Equal ∷ binary.NotEqual ∷ binary.AtLeast ∷ binary.AtMost ∷ binary.Greater ∷ binary.Less ∷ binary.And ∷ binary.Or ∷ []))
unfolding read
one_operator = refl

-- operators of one strength stand in one list, from the left
abbrev thrice : BinaryOperator → BinaryOperator → Expr
thrice o p = binary_of (n 1) (tree.operation o (n 2) ∷ tree.operation p (n 3) ∷ [])

one_strength : file_of main_path (codes "1 in 2 in 3; 1 =~ 2 !~ 3; 1 << 2 << 3; 1 + 2 - 3; 1 == 2 != 3; 1 and 2 and 3; 1 or 2 or 3; 1 * 2 / 3 % 4; 1 >= 2 <= 3 > 4 < 5")
    ≡ each (thrice binary.In binary.In ∷ thrice binary.Match binary.NoMatch ∷ thrice binary.Append binary.Append ∷ thrice binary.Add binary.Subtract ∷ thrice binary.Equal binary.NotEqual
    ∷ thrice binary.And binary.And ∷ thrice binary.Or binary.Or
    ∷ binary_of (n 1) (tree.operation binary.Multiply (n 2) ∷ tree.operation binary.Divide (n 3) ∷ tree.operation binary.Modulo (n 4) ∷ [])
    ∷ binary_of (n 1) (tree.operation binary.AtLeast (n 2) ∷ tree.operation binary.AtMost (n 3) ∷ tree.operation binary.Greater (n 4) ∷ tree.operation binary.Less (n 5) ∷ []) ∷ [])
unfolding read
one_strength = refl

-- of two neighbouring strengths the tighter one takes the operand between them, where it stands first
abbrev first_binds : BinaryOperator → BinaryOperator → Expr
first_binds o p = with (with (n 1) o (n 2)) p (n 3)

tighter_first : file_of main_path (codes "1 in 2 =~ 3; 1 =~ 2 * 3; 1 * 2 + 3; 1 + 2 << 3; 1 << 2 == 3; 1 == 2 >= 3; 1 >= 2 and 3; 1 and 2 or 3")
    ≡ each (first_binds binary.In binary.Match ∷ first_binds binary.Match binary.Multiply ∷ first_binds binary.Multiply binary.Add ∷ first_binds binary.Add binary.Append
    ∷ first_binds binary.Append binary.Equal ∷ first_binds binary.Equal binary.AtLeast ∷ first_binds binary.AtLeast binary.And ∷ first_binds binary.And binary.Or ∷ [])
unfolding read
tighter_first = refl

-- and where it stands second
abbrev second_binds : BinaryOperator → BinaryOperator → Expr
second_binds o p = with (n 1) o (with (n 2) p (n 3))

tighter_second : file_of main_path (codes "1 =~ 2 in 3; 1 * 2 =~ 3; 1 + 2 * 3; 1 << 2 + 3; 1 == 2 << 3; 1 >= 2 == 3; 1 and 2 >= 3; 1 or 2 and 3")
    ≡ each (second_binds binary.Match binary.In ∷ second_binds binary.Multiply binary.Match ∷ second_binds binary.Add binary.Multiply ∷ second_binds binary.Append binary.Add
    ∷ second_binds binary.Equal binary.Append ∷ second_binds binary.AtLeast binary.Equal ∷ second_binds binary.And binary.AtLeast ∷ second_binds binary.Or binary.And ∷ [])
unfolding read
tighter_second = refl

-- ---- operators before an operand bind tighter than those between two, on either side

-- one of each strength
abbrev one_of_each : List BinaryOperator
one_of_each = binary.In ∷ binary.Match ∷ binary.Multiply ∷ binary.Add ∷ binary.Append ∷ binary.Equal ∷ binary.AtLeast ∷ binary.And ∷ binary.Or ∷ []

abbrev beside_each : PrefixOperator → Result File Fault
beside_each p = each (map (λ o. with (prefixed p (n 1)) o (prefixed p (n 2))) one_of_each)

not_beside : file_of main_path (codes "!1 in !2; !1 =~ !2; !1 * !2; !1 + !2; !1 << !2; !1 == !2; !1 >= !2; !1 and !2; !1 or !2") ≡ beside_each prefix.Not
unfolding read
not_beside = refl

negate_beside : file_of main_path (codes "-1 in -2; -1 =~ -2; -1 * -2; -1 + -2; -1 << -2; -1 == -2; -1 >= -2; -1 and -2; -1 or -2") ≡ beside_each prefix.Negate
unfolding read
negate_beside = refl

splat_beside : file_of main_path (codes "*1 in *2; *1 =~ *2; *1 * *2; *1 + *2; *1 << *2; *1 == *2; *1 >= *2; *1 and *2; *1 or *2") ≡ beside_each prefix.Splat
unfolding read
splat_beside = refl

-- the one that stands first is outermost
prefixes : file_of main_path (codes "!-*1; *-!1") ≡ each (prefixed prefix.Not (prefixed prefix.Negate (prefixed prefix.Splat (n 1))) ∷ prefixed prefix.Splat (prefixed prefix.Negate (prefixed prefix.Not (n 1))) ∷ [])
unfolding read
prefixes = refl

-- ---- what follows a value binds tighter than any operator

abbrev indexed : Expr
indexed = followed a (postfix.Access (n 1 ∷ []) ∷ [])

abbrev asked : Expr
asked = followed a (postfix.Method (tree.call (codes "b") [] None) ∷ [])

abbrev selected : Expr
selected = followed a (postfix.Select (tree.pair (n 1) (n 2) ∷ []) ∷ [])

-- `f(1)`, with `|$x| { 2 }` behind it or without
abbrev called : Expr
called = tree.expr_at 1 (form.Call (tree.call (codes "f") (n 1 ∷ []) None))

abbrev with_lambda : Expr
with_lambda = tree.expr_at 1 (form.Call (tree.call (codes "f") (n 1 ∷ []) (Some (tree.lambda (tree.param None (codes "x") None 1 ∷ []) (alone (n 2) ∷ [])))))

abbrev values : List Expr
values = indexed ∷ asked ∷ selected ∷ called ∷ with_lambda ∷ []

-- than a prefix operator
behind_prefix : file_of main_path (codes "-$a[1]; -$a.b; -$a?{ 1 => 2 }; -f(1); -f(1) |$x| { 2 }") ≡ each (map (prefixed prefix.Negate) values)
unfolding read
behind_prefix = refl

-- than the tightest operator, on either side
beside_tightest : file_of main_path (codes "$a[1] in $a[1]; $a.b in $a.b; $a?{ 1 => 2 } in $a?{ 1 => 2 }; f(1) in f(1); f(1) |$x| { 2 } in f(1) |$x| { 2 }")
    ≡ each (map (λ x. with x binary.In x) values)
unfolding read
beside_tightest = refl

-- one behind the other, in their order
postfixes : file_of main_path (codes "$a[1].b(2) |$x| { 3 }[4]?{ 5 => 6 }.c; f(1)[2]")
    ≡ each (followed a (postfix.Access (n 1 ∷ []) ∷ postfix.Method (tree.call (codes "b") (n 2 ∷ []) (Some (tree.lambda (tree.param None (codes "x") None 1 ∷ []) (alone (n 3) ∷ []))))
    ∷ postfix.Access (n 4 ∷ []) ∷ postfix.Select (tree.pair (n 5) (n 6) ∷ []) ∷ postfix.Method (tree.call (codes "c") [] None) ∷ []) ∷ followed called (postfix.Access (n 2 ∷ []) ∷ []) ∷ [])
unfolding read
postfixes = refl

-- ---- within brackets, and behind `=`, the loosest operator stands

abbrev either : Expr
either = with (n 1) binary.Or (n 2)

within_brackets : file_of main_path (codes "(1 or 2) and 3; [1 or 2]; $a[1 or 2]; f(1 or 2); $a?{ 1 or 2 => 1 or 2 }; $a = 1 or 2; $a = $b = 1 or 2")
    ≡ each (with (tree.expr_at 1 (form.Parentheses either)) binary.And (n 3) ∷ tree.expr_at 1 (form.List (either ∷ [])) ∷ followed a (postfix.Access (either ∷ []) ∷ [])
    ∷ tree.expr_at 1 (form.Call (tree.call (codes "f") (either ∷ []) None)) ∷ followed a (postfix.Select (tree.pair either either ∷ []) ∷ [])
    ∷ tree.expr_at 1 (form.Assign (codes "a") either) ∷ tree.expr_at 1 (form.Assign (codes "a") (tree.expr_at 1 (form.Assign (codes "b") either))) ∷ [])
unfolding read
within_brackets = refl

-- ---- keywords

-- each may name an attribute
abbrev set : List ℕ → Attribute Expr
set word = attribute.Set (tree.setting word false (n 1) 1)

keyword_names : file_of main_path (codes "T { and => 1, case => 1, class => 1, default => 1, define => 1, else => 1, elsif => 1, false => 1, function => 1, if => 1, in => 1, inherits => 1, node => 1, or => 1, true => 1, undef => 1, unless => 1 }")
    ≡ says (statement.Chain (tree.chain (operand.Defaults (tree.defaults (codes "T") (map set (codes "and" ∷ codes "case" ∷ codes "class" ∷ codes "default" ∷ codes "define" ∷ codes "else" ∷ codes "elsif"
    ∷ codes "false" ∷ codes "function" ∷ codes "if" ∷ codes "in" ∷ codes "inherits" ∷ codes "node" ∷ codes "or" ∷ codes "true" ∷ codes "undef" ∷ codes "unless" ∷ [])) 1)) [] 1) ∷ [])
unfolding read
keyword_names = refl

-- each sort of value may be the first argument of a statement function
abbrev notice : List Expr → Statement
notice args = statement.Words (tree.words (codes "notice") args 1)

abbrev takes : List ℕ → Expr → Type 0
takes text x = file_of main_path (codes "notice " ++ text) ≡ says (notice (x ∷ []) ∷ [])

words : (takes (codes "b") (name 1 (codes "b"))) × (takes (codes "err") (name 1 (codes "err"))) × (takes (codes "T") (tree.expr_at 1 (form.Type (codes "T")))) × (takes (codes "$a") a)
    × (takes (codes "$a::b") (variable 1 (codes "a::b"))) × (takes (codes "true") (tree.expr_at 1 (form.Flag true))) × (takes (codes "false") (tree.expr_at 1 (form.Flag false)))
    × (takes (codes "undef") (tree.expr_at 1 form.Undef)) × (takes (codes "default") (tree.expr_at 1 form.Default))
unfolding read
words = (refl, refl, refl, refl, refl, refl, refl, refl, refl)

others : (takes (codes "1") (n 1)) × (takes (codes "'c'") (tree.expr_at 1 (form.Text (codes "c")))) × (takes (34 ∷ codes "c" ++ 34 ∷ []) (tree.expr_at 1 (form.Text (codes "c"))))
    × (takes (codes "[1]") (tree.expr_at 1 (form.List (n 1 ∷ []))))
    × (takes (codes "!1") (prefixed prefix.Not (n 1))) × (takes (codes "-1") (prefixed prefix.Negate (n 1))) × (takes (codes "*1") (prefixed prefix.Splat (n 1)))
    × (takes (codes "unless 1 { }") (tree.expr_at 1 (form.Unless (tree.unless_of (n 1) [] None)))) × (takes (codes "if 1 { }") (tree.expr_at 1 (form.If (tree.if_of (n 1) [] [] None))))
    × (takes (codes "case 1 { }") (tree.expr_at 1 (form.Case (tree.case_of (n 1) []))))
unfolding read
others = (refl, refl, refl, refl, refl, refl, refl, refl, refl, refl)
