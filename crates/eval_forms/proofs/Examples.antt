-- The definitions at worked examples. Each line with `refl` holds by computing.
use Rattle.std.proofs.Common.{◌≡◌, ℕ, true, false, List, [], ◌∷◌, Option, None, Some, Ok, Err, refl, codes, negsuc}
use Rattle.pp_ops.specs.declared.op.Op.TheVariants as op
use Rattle.pp_tree.specs.Building.{pair, operation, if_of, elsif, unless_of, case_of, case_option}
use Rattle.pp_tree.specs.declared.conditions.Case.{out-roll-Case}
use Rattle.pp_tree.specs.declared.conditions.CaseOption.{CaseOption, out-roll-CaseOption}
use Rattle.pp_tree.specs.declared.conditions.Elsif.{out-roll-Elsif}
use Rattle.pp_tree.specs.declared.conditions.If.{out-roll-If}
use Rattle.pp_tree.specs.declared.expr.Expr.{Expr}
use Rattle.pp_tree.specs.declared.expr.Form as form
use Rattle.pp_tree.specs.declared.expr.Operation.{Operation}
use Rattle.pp_tree.specs.declared.expr.Pair.{Pair}
use Rattle.pp_tree.specs.declared.expr.Piece.TheVariants as piece
use Rattle.pp_tree.specs.declared.operators.BinaryOperator.{BinaryOperator}
use Rattle.pp_tree.specs.declared.operators.BinaryOperator.TheVariants as binary
use Rattle.pp_tree.specs.declared.operators.PrefixOperator.{PrefixOperator}
use Rattle.pp_tree.specs.declared.operators.PrefixOperator.TheVariants as prefix
use Rattle.pp_types.specs.Names.{data_type_named}
use Rattle.pp_values.specs.Datum as d
use Rattle.pp_values.specs.Datum.{Datum}
use Rattle.pp_values.specs.Faults as faults
use Rattle.pp_values.specs.Sort as n
use Rattle.pp_values.specs.declared.fault.What.{What}
use Rattle.pp_values.specs.declared.fault.What.TheVariants as what
use Rattle.scope_core.specs.Names.{last_cut}
use Rattle.scope_core.specs.Scopes as s
use Rattle.eval_world.specs.Arguments.{argument_rule, values_from}
use Rattle.eval_world.specs.Outcomes.{Outcome, Step}
use Rattle.eval_world.specs.Worlds.{assign, empty, read, place_at, write_log}
use Rattle.eval_world.specs.declared.here.Here.{Here}
use Rattle.eval_world.specs.Environment.{Environment}
use Rattle.eval_forms.specs.Accesses.{accessed_rule}
use Rattle.eval_forms.specs.Answering.{combined}
use Rattle.eval_forms.specs.Conditions.{if_rule, elsifs_from, otherwise_rule, unless_rule}
use Rattle.eval_forms.specs.Conditions.{case_rule, options_from, default_rule, default_option, any_takes, takes_rule}
use Rattle.eval_forms.specs.Literals.{list_rule, hash_rule, pairs_from, pair_rule, value_rule}
use Rattle.eval_forms.specs.Literals.{interpolated_rule, pieces_from, piece_rule}
use Rattle.eval_forms.specs.Operators.{prefix_rule, truth_rule, open_rule, match_rule, both_rule}
use Rattle.eval_forms.specs.Operators.{binary_rule, operations_from, operation_rule, assigned_rule}
use Rattle.eval_forms.specs.Selectors.{selected_rule, selected_from, unselected_rule, default_pair, key_rule}
use Rattle.eval_forms.specs.Types.{type_rule}
use Rattle.eval_forms.proofs.Samples.{text, int, list, hash, undef, flag, default, num, word, told, x, y}
use Rattle.eval_forms.proofs.Samples.{one_two, a_hash, spliced, in_parentheses, any_name}
use Rattle.eval_forms.proofs.Samples.{first, second, third, ran, sample}
use Rattle.eval_forms.proofs.Samples.{Tells, Makes, Refuses, RefusesX, RefusesY, RefusesOperand}

-- ---- lists

members_in_order : Tells (list_rule sample (told (codes "a") ∷ num 2 ∷ told (codes "b") ∷ []))
    (list (text (codes "a") ∷ int 2 ∷ text (codes "b") ∷ [])) (codes "a" ∷ codes "b" ∷ [])
unfolding list_rule values_from argument_rule write_log form.out-Form denote.Hole.Carrier.out
members_in_order here w = refl

-- `[5, *[1, 2], [1, 2]]`
spliced_member : Makes (list_rule sample (num 5 ∷ spliced ∷ one_two ∷ []))
    (list (int 5 ∷ int 1 ∷ int 2 ∷ list (int 1 ∷ int 2 ∷ []) ∷ []))
unfolding list_rule values_from argument_rule form.out-Form denote.Hole.Carrier.out
spliced_member here w = refl

first_fault_of_list : RefusesX (list_rule sample (num 1 ∷ x ∷ y ∷ []))
unfolding list_rule values_from argument_rule form.out-Form denote.Hole.Carrier.out
first_fault_of_list here w = refl

-- ---- hashes

abbrev a : Expr
a = word (codes "a")

abbrev big_a : Expr
big_a = word (codes "A")

abbrev b : Expr
b = word (codes "b")

abbrev hash_of : List (Pair Expr) → Here → Step Datum
hash_of ps = hash_rule sample ps 7

-- each key, and then its value
pairs_in_order : Tells
    (hash_of (pair (told (codes "k")) (told (codes "v")) ∷ pair (told (codes "l")) (told (codes "u")) ∷ []))
    (hash ((text (codes "k"), text (codes "v")) ∷ (text (codes "l"), text (codes "u")) ∷ []))
    (codes "k" ∷ codes "v" ∷ codes "l" ∷ codes "u" ∷ [])
unfolding hash_rule pairs_from pair_rule value_rule write_log form.out-Form denote.Hole.Carrier.out
pairs_in_order here w = refl

-- `{ a => 1, b => 2, a => 3 }`: the later value, in the place of the earlier one
later_pair_wins : Makes (hash_of (pair a (num 1) ∷ pair b (num 2) ∷ pair a (num 3) ∷ []))
    (hash ((text (codes "a"), int 3) ∷ (text (codes "b"), int 2) ∷ []))
unfolding hash_rule pairs_from pair_rule value_rule form.out-Form denote.Hole.Carrier.out
later_pair_wins here w = refl

-- `{ a => 1, A => 2, 1 => 3 }`: the case of letters counts, and a number is a key of its own
keys_apart : Makes (hash_of (pair a (num 1) ∷ pair big_a (num 2) ∷ pair (num 1) (num 3) ∷ []))
    (hash ((text (codes "a"), int 1) ∷ (text (codes "A"), int 2) ∷ (int 1, int 3) ∷ []))
unfolding hash_rule pairs_from pair_rule value_rule form.out-Form denote.Hole.Carrier.out
keys_apart here w = refl

-- `{ undef => $x }`: what can be no key is refused before its value is evaluated
key_before_value : RefusesOperand (hash_of (pair undef x ∷ [])) (codes "=>")
unfolding hash_rule pairs_from pair_rule value_rule form.out-Form denote.Hole.Carrier.out
key_before_value here w = refl

-- `{ a => $x, undef => 1 }`, `{ $x => $y }`
faults_of_pairs : RefusesX (hash_of (pair a x ∷ pair undef (num 1) ∷ [])) × RefusesX (hash_of (pair x y ∷ []))
unfolding hash_rule pairs_from pair_rule value_rule form.out-Form denote.Hole.Carrier.out
faults_of_pairs = (λ here w. refl, λ here w. refl)

-- ---- texts with interpolation

-- `"a${true}b${undef}${'c'}"`
pieces_in_order : Tells
    (interpolated_rule sample (piece.Text (codes "a") ∷ piece.Value (flag true) ∷ piece.Text (codes "b")
    ∷ piece.Value undef
    ∷ piece.Value (told (codes "c")) ∷ []))
    (text (codes "atruebc")) (codes "c" ∷ [])
unfolding interpolated_rule pieces_from piece_rule write_log form.out-Form denote.Hole.Carrier.out
pieces_in_order here w = refl

-- `"a${$x}${$y}"`
first_fault_of_text : RefusesX (interpolated_rule sample (piece.Text (codes "a") ∷ piece.Value x ∷ piece.Value y ∷ []))
unfolding interpolated_rule pieces_from piece_rule form.out-Form denote.Hole.Carrier.out
first_fault_of_text here w = refl

-- ---- operators before a value

abbrev before : PrefixOperator → Expr → Here → Step Datum
before o e = prefix_rule sample o e 7

not : Makes (before prefix.Not (num 5)) (d.flag false) × Makes (before prefix.Not undef) (d.flag true)
unfolding prefix_rule form.out-Form denote.Hole.Carrier.out
not = (λ here w. refl, λ here w. refl)

minus : Makes (before prefix.Negate (num 5)) (d.int (negsuc 4)) × RefusesOperand (before prefix.Negate a) (codes "-")
unfolding prefix_rule combined form.out-Form denote.Hole.Carrier.out
minus = (λ here w. refl, λ here w. refl)

-- `*`, where no list stands around it: a hash becomes the list of its pairs, other values stay
splat : Makes (before prefix.Splat a_hash) (list (list (text (codes "a") ∷ int 1 ∷ []) ∷ []))
    × Makes (before prefix.Splat one_two) (list (int 1 ∷ int 2 ∷ [])) × Makes (before prefix.Splat undef) d.undef
unfolding prefix_rule form.out-Form denote.Hole.Carrier.out
splat = (λ here w. refl, λ here w. refl, λ here w. refl)

operand_first : RefusesX (before prefix.Negate x)
unfolding prefix_rule form.out-Form denote.Hole.Carrier.out
operand_first here w = refl

-- ---- operators between values

abbrev chain : Expr → List (Operation Expr) → Here → Step Datum
chain e os = binary_rule sample e os 7

-- `7 o 2` and `2 o 2`, for an operator `o`
abbrev seven : BinaryOperator → Here → Step Datum
seven o = chain (num 7) (operation o (num 2) ∷ [])

abbrev twos : BinaryOperator → Here → Step Datum
twos o = chain (num 2) (operation o (num 2) ∷ [])

arithmetic : Makes (seven binary.Multiply) (int 14) × Makes (seven binary.Divide) (int 3)
    × Makes (seven binary.Modulo) (int 1)
    × Makes (seven binary.Add) (int 9) × Makes (seven binary.Subtract) (int 5)
unfolding binary_rule operations_from operation_rule both_rule combined form.out-Form denote.Hole.Carrier.out
arithmetic = (λ here w. refl, λ here w. refl, λ here w. refl, λ here w. refl, λ here w. refl)

sevens_compared : Makes (seven binary.Equal) (d.flag false) × Makes (seven binary.NotEqual) (d.flag true)
    × Makes (seven binary.AtLeast) (d.flag true) × Makes (seven binary.AtMost) (d.flag false)
    × Makes (seven binary.Greater) (d.flag true) × Makes (seven binary.Less) (d.flag false)
unfolding binary_rule operations_from operation_rule both_rule combined form.out-Form denote.Hole.Carrier.out
sevens_compared = (λ here w. refl, λ here w. refl, λ here w. refl, λ here w. refl, λ here w. refl, λ here w. refl)

twos_compared : Makes (twos binary.Equal) (d.flag true) × Makes (twos binary.NotEqual) (d.flag false)
    × Makes (twos binary.AtLeast) (d.flag true) × Makes (twos binary.AtMost) (d.flag true)
    × Makes (twos binary.Greater) (d.flag false) × Makes (twos binary.Less) (d.flag false)
unfolding binary_rule operations_from operation_rule both_rule combined form.out-Form denote.Hole.Carrier.out
twos_compared = (λ here w. refl, λ here w. refl, λ here w. refl, λ here w. refl, λ here w. refl, λ here w. refl)

-- `[1, 2] << 3`, `2 in [1, 2]`, `[1, 2] in 2`
lists : Makes (chain one_two (operation binary.Append (num 3) ∷ [])) (list (int 1 ∷ int 2 ∷ int 3 ∷ []))
    × Makes (chain (num 2) (operation binary.In one_two ∷ [])) (d.flag true)
    × Makes (chain one_two (operation binary.In (num 2) ∷ [])) (d.flag false)
unfolding binary_rule operations_from operation_rule both_rule combined form.out-Form denote.Hole.Carrier.out
lists = (λ here w. refl, λ here w. refl, λ here w. refl)

-- `{ a => 1 } + { a => 2 }`: the right one wins
right_wins : Makes (combined op.Add (hash ((text (codes "a"), int 1) ∷ [])) (hash ((text (codes "a"), int 2) ∷ [])) 7)
    (hash ((text (codes "a"), int 2) ∷ []))
unfolding combined
right_wins here w = refl

-- `7 =~ Any`, `7 !~ Any`; without a type on the right both are refused in the name of `=~`
matches : Makes (chain (num 7) (operation binary.Match any_name ∷ [])) (d.flag true)
    × Makes (chain (num 7) (operation binary.NoMatch any_name ∷ [])) (d.flag false)
    × RefusesOperand (seven binary.Match) (codes "=~") × RefusesOperand (seven binary.NoMatch) (codes "=~")
unfolding binary_rule operations_from operation_rule match_rule form.out-Form denote.Hole.Carrier.out
matches = (λ here w. refl, λ here w. refl, λ here w. refl, λ here w. refl)

-- `7 << $x`, `7 << 2`, `$x << $y`, `7 =~ $x`: both operands, and then the operator, at the line of the chain
operands_first : RefusesX (chain (num 7) (operation binary.Append x ∷ []))
    × RefusesOperand (seven binary.Append) (codes "<<")
    × RefusesX (chain x (operation binary.Append y ∷ [])) × RefusesX (chain (num 7) (operation binary.Match x ∷ []))
unfolding binary_rule operations_from operation_rule both_rule match_rule combined form.out-Form denote.Hole.Carrier.out
operands_first = (λ here w. refl, λ here w. refl, λ here w. refl, λ here w. refl)

-- `10 - 2 - 3 + 1`; and `7 << 1 << $x`, whose first operator is refused before `$x` is evaluated
from_the_left : Makes
    (chain (num 10)
    (operation binary.Subtract (num 2) ∷ operation binary.Subtract (num 3) ∷ operation binary.Add (num 1) ∷ []))
    (int 6)
    × RefusesOperand (chain (num 7) (operation binary.Append (num 1) ∷ operation binary.Append x ∷ [])) (codes "<<")
unfolding binary_rule operations_from operation_rule both_rule combined form.out-Form denote.Hole.Carrier.out
from_the_left = (λ here w. refl, λ here w. refl)

-- `or` gives a truth value: `5 or $x`, `undef or 5`, `false or undef`, `undef or $x`, `undef or undef or 5 or $x`
or_values : Makes (chain (num 5) (operation binary.Or x ∷ [])) (d.flag true)
    × Makes (chain undef (operation binary.Or (num 5) ∷ [])) (d.flag true)
    × Makes (chain (flag false) (operation binary.Or undef ∷ [])) (d.flag false)
    × RefusesX (chain undef (operation binary.Or x ∷ []))
    × Makes (chain undef (operation binary.Or undef ∷ operation binary.Or (num 5) ∷ operation binary.Or x ∷ []))
    (d.flag true)
unfolding binary_rule operations_from operation_rule open_rule truth_rule form.out-Form denote.Hole.Carrier.out
or_values = (λ here w. refl, λ here w. refl, λ here w. refl, λ here w. refl, λ here w. refl)

-- so does `and`: `undef and $x`, `5 and 6`, `5 and undef`, `5 and $x`, `5 and undef and $x`
and_values : Makes (chain undef (operation binary.And x ∷ [])) (d.flag false)
    × Makes (chain (num 5) (operation binary.And (num 6) ∷ [])) (d.flag true)
    × Makes (chain (num 5) (operation binary.And undef ∷ [])) (d.flag false)
    × RefusesX (chain (num 5) (operation binary.And x ∷ []))
    × Makes (chain (num 5) (operation binary.And undef ∷ operation binary.And x ∷ [])) (d.flag false)
unfolding binary_rule operations_from operation_rule open_rule truth_rule form.out-Form denote.Hole.Carrier.out
and_values = (λ here w. refl, λ here w. refl, λ here w. refl, λ here w. refl, λ here w. refl)

-- ---- assignments

abbrev top : Here
top = record { scope = record { number = 0 }; owner = 0; typed = false }

-- `$a = e`
abbrev sets_a : Expr → Here → Step Datum
sets_a e = assigned_rule sample (codes "a") e 7

-- at the beginning, and then something else there
abbrev begun : Environment → (Here → Step Datum) → Outcome Datum
begun environment step = step top (empty environment)

abbrev and_next : Outcome Datum → (Here → Step Datum) → Outcome Datum
and_next (Ok p) step = step top p.1
and_next (Err f) step = Err f

abbrev value_in : Outcome Datum → Option Datum
value_in (Ok p) = Some p.0
value_in (Err f) = None

assigned_value : (environment : Environment)
    → (value_in (begun environment (sets_a (num 1))) ≡ Some (int 1))
    × (value_in (and_next (begun environment (sets_a (num 1))) (λ here. read here (codes "a") 8)) ≡ Some (int 1))
unfolding assigned_rule assign s.assign read s.read s.found s.seen_from last_cut form.out-Form denote.Hole.Carrier.out
assigned_value environment = (refl, refl)

abbrev refused : Environment → ℕ → What → Outcome Datum
refused environment line details = Err (faults.fault (place_at (empty environment) top line) details)

-- `$a = 1` and then `$a = 2`, or `$a = $x`, whose value comes first
assigned_twice : (environment : Environment)
    → (and_next (begun environment (sets_a (num 1))) (sets_a (num 2))
    ≡ refused environment 7 (what.Reassigned (codes "a")))
    × (and_next (begun environment (sets_a (num 1))) (sets_a x)
    ≡ refused environment 8 (what.UnknownVariable (codes "x")))
unfolding assigned_rule assign s.assign form.out-Form denote.Hole.Carrier.out
assigned_twice environment = (refl, refl)

-- ---- `if` and `unless`

-- `if 5 { first } elsif $x { second } else { third }`: what stands behind the block that is taken is not looked at
if_true : Makes (if_rule sample (if_of (num 5) first (elsif x second ∷ []) (Some third)) 7) (ran first 7)
unfolding if_rule truth_rule form.out-Form denote.Hole.Carrier.out
if_true here w = simp out-roll-If refl

elsif_true : Makes
    (if_rule sample
    (if_of undef first (elsif (flag false) first ∷ elsif (num 5) second ∷ elsif x first ∷ []) (Some third)) 7)
    (ran second 7)
unfolding if_rule elsifs_from truth_rule form.out-Form denote.Hole.Carrier.out
elsif_true here w = simp (out-roll-If, out-roll-Elsif) refl

else_taken : Makes (if_rule sample (if_of undef first (elsif (flag false) second ∷ []) (Some third)) 7) (ran third 7)
    × Makes (if_rule sample (if_of undef first [] None) 7) d.undef
unfolding if_rule elsifs_from otherwise_rule truth_rule form.out-Form denote.Hole.Carrier.out
else_taken = (λ here w. simp (out-roll-If, out-roll-Elsif) refl, λ here w. simp (out-roll-If, out-roll-Elsif) refl)

faults_of_conditions : RefusesX (if_rule sample (if_of x first (elsif y second ∷ []) (Some third)) 7)
    × RefusesY (if_rule sample (if_of undef first (elsif y second ∷ []) (Some third)) 7)
unfolding if_rule elsifs_from truth_rule form.out-Form denote.Hole.Carrier.out
faults_of_conditions = (
  λ here w. simp (out-roll-If, out-roll-Elsif) refl,
  λ here w. simp (out-roll-If, out-roll-Elsif) refl,
)

unless_values : Makes (unless_rule sample (unless_of undef first (Some second)) 7) (ran first 7)
    × Makes (unless_rule sample (unless_of (num 5) first (Some second)) 7) (ran second 7)
    × Makes (unless_rule sample (unless_of (num 5) first None) 7) d.undef
    × RefusesX (unless_rule sample (unless_of x first None) 7)
unfolding unless_rule otherwise_rule truth_rule form.out-Form denote.Hole.Carrier.out
unless_values = (λ here w. refl, λ here w. refl, λ here w. refl, λ here w. refl)

-- ---- `case`

abbrev case : Expr → List CaseOption → Here → Step Datum
case e os = case_rule sample (case_of e os) 7

abbrev option : List Expr → CaseOption
option es = case_option es first 3

-- the same with another block
abbrev other : List Expr → CaseOption
other es = case_option es second 4

-- `case 2 { 1, 2, $x: { first } $y: { second } }`: what stands behind the value that is taken is not evaluated
first_taken : Makes (case (num 2) (option (num 1 ∷ num 2 ∷ x ∷ []) ∷ other (y ∷ []) ∷ [])) (ran first 7)
unfolding case_rule options_from any_takes takes_rule default_option form.out-Form denote.Hole.Carrier.out
first_taken here w = simp (out-roll-Case, out-roll-CaseOption) refl

-- the control value and then the options' values in order; letters are compared without their case
values_in_order : Tells
    (case (told (codes "a")) (option (told (codes "b") ∷ told (codes "c") ∷ []) ∷ other (told (codes "A") ∷ []) ∷ []))
    (ran second 7) (codes "a" ∷ codes "b" ∷ codes "c" ∷ codes "A" ∷ [])
unfolding case_rule options_from any_takes takes_rule default_option write_log form.out-Form denote.Hole.Carrier.out
values_in_order here w = simp (out-roll-Case, out-roll-CaseOption) refl

-- `case 2 { *[1, 2]: { first } default: { second } }`, and `case [1, 2]` with the same options
spliced_option : Makes (case (num 2) (option (spliced ∷ []) ∷ other (default ∷ []) ∷ [])) (ran first 7)
    × Makes (case one_two (option (spliced ∷ []) ∷ other (default ∷ []) ∷ [])) (ran second 7)
unfolding case_rule options_from default_rule any_takes takes_rule default_option form.out-Form denote.Hole.Carrier.out
spliced_option = (
  λ here w. simp (out-roll-Case, out-roll-CaseOption) refl,
  λ here w. simp (out-roll-Case, out-roll-CaseOption) refl,
)

-- a type takes what it accepts
type_option : Makes (case (num 2) (option (any_name ∷ []) ∷ other (num 2 ∷ []) ∷ [])) (ran first 7)
unfolding case_rule options_from any_takes takes_rule default_option form.out-Form denote.Hole.Carrier.out
type_option here w = simp (out-roll-Case, out-roll-CaseOption) refl

-- `default` is taken last, wherever it stands, beside other values too, and the first of two
default_last : Makes (case (num 2) (option (default ∷ []) ∷ other (num 2 ∷ []) ∷ [])) (ran second 7)
    × Makes (case (num 3) (option (default ∷ []) ∷ other (num 2 ∷ []) ∷ [])) (ran first 7)
    × Makes (case (num 3) (option (num 1 ∷ default ∷ []) ∷ other (default ∷ []) ∷ [])) (ran first 7)
    × Makes (case (num 2) (option (default ∷ num 2 ∷ []) ∷ other (num 2 ∷ []) ∷ [])) (ran first 7)
unfolding case_rule options_from default_rule any_takes takes_rule default_option form.out-Form denote.Hole.Carrier.out
default_last = (
  λ here w. simp (out-roll-Case, out-roll-CaseOption) refl,
  λ here w. simp (out-roll-Case, out-roll-CaseOption) refl,
  λ here w. simp (out-roll-Case, out-roll-CaseOption) refl,
  λ here w. simp (out-roll-Case, out-roll-CaseOption) refl,
)

-- `(default)` is a value like others: it takes the value `default` alone, and where it stands
default_in_parentheses : Makes (case (num 3) (option (in_parentheses ∷ []) ∷ [])) d.undef
    × Makes (case default (option (in_parentheses ∷ []) ∷ [])) (ran first 7)
    × Makes (case default (option (default ∷ []) ∷ other (in_parentheses ∷ []) ∷ [])) (ran second 7)
unfolding case_rule options_from default_rule any_takes takes_rule default_option form.out-Form denote.Hole.Carrier.out
default_in_parentheses = (
  λ here w. simp (out-roll-Case, out-roll-CaseOption) refl,
  λ here w. simp (out-roll-Case, out-roll-CaseOption) refl,
  λ here w. simp (out-roll-Case, out-roll-CaseOption) refl,
)

nothing_taken : Makes (case (num 3) (option (num 1 ∷ []) ∷ [])) d.undef × Makes (case (num 3) []) d.undef
unfolding case_rule options_from default_rule any_takes takes_rule default_option form.out-Form denote.Hole.Carrier.out
nothing_taken = (
  λ here w. simp (out-roll-Case, out-roll-CaseOption) refl,
  λ here w. simp (out-roll-Case, out-roll-CaseOption) refl,
)

-- `case $x { $y: .. }`, `case 3 { $x: .. 3: .. }`
faults_of_case : RefusesX (case x (option (y ∷ []) ∷ []))
    × RefusesX (case (num 3) (option (x ∷ []) ∷ other (num 3 ∷ []) ∷ []))
unfolding case_rule options_from any_takes takes_rule default_option form.out-Form denote.Hole.Carrier.out
faults_of_case = (
  λ here w. simp (out-roll-Case, out-roll-CaseOption) refl,
  λ here w. simp (out-roll-Case, out-roll-CaseOption) refl,
)

-- ---- selectors

abbrev select : Datum → List (Pair Expr) → Here → Step Datum
select control ps = selected_rule sample control ps 7

-- a selector over 2 with the keys 1, 2 and `$y`: of the values that of the option taken alone
selected_value : Tells (select (int 2) (pair (num 1) x ∷ pair (num 2) (told (codes "b")) ∷ pair y (num 3) ∷ []))
    (text (codes "b")) (codes "b" ∷ [])
unfolding selected_rule selected_from key_rule default_pair write_log form.out-Form denote.Hole.Carrier.out
selected_value here w = refl

selected_by_type : Makes (select (int 2) (pair any_name (num 5) ∷ pair (num 2) (num 6) ∷ [])) (int 5)
unfolding selected_rule selected_from key_rule default_pair form.out-Form denote.Hole.Carrier.out
selected_by_type here w = refl

-- `default` is taken last, and the first of two; `(default)` and `*[1, 2]` are values, the second a list
selected_default : Makes (select (int 2) (pair default (num 5) ∷ pair (num 2) (num 6) ∷ [])) (int 6)
    × Makes (select (int 3) (pair default (num 5) ∷ pair (num 2) (num 6) ∷ pair default (num 7) ∷ [])) (int 5)
    × Makes (select d.default (pair default (num 5) ∷ pair in_parentheses (num 6) ∷ [])) (int 6)
    × Makes (select (int 2) (pair spliced (num 5) ∷ pair default (num 6) ∷ [])) (int 6)
unfolding selected_rule selected_from unselected_rule key_rule default_pair form.out-Form denote.Hole.Carrier.out
selected_default = (λ here w. refl, λ here w. refl, λ here w. refl, λ here w. refl)

-- where no option takes it, a selector is refused
nothing_selected : RefusesOperand (select (int 3) (pair (num 2) (num 6) ∷ [])) (codes "?")
    × RefusesOperand (select (int 3) []) (codes "?") × RefusesX (select (int 3) (pair x (num 6) ∷ pair (num 3) y ∷ []))
    × RefusesY (select (int 3) (pair (num 3) y ∷ pair x (num 6) ∷ []))
unfolding selected_rule selected_from unselected_rule key_rule default_pair form.out-Form denote.Hole.Carrier.out
nothing_selected = (λ here w. refl, λ here w. refl, λ here w. refl, λ here w. refl)

-- ---- access, and types as values

abbrev access : Datum → List Expr → Here → Step Datum
access value es = accessed_rule sample value es 7

-- `[1, 2][1]`; `[1, 2][*[1, 2]]` is `[1, 2][1, 2]`, two members from the second on
accessed_list : Makes (access (list (int 1 ∷ int 2 ∷ [])) (num 1 ∷ [])) (int 2)
    × Makes (access (list (int 1 ∷ int 2 ∷ [])) (spliced ∷ [])) (list (int 2 ∷ []))
unfolding accessed_rule combined values_from argument_rule form.out-Form denote.Hole.Carrier.out
accessed_list = (λ here w. refl, λ here w. refl)

-- `5[$x]`, `5[1]`: the arguments, and then the access
faults_of_access : RefusesX (access (int 5) (x ∷ [])) × RefusesOperand (access (int 5) (num 1 ∷ [])) (codes "[]")
unfolding accessed_rule combined values_from argument_rule form.out-Form denote.Hole.Carrier.out
faults_of_access = (λ here w. refl, λ here w. refl)

-- `File['/a']` is a reference
accessed_kind : Makes (access (d.kind (n.of (n.kind_of_resource (codes "file")) n.none)) (word (codes "/a") ∷ []))
    (d.reference (record { kind = codes "file"; title = codes "/a" }))
unfolding accessed_rule combined values_from argument_rule form.out-Form denote.Hole.Carrier.out
accessed_kind here w = refl

-- the last is no name of a type
types : Makes (type_rule (codes "Integer") 7) (d.kind (n.of n.integer n.none))
    × Makes (type_rule (codes "::Web::Vhost") 7) (d.kind (n.of (n.kind_of_resource (codes "web::vhost")) n.none))
    × Refuses (type_rule (codes "x") 7) 7 what.Syntax
unfolding type_rule data_type_named
types = (λ here w. refl, λ here w. refl, λ here w. refl)
