-- Which forms are taken over values that are there, at worked examples. Each line with `refl` holds by computing.
use Rattle.std.proofs.Common.{◌≡◌, ℕ, Bool, true, false, List, [], ◌∷◌, Option, None, Some, refl, codes, pos}
use Rattle.pp_ops.specs.declared.op.Op.TheVariants as op
use Rattle.pp_tree.specs.Building.{expr_at, operation}
use Rattle.pp_tree.specs.declared.expr.Expr.{Expr}
use Rattle.pp_tree.specs.declared.expr.Form as form
use Rattle.pp_tree.specs.declared.expr.Form.TheVariants as f
use Rattle.pp_tree.specs.declared.expr.Operation.{Operation}
use Rattle.pp_tree.specs.declared.operators.BinaryOperator.TheVariants as binary
use Rattle.pp_values.specs.Datum as d
use Rattle.pp_values.specs.Datum.{Datum}
use Rattle.scope_core.specs.Names.{last_cut}
use Rattle.scope_core.specs.Scopes as s
use Rattle.scope_core.specs.Scopes.{Scopes}
use Rattle.eval_world.specs.Leaves.{known_in, number_in}
use Rattle.eval_world.specs.Worlds.{top}
use Rattle.eval_forms.specs.Known.{is_over_known, is_of_integers}
use Rattle.eval_forms.specs.Lent.{lent_in, text_in}
use Rattle.eval_forms.proofs.Samples.{text, int, list, hash, flag, num, word, told, x, spliced}

-- `$a` is 1, and `$x` has no value
abbrev scopes : Scopes
scopes = s.with_name 0 (codes "a") (int 1) s.top_alone

abbrev a : Expr
a = expr_at 1 (f.Variable (codes "a"))

-- ---- operators

-- where so many levels are left
abbrev over : ℕ → Expr → List (Operation Expr) → Bool
over left first os = is_over_known left first os top scopes

-- `$a + $a`, `$a + 2`, `$a == $a`
taken : (over 1 a (operation binary.Add a ∷ []) ≡ true) × (over 1 a (operation binary.Add (num 2) ∷ []) ≡ true)
    × over 1 a (operation binary.Equal a ∷ []) ≡ true
unfolding known_in number_in s.found s.seen_from last_cut form.out-Form denote.Hole.Carrier.out
taken = (refl, refl, refl)

-- `$x + 2`, `$a + $x`, `2 + $a`, `$a + a`, and `$a + 2` where no level is left
not_known : (over 1 x (operation binary.Add (num 2) ∷ []) ≡ false) × (over 1 a (operation binary.Add x ∷ []) ≡ false)
    × (over 1 (num 2) (operation binary.Add a ∷ []) ≡ false)
    × (over 1 a (operation binary.Add (word (codes "a")) ∷ []) ≡ false) × over 0 a (operation binary.Add (num 2) ∷ []) ≡ false
unfolding known_in number_in s.found s.seen_from last_cut form.out-Form denote.Hole.Carrier.out
not_known = (refl, refl, refl, refl, refl)

-- `$a and $a`, `$a =~ $a`, `$a + 2 + 2`
not_one : (over 1 a (operation binary.And a ∷ []) ≡ false) × (over 1 a (operation binary.Match a ∷ []) ≡ false)
    × over 1 a (operation binary.Add (num 2) ∷ operation binary.Add (num 2) ∷ []) ≡ false
unfolding known_in number_in s.found s.seen_from last_cut form.out-Form denote.Hole.Carrier.out
not_one = (refl, refl, refl)

abbrev greatest : Datum
greatest = d.int (pos 9223372036854775807)

-- the greatest integer and 1 have no sum
of_integers : (is_of_integers op.Add (int 1) (int 2) ≡ true) × (is_of_integers op.Subtract (int 1) (int 2) ≡ true)
    × (is_of_integers op.Add greatest (int 1) ≡ false) × (is_of_integers op.Multiply (int 1) (int 2) ≡ false)
    × is_of_integers op.Add (int 1) (text (codes "2")) ≡ false
of_integers = (refl, refl, refl, refl, refl)

-- ---- access

abbrev lent : ℕ → Datum → List Expr → Option (Option Datum)
lent left whole keys = lent_in left whole keys top scopes

-- `{ a => 5, 1 => 6 }`
abbrev a_hash : Datum
a_hash = hash ((text (codes "a"), int 5) ∷ (int 1, int 6) ∷ [])

-- `[7, 8]`
abbrev a_list : Datum
a_list = list (int 7 ∷ int 8 ∷ [])

-- by `a`, by `'a'`, by 1 and by `$a`
by_keys : (lent 1 a_hash (word (codes "a") ∷ []) ≡ Some (Some (int 5)))
    × (lent 1 a_hash (told (codes "a") ∷ []) ≡ Some (Some (int 5)))
    × (lent 1 a_hash (num 1 ∷ []) ≡ Some (Some (int 6))) × (lent 1 a_hash (a ∷ []) ≡ Some (Some (int 6)))
    × lent 1 a_list (a ∷ []) ≡ Some (Some (int 8))
unfolding known_in number_in text_in s.found s.seen_from last_cut form.out-Form denote.Hole.Carrier.out
by_keys = (refl, refl, refl, refl, refl)

-- what is not there is Undef
nothing_there : (lent 1 a_hash (word (codes "b") ∷ []) ≡ Some None) × (lent 1 a_list (num 2 ∷ []) ≡ Some None)
unfolding known_in number_in text_in s.found s.seen_from last_cut form.out-Form denote.Hole.Carrier.out
nothing_there = (refl, refl)

-- a list by a text, a number, two keys, none, `*[1, 2]`, `true`, `$x`, and where no level is left
others : (lent 1 a_list (word (codes "a") ∷ []) ≡ None) × (lent 1 (int 7) (num 1 ∷ []) ≡ None)
    × (lent 1 a_list (num 0 ∷ num 1 ∷ []) ≡ None) × (lent 1 a_list [] ≡ None) × (lent 1 a_list (spliced ∷ []) ≡ None)
    × (lent 1 a_hash (flag true ∷ []) ≡ None) × (lent 1 a_hash (x ∷ []) ≡ None) × lent 0 a_list (num 1 ∷ []) ≡ None
unfolding known_in number_in text_in s.found s.seen_from last_cut form.out-Form denote.Hole.Carrier.out
others = (refl, refl, refl, refl, refl, refl, refl, refl)
