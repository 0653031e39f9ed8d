-- The definitions at worked examples. Each line with `refl` holds by computing.
use Rattle.std.proofs.Common.{ℕ, List, [], ◌∷◌, refl, codes}
use Rattle.std.specs.Fmt.{digits}
use Rattle.pp_tree.specs.declared.expr.Form.{out-Form}
use Rattle.pp_values.specs.declared.fault.What.TheVariants as what
use Rattle.eval_world.specs.Owners.{owner_at}
use Rattle.eval_world.specs.Worlds.{write_log}
use Rattle.attribute_lines.specs.Reading.{lines_from, attribute_rule, setting_rule, splat_rule, splatted}
use Rattle.attribute_lines.proofs.Samples.{told, word, a_hash, a_list, fails, sample, sets, adds, here, said}
use Rattle.attribute_lines.proofs.Samples.{Tells, Refuses}

abbrev a : List ℕ
a = codes "a"

abbrev b : List ℕ
b = codes "b"

abbrev c : List ℕ
c = codes "c"

in_order : Tells (lines_from sample [] (sets a (told c) 3 ∷ sets b (told a) 4 ∷ []) here)
    (said a c 3 ∷ said b a 4 ∷ []) (c ∷ a ∷ [])
unfolding lines_from attribute_rule setting_rule write_log out-Form denote.Hole.Carrier.out owner_at
in_order environment = refl

-- the pairs of a splat stand in its place, at its line; 3 becomes a text
splat_in_place : Tells (lines_from sample [] (sets a (word c) 3 ∷ adds a_hash 4 ∷ sets b (word c) 5 ∷ []) here)
    (said a c 3 ∷ said (codes "owner") (codes "root") 4 ∷ said (codes "3") c 4 ∷ said b c 5 ∷ []) []
unfolding lines_from attribute_rule setting_rule splat_rule splatted out-Form denote.Hole.Carrier.out owner_at digits
splat_in_place environment = refl

-- F11 where it is no hash, at the line of the attribute
splat_of_list : Refuses (lines_from sample [] (sets a (word c) 3 ∷ adds a_list 4 ∷ sets b (fails 5) 5 ∷ []) here)
    4 (what.BadOperand (codes "*"))
unfolding lines_from attribute_rule setting_rule splat_rule out-Form denote.Hole.Carrier.out owner_at
splat_of_list environment = refl

first_fault : Refuses (lines_from sample [] (sets a (fails 3) 3 ∷ adds a_list 4 ∷ []) here)
    3 (what.UnknownVariable (codes "x"))
unfolding lines_from attribute_rule setting_rule splat_rule out-Form denote.Hole.Carrier.out owner_at
first_fault environment = refl
