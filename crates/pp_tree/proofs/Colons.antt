-- The `::` at the front of a name.
use Rattle.std.proofs.Common.{◌≡◌, ℕ, List, [], ◌∷◌, drop, refl, sym, ap, ◌∙◌, arith}
use Rattle.pp_tree.specs.Names.{without_front_colons}

pub stripped : (t r : List ℕ) (n : ℕ) → t ≡ 58 ∷ 58 ∷ drop n t → r ≡ drop n t → r ≡ without_front_colons t
unfolding without_front_colons
stripped t r n front back = back ∙ sym (ap without_front_colons front)

pub kept : (t : List ℕ) → ((r : List ℕ) → t ≡ 58 ∷ 58 ∷ r → ⊥) → t ≡ without_front_colons t
unfolding without_front_colons
kept [] other = refl
kept (a ∷ []) other = refl
kept (a ∷ b ∷ r) other = grind arith
