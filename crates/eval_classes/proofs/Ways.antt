-- The turns of a way over the parents of classes, so many of which were gone.
use Rattle.std.proofs.Common.{◌≡◌, ℕ, zero, suc, ◌+◌, Bool, true, false, ◌||◌, List}
use Rattle.std.proofs.Common.{Option, None, Some, refl, ap, sym, ◌∙◌, subst, arith}
use Rattle.std.specs.Str.{bytes_eq}
use Rattle.eval_world.specs.Environment.{Environment}
use Rattle.eval_classes.specs.Definitions.{comes_to, longest_way, parent_at}
use Rattle.eval_classes.proofs.Behind.{IsBehind, came_back, none_at}
use Rattle.eval_classes.proofs.Enough.{comes_alike}

module _ (m : Environment) (name : List ℕ) where
  -- so many turns lead from the first of these to the second, and none of those that were passed has the name
  pub Went : ℕ → Option (List ℕ) → Option (List ℕ) → Type 0
  Went turn first at = (n : ℕ) → comes_to (turn + n) m name first ≡ comes_to n m name at

  pub begins : (first : Option (List ℕ)) → Went 0 first first
  unfolding Went
  begins first n = let is : 0 + n ≡ n = omega arith in ap (λ k. comes_to k m name first) is

  passes : (n : ℕ) (at : List ℕ) → bytes_eq at name ≡ false
      → comes_to (suc n) m name (Some at) ≡ comes_to n m name (parent_at m at)
  unfolding comes_to
  passes n at other = rw other refl

  pub further : (turn : ℕ) (first : Option (List ℕ)) (at : List ℕ) → Went turn first (Some at) → bytes_eq at name ≡ false
      → Went (turn + 1) first (parent_at m at)
  unfolding Went
  further turn first at went other n =
      let is : turn + 1 + n ≡ turn + suc n = omega arith in
      ap (λ k. comes_to k m name first) is ∙ went (suc n) ∙ passes n at other

  -- what the whole way comes to, by what is left
  whole : (turn : ℕ) (first at : Option (List ℕ)) → Went turn first at
      → comes_to (longest_way m) m name first ≡ comes_to (longest_way m) m name at
  unfolding Went
  whole turn first at went =
      sym (comes_alike m name first (turn + longest_way m) (omega arith)) ∙ went (longest_way m)

  pub at_end : (turn : ℕ) (first : Option (List ℕ)) → Went turn first None → false ≡ comes_to (longest_way m) m name first
  at_end turn first went = sym (whole turn first None went ∙ none_at m name (longest_way m))

  met_here : (at : List ℕ) → bytes_eq at name ≡ true → comes_to (longest_way m) m name (Some at) ≡ true
  unfolding comes_to
  met_here at is = rw is refl

  pub met : (turn : ℕ) (first : Option (List ℕ)) (at : List ℕ) → Went turn first (Some at) → bytes_eq at name ≡ true
      → true ≡ comes_to (longest_way m) m name first
  met turn first at went is = sym (whole turn first (Some at) went ∙ met_here at is)

  -- a way that has come back to one that it passed goes round for ever
  pub round : (mark : Option (List ℕ)) (turn : ℕ) (first : Option (List ℕ)) (at : List ℕ) → Went turn first (Some at)
      → IsBehind m name mark (Some at) → mark ≡ Some at → false ≡ comes_to (longest_way m) m name first
  round mark turn first at went behind is = sym (whole turn first (Some at) went
      ∙ came_back m name at (longest_way m) (subst (λ o. IsBehind m name o (Some at)) is behind))
