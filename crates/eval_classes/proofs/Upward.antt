-- The turns in which the sources of parents are listed.
use Rattle.std.proofs.Common.{◌≡◌, ℕ, zero, suc, ◌+◌, List, [], ◌∷◌, ◌++◌, refl, ap, sym, ◌∙◌, arith}
use Rattle.std.proofs.Common.{Option, None, Some}
use Rattle.std.proofs.lemmas.List.{append_assoc, append-nil}
use Rattle.eval_world.specs.Environment.{Environment}
use Rattle.eval_classes.specs.Above.{sources_from, parent_named}
use Rattle.eval_classes.specs.Definitions.{class_source, longest_way}
use Rattle.eval_classes.proofs.Enough.{sources_alike}

module _ (m : Environment) where
  -- so many turns were made: what is there stands before what is left
  pub Told : ℕ → Option (List ℕ) → List (List ℕ) → Option (List ℕ) → Type 0
  Told turn first done at = (n : ℕ) → sources_from (turn + n) m first ≡ done ++ sources_from n m at

  pub begins : (first : Option (List ℕ)) → Told 0 first [] first
  unfolding Told
  begins first n = let is : 0 + n ≡ n = omega arith in ap (λ k. sources_from k m first) is

  goes_on : (n : ℕ) (done : List (List ℕ)) (name : List ℕ) → done ++ sources_from (suc n) m (Some name)
      ≡ (done ++ class_source name ∷ []) ++ sources_from n m (parent_named m name)
  unfolding sources_from
  goes_on n done name = rw append_assoc refl

  -- one more is put behind those that are there
  pub one_more : (turn : ℕ) (first : Option (List ℕ)) (done : List (List ℕ)) (name : List ℕ)
      → Told turn first done (Some name) → Told (turn + 1) first (done ++ class_source name ∷ []) (parent_named m name)
  unfolding Told
  one_more turn first done name told n =
      let is : turn + 1 + n ≡ turn + suc n = omega arith in
      ap (λ k. sources_from k m first) is ∙ told (suc n) ∙ goes_on n done name

  none_more : (k : ℕ) (done : List (List ℕ)) → done ++ sources_from k m None ≡ done
  unfolding sources_from
  none_more zero done = append-nil done
  none_more (suc k) done = append-nil done

  pub at_end : (turn : ℕ) (first : Option (List ℕ)) (done : List (List ℕ)) → Told turn first done None
      → done ≡ sources_from (longest_way m) m first
  unfolding Told
  at_end turn first done told = sym (sym (sources_alike m first (turn + longest_way m) (omega arith))
      ∙ told (longest_way m) ∙ none_more (longest_way m) done)
