-- The first node whose sets differ.
use Rattle.std.proofs.Common.{◌≡◌, ℕ, zero, suc, ◌-◌, ◌≤◌, List, [], ◌∷◌, ◌++◌, length, map, take, drop, get_or, Option, None, Some, refl, sym, ap, ◌∙◌, subst, arith}
use Rattle.std.specs.Prelude.{IsSome}
use Rattle.std.specs.FinMap as fin
use Rattle.std.proofs.lemmas.Grind.{common_steps}
use Rattle.std.proofs.lemmas.List.{length-drop}
use Rattle.export_store.specs.Sets.{Sets}
use Rattle.site_core.specs.Each.{Each}
use Rattle.site_core.proofs.Each.{each_end}
use Rattle.history_tools.specs.Rounds.{FirstApart}
use Rattle.history_tools.proofs.Ended.{take_whole}

rest_of : {A : Type 0} (y : A) (ys : List A) → take (length (y ∷ ys) - 1) (drop 1 (y ∷ ys)) ≡ ys
rest_of y ys = grind (arith, common_steps)

pub first_here : (old new : Sets) (left : List (List ℕ)) (x : List ℕ) → 1 ≤ length left → x ≡ get_or left 0 x →
    (fin.get old x ≡ fin.get new x → ⊥) → FirstApart old new left (Some x)
first_here old new [] x some at apart = absurd (omega (arith, some))
first_here old new (y ∷ left) x some at apart = ([], left, ap (λ z. z ∷ left) (sym at), tt, apart)

-- what is found behind a node whose sets are the same
first_more : (old new : Sets) (x : List ℕ) (rest : List (List ℕ)) (found : Option (List ℕ)) →
    fin.get old x ≡ fin.get new x → FirstApart old new rest found → FirstApart old new (x ∷ rest) found
first_more old new x rest None same first = (same, first)
first_more old new x rest (Some node) same first =
    (x ∷ first.0, first.1, ap (λ l. x ∷ l) first.2, (same, first.3), first.4)

pub first_looked : (old new : Sets) (left all : List (List ℕ)) (x : List ℕ) → 1 ≤ length left → x ≡ get_or left 0 x →
    fin.get old x ≡ fin.get new x →
    ((found : Option (List ℕ)) → FirstApart old new left found → FirstApart old new all found) →
    (found : Option (List ℕ)) → FirstApart old new (take (length left - 1) (drop 1 left)) found →
    FirstApart old new all found
first_looked old new [] all x some at same before found first = absurd (omega (arith, some))
first_looked old new (y ∷ left) all x some at same before found first =
    before found (first_more old new y left found (subst (λ z. fin.get old z ≡ fin.get new z) at same)
    (subst (λ l. FirstApart old new l found) (rest_of y left) first))

module _ {A B : Type 0} (f : A → B) where
  drop_map : (k : ℕ) (xs : List A) → map f (drop k xs) ≡ drop k (map f xs)
  drop_map zero xs = refl
  drop_map (suc k) [] = refl
  drop_map (suc k) (x ∷ xs) = drop_map k xs

  -- what is mapped of the last ones
  pub map_behind : (k : ℕ) (xs : List A) (all : List B) → map f xs ≡ all →
      map f (take (length xs - k) (drop k xs)) ≡ drop k all
  map_behind k xs all is =
      ap (map f) (take_whole (length xs - k) (drop k xs) (let size = length-drop k xs in omega (arith, size)))
      ∙ drop_map k xs ∙ ap (drop k) is

pub no_set : (after : Sets) (all slice front back : List (List ℕ)) (node : List ℕ) →
    Each (λ n. IsSome (fin.get after n)) all → slice ≡ all → slice ≡ front ++ node ∷ back → fin.get after node ≡ None →
    ⊥
no_set after all slice front back node each is split none =
    let some = each_end (λ n. IsSome (fin.get after n)) front node back
    (subst (Each (λ n. IsSome (fin.get after n))) (sym is ∙ split) each) in
    nothing (fin.get after node) none some
  where
    nothing : {X : Type 0} (o : Option X) → o ≡ None → IsSome o → ⊥
    nothing None is some = absurd (cc some)
    nothing (Some x) is some = absurd (cc is)
