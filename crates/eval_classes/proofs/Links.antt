-- The turns in which the classes of a chain are found.
use Rattle.std.proofs.Common.{◌≡◌, ℕ, suc, ◌+◌, List, [], ◌∷◌, length, Option, None, Some, refl, ap, sym, subst, ◌∙◌, arith}
use Rattle.std.specs.Prelude.{unwrap_or}
use Rattle.pp_tree.specs.declared.definition.Class.{Class}
use Rattle.res_book.specs.declared.row.Row.{Row}
use Rattle.eval_world.specs.Environment.{Environment}
use Rattle.eval_classes.specs.Definitions.{all_names, longest_way, parent_of}
use Rattle.eval_classes.specs.Listing.{chain_from, class_at, or_done, parent_or_done, unless_declared}
use Rattle.eval_classes.specs.Stacks.{Chain, chain_of}
use Rattle.eval_classes.proofs.Enough.{chains_alike}

module _ (m : Environment) (book : List Row) where
  -- so many turns were made from the first class: these stand before the last one, which has this name
  pub Linked : ℕ → List ℕ → Class → List Class → List ℕ → Class → Type 0
  Linked turn x c before name last = (n : ℕ) →
      chain_from (turn + n) [] x c m book ≡ chain_from n before name last m book

  pub begins : (x : List ℕ) (c : Class) → Linked 0 x c [] x c
  unfolding Linked
  begins x c n = let is : 0 + n ≡ n = omega arith in ap (λ k. chain_from k [] x c m book) is

  -- what is linked, as it is told otherwise
  pub moved : (turn : ℕ) (x : List ℕ) (c : Class) (bs cs : List Class) (n k : List ℕ) (last : Class) → bs ≡ cs → n ≡ k
      → Linked turn x c bs n last → Linked turn x c cs k last
  moved turn x c bs cs n k last e f is = subst (λ r. Linked turn x c cs r last) f (subst (λ r. Linked turn x c r n last) e is)

  linked : (n : ℕ) (before : List Class) (name : List ℕ) (last : Class) → chain_from (suc n) before name last m book
      ≡ parent_or_done (parent_of m name last) m book (chain_of last before (parent_of m name last))
      (λ parent p. chain_from n (last ∷ before) parent p m book)
  unfolding chain_from
  linked n before name last = refl

  goes_on : (n : ℕ) (before : List Class) (name parent : List ℕ) (last p : Class)
      → parent_of m name last ≡ Some parent → unless_declared book (class_at m (Some parent)) ≡ Some p
      → chain_from (suc n) before name last m book ≡ chain_from n (last ∷ before) parent p m book
  goes_on n before name parent last p is there =
      linked n before name last
      ∙ ap (λ o. parent_or_done o m book (chain_of last before o) (λ parent p. chain_from n (last ∷ before) parent p m book))
      is
      ∙ ap (λ o. or_done o (chain_of last before (Some parent)) (λ p. chain_from n (last ∷ before) parent p m book)) there

  one_found : (turn : ℕ) (x : List ℕ) (c : Class) (before : List Class) (name parent : List ℕ) (last p : Class)
      → Linked turn x c before name last → parent_of m name last ≡ Some parent
      → unless_declared book (class_at m (Some parent)) ≡ Some p → Linked (turn + 1) x c (last ∷ before) parent p
  unfolding Linked
  one_found turn x c before name parent last p told is there n =
      let next : turn + 1 + n ≡ turn + suc n = omega arith in
      ap (λ k. chain_from k [] x c m book) next ∙ told (suc n) ∙ goes_on n before name parent last p is there

  whole : (turn : ℕ) (x : List ℕ) (c : Class) (before : List Class) (name : List ℕ) (last : Class)
      → Linked turn x c before name last
      → chain_from (longest_way m) [] x c m book ≡ chain_from (longest_way m) before name last m book
  unfolding Linked
  whole turn x c before name last told =
      sym (chains_alike m book [] x c (turn + longest_way m) (omega arith)) ∙ told (longest_way m)

  -- the parent of the last one is found
  pub one_more : (turn : ℕ) (x : List ℕ) (c : Class) (before : List Class) (name : List ℕ) (parent : Option (List ℕ))
      (last p : Class) → Linked turn x c before name last → parent ≡ parent_of m name last
      → unless_declared book (class_at m parent) ≡ Some p
      → Linked (turn + 1) x c (last ∷ before) (unwrap_or parent name) p
  one_more turn x c before name None last p told is there = absurd cc
  one_more turn x c before name (Some parent) last p told is there =
      one_found turn x c before name parent last p told (sym is) there

  ended_by : (parent : Option (List ℕ)) (last : Class) (before : List Class) (next : List ℕ → Class → Chain)
      → unless_declared book (class_at m parent) ≡ None
      → parent_or_done parent m book (chain_of last before parent) next ≡ chain_of last before parent
  ended_by None last before next none = refl
  ended_by (Some parent) last before next none =
      ap (λ o. or_done o (chain_of last before (Some parent)) (next parent)) none

  ended : (n : ℕ) (before : List Class) (name : List ℕ) (parent : Option (List ℕ)) (last : Class)
      → parent ≡ parent_of m name last → unless_declared book (class_at m parent) ≡ None
      → chain_from (suc n) before name last m book ≡ chain_of last before parent
  ended n before name parent last is none =
      linked n before name last
      ∙ ap (λ o. parent_or_done o m book (chain_of last before o) (λ parent p. chain_from n (last ∷ before) parent p m book))
      (sym is)
      ∙ ended_by parent last before (λ parent p. chain_from n (last ∷ before) parent p m book) none

  -- it has none, or one that is declared or no class of the site
  pub no_further : (turn : ℕ) (x : List ℕ) (c : Class) (before : List Class) (name : List ℕ) (parent : Option (List ℕ))
      (last : Class) → Linked turn x c before name last → parent ≡ parent_of m name last
      → unless_declared book (class_at m parent) ≡ None
      → chain_of last before parent ≡ chain_from (longest_way m) [] x c m book
  no_further turn x c before name parent last told is none =
      sym (whole turn x c before name last told ∙ ended (length (all_names m)) before name parent last is none)
