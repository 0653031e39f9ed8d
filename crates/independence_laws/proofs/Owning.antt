-- Owners that go on, and numbers that keep what they say.
use Rattle.std.proofs.Common.{◌≡◌, ◌≤◌, ◌<◌, ◌+◌, ℕ, zero, suc, List, [], ◌∷◌, ◌++◌, length, Option, None, Some}
use Rattle.std.proofs.Common.{refl, ap, sym, subst, ◌∙◌, arith}
use Rattle.std.proofs.lemmas.List.{append-nil, append_assoc}
use Rattle.std.specs.Prelude.{slice_get, unwrap_or}
use Rattle.eval_world.specs.Owners.{Owners, owner_at}
use Rattle.eval_world.specs.declared.here.Here.{Here}
use Rattle.eval_world.specs.declared.owner.Owner.{Owner}
use Rattle.res_book.specs.declared.collector.Collector.{Collector}
use Rattle.res_book.specs.Relations.{Related}
use Rattle.independence_laws.specs.Alike.{AreSameCollectors, AreSameRelations, IsSameCollector, IsSameHere, IsSameOwner}
use Rattle.independence_laws.specs.Alike.{OwnersGoOn}
use Rattle.independence_laws.specs.Steps.{Two}

pub owners_stay : (o : Owners) → OwnersGoOn o o
owners_stay o = record { main = refl; more = []; others = sym (append-nil o.others) }

pub owners_on : {a b c : Owners} → OwnersGoOn a b → OwnersGoOn b c → OwnersGoOn a c
owners_on {a = a} f g = record {
  main = g.main ∙ f.main;
  more = f.more ++ g.more;
  others = g.others ∙ ap (λ xs. xs ++ g.more) f.others ∙ append_assoc a.others f.more g.more;
}

-- ---- what stands at a number

get_front : (n : ℕ) (xs ys : List Owner) → suc n ≤ length xs → slice_get (xs ++ ys) n ≡ slice_get xs n
get_front n [] ys below = absurd (omega (arith, below))
get_front zero (x ∷ xs) ys below = refl
get_front (suc n) (x ∷ xs) ys below = get_front n xs ys (omega (arith, below))

longer : (xs ys : List Owner) → length xs ≤ length (xs ++ ys)
longer [] ys = omega arith
longer (x ∷ xs) ys = let rest = longer xs ys in omega (arith, rest)

-- a number of an owner is one from then on, and says the same
pub owner_stays : (o p : Owners) (n : ℕ) → OwnersGoOn o p → n ≤ length o.others → owner_at n p ≡ owner_at n o
unfolding owner_at
owner_stays o p zero f below = f.main
owner_stays o p (suc n) f below =
    ap (λ xs. unwrap_or (slice_get xs n) p.main) f.others
    ∙ ap (λ x. unwrap_or x p.main) (get_front n o.others f.more below)
    ∙ ap (λ m. unwrap_or (slice_get o.others n) m) f.main

pub number_stays : (o p : Owners) (n : ℕ) → OwnersGoOn o p → n ≤ length o.others → n ≤ length p.others
number_stays o p n f below =
    let more : length o.others ≤ length p.others
    = subst (λ xs. length o.others ≤ length xs) (sym f.others) (longer o.others f.more) in
    omega (arith, more, below)

pub same_owner_on : (o p q r : Owners) (n k : ℕ) → OwnersGoOn o q → OwnersGoOn p r → IsSameOwner o p n k
    → IsSameOwner q r n k
same_owner_on o p q r n k f g same = record {
  left = number_stays o q n f same.left;
  right = number_stays p r k g same.right;
  owner = owner_stays o q n f same.left ∙ same.owner ∙ sym (owner_stays p r k g same.right);
}

pub same_here_on : (o p q r : Owners) (here there : Here) → OwnersGoOn o q → OwnersGoOn p r → IsSameHere o p here there
    → IsSameHere q r here there
same_here_on o p q r here there f g same = record {
  scope = same.scope;
  typed = same.typed;
  owner = same_owner_on o p q r here.owner there.owner f g same.owner;
}

-- ---- one owner more

module _ (x : Owner) where
  get_last : (xs : List Owner) → slice_get (xs ++ x ∷ []) (length xs) ≡ Some x
  get_last [] = refl
  get_last (y ∷ ys) = get_last ys

  longer_by_one : (xs : List Owner) → length (xs ++ x ∷ []) ≡ length xs + 1
  longer_by_one [] = refl
  longer_by_one (y ∷ ys) = let rest = longer_by_one ys in omega (arith, rest)

  module _ (o p : Owners) (main : p.main ≡ o.main) (others : p.others ≡ o.others ++ x ∷ []) where
    pub one_goes_on : OwnersGoOn o p
    one_goes_on = record { main = main; more = x ∷ []; others = others }

    pub last_there : length o.others + 1 ≤ length p.others
    last_there =
        let is = longer_by_one o.others in
        let same = ap (λ (xs : List Owner). length xs) others in
        omega (arith, is, same)

    pub owner_last : owner_at (length o.others + 1) p ≡ x
    unfolding owner_at
    owner_last =
        let is : length o.others + 1 ≡ suc (length o.others) = omega arith in
        rw is (ap (λ xs. unwrap_or (slice_get xs (length o.others)) p.main) others
        ∙ ap (λ y. unwrap_or y p.main) (get_last o.others))

-- ---- collectors

pub same_collectors_on : (o p q r : Owners) (cs ds : List Collector) → OwnersGoOn o q → OwnersGoOn p r
    → AreSameCollectors o p cs ds → AreSameCollectors q r cs ds
unfolding AreSameCollectors
same_collectors_on o p q r [] [] f g same = tt
same_collectors_on o p q r [] (d ∷ ds) f g same = absurd same
same_collectors_on o p q r (c ∷ cs) [] f g same = absurd same
same_collectors_on o p q r (c ∷ cs) (d ∷ ds) f g same = (
  record { parts = same.0.parts; owner = same_owner_on o p q r c.owner d.owner f g same.0.owner },
  same_collectors_on o p q r cs ds f g same.1,
)

pub same_relations_on : (o p q r : Owners) (x y : Related) → OwnersGoOn o q → OwnersGoOn p r → AreSameRelations o p x y
    → AreSameRelations q r x y
same_relations_on o p q r x y f g same = record {
  lines = same.lines;
  containments = same.containments;
  applied = same.applied;
  collectors = same_collectors_on o p q r x.collectors y.collectors f g same.collectors;
}

-- two places, with the owners that there are by now
pub now : (two : Two) (o p : Owners) → OwnersGoOn two.first o → OwnersGoOn two.second p → Two
now two o p f g = record {
  left = two.left;
  right = two.right;
  first = o;
  second = p;
  same = same_here_on two.first two.second o p two.left two.right f g two.same;
}
