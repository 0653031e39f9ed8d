-- What a search begins with, and what it asks for.
use Rattle.std.proofs.Common.{◌≡◌, ℕ, ◌≤◌, List, [], ◌∷◌, length, take, refl, sym, subst, arith}
use Rattle.std.specs.Prelude.{IsTrue}
use Rattle.std.specs.FinMap as fin
use Rattle.std.proofs.lemmas.List.{length-take}
use Rattle.res_core.specs.AskedFacts.{give_facts}
use Rattle.export_store.specs.Sets.{Sets}
use Rattle.site_core.specs.Events.{Event, opens}
use Rattle.site_core.specs.Fits.{Listed}
use Rattle.site_core.specs.Meaning.{Meaning}
use Rattle.history_tools.specs.Settles.{start}
use Rattle.history_tools.specs.Rounds.{asked_of, Stands}

-- before the first round stands the opening
start_none : (nodes : List (List ℕ)) → start nodes 0 ≡ 1
start_none nodes = omega arith

pub stands_none : {S C F : Type 0} (meaning : Meaning S C F) (listed : Listed S) (limit workers : ℕ) (site : S)
    (nodes : List (List ℕ)) (h : List (Event S)) (sets : Sets) → h ≡ opens site ∷ [] → sets ≡ fin.empty → 1 ≤ limit →
    Stands meaning listed limit workers site nodes 0 h sets
stands_none meaning listed limit workers site nodes h sets is none low =
    subst (λ l. Stands meaning listed limit workers site nodes 0 l sets) (sym is) (record {
      legal = tt;
      more = [];
      split = refl;
      later = tt;
      size = sym (start_none nodes);
      few = low;
      authors = omega arith;
      changed = λ r lt. absurd (omega (arith, lt));
      sets_are = none;
    })

asked_count : (nodes : List (List ℕ)) → length (asked_of nodes) ≡ length nodes
asked_count [] = refl
asked_count (node ∷ nodes) = let rest = asked_count nodes in omega (arith, rest)

pub asked_few : (most : ℕ) (nodes : List (List ℕ)) → length (asked_of (take most nodes)) ≤ most
asked_few most nodes = let size = asked_count (take most nodes) in let few = length-take most nodes in
    omega (arith, size, few)

pub asked_facts : (nodes : List (List ℕ)) → IsTrue (give_facts (asked_of nodes))
asked_facts [] = refl
asked_facts (node ∷ nodes) = asked_facts nodes
