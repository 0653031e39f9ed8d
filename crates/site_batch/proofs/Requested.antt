-- The request with a number.
use Rattle.std.proofs.Common.{◌≡◌, ◌<◌, ℕ, zero, suc, Bool, true, false, ◌&&◌, IsTrue, List, [], ◌∷◌, length, get_or, slice_get, Some, refl, sym, ap, subst, arith}
use Rattle.std.proofs.lemmas.List.{length-map}
use Rattle.res_core.specs.Asked.{Asked}
use Rattle.res_core.specs.RequestViews.{asked, all_asked}
use Rattle.res_core.specs.AskedFacts.{asks_with_facts, give_facts}
use Rattle.res_core.specs.declared.request.Request.{Request}
use Rattle.site_core.specs.Asked.{asks, all_asks}

at_map : (requests : List Request) (i : ℕ) (request : Request) → i < length (all_asked requests) →
    request ≡ get_or requests i request → slice_get (all_asked requests) i ≡ Some (asked request)
at_map [] i request inside at = absurd (omega (arith, inside))
at_map (r ∷ requests) zero request inside at = ap (λ x. Some (asked x)) (sym at)
at_map (r ∷ requests) (suc i) request inside at = at_map requests i request (omega (arith, inside)) at

pub is_at : (requests : List Request) (all : List Asked) (i : ℕ) (request : Request) → all_asked requests ≡ all →
    i < length all → request ≡ get_or requests i request → slice_get all i ≡ Some (asked request)
is_at requests all i request is inside at =
    subst (λ l. slice_get l i ≡ Some (asked request)) is
    (at_map requests i request (subst (λ l. i < length l) (sym is) inside) at)

both : (a b : Bool) → IsTrue (a && b) → IsTrue a × IsTrue b
both true b holds = (refl, holds)
both false b holds = absurd cc

pub facts_at : (all : List Asked) (i : ℕ) (one : Asked) → IsTrue (give_facts all) → slice_get all i ≡ Some one →
    IsTrue (asks_with_facts one)
facts_at [] i one given at = absurd cc
facts_at (x ∷ all) zero one given at =
    let is : x ≡ one = cc in
    subst (λ a. IsTrue (asks_with_facts a)) is (both (asks_with_facts x) (give_facts all) given).0
facts_at (x ∷ all) (suc i) one given at =
    facts_at all i one (both (asks_with_facts x) (give_facts all) given).1 at

-- what it asks of a site
pub asks_at : {S : Type 0} (all : List Asked) (i : ℕ) (one : Asked) → slice_get all i ≡ Some one →
    slice_get (all_asks {S = S} all) i ≡ Some (asks one)
asks_at [] i one at = absurd cc
asks_at (x ∷ all) zero one at = let is : x ≡ one = cc in ap (λ a. Some (asks a)) is
asks_at (x ∷ all) (suc i) one at = asks_at all i one at

pub asks_length : (S : Type 0) (all : List Asked) → length (all_asks {S = S} all) ≡ length all
asks_length S all = length-map all asks
