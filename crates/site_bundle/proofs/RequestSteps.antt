-- One request after another, and what is true of all of them.
use Rattle.std.proofs.Common.{◌≡◌, ◌≤◌, ◌<◌, ◌-◌, ◌+◌, ℕ, suc, Bool, true, false, ◌&&◌, IsTrue, if◌then◌else◌, List, [], ◌∷◌, ◌++◌, length, take, drop, get_or, Option, Some, None, Result, Ok, Err, refl, ap, sym, subst, ◌∙◌, arith, length-append, true≢false}
use Rattle.std.proofs.lemmas.Bool.{le-leb, lt-leb, leb-true}
use Rattle.std.proofs.lemmas.Result.{IfOk-weaker}
use Rattle.std.proofs.lemmas.Grind.{common_steps}
use Rattle.std.specs.Prelude.{IfOk, codes, nat_le}
use Rattle.std.specs.Option.{ok_or}
use Rattle.res_core.specs.Asked.{Asked, compile, deactivate}
use Rattle.serde_json.specs.Data.{Data, null, boolean, number, string, array, object, no_members, member, Items, no_items, item}
use Rattle.serde_json.specs.Find.{get, as_array}
use Rattle.serde_json.specs.declared.value.Value.{Value}
use Rattle.serde_json.specs.View.{view, items_view}
use Rattle.pp_values.specs.Datum.{Datum}
use Rattle.pp_values.specs.Facts.{are_facts}
use Rattle.site_bundle.specs.declared.bundle_stop.BundleStop.{BundleStop}
use Rattle.site_bundle.specs.Refusals.{Refusal, too_large, bad_shape, Tells, Refuses, Reads, result_and_then}
use Rattle.site_bundle.specs.GivenFacts.{given_facts}
use Rattle.site_bundle.specs.declared.limits.TheConstants.{MOST_REQUESTS}
use Rattle.site_bundle.specs.RequestsOf.{bad_member, facts_asked, seen_asked, name_asked, wanted_in, asked_by, asked_in, asked_from, item_count, asked_among, all_asked_in}
use Rattle.res_core.specs.AskedFacts.{has_facts, asks_with_facts, give_facts}
use Rattle.site_bundle.proofs.FactSteps.{given_are_facts}
use Rattle.site_bundle.proofs.Chains.{refuses_then, refuses_same, reads_same, told, if_then, if_each}

-- ---- the loop

rest_of : (y : Value) (ys : List Value) → take (length (y ∷ ys) - 1) (drop 1 (y ∷ ys)) ≡ ys
rest_of y ys = grind (arith, common_steps)

pub first_of : (xs : List Value) (x : Value) → 1 ≤ length xs → x ≡ get_or xs 0 x → xs ≡ x ∷
    take (length xs - 1) (drop 1 xs)
first_of [] x h at = absurd (omega (arith, h))
first_of (y ∷ ys) x h at = ap (λ z. z ∷ ys) (sym at) ∙ ap (λ l. x ∷ l) (sym (rest_of y ys))

first_of_items : (xs rest : List Value) (x : Value) (found : List Asked) → xs ≡ x ∷ rest →
    asked_from found (items_view xs) ≡ result_and_then (λ a. asked_from (found ++ a ∷ []) (items_view rest))
    (asked_in (length found) (view x))
unfolding asked_from
first_of_items xs rest x found is = ap (λ l. asked_from found (items_view l)) is

pub request_found : (xs rest : List Value) (x : Value) (old new : List Asked) (a : Asked) (n : ℕ) → xs ≡ x ∷ rest →
    n ≡ length old → asked_in n (view x) ≡ Ok a →
    new ≡ old ++ a ∷ [] → asked_from new (items_view rest) ≡ asked_from old (items_view xs)
request_found xs rest x old new a n is count made more =
    ap (λ l. asked_from l (items_view rest)) more
    ∙ sym (first_of_items xs rest x old is ∙ ap (λ k. result_and_then
    (λ b. asked_from (old ++ b ∷ []) (items_view rest)) (asked_in k (view x))) (sym count)
    ∙ ap (result_and_then (λ b. asked_from (old ++ b ∷ []) (items_view rest))) made)

pub request_refused : (s : BundleStop) (xs rest : List Value) (x : Value) (found : List Asked) (n : ℕ) → xs ≡ x ∷ rest →
    n ≡ length found → Refuses s (asked_in n (view x)) →
    Refuses s (asked_from found (items_view xs))
request_refused s xs rest x found n is count h =
    refuses_same s _ _ (first_of_items xs rest x found is)
    (refuses_then s (asked_in (length found) (view x)) _ (subst (λ k. Refuses s (asked_in k (view x))) count h))

pub no_items_left : (xs : List Value) (found : List Asked) → length xs < 1 → asked_from found (items_view xs) ≡ Ok found
unfolding asked_from
no_items_left [] found h = refl
no_items_left (x ∷ xs) found h = absurd (omega (arith, h))

-- ---- how many there are

item_count-items_view : (xs : List Value) → item_count (items_view xs) ≡ length xs
unfolding item_count
item_count-items_view [] = refl
item_count-items_view (x ∷ xs) = ap suc (item_count-items_view xs)

pub few_enough : (r : Result (List Asked) BundleStop) (xs : List Value) → length xs ≤ MOST_REQUESTS →
    Reads r (asked_from [] (items_view xs)) → Reads r (asked_among (items_view xs))
few_enough r xs few h =
    reads_same r _ _
    (ap (λ b. if b then asked_from [] (items_view xs) else Err (too_large (codes "requests")))
    (ap (λ n. nat_le n MOST_REQUESTS) (item_count-items_view xs) ∙ le-leb _ _ few)) h

pub too_many : (s : BundleStop) (xs : List Value) → MOST_REQUESTS < length xs → Tells s (too_large (codes "requests")) →
    Refuses s (asked_among (items_view xs))
too_many s xs many h =
    refuses_same s _ _
    (ap (λ b. if b then asked_from [] (items_view xs) else Err (too_large (codes "requests")))
    (ap (λ n. nat_le n MOST_REQUESTS) (item_count-items_view xs) ∙ lt-leb _ _ many)) (told (List Asked) s _ h)

asked_from-length : (found : List Asked) (ds : Items) (n : ℕ) → length found + item_count ds ≡ n →
    IfOk (asked_from found ds) (λ rs. length rs ≡ n)
unfolding asked_from item_count
asked_from-length found no_items n is = omega (arith, is)
asked_from-length found (item d ds) n is =
    if_each (asked_in (length found) d) (λ a. asked_from (found ++ a ∷ []) ds) (λ rs. length rs ≡ n)
    (λ a. asked_from-length (found ++ a ∷ []) ds n (omega (arith, length-append found (a ∷ []), is)))

among-few : (ds : Items) (b : Bool) → nat_le (item_count ds) MOST_REQUESTS ≡ b →
    IfOk (if b then asked_from [] ds else Err (too_large (codes "requests"))) (λ rs. length rs ≤ MOST_REQUESTS)
among-few ds true is = IfOk-weaker (asked_from [] ds) (λ rs. length rs ≡ 0 + item_count ds)
    (λ rs. length rs ≤ MOST_REQUESTS) (λ rs same. omega (arith, same, leb-true _ _ is)) (asked_from-length [] ds _ refl)
among-few ds false is = tt

pub asked-few : (d : Data) → IfOk (all_asked_in d) (λ rs. length rs ≤ MOST_REQUESTS)
asked-few d = if_each (ok_or (as_array d) (bad_shape (codes "requests"))) asked_among (λ rs. length rs ≤ MOST_REQUESTS)
    (λ ds. among-few ds _ refl)

-- ---- their facts

both : (a b : Bool) → IsTrue a → IsTrue b → IsTrue (a && b)
both true b p q = q
both false b p q = p

first : (a b : Bool) → IsTrue (a && b) → IsTrue a
first true b h = refl
first false b h = h

second : (a b : Bool) → IsTrue (a && b) → IsTrue b
second true b h = h
second false b h = absurd (true≢false (sym h))

give_facts-push : (found : List Asked) (a : Asked) → IsTrue (give_facts found) → IsTrue (asks_with_facts a) →
    IsTrue (give_facts (found ++ a ∷ []))
give_facts-push [] a h p = both _ _ p refl
give_facts-push (f ∷ fs) a h p = both _ _ (first _ _ h) (give_facts-push fs a (second _ _ h) p)

given_if : (o : Option Datum) (r : Refusal) → ((d : Datum) → o ≡ Some d → IsTrue (are_facts d)) →
    IfOk (ok_or o r) (λ facts. IsTrue (are_facts facts))
given_if None r h = tt
given_if (Some d) r h = h d refl

given-facts : (d : Data) (r : Refusal) → IfOk (ok_or (given_facts d) r) (λ facts. IsTrue (are_facts facts))
given-facts d r = given_if (given_facts d) r (given_are_facts d)

asked-facts : (index : ℕ) (o : Option Data) → IfOk (facts_asked index o) (λ facts. IsTrue (has_facts facts))
asked-facts index None = refl
asked-facts index (Some d) =
    if_then (ok_or (given_facts d) (bad_member index (codes "facts"))) (λ facts. Ok (Some facts))
    (λ facts. IsTrue (are_facts facts)) (λ facts. IsTrue (has_facts facts))
    (given-facts d _) (λ facts p. p)

wanted-facts : (index : ℕ) (request node : Data) → IfOk (wanted_in index request node) (λ w. IsTrue (has_facts w.facts))
wanted-facts index request node =
    if_then (facts_asked index (get (codes "facts") request)) _ (λ facts. IsTrue (has_facts facts))
    (λ w. IsTrue (has_facts w.facts))
    (asked-facts index (get (codes "facts") request))
    (λ facts p. if_each (name_asked index (codes "node") node) _ (λ w. IsTrue (has_facts w.facts))
    (λ name. if_each (seen_asked index (get (codes "seen") request)) _ (λ w. IsTrue (has_facts w.facts)) (λ seen. p)))

by-facts : (index : ℕ) (request : Data) (node deactivated : Option Data) →
    IfOk (asked_by index request node deactivated) (λ a. IsTrue (asks_with_facts a))
by-facts index request (Some node) None =
    if_then (wanted_in index request node) (λ w. Ok (compile w)) (λ w. IsTrue (has_facts w.facts))
    (λ a. IsTrue (asks_with_facts a)) (wanted-facts index request node) (λ w p. p)
by-facts index request None (Some name) =
    if_each (name_asked index (codes "deactivate") name) (λ node. Ok (deactivate node))
    (λ a. IsTrue (asks_with_facts a)) (λ node. refl)
by-facts index request (Some node) (Some name) = tt
by-facts index request None None = tt

asked_from-facts : (found : List Asked) (ds : Items) → IsTrue (give_facts found) →
    IfOk (asked_from found ds) (λ rs. IsTrue (give_facts rs))
unfolding asked_from
asked_from-facts found no_items h = h
asked_from-facts found (item d ds) h =
    if_then (asked_in (length found) d) (λ a. asked_from (found ++ a ∷ []) ds) (λ a. IsTrue (asks_with_facts a))
    (λ rs. IsTrue (give_facts rs))
    (by-facts (length found) d (get (codes "node") d) (get (codes "deactivate") d))
    (λ a p. asked_from-facts (found ++ a ∷ []) ds (give_facts-push found a h p))

among-facts : (ds : Items) (b : Bool) → IfOk (if b then asked_from [] ds else Err (too_large (codes "requests")))
    (λ rs. IsTrue (give_facts rs))
among-facts ds true = asked_from-facts [] ds refl
among-facts ds false = tt

pub asked_give_facts : (d : Data) → IfOk (all_asked_in d) (λ rs. IsTrue (give_facts rs))
asked_give_facts d = if_each (ok_or (as_array d) (bad_shape (codes "requests"))) asked_among
    (λ rs. IsTrue (give_facts rs)) (λ ds. among-facts ds _)
