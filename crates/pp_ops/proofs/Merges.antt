-- The keys of a hash stay distinct where pairs are left out, and where two hashes are merged.
use Rattle.std.proofs.Common.{◌≡◌, Bool, true, false, not, ◌&&◌, ◌||◌, cond, Option, None, Some, List, [], ◌∷◌, ◌++◌, map, filter, refl, ◌∙◌}
use Rattle.std.specs.Prelude.{is_none, is_some, option_map, IsTrue}
use Rattle.std.specs.List.{list_any}
use Rattle.std.proofs.lemmas.Bool.{and_from, and_parts}
use denote.Ref.{Bor}
use Rattle.pp_values.specs.declared.value.Value.{Value}
use Rattle.pp_values.specs.Datum.{Datum, Pair}
use Rattle.pp_values.specs.Keys.{is_key, same_key, lacks, are_distinct, value_at}
use Rattle.pp_values.specs.Views.{view}
use Rattle.pp_ops.specs.Hashes.{overridden, merged, without_keys}

lacks-filter_any : (test : Pair → Bool) (k : Datum) (ps : List Pair) → lacks k ps ≡ true →
    lacks k (filter test ps) ≡ true
lacks-filter_any test k [] h = refl
lacks-filter_any test k (p ∷ ps) h =
    let parts = and_parts (not (same_key p.0 k)) (lacks k ps) h in
    let rest : lacks k (filter test ps) ≡ true = lacks-filter_any test k ps parts.1 in
    elim (test p) as (λ b. lacks k (cond b (p ∷ filter test ps) (filter test ps)) ≡ true)
    [ true ↦ and_from _ _ parts.0 rest | false ↦ rest ]

pub distinct-filter : (test : Pair → Bool) (ps : List Pair) → are_distinct ps ≡ true →
    are_distinct (filter test ps) ≡ true
distinct-filter test [] h = refl
distinct-filter test (p ∷ ps) h =
    let parts = and_parts (is_key p.0) (lacks p.0 ps && are_distinct ps) h in
    let more = and_parts (lacks p.0 ps) (are_distinct ps) parts.1 in
    let rest : are_distinct (filter test ps) ≡ true = distinct-filter test ps more.1 in
    elim (test p) as (λ b. are_distinct (cond b (p ∷ filter test ps) (filter test ps)) ≡ true)
    [ true ↦ and_from _ _ parts.0 (and_from _ _ (lacks-filter_any test p.0 ps more.0) rest) | false ↦ rest ]

lacks-append : (k : Datum) (ps qs : List Pair) → lacks k ps ≡ true → lacks k qs ≡ true → lacks k (ps ++ qs) ≡ true
lacks-append k [] qs h g = g
lacks-append k (p ∷ ps) qs h g =
    let parts = and_parts (not (same_key p.0 k)) (lacks k ps) h in
    and_from _ _ parts.0 (lacks-append k ps qs parts.1 g)

lacks-overridden : (others : List Pair) (k : Datum) (ps : List Pair) → lacks k (overridden others ps) ≡ lacks k ps
lacks-overridden others k [] = refl
lacks-overridden others k (p ∷ ps) = rw (lacks-overridden others k ps) refl

-- a test that passes no pair with the key leaves none
lacks-filter : (test : Pair → Bool) (k : Datum) (qs : List Pair) →
    ((q : Pair) → test q ≡ true → same_key q.0 k ≡ false) → lacks k (filter test qs) ≡ true
lacks-filter test k [] h = refl
lacks-filter test k (q ∷ qs) h =
    let rest : lacks k (filter test qs) ≡ true = lacks-filter test k qs h in
    elim (test q) as (λ b. test q ≡ b → lacks k (cond b (q ∷ filter test qs) (filter test qs)) ≡ true)
    [ true ↦ λ e. rw (h q e) rest | false ↦ λ e. rest ] refl

first_apart : (k : Datum) (p : Pair) (ps : List Pair) → is_none (value_at k (p ∷ ps)) ≡ true → same_key k p.0 ≡ false
first_apart k p ps h = elim (same_key k p.0) as (λ b. is_none (cond b (Some p.1) (value_at k ps)) ≡ true → b ≡ false)
    [ true ↦ λ e. cc | false ↦ λ e. refl ] h

rest_apart : (k : Datum) (p : Pair) (ps : List Pair) → is_none (value_at k (p ∷ ps)) ≡ true →
    is_none (value_at k ps) ≡ true
rest_apart k p ps h = elim (same_key k p.0)
    as (λ b. is_none (cond b (Some p.1) (value_at k ps)) ≡ true → is_none (value_at k ps) ≡ true)
    [ true ↦ λ e. cc | false ↦ λ e. e ] h

distinct-merge : (others ps qs : List Pair) (test : Pair → Bool) → are_distinct ps ≡ true → are_distinct qs ≡ true →
    ((q : Pair) → test q ≡ true → is_none (value_at q.0 ps) ≡ true) →
    are_distinct (overridden others ps ++ filter test qs) ≡ true
distinct-merge others [] qs test h g apart = distinct-filter test qs g
distinct-merge others (p ∷ ps) qs test h g apart =
    let parts = and_parts (is_key p.0) (lacks p.0 ps && are_distinct ps) h in
    let more = and_parts (lacks p.0 ps) (are_distinct ps) parts.1 in
    let front : lacks p.0 (overridden others ps) ≡ true = lacks-overridden others p.0 ps ∙ more.0 in
    let back : lacks p.0 (filter test qs) ≡ true = lacks-filter test p.0 qs (λ q e. first_apart q.0 p ps (apart q e)) in
    let rest : are_distinct (overridden others ps ++ filter test qs) ≡ true =
    distinct-merge others ps qs test more.1 g (λ q e. rest_apart q.0 p ps (apart q e)) in
    and_from _ _ parts.0 (and_from _ _ (lacks-append p.0 (overridden others ps) (filter test qs) front back) rest)

pub are_distinct_merged : (ps qs : List Pair) → IsTrue (are_distinct ps) → IsTrue (are_distinct qs) →
    IsTrue (are_distinct (merged ps qs))
are_distinct_merged ps qs h g = distinct-merge qs ps qs (λ q. is_none (value_at q.0 ps)) h g (λ q e. e)

pub distinct_without : (gone : List Datum) (ps : List Pair) → IsTrue (are_distinct ps) →
    IsTrue (are_distinct (without_keys gone ps))
distinct_without gone ps h = distinct-filter (λ p. not (list_any (same_key p.0) gone)) ps h

-- the keys that a hash has are those that its list of keys names
pub named_keys : (k : Datum) (ps : List Pair) → list_any (same_key k) (map (λ p. p.0) ps) ≡ is_some (value_at k ps)
named_keys k [] = refl
named_keys k (p ∷ ps) = elim (same_key k p.0)
    as (λ b. (b || list_any (same_key k) (map (λ q. q.0) ps)) ≡ is_some (cond b (Some p.1) (value_at k ps)))
    [ true ↦ refl | false ↦ named_keys k ps ]

-- a value that is there says something
pub some_kept : (o : Option (Bor Value)) → is_some o ≡ is_some (option_map (λ v. view v.now) o)
some_kept None = refl
some_kept (Some v) = refl
