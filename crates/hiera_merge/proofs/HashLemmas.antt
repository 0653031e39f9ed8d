-- What hashes that are joined one level deep have for a key, and that they have each key once.
use Rattle.std.proofs.Common.{◌≡◌, Bool, true, false, cond, None, Some, Option, IsTrue, List, [], ◌∷◌, refl, ap, sym, subst, ◌∙◌, true≢false}
use Rattle.std.specs.Cmp.{first_so}
use Rattle.pp_values.specs.Datum.{Datum, Pair}
use Rattle.pp_values.specs.Keys.{is_key, same_key, lacks, are_distinct, value_at, with_pair}
use Rattle.pp_values.proofs.Distinct.{one_key}
use Rattle.hiera_merge.specs.DeepSteps.{AreKeyed}
use Rattle.hiera_merge.specs.Merges.{pairs_in, with_pairs, hash_merge}
use Rattle.hiera_merge.proofs.LaidLemmas.{either_way, pair_distinct, no_value, rest_lacks, rest_distinct}

-- ---- one pair

-- of two keys that are not the same, at most one is a third
either_first : {A : Type 0} (b c : Bool) (x y z : A) → (b ≡ true → c ≡ false) → cond b x (cond c y z) ≡ cond c y (cond b x z)
either_first true true x y z apart = absurd (true≢false (apart refl))
either_first true false x y z apart = refl
either_first false c x y z apart = refl

twice : {A : Type 0} (b : Bool) (x y z : A) → cond b x z ≡ cond b x (cond b y z)
twice true x y z = refl
twice false x y z = refl

-- the value of a key, where a pair is put
pub value_of_pair : (j k v : Datum) (ps : List Pair)
    → value_at j (with_pair k v ps) ≡ cond (same_key j k) (Some v) (value_at j ps)
value_of_pair j k v [] = refl
value_of_pair j k v (p ∷ ps) =
    elim (same_key k p.0) as (λ b. same_key k p.0 ≡ b
    → value_at j (cond b ((p.0, v) ∷ ps) (p ∷ with_pair k v ps))
    ≡ cond (same_key j k) (Some v) (cond (same_key j p.0) (Some p.1) (value_at j ps))) [
      | true ↦ λ same.
          let here : same_key j p.0 ≡ same_key j k = ap (same_key j) (sym (one_key k p.0 same)) in
          ap (λ c. cond c (Some v) (value_at j ps)) here
          ∙ twice (same_key j k) (Some v) (Some p.1) (value_at j ps)
          ∙ ap (λ c. cond (same_key j k) (Some v) (cond c (Some p.1) (value_at j ps))) (sym here)
      | false ↦ λ other.
          ap (λ o. cond (same_key j p.0) (Some p.1) o) (value_of_pair j k v ps)
          ∙ either_first (same_key j p.0) (same_key j k) (Some p.1) (Some v) (value_at j ps)
          (λ same. ap (λ x. same_key x k) (one_key j p.0 same) ∙ either_way p.0 k ∙ other)
    ] refl

-- ---- the pairs of a hash

-- where none of them has the key, it has what it had
pub none_put : (j : Datum) (ps out : List Pair) → value_at j ps ≡ None
    → value_at j (with_pairs ps out) ≡ value_at j out
none_put j [] out none = refl
none_put j (p ∷ ps) out none =
    elim (same_key j p.0) as (λ b. same_key j p.0 ≡ b → cond b (Some p.1) (value_at j ps) ≡ None
    → value_at j (with_pairs ps (with_pair p.0 p.1 out)) ≡ value_at j out) [
      | true ↦ λ same is. absurd (cc is)
      | false ↦ λ other is.
          none_put j ps (with_pair p.0 p.1 out) is ∙ value_of_pair j p.0 p.1 out
          ∙ ap (λ b. cond b (Some p.1) (value_at j out)) other
    ] refl none

-- where one has it, that one's value counts
pub value_put : (j v : Datum) (ps out : List Pair) → IsTrue (are_distinct ps) → value_at j ps ≡ Some v
    → value_at j (with_pairs ps out) ≡ Some v
value_put j v [] out distinct some = absurd (cc some)
value_put j v (p ∷ ps) out distinct some =
    elim (same_key j p.0) as (λ b. same_key j p.0 ≡ b → cond b (Some p.1) (value_at j ps) ≡ Some v
    → value_at j (with_pairs ps (with_pair p.0 p.1 out)) ≡ Some v) [
      | true ↦ λ same is.
          let lacking : IsTrue (lacks j ps) =
          subst (λ x. IsTrue (lacks x ps)) (sym (one_key j p.0 same)) (rest_lacks p ps distinct) in
          none_put j ps (with_pair p.0 p.1 out) (no_value j ps lacking) ∙ value_of_pair j p.0 p.1 out
          ∙ ap (λ b. cond b (Some p.1) (value_at j out)) same ∙ is
      | false ↦ λ other is. value_put j v ps (with_pair p.0 p.1 out) (rest_distinct p ps distinct) is
    ] refl some

-- ---- each key stands once

pairs_distinct : (ps out : List Pair) → IsTrue (are_distinct ps) → IsTrue (are_distinct out)
    → IsTrue (are_distinct (with_pairs ps out))
pairs_distinct [] out h g = g
pairs_distinct (p ∷ ps) out h g =
    pairs_distinct ps (with_pair p.0 p.1 out) (rest_distinct p ps h)
    (pair_distinct p.0 p.1 out (first_so (is_key p.0) _ h) g)

pub hash_distinct : (ds : List Datum) → AreKeyed ds → IsTrue (are_distinct (hash_merge ds))
hash_distinct [] keyed = refl
hash_distinct (d ∷ ds) keyed = pairs_distinct (pairs_in d) (hash_merge ds) keyed.0 (hash_distinct ds keyed.1)
