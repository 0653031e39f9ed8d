-- A hash by key tells what its pairs tell.
use denote.Ref.{Bor}
use Rattle.std.proofs.Common.{◌≡◌, ◌∙◌, ℕ, ℤ, Bool, true, false, cond, Option, Some, List, [], ◌∷◌, refl, ap, if◌then◌else◌}
use Rattle.std.proofs.Common.{Ordering, Less, Equal, Greater}
use Rattle.std.proofs.lemmas.Cmp.{int_cmp_total, nat_list_cmp_total}
use Rattle.std.proofs.lemmas.Map.Text.{is_eq-slice_cmp}
use Rattle.std.specs.BTreeMap.{BTreeMap, get, is_at}
use Rattle.std.specs.Option.{unwrap_or}
use Rattle.std.specs.Ordering.{int_cmp, int_eq, is_eq, ordering_reverse}
use Rattle.std.specs.Prelude.{is_none}
use Rattle.std.specs.Str.{bytes_eq}
use Rattle.pp_values.specs.declared.value.Value.{Value}
use Rattle.pp_values.specs.Datum.{Datum, Pair}
use Rattle.pp_values.specs.Datum as d
use Rattle.pp_values.specs.Keys.{same_key, value_at}
use Rattle.pp_values.specs.Rising.{text_cmp}
use Rattle.pp_values.specs.Views.{view}
use Rattle.pp_ops.specs.Hashes.{overridden, added}
use Rattle.pp_ops.specs.Indexes.{said, number_at, text_at, indexed, overridden_by, added_by}

pub same_overridden : (at : Datum → Option Datum) (others ps : List Pair) → ((k : Datum) → at k ≡ value_at k others) →
    overridden_by at ps ≡ overridden others ps
same_overridden at others [] tells = refl
same_overridden at others (p ∷ ps) tells =
    ap (λ o. (p.0, unwrap_or o p.1) ∷ overridden_by at ps) (tells p.0)
    ∙ ap (λ qs. (p.0, unwrap_or (value_at p.0 others) p.1) ∷ qs) (same_overridden at others ps tells)

pub same_added : (at : Datum → Option Datum) (had ps : List Pair) → ((k : Datum) → at k ≡ value_at k had) →
    added_by at ps ≡ added had ps
same_added at had [] tells = refl
same_added at had (p ∷ ps) tells =
    ap (λ o. cond (is_none o) (p ∷ added_by at ps) (added_by at ps)) (tells p.0)
    ∙ ap (λ qs. cond (is_none (value_at p.0 had)) (p ∷ qs) qs) (same_added at had ps tells)

reversed : (r : Ordering) → is_eq (ordering_reverse r) ≡ is_eq r
reversed Less = refl
reversed Equal = refl
reversed Greater = refl

either : (b : Bool) (o p : Option (Bor Value)) → said (cond b o p) ≡ cond b (said o) (said p)
either true o p = refl
either false o p = refl

-- a number's value put in is found there, and the others are as before
pub number_put : (old new : BTreeMap ℤ (Bor Value)) (n : ℤ) (v : Bor Value) →
    ((q : ℤ) → get int_cmp new q ≡ cond (is_at (int_cmp n) q) (Some v) (get int_cmp old q)) →
    (z : ℤ) → number_at z new ≡ (if int_eq z n then Some (view v.now) else number_at z old)
number_put old new n v changes z =
    ap said (changes z)
    ∙ either (is_eq (int_cmp n z)) (Some v) (get int_cmp old z)
    ∙ ap (λ b. cond b (Some (view v.now)) (number_at z old))
    (ap is_eq (int_cmp_total.antisymm n z) ∙ reversed (int_cmp z n))

pub text_put : (old new : BTreeMap (List ℕ) (Bor Value)) (u : List ℕ) (v : Bor Value) →
    ((q : List ℕ) → get text_cmp new q ≡ cond (is_at (text_cmp u) q) (Some v) (get text_cmp old q)) →
    (t : List ℕ) → text_at t new ≡ (if bytes_eq t u then Some (view v.now) else text_at t old)
text_put old new u v changes t =
    ap said (changes t)
    ∙ either (is_eq (text_cmp u t)) (Some v) (get text_cmp old t)
    ∙ ap (λ b. cond b (Some (view v.now)) (text_at t old))
    (ap is_eq (nat_list_cmp_total.antisymm u t) ∙ reversed (text_cmp t u) ∙ is_eq-slice_cmp t u)

pub text_added : (numbers : BTreeMap ℤ (Bor Value)) (old new : BTreeMap (List ℕ) (Bor Value)) (u w : List ℕ) (v : Bor Value) →
    u ≡ w →
    ((q : List ℕ) → get text_cmp new q ≡ cond (is_at (text_cmp u) q) (Some v) (get text_cmp old q)) →
    (k : Datum) → indexed k numbers new ≡ (if same_key k (d.text w) then Some (view v.now) else indexed k numbers old)
text_added numbers old new u w v is changes (d.text t) =
    text_put old new u v changes t ∙ ap (λ x. if bytes_eq t x then Some (view v.now) else text_at t old) is
text_added numbers old new u w v is changes k = refl
