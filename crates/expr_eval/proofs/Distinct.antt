-- The keys of a hash stay distinct where pairs are left out.
use Rattle.std.proofs.Common.{◌≡◌, Bool, true, false, not, ◌&&◌, cond, List, [], ◌∷◌, refl}
use Rattle.std.specs.Prelude.{IsTrue}
use Rattle.std.proofs.lemmas.Bool.{and_from, and_parts}
use Rattle.pp_values.specs.Datum.{Datum, Pair}
use Rattle.pp_values.specs.Keys.{is_key, same_key, lacks, are_distinct}
use Rattle.expr_eval.specs.Gathering.{kept}
use Rattle.expr_eval.specs.Truth.{is_true}

lacks_kept : (k : Datum) (ps : List Pair) (rs : List Datum) → lacks k ps ≡ true → lacks k (kept ps rs) ≡ true
lacks_kept k [] rs h = refl
lacks_kept k (p ∷ ps) [] h = refl
lacks_kept k (p ∷ ps) (r ∷ rs) h =
    let parts = and_parts (not (same_key p.0 k)) (lacks k ps) h in
    let rest : lacks k (kept ps rs) ≡ true = lacks_kept k ps rs parts.1 in
    elim (is_true r) as (λ b. lacks k (cond b (p ∷ kept ps rs) (kept ps rs)) ≡ true)
    [ true ↦ and_from _ _ parts.0 rest | false ↦ rest ]

distinct : (ps : List Pair) (rs : List Datum) → are_distinct ps ≡ true → are_distinct (kept ps rs) ≡ true
distinct [] rs h = refl
distinct (p ∷ ps) [] h = refl
distinct (p ∷ ps) (r ∷ rs) h =
    let parts = and_parts (is_key p.0) (lacks p.0 ps && are_distinct ps) h in
    let more = and_parts (lacks p.0 ps) (are_distinct ps) parts.1 in
    let rest : are_distinct (kept ps rs) ≡ true = distinct ps rs more.1 in
    elim (is_true r) as (λ b. are_distinct (cond b (p ∷ kept ps rs) (kept ps rs)) ≡ true)
    [ true ↦ and_from _ _ parts.0 (and_from _ _ (lacks_kept p.0 ps rs more.0) rest) | false ↦ rest ]

pub distinct_kept : (ps : List Pair) (rs : List Datum) → IsTrue (are_distinct ps) → IsTrue (are_distinct (kept ps rs))
distinct_kept ps rs h = distinct ps rs h
