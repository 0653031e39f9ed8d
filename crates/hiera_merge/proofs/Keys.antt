-- Each key of a hash is one.
use Rattle.std.proofs.Common.{◌≡◌, ℕ, zero, suc, ◌<◌, IsTrue, List, [], ◌∷◌, length, get_or, arith, ap, true, ◌∙◌}
use Rattle.std.specs.Cmp.{first_so, second_so}
use Rattle.pp_values.specs.declared.value.Value.{Value}
use Rattle.pp_values.specs.Datum.{Pair}
use Rattle.pp_values.specs.Keys.{is_key, lacks, are_distinct}
use Rattle.pp_values.specs.Views.{view, pair_views}

key_at_index : (xs : List (Value × Value)) (i : ℕ) (d : Value × Value) → i < length xs → are_distinct (pair_views xs) ≡ true
    → is_key (view (get_or xs i d).0) ≡ true
key_at_index [] i d h e = absurd (omega arith)
key_at_index (x ∷ xs) zero d h e = first_so (is_key (view x.0)) _ e
key_at_index (x ∷ xs) (suc i) d h e =
    let h' : i < length xs = omega arith in
    key_at_index xs i d h' (second_so (lacks (view x.0) (pair_views xs)) _ (second_so (is_key (view x.0)) _ e))

pub key_at : (xs : List (Value × Value)) (ps : List Pair) (i : ℕ) (x : Value × Value) (k : Value)
    → pair_views xs ≡ ps → IsTrue (are_distinct ps) → i < length xs → x ≡ get_or xs i x → view k ≡ view x.0
    → IsTrue (is_key (view k))
key_at xs ps i x k e d h at same =
    ap is_key same ∙ ap (λ (y : Value × Value). is_key (view y.0)) at ∙ key_at_index xs i x h (ap are_distinct e ∙ d)
