-- Whether a node is defined, from an index on.
use Rattle.std.proofs.Common.{◌≡◌, ℕ, zero, suc, ◌+◌, ◌≤◌, false, ◌||◌, [], ◌∷◌, length, drop, refl, ap, add-one}
use Rattle.std.proofs.Math.ListN.{drop_of_length-le}
use Rattle.std.specs.List.{slice_get}
use Rattle.std.specs.Option.{option_map}
use Rattle.pp_tree.specs.Tables.{Entries}
use Rattle.class_eval.specs.Evaluating.{is_node_told, has_nodes}

step : (es : Entries) (i : ℕ) → has_nodes (drop i es)
    ≡ (is_node_told (option_map (λ e. e.1) (slice_get es i)) || has_nodes (drop (suc i) es))
unfolding has_nodes
step [] zero = refl
step [] (suc i) = refl
step (e ∷ es) zero = refl
step (e ∷ es) (suc i) = step es i

-- what stands at the index is one, or one is among the rest
pub node_step : (es : Entries) (i : ℕ) → has_nodes (drop i es)
    ≡ (is_node_told (option_map (λ e. e.1) (slice_get es i)) || has_nodes (drop (i + 1) es))
node_step es i = rw add-one (step es i)

pub no_node : (es : Entries) (i : ℕ) → length es ≤ i → has_nodes (drop i es) ≡ false
unfolding has_nodes
no_node es i past = ap has_nodes (drop_of_length-le es past)
