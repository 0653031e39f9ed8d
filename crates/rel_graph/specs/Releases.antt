-- How many arrows into a step still hold it back, as steps are done.
use Rattle.std.specs.Prelude.{◌≡◌, ◌⊎◌, ℕ, zero, suc, ◌+◌, ◌<◌, ◌≤◌, Bool, false, cond, nat_eq, List, [], ◌∷◌, length}
use Rattle.std.specs.Prelude.{slice_index, slice_index_or}
use Rattle.std.specs.List.{Contains}

-- how often a step is among these
abbrev pub times : List ℕ → ℕ → ℕ
times [] v = 0
times (t ∷ ts) v = cond (nat_eq v t) 1 0 + times ts v

-- where the arrows from a step lead
abbrev pub targets : List (ℕ × ℕ) → ℕ → List ℕ
targets [] u = []
targets (a ∷ arrows) u = cond (nat_eq u a.0) (a.1 ∷ targets arrows u) (targets arrows u)

-- how many arrows into a step come from steps that are not done
abbrev pub waiting : List Bool → List (ℕ × ℕ) → ℕ → ℕ
waiting done [] v = 0
waiting done (a ∷ arrows) v = cond (nat_eq v a.1) (cond (slice_index_or done a.0 false) 0 1) 0 + waiting done arrows v

-- The counts of these targets go down by one for each, and what goes down to nothing is free.
pub record Released (targets before after free_before free_after : List ℕ) : Type 0 where
  pub long : length after ≡ length before
  pub counted : (v : ℕ) → v < length before → slice_index after v + times targets v ≡ slice_index before v
  pub room : length free_after ≤ length free_before + length targets
  pub kept : (v : ℕ) → Contains free_before v → Contains free_after v
  pub freed : (v : ℕ) → slice_index after v ≡ 0 → 0 < slice_index before v → Contains free_after v
  pub sound : (v : ℕ) → Contains free_after v →
      Contains free_before v ⊎ ((slice_index after v ≡ 0) × (0 < slice_index before v))

-- the turns that are left, where each step that is not done may set so many free
abbrev pub weight : ℕ → ℕ → ℕ
weight zero each = 0
weight (suc steps) each = (each + 1) + weight steps each
