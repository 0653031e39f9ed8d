-- How names and values are held: as the entries of an ordered map, and as a list of the first ones before a map.
use Rattle.std.specs.Prelude.{ℕ, zero, suc, Bool, false, List, [], ◌∷◌, map, Option, None, Some}
use Rattle.std.specs.Ordering.{is_eq}
use Rattle.std.specs.declared.alloc.Global.{Global}
use Rattle.std.specs.declared.vec.Vec.{Vec}
use Rattle.pp_values.specs.Rising.{text_cmp}
use Rattle.scope_core.specs.Names.{Name, with_value}

-- the entries of a map
abbrev pub keyed : {T : Type 0} → List (Vec ℕ Global × T) → List (Name × T)
keyed = map (λ e. (e.0.items, e.1))

-- the names that stand in a list, in any order, and those of a map
abbrev pub held : {T : Type 0} → List (Name × T) → List (Name × T) → List (Name × T)
held [] later = later
held (e ∷ es) later = with_value e.0 e.1 (held es later)

-- it is this name that stands here
abbrev pub is_named : {T : Type 0} → Name → Option (Name × T) → Bool
is_named x None = false
is_named x (Some e) = is_eq (text_cmp x e.0)

-- the list with another value at a place
abbrev pub replaced : {T : Type 0} → ℕ → T → List (Name × T) → List (Name × T)
replaced at v [] = []
replaced zero v (e ∷ es) = (e.0, v) ∷ es
replaced (suc at) v (e ∷ es) = e ∷ replaced at v es
