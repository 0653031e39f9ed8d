-- The keys of an ordered map as names: what is found there, and where a name is put.
use Rattle.std.proofs.Common.{◌≡◌, ℕ, List, [], ◌∷◌, refl}
use Rattle.std.specs.BTreeMap.{insert_entry}
use Rattle.std.specs.Map.{lookup}
use Rattle.std.specs.Ordering.{is_eq, match_ordering}
use Rattle.std.specs.declared.cmp.Ordering.{Ordering}
use Rattle.std.specs.declared.cmp.Ordering.TheVariants.{Less, Equal, Greater}
use Rattle.std.specs.declared.alloc.Global.{Global}
use Rattle.std.specs.declared.vec.Vec.{Vec}
use Rattle.pp_values.specs.Rising.{text_cmp}
use Rattle.scope_core.specs.Keyed.{keyed}
use Rattle.scope_core.specs.Names.{Name, value_of, with_value}

module _ {T : Type 0} where
  pub found_by_key : (x : Name) (es : List (Vec ℕ Global × T))
      → lookup (λ k. is_eq (text_cmp x k.items)) es ≡ value_of x (keyed es)
  found_by_key x [] = refl
  found_by_key x (e ∷ es) = rw (found_by_key x es) refl

  by_order : (r : Ordering) (k : Vec ℕ Global) (v : T) (e : Vec ℕ Global × T) (es fs : List (Vec ℕ Global × T))
      → keyed (match_ordering r ((k, v) ∷ e ∷ es) ((e.0, v) ∷ es) (e ∷ fs))
      ≡ match_ordering r ((k.items, v) ∷ keyed (e ∷ es)) ((e.0.items, v) ∷ keyed es) ((e.0.items, e.1) ∷ keyed fs)
  by_order Less k v e es fs = refl
  by_order Equal k v e es fs = refl
  by_order Greater k v e es fs = refl

  pub put_by_key : (es : List (Vec ℕ Global × T)) (k : Vec ℕ Global) (v : T)
      → keyed (insert_entry (λ a b. text_cmp a.items b.items) es k v) ≡ with_value k.items v (keyed es)
  put_by_key [] k v = refl
  put_by_key (e ∷ es) k v =
      rw (
        by_order (text_cmp k.items e.0.items) k v e es (insert_entry (λ a b. text_cmp a.items b.items) es k v),
        put_by_key es k v,
      )
      refl
