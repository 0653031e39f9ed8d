-- Where a level is left, a query is its conjunctions one level further in.
use Rattle.std.proofs.Common.{◌≡◌, ℕ, zero, suc, ◌-◌, false, refl, nat_eq}
use native.Mathlib.Numerals.{unary_clauses}
use Rattle.pp_tree.specs.declared.collector.Query.{Query, out-Query}
use Rattle.eval_world.specs.Inner.{Inner}
use Rattle.eval_world.specs.declared.here.Here.{Here}
use Rattle.eval_world.specs.declared.world.World.{World}
use Rattle.eval_collectors.specs.Queries.{query_within, some_of}

pub level_left : (levels : ℕ) (inner : Inner) (line : ℕ) (q : Query) (here : Here) (w : World)
    → nat_eq levels 0 ≡ false
    → query_within levels inner line q here w
    ≡ some_of inner (query_within (levels - 1) inner line) (out-Query q).conjunctions here w
unfolding query_within
level_left zero inner line q here w some = absurd (cc some)
level_left (suc n) inner line q here w some = simp unary_clauses refl
