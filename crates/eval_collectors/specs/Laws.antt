-- That the number of queries which may stand within one another decides nothing but when it is F29.
use Rattle.std.specs.Prelude.{◌≡◌, ◌⊎◌, ℕ, suc, Err}
use Rattle.pp_tree.specs.declared.collector.Query.{Query}
use Rattle.pp_values.specs.declared.fault.Fault.{Fault}
use Rattle.pp_values.specs.declared.fault.What.TheVariants as what
use Rattle.eval_world.specs.Inner.{Inner}
use Rattle.eval_world.specs.Outcomes.{Outcome, Step}
use Rattle.eval_world.specs.declared.here.Here.{Here}
use Rattle.eval_world.specs.declared.world.World.{World}
use Rattle.eval_collectors.specs.Queries.{query_within}

-- the outcome is F29
abbrev pub IsDepthLimit : {A : Type 0} → Outcome A → Type 0
IsDepthLimit outcome = (f : Fault) × (outcome ≡ Err f) × (f.what ≡ what.DepthLimit)

-- the second step comes to what the first one comes to, but where that is F29
abbrev pub GoesDeeper : {A : Type 0} → Step A → Step A → Type 0
GoesDeeper first second = (w : World) → (first w ≡ second w) ⊎ IsDepthLimit (first w)

-- with one level more a query asks for what it asked for, but where that was F29
abbrev pub LevelsOnlyRefuse : Type 0
LevelsOnlyRefuse = (levels : ℕ) (inner : Inner) (line : ℕ) (q : Query) (here : Here) →
    GoesDeeper (query_within levels inner line q here) (query_within (suc levels) inner line q here)
