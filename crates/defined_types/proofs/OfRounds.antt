-- Rounds: what collectors take, and the instances of defines.
use Rattle.std.proofs.Common.{ℕ, zero, suc, ◌+◌, Bool, true, false, List, [], ◌∷◌, length, Option, None, Some}
use Rattle.export_store.specs.ExportQueries.{Placed}
use Rattle.export_store.specs.Sets.{Sets}
use Rattle.eval_world.specs.Outcomes.{Step}
use Rattle.eval_collecting.specs.Importing.{imports}
use Rattle.defined_types.specs.Rounds.{take_from, take_imports, import_all, import_kind}
use Rattle.defined_types.specs.Rounds.{collector_turn, turns_from, pending, run_instances, round, again}
use Rattle.defined_types.specs.Rounds.{rounds_left, rounds, limit}
use Rattle.world_laws.specs.Growing.{Grows}
use Rattle.world_laws.proofs.OfCollecting.{local_match_grows, import_match_grows}
use Rattle.world_laws.proofs.OfEvaluator.{instance_at_grows}
use Rattle.world_laws.proofs.Steps.{and_then, pure_grows, fault_grows, told}

-- ---- local declarations

takes_grow : (c : ℕ) (added : Bool) (n left : ℕ) → Grows (take_from c added n left)
unfolding take_from
takes_grow c added n zero = pure_grows
takes_grow c added n (suc left) = and_then (local_match_grows c n) (λ more. takes_grow c _ (n + 1) left)

-- ---- imports

imports_grow : (c : ℕ) (added : Bool) (ps : List Placed) → Grows (take_imports c added ps)
unfolding take_imports
imports_grow c added [] = pure_grows
imports_grow c added (p ∷ ps) = and_then (import_match_grows c _ _ _) (λ more. imports_grow c _ ps)

import_kind_grows : (c : ℕ) (added : Bool) (kind : Option (List ℕ)) (node : List ℕ) (sets : Sets) →
    Grows (import_kind c added kind node sets)
import_kind_grows c added None node sets = pure_grows
import_kind_grows c added (Some kind) node sets = imports_grow c added _

pub import_all_grows : (c : ℕ) (added : Bool) (node : List ℕ) (sets : Sets) → Grows (import_all c added node sets)
import_all_grows c added node sets =
    told (λ w. import_kind c added (imports w c) node sets) (λ w. import_kind_grows c added _ node sets)

-- ---- collectors

turn_grows : (c : ℕ) (node : List ℕ) (sets : Sets) → Grows (collector_turn c node sets)
unfolding collector_turn
turn_grows c node sets =
    and_then (told (λ w. take_from c false 0 (length w.book)) (λ w. takes_grow c false 0 _))
    (λ added. import_all_grows c added node sets)

turns_grow : (added : Bool) (c left : ℕ) (node : List ℕ) (sets : Sets) → Grows (turns_from added c left node sets)
unfolding turns_from
turns_grow added c zero node sets = pure_grows
turns_grow added c (suc left) node sets =
    and_then (turn_grows c node sets) (λ more. turns_grow _ (c + 1) left node sets)

-- ---- instances

pub instances_grow : (added : Bool) (ns : List ℕ) → Grows (run_instances added ns)
unfolding run_instances
instances_grow added [] = pure_grows
instances_grow added (n ∷ ns) = and_then (instance_at_grows n 1) (λ u. instances_grow true ns)

-- ---- rounds

pub round_grows : (node : List ℕ) (sets : Sets) → Grows (round node sets)
unfolding round
round_grows node sets = and_then
    (told (λ w. turns_from false 0 (length w.relations.collectors) node sets) (λ w. turns_grow false 0 _ node sets))
    (λ added. told (λ w. run_instances added (pending w.book)) (λ w. instances_grow added _))

again_grows : (b : Bool) (more : Step (Unit {0})) → Grows more → Grows (again b more)
again_grows true more f = f
again_grows false more f = pure_grows

rounds_left_grow : (left : ℕ) (node : List ℕ) (sets : Sets) → Grows (rounds_left left node sets)
unfolding rounds_left
rounds_left_grow zero node sets = fault_grows _
rounds_left_grow (suc left) node sets =
    and_then (round_grows node sets) (λ added. again_grows added _ (rounds_left_grow left node sets))

pub rounds_grow : (node : List ℕ) (sets : Sets) → Grows (rounds node sets)
rounds_grow node sets = rounds_left_grow limit node sets
