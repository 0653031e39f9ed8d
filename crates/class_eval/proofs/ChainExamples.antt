-- Chains with arrows at worked examples. Each line holds by computing.
use Rattle.std.proofs.Common.{◌≡◌, ℕ, true, false, List, [], ◌∷◌, Option, None, Some, Result, Ok, Err, refl, codes}
use Rattle.pp_tree.specs.declared.statement.Arrow.TheVariants as arrow
use Rattle.pp_values.specs.Datum as d
use Rattle.pp_values.specs.Datum.{Datum, data_of}
use Rattle.pp_values.specs.Faults as faults
use Rattle.pp_values.specs.declared.fault.Fault.{Fault}
use Rattle.pp_values.specs.declared.fault.What.TheVariants as what
use Rattle.pp_values.specs.declared.place.Place.{Place}
use Rattle.pp_values.specs.declared.reference.Reference.{Reference}
use Rattle.res_book.specs.declared.relation_line.RelationLine.{RelationLine}
use Rattle.res_core.specs.declared.operand.Operand.{Operand}
use Rattle.res_core.specs.declared.operand.Operand.TheVariants as operand
use Rattle.class_eval.specs.Chains.{end, references_from, references_in, relate_from, relation, relation_by}
use Rattle.class_eval.specs.declared.chain_end.End.{End}
use Rattle.eval_world.specs.Environment.{Environment}
use Rattle.eval_world.specs.Outcomes.{Outcome}
use Rattle.eval_world.specs.Owners.{owner_at}
use Rattle.eval_world.specs.Worlds.{empty, top}

abbrev at : Place
at = record { file = codes "manifests/site.pp"; line = 3 }

-- `Notify['a']` and its like
abbrev notify : List ℕ → Reference
notify title = record { kind = codes "notify"; title = title }

abbrev one : List ℕ → List Operand
one title = operand.One (notify title) ∷ []

abbrev x : List Operand
x = one (codes "x")

abbrev y : List Operand
y = one (codes "y")

-- a collector
abbrev z : List Operand
z = operand.All 0 ∷ []

-- `a <- b` is `b -> a`; `~>` and `<~` signal
arrows : (relation_by arrow.InEdge x y at ≡ relation x y false at)
    × (relation_by arrow.InEdgeSub x y at ≡ relation x y true at)
    × (relation_by arrow.OutEdge x y at ≡ relation y x false at)
    × (relation_by arrow.OutEdgeSub x y at ≡ relation y x true at)
arrows = (refl, refl, refl, refl)

-- ---- operands

abbrev reference : List ℕ → Datum
reference title = d.reference (notify title)

abbrev list : List Datum → Datum
list ds = d.list (data_of ds)

-- a reference, or a list of references at any depth, which may be empty
related : (references_in (reference (codes "x")) ≡ Some x)
    × (references_in (list (reference (codes "x") ∷ list (reference (codes "y") ∷ []) ∷ []))
    ≡ Some (operand.One (notify (codes "x")) ∷ operand.One (notify (codes "y")) ∷ []))
    × (references_in (list []) ≡ Some [])
unfolding references_from
related = (refl, refl, refl)

unrelated : (references_in (d.text (codes "x")) ≡ None) × (references_in d.undef ≡ None)
    × (references_in (list (reference (codes "x") ∷ d.undef ∷ [])) ≡ None)
    × (references_in (list (list (d.text (codes "x") ∷ []) ∷ reference (codes "x") ∷ [])) ≡ None)
unfolding references_from
unrelated = (refl, refl, refl, refl)

-- ---- relations, of a chain that begins at line 3

abbrev seen : Outcome (Unit {0}) → Result (List RelationLine) Fault
seen (Ok p) = Ok p.1.relations.lines
seen (Err f) = Err f

abbrev relations : Option (List Operand) → List End → Environment → Result (List RelationLine) Fault
relations left ends m = seen (relate_from left ends 3 top (empty m))

abbrev refused : List ℕ → Result (List RelationLine) Fault
refused written = Err (faults.fault at (what.BadOperand written))

-- what stands between two arrows belongs to both: `x -> y <~ z`
in_order : (m : Environment)
    → relations (Some x) (end arrow.InEdge (Some y) ∷ end arrow.OutEdgeSub (Some z) ∷ []) m
    ≡ Ok (relation x y false at ∷ relation z y true at ∷ [])
unfolding relate_from owner_at
in_order m = refl

-- the first operand that can't be related is refused with the arrow before it, and the chain's first one with that after it
first_refused : (m : Environment)
    → (relations None (end arrow.InEdgeSub (Some y) ∷ end arrow.InEdge None ∷ []) m ≡ refused (codes "~>"))
    × (relations (Some x) (end arrow.OutEdge None ∷ end arrow.InEdge (Some y) ∷ []) m ≡ refused (codes "<-"))
    × (relations (Some x) (end arrow.InEdge (Some y) ∷ end arrow.OutEdgeSub None ∷ []) m ≡ refused (codes "<~"))
unfolding relate_from owner_at
first_refused m = (refl, refl, refl)
