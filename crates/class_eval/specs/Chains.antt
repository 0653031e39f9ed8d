-- Chains with arrows: `A['x'] -> b { 'y': } ~> C <| |>`. Each arrow is a relation between what stands on its left and
-- what stands on its right.
use Rattle.std.specs.Prelude.{ℕ, Bool, true, false, ◌-◌, List, [], ◌∷◌, ◌++◌, length, Option, None, Some, Ok, codes}
use Rattle.pp_funcs.specs.Lists.{flat}
use Rattle.pp_tree.specs.Layers.{OperandLayer}
use Rattle.pp_tree.specs.declared.collector.Test.TheOpen.{Operand-F}
use Rattle.pp_tree.specs.declared.statement.Arrow.{Arrow}
use Rattle.pp_tree.specs.declared.statement.Arrow.TheVariants as arrow
use Rattle.pp_tree.specs.declared.statement.Link.{Link}
use Rattle.pp_tree.specs.declared.statement.Operand as tree
use Rattle.pp_tree.specs.declared.statement.Operand.{out-Operand}
use Rattle.pp_values.specs.Datum as d
use Rattle.pp_values.specs.Datum.{Datum}
use Rattle.pp_values.specs.declared.fault.What.TheVariants as what
use Rattle.pp_values.specs.declared.place.Place.{Place}
use Rattle.res_book.specs.Relations.{with_line}
use Rattle.res_book.specs.declared.relation_line.RelationLine.{RelationLine}
use Rattle.res_core.specs.declared.operand.Operand.{Operand}
use Rattle.res_core.specs.declared.operand.Operand.TheVariants as operand
use Rattle.class_eval.specs.declared.chain_end.End.{End}
use Rattle.eval_collectors.specs.Collectors.{collector_rule}
use Rattle.eval_overrides.specs.DefaultStatements.{defaults_rule}
use Rattle.eval_overrides.specs.OverrideStatements.{override_rule}
use Rattle.eval_resources.specs.Relating.{operands_rule}
use Rattle.eval_world.specs.Inner.{Inner}
use Rattle.eval_world.specs.Outcomes.{Step, ◌>>=◌, ◌>>◌, pure}
use Rattle.eval_world.specs.Worlds.{fault, place_at}
use Rattle.eval_world.specs.declared.here.Here.{Here}
use Rattle.eval_world.specs.declared.world.World.{World}

-- ---- what stands at an end of an arrow; None where it is nothing that can be related

abbrev pub reference_in : Datum → Option Operand
reference_in (d.reference r) = Some (operand.One r)
reference_in _ = None

abbrev pub or_none : Option Operand → (Operand → Option (List Operand)) → Option (List Operand)
or_none None next = None
or_none (Some o) next = next o

-- the references among these values, behind those that are there; None where one is none
unfoldable pub references_from : List Operand → List Datum → Option (List Operand)
references_from done [] = Some done
references_from done (v ∷ ds) = or_none (reference_in v) (λ o. references_from (done ++ o ∷ []) ds)

-- a reference, or a list of references, at any depth
abbrev pub references_in : Datum → Option (List Operand)
references_in v = references_from [] (flat v)

-- the collector that was registered last
abbrev pub last_collector : World → List Operand
last_collector w = operand.All (length w.relations.collectors - 1) ∷ []

-- a statement that relates nothing
abbrev pub relates_nothing : Step (Unit {0}) → Step (Option (List Operand))
relates_nothing p = do
  p
  pure None

-- Resources and collectors stand for what they declare and take. Overrides and default statements stand in no chain of
-- the grammar, and relate nothing.
abbrev pub related_by : Inner → OperandLayer → ℕ → Here → Step (Option (List Operand))
related_by inner (Operand-F.Expr e) line here = do
  v ← inner.value e here
  pure (references_in v)
related_by inner (Operand-F.Resource r) line here = do
  declared ← operands_rule inner r here
  pure (Some declared)
related_by inner (Operand-F.Collector c) line here = do
  collector_rule inner c here
  (λ w. Ok (Some (last_collector w), w))
related_by inner (Operand-F.Override o) line here = relates_nothing (override_rule inner o here)
related_by inner (Operand-F.Defaults o) line here = relates_nothing (defaults_rule inner o here)

unfoldable pub related_rule : Inner → tree.Operand → ℕ → Here → Step (Option (List Operand))
related_rule inner o line here = related_by inner (out-Operand o) line here

-- ---- the operands behind the first one, each with the arrow before it

abbrev pub end : Arrow → Option (List Operand) → End
end a os = record { arrow = a; operands = os }

unfoldable pub ends_from : Inner → List End → List (Link tree.Operand) → ℕ → Here → Step (List End)
ends_from inner done [] line here = pure done
ends_from inner done (l ∷ ls) line here = do
  related ← related_rule inner l.operand line here
  ends_from inner (done ++ end l.arrow related ∷ []) ls line here

-- ---- relations

abbrev pub arrow_text : Arrow → List ℕ
arrow_text arrow.InEdge = codes "->"
arrow_text arrow.InEdgeSub = codes "~>"
arrow_text arrow.OutEdge = codes "<-"
arrow_text arrow.OutEdgeSub = codes "<~"

abbrev pub relation : List Operand → List Operand → Bool → Place → RelationLine
relation left right signal at = record { left = left; right = right; signal = signal; at = at }

-- `a <- b` is `b -> a`
abbrev pub relation_by : Arrow → List Operand → List Operand → Place → RelationLine
relation_by arrow.InEdge left right at = relation left right false at
relation_by arrow.InEdgeSub left right at = relation left right true at
relation_by arrow.OutEdge left right at = relation right left false at
relation_by arrow.OutEdgeSub left right at = relation right left true at

-- F11 names the arrow, at the beginning of the chain
abbrev pub unrelated : {A : Type 0} → Arrow → ℕ → Here → Step A
unrelated a line here = fault here line (what.BadOperand (arrow_text a))

abbrev pub put_relation : Arrow → List Operand → List Operand → ℕ → Here → Step (Unit {0})
put_relation a left right line here = λ w. Ok (
  tt,
  record w { relations = with_line (relation_by a left right (place_at w here line)) w.relations },
)

-- one arrow: what stands on its right then stands on the left of the next one
abbrev pub relate_by : Option (List Operand) → Arrow → Option (List Operand) → ℕ → Here → Step (List Operand)
relate_by None a right line here = unrelated a line here
relate_by (Some left) a None line here = unrelated a line here
relate_by (Some left) a (Some right) line here = do
  put_relation a left right line here
  pure right

-- The relations in order. The first operand that can't be related is refused, with the arrow before it; the chain's
-- first one with the arrow after it.
unfoldable pub relate_from : Option (List Operand) → List End → ℕ → Here → Step (Unit {0})
relate_from left [] line here = pure tt
relate_from left (e ∷ es) line here = do
  right ← relate_by left e.arrow e.operands line here
  relate_from (Some right) es line here

-- all operands are evaluated, in their order, and then related
unfoldable pub links_rule : Inner → tree.Operand → List (Link tree.Operand) → ℕ → Here → Step (Unit {0})
links_rule inner first links line here = do
  left ← related_rule inner first line here
  ends ← ends_from inner [] links line here
  relate_from left ends line here
