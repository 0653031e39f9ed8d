-- Chains with arrows.
use Rattle.std.proofs.Common.{ℕ, List, [], ◌∷◌, Option, None, Some}
use Rattle.pp_tree.specs.Names.{normal}
use Rattle.pp_tree.specs.Layers.{OperandLayer}
use Rattle.pp_tree.specs.declared.collector.Test.TheOpen.{Operand-F}
use Rattle.pp_tree.specs.declared.expr.Expr.{Expr}
use Rattle.pp_tree.specs.declared.resource.Resource.{Resource}
use Rattle.pp_tree.specs.declared.statement.Arrow.{Arrow}
use Rattle.pp_tree.specs.declared.statement.Link.{Link}
use Rattle.pp_tree.specs.declared.statement.Operand as tree
use Rattle.pp_tree.specs.declared.statement.Operand.{out-Operand}
use Rattle.res_core.specs.declared.operand.Operand.{Operand}
use Rattle.class_eval.specs.Chains.{related_by, related_rule, ends_from, put_relation, relate_by, relate_from}
use Rattle.class_eval.specs.Chains.{links_rule}
use Rattle.class_eval.specs.declared.chain_end.End.{End}
use Rattle.eval_resources.specs.Relating.{operands_rule}
use Rattle.eval_resources.specs.Resources.{form_of}
use Rattle.eval_world.specs.Inner.{Inner}
use Rattle.eval_world.specs.declared.here.Here.{Here}
use Rattle.world_laws.specs.Growing.{Grows, GrowsInner}
use Rattle.world_laws.proofs.OfClasses.{one_line}
use Rattle.world_laws.proofs.OfCollectors.{collector_grows}
use Rattle.world_laws.proofs.OfOverrides.{override_grows, defaults_grow}
use Rattle.world_laws.proofs.OfResources.{all_bodies_grow, declare_bodies_grow}
use Rattle.world_laws.proofs.Steps.{and_then, pure_grows, fault_grows}
use Rattle.world_laws.proofs.Worlds.{relations_grow, same_world}

put_grows : (a : Arrow) (left right : List Operand) (line : ℕ) (here : Here) →
    Grows (put_relation a left right line here)
put_grows a left right line here = record {
  reaches = λ w. relations_grow w _ (one_line _ w.relations);
}

relate_grows : (left : Option (List Operand)) (a : Arrow) (right : Option (List Operand)) (line : ℕ) (here : Here) →
    Grows (relate_by left a right line here)
relate_grows None a right line here = fault_grows _
relate_grows (Some left) a None line here = fault_grows _
relate_grows (Some left) a (Some right) line here =
    and_then (put_grows a left right line here) (λ u. pure_grows {a = right})

relates_grow : (left : Option (List Operand)) (ends : List End) (line : ℕ) (here : Here) →
    Grows (relate_from left ends line here)
unfolding relate_from
relates_grow left [] line here = pure_grows
relates_grow left (e ∷ es) line here =
    and_then (relate_grows left e.arrow e.operands line here) (λ right. relates_grow (Some right) es line here)

module _ (inner : Inner) (g : GrowsInner inner) where
  operands_grow : (r : Resource Expr) (here : Here) → Grows (operands_rule inner r here)
  unfolding operands_rule
  operands_grow r here = and_then (all_bodies_grow inner g r.bodies here) (λ bodies.
      and_then (declare_bodies_grow inner g (form_of r.form) (normal r.kind) bodies here) (λ u. pure_grows))

  related_by_grows : (o : OperandLayer) (line : ℕ) (here : Here) → Grows (related_by inner o line here)
  related_by_grows (Operand-F.Expr e) line here = and_then (g.value e here) (λ v. pure_grows)
  related_by_grows (Operand-F.Resource r) line here = and_then (operands_grow r here) (λ declared. pure_grows)
  related_by_grows (Operand-F.Collector c) line here = and_then (collector_grows inner g c here) (λ u. record {
    reaches = same_world;
  })
  related_by_grows (Operand-F.Override o) line here = and_then (override_grows inner g o here) (λ u. pure_grows)
  related_by_grows (Operand-F.Defaults o) line here = and_then (defaults_grow inner g o here) (λ u. pure_grows)

  related_grows : (o : tree.Operand) (line : ℕ) (here : Here) → Grows (related_rule inner o line here)
  unfolding related_rule
  related_grows o line here = related_by_grows (out-Operand o) line here

  ends_grow : (done : List End) (ls : List (Link tree.Operand)) (line : ℕ) (here : Here) →
      Grows (ends_from inner done ls line here)
  unfolding ends_from
  ends_grow done [] line here = pure_grows
  ends_grow done (l ∷ ls) line here =
      and_then (related_grows l.operand line here) (λ related. ends_grow _ ls line here)

  pub links_grow : (first : tree.Operand) (ls : List (Link tree.Operand)) (line : ℕ) (here : Here) →
      Grows (links_rule inner first ls line here)
  unfolding links_rule
  links_grow first ls line here = and_then (related_grows first line here) (λ left.
      and_then (ends_grow [] ls line here) (λ ends. relates_grow left ends line here))
