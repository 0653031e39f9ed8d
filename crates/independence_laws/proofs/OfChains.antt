-- Chains with arrows.
use Rattle.std.proofs.Common.{ℕ, List, [], ◌∷◌, Option, None, Some}
use Rattle.pp_tree.specs.Names.{normal}
use Rattle.pp_tree.specs.Layers.{OperandLayer}
use Rattle.pp_tree.specs.declared.collector.Test.TheOpen.{Operand-F}
use Rattle.pp_tree.specs.declared.expr.Expr.{Expr}
use Rattle.pp_tree.specs.declared.resource.Resource.{Resource}
use Rattle.pp_tree.specs.declared.statement.Arrow.{Arrow}
use Rattle.pp_tree.specs.declared.statement.Link.{Link}
use Rattle.pp_tree.specs.declared.statement.Operand as tree
use Rattle.pp_tree.specs.declared.statement.Operand.{out-Operand}
use Rattle.res_core.specs.declared.operand.Operand.{Operand}
use Rattle.class_eval.specs.Chains.{related_by, related_rule, ends_from, put_relation, relate_by, relate_from}
use Rattle.class_eval.specs.Chains.{links_rule}
use Rattle.class_eval.specs.declared.chain_end.End.{End}
use Rattle.eval_resources.specs.Relating.{operands_rule}
use Rattle.eval_resources.specs.Resources.{form_of}
use Rattle.eval_world.specs.Inner.{Inner}
use Rattle.eval_world.specs.declared.here.Here.{Here}
use Rattle.std.proofs.Common.{◌≡◌, ◌-◌, suc, length, Ok, refl, ap}
use Rattle.res_book.specs.Relations.{with_line}
use Rattle.res_book.specs.declared.collector.Collector.{Collector}
use Rattle.res_core.specs.declared.operand.Operand.TheVariants as operand
use Rattle.class_eval.specs.Chains.{last_collector, relation_by}
use Rattle.eval_world.specs.Outcomes.{pure}
use Rattle.eval_world.specs.Owners.{Owners}
use Rattle.eval_world.specs.Worlds.{place_at}
use Rattle.independence_laws.specs.Alike.{AreSameCollectors}
use Rattle.independence_laws.specs.Steps.{Comes, Equal, Same, SameInner, Two}
use Rattle.independence_laws.proofs.Going.{and_then, place_same, pure_same, told}
use Rattle.independence_laws.proofs.OfClasses.{put_line}
use Rattle.independence_laws.proofs.OfCollectors.{collector_same}
use Rattle.independence_laws.proofs.OfOverrides.{defaults_same, override_same}
use Rattle.independence_laws.proofs.OfResources.{all_bodies_same, declare_bodies_same}
use Rattle.independence_laws.proofs.OfWorld.{fault_here}

module _ (two : Two) where
  put_relation_same : (a : Arrow) (left right : List Operand) (line : ℕ) →
      Same two (λ here. put_relation a left right line here)
  put_relation_same a left right line = told two (λ here w. place_at w here line)
      (λ here at w. Ok (tt, record w { relations = with_line (relation_by a left right at) w.relations }))
      (λ first second v w alike f g. place_same two first second v w alike f g line)
      (λ at. put_line two (relation_by a left right at))

  relate_same : (left : Option (List Operand)) (a : Arrow) (right : Option (List Operand)) (line : ℕ) →
      Same two (λ here. relate_by left a right line here)
  relate_same None a right line = fault_here two line _
  relate_same (Some left) a None line = fault_here two line _
  relate_same (Some left) a (Some right) line =
      and_then two (put_relation_same a left right line) (λ u. pure_same two {a = right})

  relates_same : (left : Option (List Operand)) (ends : List End) (line : ℕ) →
      Same two (λ here. relate_from left ends line here)
  unfolding relate_from
  relates_same left [] line = pure_same two
  relates_same left (e ∷ es) line =
      and_then two (relate_same left e.arrow e.operands line) (λ right. relates_same (Some right) es line)

module _ (two : Two) where
  same_lengths : (o p : Owners) (cs ds : List Collector) → AreSameCollectors o p cs ds → length cs ≡ length ds
  unfolding AreSameCollectors
  same_lengths o p [] [] all = refl
  same_lengths o p [] (d ∷ ds) all = absurd all
  same_lengths o p (c ∷ cs) [] all = absurd all
  same_lengths o p (c ∷ cs) (d ∷ ds) all = ap suc (same_lengths o p cs ds all.1)

  -- the collector that was registered last
  last_same : Same two (λ here w. Ok (Some (last_collector w), w))
  last_same = told two (λ here w. length w.relations.collectors) (λ here n. pure (Some (operand.All (n - 1) ∷ [])))
      (λ first second v w alike f g.
      same_lengths v.owners w.owners v.relations.collectors w.relations.collectors alike.relations.collectors)
      (λ n. pure_same two)

module _ (inner : Inner) (same : SameInner inner) (two : Two) where
  operands_same : (r : Resource Expr) → Same two (λ here. operands_rule inner r here)
  unfolding operands_rule
  operands_same r = and_then two (all_bodies_same inner same two r.bodies) (λ bodies.
      and_then two (declare_bodies_same inner same two (form_of r.form) (normal r.kind) bodies) (λ u. pure_same two))

  related_by_same : (o : OperandLayer) (line : ℕ) → Same two (λ here. related_by inner o line here)
  related_by_same (Operand-F.Expr e) line = and_then two (same.value e two) (λ v. pure_same two)
  related_by_same (Operand-F.Resource r) line = and_then two (operands_same r) (λ declared. pure_same two)
  related_by_same (Operand-F.Collector c) line = and_then two (collector_same inner same two c) (λ u. last_same two)
  related_by_same (Operand-F.Override o) line = and_then two (override_same inner same two o) (λ u. pure_same two)
  related_by_same (Operand-F.Defaults o) line = and_then two (defaults_same inner same two o) (λ u. pure_same two)

  related_same : (o : tree.Operand) (line : ℕ) → Same two (λ here. related_rule inner o line here)
  unfolding related_rule
  related_same o line = related_by_same (out-Operand o) line

  ends_same : (done : List End) (ls : List (Link tree.Operand)) (line : ℕ) →
      Same two (λ here. ends_from inner done ls line here)
  unfolding ends_from
  ends_same done [] line = pure_same two
  ends_same done (l ∷ ls) line =
      and_then two (related_same l.operand line) (λ related. ends_same _ ls line)

  pub links_same : (first : tree.Operand) (ls : List (Link tree.Operand)) (line : ℕ) →
      Same two (λ here. links_rule inner first ls line here)
  unfolding links_rule
  links_same first ls line = and_then two (related_same first line) (λ left.
      and_then two (ends_same [] ls line) (λ ends. relates_same two left ends line))
