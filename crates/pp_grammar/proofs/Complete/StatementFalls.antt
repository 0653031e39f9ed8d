-- Each phrase of the grammar of statements takes a token, where it may not be left out.
use Rattle.std.proofs.Common.{◌<◌, ◌≤◌, Bool, false, not, List, length, arith}
use Rattle.pp_lexer.specs.declared.kind.Kind.{Kind}
use Rattle.pp_lexer.specs.declared.kind.Kind.TheVariants as k
use Rattle.pp_tree.specs.declared.expr.Expr.{Expr}
use Rattle.pp_tree.specs.declared.statement.Statement.{Statement}
use Rattle.pp_tree.specs.declared.statement.Operand.{Operand}
use Rattle.pp_tree.specs.declared.resource.Resource.{Resource}
use Rattle.pp_tree.specs.declared.resource.Body.{Body}
use Rattle.pp_tree.specs.declared.resource.Attribute.{Attribute}
use Rattle.pp_tree.specs.declared.resource.Reference.{Reference}
use Rattle.pp_tree.specs.declared.collector.Collector.{Collector}
use Rattle.pp_tree.specs.declared.collector.Query.{Query}
use Rattle.pp_parser.specs.declared.inset.Inset.TheVariants as goal
use Rattle.pp_parser.specs.declared.inset.InsetTree.TheVariants as part
use Rattle.pp_grammar.proofs.Reader.Input.{Input}
use Rattle.pp_grammar.specs.Kinds.{is_kind, ends_body}
use Rattle.pp_grammar.specs.Places.{Phrase, Within}
use Rattle.pp_grammar.specs.Expressions.{Inner}
use Rattle.pp_grammar.specs.Statements.{closes_query, is_arrow, IsAttribute, AreAttributes, IsBody, AreBodies, IsResource, IsTest, IsJoined, IsConjunction, IsQuery, InnerQuery, AreSettings, IsCollector, IsReference, IsExpressionOperand, IsOperand, IsLink, IsChain, AreWords, IsStatement, IsEnd, AreStatements}
use Rattle.pp_grammar.proofs.Complete.Steps.{stands_falls}
use Rattle.pp_grammar.proofs.Complete.Lists.{Falls, many_falls, separated_falls, some_falls, maybe_falls}
use Rattle.pp_grammar.proofs.Complete.Within.{IsFalling, inner_falls, inner_query_falls}
use Rattle.pp_grammar.proofs.Complete.ExpressionFalls.{whole_falls, value_falls}

module _ (N : Within) (w : IsFalling N) where
  pub attribute_falls : (may_append : Bool) → Falls (IsAttribute N may_append)
  attribute_falls may_append _ _ _ (IsAttribute.setting i j l m word arrow append x s e d) = omega (arith, stands_falls s, stands_falls e, inner_falls N w false l m x d)
  attribute_falls may_append _ _ _ (IsAttribute.splat i j l m star arrow x s e d) = omega (arith, stands_falls s, stands_falls e, inner_falls N w false l m x d)

  pub attributes_fall : {may_append : Bool} {i j : Input} {attrs : List (Attribute Expr)} → AreAttributes N may_append i attrs j → length j.left < length i.left
  attributes_fall {may_append = may_append} (AreAttributes.attributes i j l m opener closer attrs o ds s) =
      omega (arith, stands_falls o.token, separated_falls (IsAttribute N may_append) (attribute_falls may_append) (is_kind k.CloseBrace) k.Comma ds, stands_falls s)

  pub body_falls : Falls (IsBody N)
  body_falls _ _ _ (IsBody.body i j l m colon title attrs d s ds) =
      omega (arith, inner_falls N w false i j title d, stands_falls s, separated_falls (IsAttribute N false) (attribute_falls false) ends_body k.Comma ds)

  pub bodies_fall : {i j : Input} {bs : List (Body Expr)} → AreBodies N i bs j → length j.left < length i.left
  bodies_fall (AreBodies.bodies i j l m opener closer bs o ds s) = omega (arith, stands_falls o.token, some_falls (IsBody N) body_falls (is_kind k.CloseBrace) k.Semicolon ds, stands_falls s)

  resource_falls : {i j : Input} {r : Resource Expr} → IsResource N i r j → length j.left < length i.left
  resource_falls (IsResource.plain i j l name bs s d) = omega (arith, stands_falls s, bodies_fall d)
  resource_falls (IsResource.marked i j l m form mark name bs s e d) = omega (arith, stands_falls s, stands_falls e, bodies_fall d)

  pub test_falls : Falls (IsTest N)
  test_falls _ _ _ (IsTest.comparison i j l m word mark equal x s e d) = omega (arith, stands_falls s, stands_falls e, value_falls N w d)
  test_falls _ _ _ (IsTest.query i j l m opener closer q o r s) = omega (arith, stands_falls o.token, w.falls goal.Query j l (part.Query q) r, stands_falls s)

  pub joined_falls : {A : Type 0} (word : Kind) (Item : Phrase A) → Falls Item → Falls (IsJoined N word Item)
  joined_falls word Item falls _ _ _ (IsJoined.joined i j l t x s d) = omega (arith, stands_falls s, falls j l x d)

  pub conjunction_falls : Falls (IsConjunction N)
  conjunction_falls _ _ _ (IsConjunction.conjunction i j l first more d ds) =
      omega (arith, test_falls i j first d, many_falls (IsJoined N k.And (IsTest N)) (joined_falls k.And (IsTest N) test_falls) (is_kind k.And) ds)

  pub query_falls : {i j : Input} {q : Query} → IsQuery N i q j → length j.left < length i.left
  query_falls (IsQuery.query i j l first more d ds) =
      omega (arith, conjunction_falls i j first d, many_falls (IsJoined N k.Or (IsConjunction N)) (joined_falls k.Or (IsConjunction N) conjunction_falls) (is_kind k.Or) ds)

  settings_fall : {i j : Input} {attrs : List (Attribute Expr)} → AreSettings N i attrs j → length j.left ≤ length i.left
  settings_fall (AreSettings.left_out i e) = omega arith
  settings_fall (AreSettings.given i j attrs d) = omega (arith, attributes_fall d)

  collector_falls : {i j : Input} {x : Collector} → IsCollector N i x j → length j.left < length i.left
  collector_falls (IsCollector.collector i j l m n o exported type opener closer q attrs s e d f ds) =
      omega (arith, stands_falls s, stands_falls e.token, maybe_falls (InnerQuery N) (inner_query_falls N w) (λ next. not (is_kind (closes_query exported) next)) d, stands_falls f, settings_fall ds)

  reference_falls : {i j : Input} {r : Reference Expr} → IsReference N i r j → length j.left < length i.left
  reference_falls (IsReference.reference i j l m n type opener closer xs s o ds e) =
      omega (arith, stands_falls s, stands_falls o.token, some_falls (Inner N false) (inner_falls N w false) (is_kind k.CloseBracket) k.Comma ds, stands_falls e)

  expression_operand_falls : {i j : Input} {x : Expr} → IsExpressionOperand N i x j → length j.left < length i.left
  expression_operand_falls (IsExpressionOperand.expression i j x a b d) = whole_falls N w d

  operand_falls : {i j : Input} {o : Operand} → IsOperand N i o j → length j.left < length i.left
  operand_falls (IsOperand.resource i j r d) = resource_falls d
  operand_falls (IsOperand.collector i j x d) = collector_falls d
  operand_falls (IsOperand.expression i j x d) = expression_operand_falls d

  pub link_falls : Falls (IsLink N)
  link_falls _ _ _ (IsLink.link i j l t arrow o s e d) = omega (arith, stands_falls s, operand_falls d)

  chain_falls : {i j : Input} {s : Statement} → IsChain N i s j → length j.left < length i.left
  chain_falls (IsChain.chain i j l first links d ds) = omega (arith, operand_falls d, many_falls (IsLink N) link_falls is_arrow ds)

  words_fall : {i j : Input} {xs : List Expr} → AreWords N i xs j → length j.left ≤ length i.left
  words_fall (AreWords.none i e) = omega arith
  words_fall (AreWords.last i j x b d e) = omega (arith, whole_falls N w d)
  words_fall (AreWords.more i j l m t x xs b d s ds) = omega (arith, whole_falls N w d, stands_falls s, words_fall ds)

  pub statement_falls : {i j : Input} {s : Statement} → IsStatement N i s j → length j.left < length i.left
  statement_falls (IsStatement.chain i j s a b d) = chain_falls d
  statement_falls (IsStatement.override i j l r attrs d ds) = omega (arith, reference_falls d, attributes_fall ds)
  statement_falls (IsStatement.defaults i j l t attrs s ds) = omega (arith, stands_falls s, attributes_fall ds)
  statement_falls (IsStatement.words i j l t xs s e ds) = omega (arith, stands_falls s, words_fall ds)
  statement_falls (IsStatement.emitted_text i j t s) = omega (arith, stands_falls s)
  statement_falls (IsStatement.emitted_value i j l m opener closer x s d e) = omega (arith, stands_falls s, whole_falls N w d, stands_falls e)

  pub end_falls : {i j : Input} → IsEnd N i j → length j.left ≤ length i.left
  end_falls (IsEnd.left_out i e) = omega arith
  end_falls (IsEnd.given i j t s) = omega (arith, stands_falls s)

  pub statements_fall : {i j : Input} {ss : List Statement} → AreStatements N i ss j → length j.left ≤ length i.left
  statements_fall (AreStatements.none i e) = omega arith
  statements_fall (AreStatements.more i j l m s ss e d f ds) = omega (arith, statement_falls d, end_falls f, statements_fall ds)
