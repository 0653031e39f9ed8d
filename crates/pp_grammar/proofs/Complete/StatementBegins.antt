-- What a statement and an operand of a chain begin with.
use Rattle.std.proofs.Common.{◌≡◌, Bool, true, false, Option, Some, None, refl}
use Rattle.pp_lexer.specs.declared.kind.Kind.{Kind}
use Rattle.pp_lexer.specs.declared.kind.Kind.TheVariants as k
use Rattle.pp_tree.specs.declared.expr.Expr.{Expr}
use Rattle.pp_tree.specs.declared.statement.Statement.{Statement}
use Rattle.pp_tree.specs.declared.statement.Operand.{Operand}
use Rattle.pp_tree.specs.declared.resource.Resource.{Resource}
use Rattle.pp_tree.specs.declared.resource.ResourceForm.{ResourceForm}
use Rattle.pp_tree.specs.declared.resource.ResourceForm.TheVariants as resource_form
use Rattle.pp_tree.specs.declared.resource.Reference.{Reference}
use Rattle.pp_tree.specs.declared.collector.Collector.{Collector}
use Rattle.pp_grammar.proofs.Reader.Input.{Input, kind}
use Rattle.pp_grammar.specs.Kinds.{is_name, begins_expression, names_resource}
use Rattle.pp_grammar.specs.Places.{Within}
use Rattle.pp_grammar.specs.Statements.{marks, IsResource, IsCollector, IsReference, IsExpressionOperand, IsOperand, IsChain, IsStatement}
use Rattle.pp_grammar.proofs.Complete.Steps.{word_there, fits_there}
use Rattle.pp_grammar.proofs.Complete.Begins.{whole_begins}

-- an operand: no word that begins only definitions, nothing that a template emits, and not the end
abbrev pub begins_operand : Option Kind → Bool
begins_operand (Some k.Define) = false
begins_operand (Some k.Node) = false
begins_operand (Some k.Function) = false
begins_operand (Some k.RenderString) = false
begins_operand (Some k.RenderExpr) = false
begins_operand (Some _) = true
begins_operand None = false

-- a statement: no word that begins only definitions, and not the end
abbrev pub begins_statement : Option Kind → Bool
begins_statement (Some k.Define) = false
begins_statement (Some k.Node) = false
begins_statement (Some k.Function) = false
begins_statement (Some _) = true
begins_statement None = false

operands_begin : (next : Option Kind) → begins_operand next ≡ true → begins_statement next ≡ true
operands_begin (Some k.Define) e = cc
operands_begin (Some k.Node) e = cc
operands_begin (Some k.Function) e = cc
operands_begin None e = cc
operands_begin _ e = refl

resources_begin : (next : Option Kind) → names_resource next ≡ true → begins_operand next ≡ true
resources_begin (Some k.Define) e = cc
resources_begin (Some k.Node) e = cc
resources_begin (Some k.Function) e = cc
resources_begin (Some k.RenderString) e = cc
resources_begin (Some k.RenderExpr) e = cc
resources_begin None e = cc
resources_begin _ e = refl

marks_begin : (form : ResourceForm) (next : Option Kind) → marks form next ≡ true → begins_operand next ≡ true
marks_begin resource_form.Virtual (Some k.At) e = refl
marks_begin resource_form.Exported (Some k.AtAt) e = refl
marks_begin _ _ e = cc

expressions_begin : (next : Option Kind) → begins_expression next ≡ true → begins_operand next ≡ true
expressions_begin (Some k.Define) e = cc
expressions_begin (Some k.Node) e = cc
expressions_begin (Some k.Function) e = cc
expressions_begin (Some k.RenderString) e = cc
expressions_begin (Some k.RenderExpr) e = cc
expressions_begin None e = cc
expressions_begin _ e = refl

-- ---- these exclude one another

pub name_or_text : (next : Option Kind) → is_name next ≡ true → next ≡ Some k.RenderString → ⊥
name_or_text (Some k.Name) a b = cc
name_or_text _ a b = cc

pub name_or_value : (next : Option Kind) → is_name next ≡ true → next ≡ Some k.RenderExpr → ⊥
name_or_value (Some k.Name) a b = cc
name_or_value _ a b = cc

module _ (N : Within) where
  resource_begins : {i j : Input} {r : Resource Expr} → IsResource N i r j → begins_operand (kind i) ≡ true
  resource_begins (IsResource.plain i j l name bs s d) = resources_begin (kind i) (fits_there s)
  resource_begins (IsResource.marked i j l m form mark name bs s e d) = marks_begin form (kind i) (fits_there s)

  pub collector_begins : {i j : Input} {x : Collector} → IsCollector N i x j → kind i ≡ Some k.Type
  collector_begins (IsCollector.collector i j l m n o exported type opener closer q attrs s e d f ds) = word_there s

  pub expression_begins : {i j : Input} {x : Expr} → IsExpressionOperand N i x j → begins_expression (kind i) ≡ true
  expression_begins (IsExpressionOperand.expression i j x a b w) = whole_begins N w

  operand_begins : {i j : Input} {o : Operand} → IsOperand N i o j → begins_operand (kind i) ≡ true
  operand_begins (IsOperand.resource i j r d) = resource_begins d
  operand_begins (IsOperand.collector i j x d) = rw (collector_begins d) refl
  operand_begins (IsOperand.expression i j x d) = expressions_begin (kind i) (expression_begins d)

  pub chain_begins : {i j : Input} {s : Statement} → IsChain N i s j → begins_operand (kind i) ≡ true
  chain_begins (IsChain.chain i j l first links d ds) = operand_begins d

  pub reference_begins : {i j : Input} {r : Reference Expr} → IsReference N i r j → kind i ≡ Some k.Type
  reference_begins (IsReference.reference i j l m n type opener closer xs s o ds e) = word_there s

  pub statement_begins : {i j : Input} {s : Statement} → IsStatement N i s j → begins_statement (kind i) ≡ true
  statement_begins (IsStatement.chain i j s a b d) = operands_begin (kind i) (chain_begins d)
  statement_begins (IsStatement.override i j l r attrs d ds) = rw (reference_begins d) refl
  statement_begins (IsStatement.defaults i j l t attrs s ds) = rw (word_there s) refl
  statement_begins (IsStatement.words i j l t xs s e ds) = rw (word_there s) refl
  statement_begins (IsStatement.emitted_text i j t s) = rw (word_there s) refl
  statement_begins (IsStatement.emitted_value i j l m opener closer x s d e) = rw (word_there s) refl
