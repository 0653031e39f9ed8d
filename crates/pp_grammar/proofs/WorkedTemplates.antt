-- Tokens of templates, and what they are.
use Rattle.std.proofs.Common.{◌≡◌, List, [], ◌∷◌, Option, Some, None, Result, Ok, Err, refl}
use Rattle.std.specs.Prelude.{ℕ, codes}
use Rattle.pp_values.specs.declared.fault.Fault.{Fault}
use Rattle.pp_values.specs.declared.fault.What.TheVariants.{Syntax}
use Rattle.pp_lexer.specs.Seen.{Token}
use Rattle.pp_lexer.specs.Tokens.{token}
use Rattle.pp_lexer.specs.declared.kind.Kind.{Kind}
use Rattle.pp_lexer.specs.declared.kind.Kind.TheVariants as k
use Rattle.pp_tree.specs.declared.expr.Expr.{Expr}
use Rattle.pp_tree.specs.declared.expr.Form as form_layers
use Rattle.pp_tree.specs.declared.expr.Form.TheVariants as form
use Rattle.pp_tree.specs.declared.expr.Postfix.TheVariants as postfix
use Rattle.pp_tree.specs.declared.param.Param.{Param}
use Rattle.pp_tree.specs.declared.statement.Statement.{Statement}
use Rattle.pp_tree.specs.declared.statement.Statement.TheVariants as statement
use Rattle.pp_tree.specs.declared.template.Template.{Template}
use Rattle.pp_tree.specs.Building as tree
use Rattle.pp_parser.specs.Input as input
use Rattle.pp_parser.specs.Kinds as kinds
use Rattle.pp_parser.specs.Inner as inner
use Rattle.pp_parser.specs.Levels as levels
use Rattle.pp_parser.specs.Keys as keys
use Rattle.pp_parser.specs.Params as params
use Rattle.pp_parser.specs.Expressions as expressions
use Rattle.pp_parser.specs.Statements as statements
use Rattle.pp_parser.specs.FunctionBodies as bodies
use Rattle.pp_parser.specs.Manifest as manifest
use Rattle.pp_parser.specs.Manifest.{fault_at}
use Rattle.pp_parser.specs.Templates as templates
use Rattle.pp_parser.specs.Templates.{template_told}
use Rattle.pp_grammar.proofs.Examples.{alone, variable}

-- the template at `t`, which ends on line 9, read by all the definitions
unfoldable told : List Token → Result Template Fault
unfolding input.kind_at input.kind input.line_at input.take input.sees input.expect input.expect_any input.eat input.open_level input.repeat_from input.repeat input.separated_from input.separated input.separated_some kinds.same_kind kinds.is_kind inner.whole_in inner.operand_in inner.interpolated_in inner.param_in inner.statements_in inner.function_statements_in inner.case_option_in inner.query_in levels.part_by levels.within keys.written keys.same_written keys.is_key keys.doubled_from keys.doubled_key keys.noting params.is_simple params.param_from expressions.operator_at expressions.block expressions.arguments expressions.optional_arguments expressions.access expressions.list expressions.pair_rule expressions.hash expressions.parentheses expressions.lambda_from expressions.optional_lambda expressions.call_or_name expressions.named expressions.interpolation expressions.piece_rule expressions.text_after expressions.quoted expressions.otherwise expressions.condition expressions.elsif_rule expressions.if_rule expressions.unless_rule expressions.case_options expressions.case_rule expressions.primary expressions.method expressions.selector expressions.postfix_rule expressions.postfixes expressions.value expressions.prefixed expressions.operand expressions.operation_rule expressions.chain expressions.assigned expressions.whole expressions.variable_or_call expressions.begun_by_name expressions.interpolated expressions.default_rule expressions.typed_param expressions.param_rule expressions.case_option statements.assigns statements.setting_rule statements.splat_rule statements.attribute statements.attributes statements.body statements.resource statements.marked statements.compares statements.comparison_rule statements.query_in_parentheses statements.test_rule statements.another_by statements.another statements.conjunction_rule statements.query statements.optional_query statements.optional_settings statements.collector statements.expression_from statements.behind_name statements.behind_type statements.operand_rule statements.link_rule statements.chain_from statements.defaults_rule statements.override_rule statements.reference_rule statements.typed statements.argument_from statements.argument_rule statements.words_from statements.words statements.function statements.emitted_value statements.statement_rule statements.statements_from statements.statements bodies.unbraced_from bodies.unbraced bodies.function_words bodies.worded bodies.value_statement bodies.function_statement bodies.next_statement bodies.function_statements bodies.function_block keys.earlier_line templates.leading_text templates.leading templates.template_params templates.optional_template_params templates.rest_from templates.rest_of templates.template templates.template_told manifest.line_from form_layers.out-Form denote.Hole.Carrier.out
told ts = template_told (codes "t") 9 ts

abbrev faulty : ℕ → Result Template Fault
faulty line = Err (fault_at (codes "t") Syntax line)

-- a token that says nothing
abbrev mark : Kind → ℕ → Token
mark kind line = token kind [] line

-- `$x` on a line
abbrev x : ℕ → Token
x line = token k.Variable (codes "x") line

abbrev x_param : ℕ → Param Expr
x_param line = tree.param None (codes "x") None line

abbrev says : Option (List (Param Expr)) → List Statement → Result Template Fault
says params block = Ok (tree.template_of params block)

-- texts, parameters in the first tag, and a value
template : told (token k.RenderString (codes "a") 1 ∷ mark k.ParamsBegin 1 ∷ x 1 ∷ mark k.ParamsEnd 1 ∷ mark k.TagEnd 1 ∷ mark k.RenderExpr 2 ∷ x 2 ∷ mark k.TagEnd 2 ∷ token k.RenderString (codes "b") 2 ∷ [])
    ≡ says (Some (x_param 1 ∷ [])) (statement.Emit (codes "a") ∷ statement.EmitValue (variable 2 (codes "x")) ∷ statement.Emit (codes "b") ∷ [])
unfolding told
template = refl

-- without parameters, and with none between the bars
parameters : (told [] ≡ says None [])
    × (told (mark k.ParamsBegin 1 ∷ mark k.ParamsEnd 1 ∷ mark k.TagEnd 1 ∷ []) ≡ says (Some []) [])
    × (told (mark k.ParamsBegin 1 ∷ x 1 ∷ mark k.Comma 1 ∷ mark k.LastBar 1 ∷ mark k.TagEnd 1 ∷ []) ≡ says (Some (x_param 1 ∷ [])) [])
unfolding told
parameters = (refl, refl, refl)

-- a block over three tags
over_tags : told (x 1 ∷ mark k.Dot 1 ∷ token k.Name (codes "each") 1 ∷ mark k.Bar 1 ∷ x 1 ∷ mark k.LastBar 1 ∷ mark k.OpenBrace 1 ∷ token k.RenderString (codes "a") 2 ∷ mark k.RenderExpr 2 ∷ x 2 ∷ mark k.TagEnd 2 ∷ mark k.CloseBrace 3 ∷ [])
    ≡ says None (alone (tree.expr_at 1 (form.Postfix (variable 1 (codes "x")) (postfix.Method (tree.call (codes "each") [] (Some (tree.lambda (x_param 1 ∷ [])
    (statement.Emit (codes "a") ∷ statement.EmitValue (variable 2 (codes "x")) ∷ [])))) ∷ []))) ∷ [])
unfolding told
over_tags = refl

-- a value is one expression, to the end of its tag; parameters stand in the first tag alone, and end with it
refused : (told (mark k.RenderExpr 1 ∷ mark k.TagEnd 2 ∷ []) ≡ faulty 2)
    × (told (mark k.RenderExpr 1 ∷ x 1 ∷ x 2 ∷ mark k.TagEnd 3 ∷ []) ≡ faulty 2)
    × (told (mark k.RenderExpr 1 ∷ x 1 ∷ []) ≡ faulty 9)
    × (told (x 1 ∷ mark k.TagEnd 2 ∷ []) ≡ faulty 2)
    × (told (x 1 ∷ mark k.ParamsBegin 2 ∷ []) ≡ faulty 2)
    × (told (mark k.ParamsBegin 1 ∷ x 1 ∷ mark k.Bar 1 ∷ x 2 ∷ mark k.TagEnd 3 ∷ []) ≡ faulty 2)
    × (told (mark k.Define 1 ∷ token k.Name (codes "a") 1 ∷ mark k.OpenBrace 1 ∷ mark k.CloseBrace 1 ∷ []) ≡ faulty 1)
    × (told (mark k.CloseBrace 2 ∷ []) ≡ faulty 2)
unfolding told
refused = (refl, refl, refl, refl, refl, refl, refl, refl)
