-- Each rule of the parser reads what the rule of this grammar reads, with the same readers further in: they compute alike.
use Rattle.std.proofs.Common.{◌≡◌, refl}
use Rattle.pp_parser.specs.declared.inset.Inset.{Inset}
use Rattle.pp_parser.specs.Input.{Input}
use Rattle.pp_parser.specs.Input as input
use Rattle.pp_parser.specs.Kinds as kinds
use Rattle.pp_parser.specs.Keys as keys
use Rattle.pp_parser.specs.Params as params
use Rattle.pp_parser.specs.Inner as inner
use Rattle.pp_parser.specs.Expressions as rule
use Rattle.pp_parser.specs.Statements as statement
use Rattle.pp_parser.specs.FunctionBodies as body
use Rattle.pp_parser.specs.Definitions as definition
use Rattle.pp_parser.specs.Templates as template
use Rattle.pp_parser.specs.Levels as levels
use Rattle.pp_grammar.specs.Kinds as own_kinds
use Rattle.pp_grammar.specs.Keys as own_keys
use Rattle.pp_grammar.specs.Names as own_names
use Rattle.pp_grammar.proofs.Reader.Input as own_input
use Rattle.pp_grammar.proofs.Reader.Keys as own_noting
use Rattle.pp_grammar.proofs.Reader.Params as own_params
use Rattle.pp_grammar.proofs.Reader.Inner as own_inner
use Rattle.pp_grammar.proofs.Reader.Expressions as own
use Rattle.pp_grammar.proofs.Reader.Statements as own_statement
use Rattle.pp_grammar.proofs.Reader.FunctionBodies as own_body
use Rattle.pp_grammar.proofs.Reader.Definitions as own_definition
use Rattle.pp_grammar.proofs.Reader.Templates as own_template
use Rattle.pp_grammar.proofs.Reader.Levels as own_levels

-- the same readers further in
abbrev pub as_own : inner.Inner → own_inner.Inner
as_own n = record { is_deepest = λ _. n.is_deepest; read = n.read; doubled_key = keys.doubled_key }

pub part_same : (n : inner.Inner) (g : Inset) (i : Input) → levels.part_by n g i ≡ own_levels.part_by (as_own n) g i
unfolding levels.part_by own_levels.part_by inner.whole_in own_inner.whole_in inner.operand_in own_inner.operand_in inner.interpolated_in own_inner.interpolated_in inner.param_in own_inner.param_in inner.statements_in own_inner.statements_in inner.case_option_in own_inner.case_option_in inner.query_in own_inner.query_in rule.block own.block rule.arguments own.arguments rule.optional_arguments own.optional_arguments rule.access own.access rule.list own.list rule.pair_rule own.pair_rule rule.hash own.hash rule.parentheses own.parentheses rule.lambda_from own.lambda_from rule.optional_lambda own.optional_lambda rule.call_or_name own.call_or_name rule.named own.named rule.interpolation own.interpolation rule.piece_rule own.piece_rule rule.text_after own.text_after rule.quoted own.quoted rule.otherwise own.otherwise rule.condition own.condition rule.elsif_rule own.elsif_rule rule.if_rule own.if_rule rule.unless_rule own.unless_rule rule.case_options own.case_options rule.case_rule own.case_rule rule.primary own.primary rule.method own.method rule.selector own.selector rule.postfix_rule own.postfix_rule rule.postfixes own.postfixes rule.value own.value rule.prefixed own.prefixed rule.operand own.operand rule.operation_rule own.operation_rule rule.chain own.chain rule.assigned own.assigned rule.whole own.whole rule.variable_or_call own.variable_or_call rule.begun_by_name own.begun_by_name rule.interpolated own.interpolated rule.default_rule own.default_rule rule.typed_param own.typed_param rule.param_rule own.param_rule rule.case_option own.case_option statement.assigns own_statement.assigns statement.setting_rule own_statement.setting_rule statement.splat_rule own_statement.splat_rule statement.attribute own_statement.attribute statement.attributes own_statement.attributes statement.body own_statement.body statement.resource own_statement.resource statement.marked own_statement.marked statement.compares own_statement.compares statement.comparison_rule own_statement.comparison_rule statement.query_in_parentheses own_statement.query_in_parentheses statement.test_rule own_statement.test_rule statement.another_by own_statement.another_by statement.another own_statement.another statement.conjunction_rule own_statement.conjunction_rule statement.query own_statement.query statement.optional_query own_statement.optional_query statement.optional_settings own_statement.optional_settings statement.collector own_statement.collector statement.expression_from own_statement.expression_from statement.behind_name own_statement.behind_name statement.behind_type own_statement.behind_type statement.operand_rule own_statement.operand_rule statement.link_rule own_statement.link_rule statement.chain_from own_statement.chain_from statement.defaults_rule own_statement.defaults_rule statement.override_rule own_statement.override_rule statement.reference_rule own_statement.reference_rule statement.typed own_statement.typed statement.argument_from own_statement.argument_from statement.argument_rule own_statement.argument_rule statement.words_from own_statement.words_from statement.words own_statement.words statement.function own_statement.function statement.statement_rule own_statement.statement_rule statement.statements_from own_statement.statements_from statement.statements own_statement.statements input.kind_at own_input.kind_at input.kind own_input.kind input.line_at own_input.line_at input.sees own_input.sees input.expect own_input.expect input.expect_any own_input.expect_any input.eat own_input.eat input.open_level own_input.open_level input.separated_from own_input.separated_from input.separated own_input.separated input.separated_some own_input.separated_some kinds.same_kind own_kinds.same_kind kinds.is_kind own_kinds.is_kind rule.operator_at own.operator_at params.is_simple own_names.is_simple params.param_from own_params.param_from keys.noting own_noting.noting keys.earlier_line own_keys.earlier_line inner.function_statements_in own_inner.function_statements_in statement.emitted_value own_statement.emitted_value body.unbraced_from own_body.unbraced_from body.unbraced own_body.unbraced body.function_words own_body.function_words body.worded own_body.worded body.value_statement own_body.value_statement body.function_statement own_body.function_statement body.next_statement own_body.next_statement body.function_statements own_body.function_statements body.function_block own_body.function_block
part_same n g i = refl

pub main_same : (n : inner.Inner) (i : Input) → definition.main_manifest n i ≡ own_definition.main_manifest (as_own n) i
unfolding inner.whole_in own_inner.whole_in inner.operand_in own_inner.operand_in inner.interpolated_in own_inner.interpolated_in inner.param_in own_inner.param_in inner.statements_in own_inner.statements_in inner.case_option_in own_inner.case_option_in inner.query_in own_inner.query_in rule.block own.block rule.arguments own.arguments rule.optional_arguments own.optional_arguments rule.access own.access rule.list own.list rule.pair_rule own.pair_rule rule.hash own.hash rule.parentheses own.parentheses rule.lambda_from own.lambda_from rule.optional_lambda own.optional_lambda rule.call_or_name own.call_or_name rule.named own.named rule.interpolation own.interpolation rule.piece_rule own.piece_rule rule.text_after own.text_after rule.quoted own.quoted rule.otherwise own.otherwise rule.condition own.condition rule.elsif_rule own.elsif_rule rule.if_rule own.if_rule rule.unless_rule own.unless_rule rule.case_options own.case_options rule.case_rule own.case_rule rule.primary own.primary rule.method own.method rule.selector own.selector rule.postfix_rule own.postfix_rule rule.postfixes own.postfixes rule.value own.value rule.prefixed own.prefixed rule.operand own.operand rule.operation_rule own.operation_rule rule.chain own.chain rule.assigned own.assigned rule.whole own.whole rule.variable_or_call own.variable_or_call rule.begun_by_name own.begun_by_name rule.interpolated own.interpolated rule.default_rule own.default_rule rule.typed_param own.typed_param rule.param_rule own.param_rule rule.case_option own.case_option statement.assigns own_statement.assigns statement.setting_rule own_statement.setting_rule statement.splat_rule own_statement.splat_rule statement.attribute own_statement.attribute statement.attributes own_statement.attributes statement.body own_statement.body statement.resource own_statement.resource statement.marked own_statement.marked statement.compares own_statement.compares statement.comparison_rule own_statement.comparison_rule statement.query_in_parentheses own_statement.query_in_parentheses statement.test_rule own_statement.test_rule statement.another_by own_statement.another_by statement.another own_statement.another statement.conjunction_rule own_statement.conjunction_rule statement.query own_statement.query statement.optional_query own_statement.optional_query statement.optional_settings own_statement.optional_settings statement.collector own_statement.collector statement.expression_from own_statement.expression_from statement.behind_name own_statement.behind_name statement.behind_type own_statement.behind_type statement.operand_rule own_statement.operand_rule statement.link_rule own_statement.link_rule statement.chain_from own_statement.chain_from statement.defaults_rule own_statement.defaults_rule statement.override_rule own_statement.override_rule statement.reference_rule own_statement.reference_rule statement.typed own_statement.typed statement.argument_from own_statement.argument_from statement.argument_rule own_statement.argument_rule statement.words_from own_statement.words_from statement.words own_statement.words statement.function own_statement.function statement.statement_rule own_statement.statement_rule statement.statements_from own_statement.statements_from statement.statements own_statement.statements input.kind_at own_input.kind_at input.kind own_input.kind input.line_at own_input.line_at input.sees own_input.sees input.expect own_input.expect input.expect_any own_input.expect_any input.eat own_input.eat input.open_level own_input.open_level input.separated_from own_input.separated_from input.separated own_input.separated input.separated_some own_input.separated_some kinds.same_kind own_kinds.same_kind kinds.is_kind own_kinds.is_kind rule.operator_at own.operator_at params.is_simple own_names.is_simple params.param_from own_params.param_from keys.noting own_noting.noting keys.earlier_line own_keys.earlier_line definition.name_rule own_definition.name_rule definition.params own_definition.params definition.optional_params own_definition.optional_params definition.optional_inherits own_definition.optional_inherits definition.class own_definition.class definition.define own_definition.define definition.plain_text own_definition.plain_text definition.node_name_rule own_definition.node_name_rule definition.node_names_from own_definition.node_names_from definition.node_names own_definition.node_names definition.node own_definition.node definition.class_item own_definition.class_item definition.item_rule own_definition.item_rule definition.manifest_from own_definition.manifest_from definition.main_manifest own_definition.main_manifest definition.module_item own_definition.module_item definition.module_from own_definition.module_from definition.module_file own_definition.module_file inner.function_statements_in own_inner.function_statements_in statement.emitted_value own_statement.emitted_value body.unbraced_from own_body.unbraced_from body.unbraced own_body.unbraced body.function_words own_body.function_words body.worded own_body.worded body.value_statement own_body.value_statement body.function_statement own_body.function_statement body.next_statement own_body.next_statement body.function_statements own_body.function_statements body.function_block own_body.function_block definition.type_from own_definition.type_from definition.return_type own_definition.return_type definition.optional_return own_definition.optional_return definition.function_definition own_definition.function_definition
main_same n i = refl

pub module_same : (n : inner.Inner) (i : Input) → definition.module_file n i ≡ own_definition.module_file (as_own n) i
unfolding inner.whole_in own_inner.whole_in inner.operand_in own_inner.operand_in inner.interpolated_in own_inner.interpolated_in inner.param_in own_inner.param_in inner.statements_in own_inner.statements_in inner.case_option_in own_inner.case_option_in inner.query_in own_inner.query_in rule.block own.block rule.arguments own.arguments rule.optional_arguments own.optional_arguments rule.access own.access rule.list own.list rule.pair_rule own.pair_rule rule.hash own.hash rule.parentheses own.parentheses rule.lambda_from own.lambda_from rule.optional_lambda own.optional_lambda rule.call_or_name own.call_or_name rule.named own.named rule.interpolation own.interpolation rule.piece_rule own.piece_rule rule.text_after own.text_after rule.quoted own.quoted rule.otherwise own.otherwise rule.condition own.condition rule.elsif_rule own.elsif_rule rule.if_rule own.if_rule rule.unless_rule own.unless_rule rule.case_options own.case_options rule.case_rule own.case_rule rule.primary own.primary rule.method own.method rule.selector own.selector rule.postfix_rule own.postfix_rule rule.postfixes own.postfixes rule.value own.value rule.prefixed own.prefixed rule.operand own.operand rule.operation_rule own.operation_rule rule.chain own.chain rule.assigned own.assigned rule.whole own.whole rule.variable_or_call own.variable_or_call rule.begun_by_name own.begun_by_name rule.interpolated own.interpolated rule.default_rule own.default_rule rule.typed_param own.typed_param rule.param_rule own.param_rule rule.case_option own.case_option statement.assigns own_statement.assigns statement.setting_rule own_statement.setting_rule statement.splat_rule own_statement.splat_rule statement.attribute own_statement.attribute statement.attributes own_statement.attributes statement.body own_statement.body statement.resource own_statement.resource statement.marked own_statement.marked statement.compares own_statement.compares statement.comparison_rule own_statement.comparison_rule statement.query_in_parentheses own_statement.query_in_parentheses statement.test_rule own_statement.test_rule statement.another_by own_statement.another_by statement.another own_statement.another statement.conjunction_rule own_statement.conjunction_rule statement.query own_statement.query statement.optional_query own_statement.optional_query statement.optional_settings own_statement.optional_settings statement.collector own_statement.collector statement.expression_from own_statement.expression_from statement.behind_name own_statement.behind_name statement.behind_type own_statement.behind_type statement.operand_rule own_statement.operand_rule statement.link_rule own_statement.link_rule statement.chain_from own_statement.chain_from statement.defaults_rule own_statement.defaults_rule statement.override_rule own_statement.override_rule statement.reference_rule own_statement.reference_rule statement.typed own_statement.typed statement.argument_from own_statement.argument_from statement.argument_rule own_statement.argument_rule statement.words_from own_statement.words_from statement.words own_statement.words statement.function own_statement.function statement.statement_rule own_statement.statement_rule statement.statements_from own_statement.statements_from statement.statements own_statement.statements input.kind_at own_input.kind_at input.kind own_input.kind input.line_at own_input.line_at input.sees own_input.sees input.expect own_input.expect input.expect_any own_input.expect_any input.eat own_input.eat input.open_level own_input.open_level input.separated_from own_input.separated_from input.separated own_input.separated input.separated_some own_input.separated_some kinds.same_kind own_kinds.same_kind kinds.is_kind own_kinds.is_kind rule.operator_at own.operator_at params.is_simple own_names.is_simple params.param_from own_params.param_from keys.noting own_noting.noting keys.earlier_line own_keys.earlier_line definition.name_rule own_definition.name_rule definition.params own_definition.params definition.optional_params own_definition.optional_params definition.optional_inherits own_definition.optional_inherits definition.class own_definition.class definition.define own_definition.define definition.plain_text own_definition.plain_text definition.node_name_rule own_definition.node_name_rule definition.node_names_from own_definition.node_names_from definition.node_names own_definition.node_names definition.node own_definition.node definition.class_item own_definition.class_item definition.item_rule own_definition.item_rule definition.manifest_from own_definition.manifest_from definition.main_manifest own_definition.main_manifest definition.module_item own_definition.module_item definition.module_from own_definition.module_from definition.module_file own_definition.module_file inner.function_statements_in own_inner.function_statements_in statement.emitted_value own_statement.emitted_value body.unbraced_from own_body.unbraced_from body.unbraced own_body.unbraced body.function_words own_body.function_words body.worded own_body.worded body.value_statement own_body.value_statement body.function_statement own_body.function_statement body.next_statement own_body.next_statement body.function_statements own_body.function_statements body.function_block own_body.function_block definition.type_from own_definition.type_from definition.return_type own_definition.return_type definition.optional_return own_definition.optional_return definition.function_definition own_definition.function_definition
module_same n i = refl

pub template_same : (n : inner.Inner) (i : Input) → template.template n i ≡ own_template.template (as_own n) i
unfolding inner.whole_in own_inner.whole_in inner.operand_in own_inner.operand_in inner.interpolated_in own_inner.interpolated_in inner.param_in own_inner.param_in inner.statements_in own_inner.statements_in inner.case_option_in own_inner.case_option_in inner.query_in own_inner.query_in rule.block own.block rule.arguments own.arguments rule.optional_arguments own.optional_arguments rule.access own.access rule.list own.list rule.pair_rule own.pair_rule rule.hash own.hash rule.parentheses own.parentheses rule.lambda_from own.lambda_from rule.optional_lambda own.optional_lambda rule.call_or_name own.call_or_name rule.named own.named rule.interpolation own.interpolation rule.piece_rule own.piece_rule rule.text_after own.text_after rule.quoted own.quoted rule.otherwise own.otherwise rule.condition own.condition rule.elsif_rule own.elsif_rule rule.if_rule own.if_rule rule.unless_rule own.unless_rule rule.case_options own.case_options rule.case_rule own.case_rule rule.primary own.primary rule.method own.method rule.selector own.selector rule.postfix_rule own.postfix_rule rule.postfixes own.postfixes rule.value own.value rule.prefixed own.prefixed rule.operand own.operand rule.operation_rule own.operation_rule rule.chain own.chain rule.assigned own.assigned rule.whole own.whole rule.variable_or_call own.variable_or_call rule.begun_by_name own.begun_by_name rule.interpolated own.interpolated rule.default_rule own.default_rule rule.typed_param own.typed_param rule.param_rule own.param_rule rule.case_option own.case_option statement.assigns own_statement.assigns statement.setting_rule own_statement.setting_rule statement.splat_rule own_statement.splat_rule statement.attribute own_statement.attribute statement.attributes own_statement.attributes statement.body own_statement.body statement.resource own_statement.resource statement.marked own_statement.marked statement.compares own_statement.compares statement.comparison_rule own_statement.comparison_rule statement.query_in_parentheses own_statement.query_in_parentheses statement.test_rule own_statement.test_rule statement.another_by own_statement.another_by statement.another own_statement.another statement.conjunction_rule own_statement.conjunction_rule statement.query own_statement.query statement.optional_query own_statement.optional_query statement.optional_settings own_statement.optional_settings statement.collector own_statement.collector statement.expression_from own_statement.expression_from statement.behind_name own_statement.behind_name statement.behind_type own_statement.behind_type statement.operand_rule own_statement.operand_rule statement.link_rule own_statement.link_rule statement.chain_from own_statement.chain_from statement.defaults_rule own_statement.defaults_rule statement.override_rule own_statement.override_rule statement.reference_rule own_statement.reference_rule statement.typed own_statement.typed statement.argument_from own_statement.argument_from statement.argument_rule own_statement.argument_rule statement.words_from own_statement.words_from statement.words own_statement.words statement.function own_statement.function statement.statement_rule own_statement.statement_rule statement.statements_from own_statement.statements_from statement.statements own_statement.statements input.kind_at own_input.kind_at input.kind own_input.kind input.line_at own_input.line_at input.sees own_input.sees input.expect own_input.expect input.expect_any own_input.expect_any input.eat own_input.eat input.open_level own_input.open_level input.separated_from own_input.separated_from input.separated own_input.separated input.separated_some own_input.separated_some kinds.same_kind own_kinds.same_kind kinds.is_kind own_kinds.is_kind rule.operator_at own.operator_at params.is_simple own_names.is_simple params.param_from own_params.param_from keys.noting own_noting.noting keys.earlier_line own_keys.earlier_line inner.function_statements_in own_inner.function_statements_in statement.emitted_value own_statement.emitted_value body.unbraced_from own_body.unbraced_from body.unbraced own_body.unbraced body.function_words own_body.function_words body.worded own_body.worded body.value_statement own_body.value_statement body.function_statement own_body.function_statement body.next_statement own_body.next_statement body.function_statements own_body.function_statements body.function_block own_body.function_block template.leading_text own_template.leading_text template.leading own_template.leading template.template_params own_template.template_params template.optional_template_params own_template.optional_template_params template.rest_from own_template.rest_from template.rest_of own_template.rest_of template.template own_template.template
template_same n i = refl
