-- Manifests, and what they are.
use Rattle.std.proofs.Common.{◌≡◌, true, ℕ, zero, suc, pos, false, List, [], ◌∷◌, ◌++◌, Some, None, Result, Ok, Err, refl}
use Rattle.std.specs.Prelude.{codes}
use Rattle.std.specs.Char.{encode_utf8}
use Rattle.pp_values.specs.declared.fault.Fault.{Fault}
use Rattle.pp_values.specs.declared.fault.What.TheVariants.{Syntax, DepthLimit}
use Rattle.pp_tree.specs.declared.definition.Definition.TheVariants as definition
use Rattle.pp_tree.specs.declared.expr.Expr.{Expr}
use Rattle.pp_tree.specs.declared.expr.Form as form_layers
use Rattle.pp_tree.specs.declared.expr.Form.TheVariants as form
use Rattle.pp_tree.specs.declared.expr.Operation.{Operation}
use Rattle.pp_tree.specs.declared.expr.Piece.TheVariants as piece
use Rattle.pp_tree.specs.declared.expr.Postfix.TheVariants as postfix
use Rattle.pp_tree.specs.declared.file.File.{File}
use Rattle.pp_tree.specs.declared.operators.BinaryOperator.TheVariants as binary
use Rattle.pp_tree.specs.declared.resource.Attribute.TheVariants as attribute
use Rattle.pp_tree.specs.declared.resource.ResourceForm.TheVariants as resource_form
use Rattle.pp_tree.specs.declared.collector.Test.TheVariants as test
use Rattle.pp_tree.specs.declared.statement.Arrow.TheVariants as arrow
use Rattle.pp_tree.specs.declared.statement.Operand.TheVariants as operand
use Rattle.pp_tree.specs.declared.statement.Statement.{Statement}
use Rattle.pp_tree.specs.declared.statement.Statement.TheVariants as statement
use Rattle.pp_tree.specs.declared.table.DefinitionName.TheVariants as name_of
use Rattle.pp_tree.specs.Building as tree
use Rattle.pp_parser.specs.Manifest.{main_path, fault_at, file_of}
use Rattle.pp_lexer.specs.Bytes as lexer_bytes
use Rattle.pp_lexer.specs.Escapes as escapes
use Rattle.pp_lexer.specs.Marks as marks
use Rattle.pp_lexer.specs.Digits as digits
use Rattle.pp_lexer.specs.Numbers as numbers
use Rattle.pp_lexer.specs.Texts as texts
use Rattle.pp_lexer.specs.Tokens as token
use Rattle.pp_lexer.specs.Words as word_texts
use Rattle.pp_tree.specs.Names as names
use Rattle.pp_tree.specs.Tables as tables
use Rattle.pp_parser.specs.Input as input
use Rattle.pp_parser.specs.Kinds as kinds
use Rattle.pp_parser.specs.Inner as inner
use Rattle.pp_parser.specs.Levels as levels
use Rattle.pp_parser.specs.Keys as keys
use Rattle.pp_parser.specs.Params as params
use Rattle.pp_parser.specs.Expressions as expressions
use Rattle.pp_parser.specs.Statements as statements
use Rattle.pp_parser.specs.FunctionBodies as bodies
use Rattle.pp_parser.specs.Definitions as definitions
use Rattle.pp_parser.specs.Manifest as manifest

-- a manifest at the path of the main one, read by all the definitions
unfoldable pub read : List ℕ → Result File Fault
unfolding lexer_bytes.blank_len escapes.braced escapes.four_digits escapes.double escapes.said marks.punctuation digits.number_value numbers.number texts.quoted texts.in_text token.token_front token.in_code token.tokens token.lexed word_texts.name_kind word_texts.name word_texts.type_name word_texts.variable names.without_front_colons names.normal tables.rows_of tables.all_rows tables.table_from tables.table_of input.kind_at input.kind input.line_at input.take input.sees input.expect input.expect_any input.eat input.open_level input.repeat_from input.repeat input.separated_from input.separated input.separated_some kinds.same_kind kinds.is_kind inner.whole_in inner.operand_in inner.interpolated_in inner.param_in inner.statements_in inner.function_statements_in inner.case_option_in inner.query_in levels.part_by levels.within keys.written keys.same_written keys.is_key keys.doubled_from keys.doubled_key keys.earlier_line keys.noting params.is_simple params.param_from expressions.operator_at expressions.block expressions.arguments expressions.optional_arguments expressions.access expressions.list expressions.pair_rule expressions.hash expressions.parentheses expressions.lambda_from expressions.optional_lambda expressions.call_or_name expressions.named expressions.interpolation expressions.piece_rule expressions.text_after expressions.quoted expressions.otherwise expressions.condition expressions.elsif_rule expressions.if_rule expressions.unless_rule expressions.case_options expressions.case_rule expressions.primary expressions.method expressions.selector expressions.postfix_rule expressions.postfixes expressions.value expressions.prefixed expressions.operand expressions.operation_rule expressions.chain expressions.assigned expressions.whole expressions.variable_or_call expressions.begun_by_name expressions.interpolated expressions.default_rule expressions.typed_param expressions.param_rule expressions.case_option statements.assigns statements.setting_rule statements.splat_rule statements.attribute statements.attributes statements.body statements.resource statements.marked statements.compares statements.comparison_rule statements.query_in_parentheses statements.test_rule statements.another_by statements.another statements.conjunction_rule statements.query statements.optional_query statements.optional_settings statements.collector statements.expression_from statements.behind_name statements.behind_type statements.operand_rule statements.link_rule statements.chain_from statements.defaults_rule statements.override_rule statements.reference_rule statements.typed statements.argument_from statements.argument_rule statements.words_from statements.words statements.function statements.emitted_value statements.statement_rule statements.statements_from statements.statements bodies.unbraced_from bodies.unbraced bodies.function_words bodies.worded bodies.value_statement bodies.function_statement bodies.next_statement bodies.function_statements bodies.function_block definitions.name_rule definitions.params definitions.optional_params definitions.optional_inherits definitions.class definitions.define definitions.type_from definitions.return_type definitions.optional_return definitions.function_definition definitions.plain_text definitions.node_name_rule definitions.node_names_from definitions.node_names definitions.node definitions.class_item definitions.item_rule definitions.manifest_from definitions.main_manifest definitions.module_item definitions.module_from definitions.module_file manifest.read_file manifest.line_from manifest.file_with manifest.file_of encode_utf8 form_layers.out-Form denote.Hole.Carrier.out
read text = file_of main_path text

abbrev pub faulty : ℕ → Result File Fault
faulty line = Err (fault_at main_path Syntax line)

abbrev deep : ℕ → Result File Fault
deep line = Err (fault_at main_path DepthLimit line)

abbrev pub says : List Statement → Result File Fault
says statements = Ok (record { statements = statements; definitions = [] })

-- an expression as a statement
abbrev pub alone : Expr → Statement
alone x = statement.Chain (tree.chain (operand.Expr x) [] (tree.line_of x))

-- a text of one line, and then the rest
abbrev pub line : List ℕ → List ℕ → List ℕ
line text rest = text ++ 10 ∷ rest

-- as often
abbrev again : ℕ → ℕ → List ℕ
again zero c = []
again (suc n) c = c ∷ again n c

abbrev pub number : ℕ → ℕ → Expr
number at n = tree.expr_at at (form.Number (pos n))

abbrev pub name : ℕ → List ℕ → Expr
name at text = tree.expr_at at (form.Name text)

abbrev pub variable : ℕ → List ℕ → Expr
variable at text = tree.expr_at at (form.Variable text)

abbrev pub binary_of : Expr → List (Operation Expr) → Expr
binary_of first operations = tree.expr_at (tree.line_of first) (form.Binary first operations)

abbrev in_parentheses : ℕ → Expr → Expr
in_parentheses zero x = x
in_parentheses (suc n) x = tree.expr_at 1 (form.Parentheses (in_parentheses n x))

-- a comma may stand behind the last attribute, and a semicolon behind the last body
resource : file_of main_path (line (codes "file { '/a': ensure => present, *  => $b,; ") (codes "'c': }"))
    ≡ says (statement.Chain (tree.chain (operand.Resource (tree.resource resource_form.Plain (codes "file")
    (tree.body (tree.expr_at 1 (form.Text (codes "/a"))) (attribute.Set (tree.setting (codes "ensure") false (name 1 (codes "present")) 1) ∷ attribute.Splat (tree.splat (variable 1 (codes "b")) 1) ∷ []) 1
    ∷ tree.body (tree.expr_at 2 (form.Text (codes "c"))) [] 2 ∷ []) 1)) [] 1) ∷ [])
unfolding read
resource = refl

-- `*` binds tighter than `+` and `-`, and these tighter than `==`; operators of one strength stand in one list, from the left
operators : file_of main_path (codes "1 + 2 * 3 == 9 - 1 - 1")
    ≡ says (alone (binary_of (binary_of (number 1 1) (tree.operation binary.Add (binary_of (number 1 2) (tree.operation binary.Multiply (number 1 3) ∷ [])) ∷ []))
    (tree.operation binary.Equal (binary_of (number 1 9) (tree.operation binary.Subtract (number 1 1) ∷ tree.operation binary.Subtract (number 1 1) ∷ [])) ∷ [])) ∷ [])
unfolding read
operators = refl

-- the bar that `{` follows ends the parameters, also behind a call
lambda : file_of main_path (codes "$a.each |$x, B $y = f()| { notice $x }")
    ≡ says (alone (tree.expr_at 1 (form.Postfix (variable 1 (codes "a")) (postfix.Method (tree.call (codes "each") [] (Some (tree.lambda
    (tree.param None (codes "x") None 1 ∷ tree.param (Some (tree.expr_at 1 (form.Type (codes "B")))) (codes "y") (Some (tree.expr_at 1 (form.Call (tree.call (codes "f") [] None)))) 1 ∷ [])
    (statement.Words (tree.words (codes "notice") (variable 1 (codes "x") ∷ []) 1) ∷ [])))) ∷ []))) ∷ [])
unfolding read
lambda = refl

-- a class stands by its name in the table, here beside a statement
class : file_of main_path (line (codes "class ::a::b(Integer $x = 1) inherits c { }") (codes "include d"))
    ≡ Ok (record {
      statements = statement.Words (tree.words (codes "include") (name 2 (codes "d") ∷ []) 2) ∷ [];
      definitions = (
        name_of.Code (codes "a::b"),
        definition.Class (tree.class_of (tree.name_at (codes "::a::b") 1)
            (tree.param (Some (tree.expr_at 1 (form.Type (codes "Integer")))) (codes "x") (Some (number 1 1)) 1 ∷ []) (Some (tree.name_at (codes "c") 1)) [] 1),
      ) ∷ [];
    })
unfolding read
class = refl

-- the line of a parameter is that of its variable, also where a type stands before it; the type has a line of its own
parameter_line : file_of main_path (line (codes "class a(Integer") (codes "$x) { }"))
    ≡ Ok (record {
      statements = [];
      definitions = (
        name_of.Code (codes "a"),
        definition.Class (tree.class_of (tree.name_at (codes "a") 1)
            (tree.param (Some (tree.expr_at 1 (form.Type (codes "Integer")))) (codes "x") None 2 ∷ []) None [] 1),
      ) ∷ [];
    })
unfolding read
parameter_line = refl

-- a node stands under each of its names
node : file_of main_path (codes "node 'a.b', default { }")
    ≡ Ok (record {
      statements = [];
      definitions =
          (name_of.Node (Some (codes "a.b")), definition.Node (tree.node_of (tree.node_name (Some (codes "a.b")) 1 ∷ tree.node_name None 1 ∷ []) [] 1))
          ∷ (name_of.Node None, definition.SameNode (Some (codes "a.b"))) ∷ [];
    })
unfolding read
node = refl

-- `[` directly behind a value is an access, and behind white space it begins a list
access : file_of main_path (codes "$a[1] [2]")
    ≡ says (alone (tree.expr_at 1 (form.Postfix (variable 1 (codes "a")) (postfix.Access (number 1 1 ∷ []) ∷ []))) ∷ alone (tree.expr_at 1 (form.List (number 1 2 ∷ []))) ∷ [])
unfolding read
access = refl

-- a name between `${` and `}` is a variable
interpolated : file_of main_path (34 ∷ (codes "a${b}$c" ++ 34 ∷ []))
    ≡ says (alone (tree.expr_at 1 (form.Interpolated (piece.Text (codes "a") ∷ piece.Value (variable 1 (codes "b")) ∷ piece.Value (variable 1 (codes "c")) ∷ []))) ∷ [])
unfolding read
interpolated = refl

conditions : file_of main_path (line (codes "if a { } elsif b { } else { }") (codes "case a { b, default: { } }"))
    ≡ says (alone (tree.expr_at 1 (form.If (tree.if_of (name 1 (codes "a")) [] (tree.elsif (name 1 (codes "b")) [] ∷ []) (Some []))))
    ∷ alone (tree.expr_at 2 (form.Case (tree.case_of (name 2 (codes "a")) (tree.case_option (name 2 (codes "b") ∷ tree.expr_at 2 form.Default ∷ []) [] 2 ∷ [])))) ∷ [])
unfolding read
conditions = refl

-- a reference, as a value
abbrev kind_of : List ℕ → List ℕ → Expr
kind_of kind title = tree.expr_at 1 (form.Postfix (tree.expr_at 1 (form.Type kind)) (postfix.Access (name 1 title ∷ []) ∷ []))

-- an override stands alone: behind an arrow `{` begins a hash
arrows : file_of main_path (codes "A[x] ~> B[y] {}")
    ≡ says (statement.Chain (tree.chain (operand.Expr (kind_of (codes "A") (codes "x"))) (tree.link arrow.InEdgeSub (operand.Expr (kind_of (codes "B") (codes "y"))) ∷ []) 1) ∷ alone (tree.expr_at 1 (form.Hash [])) ∷ [])
unfolding read
arrows = refl

override : file_of main_path (codes "A[x] { b +> 1 }")
    ≡ says (statement.Chain (tree.chain (operand.Override (tree.override (tree.reference (codes "A") (name 1 (codes "x") ∷ []) 1) (attribute.Set (tree.setting (codes "b") true (number 1 1) 1) ∷ []) 1)) [] 1) ∷ [])
unfolding read
override = refl

-- `and` binds tighter than `or`
collector : file_of main_path (codes "A <<| b == 1 and c != 2 or d == 3 |>> { b +> 4 }")
    ≡ says (statement.Chain (tree.chain (operand.Collector (tree.collector (codes "A") true
    (Some (tree.query (tree.conjunction (test.Compare (tree.comparison (codes "b") true (number 1 1) 1) ∷ test.Compare (tree.comparison (codes "c") false (number 1 2) 1) ∷ [])
    ∷ tree.conjunction (test.Compare (tree.comparison (codes "d") true (number 1 3) 1) ∷ []) ∷ [])))
    (attribute.Set (tree.setting (codes "b") true (number 1 4) 1) ∷ []) 1)) [] 1) ∷ [])
unfolding read
collector = refl

-- the name of a statement function: an argument, a statement of its own where `{` follows
words : file_of main_path (codes "include include a notice err { x: }")
    ≡ says (statement.Words (tree.words (codes "include") (name 1 (codes "include") ∷ []) 1) ∷ alone (name 1 (codes "a"))
    ∷ statement.Words (tree.words (codes "notice") [] 1)
    ∷ statement.Chain (tree.chain (operand.Resource (tree.resource resource_form.Plain (codes "err") (tree.body (name 1 (codes "x")) [] 1 ∷ []) 1)) [] 1) ∷ [])
unfolding read
words = refl

-- what goes on goes on: so `<|` is an argument's, and `->` does not follow a statement function
refused : (file_of main_path (line (codes "notice T") (codes "<| |>")) ≡ faulty 2)
    × (file_of main_path (line (line (codes "include a") (codes "-> B['x']")) []) ≡ faulty 2)
    × (file_of main_path (line (codes "a {") (codes "}")) ≡ faulty 2)
    × (file_of main_path (line (codes "T { ") (codes "1 => 2 }")) ≡ faulty 2)
    × (file_of main_path (line (codes "A[x] -> B[y] {") (codes "a +> 1 }")) ≡ faulty 2)
    × (file_of main_path (line (codes "$a::b") (codes "= 1")) ≡ faulty 2)
unfolding read
refused = (refl, refl, refl, refl, refl, refl)

-- where the file ends too early, the line is that of its end; so it is in a text that may stand there
refused_at_end : (file_of main_path (line (codes "f(") []) ≡ faulty 2)
    × (file_of main_path (line (codes "f('") (line [] [])) ≡ faulty 3)
    × (file_of main_path (line (codes "f(1 'a") []) ≡ faulty 1)
unfolding read
refused_at_end = (refl, refl, refl)

-- `+>` stands in overrides and in blocks of collectors alone, and `class` begins a resource within a block
out_of_place : (file_of main_path (codes "file { 'a': b +> 1 }") ≡ faulty 1)
    × (file_of main_path (line (codes "T {") (codes "b +> 1 }")) ≡ faulty 2)
    × (file_of main_path (line (codes "if a { class") (codes "b { } }")) ≡ faulty 2)
unfolding read
out_of_place = (refl, refl, refl)

-- a module file holds classes, defines and functions
module_file : (file_of (codes "m") (line (codes "class a { }") (codes "node b { }")) ≡ Err (fault_at (codes "m") Syntax 2))
    × (file_of (codes "m") (codes "define a { }") ≡ Ok (record { statements = []; definitions = (name_of.Code (codes "a"), definition.Define (tree.define_of (tree.name_at (codes "a") 1) [] [] 1)) ∷ [] }))
unfolding read
module_file = (refl, refl)

doubled : (file_of main_path (line (codes "$a = { b => 1,") (codes "'b' => 2 }")) ≡ faulty 2)
    × (file_of main_path (line (codes "define a { }") (codes "class ::a { }")) ≡ faulty 2)
unfolding read
doubled = (refl, refl)

-- 200 levels may be open at once, and no more; a token that may not stand there is F1, whatever it would open
open_levels : (file_of main_path (again 200 40 ++ (codes "1" ++ again 200 41)) ≡ says (alone (in_parentheses 200 (number 1 1)) ∷ []))
    × (file_of main_path (line (again 200 40) (codes "(")) ≡ deep 2)
    × (file_of main_path (line (again 200 40 ++ codes "1") (codes "(")) ≡ faulty 2)
    × (file_of main_path (line (again 200 40 ++ codes "$a") (codes "= 1")) ≡ deep 2)
    × (file_of main_path (line (again 200 33) (codes "1[2]")) ≡ deep 2)
unfolding read
open_levels = (refl, refl, refl, refl, refl)

-- the fault stands at the token that opens the level, and not behind it
too_deep : (file_of main_path (line (again 201 40) (codes "1")) ≡ deep 1)
    × (file_of main_path (line (line (again 200 40) (codes "{")) (codes "a => 1 }")) ≡ deep 2)
unfolding read
too_deep = (refl, refl)

-- a condition stands one level further in, also behind each `elsif`
levels_of_conditions : (file_of main_path (line (again 199 40 ++ codes "if") (codes "(")) ≡ deep 2)
    × (file_of main_path (line (again 199 40 ++ codes "unless") (codes "(")) ≡ deep 2)
    × (file_of main_path (line (again 199 40 ++ codes "case") (codes "(")) ≡ deep 2)
    × (file_of main_path (line (again 199 40 ++ codes "if a { } elsif") (codes "(")) ≡ deep 2)
    × (file_of main_path (line (again 199 40 ++ codes "if a { } elsif b { } elsif") (codes "(")) ≡ deep 2)
    × (file_of main_path (line (again 199 40 ++ codes "if a { } elsif b { } elsif c { } else { ") (codes "]")) ≡ faulty 2)
unfolding read
levels_of_conditions = (refl, refl, refl, refl, refl, refl)
