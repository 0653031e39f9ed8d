-- Files: what stands there by the grammar, the reader reads. And the levels one within the other.
use Rattle.std.proofs.Common.{◌≡◌, ℕ, zero, suc, ◌+◌, ◌<◌, ◌≤◌, Bool, true, false, List, [], ◌∷◌, ◌++◌, length, Option, Some, None, Ok, refl, ap, ◌∙◌, append-nil, arith}
use Rattle.pp_lexer.specs.declared.kind.Kind.{Kind}
use Rattle.pp_lexer.specs.declared.kind.Kind.TheVariants as k
use Rattle.pp_lexer.specs.Seen.{Token}
use Rattle.pp_tree.specs.declared.expr.Expr.{Expr}
use Rattle.pp_tree.specs.declared.statement.Link.{Link}
use Rattle.pp_tree.specs.declared.statement.Statement.{Statement}
use Rattle.pp_tree.specs.declared.statement.Statement.TheVariants as statement
use Rattle.pp_tree.specs.declared.statement.Operand.TheVariants as operand
use Rattle.pp_tree.specs.Building.{chain as chain_of, resource as resource_of}
use Rattle.pp_tree.specs.declared.statement.Operand.{Operand}
use Rattle.pp_tree.specs.declared.resource.Resource.{Resource}
use Rattle.pp_tree.specs.declared.resource.ResourceForm.{ResourceForm}
use Rattle.pp_tree.specs.declared.resource.ResourceForm.TheVariants as resource_form
use Rattle.pp_tree.specs.declared.definition.Name.{Name}
use Rattle.pp_tree.specs.declared.definition.Definition.{Definition}
use Rattle.pp_parser.specs.declared.inset.Inset.{Inset}
use Rattle.pp_parser.specs.declared.inset.Inset.TheVariants as goal
use Rattle.pp_parser.specs.declared.inset.InsetTree.{InsetTree}
use Rattle.pp_parser.specs.declared.inset.InsetTree.TheVariants as part
use Rattle.pp_parser.specs.declared.item.Item.{Item}
use Rattle.pp_parser.specs.declared.item.Item.TheVariants as item
use Rattle.pp_grammar.proofs.Reader.Input.{Input, Outcome, ◌<$>◌, kind, line_at, eat, turns}
use Rattle.pp_grammar.proofs.Reader.Inner.{Inner}
use Rattle.pp_grammar.specs.Kinds.{is_kind, same_kind, is_name, begins_expression}
use Rattle.pp_grammar.proofs.Reader.Statements.{Read, name_of, resource, chain_from, statement_rule}
use Rattle.pp_parser.specs.declared.found.Found.{Found}
use Rattle.pp_grammar.proofs.Reader.Definitions.{nothing_yet, with_statement, with_definition, class, read_of, class_item_by, class_item, item_by, item_rule, ends_file, manifest_from, main_manifest, module_item, module_from, module_file}
use Rattle.pp_grammar.proofs.Reader.Levels.{part_by, within_to, deepest_to, read_to}
use Rattle.pp_grammar.specs.Places.{Within, Stands, Many}
use Rattle.pp_grammar.specs.Statements.{marks, is_arrow, IsResource, IsOperand, IsLink, IsChain, IsStatement}
use Rattle.pp_grammar.specs.Files.{IsName, IsModuleDefinition, IsDefinition, IsMain, IsModule, IsPart, LevelsTo}
use Rattle.pp_grammar.proofs.Complete.Steps.{kind_is, fits_kind, line_there, word_there, fits_there, take_gives}
use Rattle.pp_grammar.proofs.Complete.Lists.{one_more}
use Rattle.pp_grammar.proofs.Complete.Within.{IsFalling, IsComplete, least}
use Rattle.pp_grammar.proofs.Complete.ExpressionFalls.{whole_falls, operand_falls, interpolated_falls, param_falls, case_option_falls}
use Rattle.pp_grammar.proofs.Complete.StatementFalls.{query_falls, statement_falls, end_falls, statements_fall}
use Rattle.pp_grammar.proofs.Complete.StatementBegins.{begins_statement, collector_begins, expression_begins, reference_begins, statement_begins}
use Rattle.pp_grammar.proofs.Complete.Expressions.{operand_complete}
use Rattle.pp_grammar.proofs.Complete.Wholes.{whole_complete, interpolated_complete, param_complete, case_option_complete}
use Rattle.pp_grammar.proofs.Complete.Resources.{query_complete, bodies_complete, bodies_begin}
use Rattle.pp_grammar.proofs.Complete.Operands.{fits_as, chain_from_complete}
use Rattle.pp_grammar.proofs.Complete.Words.{Behind}
use Rattle.pp_grammar.proofs.Complete.FunctionBodies.{function_statements_fall, function_statements_complete}
use Rattle.pp_grammar.proofs.Complete.Statements.{Resumed, statement_complete, end_complete, end_eaten, statements_complete}
use Rattle.pp_grammar.proofs.Complete.Definitions.{module_definition_falls, definition_falls, class_complete, define_complete, function_definition_complete, node_complete}

-- ---- the word `class` begins nothing else

class_or_mark : (form : ResourceForm) (next : Option Kind) → marks form next ≡ true → next ≡ Some k.Class → ⊥
class_or_mark resource_form.Virtual (Some k.At) a b = cc
class_or_mark resource_form.Exported (Some k.AtAt) a b = cc
class_or_mark _ _ a b = cc

class_or_expression : (next : Option Kind) → begins_expression next ≡ true → next ≡ Some k.Class → ⊥
class_or_expression (Some k.Class) a b = cc
class_or_expression _ a b = cc

class_or_type : (next : Option Kind) → next ≡ Some k.Type → next ≡ Some k.Class → ⊥
class_or_type next a b = cc

class_or_function : (next : Option Kind) → next ≡ Some k.StatementFunction → next ≡ Some k.Class → ⊥
class_or_function next a b = cc

class_or_text : (next : Option Kind) → next ≡ Some k.RenderString → next ≡ Some k.Class → ⊥
class_or_text next a b = cc

class_or_value : (next : Option Kind) → next ≡ Some k.RenderExpr → next ≡ Some k.Class → ⊥
class_or_value next a b = cc

-- ---- nor does a name

name_or_class : (next : Option Kind) → is_name next ≡ true → next ≡ Some k.Class → ⊥
name_or_class (Some k.Name) a b = cc
name_or_class _ a b = cc

name_or_define : (next : Option Kind) → is_name next ≡ true → next ≡ Some k.Define → ⊥
name_or_define (Some k.Name) a b = cc
name_or_define _ a b = cc

name_or_function : (next : Option Kind) → is_name next ≡ true → next ≡ Some k.Function → ⊥
name_or_function (Some k.Name) a b = cc
name_or_function _ a b = cc

name_or_node : (next : Option Kind) → is_name next ≡ true → next ≡ Some k.Node → ⊥
name_or_node (Some k.Name) a b = cc
name_or_node _ a b = cc

pub name_or_none : (next : Option Kind) → is_name next ≡ true → next ≡ None → ⊥
name_or_none (Some k.Name) a b = cc
name_or_none _ a b = cc

module _ (inner : Inner) (N : Within) (c : IsComplete inner N) where
  -- ---- a statement that begins with `class` is a resource

  record ClassResource (i : Input) (s : Statement) (j : Input) : Type 0 where
    token : Token
    behind : Input
    stands : Stands (is_kind k.Class) i token behind
    brace : kind behind ≡ Some k.OpenBrace
    first : Operand
    place : Input
    read : resource inner resource_form.Plain token.text token.line behind ≡ Ok (first, place)
    links : chain_from inner token.line first place ≡ Ok ((s, None), j)

  class_resource : {i j l : Input} {r : Resource Expr} {links : List (Link Operand)} → IsResource N i r j → kind i ≡ Some k.Class → Many (IsLink N) is_arrow j links l → ClassResource i (statement.Chain (chain_of (operand.Resource r) links (line_at i.left))) l
  class_resource (IsResource.plain i j l name bs s d) e ds =
      let first = operand.Resource (resource_of resource_form.Plain name.text bs name.line) in
      record {
        token = name;
        behind = j;
        stands = fits_as s (fits_kind k.Class e);
        brace = bodies_begin inner N c d;
        first = first;
        place = l;
        read = bodies_complete inner N c resource_form.Plain name.text name.line d;
        links = rw (line_there s) (chain_from_complete inner N c name.line first ds);
      }
  class_resource (IsResource.marked i j l m form mark name bs s f d) e ds = absurd (class_or_mark form (kind i) (fits_there s) e)

  class_operand : {i j l : Input} {o : Operand} {links : List (Link Operand)} → IsOperand N i o j → kind i ≡ Some k.Class → Many (IsLink N) is_arrow j links l → ClassResource i (statement.Chain (chain_of o links (line_at i.left))) l
  class_operand (IsOperand.resource i j r d) e ds = class_resource d e ds
  class_operand (IsOperand.collector i j x d) e ds = absurd (class_or_type (kind i) (collector_begins N d) e)
  class_operand (IsOperand.expression i j x d) e ds = absurd (class_or_expression (kind i) (expression_begins N d) e)

  class_chain : {i j : Input} {s : Statement} → IsChain N i s j → kind i ≡ Some k.Class → ClassResource i s j
  class_chain (IsChain.chain i j l first links d ds) e = class_operand d e ds

  class_statement : {i j : Input} {s : Statement} → IsStatement N i s j → kind i ≡ Some k.Class → ClassResource i s j
  class_statement (IsStatement.chain i j s a b d) e = class_chain d e
  class_statement (IsStatement.override i j l r attrs d ds) e = absurd (class_or_type (kind i) (reference_begins N d) e)
  class_statement (IsStatement.defaults i j l t attrs s ds) e = absurd (class_or_type (kind i) (word_there s) e)
  class_statement (IsStatement.words i j l t xs s f ds) e = absurd (class_or_function (kind i) (word_there s) e)
  class_statement (IsStatement.emitted_text i j t s) e = absurd (class_or_text (kind i) (word_there s) e)
  class_statement (IsStatement.emitted_value i j l m opener closer x s d f) e = absurd (class_or_value (kind i) (word_there s) e)

  -- ---- items of a main manifest

  record ItemRead (outcome : Outcome Item) (s : Statement) (j : Input) : Type 0 where
    name : Option Name
    at : Input
    behind : Behind j name at
    read : outcome ≡ Ok (item.Statement s name, at)

  as_item : {outcome : Outcome Read} {more : Outcome Item} {s : Statement} {j : Input} → ((name : Option Name) (at : Input) → outcome ≡ Ok ((s, name), at) → more ≡ Ok (item.Statement s name, at)) → Resumed inner N c outcome s j → ItemRead more s j
  as_item f r = record { name = r.name; at = r.at; behind = r.behind; read = f r.name r.at r.read }

  other_item : (next : Option Kind) (i : Input) → begins_statement next ≡ true → is_kind k.Class next ≡ false → item_by inner next i ≡ (read_of inner <$> statement_rule inner None) i
  unfolding is_kind same_kind
  other_item (Some k.Class) i e f = cc
  other_item (Some k.Define) i e f = cc
  other_item (Some k.Function) i e f = cc
  other_item (Some k.Node) i e f = cc
  other_item _ i e f = refl

  class_item_read : {i j : Input} {s : Statement} → kind i ≡ Some k.Class → ClassResource i s j → ItemRead (item_by inner (kind i) i) s j
  unfolding class_item
  class_item_read {j = j} e there = record { name = None; at = j; behind = Behind.here; read = rw (e, take_gives there.stands, there.brace, there.read, there.links) refl }

  item_there : (classes : Bool) {i j : Input} {s : Statement} → is_kind k.Class (kind i) ≡ classes → IsStatement N i s j → ItemRead (item_by inner (kind i) i) s j
  item_there true {i = i} e d =
      let there = kind_is k.Class (kind i) e in
      class_item_read there (class_statement d there)
  item_there false {i = i} e d = as_item (λ name at f. other_item (kind i) i (statement_begins N d) e ∙ rw f refl) (statement_complete inner N c Behind.here d)

  item_behind : {i h j : Input} {s : Statement} {t : Token} → Stands is_name i t h → kind h ≡ Some k.OpenBrace → IsStatement N i s j → ItemRead (item_rule inner (Some (name_of t)) h) s j
  unfolding item_rule
  item_behind {h = h} {t = t} f brace d = as_item (λ name at e. rw e refl) (statement_complete inner N c (Behind.pending t h f brace) d)

  statement_item : {i h j : Input} {name : Option Name} {s : Statement} → Behind i name h → IsStatement N i s j → ItemRead (item_rule inner name h) s j
  unfolding item_rule
  statement_item {i = i} Behind.here d = item_there (is_kind k.Class (kind i)) refl d
  statement_item (Behind.pending t l f brace) d = item_behind f brace d

  a_class : (word : Name) (next : Option Kind) (i : Input) → is_name next ≡ true → class_item_by inner word next i ≡ (item.Definition <$> class inner word.at) i
  a_class word (Some k.OpenBrace) i e = cc
  a_class word _ i e = refl

  name_there : {i j : Input} {name : Name} → IsName N i name j → is_name (kind i) ≡ true
  name_there (IsName.name i j t s) = fits_there s

  module_definition_item : {i j : Input} {d : Definition} → IsModuleDefinition N i d j → item_by inner (kind i) i ≡ Ok (item.Definition d, j)
  unfolding class_item
  module_definition_item (IsModuleDefinition.class i j l m n o t name ps parent ss s d ds e b) =
      rw (word_there s, take_gives s) (a_class (name_of t) (kind j) j (name_there d) ∙ rw (class_complete inner N c t.line d ds e b) refl)
  module_definition_item (IsModuleDefinition.define i j l m n t name ps ss s d ds b) = rw (word_there s, take_gives s, define_complete inner N c t.line d ds b) refl
  module_definition_item (IsModuleDefinition.function i j l m n o t name ps type ss s d ds e b) = rw (word_there s, take_gives s, function_definition_complete inner N c t.line d ds e b) refl

  definition_there : {i j : Input} {d : Definition} → IsDefinition N i d j → item_by inner (kind i) i ≡ Ok (item.Definition d, j)
  definition_there (IsDefinition.of_module i j d r) = module_definition_item r
  definition_there (IsDefinition.node i j l m t names ss s ds b) = rw (word_there s, take_gives s, node_complete inner N c t.line ds b) refl

  no_name_defines : {i j : Input} {d : Definition} → IsModuleDefinition N i d j → is_name (kind i) ≡ true → ⊥
  no_name_defines (IsModuleDefinition.class i j l m n o t name ps parent ss s d ds e b) f = name_or_class (kind i) f (word_there s)
  no_name_defines (IsModuleDefinition.define i j l m n t name ps ss s d ds b) f = name_or_define (kind i) f (word_there s)
  no_name_defines (IsModuleDefinition.function i j l m n o t name ps type ss s d ds e b) f = name_or_function (kind i) f (word_there s)

  no_name_there : {i j : Input} {d : Definition} → IsDefinition N i d j → is_name (kind i) ≡ true → ⊥
  no_name_there (IsDefinition.of_module i j d r) f = no_name_defines r f
  no_name_there (IsDefinition.node i j l m t names ss s ds b) f = name_or_node (kind i) f (word_there s)

  definition_item : {i h j : Input} {name : Option Name} {d : Definition} → Behind i name h → IsDefinition N i d j → item_rule inner name h ≡ Ok (item.Definition d, j)
  unfolding item_rule
  definition_item Behind.here d = definition_there d
  definition_item {i = i} (Behind.pending t l f brace) d = absurd (no_name_there d (fits_there f))

  -- ---- main manifests

  file_ends : (n : ℕ) (found : Found) {i h : Input} {name : Option Name} → Behind i name h → kind i ≡ None → manifest_from inner (suc n) found name h ≡ Ok (found, i)
  unfolding manifest_from
  file_ends n found Behind.here e = rw e refl
  file_ends n found {i = i} (Behind.pending t l f brace) e = absurd (name_or_none (kind i) (fits_there f) e)

  pub no_end : (next : Option Kind) → begins_statement next ≡ true → ends_file None next ≡ false
  no_end None e = cc
  no_end _ e = refl

  pub file_goes_on : {i h : Input} {name : Option Name} → Behind i name h → begins_statement (kind i) ≡ true → ends_file name (kind h) ≡ false
  file_goes_on {i = i} Behind.here e = no_end (kind i) e
  file_goes_on (Behind.pending t l f brace) e = refl

  definitions_begin : {i j : Input} {d : Definition} → IsModuleDefinition N i d j → ends_file None (kind i) ≡ false
  definitions_begin (IsModuleDefinition.class i j l m n o t name ps parent ss s d ds e b) = rw (word_there s) refl
  definitions_begin (IsModuleDefinition.define i j l m n t name ps ss s d ds b) = rw (word_there s) refl
  definitions_begin (IsModuleDefinition.function i j l m n o t name ps type ss s d ds e b) = rw (word_there s) refl

  definition_begins : {i j : Input} {d : Definition} → IsDefinition N i d j → ends_file None (kind i) ≡ false
  definition_begins (IsDefinition.of_module i j d r) = definitions_begin r
  definition_begins (IsDefinition.node i j l m t names ss s ds b) = rw (word_there s) refl

  file_goes_on_too : {i h j : Input} {name : Option Name} {d : Definition} → Behind i name h → IsDefinition N i d j → ends_file name (kind h) ≡ false
  file_goes_on_too Behind.here d = definition_begins d
  file_goes_on_too (Behind.pending t l f brace) d = refl

  one_statement : (n : ℕ) (found : Found) (name : Option Name) (h : Input) {g l : Input} {next : Option Name} {s : Statement} {more : Bool} → ends_file name (kind h) ≡ false → item_rule inner name h ≡ Ok (item.Statement s next, g) → eat k.Semicolon g ≡ Ok (more, l)
      → manifest_from inner (suc n) found name h ≡ manifest_from inner n (with_statement found s) next l
  unfolding manifest_from
  one_statement n found name h e f g = rw (e, f, g) refl

  one_definition : (n : ℕ) (found : Found) (name : Option Name) (h : Input) {g l : Input} {d : Definition} {more : Bool} → ends_file name (kind h) ≡ false → item_rule inner name h ≡ Ok (item.Definition d, g) → eat k.Semicolon g ≡ Ok (more, l)
      → manifest_from inner (suc n) found name h ≡ manifest_from inner n (with_definition found d) None l
  unfolding manifest_from
  one_definition n found name h e f g = rw (e, f, g) refl

  -- what was found, and what is found from there on
  abbrev with_more : Found → List Statement → List Definition → Found
  with_more found ss ds = record { statements = found.statements ++ ss; definitions = found.definitions ++ ds }

  nothing_more : (found : Found) → found ≡ with_more found [] []
  nothing_more found = rw (append-nil found.statements, append-nil found.definitions) refl

  statement_more : (found : Found) (s : Statement) (ss : List Statement) (ds : List Definition) → with_more (with_statement found s) ss ds ≡ with_more found (s ∷ ss) ds
  statement_more found s ss ds = rw (one_more found.statements s ss) refl

  definition_more : (found : Found) (d : Definition) (ss : List Statement) (ds : List Definition) → with_more (with_definition found d) ss ds ≡ with_more found ss (d ∷ ds)
  definition_more found d ss ds = rw (one_more found.definitions d ds) refl

  -- recursion is on the turns
  manifest_from_complete : (n : ℕ) {i j h : Input} {name : Option Name} {ss : List Statement} {ds : List Definition} → Behind i name h → IsMain N i ss ds j → length i.left < n → (found : Found)
      → manifest_from inner n found name h ≡ Ok (with_more found ss ds, j)
  manifest_from_complete zero b d below found = absurd (omega arith)
  manifest_from_complete (suc n) b (IsMain.end i e) below found = file_ends n found b e ∙ ap (λ (f : Found). Ok (f, i)) (nothing_more found)
  manifest_from_complete (suc n) {h = h} {name = name} b (IsMain.statement i j l m s ss ds d e more) below found =
      let r = statement_item b d in
      let end = end_complete inner N c r.behind e in
      let less : length l.left < n = omega (arith, statement_falls N c.falling d, end_falls N c.falling e) in
      one_statement n found name h (file_goes_on b (statement_begins N d)) r.read end.read ∙ manifest_from_complete n end.behind more less (with_statement found s) ∙ ap (λ (f : Found). Ok (f, m)) (statement_more found s ss ds)
  manifest_from_complete (suc n) {h = h} {name = name} b (IsMain.definition i j l m d ss ds r e more) below found =
      let end = end_eaten inner N c e in
      let less : length l.left < n = omega (arith, definition_falls N c.falling r, end_falls N c.falling e) in
      one_definition n found name h (file_goes_on_too b r) (definition_item b r) end.read ∙ manifest_from_complete n Behind.here more less (with_definition found d) ∙ ap (λ (f : Found). Ok (f, m)) (definition_more found d ss ds)

  pub main_manifest_complete : {i j : Input} {ss : List Statement} {ds : List Definition} → IsMain N i ss ds j → main_manifest inner i ≡ Ok (record { statements = ss; definitions = ds }, j)
  unfolding main_manifest
  main_manifest_complete {i = i} d = manifest_from_complete (turns i) Behind.here d (omega arith) nothing_yet

  -- ---- module files

  module_item_complete : {i j : Input} {d : Definition} → IsModuleDefinition N i d j → module_item inner i ≡ Ok (d, j)
  unfolding module_item
  module_item_complete (IsModuleDefinition.class i j l m n o t name ps parent ss s d ds e b) = rw (word_there s, take_gives s) (class_complete inner N c t.line d ds e b)
  module_item_complete (IsModuleDefinition.define i j l m n t name ps ss s d ds b) = rw (word_there s, take_gives s) (define_complete inner N c t.line d ds b)
  module_item_complete (IsModuleDefinition.function i j l m n o t name ps type ss s d ds e b) = rw (word_there s, take_gives s) (function_definition_complete inner N c t.line d ds e b)

  module_ends : (n : ℕ) (found : Found) (i : Input) → kind i ≡ None → module_from inner (suc n) found i ≡ Ok (found, i)
  unfolding module_from
  module_ends n found i e = rw e refl

  module_definition : (n : ℕ) (found : Found) {i j l : Input} {d : Definition} {more : Bool} → IsModuleDefinition N i d j → eat k.Semicolon j ≡ Ok (more, l) → module_from inner (suc n) found i ≡ module_from inner n (with_definition found d) l
  unfolding module_from
  module_definition n found d e = rw (definitions_begin d, module_item_complete d, e) refl

  -- recursion is on the turns
  module_from_complete : (n : ℕ) {i j : Input} {ds : List Definition} → IsModule N i ds j → length i.left < n → (found : Found) → module_from inner n found i ≡ Ok (with_more found [] ds, j)
  module_from_complete zero d below found = absurd (omega arith)
  module_from_complete (suc n) (IsModule.end i e) below found = module_ends n found i e ∙ ap (λ (f : Found). Ok (f, i)) (nothing_more found)
  module_from_complete (suc n) (IsModule.definition i j l m d ds r e more) below found =
      let less : length l.left < n = omega (arith, module_definition_falls N c.falling r, end_falls N c.falling e) in
      module_definition n found r (end_eaten inner N c e).read ∙ module_from_complete n more less (with_definition found d) ∙ ap (λ (f : Found). Ok (f, m)) (definition_more found d [] ds)

  pub module_file_complete : {i j : Input} {ds : List Definition} → IsModule N i ds j → module_file inner i ≡ Ok (record { statements = []; definitions = ds }, j)
  unfolding module_file
  module_file_complete {i = i} d = module_from_complete (turns i) d (omega arith) nothing_yet

-- ---- the levels, one within the other

part_falls : (N : Within) → IsFalling N → (g : Inset) (i j : Input) (p : InsetTree) → IsPart N g i p j → least g + length j.left ≤ length i.left
part_falls N w (goal.Whole bars) i j (part.Expr x) d = omega (arith, whole_falls N w d)
part_falls N w (goal.Operand bars) i j (part.Expr x) d = omega (arith, operand_falls N w d)
part_falls N w goal.Interpolated i j (part.Expr x) d = omega (arith, interpolated_falls N w d)
part_falls N w (goal.Param bars) i j (part.Param x) d = omega (arith, param_falls N w d)
part_falls N w goal.Statements i j (part.Block x) d = omega (arith, statements_fall N w d)
part_falls N w goal.FunctionStatements i j (part.Block x) d = omega (arith, function_statements_fall N w d)
part_falls N w goal.CaseOption i j (part.CaseOption x) d = omega (arith, case_option_falls N w d)
part_falls N w goal.Query i j (part.Query x) d = omega (arith, query_falls N w d)
part_falls N w _ i j _ d = absurd d

pub levels_fall : (behind levels more : ℕ) → IsFalling (LevelsTo behind levels more)
unfolding LevelsTo
levels_fall behind zero zero = record { falls = λ g i j p d. absurd d }
levels_fall behind zero (suc more) = record { falls = part_falls (LevelsTo behind zero more) (levels_fall behind zero more) }
levels_fall behind (suc levels) more = record { falls = part_falls (LevelsTo behind levels more) (levels_fall behind levels more) }

part_complete : (inner : Inner) (N : Within) → IsComplete inner N → (g : Inset) (i j : Input) (p : InsetTree) → IsPart N g i p j → part_by inner g i ≡ Ok (p, j)
unfolding part_by
part_complete inner N c (goal.Whole bars) i j (part.Expr x) d = rw (whole_complete inner N c d) refl
part_complete inner N c (goal.Operand bars) i j (part.Expr x) d = rw (operand_complete inner N c d) refl
part_complete inner N c goal.Interpolated i j (part.Expr x) d = rw (interpolated_complete inner N c d) refl
part_complete inner N c (goal.Param bars) i j (part.Param x) d = rw (param_complete inner N c d) refl
part_complete inner N c goal.Statements i j (part.Block x) d = rw (statements_complete inner N c d) refl
part_complete inner N c goal.FunctionStatements i j (part.Block x) d = rw (function_statements_complete inner N c d) refl
part_complete inner N c goal.CaseOption i j (part.CaseOption x) d = rw (case_option_complete inner N c d) refl
part_complete inner N c goal.Query i j (part.Query x) d = rw (query_complete inner N c d) refl
part_complete inner N c _ i j _ d = absurd d

pub within_complete : (behind levels more : ℕ) → IsComplete (within_to behind levels more) (LevelsTo behind levels more)
unfolding deepest_to read_to LevelsTo
within_complete behind zero zero = record { deepest = refl; keys = refl; reads = λ g i j p d. absurd d; falling = levels_fall behind zero zero }
within_complete behind zero (suc more) =
    record { deepest = refl; keys = refl; reads = part_complete (within_to behind zero more) (LevelsTo behind zero more) (within_complete behind zero more); falling = levels_fall behind zero (suc more) }
within_complete behind (suc levels) more =
    record { deepest = refl; keys = refl; reads = part_complete (within_to behind levels more) (LevelsTo behind levels more) (within_complete behind levels more); falling = levels_fall behind (suc levels) more }

-- ---- files

-- a main manifest that stands there, the reader reads, with its statements and its definitions
pub main_complete : (inner : Inner) (N : Within) → IsComplete inner N → (i j : Input) (ss : List Statement) (ds : List Definition)
    → IsMain N i ss ds j → main_manifest inner i ≡ Ok (record { statements = ss; definitions = ds }, j)
main_complete inner N c i j ss ds d = main_manifest_complete inner N c d

-- and a module file, with its definitions
pub module_complete : (inner : Inner) (N : Within) → IsComplete inner N → (i j : Input) (ds : List Definition)
    → IsModule N i ds j → module_file inner i ≡ Ok (record { statements = []; definitions = ds }, j)
module_complete inner N c i j ds d = module_file_complete inner N c d
