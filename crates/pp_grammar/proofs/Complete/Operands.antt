-- The operands of a chain: what stands there, the rule reads, which takes a name or a type first and then looks at what follows it.
use Rattle.std.proofs.Common.{◌≡◌, ℕ, Bool, true, false, not, List, [], ◌∷◌, Option, Some, None, Ok, refl, sym, ap, ◌∙◌}
use Rattle.pp_lexer.specs.declared.kind.Kind.{Kind}
use Rattle.pp_lexer.specs.declared.kind.Kind.TheVariants as k
use Rattle.pp_lexer.specs.Seen.{Token}
use Rattle.pp_tree.specs.declared.definition.Name.{Name}
use Rattle.pp_tree.specs.declared.expr.Expr.{Expr}
use Rattle.pp_tree.specs.declared.expr.Form.{Form}
use Rattle.pp_tree.specs.declared.expr.Form.TheVariants as form
use Rattle.pp_tree.specs.declared.statement.Operand.{Operand}
use Rattle.pp_tree.specs.declared.statement.Operand.TheVariants as operand
use Rattle.pp_tree.specs.declared.statement.Link.{Link}
use Rattle.pp_tree.specs.declared.statement.Statement.TheVariants as statement
use Rattle.pp_tree.specs.declared.resource.Resource.{Resource}
use Rattle.pp_tree.specs.declared.resource.ResourceForm.{ResourceForm}
use Rattle.pp_tree.specs.declared.resource.ResourceForm.TheVariants as resource_form
use Rattle.pp_tree.specs.declared.resource.Body.{Body}
use Rattle.pp_tree.specs.declared.resource.Attribute.{Attribute}
use Rattle.pp_tree.specs.declared.collector.Query.{Query}
use Rattle.pp_tree.specs.declared.collector.Collector.{Collector}
use Rattle.pp_tree.specs.Building.{expr_at, chain as chain_of, resource as resource_of, collector as collector_of}
use Rattle.pp_grammar.proofs.Reader.Input.{Input, ◌>>=◌, ◌<$>◌, kind}
use Rattle.pp_grammar.proofs.Reader.Inner.{Inner}
use Rattle.pp_grammar.specs.Kinds.{is_kind, same_kind, is_name, begins_expression}
use Rattle.pp_grammar.proofs.Reader.Expressions.{loosest, started, call_or_name, chain, whole}
use Rattle.pp_grammar.proofs.Reader.Statements.{arrow_at, names_resource, name_of, taken_name, marked, collector, expression_from, behind_name_by, behind_name, behind_type_by, behind_type, operand_by, operand_rule, link_rule, chain_from}
use Rattle.pp_grammar.specs.Places.{Within, Stands, Opens, Many, Maybe, Begins, before}
use Rattle.pp_grammar.specs.Expressions.{IsWhole}
use Rattle.pp_grammar.specs.Statements.{marks, opens_query, closes_query, opens_collector, is_arrow, InnerQuery, AreSettings, AreBodies, IsResource, IsCollector, IsExpressionOperand, IsOperand, IsLink}
use Rattle.pp_grammar.proofs.Complete.Steps.{kind_is, fits_kind, kind_there, line_there, word_there, fits_there, take_gives, expect_any_gives}
use Rattle.pp_grammar.proofs.Complete.Lists.{GivenSome, Stops, repeat_gives}
use Rattle.pp_grammar.proofs.Complete.Within.{IsComplete}
use Rattle.pp_grammar.proofs.Complete.StatementFalls.{link_falls}
use Rattle.pp_grammar.proofs.Complete.Begins.{names_begin, name_or_type, Valued, valued, sorted, name_sort, type_sort, whole_begins}
use Rattle.pp_grammar.proofs.Complete.Parts.{call_or_name_complete}
use Rattle.pp_grammar.proofs.Complete.Expressions.{is_false, Chained, chained_from}
use Rattle.pp_grammar.proofs.Complete.Wholes.{goes_behind, whole_complete}
use Rattle.pp_grammar.proofs.Complete.Resources.{bodies_complete, bodies_begin, collector_complete}

-- ---- one token stands at a place

pub fits_as : {fits other : Option Kind → Bool} {i j : Input} {t : Token} → Stands fits i t j → other (kind i) ≡ true → Stands other i t j
fits_as s e = record { is = s.is; kind = rw (kind_there s) at e }

tail : List Token → List Token
tail [] = []
tail (t ∷ ts) = ts

head : Token → List Token → Token
head t [] = t
head t (u ∷ us) = u

pub same_behind : {fits other : Option Kind → Bool} {i j l : Input} {t u : Token} → Stands fits i t j → Stands other i u l → j ≡ l
unfolding tail
same_behind {j = j} {l = l} {t = t} {u = u} s e =
    let same : before t j ≡ before u l = sym s.is ∙ e.is in
    ap (λ (i : Input). record { left = tail i.left; doubled = i.doubled }) same

pub same_token : {fits other : Option Kind → Bool} {i j l : Input} {t u : Token} → Stands fits i t j → Stands other i u l → t ≡ u
unfolding head
same_token {j = j} {l = l} {t = t} {u = u} s e =
    let same : before t j ≡ before u l = sym s.is ∙ e.is in
    ap (λ (i : Input). head t i.left) same

-- ---- kinds

pub both_cannot : {b : Bool} → b ≡ true → b ≡ false → ⊥
both_cannot e f = cc

name_no_variable : (next : Option Kind) → is_name next ≡ true → is_kind k.Variable next ≡ false
unfolding is_kind same_kind
name_no_variable (Some k.Name) e = refl
name_no_variable (Some k.StatementFunction) e = refl
name_no_variable _ e = cc

type_no_variable : (next : Option Kind) → next ≡ Some k.Type → is_kind k.Variable next ≡ false
unfolding is_kind same_kind
type_no_variable (Some k.Variable) e = cc
type_no_variable (Some k.Type) e = refl
type_no_variable _ e = cc

mark_or_name : (form : ResourceForm) (next : Option Kind) → marks form next ≡ true → is_name next ≡ true → ⊥
mark_or_name resource_form.Virtual (Some k.At) a b = cc
mark_or_name resource_form.Exported (Some k.AtAt) a b = cc
mark_or_name _ _ a b = cc

resource_or_type : (next : Option Kind) → names_resource next ≡ true → next ≡ Some k.Type → ⊥
resource_or_type (Some k.Class) a b = cc
resource_or_type _ a b = cc

mark_or_type : (form : ResourceForm) (next : Option Kind) → marks form next ≡ true → next ≡ Some k.Type → ⊥
mark_or_type resource_form.Virtual (Some k.At) a b = cc
mark_or_type resource_form.Exported (Some k.AtAt) a b = cc
mark_or_type _ _ a b = cc

class_there : (next : Option Kind) → names_resource next ≡ true → is_name next ≡ false → next ≡ Some k.Class
class_there (Some k.Class) a b = refl
class_there _ a b = cc

module _ (inner : Inner) (N : Within) (c : IsComplete inner N) where
  -- ---- expressions that begin with a name or a type

  chained_whole : {bars behind : Bool} {i j : Input} {x : Expr} → IsWhole N bars behind i x j → is_kind k.Variable (kind i) ≡ false → Chained inner N c bars loosest i x j
  chained_whole (IsWhole.assigned i j l m t mark x s o d) e = absurd (both_cannot (fits_there s) e)
  chained_whole (IsWhole.binary i j x alone d) e = chained_from inner N c d

  pub record NameRead (i : Input) (x : Expr) (j : Input) : Type 0 where
    pub token : Token
    pub behind : Input
    pub stands : Stands is_name i token behind
    pub form : Form
    pub rest : Input
    pub call : call_or_name inner false token.text behind ≡ Ok (form, rest)
    pub goes : chain inner false loosest (Some (started (expr_at token.line form))) rest ≡ Ok (x, j)

  pub name_read : {i j : Input} {x : Expr} → IsWhole N false false i x j → is_name (kind i) ≡ true → NameRead i x j
  name_read {i = i} w e =
      let d = chained_whole w (name_no_variable (kind i) e) in
      let v = valued N d.operand (names_begin (kind i) e) in
      let there = name_sort N (sorted N v.primary) e in
      record {
        token = there.token;
        behind = there.behind;
        stands = there.stands;
        form = v.form;
        rest = v.behind;
        call = call_or_name_complete inner N c there.call;
        goes = goes_behind inner N c false loosest d v there.token.line (line_there there.stands);
      }

  pub record TypeRead (i : Input) (x : Expr) (j : Input) : Type 0 where
    pub chained : Chained inner N c false loosest i x j
    pub value : Valued N false i chained.first chained.behind
    pub token : Token
    pub stands : Stands (is_kind k.Type) i token value.behind
    pub is : value.form ≡ form.Type token.text

  pub type_read : {i j : Input} {x : Expr} → IsWhole N false false i x j → kind i ≡ Some k.Type → TypeRead i x j
  type_read {i = i} w e =
      let d = chained_whole w (type_no_variable (kind i) e) in
      let v = valued N d.operand (rw e refl) in
      let there = type_sort N (sorted N v.primary) e in
      record { chained = d; value = v; token = there.token; stands = there.stands; is = there.is }

  pub behind_a_type : {i j : Input} {x : Expr} (r : TypeRead i x j) → chain inner false loosest (Some (started (expr_at r.token.line (form.Type r.token.text)))) r.value.behind ≡ Ok (x, j)
  behind_a_type r = rw r.is at (goes_behind inner N c false loosest r.chained r.value r.token.line (line_there r.stands))

  -- ---- operands that begin with a name

  pub record AtName (i : Input) (o : Operand) (j : Input) : Type 0 where
    pub token : Token
    pub behind : Input
    pub stands : Stands is_name i token behind
    pub read : behind_name inner (name_of token) behind ≡ Ok (o, j)

  no_brace : (name : Name) (next : Option Kind) (i : Input) → is_kind k.OpenBrace next ≡ false → behind_name_by inner name next i ≡ (call_or_name inner false name.text >>= (λ found. expression_from inner (expr_at name.at found) [])) i
  unfolding is_kind same_kind
  no_brace name (Some k.OpenBrace) i e = cc
  no_brace name _ i e = refl

  expression_behind_name : {i j : Input} {x : Expr} → (Begins is_name (is_kind k.OpenBrace) i → ⊥) → (r : NameRead i x j) → behind_name inner (name_of r.token) r.behind ≡ Ok (operand.Expr x, j)
  unfolding behind_name expression_from
  expression_behind_name alone r =
      let other = is_false (is_kind k.OpenBrace (kind r.behind)) (λ e. alone (record { token = r.token; behind = r.behind; stands = r.stands; next = e })) in
      no_brace (name_of r.token) (kind r.behind) r.behind other ∙ rw (r.call, r.goes) refl

  resource_behind_name : (t : Token) {i j : Input} {bs : List (Body Expr)} → AreBodies N i bs j → behind_name inner (name_of t) i ≡ Ok (operand.Resource (resource_of resource_form.Plain t.text bs t.line), j)
  unfolding behind_name
  resource_behind_name t d = rw (bodies_begin inner N c d) (bodies_complete inner N c resource_form.Plain t.text t.line d)

  resource_at_name : {i j : Input} {r : Resource Expr} → IsResource N i r j → is_name (kind i) ≡ true → AtName i (operand.Resource r) j
  resource_at_name (IsResource.plain i j l name bs s d) e = record { token = name; behind = j; stands = fits_as s e; read = resource_behind_name name d }
  resource_at_name (IsResource.marked i j l m form mark name bs s f d) e = absurd (mark_or_name form (kind i) (fits_there s) e)

  collector_begins : {i j : Input} {x : Collector} → IsCollector N i x j → kind i ≡ Some k.Type
  collector_begins (IsCollector.collector i j l m n o exported type opener closer q attrs s e d f ds) = word_there s

  expression_at_name : {i j : Input} {x : Expr} → IsExpressionOperand N i x j → is_name (kind i) ≡ true → AtName i (operand.Expr x) j
  expression_at_name (IsExpressionOperand.expression i j x a b w) e =
      let r = name_read w e in
      record { token = r.token; behind = r.behind; stands = r.stands; read = expression_behind_name a r }

  pub operand_at_name : {i j : Input} {o : Operand} → IsOperand N i o j → is_name (kind i) ≡ true → AtName i o j
  operand_at_name (IsOperand.resource i j r d) e = resource_at_name d e
  operand_at_name (IsOperand.collector i j x d) e = absurd (name_or_type (kind i) e (collector_begins d))
  operand_at_name (IsOperand.expression i j x d) e = expression_at_name d e

  -- ---- operands that begin with a type

  pub record AtType (i : Input) (o : Operand) (j : Input) : Type 0 where
    pub token : Token
    pub behind : Input
    pub stands : Stands (is_kind k.Type) i token behind
    pub read : behind_type inner (name_of token) behind ≡ Ok (o, j)

  no_collector : (type : Name) (next : Option Kind) (i : Input) → opens_collector next ≡ false → behind_type_by inner type next i ≡ expression_from inner (expr_at type.at (form.Type type.text)) [] i
  no_collector type (Some k.OpenCollector) i e = cc
  no_collector type (Some k.OpenExported) i e = cc
  no_collector type _ i e = refl

  a_collector : (exported : Bool) (type : Name) (i : Input) → behind_type_by inner type (Some (opens_query exported)) i ≡ collector inner exported (opens_query exported) (closes_query exported) type.text type.at i
  a_collector true type i = refl
  a_collector false type i = refl

  pub collector_behind_type : (exported : Bool) (t : Token) {i j l m n : Input} {opener closer : Token} {q : Option Query} {attrs : List (Attribute Expr)}
      → Opens N (opens_query exported) i opener j → Maybe (InnerQuery N) (λ next. not (is_kind (closes_query exported) next)) j q l → Stands (is_kind (closes_query exported)) l closer m → AreSettings N m attrs n
      → behind_type inner (name_of t) i ≡ Ok (operand.Collector (collector_of t.text exported q attrs t.line), n)
  unfolding behind_type
  collector_behind_type exported t {i = i} o d s ds = rw (word_there o.token) (a_collector exported (name_of t) i ∙ collector_complete inner N c exported t.text t.line o d s ds)

  collector_at_type : {i j : Input} {x : Collector} → IsCollector N i x j → AtType i (operand.Collector x) j
  collector_at_type (IsCollector.collector i j l m n o exported type opener closer q attrs s e d f ds) =
      record { token = type; behind = j; stands = s; read = collector_behind_type exported type e d f ds }

  pub expression_behind_type : {i j : Input} {x : Expr} → (Begins (is_kind k.Type) opens_collector i → ⊥) → (r : TypeRead i x j) → behind_type inner (name_of r.token) r.value.behind ≡ Ok (operand.Expr x, j)
  unfolding behind_type expression_from
  expression_behind_type alone r =
      let other = is_false (opens_collector (kind r.value.behind)) (λ e. alone (record { token = r.token; behind = r.value.behind; stands = r.stands; next = e })) in
      no_collector (name_of r.token) (kind r.value.behind) r.value.behind other ∙ rw (behind_a_type r) refl

  expression_at_type : {i j : Input} {x : Expr} → IsExpressionOperand N i x j → kind i ≡ Some k.Type → AtType i (operand.Expr x) j
  expression_at_type (IsExpressionOperand.expression i j x a b w) e =
      let r = type_read w e in
      record { token = r.token; behind = r.value.behind; stands = r.stands; read = expression_behind_type b r }

  pub no_resource_at_type : {i j : Input} {r : Resource Expr} → IsResource N i r j → kind i ≡ Some k.Type → ⊥
  no_resource_at_type (IsResource.plain i j l name bs s d) e = resource_or_type (kind i) (fits_there s) e
  no_resource_at_type (IsResource.marked i j l m form mark name bs s f d) e = mark_or_type form (kind i) (fits_there s) e

  pub operand_at_type : {i j : Input} {o : Operand} → IsOperand N i o j → kind i ≡ Some k.Type → AtType i o j
  operand_at_type (IsOperand.resource i j r d) e = absurd (no_resource_at_type d e)
  operand_at_type (IsOperand.collector i j x d) e = collector_at_type d
  operand_at_type (IsOperand.expression i j x d) e = expression_at_type d e

  -- ---- operands

  by_name : (next : Option Kind) (i : Input) → is_name next ≡ true → operand_by inner next i ≡ (taken_name >>= behind_name inner) i
  by_name (Some k.Name) i e = refl
  by_name (Some k.StatementFunction) i e = refl
  by_name _ i e = cc

  by_mark : (form : ResourceForm) (next : Option Kind) (i : Input) → marks form next ≡ true → operand_by inner next i ≡ marked inner form i
  by_mark resource_form.Virtual (Some k.At) i e = refl
  by_mark resource_form.Exported (Some k.AtAt) i e = refl
  by_mark _ _ i e = cc

  by_expression : (next : Option Kind) (i : Input) → begins_expression next ≡ true → is_name next ≡ false → is_kind k.Type next ≡ false → operand_by inner next i ≡ (operand.Expr <$> whole inner false false) i
  unfolding is_kind same_kind
  by_expression (Some k.At) i e f g = cc
  by_expression (Some k.AtAt) i e f g = cc
  by_expression (Some k.Class) i e f g = cc
  by_expression (Some k.Name) i e f g = cc
  by_expression (Some k.StatementFunction) i e f g = cc
  by_expression (Some k.Type) i e f g = cc
  by_expression _ i e f g = refl

  marked_complete : (form : ResourceForm) {i j l m : Input} {mark name : Token} {bs : List (Body Expr)} → Stands (marks form) i mark j → Stands names_resource j name l → AreBodies N l bs m
      → marked inner form i ≡ Ok (operand.Resource (resource_of form name.text bs mark.line), m)
  unfolding marked
  marked_complete form {mark = mark} {name = name} s e d = rw (take_gives s, expect_any_gives e) (bodies_complete inner N c form name.text mark.line d)

  other_resource : {i j : Input} {r : Resource Expr} → IsResource N i r j → is_name (kind i) ≡ false → operand_by inner (kind i) i ≡ Ok (operand.Resource r, j)
  other_resource (IsResource.plain i j l name bs s d) e = rw (class_there (kind i) (fits_there s) e, take_gives s) (bodies_complete inner N c resource_form.Plain name.text name.line d)
  other_resource (IsResource.marked i j l m form mark name bs s f d) e = by_mark form (kind i) i (fits_there s) ∙ marked_complete form s f d

  other_expression : {i j : Input} {x : Expr} → IsExpressionOperand N i x j → is_name (kind i) ≡ false → is_kind k.Type (kind i) ≡ false → operand_by inner (kind i) i ≡ Ok (operand.Expr x, j)
  other_expression (IsExpressionOperand.expression i j x a b w) e f = by_expression (kind i) i (whole_begins N w) e f ∙ rw (whole_complete inner N c w) refl

  other_operand : {i j : Input} {o : Operand} → IsOperand N i o j → is_name (kind i) ≡ false → is_kind k.Type (kind i) ≡ false → operand_by inner (kind i) i ≡ Ok (o, j)
  other_operand (IsOperand.resource i j r d) e f = other_resource d e
  other_operand (IsOperand.collector i j x d) e f = absurd (both_cannot (fits_kind k.Type (collector_begins d)) f)
  other_operand (IsOperand.expression i j x d) e f = other_expression d e f

  read_at_name : {i j : Input} {o : Operand} → is_name (kind i) ≡ true → AtName i o j → operand_by inner (kind i) i ≡ Ok (o, j)
  read_at_name {i = i} e there = by_name (kind i) i e ∙ rw (take_gives there.stands) there.read

  read_at_type : {i j : Input} {o : Operand} → AtType i o j → operand_by inner (kind i) i ≡ Ok (o, j)
  read_at_type there = rw (word_there there.stands, take_gives there.stands) there.read

  operand_read : (named typed : Bool) {i j : Input} {o : Operand} → is_name (kind i) ≡ named → is_kind k.Type (kind i) ≡ typed → IsOperand N i o j → operand_by inner (kind i) i ≡ Ok (o, j)
  operand_read true typed e f d = read_at_name e (operand_at_name d e)
  operand_read false true {i = i} e f d = read_at_type (operand_at_type d (kind_is k.Type (kind i) f))
  operand_read false false e f d = other_operand d e f

  pub operand_rule_complete : {i j : Input} {o : Operand} → IsOperand N i o j → operand_rule inner i ≡ Ok (o, j)
  unfolding operand_rule
  operand_rule_complete {i = i} d = operand_read (is_name (kind i)) (is_kind k.Type (kind i)) refl refl d

  -- ---- chains

  no_arrow : (next : Option Kind) → is_arrow next ≡ false → arrow_at next ≡ None
  no_arrow (Some k.InEdge) e = cc
  no_arrow (Some k.InEdgeSub) e = cc
  no_arrow (Some k.OutEdge) e = cc
  no_arrow (Some k.OutEdgeSub) e = cc
  no_arrow _ e = refl

  link_stops : Stops (link_rule inner) is_arrow
  unfolding link_rule
  link_stops i e = rw (no_arrow (kind i) e) refl

  link_given : GivenSome (link_rule inner) is_arrow (IsLink N)
  unfolding link_rule
  link_given _ _ _ begun (IsLink.link i j l t arrow o s e d) = rw (kind_there s, e, take_gives s, operand_rule_complete d) refl

  pub chain_from_complete : (at : ℕ) (first : Operand) {i j : Input} {links : List (Link Operand)} → Many (IsLink N) is_arrow i links j → chain_from inner at first i ≡ Ok ((statement.Chain (chain_of first links at), None), j)
  unfolding chain_from
  chain_from_complete at first ds = rw (repeat_gives (IsLink N) (link_falls N c.falling) is_arrow (link_rule inner) link_stops link_given ds) refl
