-- Statements and blocks: what stands there, the rule reads, whether or not its first name was taken already.
use Rattle.std.proofs.Common.{◌≡◌, ℕ, zero, suc, ◌<◌, Bool, true, false, not, List, [], ◌∷◌, ◌++◌, length, Option, Some, None, Ok, refl, sym, ap, ◌∙◌, append-nil, arith}
use Rattle.pp_lexer.specs.declared.kind.Kind.{Kind}
use Rattle.pp_lexer.specs.declared.kind.Kind.TheVariants as k
use Rattle.pp_lexer.specs.Seen.{Token}
use Rattle.pp_tree.specs.declared.definition.Name.{Name}
use Rattle.pp_tree.specs.declared.expr.Expr.{Expr}
use Rattle.pp_tree.specs.declared.expr.Form.TheVariants as form
use Rattle.pp_tree.specs.declared.expr.Postfix.{Postfix}
use Rattle.pp_tree.specs.declared.expr.Postfix.TheVariants as postfix
use Rattle.pp_tree.specs.declared.statement.Statement.{Statement}
use Rattle.pp_tree.specs.declared.statement.Statement.TheVariants as statement
use Rattle.pp_tree.specs.declared.statement.Operand.{Operand}
use Rattle.pp_tree.specs.declared.statement.Operand.TheVariants as operand
use Rattle.pp_tree.specs.declared.statement.Link.{Link}
use Rattle.pp_tree.specs.declared.resource.Attribute.{Attribute}
use Rattle.pp_tree.specs.declared.resource.Reference.{Reference}
use Rattle.pp_tree.specs.Building.{expr_at, reference as reference_of, chain as chain_of, words as words_of, override as override_of, defaults as defaults_of}
use Rattle.pp_parser.specs.declared.started.Started.{Started}
use Rattle.pp_grammar.proofs.Reader.Input.{Input, Outcome, ◌>>=◌, kind, line_at, eat, turns}
use Rattle.pp_grammar.proofs.Reader.Inner.{Inner}
use Rattle.pp_grammar.specs.Kinds.{is_kind, same_kind, is_name}
use Rattle.pp_grammar.proofs.Reader.Expressions.{loosest, postfixed, access, operand_from, chain}
use Rattle.pp_grammar.proofs.Reader.Statements.{Read, name_of, expression_from, behind_name, behind_type, operand_rule, chain_from, defaults_rule, override_rule, reference_by, reference_rule, typed_by, typed, words, function_by, function, emitted_value, statement_by, statement_rule, ends_block, statements_from, statements}
use Rattle.pp_grammar.specs.Places.{Within, Stands, Many, Begins}
use Rattle.pp_grammar.specs.Expressions.{begins_postfix, IsPostfix, IsWhole}
use Rattle.pp_grammar.specs.Statements.{calls_or_declares, opens_query, opens_collector, is_arrow, AreAttributes, IsCollector, IsReference, IsExpressionOperand, IsOperand, IsLink, IsChain, AreWords, BeginsAlone, IsStatement, IsEnd, AreStatements}
use Rattle.pp_grammar.proofs.Complete.Steps.{kind_is, fits_kind, kind_there, line_there, word_there, fits_there, take_gives, expect_gives, eat_gives, eat_leaves}
use Rattle.pp_grammar.proofs.Complete.Lists.{one_more}
use Rattle.pp_grammar.proofs.Complete.Within.{IsComplete}
use Rattle.pp_grammar.proofs.Complete.StatementFalls.{statement_falls, end_falls}
use Rattle.pp_grammar.proofs.Complete.Begins.{name_or_type}
use Rattle.pp_grammar.proofs.Complete.StatementBegins.{begins_operand, chain_begins, reference_begins, name_or_text, name_or_value}
use Rattle.pp_grammar.proofs.Complete.Expressions.{is_false, access_complete, postfixes_complete}
use Rattle.pp_grammar.proofs.Complete.Wholes.{whole_complete}
use Rattle.pp_grammar.proofs.Complete.Resources.{attributes_complete, attributes_begin}
use Rattle.pp_grammar.proofs.Complete.Operands.{same_behind, same_token, TypeRead, type_read, expression_behind_type, collector_behind_type, operand_at_name, AtType, no_resource_at_type, operand_rule_complete, chain_from_complete}
use Rattle.pp_grammar.proofs.Complete.Words.{Behind, words_from_complete}

pub is_true : (b : Bool) → (not b ≡ true → ⊥) → b ≡ true
is_true true f = refl
is_true false f = absurd (f refl)

-- ---- kinds

pub function_is_name : (next : Option Kind) → next ≡ Some k.StatementFunction → is_name next ≡ true
function_is_name next e = rw e refl

dot_or_bracket : (next : Option Kind) → next ≡ Some k.Dot → next ≡ Some k.TightBracket → ⊥
dot_or_bracket next e f = cc

question_or_bracket : (next : Option Kind) → next ≡ Some k.Question → next ≡ Some k.TightBracket → ⊥
question_or_bracket next e f = cc

bracket_goes_on : (next : Option Kind) → next ≡ Some k.TightBracket → begins_postfix next ≡ false → ⊥
bracket_goes_on (Some k.TightBracket) e f = cc
bracket_goes_on _ e f = cc

name_or_brace : (next : Option Kind) → is_name next ≡ true → next ≡ Some k.CloseBrace → ⊥
name_or_brace (Some k.Name) e f = cc
name_or_brace _ e f = cc

module _ (inner : Inner) (N : Within) (c : IsComplete inner N) where
  -- what was read of a statement, and where reading goes on behind it
  pub record Resumed (outcome : Outcome Read) (s : Statement) (j : Input) : Type 0 where
    pub name : Option Name
    pub at : Input
    pub behind : Behind j name at
    pub read : outcome ≡ Ok ((s, name), at)

  none_taken : {outcome : Outcome Read} {s : Statement} {j : Input} → outcome ≡ Ok ((s, None), j) → Resumed outcome s j
  none_taken {j = j} e = record { name = None; at = j; behind = Behind.here; read = e }

  turned : {o p : Outcome Read} {s : Statement} {j : Input} → o ≡ p → Resumed p s j → Resumed o s j
  turned e r = record { name = r.name; at = r.at; behind = r.behind; read = e ∙ r.read }

  -- ---- chains that begin with a name

  record ChainAtName (i : Input) (s : Statement) (j : Input) : Type 0 where
    token : Token
    behind : Input
    stands : Stands is_name i token behind
    read : (behind_name inner (name_of token) >>= chain_from inner token.line) behind ≡ Ok ((s, None), j)

  chain_at_name : {i j : Input} {s : Statement} → IsChain N i s j → is_name (kind i) ≡ true → ChainAtName i s j
  chain_at_name (IsChain.chain i j l first links d ds) e =
      let there = operand_at_name inner N c d e in
      record { token = there.token; behind = there.behind; stands = there.stands; read = rw (there.read, line_there there.stands) (chain_from_complete inner N c there.token.line first ds) }

  -- a statement whose first name was taken
  pending_chain : {i j h : Input} {s : Statement} {t : Token} → Stands is_name i t h → ChainAtName i s j → statement_rule inner (Some (name_of t)) h ≡ Ok ((s, None), j)
  unfolding statement_rule
  pending_chain s there = rw (same_token there.stands s, same_behind there.stands s) at there.read

  -- ---- statement functions

  a_call : (name : Name) (next : Option Kind) (i : Input) → calls_or_declares next ≡ true → function_by inner name next i ≡ (behind_name inner name >>= chain_from inner name.at) i
  a_call name (Some k.OpenParen) i e = refl
  a_call name (Some k.OpenBrace) i e = refl
  a_call name _ i e = cc

  no_call : (name : Name) (next : Option Kind) (i : Input) → calls_or_declares next ≡ false → function_by inner name next i ≡ words inner name i
  no_call name (Some k.OpenParen) i e = cc
  no_call name (Some k.OpenBrace) i e = cc
  no_call name _ i e = refl

  called : {i j : Input} {s : Statement} → kind i ≡ Some k.StatementFunction → (Begins (is_kind k.StatementFunction) (λ next. not (calls_or_declares next)) i → ⊥) → ChainAtName i s j → statement_by inner (kind i) i ≡ Ok ((s, None), j)
  unfolding function
  called e alone there =
      let call = is_true (calls_or_declares (kind there.behind)) (λ f. alone (record { token = there.token; behind = there.behind; stands = record { is = there.stands.is; kind = fits_kind k.StatementFunction (sym (kind_there there.stands) ∙ e) }; next = f })) in
      rw (e, take_gives there.stands) (a_call (name_of there.token) (kind there.behind) there.behind call ∙ there.read)

  words_complete : (t : Token) {i j : Input} {xs : List Expr} → AreWords N i xs j → Resumed (words inner (name_of t) i) (statement.Words (words_of t.text xs t.line)) j
  unfolding words
  words_complete t {i = i} ds =
      let r = words_from_complete inner N c (turns i) ds (omega arith) [] in
      record { name = r.name; at = r.at; behind = r.behind; read = rw r.read refl }

  function_words : {i j l : Input} {t : Token} {xs : List Expr} → Stands (is_kind k.StatementFunction) i t j → calls_or_declares (kind j) ≡ false → AreWords N j xs l → Resumed (statement_by inner (kind i) i) (statement.Words (words_of t.text xs t.line)) l
  unfolding function
  function_words {j = j} {t = t} s e ds = turned (rw (word_there s, take_gives s) (no_call (name_of t) (kind j) j e)) (words_complete t ds)

  -- ---- a type at the beginning of a statement

  no_bracket : (type : Name) (next : Option Kind) (i : Input) → is_kind k.OpenBrace next ≡ false → is_kind k.TightBracket next ≡ false → typed_by inner type next i ≡ (behind_type inner type >>= chain_from inner type.at) i
  unfolding is_kind same_kind
  no_bracket type (Some k.OpenBrace) i e f = cc
  no_bracket type (Some k.TightBracket) i e f = cc
  no_bracket type _ i e f = refl

  a_query : (exported : Bool) (next : Option Kind) → next ≡ Some (opens_query exported) → is_kind k.OpenBrace next ≡ false
  unfolding is_kind same_kind
  a_query true next e = rw e refl
  a_query false next e = rw e refl

  a_query_too : (exported : Bool) (next : Option Kind) → next ≡ Some (opens_query exported) → is_kind k.TightBracket next ≡ false
  unfolding is_kind same_kind
  a_query_too true next e = rw e refl
  a_query_too false next e = rw e refl

  no_brace : (type : Name) (args : List Expr) (next : Option Kind) (i : Input) → is_kind k.OpenBrace next ≡ false
      → reference_by inner type args next i ≡ (expression_from inner (expr_at type.at (form.Type type.text)) (postfix.Access args ∷ []) >>= chain_from inner type.at) i
  unfolding is_kind same_kind
  no_brace type args (Some k.OpenBrace) i e = cc
  no_brace type args _ i e = refl

  record TypedRead (i : Input) (s : Statement) (j : Input) : Type 0 where
    token : Token
    behind : Input
    stands : Stands (is_kind k.Type) i token behind
    read : typed inner (name_of token) behind ≡ Ok ((s, None), j)

  -- behind a type that neither `{` nor `[` follows
  simply : {i j l : Input} {o : Operand} {links : List (Link Operand)} → (there : AtType inner N c i o j) → is_kind k.OpenBrace (kind there.behind) ≡ false → is_kind k.TightBracket (kind there.behind) ≡ false → Many (IsLink N) is_arrow j links l
      → TypedRead i (statement.Chain (chain_of o links (line_at i.left))) l
  unfolding typed
  simply {o = o} there e f ds = record {
    token = there.token;
    behind = there.behind;
    stands = there.stands;
    read = no_bracket (name_of there.token) (kind there.behind) there.behind e f ∙ rw (there.read, line_there there.stands) (chain_from_complete inner N c there.token.line o ds);
  }

  no_brace_there : {i j : Input} {t : Token} → (BeginsAlone N i → ⊥) → Stands (is_kind k.Type) i t j → is_kind k.OpenBrace (kind j) ≡ false
  no_brace_there {j = j} {t = t} alone s = is_false (is_kind k.OpenBrace (kind j)) (λ e. alone (BeginsAlone.type (record { token = t; behind = j; stands = s; next = e })))

  -- a type and `[`: what follows the type is an access
  record Accessed (i : Input) (t : Token) (j : Input) (o : Operand) (m : Input) : Type 0 where
    args : List Expr
    place : Input
    reference : IsReference N i (reference_of t.text args t.line) place
    read : access inner j ≡ Ok (args, place)
    goes : expression_from inner (expr_at t.line (form.Type t.text)) (postfix.Access args ∷ []) place ≡ Ok (o, m)

  abbrev GoesOn : (x : Expr) (m : Input) (t : Token) (ps : List Postfix) (l : Input) → Type 0
  GoesOn x m t ps l = (start : Option Started) (h : Input) → operand_from inner false start h ≡ Ok (postfixed (expr_at t.line (form.Type t.text)) ps, l) → chain inner false loosest start h ≡ Ok (x, m)

  access_goes : {j l m : Input} {x : Expr} (t : Token) (args : List Expr) {ps : List Postfix} → GoesOn x m t (postfix.Access args ∷ ps) l → Many (IsPostfix N false) begins_postfix j ps l
      → expression_from inner (expr_at t.line (form.Type t.text)) (postfix.Access args ∷ []) j ≡ Ok (operand.Expr x, m)
  unfolding expression_from
  access_goes {j = j} t args goes ds =
      let start : Started = record { base = expr_at t.line (form.Type t.text); postfixes = postfix.Access args ∷ [] } in
      rw (goes (Some start) j (postfixes_complete inner N c false start ds)) refl

  first_access : {i j h l m : Input} {x : Expr} {t : Token} {p : Postfix} {ps : List Postfix} → Stands (is_kind k.Type) i t j → kind j ≡ Some k.TightBracket → IsPostfix N false j p h → Many (IsPostfix N false) begins_postfix h ps l → GoesOn x m t (p ∷ ps) l
      → Accessed i t j (operand.Expr x) m
  first_access {t = t} s e (IsPostfix.access i j l m opener closer xs o ds f) rest goes = record {
    args = xs;
    place = m;
    reference = IsReference.reference _ i j l m t opener closer xs s o ds f;
    read = access_complete inner N c o ds f;
    goes = access_goes t xs goes rest;
  }
  first_access s e (IsPostfix.method i j l m n dot name xs last f g ds lambda) rest goes = absurd (dot_or_bracket (kind i) (word_there f) e)
  first_access s e (IsPostfix.selector i j l m n mark opener closer ps f o ds g) rest goes = absurd (question_or_bracket (kind i) (word_there f) e)

  accessed : {i j l m : Input} {x : Expr} {t : Token} {ps : List Postfix} → Stands (is_kind k.Type) i t j → kind j ≡ Some k.TightBracket → Many (IsPostfix N false) begins_postfix j ps l → GoesOn x m t ps l → Accessed i t j (operand.Expr x) m
  accessed s e (Many.none j f) goes = absurd (bracket_goes_on (kind j) e f)
  accessed s e (Many.more j h l p ps f d ds) goes = first_access s e d ds goes

  type_goes : {i j : Input} {x : Expr} (r : TypeRead inner N c i x j) → GoesOn x j r.token r.value.postfixes r.chained.behind
  type_goes r start h e =
      let same : postfixed (expr_at r.token.line (form.Type r.token.text)) r.value.postfixes ≡ r.chained.first = rw (r.value.is, r.is, line_there r.stands) refl in
      r.chained.goes start h (e ∙ ap (λ y. Ok (y, r.chained.behind)) same)

  behind_access : {i j l m : Input} {t : Token} {o : Operand} {links : List (Link Operand)} → (BeginsAlone N i → ⊥) → Stands (is_kind k.Type) i t j → kind j ≡ Some k.TightBracket → Accessed i t j o l → Many (IsLink N) is_arrow l links m
      → TypedRead i (statement.Chain (chain_of o links (line_at i.left))) m
  unfolding typed reference_rule
  behind_access {j = j} {t = t} {o = o} alone s e a ds =
      let other = is_false (is_kind k.OpenBrace (kind a.place)) (λ f. alone (BeginsAlone.reference a.place (reference_of t.text a.args t.line) a.reference f)) in
      record {
        token = t;
        behind = j;
        stands = s;
        read = rw (e, a.read) (no_brace (name_of t) a.args (kind a.place) a.place other ∙ rw (a.goes, line_there s) (chain_from_complete inner N c t.line o ds));
      }

  typed_expression : (bracket : Bool) {i j l : Input} {x : Expr} {links : List (Link Operand)} → (BeginsAlone N i → ⊥) → (Begins (is_kind k.Type) opens_collector i → ⊥) → (r : TypeRead inner N c i x j) → is_kind k.TightBracket (kind r.value.behind) ≡ bracket
      → Many (IsLink N) is_arrow j links l → TypedRead i (statement.Chain (chain_of (operand.Expr x) links (line_at i.left))) l
  typed_expression true alone b r f ds =
      let bracket = kind_is k.TightBracket (kind r.value.behind) f in
      behind_access alone r.stands bracket (accessed r.stands bracket r.value.more (type_goes r)) ds
  typed_expression false {i = i} {j = j} {x = x} alone b r f ds =
      let there : AtType inner N c i (operand.Expr x) j = record { token = r.token; behind = r.value.behind; stands = r.stands; read = expression_behind_type inner N c b r } in
      simply there (no_brace_there alone r.stands) f ds

  typed_operand : {i j l : Input} {o : Operand} {links : List (Link Operand)} → (BeginsAlone N i → ⊥) → IsOperand N i o j → kind i ≡ Some k.Type → Many (IsLink N) is_arrow j links l → TypedRead i (statement.Chain (chain_of o links (line_at i.left))) l
  typed_operand alone (IsOperand.resource i j r d) e ds = absurd (no_resource_at_type inner N c d e)
  typed_operand alone (IsOperand.collector i j x (IsCollector.collector _ h l m n _ exported type opener closer q attrs s o d f settings)) e ds =
      let follows = word_there o.token in
      let there : AtType inner N c i (operand.Collector x) j = record { token = type; behind = h; stands = s; read = collector_behind_type inner N c exported type o d f settings } in
      simply there (a_query exported (kind h) follows) (a_query_too exported (kind h) follows) ds
  typed_operand alone (IsOperand.expression i j x (IsExpressionOperand.expression _ _ _ a b w)) e ds =
      let r = type_read inner N c w e in
      typed_expression (is_kind k.TightBracket (kind r.value.behind)) alone b r refl ds

  -- ---- statements

  other_statement : (next : Option Kind) (i : Input) → begins_operand next ≡ true → is_kind k.StatementFunction next ≡ false → is_kind k.Type next ≡ false → statement_by inner next i ≡ (operand_rule inner >>= chain_from inner (line_at i.left)) i
  unfolding is_kind same_kind
  other_statement (Some k.RenderString) i b e f = cc
  other_statement (Some k.RenderExpr) i b e f = cc
  other_statement (Some k.StatementFunction) i b e f = cc
  other_statement (Some k.Type) i b e f = cc
  other_statement _ i b e f = refl

  other_chain : {i j : Input} {s : Statement} → is_kind k.StatementFunction (kind i) ≡ false → is_kind k.Type (kind i) ≡ false → IsChain N i s j → statement_by inner (kind i) i ≡ Ok ((s, None), j)
  other_chain e f (IsChain.chain i j l first links d ds) = other_statement (kind i) i (chain_begins N (IsChain.chain i j l first links d ds)) e f ∙ rw (operand_rule_complete inner N c d) (chain_from_complete inner N c (line_at i.left) first ds)

  typed_read : {i j : Input} {s : Statement} → kind i ≡ Some k.Type → TypedRead i s j → statement_by inner (kind i) i ≡ Ok ((s, None), j)
  typed_read e there = rw (e, take_gives there.stands) there.read

  typed_chain : {i j : Input} {s : Statement} → kind i ≡ Some k.Type → (BeginsAlone N i → ⊥) → IsChain N i s j → statement_by inner (kind i) i ≡ Ok ((s, None), j)
  typed_chain e alone (IsChain.chain i j l first links d ds) = typed_read e (typed_operand alone d e ds)

  chain_read : (calls typed : Bool) {i j : Input} {s : Statement} → is_kind k.StatementFunction (kind i) ≡ calls → is_kind k.Type (kind i) ≡ typed
      → (Begins (is_kind k.StatementFunction) (λ next. not (calls_or_declares next)) i → ⊥) → (BeginsAlone N i → ⊥) → IsChain N i s j → statement_by inner (kind i) i ≡ Ok ((s, None), j)
  chain_read true typed {i = i} e f words alone d =
      let there = kind_is k.StatementFunction (kind i) e in
      called there words (chain_at_name d (function_is_name (kind i) there))
  chain_read false true {i = i} e f words alone d = typed_chain (kind_is k.Type (kind i) f) alone d
  chain_read false false e f words alone d = other_chain e f d

  override_complete : {i j l : Input} {r : Reference Expr} {attrs : List (Attribute Expr)} → IsReference N i r j → AreAttributes N true j attrs l
      → statement_by inner (kind i) i ≡ Ok ((statement.Chain (chain_of (operand.Override (override_of r attrs (line_at i.left))) [] (line_at i.left)), None), l)
  unfolding typed reference_rule override_rule
  override_complete (IsReference.reference i j l m n type opener closer xs s o ds e) d =
      rw (word_there s, take_gives s, word_there o.token, access_complete inner N c o ds e, attributes_begin inner N c d, attributes_complete inner N c true d, line_there s) refl

  defaults_complete : {i j l : Input} {t : Token} {attrs : List (Attribute Expr)} → Stands (is_kind k.Type) i t j → AreAttributes N false j attrs l
      → statement_by inner (kind i) i ≡ Ok ((statement.Chain (chain_of (operand.Defaults (defaults_of t.text attrs t.line)) [] t.line), None), l)
  unfolding typed defaults_rule
  defaults_complete s d = rw (word_there s, take_gives s, attributes_begin inner N c d, attributes_complete inner N c false d) refl

  emitted_text_complete : {i j : Input} {t : Token} → Stands (is_kind k.RenderString) i t j → statement_by inner (kind i) i ≡ Ok ((statement.Emit t.text, None), j)
  emitted_text_complete s = rw (word_there s, take_gives s) refl

  emitted_value_complete : {i j l m : Input} {t end : Token} {x : Expr} → Stands (is_kind k.RenderExpr) i t j → IsWhole N false false j x l → Stands (is_kind k.TagEnd) l end m → statement_by inner (kind i) i ≡ Ok ((statement.EmitValue x, None), m)
  unfolding emitted_value
  emitted_value_complete s w e = rw (word_there s, take_gives s, whole_complete inner N c w, expect_gives k.TagEnd e) refl

  -- where no name was taken
  pub statement_there : {i j : Input} {s : Statement} → IsStatement N i s j → Resumed (statement_by inner (kind i) i) s j
  statement_there (IsStatement.chain i j s words alone d) = none_taken (chain_read (is_kind k.StatementFunction (kind i)) (is_kind k.Type (kind i)) refl refl words alone d)
  statement_there (IsStatement.override i j l r attrs d ds) = none_taken (override_complete d ds)
  statement_there (IsStatement.defaults i j l t attrs s ds) = none_taken (defaults_complete s ds)
  statement_there (IsStatement.words i j l t xs s e ds) = function_words s e ds
  statement_there (IsStatement.emitted_text i j t s) = none_taken (emitted_text_complete s)
  statement_there (IsStatement.emitted_value i j l m opener closer x s d e) = none_taken (emitted_value_complete s d e)

  brace_declares : (next : Option Kind) → next ≡ Some k.OpenBrace → calls_or_declares next ≡ false → ⊥
  brace_declares (Some k.OpenBrace) e f = cc
  brace_declares _ e f = cc

  -- where its name was taken, which `{` follows
  statement_behind : {i j h : Input} {s : Statement} {t : Token} → Stands is_name i t h → kind h ≡ Some k.OpenBrace → IsStatement N i s j → Resumed (statement_rule inner (Some (name_of t)) h) s j
  statement_behind f brace (IsStatement.chain i j s words alone d) = none_taken (pending_chain f (chain_at_name d (fits_there f)))
  statement_behind f brace (IsStatement.override i j l r attrs d ds) = absurd (name_or_type (kind i) (fits_there f) (reference_begins N d))
  statement_behind f brace (IsStatement.defaults i j l t attrs s ds) = absurd (name_or_type (kind i) (fits_there f) (word_there s))
  statement_behind f brace (IsStatement.words i j l t xs s e ds) = absurd (brace_declares (kind j) (rw (same_behind s f) brace) e)
  statement_behind f brace (IsStatement.emitted_text i j t s) = absurd (name_or_text (kind i) (fits_there f) (word_there s))
  statement_behind f brace (IsStatement.emitted_value i j l m opener closer x s d e) = absurd (name_or_value (kind i) (fits_there f) (word_there s))

  pub statement_complete : {i j h : Input} {s : Statement} {name : Option Name} → Behind i name h → IsStatement N i s j → Resumed (statement_rule inner name h) s j
  unfolding statement_rule
  statement_complete Behind.here d = statement_there d
  statement_complete (Behind.pending t l f brace) d = statement_behind f brace d

  -- ---- what ends a statement

  pub record Ended (name : Option Name) (h : Input) (l : Input) : Type 0 where
    pub more : Bool
    pub at : Input
    pub behind : Behind l name at
    pub read : eat k.Semicolon h ≡ Ok (more, at)

  -- the same where no name was taken
  pub record Eaten (j : Input) (l : Input) : Type 0 where
    pub more : Bool
    pub read : eat k.Semicolon j ≡ Ok (more, l)

  pub end_eaten : {j l : Input} → IsEnd N j l → Eaten j l
  end_eaten (IsEnd.left_out j e) = record { more = false; read = eat_leaves k.Semicolon j e }
  end_eaten (IsEnd.given j l t s) = record { more = true; read = eat_gives k.Semicolon s }

  brace_is_no_end : (next : Option Kind) → next ≡ Some k.OpenBrace → is_kind k.Semicolon next ≡ false
  unfolding is_kind same_kind
  brace_is_no_end next e = rw e refl

  name_or_end : (next : Option Kind) → is_name next ≡ true → next ≡ Some k.Semicolon → ⊥
  name_or_end (Some k.Name) e f = cc
  name_or_end _ e f = cc

  end_here : {j l : Input} → IsEnd N j l → Ended None j l
  end_here (IsEnd.left_out j e) = record { more = false; at = j; behind = Behind.here; read = eat_leaves k.Semicolon j e }
  end_here (IsEnd.given j l t s) = record { more = true; at = l; behind = Behind.here; read = eat_gives k.Semicolon s }

  end_behind : {j l h : Input} {t : Token} → Stands is_name j t h → kind h ≡ Some k.OpenBrace → IsEnd N j l → Ended (Some (name_of t)) h l
  end_behind {h = h} {t = t} f brace (IsEnd.left_out j e) = record { more = false; at = h; behind = Behind.pending t h f brace; read = eat_leaves k.Semicolon h (brace_is_no_end (kind h) brace) }
  end_behind f brace (IsEnd.given j l t s) = absurd (name_or_end (kind j) (fits_there f) (word_there s))

  pub end_complete : {j l h : Input} {name : Option Name} → Behind j name h → IsEnd N j l → Ended name h l
  end_complete Behind.here e = end_here e
  end_complete (Behind.pending t l f brace) e = end_behind f brace e

  -- ---- blocks

  block_ends : (n : ℕ) (found : List Statement) {i h : Input} {name : Option Name} → Behind i name h → kind i ≡ Some k.CloseBrace → statements_from inner (suc n) found name h ≡ Ok (found, i)
  unfolding statements_from
  block_ends n found Behind.here e = rw e refl
  block_ends n found {i = i} (Behind.pending t l f brace) e = absurd (name_or_brace (kind i) (fits_there f) e)

  no_end : (next : Option Kind) → is_kind k.CloseBrace next ≡ false → ends_block None next ≡ false
  unfolding is_kind same_kind
  no_end (Some k.CloseBrace) e = cc
  no_end _ e = refl

  block_goes_on : {i h : Input} {name : Option Name} → Behind i name h → is_kind k.CloseBrace (kind i) ≡ false → ends_block name (kind h) ≡ false
  block_goes_on {i = i} Behind.here e = no_end (kind i) e
  block_goes_on (Behind.pending t l f brace) e = refl

  one_statement : (n : ℕ) (found : List Statement) (name : Option Name) (h : Input) {g l : Input} {next : Option Name} {s : Statement} {more : Bool} → ends_block name (kind h) ≡ false → statement_rule inner name h ≡ Ok ((s, next), g) → eat k.Semicolon g ≡ Ok (more, l)
      → statements_from inner (suc n) found name h ≡ statements_from inner n (found ++ s ∷ []) next l
  unfolding statements_from
  one_statement n found name h e f g = rw (e, f, g) refl

  -- recursion is on the turns
  statements_from_complete : (n : ℕ) {i j h : Input} {name : Option Name} {ss : List Statement} → Behind i name h → AreStatements N i ss j → length i.left < n → (found : List Statement) → statements_from inner n found name h ≡ Ok (found ++ ss, j)
  statements_from_complete zero b d below found = absurd (omega arith)
  statements_from_complete (suc n) b (AreStatements.none i e) below found = block_ends n found b (kind_is k.CloseBrace (kind i) e) ∙ ap (λ ss. Ok (ss, i)) (sym (append-nil found))
  statements_from_complete (suc n) {h = h} {name = name} b (AreStatements.more i j l m s ss e d f ds) below found =
      let r = statement_complete b d in
      let end = end_complete r.behind f in
      let less : length l.left < n = omega (arith, statement_falls N c.falling d, end_falls N c.falling f) in
      one_statement n found name h (block_goes_on b e) r.read end.read ∙ statements_from_complete n end.behind ds less (found ++ s ∷ []) ∙ ap (λ zs. Ok (zs, m)) (one_more found s ss)

  pub statements_complete : {i j : Input} {ss : List Statement} → AreStatements N i ss j → statements inner i ≡ Ok (ss, j)
  unfolding statements
  statements_complete {i = i} ds = statements_from_complete (turns i) Behind.here ds (omega arith) []
