-- Statements. A statement may have taken the token behind it, a name before `{` that begins the next one: the statement stands
-- up to the place before that name.
use Rattle.std.proofs.Common.{◌≡◌, ℕ, zero, suc, Bool, true, false, not, if◌then◌else◌, List, [], ◌∷◌, ◌++◌, Option, Some, None, Ok, refl, sym, ap, subst, ◌∙◌, append_assoc, append-nil}
use Rattle.pp_lexer.specs.declared.kind.Kind.{Kind}
use Rattle.pp_lexer.specs.declared.kind.Kind.TheVariants as k
use Rattle.pp_lexer.specs.Seen.{Token}
use Rattle.pp_tree.specs.declared.expr.Expr.{Expr}
use Rattle.pp_tree.specs.declared.expr.Form.{Form}
use Rattle.pp_tree.specs.declared.expr.Form.TheVariants as form
use Rattle.pp_tree.specs.declared.expr.Postfix.TheVariants as postfix
use Rattle.pp_tree.specs.declared.statement.Arrow.{Arrow}
use Rattle.pp_tree.specs.declared.statement.Operand.{Operand}
use Rattle.pp_tree.specs.declared.statement.Operand.TheVariants as operand
use Rattle.pp_tree.specs.declared.statement.Statement.{Statement}
use Rattle.pp_tree.specs.declared.statement.Statement.TheVariants as statement
use Rattle.pp_tree.specs.declared.resource.ResourceForm.TheVariants as resource_form
use Rattle.pp_tree.specs.declared.resource.Reference.{Reference}
use Rattle.pp_tree.specs.declared.definition.Name.{Name}
use Rattle.pp_tree.specs.Building.{expr_at, chain as chain_of, words as words_of, reference as reference_of, override as override_of}
use Rattle.pp_parser.specs.declared.argument.WordArgument.{WordArgument}
use Rattle.pp_parser.specs.declared.argument.WordArgument.TheVariants as word_argument
use Rattle.pp_grammar.proofs.Reader.Input.{Input, kind, kind_at, line_at, turns, pure, eat}
use Rattle.pp_grammar.proofs.Reader.Inner.{Inner}
use Rattle.pp_grammar.specs.Kinds.{is_kind, same_kind, is_name, begins_expression}
use Rattle.pp_grammar.proofs.Reader.Expressions.{loosest, started, chain}
use Rattle.pp_grammar.proofs.Reader.Statements.{Read, name_of, names_resource, arrow_at}
use Rattle.pp_grammar.proofs.Reader.Statements as rule
use Rattle.pp_grammar.specs.Places.{Within, Stands, Maybe, Begins}
use Rattle.pp_grammar.specs.Expressions.{begins_postfix, IsCallOrName, IsPrimary, IsWhole}
use Rattle.pp_grammar.specs.Statements.{opens_collector, calls_or_declares, is_arrow, marks, IsReference, IsResource, IsExpressionOperand, IsOperand, IsLink, IsChain, BeginsArgument, AreWords, BeginsAlone, IsStatement, IsEnd, AreStatements}
use Rattle.pp_grammar.proofs.Sound.Steps.{Meets, Sound, bind, bind_made, done, refused, either_at, weaker, take_at, take_sound, expect_sound, is_kind_is, Eaten, eat_sound, at_next, not_begins, not_before, line_of_stands, fits_of_stands, behind_of_stands, by_kind, other_kind, by_name, other_name}
use Rattle.pp_grammar.proofs.Sound.Lists.{repeat_sound, From, from_nothing, at_end, one_more}
use Rattle.pp_grammar.proofs.Sound.Inner.{IsSound}
use Rattle.pp_grammar.proofs.Sound.Expressions.{IsAccess, as_postfix, access_sound, call_or_name_sound, postfixes_sound, more_postfixes_sound, begun_sound, whole_sound}
use Rattle.pp_grammar.proofs.Sound.Ends.{EndsOnce, no_both, reference_ends}
use Rattle.pp_grammar.proofs.Sound.Resources.{attributes_sound, resource_sound, marked_sound, collector_sound}

-- what was taken of a place already: nothing, or a name that `{` follows
pub data Pends : Option Name → Input → Input → Type 0 where
  nothing : (i : Input) → Pends None i i
  name : (i j : Input) (t : Token) → Stands is_name i t j → is_kind k.OpenBrace (kind j) ≡ true → Pends (Some (name_of t)) i j

-- a statement that was read, and what was taken behind it
pub data IsRead (N : Within) (i : Input) : Read → Input → Type 0 where
  read : (j l : Input) (s : Statement) (pending : Option Name) → IsStatement N i s j → Pends pending j l → IsRead N i (s, pending) l

-- what was read of a statement function's arguments
data AreWordsRead (N : Within) (found : List Expr) (i : Input) : List Expr × Option Name → Input → Type 0 where
  read : (j l : Input) (xs : List Expr) (pending : Option Name) → AreWords N i xs j → Pends pending j l → AreWordsRead N found i (found ++ xs, pending) l

data IsArgumentRead (N : Within) (i : Input) : WordArgument → Input → Type 0 where
  is_argument : (j : Input) (x : Expr) → BeginsArgument N i → IsWhole N false false i x j → IsArgumentRead N i (word_argument.Argument x) j
  is_pending : (j : Input) (t : Token) → Stands is_name i t j → is_kind k.OpenBrace (kind j) ≡ true → IsArgumentRead N i (word_argument.Pending (name_of t)) j

abbrev has_arrow : Option Arrow → Bool
has_arrow (Some a) = true
has_arrow None = false

arrows : (next : Option Kind) → is_arrow next ≡ has_arrow (arrow_at next)
arrows (Some k.InEdge) = refl
arrows (Some k.InEdgeSub) = refl
arrows (Some k.OutEdge) = refl
arrows (Some k.OutEdgeSub) = refl
arrows _ = refl

pub as_reference : (N : Within) (i j : Input) (t : Token) (xs : List Expr) (l : Input) → Stands (is_kind k.Type) i t j → IsAccess N j xs l → IsReference N i (reference_of t.text xs t.line) l
as_reference N i j t xs l st (IsAccess.access _ m n _ opener closer _ o h c) = IsReference.reference i j m n l t opener closer xs st o h c

-- ---- where no defaults and no override begin

pub not_alone : (N : Within) (i : Input) → is_kind k.Type (kind i) ≡ false → BeginsAlone N i → ⊥
not_alone N i h (BeginsAlone.type b) = not_begins h b
not_alone N i h (BeginsAlone.reference j r (IsReference.reference _ _ _ _ _ t _ _ _ st _ _ _) _) = no_both (fits_of_stands st) h

-- a type that neither `{` nor `[` follows
not_alone_type : (N : Within) (i j : Input) (t : Token) → Stands (is_kind k.Type) i t j → is_kind k.OpenBrace (kind j) ≡ false → is_kind k.TightBracket (kind j) ≡ false → BeginsAlone N i → ⊥
not_alone_type N i j t st brace bracket (BeginsAlone.type b) = not_before st brace b
not_alone_type N i j t st brace bracket (BeginsAlone.reference _ r (IsReference.reference _ m _ _ _ u opener _ _ su o _ _) _) =
    no_both (ap (λ (x : Input). is_kind k.TightBracket (kind x)) (behind_of_stands st su) ∙ fits_of_stands o.token) bracket

-- a reference that `{` does not follow
not_alone_reference : (N : Within) → EndsOnce N → (i j l : Input) (t : Token) (r : Reference Expr) → Stands (is_kind k.Type) i t j → is_kind k.OpenBrace (kind j) ≡ false → IsReference N i r l
    → is_kind k.OpenBrace (kind l) ≡ false → BeginsAlone N i → ⊥
not_alone_reference N once i j l t r st brace h behind (BeginsAlone.type b) = not_before st brace b
not_alone_reference N once i j l t r st brace h behind (BeginsAlone.reference m q g e) =
    no_both (ap (λ (x : Input). is_kind k.OpenBrace (kind x)) (reference_ends N once i r q l m h g) ∙ e) behind

-- what `{` stands behind, takes no words
no_words_before : (j : Input) → is_kind k.OpenBrace (kind j) ≡ true → not (calls_or_declares (kind j)) ≡ false
unfolding is_kind
no_words_before j h = go (kind j) h
  where
    go : (next : Option Kind) → is_kind k.OpenBrace next ≡ true → not (calls_or_declares next) ≡ false
    go None e = absurd cc
    go (Some x) e = ap (λ (y : Kind). not (calls_or_declares (Some y))) (is_kind_is k.OpenBrace x e)

-- `;` where nothing was taken before
pub plain_end : (N : Within) (b : Bool) (j m : Input) → Eaten k.Semicolon j b m → IsEnd N j m
plain_end N b j m (Eaten.eaten _ _ t st) = IsEnd.given j m t st
plain_end N b j m (Eaten.other _ h) = IsEnd.left_out j h

no_brace : (next : Option Kind) → rule.ends_block None next ≡ false → is_kind k.CloseBrace next ≡ false
unfolding is_kind same_kind
no_brace (Some k.CloseBrace) h = absurd cc
no_brace _ h = refl

a_brace : (next : Option Kind) → rule.ends_block None next ≡ true → is_kind k.CloseBrace next ≡ true
unfolding is_kind same_kind
a_brace (Some k.CloseBrace) h = refl
a_brace _ h = absurd cc

module _ (inner : Inner) (N : Within) (s : IsSound inner N) where
  -- ---- operands of a chain

  -- a value that a name begins, and what follows it
  pub by_name_sound : (i j l : Input) (t : Token) (f : Form) → Stands is_name i t j → IsCallOrName N false t.text j f l
      → Meets (chain inner false loosest (Some (started (expr_at t.line f))) l) (IsWhole N false false i)
  unfolding is_kind same_kind
  by_name_sound i j l t f st c = weaker (begun_sound inner N s false i l _ (postfixes_sound inner N s false i l t.line f (line_of_stands st) (IsPrimary.named i j l t f st c)))
      λ x m b. IsWhole.binary i m x (not_begins (by_name (is_kind k.Variable) st refl refl)) b

  behind_name_sound : (i j : Input) (t : Token) → Stands is_name i t j → Meets (rule.behind_name inner (name_of t) j) (IsOperand N i)
  unfolding rule.behind_name rule.expression_from is_kind same_kind
  behind_name_sound i j t st = go (kind j) refl
    where
      go : (next : Option Kind) → kind j ≡ next → Meets (rule.behind_name_by inner (name_of t) next j) (IsOperand N i)
      go (Some k.OpenBrace) e = resource_sound inner N s i j resource_form.Plain t.text t.line (λ bs l h. IsResource.plain i j l t bs (other_name st names_resource refl refl) h)
      go _ e = bind (call_or_name_sound inner N s false t.text j) λ f l c. bind (by_name_sound i j l t f st c) λ x m w.
          done (IsOperand.expression i m x (IsExpressionOperand.expression i m x (not_before st (at_next (is_kind k.OpenBrace) j e refl)) (not_begins (by_name (is_kind k.Type) st refl refl)) w))

  behind_type_sound : (i j : Input) (t : Token) → Stands (is_kind k.Type) i t j → Meets (rule.behind_type inner (name_of t) j) (IsOperand N i)
  unfolding rule.behind_type rule.expression_from is_kind same_kind
  behind_type_sound i j t st = go (kind j) refl
    where
      go : (next : Option Kind) → kind j ≡ next → Meets (rule.behind_type_by inner (name_of t) next j) (IsOperand N i)
      go (Some k.OpenCollector) e = collector_sound inner N s i j t st false
      go (Some k.OpenExported) e = collector_sound inner N s i j t st true
      go _ e = bind (begun_sound inner N s false i j _ (postfixes_sound inner N s false i j t.line (form.Type t.text) (line_of_stands st) (IsPrimary.type i j t st))) λ x l b.
          done (IsOperand.expression i l x (IsExpressionOperand.expression i l x (not_begins (by_kind k.Type is_name st refl)) (not_before st (at_next opens_collector j e refl))
          (IsWhole.binary i l x (not_begins (by_kind k.Type (is_kind k.Variable) st refl)) b)))

  operand_sound : Sound (rule.operand_rule inner) (IsOperand N)
  unfolding rule.operand_rule is_kind same_kind
  operand_sound i = go (kind i) refl
    where
      go : (next : Option Kind) → kind i ≡ next → Meets (rule.operand_by inner next i) (IsOperand N i)
      go (Some k.At) e = marked_sound inner N s i resource_form.Virtual (at_next (marks resource_form.Virtual) i e refl)
      go (Some k.AtAt) e = marked_sound inner N s i resource_form.Exported (at_next (marks resource_form.Exported) i e refl)
      go (Some k.Class) e = bind (take_at names_resource i _ e refl) λ t j st. resource_sound inner N s i j resource_form.Plain t.text t.line (λ bs l h. IsResource.plain i j l t bs st h)
      go (Some k.Name) e = bind_made _ (take_at is_name i _ e refl) λ t j st. behind_name_sound i j t st
      go (Some k.StatementFunction) e = bind_made _ (take_at is_name i _ e refl) λ t j st. behind_name_sound i j t st
      go (Some k.Type) e = bind_made _ (take_at (is_kind k.Type) i _ e refl) λ t j st. behind_type_sound i j t st
      go _ e = bind (whole_sound inner N s false false i) λ x j w.
          done (IsOperand.expression i j x (IsExpressionOperand.expression i j x (not_begins (at_next is_name i e refl)) (not_begins (at_next (is_kind k.Type) i e refl)) w))

  -- ---- chains

  link_sound : Sound (rule.link_rule inner) (Maybe (IsLink N) is_arrow)
  unfolding rule.link_rule kind kind_at
  link_sound i = go (arrow_at (kind i)) refl
    where
      go : (o : Option Arrow) → arrow_at (kind i) ≡ o → Meets (rule.link_by inner o i) (Maybe (IsLink N) is_arrow i)
      go (Some mark) e = bind (take_sound is_arrow i (arrows (kind i) ∙ ap has_arrow e)) λ t j st. bind (operand_sound j) λ next l h.
          done (Maybe.given i l _ (arrows (kind i) ∙ ap has_arrow e) (IsLink.link i j l t mark next st (subst (λ (x : Input). arrow_at (kind x) ≡ Some mark) st.is e) h))
      go None e = done (Maybe.left_out i (arrows (kind i) ∙ ap has_arrow e))

  pub chain_from_sound : (i j : Input) (at : ℕ) (first : Operand) → line_at i.left ≡ at → IsOperand N i first j
      → (Begins (is_kind k.StatementFunction) (λ next. not (calls_or_declares next)) i → ⊥) → (BeginsAlone N i → ⊥) → Meets (rule.chain_from inner at first j) (IsRead N i)
  unfolding rule.chain_from
  chain_from_sound i j at first e h no_words not_alone = bind (repeat_sound (IsLink N) is_arrow _ link_sound j) λ links l m.
      done (IsRead.read l l _ None (IsStatement.chain i l _ no_words not_alone
      (subst (λ (line : ℕ). IsChain N i (statement.Chain (chain_of first links line)) l) e (IsChain.chain i j l first links h m))) (Pends.nothing l))

  -- ---- statement functions

  argument_sound : (i : Input) → begins_expression (kind i) ≡ true → Meets (rule.argument_rule inner i) (IsArgumentRead N i)
  unfolding rule.argument_rule rule.argument_from is_kind same_kind
  argument_sound i begins = either_at _ _ (λ e. bind_made _ (take_sound is_name i e) λ t j st. go t j st (kind j) refl)
      (λ e. bind (whole_sound inner N s false false i) λ x j w. done (IsArgumentRead.is_argument j x (BeginsArgument.argument begins (not_begins e)) w))
    where
      go : (t : Token) (j : Input) → Stands is_name i t j → (next : Option Kind) → kind j ≡ next → Meets (rule.argument_from_by inner (name_of t) next j) (IsArgumentRead N i)
      go t j st (Some k.OpenBrace) e = done (IsArgumentRead.is_pending j t st (at_next (is_kind k.OpenBrace) j e refl))
      go t j st _ e = bind (call_or_name_sound inner N s false t.text j) λ f l c. bind (by_name_sound i j l t f st c) λ x m w.
          done (IsArgumentRead.is_argument m x (BeginsArgument.argument begins (not_before st (at_next (is_kind k.OpenBrace) j e refl))) w)

  -- nothing of the arguments is left
  no_words : (found : List Expr) (i j l : Input) (pending : Option Name) → (BeginsArgument N i → ⊥) → Pends pending i l → AreWordsRead N found i (found, pending) l
  no_words found i j l pending h p = subst (λ (xs : List Expr). AreWordsRead N found i (xs, pending) l) (append-nil found) (AreWordsRead.read i l [] pending (AreWords.none i h) p)

  words_from_sound : (n : ℕ) (found : List Expr) (i : Input) → Meets (rule.words_from inner n found i) (AreWordsRead N found i)
  unfolding rule.words_from
  words_from_sound zero found i = refused
  words_from_sound (suc n) found i = either_at _ _
      (λ e. bind (argument_sound i e) λ a j h. go a j h (λ x l. words_from_sound n (found ++ x ∷ []) l))
      (λ e. done (no_words found i i i None (λ b. no_argument b e) (Pends.nothing i)))
    where
      no_argument : BeginsArgument N i → begins_expression (kind i) ≡ false → ⊥
      no_argument (BeginsArgument.argument b _) e = no_both b e

      pending_argument : (j : Input) (t : Token) → Stands is_name i t j → is_kind k.OpenBrace (kind j) ≡ true → BeginsArgument N i → ⊥
      pending_argument j t st brace (BeginsArgument.argument _ no_brace) = no_brace (record { token = t; behind = j; stands = st; next = brace })

      more_words : (x : Expr) (j l : Input) (t : Token) → BeginsArgument N i → IsWhole N false false i x j → Stands (is_kind k.Comma) j t l
          → (r : List Expr × Option Name) (m : Input) → AreWordsRead N (found ++ x ∷ []) l r m → AreWordsRead N found i r m
      more_words x j l t b w st r m (AreWordsRead.read o _ xs pending h p) =
          subst (λ (ys : List Expr). AreWordsRead N found i (ys, pending) m) (sym (append_assoc found (x ∷ []) xs)) (AreWordsRead.read o m (x ∷ xs) pending (AreWords.more i j l o t x xs b w st h) p)

      behind : (x : Expr) (j : Input) → BeginsArgument N i → IsWhole N false false i x j → (b : Bool) (l : Input) → Eaten k.Comma j b l
          → Meets (rule.words_from inner n (found ++ x ∷ []) l) (AreWordsRead N (found ++ x ∷ []) l)
          → Meets ((if b then rule.words_from inner n (found ++ x ∷ []) else pure (found ++ x ∷ [], None)) l) (AreWordsRead N found i)
      behind x j b w true l (Eaten.eaten _ _ t st) rest = weaker rest (more_words x j l t b w st)
      behind x j b w false l (Eaten.other _ h) rest = done (AreWordsRead.read j j (x ∷ []) None (AreWords.last i j x b w h) (Pends.nothing j))

      go : (a : WordArgument) (j : Input) → IsArgumentRead N i a j → ((x : Expr) (l : Input) → Meets (rule.words_from inner n (found ++ x ∷ []) l) (AreWordsRead N (found ++ x ∷ []) l))
          → Meets (rule.argument_then inner found (rule.words_from inner n) a j) (AreWordsRead N found i)
      go a j (IsArgumentRead.is_pending _ t st brace) more = done (no_words found i i j (Some (name_of t)) (pending_argument j t st brace) (Pends.name i j t st brace))
      go a j (IsArgumentRead.is_argument _ x b w) more = bind (eat_sound k.Comma j) λ c l e. behind x j b w c l e (more x l)

  function_sound : (i j : Input) (t : Token) → Stands (is_kind k.StatementFunction) i t j → (next : Option Kind) → kind j ≡ next → Meets (rule.function_by inner (name_of t) next j) (IsRead N i)
  unfolding rule.words is_kind same_kind
  function_sound i j t st (Some k.OpenParen) e = bind (behind_name_sound i j t (other_kind k.StatementFunction st is_name refl)) λ first l h.
      chain_from_sound i l t.line first (line_of_stands st) h (not_before st (ap not (at_next calls_or_declares j e refl))) (not_alone N i (by_kind k.StatementFunction (is_kind k.Type) st refl))
  function_sound i j t st (Some k.OpenBrace) e = bind (behind_name_sound i j t (other_kind k.StatementFunction st is_name refl)) λ first l h.
      chain_from_sound i l t.line first (line_of_stands st) h (not_before st (ap not (at_next calls_or_declares j e refl))) (not_alone N i (by_kind k.StatementFunction (is_kind k.Type) st refl))
  function_sound i j t st _ e = bind (words_from_sound (turns j) [] j) λ r l h. words r l h
    where
      words : (r : List Expr × Option Name) (l : Input) → AreWordsRead N [] j r l → Meets (Ok ((statement.Words (words_of t.text r.0 t.line), r.1), l)) (IsRead N i)
      words r l (AreWordsRead.read m _ xs pending h p) = done (IsRead.read m l _ pending (IsStatement.words i j m t xs st (at_next calls_or_declares j e refl) h) p)

  -- ---- statements

  -- nothing was taken behind it
  read_alone : (i j : Input) (st : Statement) → IsStatement N i st j → IsRead N i (st, None) j
  read_alone i j st h = IsRead.read j j st None h (Pends.nothing j)

  reference_sound : EndsOnce N → (i j : Input) (t : Token) → Stands (is_kind k.Type) i t j → kind j ≡ Some k.TightBracket → (xs : List Expr) (l : Input) → IsAccess N j xs l
      → (next : Option Kind) → kind l ≡ next → Meets (rule.reference_by inner (name_of t) xs next l) (IsRead N i)
  unfolding rule.override_rule rule.expression_from is_kind same_kind
  reference_sound once i j t st bracket xs l a (Some k.OpenBrace) e = bind (attributes_sound inner N s true l) λ attrs m h.
      done (read_alone i m _ (subst (λ (line : ℕ). IsStatement N i (statement.Chain (chain_of (operand.Override (override_of (reference_of t.text xs t.line) attrs line)) [] line)) m) (line_of_stands st)
      (IsStatement.override i l m (reference_of t.text xs t.line) attrs (as_reference N i j t xs l st a) h)))
  reference_sound once i j t st bracket xs l a _ e =
      bind (bind (begun_sound inner N s false i l _ (more_postfixes_sound inner N s false i j l t.line (form.Type t.text) (postfix.Access xs) (line_of_stands st) (IsPrimary.type i j t st)
      (at_next begins_postfix j bracket refl) (as_postfix N false j xs l a))) λ x m b.
      done {Q = IsOperand N i} (IsOperand.expression i m x (IsExpressionOperand.expression i m x (not_begins (by_kind k.Type is_name st refl)) (not_before st (at_next opens_collector j bracket refl))
      (IsWhole.binary i m x (not_begins (by_kind k.Type (is_kind k.Variable) st refl)) b)))) λ first m h.
      chain_from_sound i m t.line first (line_of_stands st) h (not_begins (by_kind k.Type (is_kind k.StatementFunction) st refl))
      (not_alone_reference N once i j l t (reference_of t.text xs t.line) st (at_next (is_kind k.OpenBrace) j bracket refl) (as_reference N i j t xs l st a) (at_next (is_kind k.OpenBrace) l e refl))

  typed_sound : EndsOnce N → (i j : Input) (t : Token) → Stands (is_kind k.Type) i t j → (next : Option Kind) → kind j ≡ next → Meets (rule.typed_by inner (name_of t) next j) (IsRead N i)
  unfolding rule.defaults_rule rule.reference_rule is_kind same_kind
  typed_sound once i j t st (Some k.OpenBrace) e = bind (attributes_sound inner N s false j) λ attrs l h. done (read_alone i l _ (IsStatement.defaults i j l t attrs st h))
  typed_sound once i j t st (Some k.TightBracket) e = bind (access_sound inner N s j) λ xs l a. reference_sound once i j t st e xs l a (kind l) refl
  typed_sound once i j t st _ e = bind (behind_type_sound i j t st) λ first l h.
      chain_from_sound i l t.line first (line_of_stands st) h (not_begins (by_kind k.Type (is_kind k.StatementFunction) st refl))
      (not_alone_type N i j t st (at_next (is_kind k.OpenBrace) j e refl) (at_next (is_kind k.TightBracket) j e refl))

  statement_by_sound : EndsOnce N → (i : Input) (next : Option Kind) → kind i ≡ next → Meets (rule.statement_by inner next i) (IsRead N i)
  unfolding rule.function rule.typed rule.emitted_value is_kind same_kind
  statement_by_sound once i (Some k.RenderString) e = bind (take_at (is_kind k.RenderString) i _ e refl) λ t j st. done (read_alone i j _ (IsStatement.emitted_text i j t st))
  statement_by_sound once i (Some k.RenderExpr) e = bind (take_at (is_kind k.RenderExpr) i _ e refl) λ t j st. bind (whole_sound inner N s false false j) λ x l w.
      bind (expect_sound k.TagEnd l) λ closer m c. done (read_alone i m _ (IsStatement.emitted_value i j l m t closer x st w c))
  statement_by_sound once i (Some k.StatementFunction) e = bind_made _ (take_at (is_kind k.StatementFunction) i _ e refl) λ t j st. function_sound i j t st (kind j) refl
  statement_by_sound once i (Some k.Type) e = bind_made _ (take_at (is_kind k.Type) i _ e refl) λ t j st. typed_sound once i j t st (kind j) refl
  statement_by_sound once i _ e = bind (operand_sound i) λ first j h.
      chain_from_sound i j (line_at i.left) first refl h (not_begins (at_next (is_kind k.StatementFunction) i e refl)) (not_alone N i (at_next (is_kind k.Type) i e refl))

  pub statement_sound : EndsOnce N → (waiting : Option Name) (i j : Input) → Pends waiting i j → Meets (rule.statement_rule inner waiting j) (IsRead N i)
  unfolding rule.statement_rule is_kind same_kind
  statement_sound once None i j (Pends.nothing _) = statement_by_sound once i (kind i) refl
  statement_sound once (Some n) i j (Pends.name _ _ t st brace) = bind (behind_name_sound i j t st) λ first l h.
      chain_from_sound i l t.line first (line_of_stands st) h (not_before st (no_words_before j brace)) (not_alone N i (by_name (is_kind k.Type) st refl refl))

  -- ---- blocks

  -- `;`, which is not there where a name was taken
  pub end_sound : (waiting : Option Name) (j l : Input) → Pends waiting j l → Meets (eat k.Semicolon l) (λ b m. (n : Input) × IsEnd N j n × Pends waiting n m)
  unfolding is_kind same_kind
  end_sound None j l (Pends.nothing _) = weaker (eat_sound k.Semicolon j) go
    where
      go : (b : Bool) (m : Input) → Eaten k.Semicolon j b m → (n : Input) × IsEnd N j n × Pends None n m
      go b m (Eaten.eaten _ _ t st) = (m, IsEnd.given j m t st, Pends.nothing m)
      go b m (Eaten.other _ h) = (j, IsEnd.left_out j h, Pends.nothing j)
  end_sound (Some n) j l (Pends.name _ _ t st brace) = weaker (eat_sound k.Semicolon l) go
    where
      go : (b : Bool) (m : Input) → Eaten k.Semicolon l b m → (n : Input) × IsEnd N j n × Pends (Some (name_of t)) n m
      go b m (Eaten.eaten _ _ u su) = absurd (no_both brace (by_kind k.Semicolon (is_kind k.OpenBrace) su refl))
      go b m (Eaten.other _ h) = (j, IsEnd.left_out j (by_name (is_kind k.Semicolon) st refl refl), Pends.name j l t st brace)

  -- a statement and its end
  pub data IsReadEnded (i : Input) : Read → Input → Type 0 where
    read : (j l m : Input) (st : Statement) (waiting : Option Name) → IsStatement N i st j → IsEnd N j l → Pends waiting l m → IsReadEnded i (st, waiting) m

  pub ended_sound : (r : Read) (i l : Input) → IsRead N i r l → Meets (eat k.Semicolon l) (λ b m. IsReadEnded i r m)
  ended_sound r i l (IsRead.read j _ st waiting h p) = weaker (end_sound waiting j l p) λ b m found. IsReadEnded.read j found.0 m st waiting h found.1 found.2

  goes_on : (waiting : Option Name) (i j : Input) → Pends waiting i j → rule.ends_block waiting (kind j) ≡ false → is_kind k.CloseBrace (kind i) ≡ false
  unfolding is_kind same_kind
  goes_on None i j (Pends.nothing _) h = no_brace (kind i) h
  goes_on (Some n) i j (Pends.name _ _ t st brace) h = by_name (is_kind k.CloseBrace) st refl refl

  at_brace : (waiting : Option Name) (i j : Input) → Pends waiting i j → rule.ends_block waiting (kind j) ≡ true → AreStatements N i [] j
  at_brace None i j (Pends.nothing _) h = AreStatements.none j (a_brace (kind j) h)
  at_brace (Some n) i j p h = absurd cc

  statements_from_sound : EndsOnce N → (n : ℕ) (found : List Statement) (waiting : Option Name) (i j : Input) → Pends waiting i j
      → Meets (rule.statements_from inner n found waiting j) (From found (AreStatements N i))
  unfolding rule.statements_from
  statements_from_sound once zero found waiting i j p = refused
  statements_from_sound once (suc n) found waiting i j p = either_at _ _ (λ e. done (at_end found j (at_brace waiting i j p e)))
      (λ e. bind (statement_sound once waiting i j p) λ r l h. bind (ended_sound r i l h) λ b m q. go e r m q (λ l. statements_from_sound once n (found ++ r.0 ∷ []) r.1 l m))
    where
      go : rule.ends_block waiting (kind j) ≡ false → (r : Read) (m : Input) → IsReadEnded i r m
          → ((l : Input) → Pends r.1 l m → Meets (rule.statements_from inner n (found ++ r.0 ∷ []) r.1 m) (From (found ++ r.0 ∷ []) (AreStatements N l)))
          → Meets (rule.statements_from inner n (found ++ r.0 ∷ []) r.1 m) (From found (AreStatements N i))
      go e r m (IsReadEnded.read l o _ st next h f q) rest = weaker (rest o q) (one_more found st (λ ss v a. AreStatements.more i l o v st ss (goes_on waiting i j p e) h f a))

  pub statements_sound : EndsOnce N → Sound (rule.statements inner) (AreStatements N)
  unfolding rule.statements
  statements_sound once i = weaker (statements_from_sound once (turns i) [] None i i (Pends.nothing i)) from_nothing
