-- Definitions and files: what a rule reads, stands there.
use Rattle.std.proofs.Common.{◌≡◌, ℕ, zero, suc, Bool, true, false, if◌then◌else◌, List, [], ◌∷◌, ◌++◌, Option, Some, None, refl, sym, subst, append_assoc, append-nil}
use Rattle.pp_lexer.specs.declared.kind.Kind.{Kind}
use Rattle.pp_lexer.specs.declared.kind.Kind.TheVariants as k
use Rattle.pp_lexer.specs.Seen.{Token}
use Rattle.pp_tree.specs.declared.expr.Expr.{Expr}
use Rattle.pp_tree.specs.declared.statement.Statement.{Statement}
use Rattle.pp_tree.specs.declared.definition.Name.{Name}
use Rattle.pp_tree.specs.declared.definition.NodeName.{NodeName}
use Rattle.pp_tree.specs.declared.definition.Definition.{Definition}
use Rattle.pp_tree.specs.declared.resource.ResourceForm.TheVariants as resource_form
use Rattle.pp_tree.specs.Building.{node_name as node_name_at}
use Rattle.pp_parser.specs.declared.item.Item.{Item}
use Rattle.pp_parser.specs.declared.item.Item.TheVariants as item
use Rattle.pp_grammar.proofs.Reader.Input.{Input, kind, line_at, turns, pure, eat}
use Rattle.pp_grammar.proofs.Reader.Inner.{Inner}
use Rattle.pp_grammar.specs.Kinds.{is_kind, same_kind, is_name}
use Rattle.pp_grammar.proofs.Reader.Statements.{Read, name_of, names_resource}
use Rattle.pp_parser.specs.declared.found.Found.{Found}
use Rattle.pp_grammar.proofs.Reader.Definitions.{nothing_yet, with_statement, with_definition, node_name}
use Rattle.pp_grammar.proofs.Reader.Definitions as rule
use Rattle.pp_grammar.specs.Places.{Within, Stands, Maybe}
use Rattle.pp_grammar.specs.Expressions.{InnerParam}
use Rattle.pp_grammar.specs.Statements.{IsResource, IsStatement, IsEnd}
use Rattle.pp_grammar.specs.Files.{IsName, AreParams, OptionalParams, IsParent, IsReturnType, IsReturn, IsNodeName, AreNodeNames, IsModuleDefinition, IsDefinition, IsMain, IsModule}
use Rattle.pp_grammar.proofs.Sound.Steps.{Meets, Sound, bind, bind_made, done, refused, either_at, weaker, take_at, take_sound, expect_sound, expect_any_sound, Eaten, eat_sound, at_next, not_begins, line_of_stands, by_kind, other_kind}
use Rattle.pp_grammar.proofs.Sound.Lists.{separated_sound, From, from_nothing, one_more}
use Rattle.pp_grammar.proofs.Sound.Inner.{IsSound, opening_sound, param_in_sound}
use Rattle.pp_grammar.proofs.Sound.Expressions.{IsAccess, access_sound, block_sound}
use Rattle.pp_grammar.proofs.Sound.FunctionBodies.{function_block_sound}
use Rattle.pp_grammar.proofs.Sound.Ends.{EndsOnce}
use Rattle.pp_grammar.proofs.Sound.Resources.{resource_sound}
use Rattle.pp_grammar.proofs.Sound.Statements.{Pends, IsRead, plain_end, end_sound, chain_from_sound, statement_sound, not_alone}

-- what stands at the top of a main manifest, and what was taken behind it
data IsItemRead (N : Within) (i : Input) : Item → Input → Type 0 where
  definition : (j : Input) (d : Definition) → IsDefinition N i d j → IsItemRead N i (item.Definition d) j
  statement : (j l : Input) (st : Statement) (waiting : Option Name) → IsStatement N i st j → Pends waiting j l → IsItemRead N i (item.Statement st waiting) l

-- what was found, and what stands from here on
data FromFound (found : Found) (P : List Statement → List Definition → Input → Type 0) : Found → Input → Type 0 where
  from : (ss : List Statement) (ds : List Definition) (j : Input) → P ss ds j → FromFound found P (record { statements = found.statements ++ ss; definitions = found.definitions ++ ds }) j

found_end : {P : List Statement → List Definition → Input → Type 0} (found : Found) (j : Input) → P [] [] j → FromFound found P found j
found_end {P} found j h = subst (λ (f : Found). FromFound found P f j) (λ d. record { statements = append-nil found.statements d; definitions = append-nil found.definitions d }) (FromFound.from [] [] j h)

found_statement : {P R : List Statement → List Definition → Input → Type 0} (found : Found) (st : Statement)
    → ((ss : List Statement) (ds : List Definition) (j : Input) → R ss ds j → P (st ∷ ss) ds j) → (f : Found) (j : Input) → FromFound (with_statement found st) R f j → FromFound found P f j
found_statement {P} {R} found st f g j (FromFound.from ss ds _ h) =
    subst (λ (xs : List Statement). FromFound found P (record { statements = xs; definitions = found.definitions ++ ds }) j) (sym (append_assoc found.statements (st ∷ []) ss)) (FromFound.from (st ∷ ss) ds j (f ss ds j h))

found_definition : {P R : List Statement → List Definition → Input → Type 0} (found : Found) (d : Definition)
    → ((ss : List Statement) (ds : List Definition) (j : Input) → R ss ds j → P ss (d ∷ ds) j) → (f : Found) (j : Input) → FromFound (with_definition found d) R f j → FromFound found P f j
found_definition {P} {R} found d f g j (FromFound.from ss ds _ h) =
    subst (λ (xs : List Definition). FromFound found P (record { statements = found.statements ++ ss; definitions = xs }) j) (sym (append_assoc found.definitions (d ∷ []) ds)) (FromFound.from ss (d ∷ ds) j (f ss ds j h))

a_piece : (j : Input) → kind j ≡ Some k.Piece → is_kind k.Piece (kind j) ≡ true
unfolding is_kind same_kind
a_piece j e = at_next (is_kind k.Piece) j e refl

pub no_token : (next : Option Kind) → rule.ends_file None next ≡ true → next ≡ None
no_token None h = refl
no_token (Some x) h = absurd cc

module _ (inner : Inner) (N : Within) (s : IsSound inner N) where
  name_sound : Sound (rule.name_rule inner) (IsName N)
  unfolding rule.name_rule
  name_sound i = bind (expect_any_sound is_name i) λ t j st. done (IsName.name i j t st)

  params_sound : Sound (rule.params inner) (AreParams N)
  unfolding rule.params
  params_sound i = bind (opening_sound inner N s k.OpenParen i) λ opener j o. bind (separated_sound (is_kind k.CloseParen) k.Comma (InnerParam N false) _ (param_in_sound inner N s false) j) λ ps l h.
      bind (expect_sound k.CloseParen l) λ closer m c. done (AreParams.params i j l m opener closer ps o h c)

  optional_params_sound : Sound (rule.optional_params inner) (OptionalParams N)
  unfolding rule.optional_params is_kind same_kind
  optional_params_sound i = go (kind i) refl
    where
      go : (next : Option Kind) → kind i ≡ next → Meets (rule.params_by inner next i) (OptionalParams N i)
      go (Some k.OpenParen) e = weaker (params_sound i) (λ ps j h. OptionalParams.given i j ps h)
      go _ e = done (OptionalParams.left_out i (at_next (is_kind k.OpenParen) i e refl))

  inherits_sound : Sound (rule.optional_inherits inner) (Maybe (IsParent N) (is_kind k.Inherits))
  unfolding rule.optional_inherits is_kind same_kind
  inherits_sound i = go (kind i) refl
    where
      go : (next : Option Kind) → kind i ≡ next → Meets (rule.inherits_by inner next i) (Maybe (IsParent N) (is_kind k.Inherits) i)
      go (Some k.Inherits) e = bind (take_at (is_kind k.Inherits) i _ e refl) λ t j st. bind (name_sound j) λ n l h.
          done (Maybe.given i l n (at_next (is_kind k.Inherits) i e refl) (IsParent.parent i j l t n st h))
      go _ e = done (Maybe.left_out i (at_next (is_kind k.Inherits) i e refl))

  -- behind `class` and behind `define`
  class_sound : (i j : Input) (t : Token) → Stands (is_kind k.Class) i t j → Meets (rule.class inner t.line j) (IsModuleDefinition N i)
  unfolding rule.class
  class_sound i j t st = bind (name_sound j) λ n l h. bind (optional_params_sound l) λ ps m p. bind (inherits_sound m) λ parent o q. bind (block_sound inner N s o) λ ss v b.
      done (IsModuleDefinition.class i j l m o v t n ps parent ss st h p q b)

  define_sound : (i j : Input) (t : Token) → Stands (is_kind k.Define) i t j → Meets (rule.define inner t.line j) (IsModuleDefinition N i)
  unfolding rule.define
  define_sound i j t st = bind (name_sound j) λ n l h. bind (optional_params_sound l) λ ps m p. bind (block_sound inner N s m) λ ss v b.
      done (IsModuleDefinition.define i j l m v t n ps ss st h p b)

  -- ---- functions

  as_return_type : (i j : Input) (t : Token) (xs : List Expr) (l : Input) → Stands (is_kind k.Type) i t j → IsAccess N j xs l → IsReturnType N i (rule.applied_type (name_of t) xs) l
  as_return_type i j t xs l st (IsAccess.access _ m n _ opener closer _ o h c) = IsReturnType.applied i j m n l t opener closer xs st o h c

  return_type_sound : Sound (rule.return_type inner) (IsReturnType N)
  unfolding rule.return_type rule.type_from is_kind same_kind
  return_type_sound i = bind (expect_sound k.Type i) λ t j st. go t j st (kind j) refl
    where
      go : (t : Token) (j : Input) → Stands (is_kind k.Type) i t j → (next : Option Kind) → kind j ≡ next → Meets (rule.type_from_by inner (name_of t) next j) (IsReturnType N i)
      go t j st (Some k.TightBracket) e = bind (access_sound inner N s j) λ xs l a. done (as_return_type i j t xs l st a)
      go t j st _ e = done (IsReturnType.bare i j t st (at_next (is_kind k.TightBracket) j e refl))

  optional_return_sound : Sound (rule.optional_return inner) (Maybe (IsReturn N) (is_kind k.Returns))
  unfolding rule.optional_return is_kind same_kind
  optional_return_sound i = go (kind i) refl
    where
      go : (next : Option Kind) → kind i ≡ next → Meets (rule.return_by inner next i) (Maybe (IsReturn N) (is_kind k.Returns) i)
      go (Some k.Returns) e = bind (take_at (is_kind k.Returns) i _ e refl) λ t j st. bind (return_type_sound j) λ x l h.
          done (Maybe.given i l x (at_next (is_kind k.Returns) i e refl) (IsReturn.returns i j l t x st h))
      go _ e = done (Maybe.left_out i (at_next (is_kind k.Returns) i e refl))

  -- behind `function`
  function_definition_sound : (i j : Input) (t : Token) → Stands (is_kind k.Function) i t j → Meets (rule.function_definition inner t.line j) (IsModuleDefinition N i)
  unfolding rule.function_definition
  function_definition_sound i j t st = bind (name_sound j) λ n l h. bind (optional_params_sound l) λ ps m p. bind (optional_return_sound m) λ type o q. bind (function_block_sound inner N s o) λ ss v b.
      done (IsModuleDefinition.function i j l m o v t n ps type ss st h p q b)

  -- ---- nodes

  -- the line is that of the first token
  at_line : (i : Input) (name : Option (List ℕ)) (line : ℕ) (j : Input) → line_at i.left ≡ line → IsNodeName N i (node_name_at name line) j → IsNodeName N i (node_name_at name (line_at i.left)) j
  at_line i name line j e h = subst (λ (at : ℕ). IsNodeName N i (node_name_at name at) j) (sym e) h

  plain_text_sound : (i : Input) → Meets (rule.plain_text inner i) (λ said j. IsNodeName N i (node_name_at (node_name said) (line_at i.left)) j)
  unfolding rule.plain_text
  plain_text_sound i = bind (expect_sound k.TextBegin i) λ opener j o. go opener j o (kind j) refl
    where
      go : (opener : Token) (j : Input) → Stands (is_kind k.TextBegin) i opener j → (next : Option Kind) → kind j ≡ next
          → Meets (rule.plain_by inner next j) (λ said l. IsNodeName N i (node_name_at (node_name said) (line_at i.left)) l)
      go opener j o (Some k.Piece) e = bind (take_sound (is_kind k.Piece) j (a_piece j e)) λ run l r. bind (expect_sound k.TextEnd l) λ closer m c.
          done (at_line i (node_name run.text) opener.line m (line_of_stands o) (IsNodeName.quoted i j l m opener run closer o r c))
      go opener j o _ e = bind (expect_sound k.TextEnd j) λ closer l c. done (at_line i (node_name []) opener.line l (line_of_stands o) (IsNodeName.empty i j l opener closer o c))

  node_name_sound : Sound (rule.node_name_rule inner) (IsNodeName N)
  unfolding rule.node_name_rule is_kind same_kind
  node_name_sound i = bind {P = λ n j. IsNodeName N i (node_name_at n (line_at i.left)) j} (go (kind i) refl) λ n j h. done h
    where
      go : (next : Option Kind) → kind i ≡ next → Meets (rule.node_name_by inner next i) (λ n j. IsNodeName N i (node_name_at n (line_at i.left)) j)
      go (Some k.Text) e = bind_made _ (take_at (is_kind k.Text) i _ e refl) λ t j st. done (at_line i _ t.line j (line_of_stands st) (IsNodeName.text i j t st))
      go (Some k.TextBegin) e = bind (plain_text_sound i) λ said j h. done h
      go (Some k.Name) e = bind_made _ (take_at is_name i _ e refl) λ t j st. done (at_line i _ t.line j (line_of_stands st) (IsNodeName.name i j t st))
      go (Some k.StatementFunction) e = bind_made _ (take_at is_name i _ e refl) λ t j st. done (at_line i _ t.line j (line_of_stands st) (IsNodeName.name i j t st))
      go (Some k.Default) e = bind (take_at (is_kind k.Default) i _ e refl) λ t j st. done (at_line i _ t.line j (line_of_stands st) (IsNodeName.default i j t st))
      go _ e = refused

  node_names_from_sound : (n : ℕ) (found : List NodeName) (i : Input) → Meets (rule.node_names_from inner n found i) (From found (AreNodeNames N i))
  unfolding rule.node_names_from
  node_names_from_sound zero found i = refused
  node_names_from_sound (suc n) found i = bind (node_name_sound i) λ x j h. bind (eat_sound k.Comma j) λ b l e. go x j h b l e (node_names_from_sound n (found ++ x ∷ []) l)
    where
      go : (x : NodeName) (j : Input) → IsNodeName N i x j → (b : Bool) (l : Input) → Eaten k.Comma j b l
          → Meets (rule.node_names_from inner n (found ++ x ∷ []) l) (From (found ++ x ∷ []) (AreNodeNames N l))
          → Meets ((if b then rule.node_names_from inner n (found ++ x ∷ []) else pure (found ++ x ∷ [])) l) (From found (AreNodeNames N i))
      go x j h true l (Eaten.eaten _ _ t st) rest = weaker rest (one_more found x (λ xs m r. AreNodeNames.more i j l m t x xs h st r))
      go x j h false l (Eaten.other _ c) rest = done (From.from (x ∷ []) j (AreNodeNames.last i j x h c))

  node_sound : (i j : Input) (t : Token) → Stands (is_kind k.Node) i t j → Meets (rule.node inner t.line j) (IsDefinition N i)
  unfolding rule.node rule.node_names
  node_sound i j t st = bind (weaker (node_names_from_sound (turns j) [] j) from_nothing) λ names l h. bind (block_sound inner N s l) λ ss m b.
      done (IsDefinition.node i j l m t names ss st h b)

  -- ---- main manifests

  read_item : (i l : Input) (r : Read) → IsRead N i r l → IsItemRead N i (rule.read_of inner r) l
  read_item i l r (IsRead.read j _ st waiting h p) = IsItemRead.statement j l st waiting h p

  class_item_sound : (i j : Input) (t : Token) → Stands (is_kind k.Class) i t j → (next : Option Kind) → kind j ≡ next → Meets (rule.class_item_by inner (name_of t) next j) (IsItemRead N i)
  unfolding is_kind same_kind
  class_item_sound i j t st (Some k.OpenBrace) e =
      bind (resource_sound inner N s i j resource_form.Plain t.text t.line (λ bs l h. IsResource.plain i j l t bs (other_kind k.Class st names_resource refl) h)) λ first l h.
      bind (chain_from_sound inner N s i l t.line first (line_of_stands st) h (not_begins (by_kind k.Class (is_kind k.StatementFunction) st refl)) (not_alone N i (by_kind k.Class (is_kind k.Type) st refl))) λ r m read.
      done (read_item i m r read)
  class_item_sound i j t st _ e = bind (class_sound i j t st) λ d l h. done (IsItemRead.definition l d (IsDefinition.of_module i l d h))

  item_by_sound : EndsOnce N → (i : Input) (next : Option Kind) → kind i ≡ next → Meets (rule.item_by inner next i) (IsItemRead N i)
  unfolding rule.class_item is_kind same_kind
  item_by_sound once i (Some k.Class) e = bind_made _ (take_at (is_kind k.Class) i _ e refl) λ t j st. class_item_sound i j t st (kind j) refl
  item_by_sound once i (Some k.Define) e = bind (take_at (is_kind k.Define) i _ e refl) λ t j st. bind (define_sound i j t st) λ d l h.
      done (IsItemRead.definition l d (IsDefinition.of_module i l d h))
  item_by_sound once i (Some k.Function) e = bind (take_at (is_kind k.Function) i _ e refl) λ t j st. bind (function_definition_sound i j t st) λ d l h.
      done (IsItemRead.definition l d (IsDefinition.of_module i l d h))
  item_by_sound once i (Some k.Node) e = bind (take_at (is_kind k.Node) i _ e refl) λ t j st. bind (node_sound i j t st) λ d l h. done (IsItemRead.definition l d h)
  item_by_sound once i _ e = bind (statement_sound inner N s once None i i (Pends.nothing i)) λ r l h. done (read_item i l r h)

  item_sound : EndsOnce N → (waiting : Option Name) (i j : Input) → Pends waiting i j → Meets (rule.item_rule inner waiting j) (IsItemRead N i)
  unfolding rule.item_rule
  item_sound once None i j (Pends.nothing _) = item_by_sound once j (kind j) refl
  item_sound once (Some n) i j p = bind (statement_sound inner N s once (Some n) i j p) λ r l h. done (read_item i l r h)

  -- an item and its end
  data IsItemEnded (i : Input) : Item → Input → Type 0 where
    definition : (j m : Input) (d : Definition) → IsDefinition N i d j → IsEnd N j m → IsItemEnded i (item.Definition d) m
    statement : (j l m : Input) (st : Statement) (waiting : Option Name) → IsStatement N i st j → IsEnd N j l → Pends waiting l m → IsItemEnded i (item.Statement st waiting) m

  item_ended_sound : (x : Item) (i l : Input) → IsItemRead N i x l → Meets (eat k.Semicolon l) (λ b m. IsItemEnded i x m)
  item_ended_sound x i l (IsItemRead.definition _ d h) = weaker (eat_sound k.Semicolon l) λ b m e. IsItemEnded.definition l m d h (plain_end N b l m e)
  item_ended_sound x i l (IsItemRead.statement j _ st waiting h p) = weaker (end_sound inner N s waiting j l p) λ b m found. IsItemEnded.statement j found.0 m st waiting h found.1 found.2

  file_end : (waiting : Option Name) (i j : Input) → Pends waiting i j → rule.ends_file waiting (kind j) ≡ true → IsMain N i [] [] j
  file_end None i j (Pends.nothing _) h = IsMain.end j (no_token (kind j) h)
  file_end (Some n) i j p h = absurd cc

  manifest_from_sound : EndsOnce N → (n : ℕ) (found : Found) (waiting : Option Name) (i j : Input) → Pends waiting i j → Meets (rule.manifest_from inner n found waiting j) (FromFound found (IsMain N i))
  unfolding rule.manifest_from
  manifest_from_sound once zero found waiting i j p = refused
  manifest_from_sound once (suc n) found waiting i j p = either_at _ _ (λ e. done (found_end found j (file_end waiting i j p e)))
      (λ e. bind (item_sound once waiting i j p) λ x l h. bind (item_ended_sound x i l h) λ b m q. go x m q (λ f w o r. manifest_from_sound once n f w o m r))
    where
      go : (x : Item) (m : Input) → IsItemEnded i x m → ((f : Found) (w : Option Name) (o : Input) → Pends w o m → Meets (rule.manifest_from inner n f w m) (FromFound f (IsMain N o)))
          → Meets (rule.manifest_from inner n (rule.found_with found x) (rule.pending_of x) m) (FromFound found (IsMain N i))
      go x m (IsItemEnded.definition l _ d h f) rest = weaker (rest (with_definition found d) None m (Pends.nothing m)) (found_definition found d (λ ss ds v a. IsMain.definition i l m v d ss ds h f a))
      go x m (IsItemEnded.statement l o _ st w h f q) rest = weaker (rest (with_statement found st) w o q) (found_statement found st (λ ss ds v a. IsMain.statement i l o v st ss ds h f a))

  -- What is read of a main manifest, stands there.
  pub main_manifest_sound : EndsOnce N → (i : Input) → Meets (rule.main_manifest inner i) (λ found j. IsMain N i found.statements found.definitions j)
  unfolding rule.main_manifest
  main_manifest_sound once i = weaker (manifest_from_sound once (turns i) nothing_yet None i i (Pends.nothing i)) go
    where
      go : (f : Found) (j : Input) → FromFound nothing_yet (IsMain N i) f j → IsMain N i f.statements f.definitions j
      go f j (FromFound.from ss ds _ h) = h

  -- ---- module files

  module_item_sound : Sound (rule.module_item inner) (IsModuleDefinition N)
  unfolding rule.module_item is_kind same_kind
  module_item_sound i = go (kind i) refl
    where
      go : (next : Option Kind) → kind i ≡ next → Meets (rule.module_item_by inner next i) (IsModuleDefinition N i)
      go (Some k.Class) e = bind (take_at (is_kind k.Class) i _ e refl) λ t j st. class_sound i j t st
      go (Some k.Define) e = bind (take_at (is_kind k.Define) i _ e refl) λ t j st. define_sound i j t st
      go (Some k.Function) e = bind (take_at (is_kind k.Function) i _ e refl) λ t j st. function_definition_sound i j t st
      go _ e = refused

  -- definitions alone
  OnlyModule : Input → List Statement → List Definition → Input → Type 0
  OnlyModule i ss ds j = (ss ≡ []) × IsModule N i ds j

  module_from_sound : (n : ℕ) (found : Found) (i : Input) → Meets (rule.module_from inner n found i) (FromFound found (OnlyModule i))
  unfolding rule.module_from OnlyModule
  module_from_sound zero found i = refused
  module_from_sound (suc n) found i = either_at _ _ (λ e. done (found_end found i (refl, IsModule.end i (no_token (kind i) e))))
      (λ e. bind (module_item_sound i) λ d j h. bind (eat_sound k.Semicolon j) λ b l f.
      weaker (module_from_sound n (with_definition found d) l) (found_definition found d (λ ss ds v a. (a.0, IsModule.definition i j l v d ds h (plain_end N b j l f) a.1))))

  -- What is read of a module file, stands there.
  pub module_file_sound : (i : Input) → Meets (rule.module_file inner i) (λ found j. (found.statements ≡ []) × IsModule N i found.definitions j)
  unfolding rule.module_file OnlyModule
  module_file_sound i = weaker (module_from_sound (turns i) nothing_yet i) go
    where
      go : (f : Found) (j : Input) → FromFound nothing_yet (OnlyModule i) f j → (f.statements ≡ []) × IsModule N i f.definitions j
      go f j (FromFound.from ss ds _ h) = h
