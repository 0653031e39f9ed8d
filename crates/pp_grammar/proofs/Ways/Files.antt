-- Behind what was read of a file there is a way.
use Rattle.std.proofs.Common.{◌≡◌, ℕ, zero, suc, Bool, true, false, not, List, [], ◌∷◌, ◌++◌, length, Option, Some, None, Ok, Err, refl, sym, ap, subst, ◌∙◌, add-one, arith}
use Rattle.pp_lexer.specs.declared.kind.Kind.{Kind}
use Rattle.pp_lexer.specs.declared.kind.Kind.TheVariants as k
use Rattle.pp_tree.specs.declared.expr.Expr.{Expr}
use Rattle.pp_tree.specs.declared.param.Param.{Param}
use Rattle.pp_tree.specs.declared.definition.Name.{Name}
use Rattle.pp_tree.specs.declared.definition.NodeName.{NodeName}
use Rattle.pp_tree.specs.declared.definition.Definition.{Definition}
use Rattle.pp_tree.specs.declared.resource.ResourceForm.TheVariants as resource_form
use Rattle.pp_tree.specs.Building.{expr_at, node_name as node_name_at}
use Rattle.pp_parser.specs.declared.item.Item.{Item}
use Rattle.pp_parser.specs.declared.item.Item.TheVariants as item
use Rattle.pp_grammar.specs.Keys.{doubled_key}
use Rattle.pp_grammar.proofs.Reader.Input.{Input, Outcome, Parser, and_then, ◌>>=◌, ◌>>◌, pure, kind, take, expect, eat, turns}
use Rattle.pp_grammar.proofs.Reader.Inner.{Inner}
use Rattle.pp_grammar.specs.Kinds.{is_kind, same_kind, is_name}
use Rattle.pp_grammar.proofs.Reader.Levels.{within}
use Rattle.pp_tree.specs.declared.expr.Form.TheVariants as form
use Rattle.pp_grammar.proofs.Reader.Statements.{name_of, taken_name, resource, chain_from, statement_rule}
use Rattle.pp_parser.specs.declared.found.Found.{Found}
use Rattle.pp_grammar.proofs.Reader.Definitions.{nothing_yet, with_definition, found_with, pending_of, taken_text, name_rule, params, params_by, optional_params, inherits_by, optional_inherits, class, define, type_from_by, type_from, return_type, return_by, optional_return, function_definition, plain_by, plain_text, node_name_by, node_name_rule, node_names_from, node_names, node, read_of, class_item_by, class_item, item_by, item_rule, ends_file, manifest_from, main_manifest, module_item_by, module_item, module_from, module_file}
use Rattle.pp_grammar.proofs.Sound.Steps as sound
use Rattle.pp_grammar.proofs.Local.Steps.{Falls, any, one, falls_less, falls_then, first_local, loose_local, expect_local}
use Rattle.pp_grammar.proofs.Local.Lists.{same_then, same_behind, behind_item}
use Rattle.pp_grammar.proofs.Local.Inner.{param_in_local}
use Rattle.pp_grammar.proofs.Local.Files.{define_local, node_names_turns, node_name_rule_local, item_rule_local, module_item_local}
use Rattle.pp_grammar.proofs.Ways.Steps.{Holds, Fresh, Rule, everything, first, first_any, after, pure_goes, refuse_holds, take_goes, fresh_first}
use Rattle.pp_grammar.proofs.Ways.NextToken.{Branch, map_goes, peek_some, peek_none, here_some, leaves, taking, same_holds, same_rule, expect_goes, expect_any_goes, opening_goes, pure_fresh, same_fresh, eat_if, eat_none_fresh}
use Rattle.pp_grammar.proofs.Ways.Lists.{always}
use Rattle.pp_grammar.proofs.Ways.Inner.{InnerGoes, here_too, until}
use Rattle.pp_grammar.proofs.Ways.Expressions.{block_goes, access_goes}
use Rattle.pp_grammar.proofs.Ways.FunctionBodies.{function_block_goes}
use Rattle.pp_grammar.proofs.Ways.Resources.{ends_statement, taken_name_goes, resource_goes}
use Rattle.pp_grammar.proofs.Ways.Statements.{pending_ends, chain_from_goes, statement_rule_goes, pending_goes}
use Rattle.pp_grammar.proofs.Ways.Turns.{loop, on, on_goes}
use Rattle.pp_grammar.proofs.Ways.Blocks.{Fits, chosen_same, taken_up, taken_up_is, taken_up_none, taken_up_falls, statement_fits, chain_none, same_reads, same_behind_read}

-- what may stand before a definition's block
abbrev opens_block : Option Kind → Bool
opens_block (Some k.OpenBrace) = true
opens_block _ = false

abbrev behind_params : Option Kind → Bool
behind_params (Some k.OpenBrace) = true
behind_params (Some k.Inherits) = true
behind_params _ = false

no_params : (inner : Inner) (next : Option Kind) → behind_params next ≡ true → params_by inner next ≡ pure []
no_params inner (Some k.OpenParen) e = absurd cc
no_params inner _ e = refl

no_parent : (inner : Inner) (next : Option Kind) → opens_block next ≡ true → inherits_by inner next ≡ pure None
no_parent inner (Some k.Inherits) e = absurd cc
no_parent inner _ e = refl

no_arguments : (inner : Inner) (type : Name) (next : Option Kind) → opens_block next ≡ true → type_from_by inner type next ≡ pure (expr_at type.at (form.Type type.text))
no_arguments inner type (Some k.TightBracket) e = absurd cc
no_arguments inner type _ e = refl

no_return : (inner : Inner) (next : Option Kind) → opens_block next ≡ true → return_by inner next ≡ pure None
no_return inner (Some k.Returns) e = absurd cc
no_return inner _ e = refl

block_params : (next : Option Kind) → opens_block next ≡ true → behind_params next ≡ true
block_params (Some k.OpenBrace) e = refl
block_params _ e = absurd cc

no_name : (next : Option Kind) → opens_block next ≡ true → not (is_kind k.Comma next) ≡ true
unfolding is_kind same_kind
no_name (Some k.OpenBrace) e = refl
no_name _ e = absurd cc

-- the names of nodes, however many tokens are left
abbrev names_on : Inner → List NodeName → Parser (List NodeName)
names_on inner found i = node_names_from inner (turns i) found i

names_is : (inner : Inner) (falls : (i : Input) → Falls any i (node_name_rule inner i)) (found : List NodeName) (i : Input) → (node_name_rule inner >>= behind_item k.Comma found (names_on inner)) i ≡ names_on inner found i
unfolding node_names_from
names_is inner falls found i =
    let n = length i.left in
    same_then any i (node_name_rule inner i) (behind_item k.Comma found (names_on inner)) (behind_item k.Comma found (node_names_from inner n)) (falls i)
    (λ x j l. same_behind k.Comma found x (names_on inner) (node_names_from inner n) j (λ v t. node_names_turns inner falls (turns v) n (found ++ x ∷ []) v (omega arith) (omega arith)))
    ∙ sym (ap (λ (t : ℕ). node_names_from inner t found i) (add-one n))

name_falls : (m : ℕ) (i : Input) → Falls any i (node_name_rule (within m) i)
name_falls m = (node_name_rule_local (here_too m) {d = true}).falls

-- ---- items one behind the other

abbrev ends_item : Item → Option Kind → Bool
ends_item x next = pending_ends (pending_of x) next

-- the end of a file
abbrev pub file_ends : Option Kind → Bool
file_ends None = true
file_ends _ = false

pub file_statement : (next : Option Kind) → file_ends next ≡ true → ends_statement next ≡ true
file_statement None e = refl
file_statement (Some x) e = absurd cc

pub file_apart : (next : Option Kind) → file_ends next ≡ true → not (is_kind k.Semicolon next) ≡ true
unfolding is_kind
file_apart None e = refl
file_apart (Some x) e = absurd cc

-- a statement whose name was taken already
abbrev taken_item : Inner → Name → Parser Item
taken_item inner name = taken_up inner name >>= (λ read. pure (read_of inner read))

-- what is behind a reader, whatever it gave
behind_any : {A B : Type 0} {Q : B → Input → Type 0} (o : Outcome A) (f : A → Parser B) → ((a : A) (j : Input) → sound.Meets (f a j) Q) → sound.Meets (and_then o f) Q
behind_any (Ok p) f h = h p.0 p.1
behind_any (Err e) f h = sound.refused

pub none_fits : (p : Option Name) (j : Input) → p ≡ None → Fits p j
none_fits p j e = subst (λ (x : Option Name). Fits x j) (sym e) tt

taken_item_none : (inner : Inner) (name : Name) (i : Input) → sound.Meets (taken_item inner name i) (λ x j. pending_of x ≡ None)
taken_item_none inner name i = sound.bind {o = taken_up inner name i} {f = λ read. pure (read_of inner read)} (taken_up_none inner name i) (λ read j e. sound.done e)

class_fits : (inner : Inner) (word : Name) (next : Option Kind) (j : Input) → sound.Meets (class_item_by inner word next j) (λ x l. Fits (pending_of x) l)
class_fits inner word (Some k.OpenBrace) j = behind_any (resource inner resource_form.Plain word.text word.at j) _ (λ first l. sound.bind {o = chain_from inner word.at first l} {f = λ read. pure (read_of inner read)} (chain_none inner word.at first l) (λ read w e. sound.done (none_fits read.1 w e)))
class_fits inner word _ j = behind_any (class inner word.at j) (λ d. pure (item.Definition d)) (λ d l. sound.done tt)

item_by_fits : (inner : Inner) → inner.doubled_key ≡ doubled_key → (next : Option Kind) (i : Input) → sound.Meets (item_by inner next i) (λ x j. Fits (pending_of x) j)
unfolding class_item
item_by_fits inner keys (Some k.Class) i = behind_any (taken_name i) (class_item inner) (λ word j. class_fits inner word (kind j) j)
item_by_fits inner keys (Some k.Define) i = behind_any (take i) (λ t. define inner t.line >>= (λ d. pure (item.Definition d))) (λ t j. behind_any (define inner t.line j) (λ d. pure (item.Definition d)) (λ d l. sound.done tt))
item_by_fits inner keys (Some k.Function) i = behind_any (take i) (λ t. function_definition inner t.line >>= (λ d. pure (item.Definition d))) (λ t j. behind_any (function_definition inner t.line j) (λ d. pure (item.Definition d)) (λ d l. sound.done tt))
item_by_fits inner keys (Some k.Node) i = behind_any (take i) (λ t. node inner t.line >>= (λ d. pure (item.Definition d))) (λ t j. behind_any (node inner t.line j) (λ d. pure (item.Definition d)) (λ d l. sound.done tt))
item_by_fits inner keys _ i = sound.bind {o = statement_rule inner None i} {f = λ read. pure (read_of inner read)} (statement_fits inner keys i) (λ read j h. sound.done h)

item_fits : (inner : Inner) → inner.doubled_key ≡ doubled_key → (i : Input) → sound.Meets (item_rule inner None i) (λ x j. Fits (pending_of x) j)
unfolding item_rule
item_fits inner keys i = item_by_fits inner keys (kind i) i

pub file_end : (next : Option Kind) → ends_file None next ≡ file_ends next
file_end None = refl
file_end (Some x) = refl

abbrev items : Inner → ℕ → Found → Option Name → Parser Found
items inner = loop file_ends found_with pending_of (item_rule inner None) (taken_item inner)

manifest_as : (inner : Inner) → inner.doubled_key ≡ doubled_key → (n : ℕ) (found : Found) (p : Option Name) (i : Input) → Fits p i → manifest_from inner n found p i ≡ items inner n found p i
unfolding manifest_from item_rule
manifest_as inner keys zero found p i h = refl
manifest_as inner keys (suc n) found None i h =
    chosen_same (ends_file None (kind i)) (file_ends (kind i)) (pure found) (item_rule inner None >>= (λ read. eat k.Semicolon >> manifest_from inner n (found_with found read) (pending_of read))) (item_rule inner None >>= (λ read. eat k.Semicolon >> items inner n (found_with found read) (pending_of read))) i (file_end (kind i))
    (same_reads (item_rule inner None i) (λ read. eat k.Semicolon >> manifest_from inner n (found_with found read) (pending_of read)) (λ read. eat k.Semicolon >> items inner n (found_with found read) (pending_of read))
    (λ read j e. same_behind_read (pending_of read) j ((item_fits inner keys i).holds read j e) _ _ (λ l w. manifest_as inner keys n (found_with found read) (pending_of read) l w)))
manifest_as inner keys (suc n) found (Some name) i h =
    ap (λ (o : Outcome _). and_then (and_then o (λ read. pure (read_of inner read))) (λ read. eat k.Semicolon >> manifest_from inner n (found_with found read) (pending_of read))) (taken_up_is inner name i h)
    ∙ same_reads (taken_item inner name i) (λ read. eat k.Semicolon >> manifest_from inner n (found_with found read) (pending_of read)) (λ read. eat k.Semicolon >> items inner n (found_with found read) (pending_of read))
    (λ read j e. same_behind_read (pending_of read) j (none_fits (pending_of read) j ((taken_item_none inner name i).holds read j e)) _ _ (λ l w. manifest_as inner keys n (found_with found read) (pending_of read) l w))

manifest_is : (inner : Inner) → inner.doubled_key ≡ doubled_key → (i : Input) → on file_ends found_with pending_of (item_rule inner None) (taken_item inner) nothing_yet None i ≡ main_manifest inner i
unfolding main_manifest
manifest_is inner keys i = sym (manifest_as inner keys (turns i) nothing_yet None i tt)

item_falls : (m : ℕ) (i : Input) → Falls one i (item_rule (within m) None i)
item_falls m i = falls_less _ one i (item_rule (within m) None i) (λ x. omega arith) ((item_rule_local (here_too m) {d = true} None).falls i)

taken_item_falls : (m : ℕ) (name : Name) (i : Input) → Falls one i (taken_item (within m) name i)
taken_item_falls m name i = falls_then one 1 any one i (taken_up (within m) name i) (λ read. pure (read_of (within m) read)) (taken_up_falls m name i) (λ x. omega arith) (λ x. omega arith) (λ x j. omega arith)

-- In a module file no name is taken. This stands where one would be.
abbrev never : Inner → Name → Parser Definition
never inner name = expect k.OpenBrace >> define inner name.at

module_as : (inner : Inner) (n : ℕ) (found : Found) (i : Input) → module_from inner n found i ≡ loop file_ends with_definition (λ _. None) (module_item inner) (never inner) n found None i
unfolding module_from
module_as inner zero found i = refl
module_as inner (suc n) found i =
    chosen_same (ends_file None (kind i)) (file_ends (kind i)) (pure found) (module_item inner >>= (λ d. eat k.Semicolon >> module_from inner n (with_definition found d))) (module_item inner >>= (λ d. eat k.Semicolon >> loop file_ends with_definition (λ _. None) (module_item inner) (never inner) n (with_definition found d) None)) i (file_end (kind i))
    (same_reads (module_item inner i) (λ d. eat k.Semicolon >> module_from inner n (with_definition found d)) (λ d. eat k.Semicolon >> loop file_ends with_definition (λ _. None) (module_item inner) (never inner) n (with_definition found d) None)
    (λ d j e. same_behind_read None j tt _ _ (λ l w. module_as inner n (with_definition found d) l)))

module_is : (inner : Inner) (i : Input) → on file_ends with_definition (λ _. None) (module_item inner) (never inner) nothing_yet None i ≡ module_file inner i
unfolding module_file
module_is inner i = sym (module_as inner (turns i) nothing_yet i)

module_item_falls : (m : ℕ) (i : Input) → Falls one i (module_item (within m) i)
module_item_falls m = (module_item_local (here_too m) {d = true}).falls

never_falls : (m : ℕ) (name : Name) (i : Input) → Falls one i (never (within m) name i)
never_falls m name = (first_local (expect_local {deepest = true} k.OpenBrace) (λ _. loose_local (define_local (here_too m) name.at))).falls

-- the next token as a text
taken_text_goes : {n : ℕ} {k : Kind} {E : List ℕ → Option Kind → Bool} → Rule n (Some k) E taken_text (λ m. taken_text)
taken_text_goes = first_any take_goes (λ t. pure_goes t.text)

module _ {n : ℕ} (I : InnerGoes n) where
  name_rule_goes : {E : Name → Option Kind → Bool} → Rule n (Some k.Name) E (name_rule (within n)) (λ m. name_rule (within m))
  unfolding name_rule
  name_rule_goes = first_any (expect_any_goes is_name k.Name refl) (λ _. pure_goes _)

  params_goes : {E : List (Param Expr) → Option Kind → Bool} → Rule n (Some k.OpenParen) E (params (within n)) (λ m. params (within m))
  unfolding params is_kind same_kind
  params_goes = first_any (opening_goes k.OpenParen refl) (λ _. after (until k.CloseParen k.Comma _ (λ m. (param_in_local (here_too m) false).falls) refl refl (I.param false)) (λ _. first_any (expect_goes k.CloseParen refl) (λ _. pure_goes _)) (λ _. refl))

  params_by_goes : (next : Option Kind) → Branch n (always behind_params) (pure []) (λ m. pure []) (params_by (within n) next) (λ m. params_by (within m) next)
  params_by_goes (Some k.OpenParen) = taking params_goes
  params_by_goes _ = leaves refl refl

  optional_params_goes : Rule n None (always behind_params) (optional_params (within n)) (λ m. optional_params (within m))
  unfolding optional_params
  optional_params_goes = peek_none (pure_goes []) params_by_goes (λ _ next e m. no_params (within m) next e)

  inherits_by_goes : (next : Option Kind) → Branch n (always opens_block) (pure None) (λ m. pure None) (inherits_by (within n) next) (λ m. inherits_by (within m) next)
  inherits_by_goes (Some k.Inherits) = taking (first_any (take_goes {k = k.Inherits}) (λ _. first_any name_rule_goes (λ _. pure_goes _)))
  inherits_by_goes _ = leaves refl refl

  optional_inherits_goes : Rule n None (always opens_block) (optional_inherits (within n)) (λ m. optional_inherits (within m))
  unfolding optional_inherits
  optional_inherits_goes = peek_none (pure_goes None) inherits_by_goes (λ _ next e m. no_parent (within m) next e)

  class_goes : {E : Definition → Option Kind → Bool} (at : ℕ) → Rule n (Some k.Name) E (class (within n) at) (λ m. class (within m) at)
  unfolding class
  class_goes at = first_any name_rule_goes (λ _. after optional_params_goes (λ _. after optional_inherits_goes (λ _. first_any (block_goes I) (λ _. pure_goes _)) (λ _. refl)) (λ _. refl))

  define_goes : {E : Definition → Option Kind → Bool} (at : ℕ) → Rule n (Some k.Name) E (define (within n) at) (λ m. define (within m) at)
  unfolding define
  define_goes at = first_any name_rule_goes (λ _. after optional_params_goes (λ _. first_any (block_goes I) (λ _. pure_goes _)) (λ _. refl))

  -- ---- functions

  type_from_by_goes : (type : Name) (next : Option Kind) → Branch n (always opens_block) (pure (expr_at type.at (form.Type type.text))) (λ m. pure (expr_at type.at (form.Type type.text))) (type_from_by (within n) type next) (λ m. type_from_by (within m) type next)
  type_from_by_goes type (Some k.TightBracket) = taking (first_any (access_goes I) (λ _. pure_goes _))
  type_from_by_goes type _ = leaves refl refl

  type_from_goes : (type : Name) → Rule n None (always opens_block) (type_from (within n) type) (λ m. type_from (within m) type)
  unfolding type_from
  type_from_goes type = peek_none (pure_goes _) (type_from_by_goes type) (λ _ next e m. no_arguments (within m) type next e)

  return_type_goes : Rule n (Some k.Type) (always opens_block) (return_type (within n)) (λ m. return_type (within m))
  unfolding return_type is_kind same_kind
  return_type_goes = first_any (expect_goes k.Type refl) (λ t. type_from_goes (name_of t))

  return_by_goes : (next : Option Kind) → Branch n (always opens_block) (pure None) (λ m. pure None) (return_by (within n) next) (λ m. return_by (within m) next)
  return_by_goes (Some k.Returns) = taking (first_any (take_goes {k = k.Returns}) (λ _. first return_type_goes (λ _. pure_goes _) (λ _ _ _ e. e)))
  return_by_goes _ = leaves refl refl

  optional_return_goes : Rule n None (always opens_block) (optional_return (within n)) (λ m. optional_return (within m))
  unfolding optional_return
  optional_return_goes = peek_none (pure_goes None) return_by_goes (λ _ next e m. no_return (within m) next e)

  function_definition_goes : {E : Definition → Option Kind → Bool} (at : ℕ) → Rule n (Some k.Name) E (function_definition (within n) at) (λ m. function_definition (within m) at)
  unfolding function_definition
  function_definition_goes at = first_any name_rule_goes (λ _. after optional_params_goes (λ _. after optional_return_goes (λ _. first_any (function_block_goes I) (λ _. pure_goes _)) (λ _. refl)) (λ _. refl))

  -- ---- nodes

  plain_by_holds : {E : List ℕ → Option Kind → Bool} (next : Option Kind) → Holds n 1 E (plain_by (within n) next) (λ m. plain_by (within m) next)
  unfolding is_kind same_kind
  plain_by_holds (Some k.Piece) = (first_any (take_goes {k = k.Piece}) (λ _. first_any (expect_goes k.TextEnd refl) (λ _. pure_goes _))).holds
  plain_by_holds _ = (first_any (expect_goes k.TextEnd refl) (λ _. pure_goes _)).holds

  plain_text_goes : {E : List ℕ → Option Kind → Bool} → Rule n (Some k.TextBegin) E (plain_text (within n)) (λ m. plain_text (within m))
  unfolding plain_text is_kind same_kind
  plain_text_goes = first_any (expect_goes k.TextBegin refl) (λ _. peek_some plain_by_holds (first_any (expect_goes {n = n} k.TextEnd refl) (λ _. pure_goes _)).fresh)

  node_name_by_holds : {E : Option (List ℕ) → Option Kind → Bool} (next : Option Kind) → Holds n 1 E (node_name_by (within n) next) (λ m. node_name_by (within m) next)
  node_name_by_holds (Some k.Text) = (first_any (taken_text_goes {k = k.Text}) (λ _. pure_goes _)).holds
  node_name_by_holds (Some k.TextBegin) = (first_any plain_text_goes (λ _. pure_goes _)).holds
  node_name_by_holds (Some k.Name) = (first_any (taken_text_goes {k = k.Name}) (λ _. pure_goes _)).holds
  node_name_by_holds (Some k.StatementFunction) = (first_any (taken_text_goes {k = k.Name}) (λ _. pure_goes _)).holds
  node_name_by_holds (Some k.Default) = (first_any (take_goes {k = k.Default}) (λ _. pure_goes _)).holds
  node_name_by_holds _ = refuse_holds

  node_name_rule_goes : {E : NodeName → Option Kind → Bool} → Rule n (Some k.Name) E (node_name_rule (within n)) (λ m. node_name_rule (within m))
  unfolding node_name_rule
  node_name_rule_goes = here_some (λ at. first_any (peek_some node_name_by_holds (first_any (taken_text_goes {n = n} {k = k.Name}) (λ text. pure_goes (Some text))).fresh) (λ name. pure_goes (node_name_at name at)))

  names_fresh : (found : List NodeName) → Fresh (Some k.Name) (always opens_block) (λ m. names_on (within m) found)
  names_fresh found = same_fresh (λ m i. names_is (within m) (name_falls m) found i)
      (fresh_first {E = everything} node_name_rule_goes.fresh (λ x. eat_none_fresh k.Comma (λ m. names_on (within m) (found ++ x ∷ [])) (λ _ next e. no_name next e) (pure_fresh (found ++ x ∷ []))) (λ _ _ _ _. refl))

  names_from_holds : (most : ℕ) (found : List NodeName) → Holds n 1 (always opens_block) (node_names_from (within n) most found) (λ m. names_on (within m) found)
  unfolding node_names_from
  names_from_holds zero found = refuse_holds
  names_from_holds (suc most) found = same_holds (λ i. refl) (λ m i. names_is (within m) (name_falls m) found i)
      (first_any node_name_rule_goes (λ x. eat_if k.Comma (λ _ next e. no_name next e) (record { holds = names_from_holds most (found ++ x ∷ []); fresh = names_fresh (found ++ x ∷ []) }) (pure_goes (found ++ x ∷ [])))).holds

  node_names_goes : Rule n (Some k.Name) (always opens_block) (node_names (within n)) (λ m. node_names (within m))
  unfolding node_names
  node_names_goes = record { holds = record { falls = λ i. (names_from_holds (turns i) []).falls i; goes = λ i. (names_from_holds (turns i) []).goes i }; fresh = names_fresh [] }

  node_goes : {E : Definition → Option Kind → Bool} (at : ℕ) → Rule n (Some k.Name) E (node (within n) at) (λ m. node (within m) at)
  unfolding node
  node_goes at = first node_names_goes (λ _. first_any (block_goes I) (λ _. pure_goes _)) (λ _. refl)

  -- ---- items

  class_item_by_holds : (word : Name) (next : Option Kind) → Holds n 1 ends_item (class_item_by (within n) word next) (λ m. class_item_by (within m) word next)
  class_item_by_holds word (Some k.OpenBrace) = (first_any (resource_goes I resource_form.Plain word.text word.at) (λ first. map_goes (read_of (within n)) (chain_from_goes I word.at first) (λ _ next e. e))).holds
  class_item_by_holds word _ = (first_any (class_goes word.at) (λ _. pure_goes _)).holds

  class_item_goes : (word : Name) → Rule n (Some k.Name) ends_item (class_item (within n) word) (λ m. class_item (within m) word)
  unfolding class_item
  class_item_goes word = peek_some (class_item_by_holds word) (first_any (class_goes word.at) (λ d. pure_goes (item.Definition d))).fresh

  item_by_holds : (next : Option Kind) → Holds n 1 ends_item (item_by (within n) next) (λ m. item_by (within m) next)
  item_by_holds (Some k.Class) = (first_any (taken_name_goes {k = k.Class}) class_item_goes).holds
  item_by_holds (Some k.Define) = (first_any (take_goes {k = k.Define}) (λ t. first_any (define_goes t.line) (λ _. pure_goes _))).holds
  item_by_holds (Some k.Function) = (first_any (take_goes {k = k.Function}) (λ t. first_any (function_definition_goes t.line) (λ _. pure_goes _))).holds
  item_by_holds (Some k.Node) = (first_any (take_goes {k = k.Node}) (λ t. first_any (node_goes t.line) (λ _. pure_goes _))).holds
  item_by_holds _ = (map_goes (read_of (within n)) (statement_rule_goes I) (λ _ next e. e)).holds

  item_rule_goes : Rule n (Some k.Name) ends_item (item_rule (within n) None) (λ m. item_rule (within m) None)
  unfolding item_rule
  item_rule_goes = peek_some item_by_holds (map_goes (read_of (within n)) (statement_rule_goes I) (λ _ next e. e)).fresh

  taken_item_goes : (name : Name) → Rule n (Some k.OpenBrace) ends_item (taken_item (within n) name) (λ m. taken_item (within m) name)
  taken_item_goes name = map_goes (read_of (within n)) (pending_goes I name) (λ _ next e. e)

  module_item_by_holds : {E : Definition → Option Kind → Bool} (next : Option Kind) → Holds n 1 E (module_item_by (within n) next) (λ m. module_item_by (within m) next)
  module_item_by_holds (Some k.Class) = (first_any (take_goes {k = k.Class}) (λ t. class_goes t.line)).holds
  module_item_by_holds (Some k.Define) = (first_any (take_goes {k = k.Define}) (λ t. define_goes t.line)).holds
  module_item_by_holds (Some k.Function) = (first_any (take_goes {k = k.Function}) (λ t. function_definition_goes t.line)).holds
  module_item_by_holds _ = refuse_holds

  module_item_goes : {E : Definition → Option Kind → Bool} → Rule n (Some k.Class) E (module_item (within n)) (λ m. module_item (within m))
  unfolding module_item
  module_item_goes = peek_some module_item_by_holds (first_any (take_goes {n = n} {k = k.Class}) (λ t. class_goes t.line)).fresh

  never_goes : {E : Definition → Option Kind → Bool} (name : Name) → Rule n (Some k.OpenBrace) E (never (within n) name) (λ m. never (within m) name)
  unfolding is_kind same_kind
  never_goes name = first_any (expect_goes k.OpenBrace refl) (λ _. define_goes name.at)

  -- ---- files

  pub main_manifest_goes : Rule n None (always file_ends) (main_manifest (within n)) (λ m. main_manifest (within m))
  main_manifest_goes = same_rule (manifest_is (within n) refl) (λ m i. manifest_is (within m) refl i)
      (on_goes file_ends found_with pending_of (λ m. item_rule (within m) None) (λ m. taken_item (within m)) item_falls taken_item_falls (λ m name i r e. (taken_item_none (within m) name i).holds r.0 r.1 e) file_statement file_apart item_rule_goes taken_item_goes nothing_yet)

  pub module_file_goes : Rule n None (always file_ends) (module_file (within n)) (λ m. module_file (within m))
  module_file_goes = same_rule (module_is (within n)) (λ m i. module_is (within m) i)
      (on_goes file_ends with_definition (λ _. None) (λ m. module_item (within m)) (λ m. never (within m)) module_item_falls never_falls (λ m name i r e. refl) file_statement file_apart module_item_goes never_goes nothing_yet)
