-- What stands at the top of a file looks at the next token alone, and so do whole files.
use Rattle.std.proofs.Common.{◌≡◌, ℕ, zero, suc, ◌+◌, ◌<◌, Bool, false, List, [], ◌∷◌, ◌++◌, length, Option, Some, None, refl, arith}
use Rattle.pp_lexer.specs.declared.kind.Kind.{Kind}
use Rattle.pp_lexer.specs.declared.kind.Kind.TheVariants as k
use Rattle.pp_tree.specs.declared.definition.Name.{Name}
use Rattle.pp_tree.specs.declared.definition.NodeName.{NodeName}
use Rattle.pp_tree.specs.declared.definition.Definition.{Definition}
use Rattle.pp_tree.specs.declared.resource.ResourceForm.TheVariants as resource_form
use Rattle.pp_tree.specs.Building.{node_name as node_name_at}
use Rattle.pp_parser.specs.declared.item.Item.{Item}
use Rattle.pp_parser.specs.declared.item.Item.TheVariants as item
use Rattle.pp_grammar.proofs.Reader.Input.{Input, Parser, ◌>>=◌, ◌>>◌, pure, kind, eat}
use Rattle.pp_grammar.proofs.Reader.Inner.{Inner}
use Rattle.pp_parser.specs.declared.found.Found.{Found}
use Rattle.pp_grammar.proofs.Reader.Definitions.{nothing_yet, with_definition, found_with, pending_of, taken_text, name_rule, params, params_by, optional_params, inherits_by, optional_inherits, class, define, type_from_by, type_from, return_type, return_by, optional_return, function_definition, plain_by, plain_text, node_name_by, node_name_rule, node_names_from, node_names, node, read_of, class_item_by, class_item, item_by, item_rule, ends_file, manifest_from, main_manifest, module_item_by, module_item, module_from, module_file}
use Rattle.pp_grammar.proofs.Local.Steps.{Cut, IsLocal, Falls, any, one, if_true, bind_by, bind_local, first_local, loose_local, map_by, pure_local, refuse_local, peek_local, here_local, if_local, take_local, expect_local, expect_any_local, eat_local, eat_falls}
use Rattle.pp_grammar.proofs.Local.Lists.{same_then, same_if, same_behind, behind_item, turns_local, separated_local}
use Rattle.pp_grammar.proofs.Local.Inner.{InnerLocal, opening_local, param_in_local}
use Rattle.pp_grammar.proofs.Local.Expressions.{block_local, access_local}
use Rattle.pp_grammar.proofs.Local.FunctionBodies.{function_block_local}
use Rattle.pp_grammar.proofs.Local.Statements.{pending_count, spent, spent_is, taken_name_local, resource_local, chain_from_local, statement_rule_local}

abbrev pub item_stated : Option Name → Item → ℕ
item_stated pending x = spent pending (pending_of x)

-- ---- how many turns the lists have makes no difference

pub node_names_turns : (inner : Inner) (falls : (i : Input) → Falls any i (node_name_rule inner i)) (n m : ℕ) (found : List NodeName) (i : Input) → length i.left < n → length i.left < m → node_names_from inner n found i ≡ node_names_from inner m found i
unfolding node_names_from
node_names_turns inner falls zero m found i h l = absurd (omega arith)
node_names_turns inner falls (suc n) zero found i h l = absurd (omega arith)
node_names_turns inner falls (suc n) (suc m) found i h l =
    same_then any i (node_name_rule inner i) (behind_item k.Comma found (node_names_from inner n)) (behind_item k.Comma found (node_names_from inner m)) (falls i)
    (λ x j a. same_behind k.Comma found x (node_names_from inner n) (node_names_from inner m) j (λ w t. node_names_turns inner falls n m (found ++ x ∷ []) w (omega arith) (omega arith)))

pub manifest_turns : (inner : Inner) (falls : (pending : Option Name) (i : Input) → Falls (item_stated pending) i (item_rule inner pending i)) (n m : ℕ) (found : Found) (pending : Option Name) (i : Input)
    → length i.left + pending_count pending < n → length i.left + pending_count pending < m → manifest_from inner n found pending i ≡ manifest_from inner m found pending i
unfolding manifest_from
manifest_turns inner falls zero m found pending i h l = absurd (omega arith)
manifest_turns inner falls (suc n) zero found pending i h l = absurd (omega arith)
manifest_turns inner falls (suc n) (suc m) found pending i h l =
    let next = λ (turns : ℕ) (read : Item). eat k.Semicolon >> manifest_from inner turns (found_with found read) (pending_of read) in
    same_if (ends_file pending (kind i)) (pure found) (pure found) (item_rule inner pending >>= next n) (item_rule inner pending >>= next m) i
    (λ e. refl)
    (λ e. same_then (item_stated pending) i (item_rule inner pending i) (next n) (next m) (falls pending i)
    (λ read j a. same_then if_true j (eat k.Semicolon j) (λ _. manifest_from inner n (found_with found read) (pending_of read)) (λ _. manifest_from inner m (found_with found read) (pending_of read)) (eat_falls k.Semicolon j)
    (λ eaten w t. let s = spent_is pending (pending_of read) in manifest_turns inner falls n m (found_with found read) (pending_of read) w (omega arith) (omega arith))))

pub module_turns : (inner : Inner) (falls : (i : Input) → Falls one i (module_item inner i)) (n m : ℕ) (found : Found) (i : Input) → length i.left < n → length i.left < m → module_from inner n found i ≡ module_from inner m found i
unfolding module_from
module_turns inner falls zero m found i h l = absurd (omega arith)
module_turns inner falls (suc n) zero found i h l = absurd (omega arith)
module_turns inner falls (suc n) (suc m) found i h l =
    let next = λ (turns : ℕ) (d : Definition). eat k.Semicolon >> module_from inner turns (with_definition found d) in
    same_if (ends_file None (kind i)) (pure found) (pure found) (module_item inner >>= next n) (module_item inner >>= next m) i
    (λ e. refl)
    (λ e. same_then one i (module_item inner i) (next n) (next m) (falls i)
    (λ d j a. same_then if_true j (eat k.Semicolon j) (λ _. module_from inner n (with_definition found d)) (λ _. module_from inner m (with_definition found d)) (eat_falls k.Semicolon j)
    (λ eaten w t. module_turns inner falls n m (with_definition found d) w (omega arith) (omega arith))))

pub taken_text_local : {c : Cut} {d : Bool} → IsLocal c d one taken_text taken_text
taken_text_local = first_local take_local (λ _. pure_local _)

module _ {c : Cut} {a b : Inner} (I : InnerLocal c a b) where
  pub name_rule_local : {d : Bool} → IsLocal c d one (name_rule a) (name_rule b)
  unfolding name_rule
  name_rule_local = first_local (expect_any_local _) (λ _. pure_local _)

  pub params_local : {d : Bool} → IsLocal c d one (params a) (params b)
  unfolding params
  params_local = opening_local I k.OpenParen (λ _. bind_local (separated_local _ _ (param_in_local I false)) (λ _. bind_local (expect_local _) (λ _. pure_local _)))

  pub params_by_local : {d : Bool} (next : Option Kind) → IsLocal c d any (params_by a next) (params_by b next)
  params_by_local (Some k.OpenParen) = loose_local params_local
  params_by_local _ = pure_local _

  pub optional_params_local : {d : Bool} → IsLocal c d any (optional_params a) (optional_params b)
  unfolding optional_params
  optional_params_local = peek_local params_by_local

  pub inherits_by_local : {d : Bool} (next : Option Kind) → IsLocal c d any (inherits_by a next) (inherits_by b next)
  inherits_by_local (Some k.Inherits) = bind_local take_local (λ _. bind_local name_rule_local (λ _. pure_local _))
  inherits_by_local _ = pure_local _

  pub optional_inherits_local : {d : Bool} → IsLocal c d any (optional_inherits a) (optional_inherits b)
  unfolding optional_inherits
  optional_inherits_local = peek_local inherits_by_local

  pub class_local : {d : Bool} (at : ℕ) → IsLocal c d one (class a at) (class b at)
  unfolding class
  class_local at = first_local name_rule_local (λ _. bind_local optional_params_local (λ _. bind_local optional_inherits_local (λ _. bind_local (block_local I) (λ _. pure_local _))))

  pub define_local : {d : Bool} (at : ℕ) → IsLocal c d one (define a at) (define b at)
  unfolding define
  define_local at = first_local name_rule_local (λ _. bind_local optional_params_local (λ _. bind_local (block_local I) (λ _. pure_local _)))

  -- ---- functions

  type_from_by_local : {d : Bool} (type : Name) (next : Option Kind) → IsLocal c d any (type_from_by a type next) (type_from_by b type next)
  type_from_by_local type (Some k.TightBracket) = bind_local (access_local I) (λ _. pure_local _)
  type_from_by_local type _ = pure_local _

  pub type_from_local : {d : Bool} (type : Name) → IsLocal c d any (type_from a type) (type_from b type)
  unfolding type_from
  type_from_local type = peek_local (type_from_by_local type)

  return_type_local : {d : Bool} → IsLocal c d any (return_type a) (return_type b)
  unfolding return_type
  return_type_local = bind_local (expect_local _) (λ _. type_from_local _)

  return_by_local : {d : Bool} (next : Option Kind) → IsLocal c d any (return_by a next) (return_by b next)
  return_by_local (Some k.Returns) = bind_local take_local (λ _. bind_local return_type_local (λ _. pure_local _))
  return_by_local _ = pure_local _

  pub optional_return_local : {d : Bool} → IsLocal c d any (optional_return a) (optional_return b)
  unfolding optional_return
  optional_return_local = peek_local return_by_local

  pub function_definition_local : {d : Bool} (at : ℕ) → IsLocal c d one (function_definition a at) (function_definition b at)
  unfolding function_definition
  function_definition_local at = first_local name_rule_local (λ _. bind_local optional_params_local (λ _. bind_local optional_return_local (λ _. bind_local (function_block_local I) (λ _. pure_local _))))

  -- ---- nodes

  pub plain_by_local : {d : Bool} (next : Option Kind) → IsLocal c d any (plain_by a next) (plain_by b next)
  plain_by_local (Some k.Piece) = bind_local take_local (λ _. bind_local (expect_local _) (λ _. pure_local _))
  plain_by_local _ = bind_local (expect_local _) (λ _. pure_local _)

  pub plain_text_local : {d : Bool} → IsLocal c d any (plain_text a) (plain_text b)
  unfolding plain_text
  plain_text_local = bind_local (expect_local _) (λ _. peek_local plain_by_local)

  pub node_name_by_local : {d : Bool} (next : Option Kind) → IsLocal c d any (node_name_by a next) (node_name_by b next)
  node_name_by_local (Some k.Text) = bind_local taken_text_local (λ _. pure_local _)
  node_name_by_local (Some k.TextBegin) = bind_local plain_text_local (λ _. pure_local _)
  node_name_by_local (Some k.Name) = bind_local taken_text_local (λ _. pure_local _)
  node_name_by_local (Some k.StatementFunction) = bind_local taken_text_local (λ _. pure_local _)
  node_name_by_local (Some k.Default) = bind_local take_local (λ _. pure_local _)
  node_name_by_local _ = refuse_local

  pub node_name_rule_local : {d : Bool} → IsLocal c d any (node_name_rule a) (node_name_rule b)
  unfolding node_name_rule
  node_name_rule_local = here_local (λ at. bind_local (peek_local node_name_by_local) (λ name. pure_local (node_name_at name at)))

  pub node_names_from_local : {d : Bool} (n : ℕ) (found : List NodeName) → IsLocal c d any (node_names_from a n found) (node_names_from b n found)
  unfolding node_names_from
  node_names_from_local zero found = refuse_local
  node_names_from_local (suc n) found = bind_local node_name_rule_local (λ name. bind_local (eat_local k.Comma) (λ more. if_local more (node_names_from_local n (found ++ name ∷ [])) (pure_local (found ++ name ∷ []))))

  pub node_names_local : {d : Bool} → IsLocal c d any (node_names a) (node_names b)
  unfolding node_names
  node_names_local = turns_local (λ n. node_names_from_local n [])
      (λ n m i. node_names_turns a (node_name_rule_local {d = I.deepest}).falls n m [] i)
      (λ n m i. node_names_turns b (node_name_rule_local {d = I.deepest}).falls_too n m [] i)

  pub node_local : {d : Bool} (at : ℕ) → IsLocal c d one (node a at) (node b at)
  unfolding node
  node_local at = bind_local node_names_local (λ _. first_local (block_local I) (λ _. pure_local _))

  -- ---- main manifests

  pub class_item_by_local : {d : Bool} (word : Name) (next : Option Kind) → IsLocal c d (λ x. pending_count (pending_of x)) (class_item_by a word next) (class_item_by b word next)
  class_item_by_local word (Some k.OpenBrace) = bind_local (resource_local I resource_form.Plain word.text word.at) (λ first. map_by (λ x. pending_count (pending_of x)) (read_of a) (λ x. omega arith) (chain_from_local I word.at first))
  class_item_by_local word _ = map_by (λ x. pending_count (pending_of x)) item.Definition (λ x. omega arith) (class_local word.at)

  pub class_item_local : {d : Bool} (word : Name) → IsLocal c d (λ x. pending_count (pending_of x)) (class_item a word) (class_item b word)
  unfolding class_item
  class_item_local word = peek_local (class_item_by_local word)

  pub defined_local : {d : Bool} {p q : Parser Definition} → IsLocal c d one p q → IsLocal c d (λ x. pending_count (pending_of x)) (p >>= (λ x. pure (item.Definition x))) (q >>= (λ x. pure (item.Definition x)))
  defined_local P = map_by (λ x. pending_count (pending_of x)) item.Definition (λ x. omega arith) P

  pub item_by_local : {d : Bool} (next : Option Kind) → IsLocal c d (item_stated None) (item_by a next) (item_by b next)
  item_by_local (Some k.Class) = bind_by 1 (item_stated None) (λ x. omega arith) (λ x. omega arith) taken_name_local class_item_local
  item_by_local (Some k.Define) = bind_by 1 (item_stated None) (λ x. omega arith) (λ x. omega arith) take_local (λ t. defined_local (define_local t.line))
  item_by_local (Some k.Function) = bind_by 1 (item_stated None) (λ x. omega arith) (λ x. omega arith) take_local (λ t. defined_local (function_definition_local t.line))
  item_by_local (Some k.Node) = bind_by 1 (item_stated None) (λ x. omega arith) (λ x. omega arith) take_local (λ t. defined_local (node_local t.line))
  item_by_local _ = map_by (item_stated None) (read_of a) (λ x. omega arith) (statement_rule_local I None)

  pub item_rule_local : {d : Bool} (pending : Option Name) → IsLocal c d (item_stated pending) (item_rule a pending) (item_rule b pending)
  unfolding item_rule
  item_rule_local (Some name) = map_by (item_stated (Some name)) (read_of a) (λ x. omega arith) (statement_rule_local I (Some name))
  item_rule_local None = peek_local item_by_local

  pub manifest_from_local : {d : Bool} (n : ℕ) (found : Found) (pending : Option Name) → IsLocal c d any (manifest_from a n found pending) (manifest_from b n found pending)
  unfolding manifest_from
  manifest_from_local zero found pending = refuse_local
  manifest_from_local (suc n) found pending = peek_local (λ next. if_local (ends_file pending next) (pure_local found) (bind_local (item_rule_local pending) (λ read. bind_local (eat_local k.Semicolon) (λ _. manifest_from_local n (found_with found read) (pending_of read)))))

  pub main_manifest_local : {d : Bool} → IsLocal c d any (main_manifest a) (main_manifest b)
  unfolding main_manifest
  main_manifest_local = turns_local (λ n. manifest_from_local n nothing_yet None)
      (λ n m i h l. manifest_turns a (λ pending. (item_rule_local {d = I.deepest} pending).falls) n m nothing_yet None i (omega arith) (omega arith))
      (λ n m i h l. manifest_turns b (λ pending. (item_rule_local {d = I.deepest} pending).falls_too) n m nothing_yet None i (omega arith) (omega arith))

  -- ---- module files

  pub module_item_by_local : {d : Bool} (next : Option Kind) → IsLocal c d one (module_item_by a next) (module_item_by b next)
  module_item_by_local (Some k.Class) = first_local take_local (λ t. loose_local (class_local t.line))
  module_item_by_local (Some k.Define) = first_local take_local (λ t. loose_local (define_local t.line))
  module_item_by_local (Some k.Function) = first_local take_local (λ t. loose_local (function_definition_local t.line))
  module_item_by_local _ = refuse_local

  pub module_item_local : {d : Bool} → IsLocal c d one (module_item a) (module_item b)
  unfolding module_item
  module_item_local = peek_local module_item_by_local

  pub module_from_local : {d : Bool} (n : ℕ) (found : Found) → IsLocal c d any (module_from a n found) (module_from b n found)
  unfolding module_from
  module_from_local zero found = refuse_local
  module_from_local (suc n) found = peek_local (λ next. if_local (ends_file None next) (pure_local found) (bind_local module_item_local (λ x. bind_local (eat_local k.Semicolon) (λ _. module_from_local n (with_definition found x)))))

  pub module_file_local : {d : Bool} → IsLocal c d any (module_file a) (module_file b)
  unfolding module_file
  module_file_local = turns_local (λ n. module_from_local n nothing_yet)
      (λ n m i. module_turns a (module_item_local {d = I.deepest}).falls n m nothing_yet i)
      (λ n m i. module_turns b (module_item_local {d = I.deepest}).falls_too n m nothing_yet i)
