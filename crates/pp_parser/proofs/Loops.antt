-- The lists of statements and definitions, as the program counts them.
use Rattle.std.proofs.Common.{◌≡◌, ℕ, ◌+◌, ◌-◌, ◌<◌, ◌≤◌, if◌then◌else◌, List, [], ◌∷◌, ◌++◌, Option, None, Ok, Err, ◌∙◌}
use Rattle.pp_lexer.specs.declared.kind.Kind.TheVariants as k
use Rattle.pp_tree.specs.declared.definition.Name.{Name}
use Rattle.pp_tree.specs.declared.definition.NodeName.{NodeName}
use Rattle.pp_tree.specs.declared.expr.Expr.{Expr}
use Rattle.pp_tree.specs.declared.statement.Statement.{Statement}
use Rattle.pp_parser.specs.declared.found.Found.{Found}
use Rattle.pp_parser.specs.Definitions.{node_name_rule, node_names_from, ends_file, item_rule, found_with, pending_of, manifest_from, with_definition, module_item, module_from}
use Rattle.pp_parser.specs.Inner.{Inner}
use Rattle.pp_parser.specs.Input.{Input, and_then, ◌>>=◌, ◌>>◌, pure, kind, eat, refusal}
use Rattle.pp_parser.specs.Kinds.{begins_expression}
use Rattle.pp_parser.specs.Statements.{argument_rule, argument_then, words_from, ends_block, statement_rule, statements_from}
use Rattle.pp_parser.specs.Templates.{rest_from}
use Rattle.pp_parser.proofs.Turns.{one_more, no_more, either}

module _ (inner : Inner) where
  pub words_turn : (n at : ℕ) (found : List Expr) (i : Input) → at < n
      → words_from inner (n - at) found i
      ≡ (if begins_expression (kind i) then and_then (argument_rule inner i) (argument_then inner found (words_from inner (n - (at + 1)))) else Ok ((found, None), i))
  unfolding words_from
  words_turn n at found i below =
      one_more (λ m. words_from inner m found i) n at below
      ∙ either (begins_expression (kind i)) (argument_rule inner >>= argument_then inner found (words_from inner (n - (at + 1)))) (pure (found, None)) i

  pub words_none : (n at : ℕ) (found : List Expr) (i : Input) → n ≤ at → words_from inner (n - at) found i ≡ Err (refusal i)
  unfolding words_from
  words_none n at found i done = no_more (λ m. words_from inner m found i) n at done

  pub statements_turn : (n at : ℕ) (found : List Statement) (pending : Option Name) (i : Input) → at < n
      → statements_from inner (n - at) found pending i
      ≡ (if ends_block pending (kind i) then Ok (found, i) else and_then (statement_rule inner pending i) (λ read. eat k.Semicolon >> statements_from inner (n - (at + 1)) (found ++ read.0 ∷ []) read.1))
  unfolding statements_from
  statements_turn n at found pending i below =
      one_more (λ m. statements_from inner m found pending i) n at below
      ∙ either (ends_block pending (kind i)) (pure found) (statement_rule inner pending >>= (λ read. eat k.Semicolon >> statements_from inner (n - (at + 1)) (found ++ read.0 ∷ []) read.1)) i

  pub statements_none : (n at : ℕ) (found : List Statement) (pending : Option Name) (i : Input) → n ≤ at → statements_from inner (n - at) found pending i ≡ Err (refusal i)
  unfolding statements_from
  statements_none n at found pending i done = no_more (λ m. statements_from inner m found pending i) n at done

  pub rest_turn : (n at : ℕ) (found : List Statement) (pending : Option Name) (i : Input) → at < n
      → rest_from inner (n - at) found pending i
      ≡ (if ends_file pending (kind i) then Ok (found, i) else and_then (statement_rule inner pending i) (λ read. eat k.Semicolon >> rest_from inner (n - (at + 1)) (found ++ read.0 ∷ []) read.1))
  unfolding rest_from
  rest_turn n at found pending i below =
      one_more (λ m. rest_from inner m found pending i) n at below
      ∙ either (ends_file pending (kind i)) (pure found) (statement_rule inner pending >>= (λ read. eat k.Semicolon >> rest_from inner (n - (at + 1)) (found ++ read.0 ∷ []) read.1)) i

  pub rest_none : (n at : ℕ) (found : List Statement) (pending : Option Name) (i : Input) → n ≤ at → rest_from inner (n - at) found pending i ≡ Err (refusal i)
  unfolding rest_from
  rest_none n at found pending i done = no_more (λ m. rest_from inner m found pending i) n at done

  pub node_names_turn : (n at : ℕ) (found : List NodeName) (i : Input) → at < n
      → node_names_from inner (n - at) found i
      ≡ and_then (node_name_rule inner i) (λ name. eat k.Comma >>= (λ more. if more then node_names_from inner (n - (at + 1)) (found ++ name ∷ []) else pure (found ++ name ∷ [])))
  unfolding node_names_from
  node_names_turn n at found i below = one_more (λ m. node_names_from inner m found i) n at below

  pub node_names_none : (n at : ℕ) (found : List NodeName) (i : Input) → n ≤ at → node_names_from inner (n - at) found i ≡ Err (refusal i)
  unfolding node_names_from
  node_names_none n at found i done = no_more (λ m. node_names_from inner m found i) n at done

  pub manifest_turn : (n at : ℕ) (found : Found) (pending : Option Name) (i : Input) → at < n
      → manifest_from inner (n - at) found pending i
      ≡ (if ends_file pending (kind i) then Ok (found, i) else and_then (item_rule inner pending i) (λ read. eat k.Semicolon >> manifest_from inner (n - (at + 1)) (found_with found read) (pending_of read)))
  unfolding manifest_from
  manifest_turn n at found pending i below =
      one_more (λ m. manifest_from inner m found pending i) n at below
      ∙ either (ends_file pending (kind i)) (pure found) (item_rule inner pending >>= (λ read. eat k.Semicolon >> manifest_from inner (n - (at + 1)) (found_with found read) (pending_of read))) i

  pub manifest_none : (n at : ℕ) (found : Found) (pending : Option Name) (i : Input) → n ≤ at → manifest_from inner (n - at) found pending i ≡ Err (refusal i)
  unfolding manifest_from
  manifest_none n at found pending i done = no_more (λ m. manifest_from inner m found pending i) n at done

  pub module_turn : (n at : ℕ) (found : Found) (i : Input) → at < n
      → module_from inner (n - at) found i
      ≡ (if ends_file None (kind i) then Ok (found, i) else and_then (module_item inner i) (λ d. eat k.Semicolon >> module_from inner (n - (at + 1)) (with_definition found d)))
  unfolding module_from
  module_turn n at found i below =
      one_more (λ m. module_from inner m found i) n at below
      ∙ either (ends_file None (kind i)) (pure found) (module_item inner >>= (λ d. eat k.Semicolon >> module_from inner (n - (at + 1)) (with_definition found d))) i

  pub module_none : (n at : ℕ) (found : Found) (i : Input) → n ≤ at → module_from inner (n - at) found i ≡ Err (refusal i)
  unfolding module_from
  module_none n at found i done = no_more (λ m. module_from inner m found i) n at done
