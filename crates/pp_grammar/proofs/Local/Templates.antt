-- Templates look at the next token alone.
use Rattle.std.proofs.Common.{◌≡◌, ℕ, zero, suc, ◌+◌, ◌<◌, Bool, false, List, [], ◌∷◌, ◌++◌, length, Option, Some, None, refl, arith}
use Rattle.pp_lexer.specs.declared.kind.Kind.{Kind}
use Rattle.pp_lexer.specs.declared.kind.Kind.TheVariants as k
use Rattle.pp_tree.specs.declared.definition.Name.{Name}
use Rattle.pp_tree.specs.declared.statement.Statement.{Statement}
use Rattle.pp_grammar.proofs.Reader.Input.{Input, ◌>>=◌, ◌>>◌, pure, kind, eat}
use Rattle.pp_grammar.proofs.Reader.Inner.{Inner}
use Rattle.pp_grammar.proofs.Reader.Definitions.{ends_file}
use Rattle.pp_grammar.proofs.Reader.Statements.{Read, statement_rule}
use Rattle.pp_grammar.proofs.Reader.Templates.{leading_text, leading_by, leading, template_params, template_params_by, optional_template_params, rest_from, rest_of, template}
use Rattle.pp_grammar.proofs.Local.Steps.{Cut, IsLocal, Falls, any, one, if_given, if_true, bind_local, first_local, given_local, none_local, pure_local, refuse_local, peek_local, if_local, take_local, expect_local, expect_any_local, eat_local, eat_falls}
use Rattle.pp_grammar.proofs.Local.Lists.{same_then, same_if, turns_local, repeat_local, separated_local}
use Rattle.pp_grammar.proofs.Local.Inner.{InnerLocal}
use Rattle.pp_grammar.proofs.Local.Expressions.{param_rule_local}
use Rattle.pp_grammar.proofs.Local.Statements.{pending_count, stated, spent_is, statement_rule_local}

-- how many turns there are makes no difference
pub rest_turns : (inner : Inner) (falls : (pending : Option Name) (i : Input) → Falls (stated pending) i (statement_rule inner pending i)) (n m : ℕ) (found : List Statement) (pending : Option Name) (i : Input)
    → length i.left + pending_count pending < n → length i.left + pending_count pending < m → rest_from inner n found pending i ≡ rest_from inner m found pending i
unfolding rest_from
rest_turns inner falls zero m found pending i h l = absurd (omega arith)
rest_turns inner falls (suc n) zero found pending i h l = absurd (omega arith)
rest_turns inner falls (suc n) (suc m) found pending i h l =
    let next = λ (turns : ℕ) (read : Read). eat k.Semicolon >> rest_from inner turns (found ++ read.0 ∷ []) read.1 in
    same_if (ends_file pending (kind i)) (pure found) (pure found) (statement_rule inner pending >>= next n) (statement_rule inner pending >>= next m) i
    (λ e. refl)
    (λ e. same_then (stated pending) i (statement_rule inner pending i) (next n) (next m) (falls pending i)
    (λ read j a. same_then if_true j (eat k.Semicolon j) (λ _. rest_from inner n (found ++ read.0 ∷ []) read.1) (λ _. rest_from inner m (found ++ read.0 ∷ []) read.1) (eat_falls k.Semicolon j)
    (λ eaten w t. let s = spent_is pending read.1 in rest_turns inner falls n m (found ++ read.0 ∷ []) read.1 w (omega arith) (omega arith))))

module _ {c : Cut} {a b : Inner} (I : InnerLocal c a b) where
  -- ---- before the first tag

  leading_text_local : {d : Bool} → IsLocal c d one (leading_text a) (leading_text b)
  unfolding leading_text
  leading_text_local = first_local take_local (λ _. bind_local (eat_local k.Semicolon) (λ _. pure_local _))

  leading_by_local : {d : Bool} (next : Option Kind) → IsLocal c d if_given (leading_by a next) (leading_by b next)
  leading_by_local (Some k.RenderString) = given_local (first_local leading_text_local (λ _. pure_local _))
  leading_by_local _ = none_local

  pub leading_local : {d : Bool} → IsLocal c d if_given (leading a) (leading b)
  unfolding leading
  leading_local = peek_local leading_by_local

  -- ---- parameters

  template_params_local : {d : Bool} → IsLocal c d any (template_params a) (template_params b)
  unfolding template_params
  template_params_local = bind_local (expect_local _) (λ _. bind_local (separated_local _ _ (param_rule_local I false)) (λ _. bind_local (expect_any_local _) (λ _. bind_local (expect_local _) (λ _. pure_local _))))

  template_params_by_local : {d : Bool} (next : Option Kind) → IsLocal c d any (template_params_by a next) (template_params_by b next)
  template_params_by_local (Some k.ParamsBegin) = bind_local template_params_local (λ _. pure_local _)
  template_params_by_local _ = pure_local _

  pub optional_template_params_local : {d : Bool} → IsLocal c d any (optional_template_params a) (optional_template_params b)
  unfolding optional_template_params
  optional_template_params_local = peek_local template_params_by_local

  -- ---- statements

  rest_from_local : {d : Bool} (n : ℕ) (found : List Statement) (pending : Option Name) → IsLocal c d any (rest_from a n found pending) (rest_from b n found pending)
  unfolding rest_from
  rest_from_local zero found pending = refuse_local
  rest_from_local (suc n) found pending = peek_local (λ next. if_local (ends_file pending next) (pure_local found) (bind_local (statement_rule_local I pending) (λ read. bind_local (eat_local k.Semicolon) (λ _. rest_from_local n (found ++ read.0 ∷ []) read.1))))

  pub rest_of_local : {d : Bool} (found : List Statement) → IsLocal c d any (rest_of a found) (rest_of b found)
  unfolding rest_of
  rest_of_local found = turns_local (λ n. rest_from_local n found None)
      (λ n m i h l. rest_turns a (λ pending. (statement_rule_local I {d = I.deepest} pending).falls) n m found None i (omega arith) (omega arith))
      (λ n m i h l. rest_turns b (λ pending. (statement_rule_local I {d = I.deepest} pending).falls_too) n m found None i (omega arith) (omega arith))

  pub template_local : {d : Bool} → IsLocal c d any (template a) (template b)
  unfolding template
  template_local = bind_local (repeat_local leading_local) (λ texts. bind_local optional_template_params_local (λ _. bind_local (rest_of_local texts) (λ _. pure_local _)))
