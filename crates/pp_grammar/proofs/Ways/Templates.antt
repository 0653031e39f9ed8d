-- Behind what was read of a template there is a way.
use Rattle.std.proofs.Common.{◌≡◌, ℕ, zero, suc, Bool, true, false, not, List, [], ◌∷◌, ◌++◌, Option, Some, None, refl, sym, ap, ◌∙◌}
use Rattle.pp_lexer.specs.declared.kind.Kind.{Kind}
use Rattle.pp_lexer.specs.declared.kind.Kind.TheVariants as k
use Rattle.pp_tree.specs.declared.expr.Expr.{Expr}
use Rattle.pp_tree.specs.declared.param.Param.{Param}
use Rattle.pp_tree.specs.declared.statement.Statement.{Statement}
use Rattle.pp_tree.specs.declared.definition.Name.{Name}
use Rattle.pp_grammar.specs.Keys.{doubled_key}
use Rattle.pp_grammar.proofs.Reader.Input.{Input, Outcome, Parser, and_then, ◌>>=◌, ◌>>◌, pure, kind, eat, turns}
use Rattle.pp_grammar.proofs.Reader.Inner.{Inner}
use Rattle.pp_grammar.specs.Kinds.{is_kind, same_kind, ends_params}
use Rattle.pp_grammar.proofs.Reader.Levels.{within}
use Rattle.pp_grammar.proofs.Reader.Expressions.{param_rule}
use Rattle.pp_grammar.proofs.Reader.Statements.{Read, statement_rule}
use Rattle.pp_grammar.proofs.Reader.Definitions.{ends_file}
use Rattle.pp_grammar.proofs.Reader.Templates.{leading_text, leading_by, leading, template_params, template_params_by, optional_template_params, rest_from, rest_of, template}
use Rattle.pp_grammar.proofs.Local.Expressions.{param_rule_local}
use Rattle.pp_grammar.proofs.Local.Templates.{leading_local}
use Rattle.pp_grammar.proofs.Ways.Steps.{Rule, first, first_any, after, pure_goes, take_goes}
use Rattle.pp_grammar.proofs.Ways.NextToken.{Branch, leaves, taking, peek_none, same_rule, eat_goes, expect_goes, expect_any_goes}
use Rattle.pp_grammar.proofs.Ways.Lists.{always, eaten, repeat_goes, separated_goes}
use Rattle.pp_grammar.proofs.Ways.Inner.{ends_param, InnerGoes, here_too}
use Rattle.pp_grammar.proofs.Ways.Expressions.{param_rule_goes}
use Rattle.pp_grammar.proofs.Ways.Statements.{statement_rule_goes, pending_goes}
use Rattle.pp_grammar.proofs.Ways.Turns.{loop, on, on_goes}
use Rattle.pp_grammar.proofs.Ways.Blocks.{Fits, chosen_same, taken_up, taken_up_is, taken_up_none, taken_up_falls, statement_fits, statement_falls, same_reads, same_behind_read, add_read, read_next}
use Rattle.pp_grammar.proofs.Ways.Files.{file_ends, file_end, file_statement, file_apart, none_fits}

-- the bar that surely ends the parameters
abbrev closes_params : Option Kind → Bool
closes_params (Some k.ParamsEnd) = true
closes_params _ = false

params_closed : (next : Option Kind) → closes_params next ≡ true → ends_params next ≡ true
params_closed (Some k.ParamsEnd) e = refl
params_closed _ e = absurd cc

param_closed : (next : Option Kind) → closes_params next ≡ true → ends_param next ≡ true
param_closed (Some k.ParamsEnd) e = refl
param_closed _ e = absurd cc

no_comma : (next : Option Kind) → closes_params next ≡ true → not (is_kind k.Comma next) ≡ true
unfolding is_kind same_kind
no_comma (Some k.ParamsEnd) e = refl
no_comma _ e = absurd cc

no_text : (inner : Inner) (next : Option Kind) → file_ends next ≡ true → leading_by inner next ≡ pure None
no_text inner (Some k.RenderString) e = absurd cc
no_text inner _ e = refl

no_params : (inner : Inner) (next : Option Kind) → file_ends next ≡ true → template_params_by inner next ≡ pure None
no_params inner (Some k.ParamsBegin) e = absurd cc
no_params inner _ e = refl

-- ---- statements up to the end

abbrev rest_loop : Inner → ℕ → List Statement → Option Name → Parser (List Statement)
rest_loop inner = loop file_ends add_read read_next (statement_rule inner None) (taken_up inner)

rest_as : (inner : Inner) → inner.doubled_key ≡ doubled_key → (n : ℕ) (found : List Statement) (p : Option Name) (i : Input) → Fits p i → rest_from inner n found p i ≡ rest_loop inner n found p i
unfolding rest_from
rest_as inner keys zero found p i h = refl
rest_as inner keys (suc n) found None i h =
    chosen_same (ends_file None (kind i)) (file_ends (kind i)) (pure found)
    (statement_rule inner None >>= (λ read. eat k.Semicolon >> rest_from inner n (found ++ read.0 ∷ []) read.1)) (statement_rule inner None >>= (λ read. eat k.Semicolon >> rest_loop inner n (found ++ read.0 ∷ []) read.1)) i (file_end (kind i))
    (same_reads (statement_rule inner None i) (λ read. eat k.Semicolon >> rest_from inner n (found ++ read.0 ∷ []) read.1) (λ read. eat k.Semicolon >> rest_loop inner n (found ++ read.0 ∷ []) read.1)
    (λ read j e. same_behind_read read.1 j ((statement_fits inner keys i).holds read j e) _ _ (λ l w. rest_as inner keys n (found ++ read.0 ∷ []) read.1 l w)))
rest_as inner keys (suc n) found (Some name) i h =
    ap (λ (o : Outcome Read). and_then o (λ read. eat k.Semicolon >> rest_from inner n (found ++ read.0 ∷ []) read.1)) (taken_up_is inner name i h)
    ∙ same_reads (taken_up inner name i) (λ read. eat k.Semicolon >> rest_from inner n (found ++ read.0 ∷ []) read.1) (λ read. eat k.Semicolon >> rest_loop inner n (found ++ read.0 ∷ []) read.1)
    (λ read j e. same_behind_read read.1 j (none_fits read.1 j ((taken_up_none inner name i).holds read j e)) _ _ (λ l w. rest_as inner keys n (found ++ read.0 ∷ []) read.1 l w))

rest_is : (inner : Inner) → inner.doubled_key ≡ doubled_key → (found : List Statement) (i : Input) → on file_ends add_read read_next (statement_rule inner None) (taken_up inner) found None i ≡ rest_of inner found i
unfolding rest_of
rest_is inner keys found i = sym (rest_as inner keys (turns i) found None i tt)

module _ {n : ℕ} (I : InnerGoes n) where
  -- ---- before the first tag

  leading_text_goes : Rule n (Some k.RenderString) (always file_ends) (leading_text (within n)) (λ m. leading_text (within m))
  unfolding leading_text
  leading_text_goes = first_any (take_goes {k = k.RenderString}) (λ t. after (eat_goes k.Semicolon) (λ _. pure_goes _) (eaten k.Semicolon file_apart))

  leading_by_goes : (next : Option Kind) → Branch n (always file_ends) (pure None) (λ m. pure None) (leading_by (within n) next) (λ m. leading_by (within m) next)
  leading_by_goes (Some k.RenderString) = taking (first leading_text_goes (λ _. pure_goes _) (λ _ _ _ e. e))
  leading_by_goes _ = leaves refl refl

  leading_goes : Rule n None (always file_ends) (leading (within n)) (λ m. leading (within m))
  unfolding leading
  leading_goes = peek_none (pure_goes None) leading_by_goes (λ _ next e m. no_text (within m) next e)

  -- ---- parameters

  template_params_goes : {E : List (Param Expr) → Option Kind → Bool} → Rule n (Some k.ParamsBegin) E (template_params (within n)) (λ m. template_params (within m))
  unfolding template_params is_kind same_kind
  template_params_goes = first_any (expect_goes k.ParamsBegin refl)
      (λ _. after (separated_goes ends_params k.Comma (λ m. param_rule (within m) false) (λ m. (param_rule_local (here_too m) {d = true} false).falls) params_closed param_closed no_comma (param_rule_goes I false))
      (λ _. first_any (expect_any_goes ends_params k.ParamsEnd refl) (λ _. first_any (expect_goes k.TagEnd refl) (λ _. pure_goes _))) (λ _. refl))

  template_params_by_goes : (next : Option Kind) → Branch n (always file_ends) (pure None) (λ m. pure None) (template_params_by (within n) next) (λ m. template_params_by (within m) next)
  template_params_by_goes (Some k.ParamsBegin) = taking (first_any template_params_goes (λ _. pure_goes _))
  template_params_by_goes _ = leaves refl refl

  optional_template_params_goes : Rule n None (always file_ends) (optional_template_params (within n)) (λ m. optional_template_params (within m))
  unfolding optional_template_params
  optional_template_params_goes = peek_none (pure_goes None) template_params_by_goes (λ _ next e m. no_params (within m) next e)

  -- ---- statements

  rest_goes : (found : List Statement) → Rule n None (always file_ends) (rest_of (within n) found) (λ m. rest_of (within m) found)
  rest_goes found = same_rule (rest_is (within n) refl found) (λ m i. rest_is (within m) refl found i)
      (on_goes file_ends add_read read_next (λ m. statement_rule (within m) None) (λ m. taken_up (within m)) statement_falls taken_up_falls (λ m name i r e. (taken_up_none (within m) name i).holds r.0 r.1 e) file_statement file_apart (statement_rule_goes I) (pending_goes I) found)

  pub template_goes : Rule n None (always file_ends) (template (within n)) (λ m. template (within m))
  unfolding template
  template_goes = after (repeat_goes _ (λ m. (leading_local (here_too m) {d = true}).falls) leading_goes)
      (λ texts. after optional_template_params_goes (λ ps. after (rest_goes texts) (λ block. pure_goes _) (λ _ _ _ e. e)) (λ _ _ _ e. e)) (λ _ _ _ e. e)
