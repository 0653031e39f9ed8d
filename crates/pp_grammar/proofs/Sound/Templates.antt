-- Templates: what a rule reads, stands there.
use Rattle.std.proofs.Common.{◌≡◌, ℕ, zero, suc, true, false, List, [], ◌∷◌, ◌++◌, Option, Some, None, refl}
use Rattle.pp_lexer.specs.declared.kind.Kind.{Kind}
use Rattle.pp_lexer.specs.declared.kind.Kind.TheVariants as k
use Rattle.pp_tree.specs.declared.expr.Expr.{Expr}
use Rattle.pp_tree.specs.declared.param.Param.{Param}
use Rattle.pp_tree.specs.declared.statement.Statement.{Statement}
use Rattle.pp_tree.specs.declared.definition.Name.{Name}
use Rattle.pp_tree.specs.Building.{template_of}
use Rattle.pp_grammar.proofs.Reader.Input.{Input, kind, turns}
use Rattle.pp_grammar.proofs.Reader.Inner.{Inner}
use Rattle.pp_grammar.specs.Kinds.{is_kind, same_kind, ends_params}
use Rattle.pp_grammar.proofs.Reader.Definitions.{ends_file}
use Rattle.pp_grammar.proofs.Reader.Statements.{Read}
use Rattle.pp_grammar.proofs.Reader.Templates as rule
use Rattle.pp_grammar.specs.Places.{Within, Many, Maybe}
use Rattle.pp_grammar.specs.Expressions.{IsParam}
use Rattle.pp_grammar.specs.Templates.{IsLeadingText, AreTemplateParams, AreStatementsToEnd, IsTemplate}
use Rattle.pp_grammar.proofs.Sound.Steps.{Meets, Sound, bind, done, refused, either_at, weaker, take_sound, expect_sound, expect_any_sound, eat_sound, at_next}
use Rattle.pp_grammar.proofs.Sound.Lists.{repeat_sound, separated_sound, From, at_end, one_more}
use Rattle.pp_grammar.proofs.Sound.Inner.{IsSound}
use Rattle.pp_grammar.proofs.Sound.Expressions.{param_sound}
use Rattle.pp_grammar.proofs.Sound.Ends.{EndsOnce}
use Rattle.pp_grammar.proofs.Sound.Statements.{Pends, plain_end, statement_sound, IsReadEnded, ended_sound}
use Rattle.pp_grammar.proofs.Sound.Files.{no_token}

module _ (inner : Inner) (N : Within) (s : IsSound inner N) where
  -- ---- before the first tag

  leading_text_sound : (i : Input) → is_kind k.RenderString (kind i) ≡ true → Meets (rule.leading_text inner i) (IsLeadingText N i)
  unfolding rule.leading_text
  leading_text_sound i h = bind (take_sound (is_kind k.RenderString) i h) λ t j st. bind (eat_sound k.Semicolon j) λ b l f. done (IsLeadingText.text i j l t st (plain_end N b j l f))

  leading_sound : Sound (rule.leading inner) (Maybe (IsLeadingText N) (is_kind k.RenderString))
  unfolding rule.leading is_kind same_kind
  leading_sound i = go (kind i) refl
    where
      go : (next : Option Kind) → kind i ≡ next → Meets (rule.leading_by inner next i) (Maybe (IsLeadingText N) (is_kind k.RenderString) i)
      go (Some k.RenderString) e = bind (leading_text_sound i (at_next (is_kind k.RenderString) i e refl)) λ x j h. done (Maybe.given i j x (at_next (is_kind k.RenderString) i e refl) h)
      go _ e = done (Maybe.left_out i (at_next (is_kind k.RenderString) i e refl))

  -- ---- parameters

  template_params_sound : Sound (rule.template_params inner) (AreTemplateParams N)
  unfolding rule.template_params
  template_params_sound i = bind (expect_sound k.ParamsBegin i) λ opener j o. bind (separated_sound ends_params k.Comma (IsParam N false) _ (param_sound inner N s false) j) λ ps l h.
      bind (expect_any_sound ends_params l) λ last m c. bind (expect_sound k.TagEnd m) λ closer n e. done (AreTemplateParams.params i j l m n opener last closer ps o h c e)

  optional_template_params_sound : Sound (rule.optional_template_params inner) (Maybe (AreTemplateParams N) (is_kind k.ParamsBegin))
  unfolding rule.optional_template_params is_kind same_kind
  optional_template_params_sound i = go (kind i) refl
    where
      go : (next : Option Kind) → kind i ≡ next → Meets (rule.template_params_by inner next i) (Maybe (AreTemplateParams N) (is_kind k.ParamsBegin) i)
      go (Some k.ParamsBegin) e = bind (template_params_sound i) λ ps j h. done (Maybe.given i j ps (at_next (is_kind k.ParamsBegin) i e refl) h)
      go _ e = done (Maybe.left_out i (at_next (is_kind k.ParamsBegin) i e refl))

  -- ---- statements

  rest_end : (waiting : Option Name) (i j : Input) → Pends waiting i j → ends_file waiting (kind j) ≡ true → AreStatementsToEnd N i [] j
  rest_end None i j (Pends.nothing _) h = AreStatementsToEnd.end j (no_token (kind j) h)
  rest_end (Some n) i j p h = absurd cc

  rest_from_sound : EndsOnce N → (n : ℕ) (found : List Statement) (waiting : Option Name) (i j : Input) → Pends waiting i j → Meets (rule.rest_from inner n found waiting j) (From found (AreStatementsToEnd N i))
  unfolding rule.rest_from
  rest_from_sound once zero found waiting i j p = refused
  rest_from_sound once (suc n) found waiting i j p = either_at _ _ (λ e. done (at_end found j (rest_end waiting i j p e)))
      (λ e. bind (statement_sound inner N s once waiting i j p) λ r l h. bind (ended_sound inner N s r i l h) λ b m q. go r m q (λ l. rest_from_sound once n (found ++ r.0 ∷ []) r.1 l m))
    where
      go : (r : Read) (m : Input) → IsReadEnded inner N s i r m
          → ((l : Input) → Pends r.1 l m → Meets (rule.rest_from inner n (found ++ r.0 ∷ []) r.1 m) (From (found ++ r.0 ∷ []) (AreStatementsToEnd N l)))
          → Meets (rule.rest_from inner n (found ++ r.0 ∷ []) r.1 m) (From found (AreStatementsToEnd N i))
      go r m (IsReadEnded.read l o _ st next h f q) rest = weaker (rest o q) (one_more found st (λ ss v a. AreStatementsToEnd.more i l o v st ss h f a))

  -- what stands behind the texts is the rest of the block
  whole_template : (i j l : Input) (texts : List Statement) (ps : Option (List (Param Expr))) → Many (IsLeadingText N) (is_kind k.RenderString) i texts j → Maybe (AreTemplateParams N) (is_kind k.ParamsBegin) j ps l
      → (block : List Statement) (m : Input) → From texts (AreStatementsToEnd N l) block m → IsTemplate N i (template_of ps block) m
  whole_template i j l texts ps h p block m (From.from ss _ r) = IsTemplate.template i j l m texts ss ps h p r

  -- What is read of a template, stands there.
  pub template_sound : EndsOnce N → Sound (rule.template inner) (IsTemplate N)
  unfolding rule.template rule.rest_of
  template_sound once i = bind (repeat_sound (IsLeadingText N) (is_kind k.RenderString) _ leading_sound i) λ texts j h. bind (optional_template_params_sound j) λ ps l p.
      bind (rest_from_sound once (turns l) texts None l l (Pends.nothing l)) λ block m r. done (whole_template i j l texts ps h p block m r)
