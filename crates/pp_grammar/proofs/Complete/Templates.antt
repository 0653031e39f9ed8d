-- Templates: what stands there by the grammar, the reader reads.
use Rattle.std.proofs.Common.{◌≡◌, ℕ, zero, suc, ◌<◌, Bool, false, List, [], ◌∷◌, ◌++◌, length, Option, Some, None, Ok, refl, sym, ap, ◌∙◌, append-nil, arith}
use Rattle.pp_lexer.specs.declared.kind.Kind.{Kind}
use Rattle.pp_lexer.specs.declared.kind.Kind.TheVariants as k
use Rattle.pp_tree.specs.declared.definition.Name.{Name}
use Rattle.pp_tree.specs.declared.expr.Expr.{Expr}
use Rattle.pp_tree.specs.declared.param.Param.{Param}
use Rattle.pp_tree.specs.declared.statement.Statement.{Statement}
use Rattle.pp_tree.specs.declared.template.Template.{Template}
use Rattle.pp_grammar.proofs.Reader.Input.{Input, kind, eat, turns}
use Rattle.pp_grammar.proofs.Reader.Inner.{Inner}
use Rattle.pp_grammar.specs.Kinds.{is_kind, same_kind, ends_params}
use Rattle.pp_grammar.proofs.Reader.Expressions.{param_rule}
use Rattle.pp_grammar.proofs.Reader.Statements.{statement_rule}
use Rattle.pp_grammar.proofs.Reader.Definitions.{ends_file}
use Rattle.pp_grammar.proofs.Reader.Templates.{leading_text, leading_by, leading, template_params, template_params_by, optional_template_params, rest_from, rest_of, template}
use Rattle.pp_grammar.specs.Places.{Within}
use Rattle.pp_grammar.specs.Expressions.{IsParam}
use Rattle.pp_grammar.specs.Templates.{IsLeadingText, AreTemplateParams, AreStatementsToEnd, IsTemplate}
use Rattle.pp_grammar.proofs.Complete.Steps.{word_there, fits_there, stands_falls, take_gives, expect_gives, expect_any_gives}
use Rattle.pp_grammar.proofs.Complete.Lists.{Falls, GivenSome, Stops, one_more, separated_gives, repeat_gives, maybe_gives}
use Rattle.pp_grammar.proofs.Complete.Within.{IsFalling, IsComplete}
use Rattle.pp_grammar.proofs.Complete.ExpressionFalls.{param_falls}
use Rattle.pp_grammar.proofs.Complete.StatementFalls.{statement_falls, end_falls}
use Rattle.pp_grammar.proofs.Complete.StatementBegins.{statement_begins}
use Rattle.pp_grammar.proofs.Complete.Wholes.{param_complete}
use Rattle.pp_grammar.proofs.Complete.Words.{Behind}
use Rattle.pp_grammar.proofs.Complete.Statements.{statement_complete, end_complete, end_eaten}
use Rattle.pp_grammar.proofs.Complete.Files.{name_or_none, file_goes_on}

leading_falls : (N : Within) → IsFalling N → Falls (IsLeadingText N)
leading_falls N w _ _ _ (IsLeadingText.text i j l t s e) = omega (arith, stands_falls s, end_falls N w e)

module _ (inner : Inner) (N : Within) (c : IsComplete inner N) where
  -- ---- before the first tag

  no_text : (next : Option Kind) (i : Input) → is_kind k.RenderString next ≡ false → leading_by inner next i ≡ Ok (None, i)
  unfolding is_kind same_kind
  no_text (Some k.RenderString) i e = cc
  no_text _ i e = refl

  leading_stops : Stops (leading inner) (is_kind k.RenderString)
  unfolding leading
  leading_stops i e = no_text (kind i) i e

  leading_given : GivenSome (leading inner) (is_kind k.RenderString) (IsLeadingText N)
  unfolding leading leading_text
  leading_given _ _ _ begun (IsLeadingText.text i j l t s e) = rw (word_there s, take_gives s, (end_eaten inner N c e).read) refl

  -- ---- parameters

  params_complete : {i j : Input} {ps : List (Param Expr)} → AreTemplateParams N i ps j → template_params inner i ≡ Ok (ps, j)
  unfolding template_params
  params_complete (AreTemplateParams.params i j l m n opener last closer ps o ds s e) =
      rw (expect_gives k.ParamsBegin o, separated_gives (IsParam N false) (λ i j p d. param_falls N c.falling d) ends_params k.Comma (param_rule inner false) (λ i j p d. param_complete inner N c d) ds, expect_any_gives s, expect_gives k.TagEnd e) refl

  no_params : (next : Option Kind) (i : Input) → is_kind k.ParamsBegin next ≡ false → template_params_by inner next i ≡ Ok (None, i)
  unfolding is_kind same_kind
  no_params (Some k.ParamsBegin) i e = cc
  no_params _ i e = refl

  params_stop : Stops (optional_template_params inner) (is_kind k.ParamsBegin)
  unfolding optional_template_params
  params_stop i e = no_params (kind i) i e

  params_begin : {i j : Input} {ps : List (Param Expr)} → AreTemplateParams N i ps j → kind i ≡ Some k.ParamsBegin
  params_begin (AreTemplateParams.params i j l m n opener last closer ps o ds s e) = word_there o

  params_given : GivenSome (optional_template_params inner) (is_kind k.ParamsBegin) (AreTemplateParams N)
  unfolding optional_template_params
  params_given i j ps begun d = rw (params_begin d, params_complete d) refl

  -- ---- statements

  rest_ends : (n : ℕ) (found : List Statement) {i h : Input} {name : Option Name} → Behind i name h → kind i ≡ None → rest_from inner (suc n) found name h ≡ Ok (found, i)
  unfolding rest_from
  rest_ends n found Behind.here e = rw e refl
  rest_ends n found {i = i} (Behind.pending t l f brace) e = absurd (name_or_none (kind i) (fits_there f) e)

  one_statement : (n : ℕ) (found : List Statement) (name : Option Name) (h : Input) {g l : Input} {next : Option Name} {s : Statement} {more : Bool} → ends_file name (kind h) ≡ false → statement_rule inner name h ≡ Ok ((s, next), g) → eat k.Semicolon g ≡ Ok (more, l)
      → rest_from inner (suc n) found name h ≡ rest_from inner n (found ++ s ∷ []) next l
  unfolding rest_from
  one_statement n found name h e f g = rw (e, f, g) refl

  -- recursion is on the turns
  rest_from_complete : (n : ℕ) {i j h : Input} {name : Option Name} {ss : List Statement} → Behind i name h → AreStatementsToEnd N i ss j → length i.left < n → (found : List Statement) → rest_from inner n found name h ≡ Ok (found ++ ss, j)
  rest_from_complete zero b d below found = absurd (omega arith)
  rest_from_complete (suc n) b (AreStatementsToEnd.end i e) below found = rest_ends n found b e ∙ ap (λ ss. Ok (ss, i)) (sym (append-nil found))
  rest_from_complete (suc n) {h = h} {name = name} b (AreStatementsToEnd.more i j l m s ss d f ds) below found =
      let r = statement_complete inner N c b d in
      let end = end_complete inner N c r.behind f in
      let less : length l.left < n = omega (arith, statement_falls N c.falling d, end_falls N c.falling f) in
      one_statement n found name h (file_goes_on inner N c b (statement_begins N d)) r.read end.read ∙ rest_from_complete n end.behind ds less (found ++ s ∷ []) ∙ ap (λ zs. Ok (zs, m)) (one_more found s ss)

  rest_complete : {i j : Input} {ss : List Statement} → AreStatementsToEnd N i ss j → (found : List Statement) → rest_of inner found i ≡ Ok (found ++ ss, j)
  unfolding rest_of
  rest_complete {i = i} ds found = rest_from_complete (turns i) Behind.here ds (omega arith) found

  -- a template that stands there, the reader reads
  pub template_complete : (i j : Input) (found : Template) → IsTemplate N i found j → template inner i ≡ Ok (found, j)
  unfolding template
  template_complete _ _ _ (IsTemplate.template i j l m texts ss ps ts p ds) =
      rw (
        repeat_gives (IsLeadingText N) (leading_falls N c.falling) (is_kind k.RenderString) (leading inner) leading_stops leading_given ts,
        maybe_gives (AreTemplateParams N) (is_kind k.ParamsBegin) (optional_template_params inner) params_stop params_given p,
        rest_complete ds texts,
      ) refl
