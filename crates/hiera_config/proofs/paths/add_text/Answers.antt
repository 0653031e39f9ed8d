use Rattle.std.proofs.Common.{Ok, refl, sym, ap, ◌∙◌, rules}
use Rattle.hiera_config.specs.Seen.{names_seen}
use Rattle.hiera_config.proofs.Meets.{after_err, gives, refuses, same_meets}
use Rattle.hiera_config.proofs.PathTexts.{text_whole, text_unclosed, text_opened, text_more}
use Rattle.hiera_config.proofs.PieceLemmas.{two_shorter}
use Rattle.hiera_config.proofs.paths.add_text.Goals as goal

pub loop-before-preserved : goal.loop-before-preserved
loop-before-preserved c = (
  search rules,
  text_more (names_seen c.args.names.now) _ _ _ _ _ _ _ c.in_ok-push_str.ensures.bytes c.in-Some.ensures
      c.in-Some-cut_at.ensures c.trimmed.ensures (c.in_ok-add_form.ensures.ok _ refl)
      ∙ c.loop-before.invariant.1,
)

pub loop-before-smaller : goal.loop-before-smaller
loop-before-smaller c = two_shorter _ _ _ c.in-Some.ensures c.in-Some-cut_at.ensures

pub returns-in_default-cut_at : goal.returns-in_default-cut_at
returns-in_default-cut_at c =
    refuses _ _ c.broken.ensures
    (sym c.loop-before.invariant.1
    ∙ text_unclosed (names_seen c.args.names.now) _ _ _ c.in-Some.ensures c.in_default-cut_at.ensures)

pub returns-in_err-add_form : goal.returns-in_err-add_form
returns-in_err-add_form c =
    same_meets
    (sym c.loop-before.invariant.1
    ∙ text_opened (names_seen c.args.names.now) _ _ _ _ _ _ c.in_ok-push_str.ensures.bytes c.in-Some.ensures
    c.in-Some-cut_at.ensures c.trimmed.ensures)
    (after_err _ c.in_err-add_form.ensures c.from_residual-in_err-add_form.ensures.1)

pub returns : goal.returns
returns c =
    gives
    (sym c.loop-before.invariant.1 ∙ text_whole (names_seen c.args.names.now) _ _ c.in_default.ensures
    ∙ ap Ok (sym c.in_ok-push_str-2.ensures.bytes))
