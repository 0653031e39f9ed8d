use Rattle.std.proofs.Common.{◌∷◌, [], ◌++◌, ap, sym, ◌∙◌, rules, codes, List}
use Rattle.hiera_config.specs.declared.interpolation.Piece.{Piece}
use Rattle.hiera_config.specs.declared.interpolation.Piece.TheVariants as piece
use Rattle.hiera_config.specs.FormView.{form_view}
use Rattle.hiera_config.specs.Pieces.{form_of, pieces_by}
use Rattle.hiera_config.specs.Written.{piece_in}
use Rattle.hiera_config.proofs.PieceLemmas.{pieces_whole, pieces_unclosed, pieces_more, pieces_last, two_shorter, two_more, two_last}
use Rattle.hiera_config.proofs.interpolation.pieces.Goals as goal

pub loop-before-preserved : goal.loop-before-preserved
loop-before-preserved c =
    let form = form_view c.form_of.result in
    let rest = pieces_by form_of c.in-Some-cut_at.after.now in (
      search rules,
      ap (λ (ps : List Piece). ps ++ rest)
          (c.in_ok-add_form.ensures.added
          ∙ ap (λ (ps : List Piece). ps ++ piece_in c.in-Some.behind.now form ∷ []) c.in_ok-push.ensures.items)
          ∙ two_more c.loop-before.pieces.items (piece.Letters c.in_ok-from_str.field-0)
          (piece_in c.in-Some.behind.now form) rest
          ∙ ap (λ t. c.loop-before.pieces.items ++ (piece.Letters t ∷ piece_in c.in-Some.behind.now form ∷ rest))
          c.in_ok-from_str.ensures
          ∙ ap (λ ps. c.loop-before.pieces.items ++ ps)
          (sym (pieces_more form_of _ _ _ form c.in-Some.ensures c.in-Some-cut_at.ensures
          (c.form_of.ensures ∙ ap form_of c.trimmed.ensures)
          (sym c.in_ok-add_form.ensures.goes_on ∙ c.if-not-branch.false)))
          ∙ c.loop-before.invariant.1,
    )

pub loop-before-smaller : goal.loop-before-smaller
loop-before-smaller c = two_shorter _ _ _ c.in-Some.ensures c.in-Some-cut_at.ensures

pub returns-in_default-cut_at : goal.returns-in_default-cut_at
returns-in_default-cut_at c =
    let broken = piece.Broken (codes "%{" ++ c.in-Some.behind.now) in
    c.in_ok-add_broken.ensures ∙ ap (λ (ps : List Piece). ps ++ broken ∷ []) c.in_ok-push.ensures.items
    ∙ two_last c.loop-before.pieces.items (piece.Letters c.in_ok-from_str.field-0) broken
    ∙ ap (λ t. c.loop-before.pieces.items ++ (piece.Letters t ∷ broken ∷ [])) c.in_ok-from_str.ensures
    ∙ ap (λ ps. c.loop-before.pieces.items ++ ps)
    (sym (pieces_unclosed form_of _ _ c.in-Some.ensures c.in_default-cut_at.ensures))
    ∙ c.loop-before.invariant.1

pub returns-then-not-branch : goal.returns-then-not-branch
returns-then-not-branch c =
    let form = form_view c.form_of.result in
    c.in_ok-add_form.ensures.added
    ∙ ap (λ (ps : List Piece). ps ++ piece_in c.in-Some.behind.now form ∷ []) c.in_ok-push.ensures.items
    ∙ two_last c.loop-before.pieces.items (piece.Letters c.in_ok-from_str.field-0) (piece_in c.in-Some.behind.now form)
    ∙ ap (λ t. c.loop-before.pieces.items ++ (piece.Letters t ∷ piece_in c.in-Some.behind.now form ∷ []))
    c.in_ok-from_str.ensures
    ∙ ap (λ ps. c.loop-before.pieces.items ++ ps)
    (sym (pieces_last form_of _ _ _ form c.in-Some.ensures c.in-Some-cut_at.ensures
    (c.form_of.ensures ∙ ap form_of c.trimmed.ensures)
    (sym c.in_ok-add_form.ensures.goes_on ∙ c.if-not-branch.true)))
    ∙ c.loop-before.invariant.1

pub returns : goal.returns
returns c =
    c.in_ok-push-2.ensures.items
    ∙ ap (λ t. c.loop-before.pieces.items ++ piece.Letters t ∷ []) c.in_ok-from_str-2.ensures
    ∙ ap (λ ps. c.loop-before.pieces.items ++ ps) (sym (pieces_whole form_of _ c.in_default.ensures))
    ∙ c.loop-before.invariant.1
