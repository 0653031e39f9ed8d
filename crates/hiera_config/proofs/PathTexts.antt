-- The text of a path, written behind what stands there.
use Rattle.std.proofs.Common.{◌≡◌, ℕ, List, [], ◌∷◌, ◌++◌, Some, None, Ok, Err, refl, ap, sym, ◌∙◌, codes}
use Rattle.std.proofs.lemmas.List.{append_assoc, append-nil}
use Rattle.pp_values.specs.declared.fault.What.TheVariants as what
use Rattle.hiera_config.specs.declared.config.Level.{Level}
use Rattle.hiera_config.specs.declared.interpolation.Piece.{Piece}
use Rattle.hiera_config.specs.declared.interpolation.Piece.TheVariants as piece
use Rattle.hiera_config.specs.Cuts.{Cut, cut_at, trimmed}
use Rattle.hiera_config.specs.Meant.{go_on, in_turn}
use Rattle.hiera_config.specs.Pieces.{Form, variable, looked_up, said, alias, unlawful, path_form, path_pieces}
use Rattle.hiera_config.specs.Sources.{path_of, joined_path}
use Rattle.hiera_config.specs.Variables.{Variables, path_piece, path_text}
use Rattle.hiera_config.specs.Variables as variables
use Rattle.hiera_config.specs.Written.{piece_in}
use Rattle.hiera_config.proofs.PieceLemmas.{pieces_whole, pieces_unclosed, pieces_more, pieces_last}

module _ (v : Variables) where
  -- ---- behind other bytes

  written_behind : (a b : List ℕ) (ps : List Piece)
      → in_turn (path_piece v) (a ++ b) ps ≡ go_on (in_turn (path_piece v) b ps) (λ t. Ok (a ++ t))
  unfolding in_turn go_on
  written_behind a b [] = refl
  written_behind a b (piece.Letters t ∷ ps) =
      ap (λ x. in_turn (path_piece v) x ps) (append_assoc a b t) ∙ written_behind a (b ++ t) ps
  written_behind a b (piece.Reads name ∷ ps) =
      let t = variables.text_or_none (variables.variable v name) in
      ap (λ x. in_turn (path_piece v) x ps) (append_assoc a b t) ∙ written_behind a (b ++ t) ps
  written_behind a b (piece.Asks key ∷ ps) = written_behind a b ps
  written_behind a b (piece.Broken t ∷ ps) = refl

  behind_text : (out text : List ℕ)
      → in_turn (path_piece v) out (path_pieces text) ≡ go_on (path_text v text) (λ t. Ok (out ++ t))
  behind_text out text =
      ap (λ x. in_turn (path_piece v) x (path_pieces text)) (sym (append-nil out))
      ∙ written_behind out [] (path_pieces text)

  -- a path is written from the left to the right
  path_in_turn : (folder : List ℕ) (level : Level) (template : List ℕ)
      → path_of v folder level template
      ≡ go_on (in_turn (path_piece v) folder (path_pieces level.folder))
      (λ a. in_turn (path_piece v) (a ++ codes "/") (path_pieces template))
  unfolding go_on
  path_in_turn folder level template =
      elim (path_text v level.folder) as
      (λ o. go_on o (λ inner. go_on (path_text v template) (λ path. Ok (joined_path folder inner path)))
      ≡ go_on (go_on o (λ t. Ok (folder ++ t)))
      (λ a. in_turn (path_piece v) (a ++ codes "/") (path_pieces template))) [
        | Ok inner ↦ sym (behind_text (folder ++ inner ++ codes "/") template)
        | Err f ↦ refl
      ]
      ∙ ap (λ o. go_on o (λ a. in_turn (path_piece v) (a ++ codes "/") (path_pieces template)))
      (sym (behind_text folder level.folder))

  -- the same, of the texts that the code has
  pub path_is : (folder : List ℕ) (level : Level) (template start inner last : List ℕ) → start ≡ folder
      → inner ≡ level.folder → last ≡ template
      → path_of v folder level template
      ≡ go_on (in_turn (path_piece v) start (path_pieces inner))
      (λ a. in_turn (path_piece v) (a ++ codes "/") (path_pieces last))
  path_is folder level template start inner last e f g = rw (e, f, g) (path_in_turn folder level template)

  -- ---- what is left of a text

  pub text_whole : (out t : List ℕ) → None ≡ cut_at (codes "%{") t
      → in_turn (path_piece v) out (path_pieces t) ≡ Ok (out ++ t)
  unfolding in_turn go_on
  text_whole out t e = ap (in_turn (path_piece v) out) (pieces_whole path_form t e)

  pub text_unclosed : (out t : List ℕ) (c : Cut) → Some c ≡ cut_at (codes "%{") t → None ≡ cut_at (codes "}") c.1
      → in_turn (path_piece v) out (path_pieces t) ≡ Err (what.BadInterpolation (codes "%{" ++ c.1))
  unfolding in_turn go_on
  text_unclosed out t c e f = ap (in_turn (path_piece v) out) (pieces_unclosed path_form t c e f)

  opened_by : (out t : List ℕ) (c d : Cut) (f : Form) → Some c ≡ cut_at (codes "%{") t
      → Some d ≡ cut_at (codes "}") c.1 → f ≡ path_form (trimmed d.0)
      → in_turn (path_piece v) out (path_pieces t)
      ≡ go_on (path_piece v (out ++ c.0) (piece_in c.1 f)) (λ b. in_turn (path_piece v) b (path_pieces d.1))
  unfolding in_turn go_on
  opened_by out t c d (variable n) e g is =
      ap (in_turn (path_piece v) out) (pieces_more path_form t c d (variable n) e g is refl)
  opened_by out t c d (looked_up k) e g is =
      ap (in_turn (path_piece v) out) (pieces_more path_form t c d (looked_up k) e g is refl)
  opened_by out t c d (said s) e g is =
      ap (in_turn (path_piece v) out) (pieces_more path_form t c d (said s) e g is refl)
  opened_by out t c d (alias k) e g is =
      ap (in_turn (path_piece v) out) (pieces_last path_form t c d (alias k) e g is refl)
  opened_by out t c d unlawful e g is =
      ap (in_turn (path_piece v) out) (pieces_last path_form t c d unlawful e g is refl)

  pub text_opened : (out t written : List ℕ) (c d : Cut) (inner : List ℕ) → written ≡ out ++ c.0
      → Some c ≡ cut_at (codes "%{") t → Some d ≡ cut_at (codes "}") c.1 → inner ≡ trimmed d.0
      → in_turn (path_piece v) out (path_pieces t)
      ≡ go_on (path_piece v written (piece_in c.1 (path_form inner))) (λ b. in_turn (path_piece v) b (path_pieces d.1))
  text_opened out t written c d inner w e g is =
      opened_by out t c d (path_form inner) e g (ap path_form is)
      ∙ ap (λ x. go_on (path_piece v x (piece_in c.1 (path_form inner)))
      (λ b. in_turn (path_piece v) b (path_pieces d.1))) (sym w)

  pub text_more : (out t written : List ℕ) (c d : Cut) (inner b : List ℕ) → written ≡ out ++ c.0
      → Some c ≡ cut_at (codes "%{") t → Some d ≡ cut_at (codes "}") c.1 → inner ≡ trimmed d.0
      → path_piece v written (piece_in c.1 (path_form inner)) ≡ Ok b
      → in_turn (path_piece v) b (path_pieces d.1) ≡ in_turn (path_piece v) out (path_pieces t)
  unfolding go_on
  text_more out t written c d inner b w e g is made =
      sym (text_opened out t written c d inner w e g is
      ∙ ap (λ o. go_on o (λ x. in_turn (path_piece v) x (path_pieces d.1))) made)
