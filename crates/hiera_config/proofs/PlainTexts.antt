-- Texts that interpolate nothing.
use Rattle.std.proofs.Common.{◌≡◌, ℕ, true, false, if◌then◌else◌, nat_eq, List, [], ◌∷◌, length, drop, Option, Some, None, option_map, is_some, refl, codes}
use Rattle.std.specs.List.{starts_with}
use Rattle.hiera_config.specs.declared.interpolation.Piece.TheVariants as piece
use Rattle.hiera_config.specs.Cuts.{longer, cut_at}
use Rattle.hiera_config.specs.Pieces.{form_of, pieces, whole_alias}
use Rattle.hiera_config.proofs.PieceLemmas.{pieces_whole}

none_of : {A : Type 0} → (o : Option A) → is_some o ≡ false → None ≡ o
none_of None e = refl
none_of (Some a) e = absurd (cc e)

no_front : (t : List ℕ) → is_some (cut_at (codes "%{") t) ≡ false → starts_with nat_eq t (codes "%{") ≡ false
unfolding cut_at
no_front [] e = refl
no_front (b ∷ bs) e =
    elim (starts_with nat_eq (b ∷ bs) (codes "%{")) as
    (λ s. is_some (if s then Some ([], drop (length (codes "%{")) (b ∷ bs))
    else option_map (longer b) (cut_at (codes "%{") bs)) ≡ false → s ≡ false) [
      | true ↦ λ h. absurd (cc h)
      | false ↦ λ h. refl
    ] e

-- it is its one piece, and no alias
pub plain_pieces : (t : List ℕ) → is_some (cut_at (codes "%{") t) ≡ false → pieces t ≡ piece.Letters t ∷ []
plain_pieces t e = pieces_whole form_of t (none_of (cut_at (codes "%{") t) e)

pub plain_alias : (t : List ℕ) → is_some (cut_at (codes "%{") t) ≡ false → whole_alias t ≡ None
unfolding whole_alias
plain_alias t e = rw (no_front t e) refl
