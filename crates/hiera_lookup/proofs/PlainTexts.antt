-- Texts that interpolate nothing: they ask for nothing, and stand for themselves.
use Rattle.std.proofs.Common.{◌≡◌, ℕ, false, List, [], is_some, ap, ◌∙◌, codes}
use Rattle.std.specs.List.{flat_map}
use Rattle.std.proofs.lemmas.List.{append-nil}
use Rattle.pp_values.specs.Datum.{text}
use Rattle.hiera_config.specs.Cuts.{cut_at}
use Rattle.hiera_config.proofs.PlainTexts.{plain_pieces, plain_alias}
use Rattle.hiera_lookup.specs.Asks.{piece_asks, asks_by, text_asks}
use Rattle.hiera_lookup.specs.Filled.{Gives, piece_text, filled_by, text_filled}

pub plain_asks : (t : List ℕ) → is_some (cut_at (codes "%{") t) ≡ false → text_asks t ≡ []
plain_asks t e = ap (λ o. asks_by o t) (plain_alias t e) ∙ ap (flat_map piece_asks) (plain_pieces t e)

pub plain_filled : (reads looks : Gives) (t : List ℕ) → is_some (cut_at (codes "%{") t) ≡ false
    → text_filled reads looks t ≡ text t
plain_filled reads looks t e =
    ap (λ o. filled_by reads looks o t) (plain_alias t e)
    ∙ ap (λ ps. text (flat_map (piece_text reads looks) ps)) (plain_pieces t e) ∙ ap text (append-nil t)
