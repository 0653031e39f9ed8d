-- What a value looks up, in the order of its texts.
use Rattle.std.specs.Prelude.{ℕ, List, [], ◌∷◌, ◌++◌, Option, Some, None}
use Rattle.std.specs.List.{flat_map}
use Rattle.pp_values.specs.Datum.{Datum, text, list, hash, Data, no_data, datum, Entries, no_entries, entry}
use Rattle.hiera_config.specs.declared.interpolation.Piece.{Piece}
use Rattle.hiera_config.specs.declared.interpolation.Piece.TheVariants as piece
use Rattle.hiera_config.specs.Pieces.{pieces, whole_alias}
use Rattle.hiera_lookup.specs.declared.asking.Ask.{Ask}
use Rattle.hiera_lookup.specs.declared.asking.Ask.TheVariants as ask

abbrev pub piece_asks : Piece → List Ask
piece_asks (piece.Letters t) = []
piece_asks (piece.Reads name) = []
piece_asks (piece.Asks key) = ask.Key key ∷ []
piece_asks (piece.Broken t) = ask.Broken t ∷ []

-- by the key, where the whole text is an alias
abbrev pub asks_by : Option (List ℕ) → List ℕ → List Ask
asks_by (Some key) t = ask.Key key ∷ []
asks_by None t = flat_map piece_asks (pieces t)

abbrev pub text_asks : List ℕ → List Ask
text_asks t = asks_by (whole_alias t) t

abbrev mutual
  pub asks : Datum → List Ask
  asks (text t) = text_asks t
  asks (list ds) = list_asks ds
  asks (hash es) = pair_asks es
  asks d = []

  pub list_asks : Data → List Ask
  list_asks no_data = []
  list_asks (datum d ds) = asks d ++ list_asks ds

  pub pair_asks : Entries → List Ask
  pair_asks no_entries = []
  pair_asks (entry k v es) = asks k ++ (asks v ++ pair_asks es)
