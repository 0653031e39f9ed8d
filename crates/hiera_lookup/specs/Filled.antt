-- A value with what it reads and looks up in its places.
use Rattle.std.specs.Prelude.{ℕ, if◌then◌else◌, List, [], ◌∷◌, Option, Some, None}
use Rattle.std.specs.List.{flat_map}
use Rattle.std.specs.Str.{bytes_eq}
use Rattle.pp_values.specs.Datum.{Datum, int, text, list, hash, Data, no_data, datum, Entries, no_entries, entry, Pair}
use Rattle.pp_values.specs.Datum.{entries_of}
use Rattle.pp_values.specs.Keys.{with_pair}
use Rattle.pp_values.specs.TextOf.{text_of}
use Rattle.hiera_config.specs.declared.interpolation.Piece.{Piece}
use Rattle.hiera_config.specs.declared.interpolation.Piece.TheVariants as piece
use Rattle.hiera_config.specs.Pieces.{pieces, whole_alias}

-- a key, and what was found for it
abbrev pub Answer : Type 0
Answer = List ℕ × Option Datum

-- what a name or a key gives, if it has a value
abbrev pub Gives : Type 0
Gives = List ℕ → Option Datum

abbrev pub answer_to : List Answer → Gives
answer_to [] key = None
answer_to (a ∷ more) key = if bytes_eq a.0 key then a.1 else answer_to more key

-- a missing value is the empty text
abbrev pub said : Option Datum → List ℕ
said None = []
said (Some d) = text_of d

abbrev pub or_empty : Option Datum → Datum
or_empty None = text []
or_empty (Some d) = d

-- by the values of variables and of keys
abbrev pub piece_text : Gives → Gives → Piece → List ℕ
piece_text reads looks (piece.Letters t) = t
piece_text reads looks (piece.Reads name) = said (reads name)
piece_text reads looks (piece.Asks key) = said (looks key)
piece_text reads looks (piece.Broken t) = []

-- by the key, where the whole text is an alias: then it is the value itself
abbrev pub filled_by : Gives → Gives → Option (List ℕ) → List ℕ → Datum
filled_by reads looks (Some key) t = or_empty (looks key)
filled_by reads looks None t = text (flat_map (piece_text reads looks) (pieces t))

abbrev pub text_filled : Gives → Gives → List ℕ → Datum
text_filled reads looks t = filled_by reads looks (whole_alias t) t

-- a key of a hash: an integer or a text stands for itself, another value for its text
abbrev pub as_key : Datum → Datum
as_key (int z) = int z
as_key (text t) = text t
as_key d = text (text_of d)

abbrev mutual
  pub filled : Gives → Gives → Datum → Datum
  filled reads looks (text t) = text_filled reads looks t
  filled reads looks (list ds) = list (list_filled reads looks ds)
  filled reads looks (hash es) = hash (entries_of (pairs_filled reads looks es []))
  filled reads looks d = d

  pub list_filled : Gives → Gives → Data → Data
  list_filled reads looks no_data = no_data
  list_filled reads looks (datum d ds) = datum (filled reads looks d) (list_filled reads looks ds)

  -- of keys that are the same then, the first one's place and the last one's value
  pub pairs_filled : Gives → Gives → Entries → List Pair → List Pair
  pairs_filled reads looks no_entries out = out
  pairs_filled reads looks (entry k v es) out =
      pairs_filled reads looks es (with_pair (as_key (filled reads looks k)) (filled reads looks v) out)
