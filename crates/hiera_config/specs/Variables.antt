-- The variables of data and of paths.
use Rattle.std.specs.Prelude.{ℕ, if◌then◌else◌, List, [], ◌∷◌, ◌++◌, map, Option, None, Some, option_and_then, Ok, Err}
use Rattle.std.specs.Str.{bytes_eq}
use Rattle.pp_values.specs.Datum.{Datum, undef, list, hash, Pair, data_of, members_of, pairs_of}
use Rattle.pp_values.specs.TextOf.{text_of}
use Rattle.scope_core.specs.Scopes.{Scopes, found}
use Rattle.hiera_merge.specs.Digging.{parts, root, steps, dug}
use Rattle.hiera_config.specs.Meant.{Meant, in_turn}
use Rattle.hiera_config.specs.declared.interpolation.Piece.{Piece}
use Rattle.hiera_config.specs.declared.interpolation.Piece.TheVariants as piece
use Rattle.hiera_config.specs.Pieces.{path_pieces}
use Rattle.pp_values.specs.declared.fault.What.TheVariants as what

-- the value of a name, where it has one
abbrev pub Variables : Type 0
Variables = List ℕ → Option Datum

-- as they are read in a scope
abbrev pub in_scope : ℕ → Scopes → Variables
in_scope scope scopes = λ name. found scope name scopes

-- with one name that hides the variable of its name
abbrev pub hiding : List ℕ → Datum → Variables → Variables
hiding hidden d variables = λ name. if bytes_eq hidden name then Some d else variables name

-- the value of `name.key`, where there is one
abbrev pub variable : Variables → List ℕ → Option Datum
variable variables name = option_and_then (dug (steps (parts name))) (variables (root (parts name)))

-- its text: nothing where it is missing
abbrev pub text_or_none : Option Datum → List ℕ
text_or_none None = []
text_or_none (Some d) = text_of d

-- ---- texts of paths

abbrev pub path_piece : Variables → List ℕ → Piece → Meant (List ℕ)
path_piece variables out (piece.Letters t) = Ok (out ++ t)
path_piece variables out (piece.Reads name) = Ok (out ++ text_or_none (variable variables name))
path_piece variables out (piece.Asks key) = Ok out
path_piece variables out (piece.Broken text) = Err (what.BadInterpolation text)

-- the text, with its variables filled in
abbrev pub path_text : Variables → List ℕ → Meant (List ℕ)
path_text variables text = in_turn (path_piece variables) [] (path_pieces text)

-- ---- mapped paths

abbrev pub pair_list : Pair → Datum
pair_list p = list (data_of (p.0 ∷ p.1 ∷ []))

-- for what there is a path: nothing for a missing variable, each member of a list, each pair of a hash, another value
abbrev pub mapped_values : Option Datum → List Datum
mapped_values None = []
mapped_values (Some undef) = []
mapped_values (Some (list ds)) = members_of ds
mapped_values (Some (hash es)) = map pair_list (pairs_of es)
mapped_values (Some d) = d ∷ []
