-- The files of a site's data, and the documents that they are.
use Rattle.std.specs.Prelude.{ℕ, Bool, nat_eq, List, [], ◌∷◌, Option, is_some, codes}
use Rattle.std.specs.List.{starts_with}
use Rattle.std.specs.FinMap.{find, put}
use Rattle.serde_json.specs.Data.{Data}
use Rattle.serde_json.specs.Find.{as_object}
use Rattle.pp_values.specs.Datum.{Datum}
use Rattle.pp_values.specs.Rising.{text_cmp}
use Rattle.json_values.specs.FromData.{data_value}
use Rattle.json_values.specs.declared.stops.Numbers.TheVariants as numbers

-- a path, and the text that stands there
abbrev pub File : Type 0
File = List ℕ × List ℕ

-- the text at a path, if a file stands there; the files stand by path in byte order
abbrev pub text_at : List ℕ → List File → Option (List ℕ)
text_at path files = find text_cmp path files

-- the files of these pairs, put in from the last to the first
unfoldable pub put_in : List File → List File → List File
put_in files [] = files
put_in files (p ∷ ps) = put text_cmp p.0 p.1 (put_in files ps)

-- whether a configuration that stands there is a module's
abbrev pub is_of_module : List ℕ → Bool
is_of_module path = starts_with nat_eq path (codes "modules/")

-- whether JSON is a document of data: an object
abbrev pub is_document : Data → Bool
is_document d = is_some (as_object d)

-- the value of a key of a document; None where a number within is no 64-bit integer
abbrev pub strict : Data → Option Datum
strict d = data_value numbers.Strict d
