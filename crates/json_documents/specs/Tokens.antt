-- What is written of JSON, as the tokens of its text.
use Rattle.std.specs.Prelude.{ℕ, List, [], ◌∷◌, ◌++◌, codes}
use Rattle.json.specs.Token.{Token}
use Rattle.json.specs.Tree.{json_tokens}
use Rattle.serde_json.specs.Data.{Data, number, unsigned}
use Rattle.serde_json.specs.Written.{outline, compact_text}

abbrev pub data_tokens : Data → List Token
data_tokens d = json_tokens (outline d)

-- what stands before the keys and values of a hash whose keys are no names in order
abbrev pub long_begins : List Token
long_begins =
    Token.begin_object ∷ Token.key (codes "__ptype") ∷ Token.string (codes "Hash") ∷ Token.key (codes "__pvalue") ∷
    Token.begin_array ∷ []

-- a number of a document that counts something
abbrev pub index_data : ℕ → Data
index_data i = number (unsigned i)

-- a line of a document: compact JSON with a line feed at its end
abbrev pub line : Data → List ℕ
line d = compact_text d ++ 10 ∷ []
