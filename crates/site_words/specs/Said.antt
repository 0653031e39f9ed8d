-- What a command's words say, or the word that breaks the rule of its place.
use Rattle.std.specs.Prelude.{ℕ, Bool, false, if◌then◌else◌, codes, List, [], ◌∷◌, Option, Some, None, Result, Ok, Err}
use Rattle.std.specs.Prelude.{unwrap_or}
use Rattle.std.specs.Str.{bytes_eq}
use Rattle.clap.specs.Words.{Row, Text, first_of}
use Rattle.hiera_merge.specs.Options.{merge_named}
use Rattle.hiera_merge.specs.declared.merge.Merge.{Merge}
use Rattle.word_rules.specs.NodeNames.{is_node_name}
use Rattle.word_rules.specs.Numbers.{number_within}
use Rattle.word_rules.specs.declared.limits.TheConstants.{MOST_WORKERS}
use Rattle.site_words.specs.declared.ids.TheConstants.{NODE, KEY, MERGE, DIR, WORKERS}

-- Err has the word that breaks its rule
abbrev pub Said : Type 0 → Type 0
Said A = Result A Text

abbrev pub go_on : {A B : Type 0} → (A → Said B) → Said A → Said B
go_on next (Ok x) = next x
go_on next (Err word) = Err word

infixl 10 ◌>>=◌
abbrev pub ◌>>=◌ : {A B : Type 0} → Said A → (A → Said B) → Said B
said >>= next = go_on next said

-- a word that has to be there, which `clap` sees to
abbrev pub word_of : Text → List Row → Text
word_of id rows = unwrap_or (first_of id rows) []

abbrev pub node_said : Text → Said Text
node_said word = if is_node_name word then Ok word else Err word

abbrev pub node_in : List Row → Said Text
node_in rows = node_said (word_of NODE.now rows)

-- a key says something
abbrev pub key_said : Text → Said Text
key_said [] = Err []
key_said (b ∷ bs) = Ok (b ∷ bs)

abbrev pub key_in : List Row → Said Text
key_in rows = key_said (word_of KEY.now rows)

abbrev pub number_or : Text → Option ℕ → Said ℕ
number_or word None = Err word
number_or word (Some n) = Ok n

-- a number from 1 to this
abbrev pub number_said : ℕ → Text → Said ℕ
number_said most word = number_or word (number_within 1 most word)

abbrev pub number_in : Text → ℕ → List Row → Said ℕ
number_in id most rows = number_said most (word_of id rows)

abbrev pub merge_or : Text → Option Merge → Said (Option Merge)
merge_or word None = Err word
merge_or word (Some merge) = Ok (Some merge)

abbrev pub merge_said : Option Text → Said (Option Merge)
merge_said None = Ok None
merge_said (Some word) = merge_or word (merge_named word)

abbrev pub merge_in : List Row → Said (Option Merge)
merge_in rows = merge_said (first_of MERGE.now rows)

-- one worker, where nothing is said of them
abbrev pub workers_said : Option Text → Said ℕ
workers_said None = Ok 1
workers_said (Some word) = number_said MOST_WORKERS word

abbrev pub workers_in : List Row → Said ℕ
workers_in rows = workers_said (first_of WORKERS.now rows)

abbrev pub some_number : Said ℕ → Said (Option ℕ)
some_number (Ok n) = Ok (Some n)
some_number (Err word) = Err word

-- the workers that are said, if any are
abbrev pub given_workers_said : Option Text → Said (Option ℕ)
given_workers_said None = Ok None
given_workers_said (Some word) = some_number (number_said MOST_WORKERS word)

abbrev pub given_workers_in : List Row → Said (Option ℕ)
given_workers_in rows = given_workers_said (first_of WORKERS.now rows)

-- the folder that is named; any text names one
abbrev pub dir_in : List Row → Option Text
dir_in rows = first_of DIR.now rows

-- a flag that is there says so, by the value that `clap` gives it
abbrev pub flag_said : Option Text → Bool
flag_said None = false
flag_said (Some word) = bytes_eq word (codes "true")

abbrev pub flag_in : Text → List Row → Bool
flag_in id rows = flag_said (first_of id rows)
