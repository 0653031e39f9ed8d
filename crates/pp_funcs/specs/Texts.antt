-- Functions of texts. Letters and white space are ASCII's; all other characters stay as they are.
use Rattle.std.specs.Prelude.{ℕ, ◌==◌, nat_le, Bool, ◌||◌, ◌&&◌, if◌then◌else◌, Result, Ok, Err, List, [], ◌∷◌, ◌++◌}
use Rattle.std.specs.Prelude.{codes}
use Rattle.std.specs.List.{flat_map, join_by}
use Rattle.std.specs.Str.{str_to_ascii_uppercase, str_to_ascii_lowercase}
use Rattle.pp_values.specs.Datum.{Datum, text}
use Rattle.pp_values.specs.TextOf.{text_of}
use Rattle.pp_funcs.specs.declared.refusal.Refusal.{Refusal}
use Rattle.pp_funcs.specs.declared.refusal.Refusal.TheVariants.{Arguments, Failed}

-- the texts of values, with another text before each
abbrev pub led : List ℕ → List Datum → List ℕ
led between ds = flat_map (λ d. between ++ text_of d) ds

-- the texts of the values, with one space between each two
abbrev pub joined : List Datum → List ℕ
joined ds = join_by text_of (codes " ") ds

-- a failure, whose message is the texts of the arguments
abbrev pub failure : List Datum → Result Datum Refusal
failure arguments = Err (Failed (joined arguments))

-- a function of a text
abbrev pub of_text : (List ℕ → List ℕ) → Datum → Result Datum Refusal
of_text f (text t) = Ok (text (f t))
of_text f d = Err Arguments

abbrev pub upcase : Datum → Result Datum Refusal
upcase d = of_text str_to_ascii_uppercase d

abbrev pub downcase : Datum → Result Datum Refusal
downcase d = of_text str_to_ascii_lowercase d

-- space, and tab, line feed, vertical tab, form feed and carriage return, which are 9 to 13
abbrev pub is_white : ℕ → Bool
is_white b = (b == 32) || (nat_le 9 b && nat_le b 13)

-- without the white space at the front
abbrev pub without_front : List ℕ → List ℕ
without_front [] = []
without_front (b ∷ bs) = if is_white b then without_front bs else b ∷ bs

-- a byte before what is left of the text behind it: white space is dropped where nothing is left
abbrev pub before : ℕ → List ℕ → List ℕ
before b [] = if is_white b then [] else b ∷ []
before b (c ∷ cs) = b ∷ c ∷ cs

-- without the white space at the end
abbrev pub without_back : List ℕ → List ℕ
without_back [] = []
without_back (b ∷ bs) = before b (without_back bs)

abbrev pub stripped : List ℕ → List ℕ
stripped t = without_back (without_front t)

abbrev pub strip : Datum → Result Datum Refusal
strip d = of_text stripped d
