-- What the fields of a head say, each of them given as its name and its value without the white space around it.
use Rattle.std.specs.Prelude.{ℕ, ◌+◌, ◌*◌, ◌-◌, ◌^◌, Bool, ◌==◌, ◌&&◌, ◌||◌, if◌then◌else◌, nat_lt, List, [], ◌∷◌, map}
use Rattle.std.specs.Prelude.{codes, Option, None, Some, option_and_then}
use Rattle.std.specs.List.{list_any, slice_split}
use Rattle.std.specs.Char.{is_ascii_digit}
use Rattle.std.specs.Str.{str_eq_ignore_ascii_case}
use Rattle.httparse.specs.Grammar.{RequestHead, trim_ows}
use Rattle.httparse.specs.Spans.{name_and_value}

abbrev pub NameAndValue : Type 0
NameAndValue = List ℕ × List ℕ

-- the fields of a head, in their order
abbrev pub fields_of : RequestHead → List NameAndValue
fields_of head = map name_and_value head.fields

-- the values of the fields of this name, whatever the case of its letters
abbrev pub values : List ℕ → List NameAndValue → List (List ℕ)
values name [] = []
values name (f ∷ fs) = if str_eq_ignore_ascii_case f.0 name then f.1 ∷ values name fs else values name fs

abbrev pub first : {A : Type 0} → List A → Option A
first [] = None
first (x ∷ xs) = Some x

-- ---- how long the body is

-- A number with one more digit. There is none where the byte is no digit, or where the number no longer fits 32 bits:
-- more digits make no number smaller.
abbrev pub with_digit : ℕ → ℕ → Option ℕ
with_digit n b = if is_ascii_digit b && nat_lt (n * 10 + (b - 48)) (2 ^ 32) then Some (n * 10 + (b - 48)) else None

abbrev pub number_from : ℕ → List ℕ → Option ℕ
number_from n [] = Some n
number_from n (b ∷ digits) = option_and_then (λ m. number_from m digits) (with_digit n b)

-- the number of 32 bits that is written so: digits alone, one at least, and zeros may come first
abbrev pub number : List ℕ → Option ℕ
number [] = None
number (b ∷ digits) = number_from 0 (b ∷ digits)

-- what the fields `Content-Length` say, which there may be one of
abbrev pub length_said : List (List ℕ) → Option ℕ
length_said [] = Some 0
length_said (digits ∷ []) = number digits
length_said (digits ∷ more ∷ others) = None

-- a body of unknown length, in the transfer encoding of the first field, is not read
abbrev pub length_unless_encoded : Option (List ℕ) → List (List ℕ) → Option ℕ
length_unless_encoded None lengths = length_said lengths
length_unless_encoded (Some encoding) lengths = None

-- how many bytes the body has; none where the fields are faulty
abbrev pub body_length : List NameAndValue → Option ℕ
body_length fields =
    length_unless_encoded (first (values (codes "transfer-encoding") fields)) (values (codes "content-length") fields)

-- ---- whether the connection closes

abbrev pub is_comma : ℕ → Bool
is_comma b = b == 44

abbrev pub is_close : List ℕ → Bool
is_close member = str_eq_ignore_ascii_case (trim_ows member) (codes "close")

-- `close` is among the members, which stand between commas with spaces and tabs around them
abbrev pub has_close : List ℕ → Bool
has_close members = list_any is_close (slice_split is_comma members)

abbrev pub asks_to_close : List NameAndValue → Bool
asks_to_close fields = list_any has_close (values (codes "connection") fields)

-- after the answer to a request of version 1.0, and to one with `close` in some field `Connection`
abbrev pub closes : ℕ → List NameAndValue → Bool
closes minor fields = minor == 0 || asks_to_close fields

-- ---- how many entries the sender has seen

-- `?` for a byte past ASCII
abbrev pub as_ascii : ℕ → ℕ
as_ascii b = if nat_lt b 128 then b else 63

abbrev pub seen_said : Option (List ℕ) → Option (List ℕ)
seen_said None = None
seen_said (Some value) = Some (map as_ascii value)

-- the first field `Site-Seen`
abbrev pub seen : List NameAndValue → Option (List ℕ)
seen fields = seen_said (first (values (codes "site-seen") fields))
