-- Flags by which keys are told that a document surely lacks.
use Rattle.std.specs.Prelude.{◌≡◌, ℕ, ◌+◌, ◌*◌, ◌%◌, ◌^◌, Bool, true, false, List, [], ◌∷◌, length, Option, None, Some}
use Rattle.std.specs.Prelude.{slice_get, slice_set}
use Rattle.serde_json.specs.Data.{Data, Members, no_members, member}
use Rattle.serde_json.specs.Find.{get}
use Rattle.hiera_config.specs.Documents.{is_document}

-- a number that is the same for equal keys
abbrev pub mark_from : ℕ → List ℕ → ℕ
mark_from mark [] = mark
mark_from mark (b ∷ bs) = mark_from (((mark * 33) % 2 ^ 64 + b) % 2 ^ 64) bs

abbrev pub mark_of : List ℕ → ℕ
mark_of key = mark_from 5381 key

-- flags of no keys say nothing
abbrev pub or_true : Option Bool → Bool
or_true None = true
or_true (Some flag) = flag

abbrev pub may_have : List Bool → ℕ → Bool
may_have flags mark = or_true (slice_get flags (mark % length flags))

abbrev pub with_flag : List Bool → ℕ → List Bool
with_flag flags mark = slice_set flags (mark % length flags) true

-- with those of all keys
abbrev pub flagged : List Bool → Members → List Bool
flagged flags no_members = flags
flagged flags (member name d ms) = flagged (with_flag flags (mark_of name)) ms

-- it is a document, and has no such key
abbrev pub HasNo : List ℕ → Option Data → Type 0
HasNo key None = ⊥
HasNo key (Some d) = (is_document d ≡ true) × (get key d ≡ None)

-- a key whose flag is not set is none of the document's
abbrev pub Knows : List Bool → Option Data → Type 0
Knows flags o = (key : List ℕ) → may_have flags (mark_of key) ≡ false → HasNo key o
