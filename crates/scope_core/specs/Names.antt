-- Names and their values: by name in byte order, each name once.
use Rattle.std.specs.Prelude.{ℕ, ◌+◌, ◌==◌, Bool, false, ◌&&◌, if◌then◌else◌}
use Rattle.std.specs.Prelude.{Option, None, Some, List, [], ◌∷◌, take, drop}
use Rattle.std.specs.BTreeMap.{insert_entry}
use Rattle.std.specs.Char.{is_ascii_uppercase}
use Rattle.std.specs.List.{list_any}
use Rattle.std.specs.Map.{lookup}
use Rattle.std.specs.Ordering.{is_eq}
use Rattle.std.specs.Str.{str_eq_ignore_ascii_case}
use Rattle.pp_values.specs.Rising.{text_cmp}

abbrev pub Name : Type 0
Name = List ℕ

-- the value of a name, letter by letter
abbrev pub value_of : {T : Type 0} → Name → List (Name × T) → Option T
value_of x = lookup (λ y. is_eq (text_cmp x y))

-- the same, where the case of ASCII letters does not count
abbrev pub folded_value_of : {T : Type 0} → Name → List (Name × T) → Option T
folded_value_of x = lookup (str_eq_ignore_ascii_case x)

-- the names, with a value set
abbrev pub with_value : {T : Type 0} → Name → T → List (Name × T) → List (Name × T)
with_value x v names = insert_entry text_cmp names x v

-- ---- a name as it is written after `$`: `x`, `::x`, `c::x`

abbrev pub is_colon : ℕ → Bool
is_colon b = b == 58

-- `::` stands here
abbrev pub is_cut : Name → Bool
is_cut (a ∷ b ∷ bs) = (a == 58) && (b == 58)
is_cut bs = false

-- the place of the last `::`: in these bytes, which begin at `at`, or else where one was found before
unfoldable pub last_cut : ℕ → Name → Option ℕ → Option ℕ
last_cut at [] found = found
last_cut at (b ∷ bs) found = last_cut (at + 1) bs (if is_cut (b ∷ bs) then Some at else found)

abbrev pub cut_at : Name → Option ℕ → Option (Name × Name)
cut_at x None = None
cut_at x (Some p) = Some (take p x, drop (p + 2) x)

-- what stands before the last `::` and behind it, where there is one
abbrev pub cut : Name → Option (Name × Name)
cut x = cut_at x (last_cut 0 x None)

abbrev pub without_front_colons : Name → Name
without_front_colons [] = []
without_front_colons (a ∷ []) = a ∷ []
without_front_colons (a ∷ b ∷ bs) = if (a == 58) && (b == 58) then bs else a ∷ b ∷ bs

-- The value of a class, whose name stands among these in lower case. Of its name here a leading `::` and the case of
-- ASCII letters do not count.
abbrev pub value_of_class : {T : Type 0} → Name → List (Name × T) → Option T
value_of_class c classes =
    if list_any is_ascii_uppercase c
    then folded_value_of (without_front_colons c) classes
    else value_of (without_front_colons c) classes
