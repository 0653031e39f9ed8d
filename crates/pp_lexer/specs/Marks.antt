-- Punctuation.
use Rattle.std.specs.Prelude.{◌≡◌, ℕ, ◌-◌, Bool, true, ◌&&◌, if◌then◌else◌, nat_eq, nat_lt, List, [], ◌∷◌, length, map}
use Rattle.std.specs.Prelude.{slice_index}
use Rattle.std.specs.List.{list_all, starts_with}
use Rattle.pp_lexer.specs.Fronts.{mark, bad}
use Rattle.pp_lexer.specs.declared.front.Front.{Front}
use Rattle.pp_lexer.specs.declared.kind.Kind.{Kind}
use Rattle.pp_lexer.specs.declared.marks.TheConstants.{MARKS}

-- the first mark of a table with which a text begins
abbrev pub first_mark : List (List ℕ × Kind) → List ℕ → Front
first_mark [] z = bad z
first_mark (m ∷ ms) z = if starts_with nat_eq z m.0 then mark m.1 (length m.0) else first_mark ms z

-- The punctuation at the front of a text: the first of the table, in which no mark stands behind one that it begins
-- with.
unfoldable pub punctuation : List ℕ → Front
punctuation = first_mark (map (λ m. (m.0.now, m.1)) MARKS)

-- whether a mark is not empty and ends in ASCII
abbrev pub ends_in_ascii : List ℕ × Kind → Bool
ends_in_ascii m = nat_lt 0 (length m.0) && nat_lt (slice_index m.0 (length m.0 - 1)) 128

abbrev pub AllEndInAscii : List (List ℕ × Kind) → Type 0
AllEndInAscii ms = list_all ends_in_ascii ms ≡ true
