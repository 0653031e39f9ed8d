-- An input that is a journal and, in one line behind it, a list of requests.
use Rattle.std.specs.Prelude.{ℕ, ◌-◌, ◌==◌, nat_eq, Bool, true, ◌&&◌, if◌then◌else◌, codes, List, [], ◌∷◌, length, take}
use Rattle.std.specs.Prelude.{Result, Err}
use Rattle.std.specs.List.{starts_with}
use Rattle.res_core.specs.Asked.{Asked}
use Rattle.site_bundle.specs.Bundles.{request_list}
use Rattle.site_bundle.specs.Refusals.{Refusal, bad_shape}

-- what stands behind the first line feed
abbrev pub behind_line : List ℕ → List ℕ
behind_line [] = []
behind_line (b ∷ bs) = if b == 10 then bs else behind_line bs

-- the last line of a journal, which tells how many entries there are, begins so, and no other line of one does
abbrev pub is_last_line : List ℕ → Bool
is_last_line bytes = starts_with nat_eq bytes (codes "{\"entries\":")

-- what stands behind the first such line, where `begins` says whether the bytes begin a line
unfoldable pub behind_last : Bool → List ℕ → List ℕ
behind_last begins [] = []
behind_last begins (b ∷ bs) =
    if begins && is_last_line (b ∷ bs) then behind_line (b ∷ bs) else behind_last (b == 10) bs

abbrev pub requests_part : List ℕ → List ℕ
requests_part bytes = behind_last true bytes

-- the bytes up to there
abbrev pub journal_part : List ℕ → List ℕ
journal_part bytes = take (length bytes - length (requests_part bytes)) bytes

-- the requests of bytes behind whose first line nothing stands
abbrev pub asked_before : List ℕ → List ℕ → Result (List Asked) Refusal
asked_before [] bytes = request_list bytes
asked_before (b ∷ bs) bytes = Err (bad_shape (codes "requests"))

abbrev pub asked_in_line : List ℕ → Result (List Asked) Refusal
asked_in_line bytes = asked_before (behind_line bytes) bytes

-- the requests behind the journal, or the first thing that is wrong with them
abbrev pub requests_said : List ℕ → Result (List Asked) Refusal
requests_said bytes = asked_in_line (requests_part bytes)
