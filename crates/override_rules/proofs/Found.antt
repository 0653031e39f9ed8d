-- What a search among lines finds, and the members of a list.
use Rattle.std.proofs.Common.{◌≡◌, Bool, true, false, cond, List, [], ◌∷◌, Option, None, Some, option_map, find, refl, ap}
use Rattle.std.specs.Prelude.{option_copied}
use denote.Ref.{Bor}
use Rattle.pp_values.specs.Datum.{Datum, data_of, members_of}
use Rattle.override_rules.specs.Lines.{Line, line_of, lines_of}
use Rattle.override_rules.specs.declared.override_line.OverrideLine.{OverrideLine}

pub members-data : (ds : List Datum) → members_of (data_of ds) ≡ ds
members-data [] = refl
members-data (d ∷ ds) = ap (λ l. d ∷ l) (members-data ds)

pub seen_line : (o : Option (Bor OverrideLine)) → option_map (λ l. line_of l.now) o
    ≡ option_map line_of (option_copied o)
seen_line None = refl
seen_line (Some l) = refl

pub found_line : (test : Line → Bool) (xs : List OverrideLine) →
    find test (lines_of xs) ≡ option_map line_of (find (λ l. test (line_of l)) xs)
found_line test [] = refl
found_line test (x ∷ xs) =
    elim (test (line_of x)) as (λ b. cond b (Some (line_of x)) (find test (lines_of xs))
    ≡ option_map line_of (cond b (Some x) (find (λ l. test (line_of l)) xs)))
    [ true ↦ refl | false ↦ found_line test xs ]
