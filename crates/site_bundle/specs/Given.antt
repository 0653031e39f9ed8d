-- The pairs of which a site is made.
use Rattle.std.specs.Prelude.{ℕ, ◌+◌, ◌-◌, ◌^◌, Bool, true, ◌&&◌, not, nat_lt, List, [], ◌∷◌, length, drop, codes}
use Rattle.std.specs.List.{list_all, list_any}
use Rattle.std.specs.Str.{bytes_eq}
use Rattle.pp_values.specs.declared.place.TheConstants.{MAIN_MANIFEST}

-- the pairs have the key
abbrev pub has_key : {X : Type 0} → List ℕ → List (List ℕ × X) → Bool
has_key key ps = list_any (λ p. bytes_eq key p.0) ps

-- no key comes twice
abbrev pub are_distinct : {X : Type 0} → List (List ℕ × X) → Bool
are_distinct [] = true
are_distinct (p ∷ ps) = not (has_key p.0 ps) && are_distinct ps

-- the main manifest is among the files, which are paths with texts
abbrev pub has_main : List (List ℕ × List ℕ) → Bool
has_main files = has_key MAIN_MANIFEST.now files

-- the path of a manifest ends in `.pp`; any other file is one of the site's data
abbrev pub is_manifest_path : List ℕ → Bool
is_manifest_path path = bytes_eq (drop (length path - 3) path) (codes ".pp")

-- places count the lines of each file in 32 bits
abbrev pub are_short : List (List ℕ × List ℕ) → Bool
are_short files = list_all (λ f. nat_lt (length f.1 + 1) (2 ^ 32)) files
