-- Look-ups, and the look-ups within them.
use Rattle.std.specs.Prelude.{ℕ, zero, suc, Bool, true, false, if◌then◌else◌, List, [], ◌∷◌, ◌++◌, Option, Some, None}
use Rattle.std.specs.Prelude.{Ok, Err}
use Rattle.std.specs.List.{list_any}
use Rattle.std.specs.Str.{bytes_eq}
use Rattle.pp_values.specs.declared.fault.What.TheVariants as what
use Rattle.pp_values.specs.Datum.{Datum}
use Rattle.hiera_config.specs.Meant.{Meant, go_on}
use Rattle.hiera_config.specs.Sources.{module_of}
use Rattle.hiera_merge.specs.declared.merge.Merge.{Merge}
use Rattle.hiera_merge.specs.declared.merge.Merge.TheVariants as by
use Rattle.hiera_lookup.specs.declared.asking.Ask.{Ask}
use Rattle.hiera_lookup.specs.declared.asking.Ask.TheVariants as ask
use Rattle.hiera_lookup.specs.Asks.{asks}
use Rattle.hiera_lookup.specs.Filled.{Answer, answer_to, filled}
use Rattle.hiera_lookup.specs.Found.{root_of, found}
use Rattle.hiera_lookup.specs.Looked.{Found}
use Rattle.hiera_lookup.specs.Options.{options_key, option_in}
use Rattle.hiera_lookup.specs.World.{World}

-- a look-up within others: the keys that are being looked up, the module whose layers count, the key, and the merge
-- where the call gives one
abbrev pub Looks : Type 0
Looks = List (List ℕ) → Option (List ℕ) → List ℕ → Option Merge → Meant Found

abbrev pub is_busy : List (List ℕ) → List ℕ → Bool
is_busy busy key = list_any (λ k. bytes_eq k key) busy

-- ---- interpolation: what a value asks for is looked up first, in order, and then it is filled in

unfoldable pub answer : Looks → List (List ℕ) → Ask → Meant Answer
answer look busy (ask.Key key) = go_on (look busy (module_of key) key None) (λ found. Ok (key, found.0))
answer look busy (ask.Broken text) = Err (what.BadInterpolation text)

-- behind those that are there already; the first fault counts
unfoldable pub answers : Looks → List (List ℕ) → List Answer → List Ask → Meant (List Answer)
answers look busy done [] = Ok done
answers look busy done (a ∷ rest) = go_on (answer look busy a) (λ x. answers look busy (done ++ x ∷ []) rest)

unfoldable pub interpolated : World → Looks → List (List ℕ) → Option Datum → Meant Found
interpolated w look busy None = Ok (None, [])
interpolated w look busy (Some d) =
    go_on (answers look busy [] (asks d)) (λ table. Ok (Some (filled w.reads (answer_to table) d), table))

-- ---- the merge: the call's, else the one that `lookup_options` gives for the root key

-- `lookup_options` are looked up over the same layers, and merged by `hash` themselves
unfoldable pub option_for : World → Looks → List (List ℕ) → Option (List ℕ) → List ℕ → Meant Merge
option_for w look busy of_module root =
    if bytes_eq root options_key then Ok by.Hash
    else go_on (look busy of_module options_key (Some by.Hash)) (option_in w of_module root)

unfoldable pub merge_for : World → Looks → List (List ℕ) → Option (List ℕ) → List ℕ → Option Merge → Meant Merge
merge_for w look busy of_module key (Some merge) = Ok merge
merge_for w look busy of_module key None = option_for w look busy of_module (root_of key)

-- ---- one look-up, by those within it

unfoldable pub look_within : World → Looks → Looks
look_within w look busy of_module key merge =
    go_on (merge_for w look busy of_module key merge) (λ m. go_on (found w of_module key m) (interpolated w look busy))

-- a key that is being looked up is not looked up once more
abbrev pub unless_busy : Bool → World → Looks → Looks
unless_busy true w look busy of_module key merge = Err (what.LookupLoop key)
unless_busy false w look busy of_module key merge = look_within w look (busy ++ key ∷ []) of_module key merge

-- by how many look-ups may still begin within one another; a key that is being looked up comes before their limit
unfoldable pub look : World → ℕ → Looks
look w zero busy of_module key merge = if is_busy busy key then Err (what.LookupLoop key) else Err what.DepthLimit
look w (suc n) busy of_module key merge = unless_busy (is_busy busy key) w (look w n) busy of_module key merge

-- ---- the whole

-- look-ups stand within one another this many deep, each `lookup_options` included
abbrev pub limit : ℕ
limit = 200

abbrev pub looked_up : World → List ℕ → Option Merge → Meant (Option Datum)
looked_up w key merge = go_on (look w limit [] (module_of key) key merge) (λ found. Ok found.0)
