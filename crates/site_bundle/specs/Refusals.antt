-- Why bytes are no bundle, and what a reader may answer.
use Rattle.std.specs.Prelude.{◌≡◌, ℕ, List, ◌++◌, codes, decimal, Result, Ok, Err}
use Rattle.site_bundle.specs.declared.bundle_stop.BundleStop.{BundleStop}
use Rattle.site_bundle.specs.declared.bundle_stop.BundleStop.TheVariants as stop

pub data Refusal : Type 0 where
  -- no text in UTF-8 that is JSON
  not_json : Refusal
  -- what stands at this path is not of its kind, or is missing
  bad_shape : List ℕ → Refusal
  -- what stands at this path is longer than it may be
  too_large : List ℕ → Refusal

-- what comes next, unless there was a refusal
abbrev pub result_and_then : {A B : Type 0} → (A → Result B Refusal) → Result A Refusal → Result B Refusal
result_and_then f (Ok x) = f x
result_and_then f (Err r) = Err r

-- the path of what stands under this key
abbrev pub under : List ℕ → List ℕ → List ℕ
under path key = path ++ (codes "." ++ key)

-- the path of the request with this number, counted from 0
abbrev pub request_path : ℕ → List ℕ
request_path index = under (codes "requests") (decimal index)

-- the line that tells why no bundle was read, without a line feed
abbrev pub stop_line : BundleStop → List ℕ
stop_line stop.NotJson = codes "B1"
stop_line (stop.BadShape path) = codes "B2 " ++ path
stop_line (stop.TooLarge path) = codes "B3 " ++ path
stop_line (stop.TreeFault path) = codes "tree fault " ++ path
stop_line stop.Memory = codes "memory"

-- a reader's refusal is this one, unless memory ran out
abbrev pub Tells : BundleStop → Refusal → Type 0
Tells stop.NotJson r = r ≡ not_json
Tells (stop.BadShape path) r = r ≡ bad_shape path
Tells (stop.TooLarge path) r = r ≡ too_large path
Tells (stop.TreeFault path) r = ⊥
Tells stop.Memory r = Unit {0}

-- what is meant is this refusal, unless memory ran out
abbrev pub Refuses : {A : Type 0} → BundleStop → Result A Refusal → Type 0
Refuses stop.NotJson meant = meant ≡ Err not_json
Refuses (stop.BadShape path) meant = meant ≡ Err (bad_shape path)
Refuses (stop.TooLarge path) meant = meant ≡ Err (too_large path)
Refuses (stop.TreeFault path) meant = ⊥
Refuses stop.Memory meant = Unit {0}

-- exactly what is meant, where a value is seen as `shown` says, unless memory ran out
abbrev pub ReadsAs : {A B : Type 0} → (A → B) → Result A BundleStop → Result B Refusal → Type 0
ReadsAs shown (Ok x) meant = meant ≡ Ok (shown x)
ReadsAs shown (Err s) meant = Refuses s meant

abbrev pub Reads : {A : Type 0} → Result A BundleStop → Result A Refusal → Type 0
Reads result meant = ReadsAs (λ x. x) result meant
