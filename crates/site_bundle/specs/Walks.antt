-- A walk over a tree of files: the calls that it makes, one after another, and what becomes of each answer.
use Rattle.std.specs.Prelude.{◌≡◌, ◌⊎◌, ℕ, ◌≤◌, Bool, true, false, if◌then◌else◌, nat_le, List, [], ◌∷◌, length, Option, None, Some}
use Rattle.std.specs.Prelude.{Result, Ok, Err, IsTrue, IfSome}
use Rattle.std.specs.Option.{unwrap_or}
use Rattle.pp_values.specs.Rising.{is_rising}
use Rattle.site_io.specs.Folders.{Folder, Held, Call, HasMade, IsSameFolder, names_at, bytes_at}
use Rattle.site_io.specs.Stream.{Rose}
use Rattle.site_bundle.specs.declared.bundle_stop.BundleStop.{BundleStop}
use Rattle.site_bundle.specs.declared.bundle_stop.BundleStop.TheVariants as stop
use Rattle.site_bundle.specs.declared.limits.TheConstants.{MOST_FILE_BYTES}
use Rattle.site_bundle.specs.Refusals.{Refusal, not_json, bad_shape, too_large}

-- what a tree answers where a file is read
pub data Answer : Type 0 where
  bytes : List ℕ → Answer
  missing : Answer
  longer : Answer

pub data Walk (A : Type 0) : Type 0 where
  -- there is no more to ask
  done : A → Walk A
  -- something is wrong, so nothing more is asked
  refused : Refusal → Walk A
  -- the folder at this path is listed: its names, or none where there is no such folder
  listing : List ℕ → (Option (List (List ℕ)) → Walk A) → Walk A
  -- the file at this path is read
  reading : List ℕ → (Answer → Walk A) → Walk A

-- one walk, and then another one with what it came to
unfoldable pub walk_then : {A B : Type 0} → (A → Walk B) → Walk A → Walk B
walk_then f (done x) = f x
walk_then f (refused why) = refused why
walk_then f (listing path next) = listing path (λ names. walk_then f (next names))
walk_then f (reading path next) = reading path (λ answer. walk_then f (next answer))

-- steps one after another, each with what the ones before it came to
unfoldable pub in_turn : {A : Type 0} → List (A → Walk A) → A → Walk A
in_turn [] x = done x
in_turn (step ∷ steps) x = walk_then (in_turn steps) (step x)

abbrev pub walk_of : {A : Type 0} → Result A Refusal → Walk A
walk_of (Ok x) = done x
walk_of (Err why) = refused why

-- ---- what a walk comes to

pub data End (A : Type 0) : Type 0 where
  found : A → End A
  refusal : Refusal → End A
  -- the call at this path failed
  fault : List ℕ → End A

-- a file of these bytes, if it may be so long
abbrev pub answer_of : Option (List ℕ) → Answer
answer_of None = missing
answer_of (Some content) = if nat_le (length content) MOST_FILE_BYTES then bytes content else longer

-- the names rise, and are those that the tree tells
pub record IsListing (told : Option (List Held)) (path : List ℕ) (names : Option (List (List ℕ))) : Type 0 where
  pub rising : IsTrue (is_rising (unwrap_or names []))
  pub tells : IfSome told (λ files. names ≡ names_at path files)

abbrev pub IsShort : Answer → Type 0
IsShort (bytes content) = length content ≤ MOST_FILE_BYTES
IsShort missing = Unit {0}
IsShort longer = Unit {0}

-- the file is no longer than it may be, and is what the tree tells
pub record IsReading (told : Option (List Held)) (path : List ℕ) (answer : Answer) : Type 0 where
  pub short : IsShort answer
  pub tells : IfSome told (λ files. answer ≡ answer_of (bytes_at path files))

abbrev pub call : Bool → List ℕ → Call
call failed path = record { path = path; failed = failed }

-- The walk comes to this end over a tree by these calls: each of them fails, and is the last, or gets an answer. A tree
-- that tells its files answers what it tells; whatever another one answers, the walk goes on with it.
unfoldable pub EndsIn : {A : Type 0} → Option (List Held) → Walk A → End A → List Call → Type 0
EndsIn told (done x) end calls = (end ≡ found x) × (calls ≡ [])
EndsIn told (refused why) end calls = (end ≡ refusal why) × (calls ≡ [])
EndsIn told (listing path next) end calls =
    ((end ≡ fault path) × (calls ≡ call true path ∷ []))
    ⊎ ((names : Option (List (List ℕ))) × (behind : List Call) × IsListing told path names
    × (calls ≡ call false path ∷ behind) × EndsIn told (next names) end behind)
EndsIn told (reading path next) end calls =
    ((end ≡ fault path) × (calls ≡ call true path ∷ []))
    ⊎ ((answer : Answer) × (behind : List Call) × IsReading told path answer × (calls ≡ call false path ∷ behind)
    × EndsIn told (next answer) end behind)

-- and these calls alone were made
abbrev pub EndsBy : {A : Type 0} → Walk A → End A → Folder → Folder → Type 0
EndsBy walk end before after = (calls : List Call) × EndsIn before.told walk end calls × HasMade calls before after

-- what the walk comes to over these files, where no call fails
unfoldable pub end_over : {A : Type 0} → List Held → Walk A → Result A Refusal
end_over files (done x) = Ok x
end_over files (refused why) = Err why
end_over files (listing path next) = end_over files (next (names_at path files))
end_over files (reading path next) = end_over files (next (answer_of (bytes_at path files)))

-- ---- what a function may answer that goes a walk

abbrev pub EndsAs : {A B : Type 0} → (A → B) → Result A BundleStop → Walk B → Folder → Folder → Type 0
EndsAs shown (Ok x) walk before after = EndsBy walk (found (shown x)) before after
EndsAs shown (Err stop.NotJson) walk before after = EndsBy walk (refusal not_json) before after
EndsAs shown (Err (stop.BadShape path)) walk before after = EndsBy walk (refusal (bad_shape path)) before after
EndsAs shown (Err (stop.TooLarge path)) walk before after = EndsBy walk (refusal (too_large path)) before after
EndsAs shown (Err (stop.TreeFault path)) walk before after =
    EndsBy walk (fault path) before after × Rose before.faults after.faults
EndsAs shown (Err stop.Memory) walk before after = Unit {0}

-- It went this walk, and its answer is what the walk came to, unless memory ran out: then it may have stopped anywhere.
-- A tree that tells its calls was asked nothing else, so nothing behind what is refused. A fault has the path of the call
-- that failed, and is told only where the tree's count rose.
pub record Goes {A B : Type 0} (shown : A → B) (result : Result A BundleStop) (walk : Walk B)
    (before after : Folder) : Type 0 where
  pub same : IsSameFolder before after
  pub ends : EndsAs shown result walk before after

-- Over a tree that tells its files the answer is a function of them, but for faults and want of memory.
abbrev pub ReadsTold : {A B : Type 0} → (A → B) → Result A BundleStop → Result B Refusal → Type 0
ReadsTold shown (Ok x) meant = meant ≡ Ok (shown x)
ReadsTold shown (Err stop.NotJson) meant = meant ≡ Err not_json
ReadsTold shown (Err (stop.BadShape path)) meant = meant ≡ Err (bad_shape path)
ReadsTold shown (Err (stop.TooLarge path)) meant = meant ≡ Err (too_large path)
ReadsTold shown (Err (stop.TreeFault path)) meant = Unit {0}
ReadsTold shown (Err stop.Memory) meant = Unit {0}
