-- Requests of several authors and their replies under one history.
use Rattle.std.specs.Prelude.{◌≡◌, ℕ, ◌+◌, ◌≤◌, List, [], ◌∷◌, ◌++◌, length, slice_get}
use Rattle.std.specs.List.{filter_map}
use mathlib.Core.List.{IsPrefix}
use Rattle.list_sums.specs.Counts.{total, same, times, below}
use Rattle.site_core.specs.Asked.{Asked}
use Rattle.site_core.specs.Meaning.{Meaning}
use Rattle.site_core.specs.Events.{Event, opens}
use Rattle.site_core.specs.Legal.{Legal}
use Rattle.site_core.specs.Fits.{Listed, Fits, had, named}
use Rattle.site_core.specs.declared.reply.ReplyOf.{ReplyOf}

module _ {C F : Type 0} where
  -- how many entries whoever asked has seen after all replies, where it was s before
  abbrev pub had_after : ℕ → List (ReplyOf C F) → ℕ
  had_after s [] = s
  had_after s (reply ∷ replies) = had_after (had s reply) replies

  -- the entries that the replies name
  abbrev pub all_named : List (ReplyOf C F) → List ℕ
  all_named [] = []
  all_named (reply ∷ replies) = named reply ++ all_named replies

-- what stands at these places
abbrev pub picked : {A : Type 0} → List A → List ℕ → List A
picked all places = filter_map (slice_get all) places

-- the numbers rise, and none is below this one
abbrev pub RiseFrom : ℕ → List ℕ → Type 0
RiseFrom low [] = Unit {0}
RiseFrom low (x ∷ xs) = (low ≤ x) × RiseFrom (x + 1) xs

-- the requests of one author, by their places among all requests
pub record Hand : Type 0 where
  pub author : ℕ
  pub places : List ℕ

-- 1 for a hand of this author, else 0
abbrev pub is_hand_of : ℕ → Hand → ℕ
is_hand_of author hand = same author hand.author

-- how often the place stands in the hand
abbrev pub times_in : ℕ → Hand → ℕ
times_in place hand = times place hand.places

module _ {S C F : Type 0} (meaning : Meaning S C F) (listed : Listed S) (h : List (Event S)) (limit : ℕ) where
  -- one author's requests and their replies: each fits, the first one for an author who had seen s entries, and each
  -- other one for one who has seen what the reply before told
  abbrev pub Runs : ℕ → ℕ → List (Asked S) → List (ReplyOf C F) → Type 0
  Runs author s [] [] = Unit {0}
  Runs author s (asked ∷ requests) (reply ∷ replies) =
      Fits meaning listed h limit author s asked reply × Runs author (had s reply) requests replies
  Runs author s [] (reply ∷ replies) = ⊥
  Runs author s (asked ∷ requests) [] = ⊥

  -- each author's requests stand in the order of all requests, and run with their replies from s entries on
  abbrev pub EachRuns : ℕ → List (Asked S) → List (ReplyOf C F) → List Hand → Type 0
  EachRuns s requests replies [] = Unit {0}
  EachRuns s requests replies (hand ∷ hands) =
      RiseFrom 0 hand.places
      × Runs hand.author s (picked requests hand.places) (picked replies hand.places)
      × EachRuns s requests replies hands

-- All requests, dealt to authors `base` up to, and without, `base + workers`, and their replies under one history that
-- begins with the entries `before`, and whose other entries they alone made.
pub record Continues {S C F : Type 0} (meaning : Meaning S C F) (listed : Listed S) (limit base workers : ℕ)
    (before : List (Event S)) (requests : List (Asked S)) (replies : List (ReplyOf C F)) (h : List (Event S)) : Type 0
  where
    pub legal : Legal meaning h
    pub begins : IsPrefix before h
    pub few : length h ≤ limit
    pub answered : length replies ≡ length requests
    pub hands : List Hand
    -- each author has one hand, and each request stands in one hand
    pub authors : (author : ℕ) → total (is_hand_of author) hands + below base author ≡ below (base + workers) author
    pub shares : (place : ℕ) → total (times_in place) hands ≡ below (length requests) place
    pub run : EachRuns meaning listed h limit (length before) requests replies hands
    -- each entry stands in `before` or is named by a reply, and by just one
    pub once : (entry : ℕ) → times entry (all_named replies) + below (length before) entry ≡ below (length h) entry

-- All requests, dealt to authors 0 up to, and without, `workers`, and their replies under one history of this site
-- which they alone made.
abbrev pub Whole : {S C F : Type 0} → Meaning S C F → Listed S → (limit workers : ℕ) → S → List (Asked S) →
    List (ReplyOf C F) → List (Event S) → Type 0
Whole meaning listed limit workers site requests replies h =
    Continues meaning listed limit 0 workers (opens site ∷ []) requests replies h
