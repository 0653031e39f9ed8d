-- What holds of requests that are answered in turn.
use Rattle.std.specs.Prelude.{◌≡◌, ℕ, ◌+◌, ◌≤◌, Bool, true, false, ◌==◌, ◌&&◌, IsTrue, List, [], ◌∷◌, length, Option}
use Rattle.std.specs.Prelude.{Some}
use Rattle.std.specs.List.{list_any}
use Rattle.pp_values.specs.Datum.{Datum}
use Rattle.site_core.specs.Asked.{Asked}
use Rattle.site_core.specs.Meaning.{Meaning}
use Rattle.site_core.specs.Events.{Event, opens, publishes, adds}
use Rattle.site_core.specs.Legal.{Legal}
use Rattle.site_core.specs.Runs.{all_named, Whole}
use Rattle.site_core.specs.declared.reply.ReplyOf.{ReplyOf}
use Rattle.site_core.specs.Said as t
use Rattle.site_core.specs.Said.{Said, said}
use Rattle.site_sequence.specs.Sequence.{AnsweredInTurn, Outcome, outcome_of}

module _ {C F : Type 0} where
  abbrev pub says_memory : Said C F → Bool
  says_memory t.short = true
  says_memory told = false

  -- the reply is want of memory
  abbrev pub is_memory : ReplyOf C F → Bool
  is_memory reply = says_memory (said reply)

-- the numbers from n up to, and without, m
abbrev pub CountUp : ℕ → ℕ → List ℕ → Type 0
CountUp n m [] = n ≡ m
CountUp n m (x ∷ xs) = (x ≡ n) × CountUp (n + 1) m xs

module _ {S : Type 0} where
  -- it was made from as many entries as this
  abbrev pub is_made_from : ℕ → Event S → Bool
  is_made_from n (opens site) = true
  is_made_from n (publishes p) = p.k == n
  is_made_from n (adds author call what) = true

  -- each publication was made from all entries before it, where the first entry has the number n
  abbrev pub are_made_in_turn : ℕ → List (Event S) → Bool
  are_made_in_turn n [] = true
  are_made_in_turn n (e ∷ es) = is_made_from n e && are_made_in_turn (n + 1) es

module _ {S C F : Type 0} (meaning : Meaning S C F) (listed : S → List ℕ → Option Datum) (limit : ℕ) where
  -- where no reply is want of memory, replies and history are the ones that the requests mean
  abbrev pub AnswersAreMeant : Type 0
  AnswersAreMeant =
      (h after : List (Event S)) (requests : List (Asked S)) (replies : List (ReplyOf C F)) →
      AnsweredInTurn meaning listed limit h requests replies after → list_any is_memory replies ≡ false →
      outcome_of meaning listed limit h requests ≡ Some (record { replies = replies; history = after })

  -- the other way around
  abbrev pub MeantIsAnswered : Type 0
  MeantIsAnswered =
      (h : List (Event S)) (requests : List (Asked S)) (o : Outcome S C F) →
      outcome_of meaning listed limit h requests ≡ Some o →
      AnsweredInTurn meaning listed limit h requests o.replies o.history × (list_any is_memory o.replies ≡ false)

  -- the replies name the entries that came, in order, each one once
  abbrev pub RepliesNameEntries : Type 0
  RepliesNameEntries =
      (h after : List (Event S)) (requests : List (Asked S)) (replies : List (ReplyOf C F)) →
      AnsweredInTurn meaning listed limit h requests replies after →
      CountUp (length h) (length after) (all_named replies)

  -- in a history whose publications were made in turn, those that come are so too
  abbrev pub PublicationsAreInTurn : Type 0
  PublicationsAreInTurn =
      (h after : List (Event S)) (requests : List (Asked S)) (replies : List (ReplyOf C F)) →
      AnsweredInTurn meaning listed limit h requests replies after →
      IsTrue (are_made_in_turn 0 h) → IsTrue (are_made_in_turn 0 after)

  -- what was answered in turn behind the opening of a site, and left a legal history, is the whole work of one author
  abbrev pub TurnsAreWhole : Type 0
  TurnsAreWhole =
      (site : S) (after : List (Event S)) (requests : List (Asked S)) (replies : List (ReplyOf C F)) → 1 ≤ limit →
      AnsweredInTurn meaning listed limit (opens site ∷ []) requests replies after → Legal meaning after →
      Whole meaning listed limit 1 site requests replies after

  -- what one worker did is answered in turn behind the opening of the site
  abbrev pub WholeIsInTurn : Type 0
  WholeIsInTurn =
      (site : S) (after : List (Event S)) (requests : List (Asked S)) (replies : List (ReplyOf C F)) →
      Whole meaning listed limit 1 site requests replies after →
      AnsweredInTurn meaning listed limit (opens site ∷ []) requests replies after

  -- so two such works of one worker, where memory was never wanting, are one
  abbrev pub OneResult : Type 0
  OneResult =
      (site : S) (requests : List (Asked S)) (first second : Outcome S C F) →
      Whole meaning listed limit 1 site requests first.replies first.history →
      Whole meaning listed limit 1 site requests second.replies second.history →
      list_any is_memory first.replies ≡ false → list_any is_memory second.replies ≡ false → first ≡ second
