-- Requests that are answered one after another over one history.
use Rattle.std.specs.Prelude.{◌≡◌, ◌⊎◌, ℕ, nat_lt, if◌then◌else◌, List, [], ◌∷◌, ◌++◌, length, Option, None, Some}
use Rattle.std.specs.Prelude.{Result, Ok, Err, option_map, option_and_then}
use Rattle.pp_values.specs.Datum.{Datum}
use Rattle.res_core.specs.declared.export_set.ExportSet.{ExportSet}
use Rattle.site_core.specs.Asked.{Asked, compile, plain}
use Rattle.site_core.specs.Meaning.{Meaning}
use Rattle.site_core.specs.Events.{Event, publication, next_entry}
use Rattle.site_core.specs.Sets.{sets_at, site_at}
use Rattle.site_core.specs.Fits.{Listed, facts_for}
use Rattle.site_core.specs.Said.{kind_of, plain_reply}
use Rattle.site_core.specs.declared.plain.Plain.{Plain}
use Rattle.site_core.specs.declared.reply.ReplyOf.{ReplyOf}
use Rattle.site_core.specs.declared.reply.ReplyOf.TheVariants as a
use Rattle.site_sequence.specs.declared.sequence.TheConstants.{AUTHOR}

-- what a request is answered, and the history after it
pub record Turn (S C F : Type 0) : Type 0 where
  pub reply : ReplyOf C F
  pub history : List (Event S)

module _ {S C F : Type 0} where
  abbrev pub turn : ReplyOf C F → List (Event S) → Turn S C F
  turn reply history = record { reply = reply; history = history }

  -- where the entries h mean this for the node with these facts
  abbrev pub turn_meant : ℕ → List (Event S) → List ℕ → Datum → Result (C × ExportSet) F → Turn S C F
  turn_meant limit h node facts (Err fault) = turn (a.Refused (length h) fault) h
  turn_meant limit h node facts (Ok made) =
      if nat_lt (length h) limit
      then turn (a.Served (length h) (length h) made.0) (h ++ publication h AUTHOR node facts (length h) made.1 ∷ [])
      else turn (a.HistoryFull (length h)) h

  -- where a plain entry is asked for
  abbrev pub turn_added : ℕ → List (Event S) → Plain S → Turn S C F
  turn_added limit h what =
      if nat_lt (length h) limit
      then turn (plain_reply (kind_of what) (length h)) (h ++ next_entry h AUTHOR what ∷ [])
      else turn (a.HistoryFull (length h)) h

module _ {S C F : Type 0} (meaning : Meaning S C F) (listed : Listed S) (limit : ℕ) where
  -- where the site is the one after h, and these facts count, or none are known
  abbrev pub turn_known : List (Event S) → S → List ℕ → Option Datum → Turn S C F
  turn_known h site node None = turn (a.UnknownNode (length h)) h
  turn_known h site node (Some facts) = turn_meant limit h node facts (meaning site node facts (sets_at h (length h)))

  -- a request's turn after the entries h, where the first cause of a refusal is told; none where no site was opened
  abbrev pub turn_for : List (Event S) → Asked S → Option (Turn S C F)
  turn_for h (compile w) =
      if nat_lt (length h) w.seen
      then Some (turn (a.SeenAhead (length h)) h)
      else option_map (λ site. turn_known h site w.node (facts_for listed site w)) (site_at h (length h))
  turn_for h (plain what) = Some (turn_added limit h what)

  -- The request is answered so, and this is the history after it. Want of memory may be the answer to any request, and
  -- leaves the history as it was.
  abbrev pub Takes : List (Event S) → Asked S → ReplyOf C F → List (Event S) → Type 0
  Takes h asked reply after = (turn_for h asked ≡ Some (turn reply after)) ⊎ ((reply ≡ a.Memory) × (after ≡ h))

  -- the requests are answered so in turn, and this is the history after the last one
  abbrev pub AnsweredInTurn : List (Event S) → List (Asked S) → List (ReplyOf C F) → List (Event S) → Type 0
  AnsweredInTurn h [] [] after = after ≡ h
  AnsweredInTurn h (asked ∷ requests) (reply ∷ replies) after =
      (next : List (Event S)) × Takes h asked reply next × AnsweredInTurn next requests replies after
  AnsweredInTurn h [] (reply ∷ replies) after = ⊥
  AnsweredInTurn h (asked ∷ requests) [] after = ⊥

-- the replies to requests, and the history after them
pub record Outcome (S C F : Type 0) : Type 0 where
  pub replies : List (ReplyOf C F)
  pub history : List (Event S)

module _ {S C F : Type 0} where
  -- what one turn and what came of the later ones come to
  abbrev pub with_turn : Turn S C F → Outcome S C F → Outcome S C F
  with_turn t later = record { replies = t.reply ∷ later.replies; history = later.history }

module _ {S C F : Type 0} (meaning : Meaning S C F) (listed : Listed S) (limit : ℕ) where
  -- what comes of the requests in turn, where memory is never wanting
  unfoldable pub outcome_of : List (Event S) → List (Asked S) → Option (Outcome S C F)
  outcome_of h [] = Some (record { replies = []; history = h })
  outcome_of h (asked ∷ requests) =
      option_and_then (λ t. option_map (with_turn t) (outcome_of t.history requests))
      (turn_for meaning listed limit h asked)
