-- What a round of a search asks, what its replies come to, what stands before it, and whether it is the last one.
use Rattle.std.specs.Prelude.{◌≡◌, ℕ, ◌≤◌, ◌<◌, Bool, true, false, List, ◌∷◌, ◌++◌, length, map, slice_get, Option}
use Rattle.std.specs.Prelude.{Some, None, IsSome, IsTrue, option_map}
use Rattle.std.specs.Arc.{arc_value}
use Rattle.std.specs.FinMap as fin
use Rattle.res_core.specs.Asked as requests
use Rattle.res_core.specs.Asked.{Wanted}
use Rattle.export_store.specs.Sets.{Sets}
use Rattle.site_core.specs.Each.{Each}
use Rattle.site_core.specs.Meaning.{Meaning}
use Rattle.site_core.specs.Events.{Event, opens, publishes, adds}
use Rattle.site_core.specs.Fits.{Listed}
use Rattle.site_core.specs.Legal.{Legal}
use Rattle.site_core.specs.Resuming.{base_of}
use Rattle.site_core.specs.Sets.{sets_at}
use Rattle.site_core.specs.declared.reply.ReplyOf.{ReplyOf}
use Rattle.site_core.specs.declared.reply.ReplyOf.TheVariants as a
use Rattle.history_tools.specs.Settles.{start, Changes, IsFirstChanged}
use Rattle.history_tools.specs.declared.outcome.Outcome.{Outcome}
use Rattle.history_tools.specs.declared.outcome.Outcome.TheVariants as o
use Rattle.history_tools.specs.declared.settle_end.SettleEnd.{SettleEnd}
use Rattle.history_tools.specs.declared.settle_end.SettleEnd.TheVariants as e

-- the node's catalog by the facts that the site lists for it
abbrev pub wanted_of : List ℕ → Wanted
wanted_of node = record { node = node; facts = None; seen = 0 }

abbrev pub asked_of : List (List ℕ) → List requests.Asked
asked_of nodes = map (λ node. requests.compile (wanted_of node)) nodes

module _ {C F : Type 0} where
  -- what a node may be told that the site lists and that knows of no entry
  abbrev pub IsTold : ReplyOf C F → Type 0
  IsTold (a.Served entry k catalog) = Unit {0}
  IsTold (a.Refused k fault) = Unit {0}
  IsTold (a.HistoryFull length_) = Unit {0}
  IsTold (a.SeenAhead length_) = ⊥
  IsTold (a.UnknownNode k) = ⊥
  IsTold (a.Deactivated entry) = ⊥
  IsTold (a.Deployed entry) = ⊥
  IsTold (a.Reported entry) = ⊥
  IsTold a.Memory = Unit {0}

  abbrev pub is_served : ReplyOf C F → Bool
  is_served (a.Served entry k catalog) = true
  is_served (a.Refused k fault) = false
  is_served (a.HistoryFull length_) = false
  is_served (a.SeenAhead length_) = false
  is_served (a.UnknownNode k) = false
  is_served (a.Deactivated entry) = false
  is_served (a.Deployed entry) = false
  is_served (a.Reported entry) = false
  is_served a.Memory = false

  -- the node was served, or would have been but for a full history
  abbrev pub is_meant : ReplyOf C F → Bool
  is_meant (a.Served entry k catalog) = true
  is_meant (a.Refused k fault) = false
  is_meant (a.HistoryFull length_) = true
  is_meant (a.SeenAhead length_) = false
  is_meant (a.UnknownNode k) = false
  is_meant (a.Deactivated entry) = false
  is_meant (a.Deployed entry) = false
  is_meant (a.Reported entry) = false
  is_meant a.Memory = false

  -- `Whole`: all were served. `Refused`: the first refusal is this one, in this place. `Full`: none was refused, and
  -- one
  -- met a full history. In no case was memory wanting up to there.
  abbrev pub ComesTo : List (ReplyOf C F) → Outcome F → Type 0
  ComesTo replies o.Whole = Each (λ r. IsTrue (is_served r)) replies
  ComesTo replies (o.Refused place k fault) =
      (front : List (ReplyOf C F)) × (back : List (ReplyOf C F)) × (replies ≡ front ++ a.Refused k fault ∷ back)
      × (length front ≡ place) × Each (λ r. IsTrue (is_meant r)) front
  ComesTo replies (o.Full length_) =
      Each (λ r. IsTrue (is_meant r)) replies
      × ((front : List (ReplyOf C F)) × (back : List (ReplyOf C F)) × (replies ≡ front ++ a.HistoryFull length_ ∷ back))

module _ {F : Type 0} where
  -- a refusal in this place, unless there was one before
  abbrev pub or_refused : Outcome F → ℕ → ℕ → F → Outcome F
  or_refused o.Whole place k fault = o.Refused place k fault
  or_refused (o.Refused first j other) place k fault = o.Refused first j other
  or_refused (o.Full length_) place k fault = o.Refused place k fault

  -- a full history, unless there was a refusal
  abbrev pub or_full : Outcome F → ℕ → Outcome F
  or_full o.Whole now = o.Full now
  or_full (o.Refused first j other) now = o.Refused first j other
  or_full (o.Full length_) now = o.Full now

  -- the outcome with one reply more, in this place; none where memory was wanting
  abbrev pub with_reply : {C : Type 0} → Outcome F → ℕ → ReplyOf C F → Option (Outcome F)
  with_reply so_far place (a.Served entry k catalog) = Some so_far
  with_reply so_far place (a.Refused k fault) = Some (or_refused so_far place k fault)
  with_reply so_far place (a.HistoryFull length_) = Some (or_full so_far length_)
  with_reply so_far place (a.SeenAhead length_) = None
  with_reply so_far place (a.UnknownNode k) = None
  with_reply so_far place (a.Deactivated entry) = None
  with_reply so_far place (a.Deployed entry) = None
  with_reply so_far place (a.Reported entry) = None
  with_reply so_far place a.Memory = None

-- the first of these nodes whose sets differ, or none
abbrev pub FirstApart : Sets → Sets → List (List ℕ) → Option (List ℕ) → Type 0
FirstApart old new nodes None = Each (λ node. fin.get old node ≡ fin.get new node) nodes
FirstApart old new nodes (Some node) =
    (front : List (List ℕ)) × (back : List (List ℕ)) × (nodes ≡ front ++ node ∷ back)
    × Each (λ other. fin.get old other ≡ fin.get new other) front
    × (fin.get old node ≡ fin.get new node → ⊥)

module _ {F : Type 0} (nodes : List (List ℕ)) (new : Sets) where
  -- there is a node in the place of a refusal, and where all were served, each has a set
  abbrev pub IsReady : Outcome F → Type 0
  IsReady o.Whole = Each (λ node. IsSome (fin.get new node)) nodes
  IsReady (o.Refused place k fault) = place < length nodes
  IsReady (o.Full length_) = Unit {0}

module _ {F : Type 0} (nodes : List (List ℕ)) (old new : Sets) (left : ℕ) where
  -- how the search ends after a round, where so many are left, or that it goes on
  abbrev pub EndsRound : Outcome F → Option (SettleEnd F) → Type 0
  EndsRound o.Whole None = (1 ≤ left) × ((node : List ℕ) × FirstApart old new nodes (Some node))
  EndsRound o.Whole (Some e.Settled) = FirstApart old new nodes None
  EndsRound o.Whole (Some (e.NotSettled node before after)) =
      (left ≡ 0) × IsFirstChanged nodes old new node (option_map arc_value before) (arc_value after)
  EndsRound o.Whole (Some (e.Refused node k fault)) = ⊥
  EndsRound o.Whole (Some (e.Full length_)) = ⊥
  EndsRound (o.Refused place k fault) None = ⊥
  EndsRound (o.Refused place k fault) (Some e.Settled) = ⊥
  EndsRound (o.Refused place k fault) (Some (e.NotSettled node before after)) = ⊥
  EndsRound (o.Refused place k fault) (Some (e.Refused node j other)) =
      (slice_get nodes place ≡ Some node) × (j ≡ k) × (other ≡ fault)
  EndsRound (o.Refused place k fault) (Some (e.Full length_)) = ⊥
  EndsRound (o.Full length_) None = ⊥
  EndsRound (o.Full length_) (Some e.Settled) = ⊥
  EndsRound (o.Full length_) (Some (e.NotSettled node before after)) = ⊥
  EndsRound (o.Full length_) (Some (e.Refused node k fault)) = ⊥
  EndsRound (o.Full length_) (Some (e.Full now)) = now ≡ length_

abbrev pub IsPublication : {S : Type 0} → Event S → Type 0
IsPublication (opens site) = ⊥
IsPublication (publishes p) = Unit {0}
IsPublication (adds author call what) = ⊥

-- so many rounds were run, each of which changed a set, and there is nothing else behind the opening; these are the
-- sets
-- after them
pub record Stands {S C F : Type 0} (meaning : Meaning S C F) (listed : Listed S) (limit workers : ℕ)
    (site : S) (nodes : List (List ℕ)) (done : ℕ) (h : List (Event S)) (sets : Sets) : Type 0 where
  pub legal : Legal meaning h
  pub more : List (Event S)
  pub split : h ≡ opens site ∷ more
  pub later : Each IsPublication more
  pub size : length h ≡ start nodes done
  pub few : length h ≤ limit
  -- the authors of all rounds are the workers
  pub authors : base_of h ≤ workers
  pub changed : (r : ℕ) → r < done → Changes listed site nodes h r
  pub sets_are : sets ≡ sets_at h (length h)
