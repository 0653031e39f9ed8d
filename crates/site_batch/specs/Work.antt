-- What a worker has done: the requests whose numbers it drew, and their replies.
use Rattle.std.specs.Prelude.{◌≡◌, ℕ, ◌+◌, ◌≤◌, List, [], ◌∷◌, ◌++◌, map, length, Option, Some, None}
use Rattle.site_core.specs.Asked.{Asked}
use Rattle.site_core.specs.Meaning.{Meaning}
use Rattle.site_core.specs.Legal.{Legal}
use Rattle.site_core.specs.Fits.{Listed}
use Rattle.site_core.specs.Runs.{Runs, picked, had_after, all_named}
use Rattle.site_core.specs.declared.reply.ReplyOf.{ReplyOf}
use Rattle.shared_site.specs.Known.{Known, IsLater}
use Rattle.work_pool.specs.Seats.{Claimant}
use Rattle.site_batch.specs.declared.answered.Answered.{Answered}
use Rattle.site_batch.specs.Answers.{indexes}

abbrev pub replies_of : {T : Type 0} → List (Answered T) → List T
replies_of answers = map (λ a. a.reply) answers

-- the numbers rise from the first bound on, and all stand below the second
abbrev pub RiseWithin : ℕ → ℕ → List ℕ → Type 0
RiseWithin low high [] = low ≤ high
RiseWithin low high (x ∷ xs) = (low ≤ x) × RiseWithin (x + 1) high xs

-- a seat of the same claims, which accounts for as many seats
pub record IsSameSeat (a b : Claimant) : Type 0 where
  pub claims : b.claims ≡ a.claims
  pub room : b.room ≡ a.room
  pub held : b.held ≡ a.held

module _ {S C F : Type 0} (meaning : Meaning S C F) (listed : Listed S) (requests : List (Asked S)) where
  -- With a pass that was p at first and with a seat that had drawn nothing, these were answered so far.
  pub record HasAnswered (p q : Known S) (a b : Claimant) (answers : List (Answered (ReplyOf C F))) : Type 0 where
    pub later : IsLater p q
    pub legal : Legal meaning q.front
    pub few : length q.front ≤ q.terms.limit
    -- whoever got these replies had seen the entries that the site was opened or resumed with
    pub run : Runs meaning listed q.front q.terms.limit q.author q.terms.given (picked requests (indexes answers))
        (replies_of answers)
    -- and has seen no more than the pass
    pub had : had_after q.terms.given (replies_of answers) ≤ length q.front
    pub own : q.own ≡ p.own ++ all_named (replies_of answers)
    pub seat : IsSameSeat a b
    pub drawn : b.numbers ≡ indexes answers
    pub rising : RiseWithin 0 b.known b.numbers

  -- what a worker comes back with: its pass and seat, and its answers, for which memory may have been wanting
  abbrev pub HasWorked : Known S → Claimant → Known S → Claimant → Option (List (Answered (ReplyOf C F))) → Type 0
  HasWorked p a q b None = (q.site ≡ p.site) × (q.terms ≡ p.terms) × (b.claims ≡ a.claims)
  HasWorked p a q b (Some answers) = HasAnswered p q a b answers × (b.claims.count ≤ b.known)
