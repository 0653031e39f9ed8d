-- What workers begin with: a pass of their own and a seat of the claims each.
use Rattle.std.specs.Prelude.{◌≡◌, ℕ, ◌+◌, List, [], ◌∷◌}
use mathlib.Core.List.{IsPrefix}
use Rattle.list_sums.specs.Counts.{total, same, below}
use Rattle.hist_lock.specs.Held.{LockId}
use Rattle.shared_site.specs.Shows.{Shared}
use Rattle.shared_site.specs.Known.{Known, held}
use Rattle.work_pool.specs.Seats.{ClaimsId, Claimant}
use Rattle.site_core.specs.Each.{Each}

-- a pass of a site and a seat of claims
abbrev pub Share : Type 0 → Type 0
Share S = Known S × Claimant

module _ {S : Type 0} where
  -- what a pass of it has seen, as the history from which a batch goes on
  abbrev pub seen_by : Known S → Shared S
  seen_by p = record { history = p.front; terms = p.terms }

  -- they are of this site and of these claims, of which none was drawn
  abbrev pub IsIdle : LockId → ClaimsId → Share S → Type 0
  IsIdle id claims share = (share.0.site ≡ id) × (share.1.claims ≡ claims) × (share.1.numbers ≡ [])

  -- they are of this site, which went on from this history, and of these claims; nothing was done with them
  pub record IsNew (id : LockId) (s : Shared S) (claims : ClaimsId) (share : Share S) : Type 0 where
    pub site_is : share.0.site ≡ id
    pub terms_is : share.0.terms ≡ s.terms
    pub begins : IsPrefix s.history share.0.front
    pub own : share.0.own ≡ []
    pub alone : share.0.numbers ≡ share.0.author ∷ []
    pub claims_are : share.1.claims ≡ claims
    pub idle : share.1.numbers ≡ []

  abbrev pub is_author : ℕ → Share S → ℕ
  is_author author share = same author share.0.author

  -- how many authors, and how many seats, a share accounts for
  abbrev pub pass_weight : Share S → ℕ
  pass_weight share = share.0.room + held share.0

  abbrev pub seat_weight : Share S → ℕ
  seat_weight share = share.1.room + share.1.held

  -- new shares, one for each of the first so many own authors, which account for all passes and seats
  pub record AreShares (id : LockId) (s : Shared S) (claims : ClaimsId) (workers : ℕ) (shares : List (Share S)) :
      Type 0 where
    pub new : Each (IsNew id s claims) shares
    pub authors : (author : ℕ) →
        total (is_author author) shares + below s.terms.base author ≡ below (s.terms.base + workers) author
    pub passes : total pass_weight shares ≡ 65536
    pub seats : total seat_weight shares ≡ 65536
