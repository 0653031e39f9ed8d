-- What one call of a door gives: a connection with a pass of its own, or none.
use Rattle.std.specs.Prelude.{◌≡◌, ℕ, ◌+◌, ◌<◌, List, length, Option, Some, None, IfSome}
use mathlib.Core.List.{IsPrefix}
use Rattle.hist_lock.specs.Held.{LockId}
use Rattle.site_io.specs.Stream.{Stream, Rose}
use Rattle.site_io.specs.Net.{Net, IsSameNet, HasGiven, HasNoMore}
use Rattle.site_core.specs.Each.{Each}
use Rattle.site_core.specs.Events.{Event, author_of}
use Rattle.shared_site.specs.Known.{Known, held, first_pass, cut, cut_off}
use Rattle.site_service.specs.declared.service_stop.ServiceStop.{ServiceStop}
use Rattle.site_service.specs.declared.service_stop.ServiceStop.TheVariants as stop

module _ {S : Type 0} where
  -- each author of these entries is below this one
  abbrev pub AreEarlier : ℕ → List (Event S) → Type 0
  AreEarlier base h = Each (λ e. IfSome (author_of e) (λ author. author < base)) h

  -- The first pass of a site that was just opened, or that goes on from a history. Authors are split from it, and are
  -- numbered behind its own, which no entry that it has seen reaches.
  pub record IsOpening (id : LockId) (p : Known S) : Type 0 where
    pub pass_is : p ≡ first_pass id (record { history = p.front; terms = p.terms })
    pub given : p.terms.given ≡ length p.front
    pub earlier : AreEarlier p.terms.base p.front

  -- A connection came, for which q had been split from the door's pass p.
  pub record HasOpened (p : Known S) (n : Net) (left : ℕ) (q : Known S) (given : Stream) (p' : Known S) (n' : Net)
      (left' : ℕ) : Type 0 where
    pub room : 0 < p.room
    pub front : IsPrefix p.front p'.front
    pub pass_is : p' ≡ cut p p'.front
    pub new_is : q ≡ cut_off p p'.front
    pub came : HasGiven given n n'
    pub left_is : left ≡ left' + 1

  -- the pass accounts for as many authors, and has no entry more
  pub record IsIdleSince (p p' : Known S) : Type 0 where
    pub site : p'.site ≡ p.site
    pub terms : p'.terms ≡ p.terms
    pub own : p'.own ≡ p.own
    pub front : IsPrefix p.front p'.front
    pub weight : p'.room + held p' ≡ p.room + held p

  -- why no connection came
  abbrev pub HasStopped : ServiceStop → Known S → Net → ℕ → Known S → Net → Type 0
  HasStopped stop.Counted p n left p' n' = (left ≡ 0) × (p' ≡ p) × (n' ≡ n)
  HasStopped stop.Closed p n left p' n' = IsIdleSince p p' × IsSameNet n n' × HasNoMore n.told
  HasStopped stop.NetFault p n left p' n' = IsIdleSince p p' × IsSameNet n n' × Rose n.faults n'.faults

  abbrev pub Opens : Known S → Net → ℕ → Option (Known S × Stream) → ServiceStop → Known S → Net → ℕ → Type 0
  Opens p n left None why p' n' left' = HasStopped why p n left p' n'
  Opens p n left (Some visit) why p' n' left' = HasOpened p n left visit.0 visit.1 p' n' left' × (why ≡ stop.Counted)
