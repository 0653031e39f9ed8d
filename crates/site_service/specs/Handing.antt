-- What handing all connections back does.
use Rattle.std.specs.Prelude.{◌≡◌, ℕ, ◌+◌, List, ◌++◌, map, Option, Some, None}
use mathlib.Core.List.{IsPrefix}
use Rattle.list_sums.specs.Counts.{total, times}
use Rattle.site_io.specs.Stream.{Stream}
use Rattle.site_io.specs.Net.{Lines}
use Rattle.site_core.specs.Each.{Each}
use Rattle.shared_site.specs.Known.{Known, held}
use Rattle.site_service.specs.declared.visit.Visited.{Visited}

-- what comes of a connection X
abbrev pub Out : Type 0 → Type 0 → Type 0
Out S X = Visited (Known S) X

module _ {S X : Type 0} where
  -- the passes of all were joined to p, one after another
  pub record HasJoined (p : Known S) (visits : List (Out S X)) (q : Known S) : Type 0 where
    pub site : q.site ≡ p.site
    pub terms : q.terms ≡ p.terms
    pub front : IsPrefix p.front q.front
    pub fronts : Each (λ v. IsPrefix v.pass.front q.front) visits
    pub own : (k : ℕ) → times k q.own ≡ times k p.own + total (λ v. times k v.pass.own) visits
    pub weight : q.room + held q ≡ p.room + held p + total (λ v. v.pass.room + held v.pass) visits

  abbrev pub is_out : Out S X → Option Stream
  is_out v = None

  -- a listener that tells anything gave these and nothing else, and they are out
  abbrev pub AreOut : Option Lines → List (Out S X) → Type 0
  AreOut None visits = Unit {0}
  AreOut (Some l) visits = l.given ≡ map is_out visits

  module _ (stream : X → Stream) where
    abbrev pub is_back : Out S X → Option Stream
    is_back v = Some (stream v.connection)

    -- and has them back
    abbrev pub AreBack : Option Lines → List (Out S X) → Option Lines → Type 0
    AreBack None visits after = after ≡ None
    AreBack (Some l) visits after = after ≡ Some (record { waiting = l.waiting; given = map is_back visits })

    -- some are back, and the others still out
    abbrev pub SomeAreBack : Option Lines → List (Out S X) → List (Out S X) → Option Lines → Type 0
    SomeAreBack None done left now = now ≡ None
    SomeAreBack (Some l) done left now =
        now ≡ Some (record { waiting = l.waiting; given = map is_back done ++ map is_out left })
