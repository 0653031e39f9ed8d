-- A history that threads share, and the list behind the lock, each entry of which tells the terms.
use Rattle.std.specs.Prelude.{◌≡◌, ℕ, ◌+◌, ◌-◌, ◌≤◌, if◌then◌else◌, nat_lt, List, [], ◌∷◌, ◌++◌, length, map, slice_get}
use Rattle.std.specs.Prelude.{Option, None, Some, refl}
use Rattle.std.specs.List.{All}
use Rattle.std.specs.Coded.{Coded, code_by, coded×, coded_ℕ}
use Rattle.list_sums.specs.Counts.{below}
use Rattle.hist_lock.specs.Calls.{has_author}
use Rattle.site_core.specs.Meaning.{Meaning}
use Rattle.site_core.specs.Events.{Event, opens, author_of, coded_event, coded_events}
use Rattle.site_core.specs.Core.{Core, IsSound}
use Rattle.site_core.specs.Resuming.{base_of}
use Rattle.site_core.specs.declared.history.TheConstants.{GREATEST_AUTHOR}

-- what stays while a site is shared
pub record Terms : Type 0 where
  -- how many entries its history may have
  pub limit : ℕ
  -- its own authors have the numbers from this one on
  pub base : ℕ
  -- how many entries it was opened or resumed with
  pub given : ℕ

abbrev pub coded_terms : Coded Terms
coded_terms =
    code_by (ℕ × (ℕ × ℕ)) (coded× coded_ℕ (coded× coded_ℕ coded_ℕ)) (λ t. (t.limit, (t.base, t.given)))
    (λ p. record { limit = p.0; base = p.1.0; given = p.1.1 }) (λ _. refl)

-- a history that threads share
pub record Shared (S : Type 0) : Type 0 where
  pub history : List (Event S)
  pub terms : Terms

abbrev pub coded_shared : {S : Type 0} → Coded S → Coded (Shared S)
coded_shared {S} site =
    code_by (List (Event S) × Terms) (coded× (coded_events site) coded_terms) (λ s. (s.history, s.terms))
    (λ p. record { history = p.0; terms = p.1 }) (λ _. refl)

-- an entry with the terms of its history
pub record Shown (S : Type 0) : Type 0 where
  pub event : Event S
  pub terms : Terms

abbrev pub coded_shown : {S : Type 0} → Coded S → Coded (Shown S)
coded_shown {S} site =
    code_by (Event S × Terms) (coded× (coded_event site) coded_terms) (λ x. (x.event, x.terms))
    (λ p. record { event = p.0; terms = p.1 }) (λ _. refl)

-- which of the own authors it is, counted from base; none where it is an earlier author
abbrev pub counted_from : ℕ → Option ℕ → Option ℕ
counted_from base None = None
counted_from base (Some author) = if nat_lt author base then None else Some (author - base)

module _ {S : Type 0} where
  -- of a site that was just opened
  abbrev pub opened : S → ℕ → Shared S
  opened site limit = record {
    history = opens site ∷ [];
    terms = record { limit = limit; base = 0; given = 1 };
  }

  -- of a site that goes on from this history: its own authors come after all that have entries
  abbrev pub resumed : List (Event S) → ℕ → Shared S
  resumed h limit = record {
    history = h;
    terms = record { limit = limit; base = base_of h; given = length h };
  }

  abbrev pub core_of : Shared S → Core S
  core_of s = record { history = s.history; limit = s.terms.limit }

  -- with one more entry
  abbrev pub with_entry : Shared S → Event S → Shared S
  with_entry s e = record s { history = s.history ++ e ∷ [] }

  abbrev pub mark : Terms → Event S → Shown S
  mark terms e = record { event = e; terms = terms }

  abbrev pub shown : Shared S → List (Shown S)
  shown s = map (mark s.terms) s.history

  abbrev pub event_in : Shown S → Event S
  event_in x = x.event

  abbrev pub events_in : List (Shown S) → List (Event S)
  events_in front = map event_in front

  abbrev pub terms_in : List (Shown S) → Terms
  terms_in [] = record { limit = 0; base = 0; given = 0 }
  terms_in (x ∷ xs) = x.terms

  -- the history that such a list shows
  abbrev pub told : List (Shown S) → Shared S
  told front = record { history = events_in front; terms = terms_in front }

  -- which of the own authors made the entry
  abbrev pub own_author : ℕ → Event S → Option ℕ
  own_author base e = counted_from base (author_of e)

  abbrev pub author_shown : Shown S → Option ℕ
  author_shown x = own_author x.terms.base x.event

  -- each entry is one of those that were given or has an own author, and just one of the two
  abbrev pub IsParted : Terms → List (Event S) → Type 0
  IsParted terms h =
      (place : ℕ) → has_author (own_author terms.base) (slice_get h place) + below terms.given place
      ≡ below (length h) place

  -- no own author has an entry yet
  abbrev pub IsNew : Shared S → Type 0
  IsNew s = All (λ e. own_author s.terms.base e ≡ None) s.history

  -- what is true of the history at every moment
  pub record Lasts {C F : Type 0} (meaning : Meaning S C F) (s : Shared S) : Type 0 where
    pub sound : IsSound meaning (core_of s)
    pub parted : IsParted s.terms s.history
    -- so that each own author's number is one of 32 bits
    pub low : s.terms.base ≤ GREATEST_AUTHOR + 1
