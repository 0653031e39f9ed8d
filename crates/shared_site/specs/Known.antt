-- What contracts see of a pass of a site and of a note, and what each call makes of it.
use Rattle.std.specs.Prelude.{ℕ, ◌≡◌, ◌+◌, ◌-◌, ◌≤◌, ◌++◌, List, [], ◌∷◌, length, Result, Ok, Err, refl}
use Rattle.std.specs.Coded.{Coded, code_by, coded×, coded_list, coded_ℕ}
use Rattle.atomic_table.specs.Seated.{table_id_coded}
use mathlib.Core.List.{IsPrefix}
use Rattle.list_sums.specs.Counts.{below, times}
use Rattle.hist_lock.specs.Held.{LockId}
use Rattle.site_core.specs.Asked.{Asked}
use Rattle.site_core.specs.Meaning.{Meaning}
use Rattle.site_core.specs.Events.{Event, coded_events}
use Rattle.site_core.specs.Legal.{Legal}
use Rattle.site_core.specs.Fits.{Listed, Fits, had_said, named}
use Rattle.site_core.specs.declared.reply.ReplyOf.{ReplyOf}
use Rattle.site_core.specs.declared.reply.ReplyOf.TheVariants as a
use Rattle.site_core.specs.Said as t
use Rattle.site_core.specs.Said.{Said, said}
use Rattle.site_core.specs.declared.done_stop.DoneStop.{DoneStop}
use Rattle.site_core.specs.declared.done_stop.DoneStop.TheVariants as stop
use Rattle.shared_site.specs.Shows.{Terms, Shared, coded_terms}

pub record Known (S : Type 0) : Type 0 where
  -- which site it is
  pub site : LockId
  -- how many entries its history may have, from which number on its own authors are, and how many entries it was given
  pub terms : Terms
  -- the entries that the pass has seen, from the first on
  pub front : List (Event S)
  -- the places of the entries that its authors made
  pub own : List ℕ
  -- the authors that it stands for, its own first
  pub numbers : List ℕ
  -- how many authors can still be made from it
  pub room : ℕ
  pub author : ℕ

-- what a note says
pub record Told (S : Type 0) : Type 0 where
  pub site : LockId
  pub terms : Terms
  pub front : List (Event S)

-- the codes by which a proof tells them apart
abbrev pub coded_known : {S : Type 0} → Coded S → Coded (Known S)
coded_known {S} site =
    code_by ((LockId × (Terms × List (Event S))) × ((List ℕ × List ℕ) × (ℕ × ℕ)))
    (coded× (coded× table_id_coded (coded× coded_terms (coded_events site)))
    (coded× (coded× (coded_list coded_ℕ) (coded_list coded_ℕ)) (coded× coded_ℕ coded_ℕ)))
    (λ p. ((p.site, (p.terms, p.front)), ((p.own, p.numbers), (p.room, p.author))))
    (λ q. record {
      site = q.0.0;
      terms = q.0.1.0;
      front = q.0.1.1;
      own = q.1.0.0;
      numbers = q.1.0.1;
      room = q.1.1.0;
      author = q.1.1.1;
    })
    (λ _. refl)

abbrev pub coded_told : {S : Type 0} → Coded S → Coded (Told S)
coded_told {S} site =
    code_by (LockId × (Terms × List (Event S))) (coded× table_id_coded (coded× coded_terms (coded_events site)))
    (λ t. (t.site, (t.terms, t.front))) (λ q. record { site = q.0; terms = q.1.0; front = q.1.1 }) (λ _. refl)

module _ {S : Type 0} where
  -- how many authors it stands for
  abbrev pub held : Known S → ℕ
  held p = length p.numbers

  -- a pass of this site, which accounts for so many of its 65,536 authors, those that can still be made included
  abbrev pub IsShare : LockId → ℕ → Known S → Type 0
  IsShare site count p = (p.site ≡ site) × (p.room + held p ≡ count)

  -- the first pass of a site whose history is shared from now on, and which it has seen
  abbrev pub first_pass : LockId → Shared S → Known S
  first_pass id s = record {
    site = id;
    terms = s.terms;
    front = s.history;
    own = [];
    numbers = s.terms.base ∷ [];
    room = 65535;
    author = s.terms.base;
  }

  -- the same pass, which has seen as much or more
  pub record IsLater (p q : Known S) : Type 0 where
    pub site : q.site ≡ p.site
    pub terms : q.terms ≡ p.terms
    pub numbers : q.numbers ≡ p.numbers
    pub room : q.room ≡ p.room
    pub author : q.author ≡ p.author
    pub front : IsPrefix p.front q.front

  -- an entry of its own was added behind all that stood there, and is the last that it sees
  abbrev pub HasAdded : (List (Event S) → Event S) → ℕ → Known S → Known S → Type 0
  HasAdded entry number p q = (h : List (Event S)) × IsPrefix p.front h × (number ≡ length h)
      × (q.front ≡ h ++ entry h ∷ []) × (q.own ≡ p.own ++ number ∷ [])

  -- or none was added, at a full history or for want of memory
  abbrev pub HasAsked : (List (Event S) → Event S) → Result ℕ DoneStop → Known S → Known S → Type 0
  HasAsked entry (Ok number) p q = HasAdded entry number p q
  HasAsked entry (Err (stop.Full length_)) p q =
      (q.own ≡ p.own) × (length_ ≡ length q.front) × (length_ ≡ q.terms.limit)
  HasAsked entry (Err stop.Memory) p q = q.own ≡ p.own

  -- a pass that was split, and the new one, both of which see this now
  abbrev pub cut : Known S → List (Event S) → Known S
  cut p now = record p { front = now; room = p.room - 1 }

  abbrev pub cut_off : Known S → List (Event S) → Known S
  cut_off p now = record {
    site = p.site;
    terms = p.terms;
    front = now;
    own = [];
    numbers = (p.terms.base + (65536 - p.room)) ∷ [];
    room = 0;
    author = p.terms.base + (65536 - p.room);
  }

  abbrev pub seeing : Known S → List (Event S) → Known S
  seeing p now = record p { front = now }

  -- with the authors, the room and the entries of the other pass
  abbrev pub joined_to : Known S → Known S → List (Event S) → Known S
  joined_to p q now = record p {
    front = now;
    own = p.own ++ q.own;
    numbers = p.numbers ++ q.numbers;
    room = p.room + q.room;
  }

  abbrev pub told_by : Known S → Told S
  told_by p = record { site = p.site; terms = p.terms; front = p.front }

  -- each entry is one of the first that were given, or at one of these places, and is so once
  abbrev pub AreTheOthers : ℕ → List ℕ → List (Event S) → Type 0
  AreTheOthers given places h = (place : ℕ) → times place places + below given place ≡ below (length h) place

module _ {C F : Type 0} where
  abbrev pub LeavesSaid : ℕ → Said C F → ℕ → Type 0
  LeavesSaid seen t.short now = seen ≤ now
  LeavesSaid seen told now = now ≡ had_said seen told

  -- how many entries a pass that had seen `seen` of them sees after the reply: as many as the reply tells; where memory
  -- was wanting, no fewer than before
  abbrev pub Leaves : ℕ → ReplyOf C F → ℕ → Type 0
  Leaves seen reply now = LeavesSaid seen (said reply) now

-- what a call does for the pass that makes it
pub record IsAnswered {S C F : Type 0} (meaning : Meaning S C F) (listed : Listed S) (asked : Asked S)
    (reply : ReplyOf C F) (p q : Known S) : Type 0 where
  pub later : IsLater p q
  pub legal : Legal meaning q.front
  -- the reply fits what the pass sees now, for an author who had seen what it saw before
  pub fits : Fits meaning listed q.front q.terms.limit q.author (length p.front) asked reply
  -- the one entry that the pass's own gained is the one that the reply names, if it names one
  pub own : q.own ≡ p.own ++ named reply
  pub leaves : Leaves (length p.front) reply (length q.front)

-- whoever compiled has gone through the gate: a reply that a compile has tells it
abbrev pub IsGated : {C F : Type 0} → Type 0 → ReplyOf C F → Type 0
IsGated Passed (a.Served entry k catalog) = Passed
IsGated Passed (a.Refused k fault) = Passed
IsGated Passed (a.HistoryFull length) = Passed
IsGated Passed (a.SeenAhead length) = Unit {0}
IsGated Passed (a.UnknownNode k) = Unit {0}
IsGated Passed (a.Deactivated entry) = Unit {0}
IsGated Passed (a.Deployed entry) = Unit {0}
IsGated Passed (a.Reported entry) = Unit {0}
IsGated Passed a.Memory = Unit {0}
