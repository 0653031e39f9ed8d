-- What comes of a service: the connections that were taken, and the one history under which they were served.
use Rattle.std.specs.Prelude.{◌≡◌, ◌⊎◌, ℕ, ◌+◌, ◌≤◌, List, [], ◌∷◌, ◌++◌, map, length, Option, Some, None}
use Rattle.hist_lock.specs.Calls.{AreCalls}
use Rattle.site_io.specs.Stream.{Stream, Rose, HasShut}
use Rattle.site_io.specs.Net.{Net, Lines, HasNoMore}
use Rattle.site_core.specs.Asked.{Asked}
use Rattle.site_core.specs.Each.{Each}
use Rattle.site_core.specs.Meaning.{Meaning}
use Rattle.site_core.specs.Events.{Event, author_of}
use Rattle.site_core.specs.Legal.{Legal}
use Rattle.site_core.specs.Fits.{Listed}
use Rattle.site_core.specs.Runs.{Runs, all_named}
use Rattle.site_core.specs.declared.reply.ReplyOf.{ReplyOf}
use Rattle.site_serve.specs.declared.conn_end.ConnEnd.{ConnEnd}
use Rattle.site_serve.specs.Ends.{Dialect, Ends, IsPrompt}
use Rattle.site_service.specs.declared.service_stop.ServiceStop.{ServiceStop}
use Rattle.site_service.specs.declared.service_stop.ServiceStop.TheVariants as stop

-- a connection that was taken: as the listener gave it, how it ended, and as it was handed back
pub record Taken : Type 0 where
  pub given : Stream
  pub end : ConnEnd
  pub back : Stream

-- a listener that tells anything has given none since it began to listen
abbrev pub IsNewNet : Option Lines → Type 0
IsNewNet None = Unit {0}
IsNewNet (Some l) = l.given ≡ []

-- These are the connections that it gave, in order, and it has them back. Where there are none, it may not have begun
-- to listen.
abbrev pub HasThemBack : Lines → List Taken → Lines → Type 0
HasThemBack l taken after =
    (l.waiting ≡ map (λ t. t.given) taken ++ after.waiting)
    × ((after.given ≡ map (λ t. Some t.back) taken) ⊎ ((taken ≡ []) × (after.given ≡ l.given)))

-- the same of a listener that may tell nothing
abbrev pub Tells : Option Lines → List Taken → Option Lines → Type 0
Tells None taken after = after ≡ None
Tells (Some l) taken after = (now : Lines) × (after ≡ Some now) × HasThemBack l taken now

-- why no more were taken
abbrev pub IsWhy : ServiceStop → ℕ → List Taken → Net → Net → Type 0
IsWhy stop.Counted count taken before after = length taken ≡ count
IsWhy stop.Closed count taken before after = HasNoMore after.told
IsWhy stop.NetFault count taken before after = Rose before.faults after.faults

-- it is an entry of one of so many authors behind this one
abbrev pub IsByOneOf : {S : Type 0} → ℕ → ℕ → Event S → Type 0
IsByOneOf base count e =
    (author : ℕ) × (author_of e ≡ Some author) × (base + 1 ≤ author) × (author ≤ base + count)

module _ {S C F : Type 0} (meaning : Meaning S C F) (listed : Listed S) (limit seen : ℕ) (h : List (Event S)) where
  -- The site was asked these by this author, who had seen so many entries at first, one after another, and replied so.
  -- The entries that the replies name are those of this author, each once.
  pub record HasRepliedUnder (author : ℕ) (asked : List (Asked S)) (replies : List (ReplyOf C F)) : Type 0 where
    pub run : Runs meaning listed h limit author seen asked replies
    pub own : AreCalls author_of (all_named replies) (author ∷ []) h

  module _ (d : Dialect S C F) where
    -- the connection was served under this history, for this author, each request before the next one was read, and then
    -- shut
    abbrev pub IsServed : ℕ → Taken → Type 0
    IsServed author t =
        (ended : Stream) × Ends d (HasRepliedUnder author) t.end t.given ended × IsPrompt d t.given ended
        × HasShut ended t.back

    -- the first of these for this author, and each other one for the next author
    abbrev pub AreServed : ℕ → List Taken → Type 0
    AreServed author [] = Unit {0}
    AreServed author (t ∷ taken) = IsServed author t × AreServed (author + 1) taken

-- Connections were taken, `count` of them unless the listener has no more or failed, and served side by side under one
-- history that begins with the entries `before`: connection c, counted from 1, for author base + c. Each was shut and
-- handed back. The history has no entries of others behind those before.
pub record HasServedAll {S C F : Type 0} (meaning : Meaning S C F) (listed : Listed S) (d : Dialect S C F)
    (limit base : ℕ) (before : List (Event S)) (count : ℕ) (net after : Net) (ends : List ConnEnd) (why : ServiceStop)
    (h : List (Event S)) : Type 0 where
  pub legal : Legal meaning h
  pub few : length h ≤ limit
  pub taken : List Taken
  pub counted : length taken ≤ count
  pub why_is : IsWhy why count taken net after
  pub each : AreServed meaning listed limit (length before) h d (base + 1) taken
  pub ends_are : ends ≡ map (λ t. t.end) taken
  pub told : Tells net.told taken after.told
  pub faults : net.faults ≤ after.faults
  pub others : List (Event S)
  pub begins : h ≡ before ++ others
  pub authors : Each (IsByOneOf base (length taken)) others
