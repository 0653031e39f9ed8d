-- What a search for a fixed point of a site comes to: the rounds in which each node was compiled, and how they ended.
use Rattle.std.specs.Prelude.{◌≡◌, ◌≢◌, ◌⊎◌, ℕ, ◌+◌, ◌*◌, ◌≤◌, ◌<◌, Bool, true, false, List, [], ◌∷◌, ◌++◌, length}
use Rattle.std.specs.Prelude.{take, drop, Option, Some, IsSomeAnd, Result, Ok, Err, IsTrue, is_some, option_map}
use Rattle.std.specs.Arc.{arc_value}
use Rattle.std.specs.FinMap as fin
use Rattle.std.specs.Str.{bytes_eq}
use mathlib.Core.List.{IsPrefix}
use Rattle.list_sums.specs.Counts.{total, bit}
use Rattle.pp_values.specs.Datum.{Datum}
use Rattle.pp_values.specs.Rising.{is_rising, has_text}
use Rattle.res_core.specs.declared.export_set.ExportSet.{ExportSet}
use Rattle.export_store.specs.Sets.{Sets}
use Rattle.site_core.specs.Each.{Each}
use Rattle.site_core.specs.Meaning.{Meaning, HasExports}
use Rattle.site_core.specs.Events.{Event, opens, publishes, adds}
use Rattle.site_core.specs.Fits.{Listed}
use Rattle.site_core.specs.Legal.{Legal, meaning_at}
use Rattle.site_core.specs.Sets.{sets_at}
use Rattle.history_tools.specs.declared.settle_end.SettleEnd.{SettleEnd}
use Rattle.history_tools.specs.declared.settle_end.SettleEnd.TheVariants as e

-- the nodes are exactly those that the site lists, by name
pub record AreListed {S : Type 0} (listed : Listed S) (site : S) (nodes : List (List ℕ)) : Type 0 where
  pub by_name : IsTrue (is_rising nodes)
  pub all : (node : List ℕ) → has_text nodes node ≡ is_some (listed site node)

module _ {S : Type 0} where
  abbrev pub is_for : List ℕ → Event S → Bool
  is_for node (opens site) = false
  is_for node (publishes p) = bytes_eq node p.node
  is_for node (adds author call what) = false

  -- how many of the entries are publications of this node
  abbrev pub published : List ℕ → List (Event S) → ℕ
  published node es = total (λ e. bit (is_for node e)) es

-- how many entries stand before the round of this number, counted from 0, where each round before it added one for each
-- node
abbrev pub start : List (List ℕ) → ℕ → ℕ
start nodes r = 1 + r * length nodes

module _ {S : Type 0} (listed : Listed S) (site : S) where
  -- a publication of a node by the facts that the site lists for it, made from the first `low` entries or from more
  abbrev pub IsCompiled : ℕ → Event S → Type 0
  IsCompiled low (opens other) = ⊥
  IsCompiled low (publishes p) = (listed site p.node ≡ Some p.facts) × (low ≤ p.k)
  IsCompiled low (adds author call what) = ⊥

  -- the entries, behind `low` others, are such publications, one for each node
  pub record AreAll (nodes : List (List ℕ)) (low : ℕ) (es : List (Event S)) : Type 0 where
    pub compiled : Each (IsCompiled low) es
    pub once : (node : List ℕ) → published node es ≡ bit (has_text nodes node)

  -- the same, but that nodes may be without
  pub record AreSome (nodes : List (List ℕ)) (low : ℕ) (es : List (Event S)) : Type 0 where
    pub compiled : Each (IsCompiled low) es
    pub once : (node : List ℕ) → published node es ≤ bit (has_text nodes node)

  -- the round of this number, counted from 0, added one publication for each node, and it changed a set
  pub record Changes (nodes : List (List ℕ)) (h : List (Event S)) (r : ℕ) : Type 0 where
    pub all : AreAll nodes (start nodes r) (take (length nodes) (drop (start nodes r) h))
    pub apart : sets_at h (start nodes r) ≢ sets_at h (start nodes (r + 1))

-- the first node, by name, whose sets differ is this one, and these are its sets
pub record IsFirstChanged (nodes : List (List ℕ)) (old new : Sets) (node : List ℕ) (before : Option ExportSet)
    (after : ExportSet) : Type 0 where
  pub front : List (List ℕ)
  pub back : List (List ℕ)
  pub split : nodes ≡ front ++ node ∷ back
  pub same : Each (λ other. fin.get old other ≡ fin.get new other) front
  pub had : fin.get old node ≡ before
  pub has : fin.get new node ≡ Some after
  pub apart : before ≢ Some after

-- The first k entries, the `low` among them that stood before the round, mean this for the node by the facts that the
-- site lists for it.
pub record IsMeantFrom {S C F : Type 0} (meaning : Meaning S C F) (listed : Listed S) (site : S) (h : List (Event S))
    (low : ℕ) (node : List ℕ) (k : ℕ) (answer : Result (C × ExportSet) F) : Type 0 where
  pub fresh : low ≤ k
  pub inside : k ≤ length h
  pub facts : Datum
  pub facts_are : listed site node ≡ Some facts
  pub meant : meaning_at meaning h k node facts ≡ Some answer

module _ {S C F : Type 0} (meaning : Meaning S C F) (listed : Listed S) (limit : ℕ) (site : S) (h : List (Event S))
    (low : ℕ) where
  -- the node has a catalog, but in the round no entry: the history is full
  pub record HasMetFull (node : List ℕ) : Type 0 where
    pub full : length h ≡ limit
    pub without : published node (drop low h) ≡ 0
    pub k : ℕ
    pub made : C × ExportSet
    pub meant : IsMeantFrom meaning listed site h low node k (Ok made)

  -- the node was published in the round, or would have been but for a full history
  abbrev pub IsNotRefused : List ℕ → Type 0
  IsNotRefused node = (published node (drop low h) ≡ 1) ⊎ HasMetFull node

  -- The node has no entry in the round: the first k entries mean this fault for it. No node before it, by name, was
  -- refused.
  pub record IsRefused (nodes : List (List ℕ)) (node : List ℕ) (k : ℕ) (fault : F) : Type 0 where
    pub without : published node (drop low h) ≡ 0
    pub meant : IsMeantFrom meaning listed site h low node k (Err fault)
    pub front : List (List ℕ)
    pub back : List (List ℕ)
    pub split : nodes ≡ front ++ node ∷ back
    pub earlier : Each IsNotRefused front

  -- No node was refused, and some node met a full history. No more nodes are asked for than a history may have entries.
  pub record IsFull (nodes : List (List ℕ)) : Type 0 where
    pub each : Each IsNotRefused (take limit nodes)
    pub node : List ℕ
    pub has : has_text nodes node ≡ true
    pub met : HasMetFull node

module _ {S C F : Type 0} (meaning : Meaning S C F) (listed : Listed S) (limit : ℕ) (site : S)
    (nodes : List (List ℕ)) (rounds : ℕ) where
  -- how the round of this number, counted from 0, ended, where it is the last that was run and `rounds` were allowed
  abbrev pub EndsAs : ℕ → SettleEnd F → List (Event S) → Type 0
  EndsAs last e.Settled h =
      (length h ≡ start nodes (last + 1))
      × AreAll listed site nodes (start nodes last) (drop (start nodes last) h)
      × (sets_at h (start nodes last) ≡ sets_at h (length h))
  EndsAs last (e.NotSettled node before after) h =
      (length h ≡ start nodes (last + 1))
      × AreAll listed site nodes (start nodes last) (drop (start nodes last) h)
      × (last + 1 ≡ rounds)
      × IsFirstChanged nodes (sets_at h (start nodes last)) (sets_at h (length h)) node (option_map arc_value before)
      (arc_value after)
  EndsAs last (e.Refused node k fault) h =
      AreSome listed site nodes (start nodes last) (drop (start nodes last) h)
      × IsRefused meaning listed limit site h (start nodes last) nodes node k fault
  EndsAs last (e.Full length_) h =
      (start nodes last ≤ length h)
      × AreSome listed site nodes (start nodes last) (drop (start nodes last) h)
      × (length_ ≡ limit) × (length h ≡ limit) × IsFull meaning listed limit site h (start nodes last) nodes

  -- So many rounds were run, and ended so. The history is legal and opens the site, each round before the last changed
  -- a set, and there are no entries but those that are told of.
  pub record Settles (run : ℕ) (end : SettleEnd F) (h : List (Event S)) : Type 0 where
    pub legal : Legal meaning h
    pub begins : IsPrefix (opens site ∷ []) h
    pub within : run ≤ rounds
    -- the number of the last round, counted from 0
    pub last : ℕ
    pub run_is : run ≡ last + 1
    pub changed : (r : ℕ) → r < last → Changes listed site nodes h r
    pub ends : EndsAs last end h

-- Where a search ends as settled, each node that the site lists has the set that is exported by what all entries mean
-- for it.
abbrev pub SettledIsMeant : {S C F : Type 0} → Meaning S C F → Listed S → ℕ → Type 0
SettledIsMeant {S} meaning listed limit =
    (site : S) (nodes : List (List ℕ)) (rounds run : ℕ) (h : List (Event S)) → AreListed listed site nodes →
    Settles meaning listed limit site nodes rounds run e.Settled h →
    (node : List ℕ) (facts : Datum) → listed site node ≡ Some facts →
    IsSomeAnd (fin.get (sets_at h (length h)) node)
    (λ set. HasExports (meaning site node facts (sets_at h (length h))) set)
