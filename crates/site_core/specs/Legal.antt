-- Which histories may come about.
use Rattle.std.specs.Prelude.{◌≡◌, ℕ, ◌≤◌, List, [], ◌∷◌, ◌++◌, length, take, Option, Result, IsSomeAnd, option_map}
use Rattle.pp_values.specs.Datum.{Datum}
use Rattle.res_core.specs.declared.export_set.ExportSet.{ExportSet}
use Rattle.site_core.specs.Meaning.{Meaning, HasExports}
use Rattle.site_core.specs.Events.{Publication, Event, opens, publishes, adds, calls_of}
use Rattle.site_core.specs.Sets.{sets_at, site_at}

module _ {S C F : Type 0} (meaning : Meaning S C F) where
  -- what the first k entries mean for a node with these facts; nothing where no site stands among them
  abbrev pub meaning_at : List (Event S) → ℕ → List ℕ → Datum → Option (Result (C × ExportSet) F)
  meaning_at h k node facts = option_map (λ site. meaning site node facts (sets_at h k)) (site_at h k)

  -- a publication behind the entries h: the author's calls are numbered, the first k of these entries are what it was
  -- made from,
  -- their meaning is no fault, and its set is that meaning's exports
  pub record MayPublish (h : List (Event S)) (p : Publication) : Type 0 where
    pub numbered : p.call ≡ calls_of p.author h
    pub some : 1 ≤ p.k
    pub earlier : p.k ≤ length h
    pub exported : IsSomeAnd (meaning_at h p.k p.node p.facts) (λ meant. HasExports meant p.set)

  -- the entry may stand behind the entries h
  abbrev pub MayFollow : List (Event S) → Event S → Type 0
  MayFollow h (opens site) = ⊥
  MayFollow h (publishes p) = MayPublish h p
  MayFollow h (adds author call what) = call ≡ calls_of author h

  -- each of these entries may stand behind h and those before it
  abbrev pub EachFollows : List (Event S) → List (Event S) → Type 0
  EachFollows h [] = Unit {0}
  EachFollows h (e ∷ es) = MayFollow h e × EachFollows (h ++ e ∷ []) es

  -- the first entry opens a site, no other one does, and each other one may stand behind those before it
  abbrev pub Legal : List (Event S) → Type 0
  Legal [] = ⊥
  Legal (opens site ∷ es) = EachFollows (opens site ∷ []) es
  Legal (publishes p ∷ es) = ⊥
  Legal (adds author call what ∷ es) = ⊥

-- a prefix of a legal history, not empty, is legal
abbrev pub PrefixesAreLegal : {S C F : Type 0} → Meaning S C F → Type 0
PrefixesAreLegal {S} meaning = (h : List (Event S)) (k : ℕ) → 1 ≤ k → Legal meaning h → Legal meaning (take k h)
