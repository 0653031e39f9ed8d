-- What an audit of a history says: the first entry that breaks a rule, and the first rule that it breaks.
use Rattle.std.specs.Prelude.{ℕ, Bool, ◌==◌, ◌&&◌, nat_le, if◌then◌else◌, List, [], ◌∷◌, ◌++◌, length, Option, None}
use Rattle.std.specs.Prelude.{Some, Result, Ok, Err}
use Rattle.res_core.specs.declared.export_set.ExportSet.{ExportSet}
use Rattle.site_core.specs.Meaning.{Meaning}
use Rattle.site_core.specs.Events.{Publication, Event, opens, publishes, adds, calls_of}
use Rattle.site_core.specs.Legal.{meaning_at}
use Rattle.export_store.specs.Sameness.{same_set}
use Rattle.history_audit.specs.declared.verdict.Part.{Part}
use Rattle.history_audit.specs.declared.verdict.Part.TheVariants as part
use Rattle.history_audit.specs.declared.verdict.Verdict.{Verdict}
use Rattle.history_audit.specs.declared.verdict.Verdict.TheVariants as v

-- the first of two parts to be broken, if one is
abbrev pub first_broken : Option Part → Option Part → Option Part
first_broken None later = later
first_broken (Some broken) later = Some broken

-- an author's calls are numbered from 0: `Call`, unless this is the number of those among the entries h
abbrev pub wrong_call : {S : Type 0} → List (Event S) → (author call : ℕ) → Option Part
wrong_call h author call = if call == calls_of author h then None else Some part.Call

-- the first k entries are at least one, and no more than those of h
abbrev pub is_earlier : {S : Type 0} → ℕ → List (Event S) → Bool
is_earlier k h = nat_le 1 k && nat_le k (length h)

-- the verdict where entry i breaks this part, and else the one that comes later
abbrev pub told : Option Part → ℕ → Verdict → Verdict
told None i later = later
told (Some broken) i later = v.Broken i broken

module _ {C F : Type 0} where
  -- `Fault` where what is meant is a fault, and `Set` unless the set is what it exports
  abbrev pub wrong_exports : Result (C × ExportSet) F → ExportSet → Option Part
  wrong_exports (Err fault) set = Some part.Fault
  wrong_exports (Ok made) set = if same_set made.1 set then None else Some part.Set

  -- the same of entries among which a site stands; without a site nothing is meant
  abbrev pub wrong_exports_at : Option (Result (C × ExportSet) F) → ExportSet → Option Part
  wrong_exports_at None set = Some part.Fault
  wrong_exports_at (Some meant) set = wrong_exports meant set

module _ {S C F : Type 0} (meaning : Meaning S C F) where
  -- a publication behind the entries h: its number comes first, then the k entries that it was made from, then what
  -- they mean
  abbrev pub wrong_publication : List (Event S) → Publication → Option Part
  wrong_publication h p =
      first_broken (wrong_call h p.author p.call)
      (if is_earlier p.k h then wrong_exports_at (meaning_at meaning h p.k p.node p.facts) p.set else Some part.K)

  -- what the first rule speaks of that an entry breaks behind the entries h, if it breaks one; an opening is nobody's
  -- call
  abbrev pub broken_part : List (Event S) → Event S → Option Part
  broken_part h (opens site) = Some part.Call
  broken_part h (publishes p) = wrong_publication h p
  broken_part h (adds author call what) = wrong_call h author call

  -- entries behind the entries h, one after another
  unfoldable pub audited_from : List (Event S) → List (Event S) → Verdict
  audited_from h [] = v.Legal (length h)
  audited_from h (e ∷ es) = told (broken_part h e) (length h) (audited_from (h ++ e ∷ []) es)

  -- all entries: the first one opens a site, and the others stand behind it
  unfoldable pub audited : List (Event S) → Verdict
  audited [] = v.Broken 0 part.Call
  audited (opens site ∷ es) = audited_from (opens site ∷ []) es
  audited (publishes p ∷ es) = v.Broken 0 part.Call
  audited (adds author call what ∷ es) = v.Broken 0 part.Call
