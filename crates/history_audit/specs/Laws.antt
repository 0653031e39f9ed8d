-- That audits are exact.
use Rattle.std.specs.Prelude.{◌≡◌, ◌≢◌, ℕ, ◌≤◌, List, take, length, slice_get, Some, Err, IsTrue, IsSomeAnd, IsOkAnd}
use Rattle.site_core.specs.Meaning.{Meaning}
use Rattle.site_core.specs.Events.{Publication, Event, opens, publishes, adds, calls_of, are_entries}
use Rattle.site_core.specs.Legal.{meaning_at, Legal}
use Rattle.history_audit.specs.Audits.{audited}
use Rattle.history_audit.specs.declared.verdict.Part.{Part}
use Rattle.history_audit.specs.declared.verdict.Part.TheVariants as part
use Rattle.history_audit.specs.declared.verdict.Verdict.TheVariants as v

module _ {S C F : Type 0} (meaning : Meaning S C F) where
  -- `Legal n` is said exactly of legal histories of n entries
  pub record SaysLegalExactly : Type 0 where
    pub all : (h : List (Event S)) → Legal meaning h → audited meaning h ≡ v.Legal (length h)
    pub only : (h : List (Event S)) (n : ℕ) → audited meaning h ≡ v.Legal n → Legal meaning h × (n ≡ length h)

  -- a publication behind the entries h keeps the rules before this one, and breaks this one
  abbrev pub PublicationBreaks : List (Event S) → Publication → Part → Type 0
  PublicationBreaks h p part.Call = p.call ≢ calls_of p.author h
  PublicationBreaks h p part.K = (p.call ≡ calls_of p.author h) × ((1 ≤ p.k) × (p.k ≤ length h) → ⊥)
  PublicationBreaks h p part.Fault =
      (p.call ≡ calls_of p.author h) × ((1 ≤ p.k) × (p.k ≤ length h))
      × ((fault : F) × (meaning_at meaning h p.k p.node p.facts ≡ Some (Err fault)))
  PublicationBreaks h p part.Set =
      (p.call ≡ calls_of p.author h) × ((1 ≤ p.k) × (p.k ≤ length h))
      × IsSomeAnd (meaning_at meaning h p.k p.node p.facts) (λ meant. IsOkAnd meant (λ made. made.1 ≢ p.set))

  -- this is the first rule that the entry breaks behind the entries h
  abbrev pub BreaksFirst : List (Event S) → Event S → Part → Type 0
  BreaksFirst h (opens site) broken = ⊥
  BreaksFirst h (publishes p) broken = PublicationBreaks h p broken
  BreaksFirst h (adds author call what) part.Call = call ≢ calls_of author h
  BreaksFirst h (adds author call what) broken = ⊥

  -- `Broken i part` is said only where the entries before entry i are a legal history, behind which it breaks this rule
  -- first
  abbrev pub TellsTheFirst : Type 0
  TellsTheFirst = (h : List (Event S)) (i : ℕ) (broken : Part) → IsTrue (are_entries h) →
      audited meaning h ≡ v.Broken i broken →
      Legal meaning (take i h) × IsSomeAnd (slice_get h i) (λ e. BreaksFirst (take i h) e broken)
