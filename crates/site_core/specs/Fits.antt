-- Which reply a request may have under a history.
use Rattle.std.specs.Prelude.{◌≡◌, ℕ, ◌+◌, ◌≤◌, ◌<◌, List, [], ◌∷◌, ◌++◌, length, slice_get, Option, Some, None, Result}
use Rattle.std.specs.Prelude.{Ok, Err}
use Rattle.pp_values.specs.Datum.{Datum}
use Rattle.res_core.specs.declared.export_set.ExportSet.{ExportSet}
use Rattle.res_core.specs.Asked.{Wanted}
use Rattle.site_core.specs.Meaning.{Meaning}
use Rattle.site_core.specs.Asked.{Asked, compile, plain}
use Rattle.site_core.specs.Events.{Event, publishes, adds}
use Rattle.site_core.specs.Sets.{sets_at, site_at}
use Rattle.site_core.specs.declared.plain.Plain.{Plain}
use Rattle.site_core.specs.declared.reply.ReplyOf.{ReplyOf}
use Rattle.site_core.specs.Said as t
use Rattle.site_core.specs.Said.{Said, said, kind_of}

-- the facts that a site lists for a node, or none
abbrev pub Listed : Type 0 → Type 0
Listed S = S → List ℕ → Option Datum

-- the facts that count: those of the request, else those that the site lists for its node
abbrev pub facts_or : Option Datum → Option Datum → Option Datum
facts_or None listed = listed
facts_or (Some facts) listed = Some facts

abbrev pub facts_for : {S : Type 0} → Listed S → S → Wanted → Option Datum
facts_for listed site w = facts_or w.facts (listed site w.node)

-- The first k entries are a history of at least one entry, no shorter than what whoever asks had seen: `s` entries by
-- the replies so far, and `seen` by the request.
pub record IsFresh {S : Type 0} (h : List (Event S)) (s seen k : ℕ) : Type 0 where
  pub had : s ≤ k
  pub told : seen ≤ k
  pub low : 1 ≤ k
  pub high : k ≤ length h

-- after the first k entries the request has these facts, and this is what the site means for its node
pub record Means {S C F : Type 0} (meaning : Meaning S C F) (listed : Listed S) (h : List (Event S)) (k : ℕ)
    (w : Wanted)
    (facts : Datum) (answer : Result (C × ExportSet) F) : Type 0 where
  pub site : S
  pub site_is : site_at h k ≡ Some site
  pub facts_are : facts_for listed site w ≡ Some facts
  pub meant : meaning site w.node facts (sets_at h k) ≡ answer

-- after the first k entries the request has no facts
pub record HasNoFacts {S : Type 0} (listed : Listed S) (h : List (Event S)) (k : ℕ) (w : Wanted) : Type 0 where
  pub site : S
  pub site_is : site_at h k ≡ Some site
  pub none : facts_for listed site w ≡ None

-- the catalog is what the first k entries mean, and the entry, behind these, is this author's publication of the
-- exports, of the same node, facts and k
pub record IsServed {S C F : Type 0} (meaning : Meaning S C F) (listed : Listed S) (h : List (Event S)) (author : ℕ)
    (w : Wanted) (entry k : ℕ) (catalog : C) : Type 0 where
  pub later : k ≤ entry
  pub inside : entry < length h
  pub facts : Datum
  pub set : ExportSet
  pub call : ℕ
  pub means : Means meaning listed h k w facts (Ok (catalog, set))
  pub at : slice_get h entry ≡ Some (publishes (record {
    author = author;
    call = call;
    node = w.node;
    facts = facts;
    k = k;
    set = set;
  }))

-- the entry is the one that was asked for, of this author
pub record IsAdded {S : Type 0} (h : List (Event S)) (author : ℕ) (what : Plain S) (entry : ℕ) : Type 0 where
  pub inside : entry < length h
  pub call : ℕ
  pub at : slice_get h entry ≡ Some (adds author call what)

module _ {S C F : Type 0} (meaning : Meaning S C F) (listed : Listed S) (h : List (Event S)) (limit author s : ℕ) where
  -- what a node that asks for its catalog may be told; the k of a reply is fresh, and where the history was full,
  -- some fresh k has a catalog
  abbrev pub FitsCompile : Wanted → Said C F → Type 0
  FitsCompile w (t.served entry k catalog) = IsFresh h s w.seen k × IsServed meaning listed h author w entry k catalog
  FitsCompile w (t.refused k fault) =
      IsFresh h s w.seen k × ((facts : Datum) × Means meaning listed h k w facts (Err fault))
  FitsCompile w (t.unknown k) = IsFresh h s w.seen k × HasNoFacts listed h k w
  FitsCompile w (t.ahead length_) = (s ≤ length_) × (length_ ≤ length h) × (length_ < w.seen)
  FitsCompile w (t.full length_) =
      (length_ ≡ limit) × (length h ≡ limit)
      × ((k : ℕ) × (facts : Datum) × (made : C × ExportSet)
      × IsFresh h s w.seen k × Means meaning listed h k w facts (Ok made))
  FitsCompile w (t.added kind entry) = ⊥
  FitsCompile w t.short = Unit {0}

  -- what may be told where a plain entry is asked for
  abbrev pub FitsPlain : Plain S → Said C F → Type 0
  FitsPlain what (t.served entry k catalog) = ⊥
  FitsPlain what (t.refused k fault) = ⊥
  FitsPlain what (t.unknown k) = ⊥
  FitsPlain what (t.ahead length_) = ⊥
  FitsPlain what (t.full length_) = (length_ ≡ limit) × (length h ≡ limit)
  FitsPlain what (t.added kind entry) = (kind ≡ kind_of what) × (s ≤ entry) × IsAdded h author what entry
  FitsPlain what t.short = Unit {0}

  abbrev pub FitsSaid : Asked S → Said C F → Type 0
  FitsSaid (compile w) told = FitsCompile w told
  FitsSaid (plain what) told = FitsPlain what told

  -- under the history h, which may have `limit` entries, the reply fits the request of this author, who had seen s
  -- entries
  abbrev pub Fits : Asked S → ReplyOf C F → Type 0
  Fits asked reply = FitsSaid asked (said reply)

module _ {C F : Type 0} where
  abbrev pub had_said : ℕ → Said C F → ℕ
  had_said s (t.served entry k catalog) = entry + 1
  had_said s (t.refused k fault) = k
  had_said s (t.unknown k) = k
  had_said s (t.ahead length_) = length_
  had_said s (t.full length_) = length_
  had_said s (t.added kind entry) = entry + 1
  had_said s t.short = s

  -- how many entries whoever asked has seen after the reply, where it was s before
  abbrev pub had : ℕ → ReplyOf C F → ℕ
  had s reply = had_said s (said reply)

  abbrev pub named_said : Said C F → List ℕ
  named_said (t.served entry k catalog) = entry ∷ []
  named_said (t.refused k fault) = []
  named_said (t.unknown k) = []
  named_said (t.ahead length_) = []
  named_said (t.full length_) = []
  named_said (t.added kind entry) = entry ∷ []
  named_said t.short = []

  -- the entry that the reply names, if it names one
  abbrev pub named : ReplyOf C F → List ℕ
  named reply = named_said (said reply)

-- A reply that fits goes on to do so when the history grows within its limit, and fits for whoever had seen less.
abbrev pub RepliesStay : {S C F : Type 0} → Meaning S C F → Listed S → Type 0
RepliesStay {S} {C} {F} meaning listed =
    (h more : List (Event S)) (limit author s : ℕ) (asked : Asked S) (reply : ReplyOf C F) →
    length (h ++ more) ≤ limit → Fits meaning listed h limit author s asked reply →
    Fits meaning listed (h ++ more) limit author s asked reply

abbrev pub RepliesFitForLess : {S C F : Type 0} → Meaning S C F → Listed S → Type 0
RepliesFitForLess {S} {C} {F} meaning listed =
    (h : List (Event S)) (limit author s less : ℕ) (asked : Asked S) (reply : ReplyOf C F) → less ≤ s →
    Fits meaning listed h limit author s asked reply → Fits meaning listed h limit author less asked reply
