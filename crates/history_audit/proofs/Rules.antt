-- The rules of one entry, and what the first broken one is.
use Rattle.std.proofs.Common.{◌≡◌, ◌≢◌, ◌⊎◌, inl, inr, ℕ, ◌≤◌, Bool, true, false, cond, List, length, take, Option, None, Some, Result, Ok, Err, refl, sym, ap, ◌∙◌, subst, true≢false}
use Rattle.std.specs.Prelude.{◌==◌, ◌&&◌, nat_le, IsTrue, IsSomeAnd, IsOkAnd, reverse, option_map}
use Rattle.std.specs.Cmp.{first_so, second_so, unsigned_Decides}
use Rattle.std.proofs.lemmas.Bool.{leb-true, le-leb, and_from}
use Rattle.std.proofs.Math.Seq.{take-length}
use Rattle.res_core.specs.declared.export_set.ExportSet.{ExportSet}
use Rattle.site_core.specs.Meaning.{Meaning, HasExports}
use Rattle.site_core.specs.Events.{Publication, Event, opens, publishes, adds, calls_of, is_later}
use Rattle.site_core.specs.Sets.{sets_at, latest_site, site_at}
use Rattle.site_core.specs.Legal.{meaning_at, MayFollow, Legal}
use Rattle.site_core.proofs.Legal.{prefixes, some_site}
use Rattle.export_store.specs.Sameness.{same_set}
use Rattle.history_audit.specs.Audits.{first_broken, wrong_call, is_earlier, wrong_exports, wrong_exports_at, broken_part}
use Rattle.history_audit.specs.Laws.{PublicationBreaks, BreaksFirst}
use Rattle.history_audit.specs.declared.verdict.Part.{Part}
use Rattle.history_audit.specs.declared.verdict.Part.TheVariants as part
use Rattle.export_store.proofs.SameSets.{set_Decides}

-- what makes none of two parts broken, and what makes this one the first
none_broken : (first later : Option Part) → first_broken first later ≡ None → (first ≡ None) × (later ≡ None)
none_broken None later is = (refl, is)
none_broken (Some broken) later is = absurd cc

one_broken : (first later : Option Part) (broken : Part) → first_broken first later ≡ Some broken →
    (first ≡ Some broken) ⊎ ((first ≡ None) × (later ≡ Some broken))
one_broken None later broken is = inr (refl, is)
one_broken (Some other) later broken is = inl is

none_or : (b : Bool) (broken : Part) → cond b None (Some broken) ≡ None → b ≡ true
none_or true broken is = refl
none_or false broken is = absurd cc

some_or : (b : Bool) (broken other : Part) → cond b None (Some broken) ≡ Some other → (b ≡ false) × (broken ≡ other)
some_or true broken other is = absurd cc
some_or false broken other is = (refl, cc)

none_unless : (b : Bool) (later : Option Part) (broken : Part) → cond b later (Some broken) ≡ None →
    (b ≡ true) × (later ≡ None)
none_unless true later broken is = (refl, is)
none_unless false later broken is = absurd cc

some_unless : (b : Bool) (later : Option Part) (broken other : Part) → cond b later (Some broken) ≡ Some other →
    ((b ≡ false) × (broken ≡ other)) ⊎ ((b ≡ true) × (later ≡ Some other))
some_unless true later broken other is = inr (refl, is)
some_unless false later broken other is = inl (refl, cc)

not_both : (b : Bool) → b ≡ true → b ≡ false → ⊥
not_both b is is_not = true≢false (sym is ∙ is_not)

-- k is from 1 to n
earlier_so : (k n : ℕ) → (nat_le 1 k && nat_le k n) ≡ true → (1 ≤ k) × (k ≤ n)
earlier_so k n h = (leb-true 1 k (first_so _ _ h), leb-true k n (second_so _ _ h))

earlier_from : (k n : ℕ) → 1 ≤ k → k ≤ n → (nat_le 1 k && nat_le k n) ≡ true
earlier_from k n some within = and_from _ _ (le-leb 1 k some) (le-leb k n within)

module _ {C F : Type 0} where
  exports_so : (meant : Option (Result (C × ExportSet) F)) (set : ExportSet) → wrong_exports_at meant set ≡ None →
      IsSomeAnd meant (λ m. HasExports m set)
  exports_so None set is = absurd cc
  exports_so (Some (Err fault)) set is = absurd cc
  exports_so (Some (Ok made)) set is = (set_Decides made.1 set).0 (none_or (same_set made.1 set) part.Set is)

  exports_from : (meant : Option (Result (C × ExportSet) F)) (set : ExportSet) →
      IsSomeAnd meant (λ m. HasExports m set) → wrong_exports_at meant set ≡ None
  exports_from None set has = absurd has
  exports_from (Some (Err fault)) set has = absurd has
  exports_from (Some (Ok made)) set has =
      ap (λ b. cond b None (Some part.Set)) ((set_Decides made.1 set).1 has)

  -- where something is meant
  abbrev WrongExports : Option (Result (C × ExportSet) F) → ExportSet → Part → Type 0
  WrongExports meant set part.Call = ⊥
  WrongExports meant set part.K = ⊥
  WrongExports meant set part.Fault = (fault : F) × (meant ≡ Some (Err fault))
  WrongExports meant set part.Set = IsSomeAnd meant (λ m. IsOkAnd m (λ made. made.1 ≢ set))

  exports_wrong : (meant : Result (C × ExportSet) F) (set : ExportSet) (broken : Part) →
      wrong_exports meant set ≡ Some broken → WrongExports (Some meant) set broken
  exports_wrong (Err fault) set part.Call is = cc
  exports_wrong (Err fault) set part.K is = cc
  exports_wrong (Err fault) set part.Fault is = (fault, refl)
  exports_wrong (Err fault) set part.Set is = absurd cc
  exports_wrong (Ok made) set broken is =
      let found = some_or (same_set made.1 set) part.Set broken is in
      subst (WrongExports (Some (Ok made)) set) found.1
      (λ one. not_both (same_set made.1 set) ((set_Decides made.1 set).1 one) found.0)

module _ {S : Type 0} where
  call_so : (h : List (Event S)) (author call : ℕ) → wrong_call h author call ≡ None → call ≡ calls_of author h
  call_so h author call is =
      (unsigned_Decides call (calls_of author h)).0 (none_or (call == calls_of author h) part.Call is)

  call_from : (h : List (Event S)) (author call : ℕ) → call ≡ calls_of author h → wrong_call h author call ≡ None
  call_from h author call is =
      ap (λ b. cond b None (Some part.Call)) ((unsigned_Decides call (calls_of author h)).1 is)

  call_wrong : (h : List (Event S)) (author call : ℕ) (broken : Part) → wrong_call h author call ≡ Some broken →
      (call ≢ calls_of author h) × (part.Call ≡ broken)
  call_wrong h author call broken is =
      let found = some_or (call == calls_of author h) part.Call broken is in
      (λ one. not_both (call == calls_of author h) ((unsigned_Decides call (calls_of author h)).1 one) found.0, found.1)

module _ {S C F : Type 0} (meaning : Meaning S C F) where
  -- what the k entries mean that a publication behind h was made from
  abbrev meant_for : List (Event S) → Publication → Option (Result (C × ExportSet) F)
  meant_for h p = meaning_at meaning h p.k p.node p.facts

  -- an entry that breaks no rule may follow
  pub follows : (h : List (Event S)) (e : Event S) → broken_part meaning h e ≡ None → MayFollow meaning h e
  follows h (opens site) is = absurd cc
  follows h (adds author call what) is = call_so h author call is
  follows h (publishes p) is =
      let parts = none_broken (wrong_call h p.author p.call) _ is in
      let told = none_unless (is_earlier p.k h) (wrong_exports_at (meant_for h p) p.set) part.K parts.1 in
      let range = earlier_so p.k (length h) told.0 in
      record {
        numbered = call_so h p.author p.call parts.0;
        some = range.0;
        earlier = range.1;
        exported = exports_so (meant_for h p) p.set told.1;
      }

  -- and one that may follow breaks none
  pub breaks_none : (h : List (Event S)) (e : Event S) → MayFollow meaning h e → broken_part meaning h e ≡ None
  breaks_none h (opens site) may = absurd may
  breaks_none h (adds author call what) may = call_from h author call may
  breaks_none h (publishes p) may =
      ap (λ o. first_broken o (cond (is_earlier p.k h) (wrong_exports_at (meant_for h p) p.set)
      (Some part.K))) (call_from h p.author p.call may.numbered)
      ∙ ap (λ b. cond b (wrong_exports_at (meant_for h p) p.set) (Some part.K))
      (earlier_from p.k (length h) may.some may.earlier)
      ∙ exports_from (meant_for h p) p.set may.exported

  -- something is meant behind a legal history
  some_meant : (h : List (Event S)) (k : ℕ) → Legal meaning h → 1 ≤ k → (site : S) × (site_at h k ≡ Some site)
  some_meant h k legal some =
      let found = some_site meaning (take k h) (prefixes meaning h k some legal) in
      (found.0, ap (λ (l : List (Event S)). latest_site (reverse l)) (sym (take-length (take k h))) ∙ found.1)

  published_wrong : (h : List (Event S)) (p : Publication) (broken : Part) (site : S) → site_at h p.k ≡ Some site →
      p.call ≡ calls_of p.author h → (1 ≤ p.k) × (p.k ≤ length h) →
      wrong_exports_at (meant_for h p) p.set ≡ Some broken →
      PublicationBreaks meaning h p broken
  published_wrong h p broken site at numbered range is =
      let meant : meant_for h p ≡ Some (meaning site p.node p.facts (sets_at h p.k)) =
      ap (option_map (λ s. meaning s p.node p.facts (sets_at h p.k))) at in
      let wrong : WrongExports (meant_for h p) p.set broken =
      subst (λ m. WrongExports m p.set broken) (sym meant)
      (exports_wrong (meaning site p.node p.facts (sets_at h p.k)) p.set broken
      (subst (λ m. wrong_exports_at m p.set ≡ Some broken) meant is)) in
      by_part broken wrong
    where
      by_part : (broken : Part) → WrongExports (meant_for h p) p.set broken →
          PublicationBreaks meaning h p broken
      by_part part.Call wrong = absurd wrong
      by_part part.K wrong = absurd wrong
      by_part part.Fault wrong = (numbered, range, wrong)
      by_part part.Set wrong = (numbered, range, wrong)

  -- where its number is right
  numbered_wrong : (h : List (Event S)) (p : Publication) (broken : Part) → Legal meaning h →
      p.call ≡ calls_of p.author h →
      ((is_earlier p.k h ≡ false) × (part.K ≡ broken))
      ⊎ ((is_earlier p.k h ≡ true) × (wrong_exports_at (meant_for h p) p.set ≡ Some broken)) →
      PublicationBreaks meaning h p broken
  numbered_wrong h p broken legal numbered (inl outside) =
      subst (PublicationBreaks meaning h p) outside.1
      (numbered, λ range. not_both (is_earlier p.k h) (earlier_from p.k (length h) range.0 range.1) outside.0)
  numbered_wrong h p broken legal numbered (inr inside) =
      let range = earlier_so p.k (length h) inside.0 in
      let site = some_meant h p.k legal range.0 in
      published_wrong h p broken site.0 site.1 numbered range inside.1

  publication_wrong : (h : List (Event S)) (p : Publication) (broken : Part) → Legal meaning h →
      (wrong_call h p.author p.call ≡ Some broken)
      ⊎ ((wrong_call h p.author p.call ≡ None)
      × (cond (is_earlier p.k h) (wrong_exports_at (meant_for h p) p.set) (Some part.K) ≡ Some broken)) →
      PublicationBreaks meaning h p broken
  publication_wrong h p broken legal (inl wrong) =
      let found = call_wrong h p.author p.call broken wrong in
      subst (PublicationBreaks meaning h p) found.1 found.0
  publication_wrong h p broken legal (inr right) =
      numbered_wrong h p broken legal (call_so h p.author p.call right.0)
      (some_unless (is_earlier p.k h) (wrong_exports_at (meant_for h p) p.set) part.K broken right.1)

  -- what is told of an entry behind a legal history is the first rule that it breaks
  pub breaks_first : (h : List (Event S)) (e : Event S) (broken : Part) → Legal meaning h → IsTrue (is_later e) →
      broken_part meaning h e ≡ Some broken → BreaksFirst meaning h e broken
  breaks_first h (opens site) broken legal later is = absurd cc
  breaks_first h (adds author call what) broken legal later is =
      let found = call_wrong h author call broken is in
      subst (BreaksFirst meaning h (adds author call what)) found.1 found.0
  breaks_first h (publishes p) broken legal later is =
      publication_wrong h p broken legal (one_broken (wrong_call h p.author p.call)
      (cond (is_earlier p.k h) (wrong_exports_at (meant_for h p) p.set) (Some part.K)) broken is)
