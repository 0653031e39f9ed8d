-- A legal history with one more entry, and its prefixes.
use Rattle.std.proofs.Common.{◌≡◌, ℕ, zero, suc, ◌≤◌, List, [], ◌∷◌, ◌++◌, length, take, Option, None, Some, refl, sym, ap, ◌∙◌, subst, arith}
use Rattle.std.specs.Prelude.{IsSomeAnd, reverse}
use Rattle.std.proofs.lemmas.List.{reverse-append}
use Rattle.std.proofs.Math.Seq.{take-length}
use Rattle.std.proofs.Common.{append_assoc, append-nil}
use Rattle.pp_values.specs.Datum.{Datum}
use Rattle.res_core.specs.declared.export_set.ExportSet.{ExportSet}
use Rattle.export_store.specs.Sets.{Sets}
use Rattle.site_core.specs.Meaning.{Meaning, HasExports}
use Rattle.site_core.specs.Events.{Event, opens, publishes, adds}
use Rattle.site_core.specs.Sets.{sets_at, site_in, first_of, latest_site, site_at}
use Rattle.site_core.specs.Legal.{meaning_at, MayFollow, EachFollows, Legal, PrefixesAreLegal}

module _ {S C F : Type 0} (meaning : Meaning S C F) where
  EachFollows-push : (h es : List (Event S)) (e : Event S) → EachFollows meaning h es → MayFollow meaning (h ++ es) e →
      EachFollows meaning h (es ++ e ∷ [])
  EachFollows-push h [] e all last = (subst (λ x. MayFollow meaning x e) (append-nil h) last, tt)
  EachFollows-push h (x ∷ es) e all last = (
    all.0,
    EachFollows-push (h ++ x ∷ []) es e all.1
        (subst (λ y. MayFollow meaning y e) (sym (append_assoc h (x ∷ []) es)) last),
  )

  pub Legal-push : (h : List (Event S)) (e : Event S) → Legal meaning h → MayFollow meaning h e →
      Legal meaning (h ++ e ∷ [])
  Legal-push [] e legal last = absurd legal
  Legal-push (opens site ∷ es) e legal last = EachFollows-push (opens site ∷ []) es e legal last
  Legal-push (publishes p ∷ es) e legal last = absurd legal
  Legal-push (adds author call what ∷ es) e legal last = absurd legal

  EachFollows-take : (h es : List (Event S)) (k : ℕ) → EachFollows meaning h es → EachFollows meaning h (take k es)
  EachFollows-take h es zero all = tt
  EachFollows-take h [] (suc k) all = tt
  EachFollows-take h (e ∷ es) (suc k) all = (all.0, EachFollows-take (h ++ e ∷ []) es k all.1)

  Legal-take : (h : List (Event S)) (k : ℕ) → Legal meaning h → Legal meaning (take (suc k) h)
  Legal-take [] k legal = legal
  Legal-take (opens site ∷ es) k legal = EachFollows-take (opens site ∷ []) es k legal
  Legal-take (publishes p ∷ es) k legal = legal
  Legal-take (adds author call what ∷ es) k legal = legal

  pub prefixes : PrefixesAreLegal meaning
  prefixes h zero some legal = absurd (omega arith)
  prefixes h (suc k) some legal = Legal-take h k legal

  -- what a snapshot of the first k entries shows has the meaning of these entries
  pub exported_of : (h : List (Event S)) (k : ℕ) (site : S) (sets : Sets) (node : List ℕ) (facts : Datum)
      (set : ExportSet) →
      sets ≡ sets_at h k → site_at h k ≡ Some site → HasExports (meaning site node facts sets) set →
      IsSomeAnd (meaning_at meaning h k node facts) (λ meant. HasExports meant set)
  exported_of h k site sets node facts set version_is site_is has =
      rw site_is (subst (λ m. HasExports (meaning site node facts m) set) version_is has)

  -- a legal history has an entry
  pub some_entry : (h : List (Event S)) → Legal meaning h → 1 ≤ length h
  some_entry [] legal = absurd legal
  some_entry (e ∷ es) legal = omega arith

  some_first : (found later : Option S) → (site : S) × (later ≡ Some site) →
      (site : S) × (first_of found later ≡ Some site)
  some_first None later there = there
  some_first (Some site) later there = (site, refl)

  latest_behind : (es : List (Event S)) (opened : S) → (site : S) × (latest_site (es ++ opens opened ∷ []) ≡ Some site)
  latest_behind [] opened = (opened, refl)
  latest_behind (e ∷ es) opened =
      some_first (site_in e) (latest_site (es ++ opens opened ∷ [])) (latest_behind es opened)

  -- and a site is in force after it
  pub some_site : (h : List (Event S)) → Legal meaning h → (site : S) × (site_at h (length h) ≡ Some site)
  some_site [] legal = absurd legal
  some_site (opens site ∷ es) legal =
      let found = latest_behind (reverse es) site in (
        found.0,
        ap (λ l. latest_site (reverse l)) (take-length (opens site ∷ es))
            ∙ ap latest_site (reverse-append (opens site ∷ []) es) ∙ found.1,
      )
  some_site (publishes p ∷ es) legal = absurd legal
  some_site (adds author call what ∷ es) legal = absurd legal
