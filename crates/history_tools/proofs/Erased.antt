-- What entries come to does not depend on whose they are.
use Rattle.std.proofs.Common.{◌≡◌, ℕ, zero, suc, ◌≤◌, List, [], ◌∷◌, ◌++◌, length, map, take, slice_get, Option, None, Some, refl, sym, ap, ◌∙◌, subst, arith}
use Rattle.std.specs.Prelude.{option_map, reverse}
use Rattle.std.specs.FinMap as fin
use Rattle.std.specs.List.{take-map}
use Rattle.std.proofs.lemmas.List.{length-map, map-append, reverse-append}
use Rattle.std.proofs.lemmas.Option.{slice_get-map}
use Rattle.pp_values.specs.Datum.{Datum}
use Rattle.export_store.specs.Sets.{Sets}
use Rattle.site_core.specs.Events.{Event, Publication, opens, publishes, adds, author_of}
use Rattle.site_core.specs.Legal.{meaning_at}
use Rattle.site_core.specs.Meaning.{Meaning}
use Rattle.site_core.specs.Resuming.{base_of, past_author}
use Rattle.site_core.specs.Sets.{sets_after, sets_from, sets_at, site_in, first_of, latest_site, site_at}
use Rattle.site_core.specs.declared.plain.Plain.TheVariants as ask
use Rattle.history_tools.specs.SameWorkers.{given_to}

module _ {A B : Type 0} (f : A → B) where
  map_back : (xs : List A) → reverse (map f xs) ≡ map f (reverse xs)
  map_back [] = refl
  map_back (x ∷ xs) =
      reverse-append (f x ∷ []) (map f xs) ∙ ap (λ l. l ++ f x ∷ []) (map_back xs)
      ∙ sym (map-append f (reverse xs) (x ∷ [])) ∙ ap (map f) (sym (reverse-append (x ∷ []) xs))

module _ {S : Type 0} where
  -- an entry without its author
  abbrev pub erased : Event S → Event S
  erased e = given_to 0 0 e

  abbrev pub all_erased : List (Event S) → List (Event S)
  all_erased h = map erased h

  abbrev node_in : Event S → List ℕ
  node_in (opens site) = []
  node_in (publishes p) = p.node
  node_in (adds author call what) = []

  abbrev k_in : Event S → ℕ
  k_in (opens site) = 0
  k_in (publishes p) = p.k
  k_in (adds author call what) = 0

  abbrev facts_in : Datum → Event S → Datum
  facts_in other (opens site) = other
  facts_in other (publishes p) = p.facts
  facts_in other (adds author call what) = other

  sets_erased : (sets : Sets) (e : Event S) → sets_after sets (erased e) ≡ sets_after sets e
  sets_erased sets (opens site) = refl
  sets_erased sets (publishes p) = refl
  sets_erased sets (adds author call (ask.Deactivate node)) = refl
  sets_erased sets (adds author call (ask.Deploy site)) = refl
  sets_erased sets (adds author call (ask.Report node report)) = refl

  all_sets_erased : (sets : Sets) (es : List (Event S)) → sets_from sets (all_erased es) ≡ sets_from sets es
  all_sets_erased sets [] = refl
  all_sets_erased sets (e ∷ es) =
      ap (λ s. sets_from s (all_erased es)) (sets_erased sets e) ∙ all_sets_erased (sets_after sets e) es

  site_erased : (e : Event S) → site_in (erased e) ≡ site_in e
  site_erased (opens site) = refl
  site_erased (publishes p) = refl
  site_erased (adds author call (ask.Deactivate node)) = refl
  site_erased (adds author call (ask.Deploy site)) = refl
  site_erased (adds author call (ask.Report node report)) = refl

  all_sites_erased : (es : List (Event S)) → latest_site (all_erased es) ≡ latest_site es
  all_sites_erased [] = refl
  all_sites_erased (e ∷ es) =
      ap (λ s. first_of s (latest_site (all_erased es))) (site_erased e)
      ∙ ap (first_of (site_in e)) (all_sites_erased es)

  sets_at_erased : (h : List (Event S)) (k : ℕ) → sets_at (all_erased h) k ≡ sets_at h k
  sets_at_erased h k = ap (sets_from fin.empty) (take-map erased k h) ∙ all_sets_erased fin.empty (take k h)

  site_at_erased : (h : List (Event S)) (k : ℕ) → site_at (all_erased h) k ≡ site_at h k
  site_at_erased h k =
      ap (λ l. latest_site (reverse l)) (take-map erased k h) ∙ ap latest_site (map_back erased (take k h))
      ∙ all_sites_erased (reverse (take k h))

  module _ (h g : List (Event S)) (same : all_erased h ≡ all_erased g) where
    pub same_sets : (k : ℕ) → sets_at h k ≡ sets_at g k
    same_sets k = sym (sets_at_erased h k) ∙ ap (λ l. sets_at l k) same ∙ sets_at_erased g k

    pub same_site : (k : ℕ) → site_at h k ≡ site_at g k
    same_site k = sym (site_at_erased h k) ∙ ap (λ l. site_at l k) same ∙ site_at_erased g k

    pub same_length : length h ≡ length g
    same_length = sym (length-map h erased) ∙ ap length same ∙ length-map g erased

    pub same_meaning : {C F : Type 0} (meaning : Meaning S C F) (k : ℕ) (node : List ℕ) (facts : Datum) →
        meaning_at meaning h k node facts ≡ meaning_at meaning g k node facts
    same_meaning meaning k node facts =
        ap (λ s. option_map (λ site. meaning site node facts s) (site_at h k)) (same_sets k)
        ∙ ap (option_map (λ site. meaning site node facts (sets_at g k))) (same_site k)

    -- where one has a publication the other has it too, but for the author
    pub same_entry : (i : ℕ) (p : Publication) → slice_get h i ≡ Some (publishes p) →
        (q : Publication) × (slice_get g i ≡ Some (publishes q)) × (q.node ≡ p.node) × (q.facts ≡ p.facts)
        × (q.k ≡ p.k)
    same_entry i p at =
        found (slice_get g i) refl
        (sym (slice_get-map erased g i) ∙ ap (λ l. slice_get l i) (sym same) ∙ slice_get-map erased h i
        ∙ ap (option_map erased) at)
      where
        one : (x : Event S) → slice_get g i ≡ Some x → erased x ≡ erased (publishes p) →
            (q : Publication) × (slice_get g i ≡ Some (publishes q)) × (q.node ≡ p.node) × (q.facts ≡ p.facts)
            × (q.k ≡ p.k)
        one (opens site) there is = absurd (cc is)
        one (publishes q) there is = (q, there, ap node_in is, ap (facts_in p.facts) is, ap k_in is)
        one (adds author call what) there is = absurd (cc is)

        found : (o : Option (Event S)) → slice_get g i ≡ o → option_map erased o ≡ Some (erased (publishes p)) →
            (q : Publication) × (slice_get g i ≡ Some (publishes q)) × (q.node ≡ p.node) × (q.facts ≡ p.facts)
            × (q.k ≡ p.k)
        found None there is = absurd (cc is)
        found (Some x) there is = one x there (cc is)

  -- an entry is by an author within the bound of all
  pub author_within : (h : List (Event S)) (i : ℕ) (e : Event S) → slice_get h i ≡ Some e →
      past_author (author_of e) ≤ base_of h
  author_within [] i e at = absurd (cc at)
  author_within (x ∷ h) zero e at =
      let same : x ≡ e = cc at in
      subst (λ y. past_author (author_of y) ≤ base_of (x ∷ h)) same (omega arith)
  author_within (x ∷ h) (suc i) e at = let rest = author_within h i e at in omega (arith, rest)
