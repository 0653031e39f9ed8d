-- How the sets and the site go on when the history grows, and what `sets_at` says of a node.
use Rattle.std.proofs.Common.{◌≡◌, ℕ, ◌≤◌, cond, List, [], ◌∷◌, ◌++◌, length, take, Option, None, Some, refl, sym, ◌∙◌, ap}
use Rattle.std.specs.Prelude.{reverse}
use Rattle.std.specs.FinMap as fin
use Rattle.std.specs.Option.{unwrap_or}
use Rattle.std.specs.Cmp.Lexicographic.{nat_list_cmp_total, texts_ties}
use Rattle.std.specs.Str.{bytes_eq}
use Rattle.std.proofs.lemmas.List.{reverse-append, take-append-le}
use Rattle.std.proofs.Math.Seq.{take-length}
use Rattle.pp_values.specs.Rising.{text_cmp}
use Rattle.res_core.specs.declared.export_set.ExportSet.{ExportSet}
use Rattle.export_store.specs.Sets.{Sets}
use Rattle.site_core.specs.Events.{Event, opens, publishes, adds}
use Rattle.site_core.specs.Sets.{sets_after, sets_from, sets_at, latest_set, site_in, first_of, latest_site, site_at, site_after, SetsAreTheLatest}
use Rattle.site_core.specs.declared.plain.Plain.TheVariants as ask

module _ {S : Type 0} where
  pub sets_from-push : (sets : Sets) (h : List (Event S)) (e : Event S) →
      sets_from sets (h ++ e ∷ []) ≡ sets_after (sets_from sets h) e
  sets_from-push sets [] e = refl
  sets_from-push sets (d ∷ h) e = sets_from-push (sets_after sets d) h e

  -- the sets after all entries, when one more comes
  pub sets_at-push : (h : List (Event S)) (e : Event S) →
      sets_at (h ++ e ∷ []) (length (h ++ e ∷ [])) ≡ sets_after (sets_at h (length h)) e
  sets_at-push h e = rw (take-length (h ++ e ∷ []), take-length h) (sets_from-push fin.empty h e)

  pub latest_site-push : (h : List (Event S)) (e : Event S) →
      latest_site (reverse (h ++ e ∷ [])) ≡ first_of (site_in e) (latest_site (reverse h))
  latest_site-push h e = rw (reverse-append h (e ∷ [])) refl

  first_or : (found : Option S) (now : S) → first_of found (Some now) ≡ Some (unwrap_or found now)
  first_or None now = refl
  first_or (Some site) now = refl

  -- the site after all entries, when one more comes
  pub site_at-push : (h : List (Event S)) (e : Event S) (now : S) → site_at h (length h) ≡ Some now →
      site_at (h ++ e ∷ []) (length (h ++ e ∷ [])) ≡ Some (site_after now e)
  site_at-push h e now is =
      ap (λ es. latest_site (reverse es)) (take-length (h ++ e ∷ [])) ∙ latest_site-push h e
      ∙ ap (λ es. first_of (site_in e) (latest_site (reverse es))) (sym (take-length h)) ∙ ap (first_of (site_in e)) is
      ∙ first_or (site_in e) now

  -- what the first k entries left stays when more come
  pub sets_at-append : (h more : List (Event S)) (k : ℕ) → k ≤ length h → sets_at (h ++ more) k ≡ sets_at h k
  sets_at-append h more k within = ap (sets_from fin.empty) (take-append-le k h more within)

  pub site_at-append : (h more : List (Event S)) (k : ℕ) → k ≤ length h → site_at (h ++ more) k ≡ site_at h k
  site_at-append h more k within = ap (λ es. latest_site (reverse es)) (take-append-le k h more within)

  -- the latest set of a node in entries behind which it has this one
  latest_or : List ℕ → List (Event S) → Option ExportSet → Option ExportSet
  latest_or node [] set = set
  latest_or node (opens site ∷ earlier) set = latest_or node earlier set
  latest_or node (publishes p ∷ earlier) set = cond (bytes_eq node p.node) (Some p.set) (latest_or node earlier set)
  latest_or node (adds author call (ask.Deactivate gone) ∷ earlier) set =
      cond (bytes_eq node gone) None (latest_or node earlier set)
  latest_or node (adds author call (ask.Deploy site) ∷ earlier) set = latest_or node earlier set
  latest_or node (adds author call (ask.Report about report) ∷ earlier) set = latest_or node earlier set

  latest_or-none : (node : List ℕ) (es : List (Event S)) → latest_or node es None ≡ latest_set node es
  unfolding latest_or
  latest_or-none node [] = refl
  latest_or-none node (opens site ∷ earlier) = latest_or-none node earlier
  latest_or-none node (publishes p ∷ earlier) = ap (cond (bytes_eq node p.node) (Some p.set))
      (latest_or-none node earlier)
  latest_or-none node (adds author call (ask.Deactivate gone) ∷ earlier) =
      ap (cond (bytes_eq node gone) None) (latest_or-none node earlier)
  latest_or-none node (adds author call (ask.Deploy site) ∷ earlier) = latest_or-none node earlier
  latest_or-none node (adds author call (ask.Report about report) ∷ earlier) = latest_or-none node earlier

  latest_or-append : (node : List ℕ) (es fs : List (Event S)) (set : Option ExportSet) →
      latest_or node (es ++ fs) set ≡ latest_or node es (latest_or node fs set)
  unfolding latest_or
  latest_or-append node [] fs set = refl
  latest_or-append node (opens site ∷ earlier) fs set = latest_or-append node earlier fs set
  latest_or-append node (publishes p ∷ earlier) fs set =
      ap (cond (bytes_eq node p.node) (Some p.set)) (latest_or-append node earlier fs set)
  latest_or-append node (adds author call (ask.Deactivate gone) ∷ earlier) fs set =
      ap (cond (bytes_eq node gone) None) (latest_or-append node earlier fs set)
  latest_or-append node (adds author call (ask.Deploy site) ∷ earlier) fs set = latest_or-append node earlier fs set
  latest_or-append node (adds author call (ask.Report about report) ∷ earlier) fs set =
      latest_or-append node earlier fs set

  get-sets_after : (sets : Sets) (e : Event S) (node : List ℕ) →
      fin.get (sets_after sets e) node ≡ latest_or node (e ∷ []) (fin.get sets node)
  unfolding latest_or
  get-sets_after sets (opens site) node = refl
  get-sets_after sets (publishes p) node =
      fin.get-insert nat_list_cmp_total sets p.node p.set node
      ∙ ap (λ b. cond b (Some p.set) (fin.get sets node)) (sym (texts_ties node p.node))
  get-sets_after sets (adds author call (ask.Deactivate gone)) node =
      fin.get-remove nat_list_cmp_total sets gone node
      ∙ ap (λ b. cond b None (fin.get sets node)) (sym (texts_ties node gone))
  get-sets_after sets (adds author call (ask.Deploy site)) node = refl
  get-sets_after sets (adds author call (ask.Report about report)) node = refl

  get-sets_from : (sets : Sets) (es : List (Event S)) (node : List ℕ) →
      fin.get (sets_from sets es) node ≡ latest_or node (reverse es) (fin.get sets node)
  unfolding latest_or
  get-sets_from sets [] node = refl
  get-sets_from sets (e ∷ es) node =
      get-sets_from (sets_after sets e) es node ∙ ap (latest_or node (reverse es)) (get-sets_after sets e node)
      ∙ sym (latest_or-append node (reverse es) (e ∷ []) (fin.get sets node))
      ∙ ap (λ fs. latest_or node fs (fin.get sets node)) (sym (reverse-append (e ∷ []) es))

  pub latest_sets : SetsAreTheLatest S
  latest_sets h k node =
      get-sets_from fin.empty (take k h) node ∙ ap (latest_or node (reverse (take k h))) (fin.get-empty text_cmp node)
      ∙ latest_or-none node (reverse (take k h))
