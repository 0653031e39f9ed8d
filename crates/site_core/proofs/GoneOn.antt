-- What is kept beside a history that is handed in.
use Rattle.std.proofs.Common.{◌≡◌, ℕ, ◌-◌, ◌≤◌, max, List, [], ◌∷◌, ◌++◌, length, take, drop, get_or, Option, None, Some, refl, sym, ap, ◌∙◌, arith}
use Rattle.std.specs.Prelude.{reverse}
use Rattle.std.specs.FinMap as fin
use Rattle.std.proofs.lemmas.List.{reverse-append}
use Rattle.std.proofs.Math.Seq.{take-length}
use Rattle.std.proofs.lemmas.Grind.{common_steps}
use Rattle.site_core.specs.EntryViews.{event_of, events_of}
use Rattle.site_core.specs.declared.entry.Entry.{Entry}
use Rattle.site_core.specs.Events.{Event, author_of}
use Rattle.site_core.specs.Resuming.{past_author, base_of}
use Rattle.site_core.specs.Sets.{sets_from, sets_at, site_in, first_of, latest_site, site_at}

max_assoc : (a b c : ℕ) → max (max a b) c ≡ max a (max b c)
max_assoc a b c = omega arith

rest_of : {A : Type 0} (y : A) (ys : List A) → take (length (y ∷ ys) - 1) (drop 1 (y ∷ ys)) ≡ ys
rest_of y ys = grind (arith, common_steps)

module _ {S : Type 0} where
  -- one more entry's author was looked at
  pub base_step : (greatest next : ℕ) (e : Event S) (left all : List (Event S)) →
      next ≡ max greatest (past_author (author_of e)) → max greatest (base_of (e ∷ left)) ≡ base_of all →
      max next (base_of left) ≡ base_of all
  base_step greatest next e left all is so_far =
      ap (λ n. max n (base_of left)) is ∙ max_assoc greatest (past_author (author_of e)) (base_of left) ∙ so_far

  pub sets_all : (h : List (Event S)) → sets_from fin.empty h ≡ sets_at h (length h)
  sets_all h = ap (sets_from fin.empty) (sym (take-length h))

  pub latest_all : (h : List (Event S)) → latest_site (reverse h) ≡ site_at h (length h)
  latest_all h = ap (λ es. latest_site (reverse es)) (sym (take-length h))

  first_none : (found : Option S) → first_of found None ≡ found
  first_none None = refl
  first_none (Some site) = refl

  first_assoc : (a b c : Option S) → first_of (first_of a b) c ≡ first_of a (first_of b c)
  first_assoc None b c = refl
  first_assoc (Some site) b c = refl

  latest_end : (es : List (Event S)) (e : Event S) → latest_site (es ++ e ∷ []) ≡ first_of (latest_site es) (site_in e)
  latest_end [] e = first_none (site_in e)
  latest_end (x ∷ es) e =
      ap (first_of (site_in x)) (latest_end es e) ∙ sym (first_assoc (site_in x) (latest_site es) (site_in e))

  pub latest_first : (all : List (Event S)) → first_of (latest_site (reverse all)) None ≡ latest_site (reverse all)
  latest_first all = first_none (latest_site (reverse all))

  -- one more entry was looked at
  pub latest_step : (latest next : Option S) (e : Event S) (left all : List (Event S)) →
      next ≡ first_of (site_in e) latest →
      first_of (latest_site (reverse (e ∷ left))) latest ≡ latest_site (reverse all) →
      first_of (latest_site (reverse left)) next ≡ latest_site (reverse all)
  latest_step latest next e left all is so_far =
      ap (first_of (latest_site (reverse left))) is
      ∙ sym (first_assoc (latest_site (reverse left)) (site_in e) latest)
      ∙ ap (λ o. first_of o latest) (sym (ap latest_site (reverse-append (e ∷ []) left) ∙ latest_end (reverse left) e))
      ∙ so_far

  -- so far as the code goes over entries
  pub looked_at : (left : List (Entry S)) (x : Entry S) (latest next : Option S) (all : List (Event S)) →
      1 ≤ length left → x ≡ get_or left 0 x → next ≡ first_of (site_in (event_of x)) latest →
      first_of (latest_site (reverse (events_of left))) latest ≡ latest_site (reverse all) →
      first_of (latest_site (reverse (events_of (take (length left - 1) (drop 1 left))))) next ≡ latest_site (reverse all)
  looked_at [] x latest next all some at is so_far = absurd (omega (arith, some))
  looked_at (y ∷ ys) x latest next all some at is so_far =
      ap (λ l. first_of (latest_site (reverse (events_of l))) next) (rest_of y ys)
      ∙ latest_step latest next (event_of y) (events_of ys) all
      (is ∙ ap (λ z. first_of (site_in (event_of z)) latest) at) so_far
