-- What the replies of a round say, by its nodes in order.
use Rattle.std.proofs.Common.{◌≡◌, ℕ, zero, suc, ◌+◌, ◌<◌, ◌≤◌, ◌⊎◌, inl, inr, ⊎_elim, List, [], ◌∷◌, ◌++◌, length, take, slice_get, Some, None, refl, sym, ap, ◌∙◌, subst, arith}
use Rattle.std.specs.List.{AllZip}
use Rattle.std.specs.Prelude.{Result, Ok, Err, option_map, reverse}
use Rattle.std.proofs.lemmas.List.{reverse-append}
use Rattle.list_sums.specs.Counts.{same, times}
use Rattle.list_sums.proofs.Totals.{total-append}
use Rattle.pp_values.specs.Datum.{Datum}
use Rattle.res_core.specs.declared.export_set.ExportSet.{ExportSet}
use Rattle.site_core.specs.Asked.{compile, all_asks}
use Rattle.site_core.specs.Each.{Each}
use Rattle.site_core.specs.Events.{Event, Publication, opens, publishes, adds}
use Rattle.site_core.specs.Fits.{Listed, FitsSaid, IsFresh, Means, named, named_said}
use Rattle.site_core.specs.Legal.{meaning_at}
use Rattle.site_core.specs.Meaning.{Meaning}
use Rattle.site_core.specs.Runs.{all_named}
use Rattle.site_core.specs.Said as t
use Rattle.site_core.specs.Said.{Said, said}
use Rattle.site_core.specs.Sets.{sets_at, site_at, latest_site}
use Rattle.site_core.specs.declared.reply.ReplyOf.{ReplyOf}
use Rattle.history_tools.specs.Settles.{IsMeantFrom}
use Rattle.history_tools.specs.Rounds.{wanted_of, asked_of, IsPublication}
use Rattle.history_tools.proofs.Dealt.{IsDealt}
use Rattle.history_tools.proofs.Sums.{same_is}

either : (a b : ℕ) → 1 ≤ a + b → (1 ≤ a) ⊎ (1 ≤ b)
either zero b some = inr (omega (arith, some))
either (suc a) b some = inl (omega arith)

module _ {A : Type 0} where
  -- what holds in each place holds of each
  pub each_at : (P : A → Type 0) (xs : List A) → ((i : ℕ) (x : A) → i < length xs → slice_get xs i ≡ Some x →
      P x) → Each P xs
  each_at P [] all = tt
  each_at P (x ∷ xs) all =
      (all 0 x (omega arith) refl, each_at P xs (λ i y inside at. all (suc i) y (omega (arith, inside)) at))

  each_snoc : (P : A → Type 0) (xs : List A) (x : A) → Each P xs → P x → Each P (xs ++ x ∷ [])
  each_snoc P [] x each last = (last, tt)
  each_snoc P (y ∷ xs) x each last = (each.0, each_snoc P xs x each.1 last)

  pub each_both : (P : A → Type 0) (xs ys : List A) → Each P xs → Each P ys → Each P (xs ++ ys)
  each_both P [] ys first second = second
  each_both P (x ∷ xs) ys first second = (first.0, each_both P xs ys first.1 second)

  each_reverse : (P : A → Type 0) (xs : List A) → Each P xs → Each P (reverse xs)
  each_reverse P [] each = tt
  each_reverse P (x ∷ xs) each =
      subst (Each P) (sym (reverse-append (x ∷ []) xs)) (each_snoc P (reverse xs) x (each_reverse P xs each.1) each.0)

  each_take : (P : A → Type 0) (k : ℕ) (xs : List A) → Each P xs → Each P (take k xs)
  each_take P zero xs each = tt
  each_take P (suc k) [] each = tt
  each_take P (suc k) (x ∷ xs) each = (each.0, each_take P k xs each.1)

module _ {S : Type 0} where
  site_behind : (site : S) (es : List (Event S)) → Each IsPublication es → latest_site (es ++ opens site ∷ []) ≡
      Some site
  site_behind site [] each = refl
  site_behind site (opens other ∷ es) each = absurd each.0
  site_behind site (publishes p ∷ es) each = site_behind site es each.1
  site_behind site (adds author call what ∷ es) each = absurd each.0

  -- behind an opening and publications its site stays in force
  pub site_stays : (site : S) (h es : List (Event S)) (k : ℕ) → h ≡ opens site ∷ es → Each IsPublication es → 1 ≤ k →
      site_at h k ≡ Some site
  site_stays site h es zero is each some = absurd (omega (arith, some))
  site_stays site h es (suc k) is each some =
      ap (λ l. site_at l (suc k)) is
      ∙ ap latest_site (reverse-append (opens site ∷ []) (take k es))
      ∙ site_behind site (reverse (take k es)) (each_reverse IsPublication (take k es) (each_take IsPublication k
      es each))

module _ {S C F : Type 0} (meaning : Meaning S C F) (listed : Listed S) (limit : ℕ) (site : S) (h : List (Event S))
    (bound low : ℕ) where
  -- the entry is the node's publication, by the facts that the site lists, from `low` entries or more
  pub record IsEntry (node : List ℕ) (entry : ℕ) : Type 0 where
    pub p : Publication
    pub at : slice_get h entry ≡ Some (publishes p)
    pub node_is : p.node ≡ node
    pub few : p.author < bound
    pub facts_are : listed site node ≡ Some p.facts
    pub fresh : low ≤ p.k

  -- what a node is told in a round
  abbrev pub TellsSaid : List ℕ → Said C F → Type 0
  TellsSaid node (t.served entry k catalog) = IsEntry node entry
  TellsSaid node (t.refused k fault) = IsMeantFrom meaning listed site h low node k (Err fault)
  TellsSaid node (t.full n) =
      (n ≡ limit) × (length h ≡ limit)
      × ((k : ℕ) × (made : C × ExportSet) × IsMeantFrom meaning listed site h low node k (Ok made))
  TellsSaid node (t.ahead n) = ⊥
  TellsSaid node (t.unknown k) = ⊥
  TellsSaid node (t.added kind entry) = ⊥
  TellsSaid node t.short = Unit {0}

  abbrev pub Tells : List ℕ → ReplyOf C F → Type 0
  Tells node reply = TellsSaid node (said reply)

  abbrev Sited : Type 0
  Sited = (k : ℕ) → 1 ≤ k → site_at h k ≡ Some site

  same_site : (k : ℕ) (other : S) → 1 ≤ k → Sited → site_at h k ≡ Some other → other ≡ site
  same_site k other some sited is = let at = sited k some in cc (at, is)

  meant_of : (node : List ℕ) (k : ℕ) (facts : Datum) (answer : Result (C × ExportSet) F) → 1 ≤ k → Sited →
      Means meaning listed h k (wanted_of node) facts answer →
      (listed site node ≡ Some facts) × (meaning_at meaning h k node facts ≡ Some answer)
  meant_of node k facts answer some sited m =
      let site_is = same_site k m.site some sited m.site_is in (
        ap (λ s. listed s node) (sym site_is) ∙ m.facts_are,
        ap (option_map (λ s. meaning s node facts (sets_at h k))) m.site_is ∙ ap Some m.meant,
      )

  meant_from : (node : List ℕ) (k : ℕ) (facts : Datum) (answer : Result (C × ExportSet) F) → IsFresh h low 0 k →
      Sited → Means meaning listed h k (wanted_of node) facts answer →
      IsMeantFrom meaning listed site h low node k answer
  meant_from node k facts answer fresh sited m =
      let meant = meant_of node k facts answer fresh.low sited m in
      record {
        fresh = fresh.had;
        inside = fresh.high;
        facts = facts;
        facts_are = meant.0;
        meant = meant.1;
      }

  tells_of : (author : ℕ) (node : List ℕ) (told : Said C F) → author < bound → Sited →
      ((s : S) → s ≡ site → listed s node ≡ None → ⊥) →
      FitsSaid meaning listed h limit author low (compile (wanted_of node)) told → TellsSaid node told
  tells_of author node (t.served entry k catalog) few sited known fits =
      let meant = meant_of node k fits.1.facts _ fits.0.low sited fits.1.means in
      record {
        p = record {
          author = author;
          call = fits.1.call;
          node = node;
          facts = fits.1.facts;
          k = k;
          set = fits.1.set;
        };
        at = fits.1.at;
        node_is = refl;
        few = few;
        facts_are = meant.0;
        fresh = fits.0.had;
      }
  tells_of author node (t.refused k fault) few sited known fits =
      meant_from node k fits.1.0 (Err fault) fits.0 sited fits.1.1
  tells_of author node (t.unknown k) few sited known fits =
      known fits.1.site (same_site k fits.1.site fits.0.low sited fits.1.site_is) fits.1.none
  tells_of author node (t.ahead n) few sited known fits = absurd (omega (arith, fits.2))
  tells_of author node (t.full n) few sited known (is, full, (k, facts, made, fresh, means)) =
      (is, full, (k, made, meant_from node k facts (Ok made) fresh sited means))
  tells_of author node (t.added which entry) few sited known fits = absurd fits
  tells_of author node t.short few sited known fits = tt

  -- an entry that is named is a publication, whatever site is in force
  published_said : (author entry : ℕ) (node : List ℕ) (told : Said C F) →
      FitsSaid meaning listed h limit author low (compile (wanted_of node)) told → 1 ≤ times entry (named_said told) →
      (p : Publication) × (slice_get h entry ≡ Some (publishes p))
  published_said author entry node (t.served at k catalog) fits some =
      ⊎_elim
      (λ here. (_, ap (slice_get h) here.0 ∙ fits.1.at))
      (λ none. absurd (omega (arith, some, none)))
      (same_is entry at)
  published_said author entry node (t.refused k fault) fits some = absurd (omega (arith, some))
  published_said author entry node (t.unknown k) fits some = absurd (omega (arith, some))
  published_said author entry node (t.ahead n) fits some = absurd (omega (arith, some))
  published_said author entry node (t.full n) fits some = absurd (omega (arith, some))
  published_said author entry node (t.added which at) fits some = absurd fits
  published_said author entry node t.short fits some = absurd (omega (arith, some))

  pub published_at : (entry : ℕ) (nodes : List (List ℕ)) (replies : List (ReplyOf C F)) →
      AllZip (IsDealt meaning listed h limit bound low) (all_asks (asked_of nodes)) replies →
      1 ≤ times entry (all_named replies) → (p : Publication) × (slice_get h entry ≡ Some (publishes p))
  published_at entry [] [] all some = absurd (omega (arith, some))
  published_at entry [] (r ∷ replies) all some = absurd all
  published_at entry (node ∷ nodes) [] all some = absurd all
  published_at entry (node ∷ nodes) (r ∷ replies) all some =
      let sum = total-append (same entry) (named r) (all_named replies) in
      ⊎_elim
      (λ here. published_said all.0.author entry node (said r) all.0.fits here)
      (λ there. published_at entry nodes replies all.1 there)
      (either (times entry (named r)) (times entry (all_named replies)) (omega (arith, some, sum)))

  pub tells_all : (nodes : List (List ℕ)) (replies : List (ReplyOf C F)) → Sited →
      Each (λ node. (s : S) → s ≡ site → listed s node ≡ None → ⊥) nodes →
      AllZip (IsDealt meaning listed h limit bound low) (all_asks (asked_of nodes)) replies → AllZip Tells nodes replies
  tells_all [] [] sited known all = tt
  tells_all [] (r ∷ replies) sited known all = absurd all
  tells_all (node ∷ nodes) [] sited known all = absurd all
  tells_all (node ∷ nodes) (r ∷ replies) sited known all = (
    tells_of all.0.author node (said r) all.0.few sited known.0 all.0.fits,
    tells_all nodes replies sited known.1 all.1,
  )

  -- what an entry that a reply names is
  entry_said : (entry : ℕ) (node : List ℕ) (told : Said C F) → TellsSaid node told → 1 ≤ times entry (named_said told) →
      IsEntry node entry
  entry_said entry node (t.served at k catalog) tells some =
      ⊎_elim (λ here. subst (IsEntry node) (sym here.0) tells) (λ none. absurd (omega (arith, some, none)))
      (same_is entry at)
  entry_said entry node (t.refused k fault) tells some = absurd (omega (arith, some))
  entry_said entry node (t.unknown k) tells some = absurd (omega (arith, some))
  entry_said entry node (t.ahead n) tells some = absurd (omega (arith, some))
  entry_said entry node (t.full n) tells some = absurd (omega (arith, some))
  entry_said entry node (t.added which at) tells some = absurd tells
  entry_said entry node t.short tells some = absurd (omega (arith, some))

  pub entry_at : (entry : ℕ) (nodes : List (List ℕ)) (replies : List (ReplyOf C F)) → AllZip Tells nodes replies →
      1 ≤ times entry (all_named replies) → (node : List ℕ) × IsEntry node entry
  entry_at entry [] [] all some = absurd (omega (arith, some))
  entry_at entry [] (r ∷ replies) all some = absurd all
  entry_at entry (node ∷ nodes) [] all some = absurd all
  entry_at entry (node ∷ nodes) (r ∷ replies) all some =
      let sum = total-append (same entry) (named r) (all_named replies) in
      ⊎_elim
      (λ here. (node, entry_said entry node (said r) all.0 here))
      (λ there. entry_at entry nodes replies all.1 there)
      (either (times entry (named r)) (times entry (all_named replies)) (omega (arith, some, sum)))
