-- A round whose entries were made those of its workers.
use Rattle.std.proofs.Common.{◌≡◌, ℕ, zero, suc, ◌+◌, ◌≤◌, List, [], ◌∷◌, ◌++◌, length, take, drop, Some, refl, sym, ap, ◌∙◌, subst, arith, append_assoc, append-nil, length-append}
use Rattle.std.specs.Prelude.{IsTrue, IsSomeAnd, Result, Ok, Err}
use Rattle.std.specs.BTreeMap.{BTreeMap}
use Rattle.std.specs.Cmp.{first_so, second_so}
use Rattle.std.specs.List.{AllZip, list_all}
use Rattle.std.proofs.Math.Seq.{take-append_seam, drop-append_seam}
use Rattle.std.proofs.lemmas.List.{map-append}
use Rattle.std.proofs.lemmas.Bool.{and_from}
use Rattle.list_sums.specs.Counts.{bit}
use Rattle.res_core.specs.declared.export_set.ExportSet.{ExportSet}
use Rattle.site_core.specs.Asked.{Asked}
use Rattle.site_core.specs.Counts.{AreCountsOf}
use Rattle.site_core.specs.Each.{Each}
use Rattle.site_core.specs.Events.{Event, opens, publishes, adds, author_of, is_opening, is_later, are_entries}
use Rattle.site_core.specs.Fits.{Listed}
use Rattle.site_core.specs.Legal.{MayFollow, EachFollows, Legal}
use Rattle.site_core.specs.Meaning.{Meaning, HasExports}
use Rattle.site_core.specs.Resuming.{base_of, past_author}
use Rattle.site_core.specs.Runs.{Continues}
use Rattle.site_core.specs.Said as t
use Rattle.site_core.specs.Said.{Said, said}
use Rattle.site_core.specs.declared.reply.ReplyOf.{ReplyOf}
use Rattle.site_core.proofs.Legal.{Legal-push}
use Rattle.site_core.proofs.Shapes.{are_entries-push}
use Rattle.history_tools.specs.Settles.{is_for, published, IsCompiled, IsMeantFrom}
use Rattle.history_tools.specs.Rounds.{IsPublication}
use Rattle.history_tools.specs.SameWorkers.{by_worker, by_workers, GoesOn}
use Rattle.history_tools.proofs.Erased.{erased, all_erased, same_length, same_meaning, same_entry, author_within}
use Rattle.history_tools.proofs.Rounded.{IsRound, base_both}
use Rattle.history_tools.proofs.Told.{TellsSaid, Tells}

module _ {S : Type 0} (base : ℕ) where
  -- but for its author it is the same entry
  same_erased : (h : List (Event S)) (e : Event S) → erased (by_worker base h e) ≡ erased e
  same_erased h (opens site) = refl
  same_erased h (publishes p) = refl
  same_erased h (adds author call what) = refl

  all_same_erased : (h es : List (Event S)) → all_erased (by_workers base h es) ≡ all_erased es
  all_same_erased h [] = refl
  all_same_erased h (e ∷ es) =
      ap (λ x. x ∷ all_erased (by_workers base (h ++ by_worker base h e ∷ []) es)) (same_erased h e)
      ∙ ap (λ l. erased e ∷ l) (all_same_erased (h ++ by_worker base h e ∷ []) es)

  pub same_behind : (before more : List (Event S)) →
      all_erased (before ++ more) ≡ all_erased (before ++ by_workers base before more)
  same_behind before more =
      map-append erased before more ∙ ap (λ l. all_erased before ++ l) (sym (all_same_erased before more))
      ∙ sym (map-append erased before (by_workers base before more))

  -- what holds of an entry whoever's it is
  each_by : (P : Event S → Type 0) → ((h : List (Event S)) (e : Event S) → P e → P (by_worker base h e)) →
      (h es : List (Event S)) → Each P es → Each P (by_workers base h es)
  each_by P one h [] each = tt
  each_by P one h (e ∷ es) each =
      (one h e each.0, each_by P one (h ++ by_worker base h e ∷ []) es each.1)

  still_published : (h : List (Event S)) (e : Event S) → IsPublication e → IsPublication (by_worker base h e)
  still_published h (opens site) is = is
  still_published h (publishes p) is = tt
  still_published h (adds author call what) is = is

  still_compiled : (listed : Listed S) (site : S) (low : ℕ) (h : List (Event S)) (e : Event S) →
      IsCompiled listed site low e → IsCompiled listed site low (by_worker base h e)
  still_compiled listed site low h (opens other) is = is
  still_compiled listed site low h (publishes p) is = is
  still_compiled listed site low h (adds author call what) is = is

  still_for : (n : List ℕ) (h : List (Event S)) (e : Event S) → is_for n (by_worker base h e) ≡ is_for n e
  still_for n h (opens site) = refl
  still_for n h (publishes p) = refl
  still_for n h (adds author call what) = refl

  published_by : (n : List ℕ) (h es : List (Event S)) → published n (by_workers base h es) ≡ published n es
  published_by n h [] = refl
  published_by n h (e ∷ es) =
      let here : bit (is_for n (by_worker base h e)) ≡ bit (is_for n e) = ap bit (still_for n h e) in
      let rest = published_by n (h ++ by_worker base h e ∷ []) es in omega (arith, here, rest)

  length_by : (h es : List (Event S)) → length (by_workers base h es) ≡ length es
  length_by h [] = refl
  length_by h (e ∷ es) = let rest = length_by (h ++ by_worker base h e ∷ []) es in omega (arith, rest)

  -- a worker's author
  author_by : (workers : ℕ) (h : List (Event S)) (e : Event S) → 1 ≤ workers →
      past_author (author_of e) ≤ base + workers → past_author (author_of (by_worker base h e)) ≤ workers
  author_by workers h (opens site) some few = omega arith
  author_by workers h (publishes p) some few = omega (arith, some, few)
  author_by workers h (adds author call what) some few = omega (arith, some, few)

  base_by : (workers : ℕ) (h es : List (Event S)) → 1 ≤ workers → base_of es ≤ base + workers →
      base_of (by_workers base h es) ≤ workers
  base_by workers h [] some few = omega arith
  base_by workers h (e ∷ es) some few =
      let here = author_by workers h e some (omega (arith, few)) in
      let rest = base_by workers (h ++ by_worker base h e ∷ []) es some (omega (arith, few)) in
      omega (arith, here, rest)

  still_later : (h : List (Event S)) (e : Event S) → IsTrue (is_later e) → IsTrue (is_later (by_worker base h e))
  still_later h (opens site) is = is
  still_later h (publishes p) is = is
  still_later h (adds author call what) is = is

  module _ {C F : Type 0} (meaning : Meaning S C F) where
    still_follows : (h g : List (Event S)) (e : Event S) → all_erased h ≡ all_erased g → MayFollow meaning h e →
        MayFollow meaning g (by_worker base g e)
    still_follows h g (opens site) same may = may
    still_follows h g (publishes p) same may = record {
      numbered = refl;
      some = may.some;
      earlier = subst (λ n. p.k ≤ n) (same_length h g same) may.earlier;
      exported = subst (λ m. IsSomeAnd m (λ meant. HasExports meant p.set)) (same_meaning h g same meaning p.k p.node
          p.facts)
          may.exported;
    }
    still_follows h g (adds author call what) same may = refl

    same_push : (h g : List (Event S)) (e : Event S) → all_erased h ≡ all_erased g →
        all_erased (h ++ e ∷ []) ≡ all_erased (g ++ by_worker base g e ∷ [])
    same_push h g e same =
        map-append erased h (e ∷ []) ∙ ap (λ l. l ++ erased e ∷ []) same
        ∙ ap (λ x. all_erased g ++ x ∷ []) (sym (same_erased g e)) ∙ sym (map-append erased g (by_worker base g e ∷ []))

    legal_by : (h g es : List (Event S)) → all_erased h ≡ all_erased g → Legal meaning g → EachFollows meaning h es →
        Legal meaning (g ++ by_workers base g es)
    legal_by h g [] same legal each = subst (Legal meaning) (sym (append-nil g)) legal
    legal_by h g (e ∷ es) same legal each =
        subst (Legal meaning)
        (append_assoc g (by_worker base g e ∷ []) (by_workers base (g ++ by_worker base g e ∷ []) es))
        (legal_by (h ++ e ∷ []) (g ++ by_worker base g e ∷ []) es (same_push h g e same)
        (Legal-push meaning g (by_worker base g e) legal (still_follows h g e same each.0)) each.1)

module _ {S C F : Type 0} (meaning : Meaning S C F) where
  follows_behind : (h xs ys : List (Event S)) → EachFollows meaning h (xs ++ ys) → EachFollows meaning (h ++ xs) ys
  follows_behind h [] ys each = subst (λ l. EachFollows meaning l ys) (sym (append-nil h)) each
  follows_behind h (x ∷ xs) ys each =
      subst (λ l. EachFollows meaning l ys) (append_assoc h (x ∷ []) xs)
      (follows_behind (h ++ x ∷ []) xs ys each.1)

  follows_legal : (before more : List (Event S)) → Legal meaning before → Legal meaning (before ++ more) →
      EachFollows meaning before more
  follows_legal [] more first legal = absurd first
  follows_legal (opens site ∷ es) more first legal = follows_behind (opens site ∷ []) es more legal
  follows_legal (publishes p ∷ es) more first legal = absurd first
  follows_legal (adds author call what ∷ es) more first legal = absurd first

module _ {S : Type 0} where
  -- the first entry opens a site and no other one does, still
  pub entries_by : (base : ℕ) (before more : List (Event S)) → IsTrue (are_entries before) →
      IsTrue (list_all is_later more) → IsTrue (are_entries (before ++ by_workers base before more))
  entries_by base before [] is later = subst (λ l. IsTrue (are_entries l)) (sym (append-nil before)) is
  entries_by base before (e ∷ more) is later =
      let x = by_worker base before e in
      let here = still_later base before e (first_so (is_later e) (list_all is_later more) later) in
      subst (λ l. IsTrue (are_entries l))
      (append_assoc before (x ∷ []) (by_workers base (before ++ x ∷ []) more))
      (entries_by base (before ++ x ∷ []) more (are_entries-push before x is here)
      (second_so (is_later e) (list_all is_later more) later))

  later_front : (k : ℕ) (es : List (Event S)) → IsTrue (list_all is_later es) → IsTrue (list_all is_later (take k es))
  later_front zero es all = refl
  later_front (suc k) [] all = refl
  later_front (suc k) (e ∷ es) all =
      and_from (is_later e) (list_all is_later (take k es)) (first_so (is_later e) (list_all is_later es) all)
      (later_front k es (second_so (is_later e) (list_all is_later es) all))

  later_rest : (k : ℕ) (es : List (Event S)) → IsTrue (list_all is_later es) → IsTrue (list_all is_later (drop k es))
  later_rest zero es all = all
  later_rest (suc k) [] all = refl
  later_rest (suc k) (e ∷ es) all = later_rest k es (second_so (is_later e) (list_all is_later es) all)

  pub entries_front : (k : ℕ) (h : List (Event S)) → 1 ≤ k → IsTrue (are_entries h) → IsTrue (are_entries (take k h))
  entries_front zero h some is = absurd (omega (arith, some))
  entries_front (suc k) [] some is = is
  entries_front (suc k) (e ∷ es) some is =
      and_from (is_opening e) (list_all is_later (take k es))
      (first_so (is_opening e) (list_all is_later es) is)
      (later_front k es (second_so (is_opening e) (list_all is_later es) is))

  pub later_back : (k : ℕ) (h : List (Event S)) → 1 ≤ k → IsTrue (are_entries h) →
      IsTrue (list_all is_later (drop k h))
  later_back zero h some is = absurd (omega (arith, some))
  later_back (suc k) [] some is = refl
  later_back (suc k) (e ∷ es) some is = later_rest k es (second_so (is_opening e) (list_all is_later es) is)

  base_back : (xs ys : List (Event S)) → base_of ys ≤ base_of (xs ++ ys)
  base_back [] ys = omega arith
  base_back (x ∷ xs) ys = let rest = base_back xs ys in omega (arith, rest)

module _ {S C F : Type 0} (meaning : Meaning S C F) (listed : Listed S) (limit : ℕ) (site : S) (low : ℕ)
    (h g : List (Event S)) (bound workers : ℕ) (same : all_erased h ≡ all_erased g) (few : base_of g ≤ workers) where
  still_meant : (node : List ℕ) (k : ℕ) (answer : Result (C × ExportSet) F) →
      IsMeantFrom meaning listed site h low node k answer → IsMeantFrom meaning listed site g low node k answer
  still_meant node k answer m = record {
    fresh = m.fresh;
    inside = subst (λ n. k ≤ n) (same_length h g same) m.inside;
    facts = m.facts;
    facts_are = m.facts_are;
    meant = sym (same_meaning h g same meaning k node m.facts) ∙ m.meant;
  }

  still_said : (node : List ℕ) (told : Said C F) → TellsSaid meaning listed limit site h bound low node told →
      TellsSaid meaning listed limit site g workers low node told
  still_said node (t.served entry k catalog) tells =
      let found = same_entry h g same entry tells.p tells.at in
      record {
        p = found.0;
        at = found.1;
        node_is = found.2 ∙ tells.node_is;
        few = let within = author_within g entry (publishes found.0) found.1 in omega (arith, within, few);
        facts_are = tells.facts_are ∙ ap Some (sym found.3);
        fresh = let fresh = tells.fresh in let k_is = found.4 in omega (arith, fresh, k_is);
      }
  still_said node (t.refused k fault) tells = still_meant node k (Err fault) tells
  still_said node (t.unknown k) tells = tells
  still_said node (t.ahead n) tells = tells
  still_said node (t.full n) (is, full, (k, made, meant)) =
      (is, sym (same_length h g same) ∙ full, (k, made, still_meant node k (Ok made) meant))
  still_said node (t.added which entry) tells = tells
  still_said node t.short tells = tt

  still_told : (nodes : List (List ℕ)) (replies : List (ReplyOf C F)) →
      AllZip (Tells meaning listed limit site h bound low) nodes replies →
      AllZip (Tells meaning listed limit site g workers low) nodes replies
  still_told [] [] all = tt
  still_told [] (r ∷ replies) all = absurd all
  still_told (node ∷ nodes) [] all = absurd all
  still_told (node ∷ nodes) (r ∷ replies) all =
      (still_said node (said r) all.0, still_told nodes replies all.1)

-- A round made by new authors is a round of the workers. Their authors are those of the rounds before.
pub round_by : {S C F : Type 0} (meaning : Meaning S C F) (listed : Listed S) (limit : ℕ) (site : S)
    (base workers : ℕ) (nodes : List (List ℕ)) (before h g : List (Event S)) (replies : List (ReplyOf C F)) →
    1 ≤ workers → Legal meaning before → base_of before ≤ workers →
    IsRound meaning listed limit site (base + workers) nodes before h replies →
    g ≡ before ++ by_workers base before (drop (length before) h) →
    IsRound meaning listed limit site workers nodes before g replies
round_by {S} {C} {F} meaning listed limit site base workers nodes before h g replies some old authors made is =
    record {
      legal = subst (Legal meaning) whole
          (legal_by base meaning before before made.more refl old
          (follows_legal meaning before made.more old (subst (Legal meaning) (sym made.split) made.legal)));
      few = let size = same_length h g same in let few = made.few in omega (arith, size, few);
      more = new;
      split = whole;
      later = each_by base IsPublication (still_published base) before made.more made.later;
      tells = still_told meaning listed limit site (length before) h g (base + workers) workers same bound nodes replies
          made.tells;
      compiled = each_by base (IsCompiled listed site (length before)) (still_compiled base listed site (length before))
          before made.more made.compiled;
      authors = bound;
      hit = λ n. published_by base n before made.more ∙ made.hit n;
      count = length_by base before made.more ∙ made.count;
    }
  where
    new : List (Event S)
    new = by_workers base before made.more

    last : drop (length before) h ≡ made.more
    last = ap (drop (length before)) (sym made.split) ∙ drop-append_seam before made.more

    whole : before ++ new ≡ g
    whole = ap (λ l. before ++ by_workers base before l) (sym last) ∙ sym is

    same : all_erased h ≡ all_erased g
    same = ap all_erased (sym made.split) ∙ same_behind base before made.more ∙ ap all_erased whole

    bound : base_of g ≤ workers
    bound = subst (λ l. base_of l ≤ workers) whole (base_both before new workers authors
        (base_by base workers before made.more some
        (let all = ap base_of made.split in let back = base_back before made.more in let few = made.authors in
        omega (arith, all, back, few))))

module _ {S C F : Type 0} (meaning : Meaning S C F) (listed : Listed S) (limit workers : ℕ) (before came : List (Event S))
    (requests : List (Asked S)) (replies : List (ReplyOf C F)) (start base : ℕ) (here : start ≡ length before)
    (on : Continues meaning listed limit (base_of before) workers before requests replies came) where
  -- the entries up to a round are those before it
  pub front_is : take start came ≡ before
  front_is =
      ap (λ n. take n came) here ∙ ap (take (length before)) (sym on.begins.1) ∙ take-append_seam before on.begins.0

  pub front_inside : start ≤ length came
  front_inside =
      let size = ap length (sym on.begins.1) ∙ length-append before on.begins.0 in omega (arith, size, here)

  pub front_counted : (counts : BTreeMap ℕ ℕ) → AreCountsOf counts before → AreCountsOf counts (take start came)
  front_counted counts counted = subst (AreCountsOf counts) (sym front_is) counted

  -- what new authors made, with each entry made that of its worker
  pub goes_on : (h : List (Event S)) → base ≡ base_of before →
      h ≡ take start came ++ by_workers base (take start came) (drop start came) →
      GoesOn meaning listed limit workers before requests replies h
  goes_on h base_is is = record {
    came = came;
    continues = on;
    is = is ∙ ap (λ l. l ++ by_workers base l (drop start came)) front_is
        ∙ ap (λ b. before ++ by_workers b before (drop start came)) base_is
        ∙ ap (λ n. before ++ by_workers (base_of before) before (drop n came)) here;
  }
