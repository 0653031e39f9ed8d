-- Where a search ends as settled, the sets of the listed nodes are those that are exported by what all entries mean.
use Rattle.std.proofs.Common.{◌≡◌, ℕ, zero, suc, ◌+◌, ◌-◌, ◌≤◌, true, false, cond, List, [], ◌∷◌, ◌++◌, length, take, drop, Some, refl, sym, ap, ◌∙◌, subst, arith, append_assoc, append-nil, length-append}
use Rattle.std.specs.Prelude.{IsSomeAnd, is_some, option_map}
use Rattle.std.specs.FinMap as fin
use Rattle.std.specs.Str.{bytes_eq}
use Rattle.std.proofs.Math.Nat.{le_trans}
use Rattle.std.proofs.Math.Seq.{take-length, take-append-add}
use Rattle.std.proofs.lemmas.List.{take-append-drop, length-take-le}
use Rattle.list_sums.specs.Counts.{bit}
use Rattle.list_sums.proofs.Totals.{total-append}
use Rattle.pp_values.specs.Datum.{Datum}
use Rattle.pp_values.specs.Rising.{has_text}
use Rattle.export_store.specs.Sets.{Sets}
use Rattle.export_store.proofs.SetLemmas.{get-with}
use Rattle.site_core.specs.Each.{Each}
use Rattle.site_core.specs.Events.{Event, Publication, opens, publishes, adds}
use Rattle.site_core.specs.Fits.{Listed}
use Rattle.site_core.specs.Legal.{Legal, MayFollow, EachFollows, MayPublish}
use Rattle.site_core.specs.Meaning.{Meaning, HasExports}
use Rattle.site_core.specs.Sets.{sets_after, sets_from, sets_at, site_at}
use Rattle.site_core.proofs.Each.{each_front, each_back}
use Rattle.site_core.proofs.Sets.{sets_at-append, site_at-append}
use Rattle.history_tools.specs.Settles.{is_for, published, start, IsCompiled, Settles, SettledIsMeant}
use Rattle.history_tools.specs.Rounds.{IsPublication}
use Rattle.history_tools.specs.declared.settle_end.SettleEnd.{SettleEnd}
use Rattle.history_tools.specs.declared.settle_end.SettleEnd.TheVariants as e
use Rattle.history_tools.proofs.Ended.{bit_few}
use Rattle.history_tools.proofs.Names.{text_is, text_itself}
use Rattle.history_tools.proofs.SetSteps.{sets_from-append, sets_are, sets_behind, get_other, start_next, start_le}
use Rattle.history_tools.proofs.Told.{site_stays}

get_now : (sets : Sets) (p : Publication) → fin.get (fin.insert sets p.node p.set) p.node ≡ Some p.set
get_now sets p =
    get-with sets p.node p.node p.set ∙ ap (λ o. cond o (Some p.set) (fin.get sets p.node)) (text_itself p.node)

-- a publication of the set that the node has changes nothing
pub put_again : (sets : Sets) (p : Publication) → fin.get sets p.node ≡ Some p.set →
    fin.insert sets p.node p.set ≡ sets
put_again sets p had =
    sets_are (fin.insert sets p.node p.set) sets (λ q.
    get-with sets p.node q p.set ∙
    elim (bytes_eq q p.node) as (λ o. bytes_eq q p.node ≡ o → cond o (Some p.set) (fin.get sets q) ≡ fin.get sets q) [
      | true ↦ λ is. sym (ap (fin.get sets) (text_is q p.node is) ∙ had)
      | false ↦ λ is. refl
    ] refl)

module _ {S : Type 0} where
  -- the publication of a node parts the entries
  parts_for : (n : List ℕ) (es : List (Event S)) → 1 ≤ published n es →
      (front : List (Event S)) × (p : Publication) × (back : List (Event S)) × (es ≡ front ++ publishes p ∷ back)
      × (p.node ≡ n)
  parts_for n [] some = absurd (omega (arith, some))
  parts_for n (opens site ∷ es) some =
      let rest = parts_for n es (omega (arith, some)) in
      (opens site ∷ rest.0, rest.1, rest.2, ap (λ l. opens site ∷ l) rest.3, rest.4)
  parts_for n (publishes p ∷ es) some =
      elim (bytes_eq n p.node) as (λ o. bytes_eq n p.node ≡ o → 1 ≤ bit o + published n es →
      (front : List (Event S)) × (q : Publication) × (back : List (Event S))
      × (publishes p ∷ es ≡ front ++ publishes q ∷ back) × (q.node ≡ n)) [
        | true ↦ λ is here. ([], p, es, refl, sym (text_is n p.node is))
        | false ↦ λ is there.
            let rest = parts_for n es (omega (arith, there)) in
            (publishes p ∷ rest.0, rest.1, rest.2, ap (λ l. publishes p ∷ l) rest.3, rest.4)
      ] refl some
  parts_for n (adds author call what ∷ es) some =
      let rest = parts_for n es (omega (arith, some)) in
      (adds author call what ∷ rest.0, rest.1, rest.2, ap (λ l. adds author call what ∷ l) rest.3, rest.4)

  -- behind a node's only publication it has no other one
  none_behind : (p : Publication) (front back : List (Event S)) → published p.node (front ++ publishes p ∷ back) ≤ 1 →
      published p.node back ≡ 0
  none_behind p front back few =
      let sum = total-append (λ e. bit (is_for p.node e)) front (publishes p ∷ back) in
      let one : bit (bytes_eq p.node p.node) ≡ 1 = ap bit (text_itself p.node) in omega (arith, few, sum, one)

  -- where entries that publish for each node once leave the sets as they were, each of them did
  still : (sets : Sets) (front back : List (Event S)) → Each IsPublication front → Each IsPublication back →
      ((n : List ℕ) → published n (front ++ back) ≤ 1) → sets_from sets (front ++ back) ≡ sets →
      sets_from sets front ≡ sets
  still sets [] back all rest few same = refl
  still sets (opens site ∷ front) back all rest few same = absurd all.0
  still sets (publishes p ∷ front) back all rest few same =
      let later : published p.node (front ++ back) ≡ 0 = none_behind p [] (front ++ back) (few p.node) in
      let had : fin.get sets p.node ≡ Some p.set =
      ap (λ s. fin.get s p.node) (sym same)
      ∙ get_other (sets_after {S = S} sets (publishes p)) (front ++ back) p.node (both front back all.1 rest) later
      ∙ get_now sets p in
      let again = put_again sets p had in
      ap (λ s. sets_from s front) again
      ∙ still sets front back all.1 rest (λ n. let le = few n in omega (arith, le))
      (sym (ap (λ s. sets_from s (front ++ back)) again) ∙ same)
    where
      both : (xs ys : List (Event S)) → Each IsPublication xs → Each IsPublication ys → Each IsPublication (xs ++ ys)
      both [] ys first second = second
      both (x ∷ xs) ys first second = (first.0, both xs ys first.1 second)
  still sets (adds author call what ∷ front) back all rest few same = absurd all.0

  publications : (listed : Listed S) (site : S) (low : ℕ) (es : List (Event S)) → Each (IsCompiled listed site low) es →
      Each IsPublication es
  publications listed site low [] each = tt
  publications listed site low (opens other ∷ es) each = absurd each.0
  publications listed site low (publishes p ∷ es) each = (tt, publications listed site low es each.1)
  publications listed site low (adds author call what ∷ es) each = absurd each.0

module _ {S C F : Type 0} (meaning : Meaning S C F) where
  follows_at : (h front : List (Event S)) (e : Event S) (back : List (Event S)) →
      EachFollows meaning h (front ++ e ∷ back) → MayFollow meaning (h ++ front) e
  follows_at h [] e back all = subst (λ l. MayFollow meaning l e) (sym (append-nil h)) all.0
  follows_at h (x ∷ front) e back all =
      subst (λ l. MayFollow meaning l e) (append_assoc h (x ∷ []) front)
      (follows_at (h ++ x ∷ []) front e back all.1)

  -- an entry behind others may follow them
  legal_at : (first : Event S) (front : List (Event S)) (e : Event S) (back : List (Event S)) →
      Legal meaning (first ∷ (front ++ e ∷ back)) → MayFollow meaning (first ∷ front) e
  legal_at (opens site) front e back legal = follows_at (opens site ∷ []) front e back legal
  legal_at (publishes p) front e back legal = absurd legal
  legal_at (adds author call what) front e back legal = absurd legal

  legal_behind : (xs : List (Event S)) (e : Event S) (back : List (Event S)) → 1 ≤ length xs →
      Legal meaning (xs ++ e ∷ back) → MayFollow meaning xs e
  legal_behind [] e back some legal = absurd (omega (arith, some))
  legal_behind (first ∷ front) e back some legal = legal_at first front e back legal

first_start : (nodes : List (List ℕ)) → start nodes zero ≡ 1
first_start nodes = omega arith

module _ {A : Type 0} where
  take_more : (a b : ℕ) (xs : List A) → a ≤ length xs → take (a + b) xs ≡ take a xs ++ take b (drop a xs)
  take_more a b xs le =
      let size : length (take a xs) ≡ a = length-take-le a xs le in
      ap (take (a + b)) (sym (take-append-drop a xs))
      ∙ ap (λ n. take (n + b) (take a xs ++ drop a xs)) (sym size)
      ∙ take-append-add (take a xs) (drop a xs) b

  each_two : (P : A → Type 0) (xs ys : List A) → Each P xs → Each P ys → Each P (xs ++ ys)
  each_two P [] ys first second = second
  each_two P (x ∷ xs) ys first second = (first.0, each_two P xs ys first.1 second)

module _ {S C F : Type 0} (meaning : Meaning S C F) (listed : Listed S) (limit : ℕ) (site : S) (nodes : List (List ℕ))
    (rounds run : ℕ) (end : SettleEnd F) (h : List (Event S))
    (s : Settles meaning listed limit site nodes rounds run end h) where
  abbrev Opened : List (Event S) → Type 0
  Opened l = (es : List (Event S)) × (l ≡ opens site ∷ es) × Each IsPublication es

  -- what stands before a round is the opening and publications
  opened_front : (r : ℕ) → r ≤ s.last → start nodes s.last ≤ length h → Opened (take (start nodes r) h)
  opened_front zero le few =
      ([], ap (λ n. take n h) (first_start nodes) ∙ ap (take 1) (sym s.begins.1), tt)
  opened_front (suc r) le few =
      let before = opened_front r (omega (arith, le)) few in
      let low : start nodes r ≤ length h = le_trans (start_le nodes r s.last (omega (arith, le))) few in
      let next = start_next nodes r in
      let more = take (length nodes) (drop (start nodes r) h) in
      let round = s.changed r (omega (arith, le)) in (
        before.0 ++ more,
        ap (λ n. take n h) (next_start r) ∙ take_more (start nodes r) (length nodes) h low
            ∙ ap (λ l. l ++ more) before.1,
        each_two IsPublication before.0 more before.2
            (publications listed site (start nodes r) more round.all.compiled),
      )
    where
      next_start : (q : ℕ) → start nodes (suc q) ≡ start nodes q + length nodes
      next_start q = ap (start nodes) (omega arith) ∙ start_next nodes q

-- what the last round shows of a node, where it changed no set
meant_last : {S C F : Type 0} (meaning : Meaning S C F) (listed : Listed S) (site : S) (node : List ℕ) (facts : Datum)
    (h before es front back : List (Event S)) (p : Publication) (low : ℕ) → length before ≡ low → 1 ≤ low →
    before ++ es ≡ h → es ≡ front ++ publishes p ∷ back → p.node ≡ node → Each (IsCompiled listed site low) es →
    ((n : List ℕ) → published n es ≤ 1) →
    sets_from (sets_at before (length before)) es ≡ sets_at before (length before) → Legal meaning h →
    ((k : ℕ) → 1 ≤ k → site_at h k ≡ Some site) → listed site node ≡ Some facts →
    IsSomeAnd (fin.get (sets_at h (length h)) node)
    (λ set. HasExports (meaning site node facts (sets_at h (length h))) set)
meant_last {S} {C} {F} meaning listed site node facts h before es front back p low low_is some whole parts node_is
    compiled
    once same legal sited facts_are =
    subst (λ o. IsSomeAnd o (λ set. HasExports (meaning site node facts (sets_at h (length h))) set)) (sym final) meant
  where
    pubs : Each IsPublication es
    pubs = publications listed site low es compiled

    all_is : sets_at h (length h) ≡ sets_from (sets_at before (length before)) es
    all_is = sets_behind before es h whole

    base_is : sets_from fin.empty before ≡ sets_at before (length before)
    base_is = ap (sets_from fin.empty) (sym (take-length before))

    taken : (i : ℕ) → take (low + i) h ≡ before ++ take i es
    taken i = ap (take (low + i)) (sym whole) ∙ ap (λ n. take (n + i) (before ++ es)) (sym low_is)
        ∙ take-append-add before es i

    -- the sets after so many entries of the round
    stay : (i : ℕ) → sets_at h (low + i) ≡ sets_at h (length h)
    stay i =
        let split = take-append-drop i es in
        ap (sets_from fin.empty) (taken i) ∙ sets_from-append fin.empty before (take i es)
        ∙ ap (λ b. sets_from b (take i es)) base_is
        ∙ still (sets_at before (length before)) (take i es) (drop i es)
        (each_front IsPublication (take i es) (drop i es) (subst (Each IsPublication) (sym split) pubs))
        (each_back IsPublication (take i es) (drop i es) (subst (Each IsPublication) (sym split) pubs))
        (λ n. subst (λ l. published n l ≤ 1) (sym split) (once n))
        (ap (sets_from (sets_at before (length before))) split ∙ same)
        ∙ sym same ∙ sym all_is

    none : published p.node back ≡ 0
    none = none_behind p front back (subst (λ l. published p.node l ≤ 1) parts (once p.node))

    back_pubs : Each IsPublication back
    back_pubs = (each_back IsPublication front (publishes p ∷ back) (subst (Each IsPublication) parts pubs)).1

    final : fin.get (sets_at h (length h)) node ≡ Some p.set
    final =
        ap (λ x. fin.get x node) (all_is ∙ ap (sets_from (sets_at before (length before))) parts
        ∙ sets_from-append (sets_at before (length before)) front (publishes p ∷ back))
        ∙ ap (fin.get (sets_from (sets_from (sets_at before (length before)) front) (publishes p ∷ back))) (sym node_is)
        ∙ get_other (fin.insert (sets_from (sets_at before (length before)) front) p.node p.set) back p.node
        back_pubs none
        ∙ get_now (sets_from (sets_at before (length before)) front) p

    joined : (before ++ front) ++ publishes p ∷ back ≡ h
    joined = append_assoc before front (publishes p ∷ back) ∙ ap (λ l. before ++ l) (sym parts) ∙ whole

    may : MayPublish meaning (before ++ front) p
    may = legal_behind meaning (before ++ front) (publishes p) back
        (let size = length-append before front in omega (arith, size, low_is, some))
        (subst (Legal meaning) (sym joined) legal)

    this_one : IsCompiled listed site low (publishes p)
    this_one = (each_back (IsCompiled listed site low) front (publishes p ∷ back)
        (subst (Each (IsCompiled listed site low)) parts compiled)).0

    site_is : site_at (before ++ front) p.k ≡ Some site
    site_is = sym (site_at-append (before ++ front) (publishes p ∷ back) p.k may.earlier)
        ∙ ap (λ l. site_at l p.k) joined
        ∙ sited p.k may.some

    sets_is : sets_at (before ++ front) p.k ≡ sets_at h (length h)
    sets_is =
        let fresh = this_one.1 in let k_is : p.k ≡ low + (p.k - low) = omega (arith, fresh) in
        sym (sets_at-append (before ++ front) (publishes p ∷ back) p.k may.earlier) ∙ ap (λ l. sets_at l p.k) joined
        ∙ ap (sets_at h) k_is ∙ stay (p.k - low)

    facts_same : p.facts ≡ facts
    facts_same = let listed_is = this_one.0 in let is = ap (listed site) node_is in cc (listed_is, is, facts_are)

    meant : HasExports (meaning site node facts (sets_at h (length h))) p.set
    meant =
        subst (λ n. HasExports (meaning site n facts (sets_at h (length h))) p.set) node_is
        (subst (λ f. HasExports (meaning site p.node f (sets_at h (length h))) p.set) facts_same
        (subst (λ x. HasExports (meaning site p.node p.facts x) p.set) sets_is
        (subst (λ o. IsSomeAnd (option_map (λ t. meaning t p.node p.facts (sets_at (before ++ front) p.k)) o)
        (λ m. HasExports m p.set)) site_is may.exported)))

-- what a search that ended as settled shows of a node
pub settled_is_meant : {S C F : Type 0} (meaning : Meaning S C F) (listed : Listed S) (limit : ℕ) →
    SettledIsMeant meaning listed limit
settled_is_meant meaning listed limit site nodes rounds run h are s node facts facts_are =
    let few : start nodes s.last ≤ length h = (let next = start_le nodes s.last (s.last + 1) (omega arith) in
    let size = s.ends.0 in omega (arith, next, size)) in
    let whole = take-append-drop (start nodes s.last) h in
    let low_is = length-take-le (start nodes s.last) h few in
    let has : has_text nodes node ≡ true = are.all node ∙ ap is_some facts_are in
    let one : published node (drop (start nodes s.last) h) ≡ 1 = s.ends.1.once node ∙ ap bit has in
    let parts = parts_for node (drop (start nodes s.last) h) (omega (arith, one)) in
    let old = opened_front meaning listed limit site nodes rounds run e.Settled h s s.last (omega arith) few in
    let pubs = publications listed site (start nodes s.last) (drop (start nodes s.last) h) s.ends.1.compiled in
    let base : sets_at (take (start nodes s.last) h) (length (take (start nodes s.last) h)) ≡
    sets_at h (start nodes s.last) =
    ap (sets_from fin.empty) (take-length (take (start nodes s.last) h)) in
    let all_is = sets_behind (take (start nodes s.last) h) (drop (start nodes s.last) h) h whole in
    meant_last meaning listed site node facts h (take (start nodes s.last) h) (drop (start nodes s.last) h) parts.0
    parts.2
    parts.1 (start nodes s.last) low_is (omega arith) whole parts.3 parts.4 s.ends.1.compiled
    (λ n. let is = s.ends.1.once n in let le = bit_few (has_text nodes n) in omega (arith, is, le))
    (sym all_is ∙ sym s.ends.2 ∙ sym base) s.legal
    (λ k some. site_stays site h (old.0 ++ drop (start nodes s.last) h) k
    (sym whole ∙ ap (λ l. l ++ drop (start nodes s.last) h) old.1)
    (each_two IsPublication old.0 (drop (start nodes s.last) h) old.2 pubs) some)
    facts_are
