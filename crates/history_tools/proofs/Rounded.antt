-- What a round made: its entries, and what its replies tell of them.
use Rattle.std.proofs.Common.{◌≡◌, ℕ, ◌+◌, ◌<◌, ◌≤◌, Bool, List, [], ◌∷◌, ◌++◌, length, drop, slice_get, None, refl, sym, ap, ◌∙◌, subst, arith, length-append, true≢false}
use Rattle.std.specs.List.{AllZip}
use Rattle.std.specs.Prelude.{IsTrue}
use Rattle.std.specs.Str.{bytes_eq}
use Rattle.list_sums.specs.Counts.{total, bit, times, below}
use Rattle.list_sums.proofs.Marks.{below_yes, below_no}
use Rattle.list_sums.proofs.Totals.{total-append}
use Rattle.site_core.specs.Asked.{all_asks}
use Rattle.site_core.specs.Each.{Each}
use Rattle.site_core.specs.Events.{Event, opens, publishes, author_of}
use Rattle.site_core.specs.Fits.{Listed, named, named_said}
use Rattle.site_core.specs.Legal.{Legal}
use Rattle.site_core.specs.Meaning.{Meaning}
use Rattle.site_core.specs.Resuming.{base_of, past_author}
use Rattle.site_core.specs.Runs.{all_named, Continues}
use Rattle.site_core.specs.Said as t
use Rattle.site_core.specs.Said.{Said, said}
use Rattle.site_core.specs.declared.reply.ReplyOf.{ReplyOf}
use Rattle.site_core.specs.declared.reply.ReplyOf.TheVariants as a
use Rattle.history_tools.specs.Settles.{is_for, published, IsCompiled}
use Rattle.history_tools.specs.Rounds.{asked_of, is_served, IsTold, IsPublication}
use Rattle.history_tools.proofs.Dealt.{IsDealt, dealt_all}
use Rattle.history_tools.proofs.Names.{stands, text_itself}
use Rattle.history_tools.proofs.Sums.{same_totals, range, times_range, length_range, total_ones, weigh, total_places, get_behind}
use Rattle.history_tools.proofs.Told.{each_at, each_both, site_stays, TellsSaid, Tells, published_at, tells_all, entry_at}

-- how often a node's publications are named by the replies to these nodes
abbrev pub hits : {C F : Type 0} → List ℕ → List (List ℕ) → List (ReplyOf C F) → ℕ
hits n [] replies = 0
hits n (m ∷ nodes) [] = 0
hits n (m ∷ nodes) (r ∷ replies) = total (λ _. bit (bytes_eq n m)) (named r) + hits n nodes replies

-- the entries that these replies name, and what they are
pub record IsRound {S C F : Type 0} (meaning : Meaning S C F) (listed : Listed S) (limit : ℕ) (site : S) (bound : ℕ)
    (nodes : List (List ℕ)) (before h : List (Event S)) (replies : List (ReplyOf C F)) : Type 0 where
  pub legal : Legal meaning h
  pub few : length h ≤ limit
  pub more : List (Event S)
  pub split : before ++ more ≡ h
  pub later : Each IsPublication more
  pub tells : AllZip (Tells meaning listed limit site h bound (length before)) nodes replies
  pub compiled : Each (IsCompiled listed site (length before)) more
  pub authors : base_of h ≤ bound
  pub hit : (n : List ℕ) → published n more ≡ hits n nodes replies
  pub count : length more ≡ length (all_named replies)

module _ {S : Type 0} where
  base_within : (xs : List (Event S)) (bound : ℕ) → Each (λ x. past_author (author_of x) ≤ bound) xs →
      base_of xs ≤ bound
  base_within [] bound each = omega arith
  base_within (x ∷ xs) bound each = let rest = base_within xs bound each.1 in let first = each.0 in
      omega (arith, rest, first)

  pub base_both : (xs ys : List (Event S)) (bound : ℕ) → base_of xs ≤ bound → base_of ys ≤ bound →
      base_of (xs ++ ys) ≤ bound
  base_both [] ys bound first second = second
  base_both (x ∷ xs) ys bound first second =
      let rest = base_both xs ys bound (omega (arith, first)) second in omega (arith, first, rest)

  abbrev weight : List ℕ → List (Event S) → ℕ → ℕ
  weight n h k = weigh (λ e. bit (is_for n e)) (slice_get h k)

module _ {S C F : Type 0} (meaning : Meaning S C F) (listed : Listed S) (limit : ℕ) (site : S) (h : List (Event S))
    (bound low : ℕ) where
  hit_said : (n node : List ℕ) (told : Said C F) → TellsSaid meaning listed limit site h bound low node told →
      total (weight n h) (named_said told) ≡ total (λ _. bit (bytes_eq n node)) (named_said told)
  hit_said n node (t.served entry k catalog) tells =
      let here : weight n h entry ≡ bit (bytes_eq n node) =
      ap (weigh (λ e. bit (is_for n e))) tells.at ∙ ap (λ m. bit (bytes_eq n m)) tells.node_is in
      omega (arith, here)
  hit_said n node (t.refused k fault) tells = refl
  hit_said n node (t.unknown k) tells = refl
  hit_said n node (t.ahead m) tells = refl
  hit_said n node (t.full m) tells = refl
  hit_said n node (t.added which entry) tells = absurd tells
  hit_said n node t.short tells = refl

  hits_sum : (n : List ℕ) (nodes : List (List ℕ)) (replies : List (ReplyOf C F)) →
      AllZip (Tells meaning listed limit site h bound low) nodes replies →
      total (weight n h) (all_named replies) ≡ hits n nodes replies
  hits_sum n [] [] all = refl
  hits_sum n [] (r ∷ replies) all = absurd all
  hits_sum n (m ∷ nodes) [] all = absurd all
  hits_sum n (m ∷ nodes) (r ∷ replies) all =
      let sum = total-append (weight n h) (named r) (all_named replies) in
      let here = hit_said n m (said r) all.0 in let rest = hits_sum n nodes replies all.1 in
      omega (arith, sum, here, rest)

  few_said : (b : Bool) (node : List ℕ) (told : Said C F) → TellsSaid meaning listed limit site h bound low node told →
      total (λ _. bit b) (named_said told) ≤ bit b
  few_said b node (t.served entry k catalog) tells = omega arith
  few_said b node (t.refused k fault) tells = omega arith
  few_said b node (t.unknown k) tells = omega arith
  few_said b node (t.ahead m) tells = omega arith
  few_said b node (t.full m) tells = omega arith
  few_said b node (t.added which entry) tells = absurd tells
  few_said b node t.short tells = omega arith

  -- no node is hit more often than it stands there
  pub hits_few : (n : List ℕ) (nodes : List (List ℕ)) (replies : List (ReplyOf C F)) →
      AllZip (Tells meaning listed limit site h bound low) nodes replies → hits n nodes replies ≤ stands n nodes
  hits_few n [] [] all = omega arith
  hits_few n [] (r ∷ replies) all = absurd all
  hits_few n (m ∷ nodes) [] all = absurd all
  hits_few n (m ∷ nodes) (r ∷ replies) all =
      let here = few_said (bytes_eq n m) m (said r) all.0 in let rest = hits_few n nodes replies all.1 in
      omega (arith, here, rest)

  -- where all were served, each is hit as often
  pub hits_all : (n : List ℕ) (nodes : List (List ℕ)) (replies : List (ReplyOf C F)) →
      AllZip (Tells meaning listed limit site h bound low) nodes replies → Each (λ r. IsTrue (is_served r)) replies →
      hits n nodes replies ≡ stands n nodes
  hits_all n [] [] all served = refl
  hits_all n [] (r ∷ replies) all served = absurd all
  hits_all n (m ∷ nodes) [] all served = absurd all
  hits_all n (m ∷ nodes) (a.Served entry k catalog ∷ replies) all served =
      let rest = hits_all n nodes replies all.1 served.1 in omega (arith, rest)
  hits_all n (m ∷ nodes) (a.Refused k fault ∷ replies) all served = absurd (true≢false (sym served.0))
  hits_all n (m ∷ nodes) (a.HistoryFull j ∷ replies) all served = absurd (true≢false (sym served.0))
  hits_all n (m ∷ nodes) (a.SeenAhead j ∷ replies) all served = absurd (true≢false (sym served.0))
  hits_all n (m ∷ nodes) (a.UnknownNode k ∷ replies) all served = absurd (true≢false (sym served.0))
  hits_all n (m ∷ nodes) (a.Deactivated entry ∷ replies) all served = absurd (true≢false (sym served.0))
  hits_all n (m ∷ nodes) (a.Deployed entry ∷ replies) all served = absurd (true≢false (sym served.0))
  hits_all n (m ∷ nodes) (a.Reported entry ∷ replies) all served = absurd (true≢false (sym served.0))
  hits_all n (m ∷ nodes) (a.Memory ∷ replies) all served = absurd (true≢false (sym served.0))

  -- and as many entries are named as there are nodes
  pub named_all : (nodes : List (List ℕ)) (replies : List (ReplyOf C F)) →
      AllZip (Tells meaning listed limit site h bound low) nodes replies → Each (λ r. IsTrue (is_served r)) replies →
      length (all_named replies) ≡ length nodes
  named_all [] [] all served = refl
  named_all [] (r ∷ replies) all served = absurd all
  named_all (m ∷ nodes) [] all served = absurd all
  named_all (m ∷ nodes) (a.Served entry k catalog ∷ replies) all served =
      let rest = named_all nodes replies all.1 served.1 in omega (arith, rest)
  named_all (m ∷ nodes) (a.Refused k fault ∷ replies) all served = absurd (true≢false (sym served.0))
  named_all (m ∷ nodes) (a.HistoryFull j ∷ replies) all served = absurd (true≢false (sym served.0))
  named_all (m ∷ nodes) (a.SeenAhead j ∷ replies) all served = absurd (true≢false (sym served.0))
  named_all (m ∷ nodes) (a.UnknownNode k ∷ replies) all served = absurd (true≢false (sym served.0))
  named_all (m ∷ nodes) (a.Deactivated entry ∷ replies) all served = absurd (true≢false (sym served.0))
  named_all (m ∷ nodes) (a.Deployed entry ∷ replies) all served = absurd (true≢false (sym served.0))
  named_all (m ∷ nodes) (a.Reported entry ∷ replies) all served = absurd (true≢false (sym served.0))
  named_all (m ∷ nodes) (a.Memory ∷ replies) all served = absurd (true≢false (sym served.0))

  -- what a node is told, and how many of the round's entries are its
  pub record IsReplied (node : List ℕ) (reply : ReplyOf C F) : Type 0 where
    pub tells : Tells meaning listed limit site h bound low node reply
    pub count : published node (drop low h) ≡ length (named reply)

  -- where each name stands there once at most, a node's entries are those that its own reply names
  pub replied_from : (had stood : List ℕ → ℕ) (nodes : List (List ℕ)) (replies : List (ReplyOf C F)) →
      AllZip (Tells meaning listed limit site h bound low) nodes replies →
      ((n : List ℕ) → published n (drop low h) ≡ had n + hits n nodes replies) →
      ((n : List ℕ) → had n ≤ stood n) → ((n : List ℕ) → stood n + stands n nodes ≤ 1) →
      AllZip IsReplied nodes replies
  replied_from had stood [] [] all is few once = tt
  replied_from had stood [] (r ∷ replies) all is few once = absurd all
  replied_from had stood (m ∷ nodes) [] all is few once = absurd all
  replied_from had stood (m ∷ nodes) (r ∷ replies) all is few once = (
    record {
      tells = all.0;
      count =
          let is_here = is m in let few_here = few m in let once_here = once m in
          let rest = hits_few m nodes replies all.1 in
          let one : bit (bytes_eq m m) ≡ 1 = ap bit (text_itself m) in
          let own : total (λ _. bit (bytes_eq m m)) (named r) ≡ length (named r) =
          ap (λ b. total (λ _. b) (named r)) one ∙ total_ones (named r) in
          omega (arith, is_here, few_here, once_here, rest, one, own);
    },
    replied_from (λ n. had n + total (λ _. bit (bytes_eq n m)) (named r)) (λ n. stood n + bit (bytes_eq n m)) nodes
        replies all.1
        (λ n. let is_there = is n in omega (arith, is_there))
        (λ n. let few_there = few n in let here = few_said (bytes_eq n m) m (said r) all.0 in
        omega (arith, few_there, here))
        (λ n. let once_there = once n in omega (arith, once_there)),
  )

  told_one : (node : List ℕ) (reply : ReplyOf C F) → Tells meaning listed limit site h bound low node reply →
      IsTold reply
  told_one node (a.Served entry k catalog) tells = tt
  told_one node (a.Refused k fault) tells = tt
  told_one node (a.HistoryFull n) tells = tt
  told_one node (a.SeenAhead n) tells = tells
  told_one node (a.UnknownNode k) tells = tells
  told_one node (a.Deactivated entry) tells = tells
  told_one node (a.Deployed entry) tells = tells
  told_one node (a.Reported entry) tells = tells
  told_one node a.Memory tells = tt

  -- replies are of these kinds alone
  pub told_all : (nodes : List (List ℕ)) (replies : List (ReplyOf C F)) →
      AllZip (Tells meaning listed limit site h bound low) nodes replies → Each IsTold replies
  told_all [] [] all = tt
  told_all [] (r ∷ replies) all = absurd all
  told_all (m ∷ nodes) [] all = absurd all
  told_all (m ∷ nodes) (r ∷ replies) all = (told_one m r all.0, told_all nodes replies all.1)

-- what came of a batch of one request for each node, by its entries
pub round_of : {S C F : Type 0} (meaning : Meaning S C F) (listed : Listed S) (limit : ℕ) (site : S) (base workers : ℕ)
    (nodes : List (List ℕ)) (opened before h : List (Event S)) (replies : List (ReplyOf C F)) →
    before ≡ opens site ∷ opened → Each IsPublication opened → base_of before ≤ base + workers →
    Each (λ node. (s : S) → s ≡ site → listed s node ≡ None → ⊥) nodes →
    (came : Continues meaning listed limit base workers before (all_asks (asked_of nodes)) replies h) →
    (more : List (Event S)) → before ++ more ≡ h → IsRound meaning listed limit site (base + workers) nodes before
    h replies
round_of {S} {C} {F} meaning listed limit site base workers nodes opened before h replies is old authors known came
    more split =
    record {
      legal = came.legal;
      few = came.few;
      more = more;
      split = split;
      later = later;
      tells = tells;
      compiled = each_at (IsCompiled listed site (length before)) more (λ i x inside at.
          let found = entry_at meaning listed limit site h (base + workers) (length before) (length before + i)
          nodes replies tells (is_named i inside) in
          let same : x ≡ publishes found.1.p = cc (at, at_more i, found.1.at) in
          subst (IsCompiled listed site (length before)) (sym same)
          (ap (listed site) found.1.node_is ∙ found.1.facts_are, found.1.fresh));
      authors = subst (λ l. base_of l ≤ (base + workers)) split (base_both before more (base + workers) authors
          (base_within more (base + workers) (each_at (λ x. past_author (author_of x) ≤ (base + workers)) more (λ i
          x inside at.
          let found = entry_at meaning listed limit site h (base + workers) (length before) (length before + i)
          nodes replies tells (is_named i inside) in
          let same : x ≡ publishes found.1.p = cc (at, at_more i, found.1.at) in
          let few = found.1.few in
          subst (λ e. past_author (author_of e) ≤ (base + workers)) (sym same) (omega (arith, few))))));
      hit = λ n. total_places (λ e. bit (is_for n e)) h before more split
          ∙ sym (same_totals (weight n h) (all_named replies) (range (length before) (length more)) alike)
          ∙ hits_sum meaning listed limit site h (base + workers) (length before) n nodes replies tells;
      count = sym (sym (total_ones (all_named replies))
          ∙ same_totals (λ _. 1) (all_named replies) (range (length before) (length more)) alike
          ∙ total_ones (range (length before) (length more)) ∙ length_range (length before) (length more));
    }
  where
    size : length h ≡ (length before) + length more
    size = ap length (sym split) ∙ length-append before more

    is_named : (i : ℕ) → i < length more → 1 ≤ times (length before + i) (all_named replies)
    is_named i inside =
        let once = came.once (length before + i) in let old_mark =
        below_no (length before) (length before + i) (omega arith) in
        let new_mark = below_yes (length h) (length before + i) (omega (arith, inside, size)) in
        omega (arith, once, old_mark, new_mark)

    at_more : (i : ℕ) → slice_get h (length before + i) ≡ slice_get more i
    at_more i = ap (λ l. slice_get l (length before + i)) (sym split)
        ∙ get_behind before more i (length before + i) refl

    alike : (k : ℕ) → times k (all_named replies) ≡ times k (range (length before) (length more))
    alike k =
        let once = came.once k in let all = times_range k (length before) (length more) in
        let same_end : below (length h) k ≡ below ((length before) + length more) k = ap (λ m. below m k) size in
        omega (arith, once, all, same_end)

    dealt : AllZip (IsDealt meaning listed h limit (base + workers) (length before)) (all_asks (asked_of nodes)) replies
    dealt = dealt_all meaning listed limit base workers before h (all_asks (asked_of nodes)) replies
        (omega (arith, size)) came

    later : Each IsPublication more
    later = each_at IsPublication more (λ i x inside at.
        let found = published_at meaning listed limit site h (base + workers) (length before) (length before + i)
        nodes replies dealt (is_named i inside) in
        let same : x ≡ publishes found.0 = cc (at, at_more i, found.1) in subst IsPublication (sym same) tt)

    tells : AllZip (Tells meaning listed limit site h (base + workers) (length before)) nodes replies
    tells = tells_all meaning listed limit site h (base + workers) (length before) nodes replies
        (λ k some. site_stays site h (opened ++ more) k (sym split ∙ ap (λ l. l ++ more) is)
        (each_both IsPublication opened more old later) some) known dealt
