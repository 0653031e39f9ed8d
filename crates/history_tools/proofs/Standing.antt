-- How a search stands after a round, and how it ends.
use Rattle.std.proofs.Common.{◌≡◌, ℕ, ◌+◌, ◌-◌, ◌<◌, ◌≤◌, List, [], ◌∷◌, ◌++◌, length, take, drop, Some, None, refl, sym, ap, ◌∙◌, subst, arith, length-append}
use Rattle.std.specs.List.{AllZip}
use Rattle.std.specs.Arc.{arc_value}
use Rattle.std.specs.Prelude.{IsTrue, IsSome, option_map}
use Rattle.std.specs.FinMap as fin
use mathlib.Core.Logic.{dite}
use native.Mathlib.Decide.{dec_le}
use Rattle.std.proofs.lemmas.List.{length-take, length-drop}
use Rattle.list_sums.specs.Counts.{bit}
use Rattle.res_core.specs.Asked as requests
use Rattle.export_store.specs.Sets.{Sets}
use Rattle.site_core.specs.Asked.{all_asks}
use Rattle.site_core.specs.Each.{Each}
use Rattle.site_core.specs.Events.{Event, opens}
use Rattle.site_core.specs.Fits.{Listed}
use Rattle.site_core.specs.Meaning.{Meaning}
use Rattle.site_core.specs.Resuming.{base_of}
use Rattle.site_core.specs.Sets.{sets_from, sets_at}
use Rattle.site_core.specs.declared.reply.ReplyOf.{ReplyOf}
use Rattle.site_core.specs.declared.reply.ReplyOf.TheVariants as a
use Rattle.history_tools.specs.Settles.{AreListed, AreAll, AreSome, Changes, IsFirstChanged, IsRefused, IsFull, EndsAs, Settles, published, start}
use Rattle.history_tools.specs.Rounds.{asked_of, is_served, IsTold, ComesTo, FirstApart, IsReady, EndsRound, IsPublication, Stands}
use Rattle.history_tools.specs.SameWorkers.{GoesOn}
use Rattle.history_tools.specs.declared.outcome.Outcome.{Outcome}
use Rattle.history_tools.specs.declared.outcome.Outcome.TheVariants as o
use Rattle.history_tools.specs.declared.settle_end.SettleEnd.{SettleEnd}
use Rattle.history_tools.specs.declared.settle_end.SettleEnd.TheVariants as e
use Rattle.history_tools.proofs.ByWorkers.{round_by}
use Rattle.history_tools.proofs.Ended.{take_whole, each_taken, known_all, each_has, all_made, some_made, last_ones, refused_made, full_made}
use Rattle.history_tools.proofs.Rounded.{IsRound, told_all, round_of}
use Rattle.history_tools.proofs.SetSteps.{start_next, start_le, sets_behind, sets_before, none_changed, get_some, changes_before}
use Rattle.history_tools.proofs.Told.{each_both, Tells}

module _ {A B : Type 0} where
  zip_length : (P : A → B → Type 0) (xs : List A) (ys : List B) → AllZip P xs ys → length ys ≡ length xs
  zip_length P [] [] all = refl
  zip_length P [] (y ∷ ys) all = absurd all
  zip_length P (x ∷ xs) [] all = absurd all
  zip_length P (x ∷ xs) (y ∷ ys) all = let rest = zip_length P xs ys all.1 in omega (arith, rest)

module _ {S C F : Type 0} (meaning : Meaning S C F) (listed : Listed S) (limit : ℕ) (site : S) (nodes : List (List ℕ))
    (done workers : ℕ) (before h : List (Event S)) (sets : Sets) (replies : List (ReplyOf C F)) where
  abbrev pub Made : Type 0
  Made = IsRound meaning listed limit site workers (take limit nodes) before h replies

  abbrev pub Stood : Type 0
  Stood = Stands meaning listed limit workers site nodes done before sets

  -- what a round made of how the search stood
  pub made_of : AreListed listed site nodes → 1 ≤ workers → Stood →
      GoesOn meaning listed limit workers before (all_asks (asked_of (take limit nodes))) replies h → Made
  made_of are some stood on =
      round_by meaning listed limit site (base_of before) workers (take limit nodes) before on.came h replies some
      stood.legal stood.authors
      (round_of meaning listed limit site (base_of before) workers (take limit nodes) stood.more before on.came replies
      stood.split stood.later (omega arith)
      (each_taken (λ node. (s : S) → s ≡ site → listed s node ≡ None → ⊥) limit nodes
      (known_all listed site nodes are.all)) on.continues on.continues.begins.0 on.continues.begins.1)
      on.is

  -- the same by the requests as they were made
  pub made_so : (all : List requests.Asked) → all ≡ asked_of (take limit nodes) → AreListed listed site nodes →
      1 ≤ workers → Stood → GoesOn meaning listed limit workers before (all_asks all) replies h → Made
  made_so all is are some stood on =
      made_of are some stood (subst (λ l. GoesOn meaning listed limit workers before (all_asks l) replies h) is on)

  -- the sets, by the place of the round's first entry
  pub after_so : (first : ℕ) (after : Sets) → first ≡ length before → after ≡ sets_from sets (drop first h) →
      after ≡ sets_from sets (drop (length before) h)
  after_so first after first_is is = is ∙ ap (λ n. sets_from sets (drop n h)) first_is

  pub told_made : Made → Each IsTold replies
  told_made made =
      told_all meaning listed limit site h workers (length before) (take limit nodes) replies
      made.tells

  pub front_made : Made → length before ≤ length h
  front_made made = let size = ap length (sym made.split) ∙ length-append before made.more in omega (arith, size)

  low_some : Stood → 1 ≤ length before
  low_some stood = let size = stood.size in omega (arith, size)

  -- the sets after the round
  after_is : (after : Sets) → Stood → (made : Made) → after ≡ sets_from sets (drop (length before) h) →
      (after ≡ sets_from sets made.more) × (after ≡ sets_at h (length h))
  after_is after stood made is =
      let last = last_ones meaning listed limit site workers limit nodes before h replies made in
      let by_more : after ≡ sets_from sets made.more = is ∙ ap (sets_from sets) last in (
        by_more,
        by_more ∙ ap (λ s. sets_from s made.more) stood.sets_are ∙ sym (sets_behind before made.more h made.split),
      )

  before_is : Stood → (made : Made) → sets ≡ sets_at h (start nodes done)
  before_is stood made =
      stood.sets_are ∙ sym (sets_before before made.more h (length before) made.split (omega arith))
      ∙ ap (sets_at h) stood.size

  pub ready_made : (after : Sets) (outcome : Outcome F) → AreListed listed site nodes → Stood → (made : Made) →
      ComesTo replies outcome → after ≡ sets_from sets (drop (length before) h) → IsReady nodes after outcome
  ready_made after o.Whole are stood made came is =
      let all = all_made meaning listed limit site workers limit nodes before h replies refl
      (low_some stood) are.by_name made came in
      each_has (λ node. IsSome (fin.get after node)) nodes (λ n has.
      let one : published n made.more ≡ 1 = all.1.once n ∙ ap bit has in
      subst (λ s. IsSome (fin.get s n)) (sym (after_is after stood made is).0)
      (get_some sets made.more n made.later (omega (arith, one))))
  ready_made after (o.Refused place k fault) are stood made came is =
      let zip = zip_length (Tells meaning listed limit site h workers (length before)) (take
      limit nodes)
      replies made.tells in
      let size = ap length came.2 ∙ length-append came.0 (a.Refused k fault ∷ came.1) in
      let few = length-take limit nodes in omega (arith, zip, size, few, came.3)
  ready_made after (o.Full n) are stood made came is = tt

  -- the rounds before this one are what they were
  old_rounds : Stood → (made : Made) → (r : ℕ) → r < done → Changes listed site nodes h r
  old_rounds stood made r lt =
      let size = stood.size in let le = start_le nodes (r + 1) done (omega (arith, lt)) in
      changes_before listed site nodes before made.more h r made.split (omega (arith, size, le)) (stood.changed r lt)

  -- this round's entries, where all nodes were served
  whole_round : AreListed listed site nodes → Stood → (made : Made) → Each (λ r. IsTrue (is_served r)) replies →
      (length h ≡ start nodes (done + 1)) × AreAll listed site nodes (start nodes done) (drop (start nodes done) h)
  whole_round are stood made served =
      let all = all_made meaning listed limit site workers limit nodes before h replies refl
      (low_some stood) are.by_name made served in
      let last = last_ones meaning listed limit site workers limit nodes before h replies made in
      let next = start_next nodes done in let size = stood.size in let count = all.0 in (
        omega (arith, count, next, size),
        subst (λ n. AreAll listed site nodes n (drop n h)) stood.size
            (subst (AreAll listed site nodes (length before)) (sym last) all.1),
      )

  some_round : AreListed listed site nodes → Stood → (made : Made) →
      AreSome listed site nodes (start nodes done) (drop (start nodes done) h)
  some_round are stood made =
      let last = last_ones meaning listed limit site workers limit nodes before h replies made in
      subst (λ n. AreSome listed site nodes n (drop n h)) stood.size
      (subst (AreSome listed site nodes (length before)) (sym last)
      (some_made meaning listed limit site workers limit nodes before h replies are.by_name made))

  opened_so : (stood : Stood) (made : Made) → h ≡ opens site ∷ (stood.more ++ made.more)
  opened_so stood made = sym made.split ∙ ap (λ l. l ++ made.more) stood.split

  -- a set that changed
  apart_so : (after : Sets) (node : List ℕ) → Stood → (made : Made) → after ≡ sets_at h (length h) →
      length h ≡ start nodes (done + 1) → FirstApart sets after nodes (Some node) →
      sets_at h (start nodes done) ≡ sets_at h (start nodes (done + 1)) → ⊥
  apart_so after node stood made is size first same =
      first.4 (ap (λ s. fin.get s node)
      (before_is stood made ∙ same ∙ ap (sets_at h) (sym size) ∙ sym is))

  -- the search goes on
  pub went_on : (after : Sets) (outcome : Outcome F) (left : ℕ) → AreListed listed site nodes → Stood →
      (made : Made) → ComesTo replies outcome → after ≡ sets_from sets (drop (length before) h) →
      EndsRound nodes sets after left outcome None →
      Stands meaning listed limit workers site nodes (done + 1) h after × (1 ≤ left)
  went_on after o.Whole left are stood made came is ends =
      let whole = whole_round are stood made came in let afters = after_is after stood made is in
      let entries : drop (start nodes done) h ≡ take (length nodes) (drop (start nodes done) h) =
      sym (take_whole (length nodes) (drop (start nodes done) h)
      (let next = start_next nodes done in let left_over = length-drop (start nodes done) h in
      let size = whole.0 in omega (arith, next, left_over, size))) in (
        record {
          legal = made.legal;
          more = stood.more ++ made.more;
          split = opened_so stood made;
          later = each_both IsPublication stood.more made.more stood.later made.later;
          size = whole.0;
          few = made.few;
          authors = made.authors;
          changed = λ r lt. dite (dec_le (r + 1) done) (λ old. old_rounds stood made r (omega (arith, old))) (λ not_old.
              let now : done ≡ r = omega (arith, lt, not_old) in
              subst (Changes listed site nodes h) now (record {
                all = subst (AreAll listed site nodes (start nodes done)) entries whole.1;
                apart = apart_so after ends.1.0 stood made afters.1 whole.0 ends.1.1;
              }));
          sets_are = afters.1;
        },
        ends.0,
      )
  went_on after (o.Refused place k fault) left are stood made came is ends = absurd ends
  went_on after (o.Full n) left are stood made came is ends = absurd ends

  settles_by : (rounds : ℕ) (end : SettleEnd F) → done < rounds → Stood → (made : Made) →
      EndsAs meaning listed limit site nodes rounds done end h →
      Settles meaning listed limit site nodes rounds (done + 1) end h
  settles_by rounds end lt stood made ends = record {
    legal = made.legal;
    begins = (stood.more ++ made.more, sym (opened_so stood made));
    within = omega (arith, lt);
    last = done;
    run_is = refl;
    changed = old_rounds stood made;
    ends = ends;
  }

  -- the search ends
  pub ended : (after : Sets) (outcome : Outcome F) (end : SettleEnd F) (rounds left : ℕ) → done < rounds →
      left ≡ rounds - (done + 1) → AreListed listed site nodes → Stood → (made : Made) → ComesTo replies outcome →
      after ≡ sets_from sets (drop (length before) h) → EndsRound nodes sets after left outcome (Some end) →
      Settles meaning listed limit site nodes rounds (done + 1) end h
  ended after o.Whole e.Settled rounds left lt left_is are stood made came is ends =
      let whole = whole_round are stood made came in let afters = after_is after stood made is in
      let all = all_made meaning listed limit site workers limit nodes before h replies refl
      (low_some stood) are.by_name made came in
      let same = none_changed nodes sets made.more made.later all.1.once
      (subst (λ s. Each (λ n. fin.get sets n ≡ fin.get s n) nodes) afters.0 ends) in
      settles_by rounds e.Settled lt stood made
      (whole.0, whole.1, sym (before_is stood made) ∙ same ∙ sym afters.0 ∙ afters.1)
  ended after o.Whole (e.NotSettled node had has) rounds left lt left_is are stood made came is ends =
      let whole = whole_round are stood made came in let afters = after_is after stood made is in
      settles_by rounds (e.NotSettled node had has) lt stood made (
        whole.0,
        whole.1,
        omega (arith, lt, left_is, ends.0),
        subst (λ s. IsFirstChanged nodes s (sets_at h (length h)) node (option_map arc_value had) (arc_value has))
            (before_is stood made)
            (subst (λ s. IsFirstChanged nodes sets s node (option_map arc_value had) (arc_value has)) afters.1 ends.1),
      )
  ended after o.Whole (e.Refused node k fault) rounds left lt left_is are stood made came is ends = absurd ends
  ended after o.Whole (e.Full n) rounds left lt left_is are stood made came is ends = absurd ends
  ended after (o.Refused place k fault) (e.Refused node j other) rounds left lt left_is are stood made came is ends =
      settles_by rounds (e.Refused node j other) lt stood made (
        some_round are stood made,
        subst (λ n. IsRefused meaning listed limit site h n nodes node j other) stood.size
            (subst (λ m. IsRefused meaning listed limit site h (length before) nodes node m other) (sym ends.1)
            (subst (λ f. IsRefused meaning listed limit site h (length before) nodes node k f) (sym ends.2)
            (refused_made meaning listed limit site workers limit nodes before h replies place k
            fault
            node are.by_name made came ends.0))),
      )
  ended after (o.Refused place k fault) e.Settled rounds left lt left_is are stood made came is ends = absurd ends
  ended after (o.Refused place k fault) (e.NotSettled node had has) rounds left lt left_is are stood made came is ends =
      absurd ends
  ended after (o.Refused place k fault) (e.Full n) rounds left lt left_is are stood made came is ends = absurd ends
  ended after (o.Full n) (e.Full m) rounds left lt left_is are stood made came is ends =
      let full = full_made meaning listed limit site workers nodes before h replies n are.by_name made came in
      let le = front_made made in let size = stood.size in
      settles_by rounds (e.Full m) lt stood made (
        omega (arith, le, size),
        some_round are stood made,
        ends ∙ full.0,
        full.1.met.full,
        subst (λ low. IsFull meaning listed limit site h low nodes) stood.size full.1,
      )
  ended after (o.Full n) e.Settled rounds left lt left_is are stood made came is ends = absurd ends
  ended after (o.Full n) (e.NotSettled node had has) rounds left lt left_is are stood made came is ends = absurd ends
  ended after (o.Full n) (e.Refused node k fault) rounds left lt left_is are stood made came is ends = absurd ends
