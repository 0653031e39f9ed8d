-- With one worker a batch leaves what comes of its requests one after another.
use Rattle.std.proofs.Common.{◌≡◌, ℕ, zero, suc, ◌+◌, ◌<◌, ◌≤◌, inl, inr, List, [], ◌∷◌, ◌++◌, length, slice_get, Some, Result, Ok, Err, refl, sym, ap, ◌∙◌, subst, arith, append_assoc, append-nil, length-append}
use mathlib.Core.Logic.{dite}
use native.Mathlib.Decide.{dec_le}
use Rattle.list_sums.specs.Counts.{total, same, times, below}
use Rattle.list_sums.proofs.Totals.{total-append}
use Rattle.list_sums.proofs.Marks.{same_yes, same_no, below_yes, below_no, below_next, below_lt}
use Rattle.pp_values.specs.Datum.{Datum}
use Rattle.res_core.specs.Asked.{Wanted}
use Rattle.res_core.specs.declared.export_set.ExportSet.{ExportSet}
use Rattle.site_core.specs.Asked.{Asked, compile, plain}
use Rattle.site_core.specs.Events.{Event, opens, publishes, adds}
use Rattle.site_core.specs.Fits.{Listed, FitsPlain, FitsSaid, Means, had, had_said, named, named_said}
use Rattle.site_core.specs.Legal.{MayFollow, EachFollows, Legal}
use Rattle.site_core.specs.Meaning.{Meaning}
use Rattle.site_core.specs.Runs.{Hand, is_hand_of, times_in, picked, RiseFrom, Runs, EachRuns, all_named}
use Rattle.site_core.specs.Said as t
use Rattle.site_core.specs.Said.{Said, said, kind_of, plain_reply}
use Rattle.site_core.specs.Sets.{site_at}
use Rattle.site_core.specs.declared.plain.Plain.{Plain}
use Rattle.site_core.specs.declared.plain.PlainKind.{PlainKind}
use Rattle.site_core.specs.declared.plain.PlainKind.TheVariants as kind
use Rattle.site_core.specs.declared.reply.ReplyOf.{ReplyOf}
use Rattle.site_core.specs.declared.reply.ReplyOf.TheVariants as a
use Rattle.site_core.proofs.Fitting.{had_plain, named_plain}
use Rattle.site_core.proofs.Sets.{sets_at-append, site_at-append}
use Rattle.site_sequence.specs.Sequence.{turn, Takes, AnsweredInTurn}
use Rattle.site_sequence.specs.SequenceLaws.{WholeIsInTurn, OneResult}
use Rattle.site_sequence.specs.declared.sequence.TheConstants.{AUTHOR}
use Rattle.site_sequence.proofs.OneAuthor.{count_from, get_end, picked_rest}
use Rattle.site_sequence.proofs.Taken.{turn_ahead, turn_refused, turn_served, turn_full, turn_unknown, turn_plain, turn_no_room}
use Rattle.site_sequence.proofs.Turns.{meant}

some_is : {A : Type 0} (x y : A) → Some x ≡ Some y → x ≡ y
some_is x y is = cc

-- whose hand counts as one of some author below 1 is author 0
first_author : (author rest : ℕ) → same author author + rest ≡ below 1 author → author ≡ 0
first_author author rest is =
    let mark = same_yes author author refl in let low = below_lt 1 author (omega (arith, is, mark)) in omega (arith, low)

-- one worker has one hand, that of author 0
one_hand : (hands : List Hand) → ((author : ℕ) → total (is_hand_of author) hands ≡ below 1 author) →
    (places : List ℕ) × (hands ≡ record { author = 0; places = places } ∷ [])
one_hand [] all = let wrong : 0 ≡ 1 = all 0 in absurd (omega (arith, wrong))
one_hand (x ∷ []) all =
    (x.places, λ i. record { author = first_author x.author 0 (all x.author) i; places = x.places } ∷ [])
one_hand (x ∷ y ∷ hands) all =
    let x_is = first_author x.author (same x.author y.author + total (is_hand_of x.author) hands) (all x.author) in
    let swapped : same y.author y.author + (same y.author x.author + total (is_hand_of y.author) hands)
    ≡ below 1 y.author = let at = all y.author in omega (arith, at) in
    let y_is = first_author y.author (same y.author x.author + total (is_hand_of y.author) hands) swapped in
    let one = same_yes 0 x.author (sym x_is) in let two = same_yes 0 y.author (sym y_is) in
    let wrong : same 0 x.author + (same 0 y.author + total (is_hand_of 0) hands) ≡ 1 = all 0 in
    absurd (omega (arith, one, two, wrong))

-- what stands below the numbers that rise from some number on stands nowhere among them
absent : (k low : ℕ) (xs : List ℕ) → k < low → RiseFrom low xs → times k xs ≡ 0
absent k low [] under rise = refl
absent k low (x ∷ xs) under rise =
    let apart = same_no k x (λ is. omega (arith, is, under, rise.0)) in
    let rest = absent k (x + 1) xs (omega (arith, under, rise.0)) rise.1 in omega (arith, apart, rest)

-- numbers that rise, and are all of these, are these in turn
in_turn : (low n : ℕ) (xs : List ℕ) → RiseFrom low xs →
    ((k : ℕ) → times k xs + below low k ≡ below (low + n) k) → xs ≡ count_from low n
unfolding count_from
in_turn low zero [] rise all = refl
in_turn low zero (x ∷ xs) rise all =
    let mark = same_yes x x refl in let at = all x in
    let still : below (low + 0) x ≡ below low x = ap (λ m. below m x) (omega arith) in
    absurd (omega (arith, mark, at, still))
in_turn low (suc n) [] rise all =
    let at = all low in let under = below_no low low (omega arith) in
    let there = below_yes (low + suc n) low (omega arith) in absurd (omega (arith, at, under, there))
in_turn low (suc n) (x ∷ xs) rise all =
    let low_x = rise.0 in
    let is : x ≡ low = dite (dec_le x low) (λ le. omega (arith, le, low_x)) (λ not_le.
    let past : low < x = omega (arith, not_le) in
    let at = all low in let under = below_no low low (omega arith) in
    let there = below_yes (low + suc n) low (omega arith) in
    let not_first = same_no low x (λ e. omega (arith, e, past)) in
    let not_later = absent low (x + 1) xs (omega (arith, past)) rise.1 in
    absurd (omega (arith, at, under, there, not_first, not_later))) in
    let later : xs ≡ count_from (low + 1) n =
    in_turn (low + 1) n xs (subst (λ m. RiseFrom (m + 1) xs) is rise.1) (λ k.
    let at = all k in let next = below_next low k in let first : same k x ≡ same k low = ap (same k) is in
    let end : below (low + 1 + n) k ≡ below (low + suc n) k = ap (λ m. below m k) (omega arith) in
    omega (arith, at, next, first, end)) in
    λ i. is i ∷ later i

module _ {S C F : Type 0} (meaning : Meaning S C F) where
  each_at : (h xs ys : List (Event S)) (e : Event S) → EachFollows meaning h (xs ++ e ∷ ys) →
      MayFollow meaning (h ++ xs) e
  each_at h [] ys e each = subst (λ l. MayFollow meaning l e) (sym (append-nil h)) each.0
  each_at h (x ∷ xs) ys e each =
      subst (λ l. MayFollow meaning l e) (append_assoc h (x ∷ []) xs) (each_at (h ++ x ∷ []) xs ys e each.1)

  -- each entry of a legal history but the first may stand where it does
  legal_at : (front rest : List (Event S)) (e : Event S) → 1 ≤ length front → Legal meaning (front ++ e ∷ rest) →
      MayFollow meaning front e
  legal_at [] rest e some legal = absurd (omega (arith, some))
  legal_at (opens site ∷ front) rest e some legal = each_at (opens site ∷ []) front rest e legal
  legal_at (publishes p ∷ front) rest e some legal = absurd legal
  legal_at (adds author call what ∷ front) rest e some legal = absurd legal

module _ {S C F : Type 0} (meaning : Meaning S C F) (listed : Listed S) (h : List (Event S)) (limit author : ℕ) where
  -- what a fitting reply tells of
  record IsHigh (s : ℕ) (told : Said C F) : Type 0 where
    pub had : s ≤ had_said s told
    pub names : (entry : ℕ) → entry < s → times entry (named_said told) ≡ 0

  high : (s : ℕ) (asked : Asked S) (told : Said C F) → FitsSaid meaning listed h limit author s asked told →
      length h ≤ limit → s ≤ length h → IsHigh s told
  high s (compile w) (t.served entry k catalog) (fresh, is) few le = record {
    had = let one = fresh.had in let two = is.later in omega (arith, one, two);
    names = λ e under. let one = fresh.had in let two = is.later in
        let apart = same_no e entry (λ same_. omega (arith, same_, under, one, two)) in omega (arith, apart);
  }
  high s (compile w) (t.refused k fault) (fresh, is) few le = record { had = fresh.had; names = λ e under. refl }
  high s (compile w) (t.full n) (is, all, rest) few le =
      record { had = omega (arith, is, few, le); names = λ e under. refl }
  high s (compile w) (t.ahead n) (had, in_, past) few le = record { had = had; names = λ e under. refl }
  high s (compile w) (t.unknown k) (fresh, is) few le = record { had = fresh.had; names = λ e under. refl }
  high s (compile w) (t.added which entry) fits few le = absurd fits
  high s (compile w) t.short fits few le = record { had = omega arith; names = λ e under. refl }
  high s (plain what) (t.served entry k catalog) fits few le = absurd fits
  high s (plain what) (t.refused k fault) fits few le = absurd fits
  high s (plain what) (t.full n) (is, all) few le =
      record { had = omega (arith, is, few, le); names = λ e under. refl }
  high s (plain what) (t.ahead n) fits few le = absurd fits
  high s (plain what) (t.unknown k) fits few le = absurd fits
  high s (plain what) (t.added which entry) (same_kind, low, is) few le = record {
    had = omega (arith, low);
    names = λ e under. let apart = same_no e entry (λ same_. omega (arith, same_, under, low)) in omega (arith, apart);
  }
  high s (plain what) t.short fits few le = record { had = omega arith; names = λ e under. refl }

  within : (s : ℕ) (asked : Asked S) (told : Said C F) → FitsSaid meaning listed h limit author s asked told →
      s ≤ length h → had_said s told ≤ length h
  within s (compile w) (t.served entry k catalog) (fresh, is) le = let in_ = is.inside in omega (arith, in_)
  within s (compile w) (t.refused k fault) (fresh, is) le = fresh.high
  within s (compile w) (t.full n) (is, all, rest) le = omega (arith, is, all)
  within s (compile w) (t.ahead n) (had, in_, rest) le = in_
  within s (compile w) (t.unknown k) (fresh, is) le = fresh.high
  within s (compile w) (t.added which entry) fits le = absurd fits
  within s (compile w) t.short fits le = le
  within s (plain what) (t.served entry k catalog) fits le = absurd fits
  within s (plain what) (t.refused k fault) fits le = absurd fits
  within s (plain what) (t.full n) (is, all) le = omega (arith, is, all)
  within s (plain what) (t.ahead n) fits le = absurd fits
  within s (plain what) (t.unknown k) fits le = absurd fits
  within s (plain what) (t.added which entry) (same_kind, low, is) le = let in_ = is.inside in omega (arith, in_)
  within s (plain what) t.short fits le = le

  -- replies that run name no entry that was seen before
  unnamed : (s : ℕ) (requests : List (Asked S)) (replies : List (ReplyOf C F)) (entry : ℕ) →
      length h ≤ limit → s ≤ length h → Runs meaning listed h limit author s requests replies → entry < s →
      times entry (all_named replies) ≡ 0
  unnamed s [] [] entry few le run under = refl
  unnamed s (asked ∷ requests) (reply ∷ replies) entry few le (fits, run) under =
      let here = high s asked (said reply) fits few le in
      let had_ = here.had in
      let one = here.names entry under in
      let rest = unnamed (had s reply) requests replies entry few (within s asked (said reply) fits le) run
      (omega (arith, under, had_)) in
      let sum = total-append (same entry) (named reply) (all_named replies) in omega (arith, one, rest, sum)
  unnamed s [] (reply ∷ replies) entry few le run under = absurd run
  unnamed s (asked ∷ requests) [] entry few le run under = absurd run

  -- the entry behind those that were seen is named by the reply, if the reply or a later one tells of it
  record IsNext (s : ℕ) (told : Said C F) : Type 0 where
    pub next : s < had_said s told → times s (named_said told) ≡ 1

  next_named : (s : ℕ) (asked : Asked S) (requests : List (Asked S)) (reply : ReplyOf C F)
      (replies : List (ReplyOf C F)) → length h ≤ limit → s ≤ length h →
      Runs meaning listed h limit author s (asked ∷ requests) (reply ∷ replies) →
      ((entry : ℕ) → times entry (all_named (reply ∷ replies)) + below s entry ≡ below (length h) entry) →
      IsNext s (said reply)
  next_named s asked requests reply replies few le (fits, run) all = record {
    next = λ past.
        let high_ = within s asked (said reply) fits le in
        let rest = unnamed (had s reply) requests replies s few high_ run past in
        let sum = total-append (same s) (named reply) (all_named replies) in
        let at = all s in let seen = below_no s s (omega arith) in
        let there = below_yes (length h) s (omega (arith, past, high_)) in
        omega (arith, rest, sum, at, seen, there);
  }

  -- where the reply names no entry, it tells of what was seen before
  silent : (s n : ℕ) → s ≤ n → (s < n → ◌≡◌ {A = ℕ} 0 1) → n ≡ s
  silent s n le next = dite (dec_le n s) (λ back. omega (arith, le, back)) (λ not_back.
      let wrong = next (omega (arith, not_back)) in absurd (omega (arith, wrong)))

  -- where it names one, it is the one behind them
  first : (s entry : ℕ) → s ≤ entry → (s < entry + 1 → times s (entry ∷ []) ≡ 1) → entry ≡ s
  first s entry le next = dite (dec_le entry s) (λ back. omega (arith, le, back)) (λ not_back.
      let past : s < entry = omega (arith, not_back) in
      let apart = same_no s entry (λ e. omega (arith, e, past)) in
      let one = next (omega (arith, le)) in absurd (omega (arith, apart, one)))

module _ {S C F : Type 0} (meaning : Meaning S C F) (listed : Listed S) (limit : ℕ) where
  -- what is left to do for one author, who has seen the entries `front` of the history
  record IsLeft (h front rest : List (Event S)) (requests : List (Asked S)) (replies : List (ReplyOf C F)) : Type 0
    where
      pub legal : Legal meaning h
      pub few : length h ≤ limit
      pub is : h ≡ front ++ rest
      pub some : 1 ≤ length front
      pub run : Runs meaning listed h limit AUTHOR (length front) requests replies
      pub names : (entry : ℕ) →
          times entry (all_named replies) + below (length front) entry ≡ below (length h) entry

  size : (h front rest : List (Event S)) → h ≡ front ++ rest → length h ≡ length front + length rest
  size h front rest is = ap length is ∙ length-append front rest

  done : (h front rest : List (Event S)) → IsLeft h front rest [] [] → h ≡ front
  done h front [] left = left.is ∙ append-nil front
  done h front (e ∷ rest) left =
      let all = size h front (e ∷ rest) left.is in
      let at = left.names (length front) in
      let seen = below_no (length front) (length front) (omega arith) in
      let there = below_yes (length h) (length front) (omega (arith, all)) in
      absurd (omega (arith, at, seen, there))

  -- after a reply that names no entry
  stays : (h front rest : List (Event S)) (asked : Asked S) (reply : ReplyOf C F) (requests : List (Asked S))
      (replies : List (ReplyOf C F)) → IsLeft h front rest (asked ∷ requests) (reply ∷ replies) →
      had (length front) reply ≡ length front → named reply ≡ [] → IsLeft h front rest requests replies
  stays h front rest asked reply requests replies left had_is none = record {
    legal = left.legal;
    few = left.few;
    is = left.is;
    some = left.some;
    run = subst (λ n. Runs meaning listed h limit AUTHOR n requests replies) had_is left.run.1;
    names = λ entry. let all = left.names entry in let here = ap (times entry) none in
        let sum = total-append (same entry) (named reply) (all_named replies) in omega (arith, all, here, sum);
  }

  -- after a reply that names the next entry
  goes_on : (h front rest : List (Event S)) (e : Event S) (asked : Asked S) (reply : ReplyOf C F)
      (requests : List (Asked S)) (replies : List (ReplyOf C F)) →
      IsLeft h front (e ∷ rest) (asked ∷ requests) (reply ∷ replies) →
      had (length front) reply ≡ length front + 1 → named reply ≡ length front ∷ [] →
      IsLeft h (front ++ e ∷ []) rest requests replies
  goes_on h front rest e asked reply requests replies left had_is one =
      let long = length-append front (e ∷ []) in record {
        legal = left.legal;
        few = left.few;
        is = left.is ∙ sym (append_assoc front (e ∷ []) rest);
        some = omega (arith, long);
        run = subst (λ n. Runs meaning listed h limit AUTHOR n requests replies) (had_is ∙ sym long) left.run.1;
        names = λ entry. let all = left.names entry in let here = ap (times entry) one in
            let sum = total-append (same entry) (named reply) (all_named replies) in
            let next = below_next (length front) entry in
            let end : below (length (front ++ e ∷ [])) entry ≡ below (length front + 1) entry =
            ap (λ n. below n entry) long in
            omega (arith, all, here, sum, next, end);
      }

  -- what the history means after the entries that were seen, they mean by themselves
  means_seen : (h front rest : List (Event S)) (k : ℕ) (w : Wanted) (facts : Datum) (answer : Result (C × ExportSet) F)
      → h ≡ front ++ rest → k ≡ length front → Means meaning listed h k w facts answer →
      Means meaning listed front (length front) w facts answer
  means_seen h front rest k w facts answer is at m =
      let here : Means meaning listed (front ++ rest) (length front) w facts answer =
      subst (λ (x : List (Event S) × ℕ). Means meaning listed x.0 x.1 w facts answer) (λ i. (is i, at i)) m in
      record {
        site = here.site;
        site_is = sym (site_at-append front rest (length front) (omega arith)) ∙ here.site_is;
        facts_are = here.facts_are;
        meant = ap (meaning here.site w.node facts)
            (sym (sets_at-append front rest (length front) (omega arith))) ∙ here.meant;
      }

  -- the next request was answered in turn
  record IsStep (h front : List (Event S)) (asked : Asked S) (reply : ReplyOf C F) (requests : List (Asked S))
      (replies : List (ReplyOf C F)) : Type 0 where
    pub next : List (Event S)
    pub rest : List (Event S)
    pub takes : Takes meaning listed limit front asked reply next
    pub left : IsLeft h next rest requests replies

  served : (h front rest : List (Event S)) (w : Wanted) (entry k : ℕ) (catalog : C) (requests : List (Asked S))
      (replies : List (ReplyOf C F)) →
      IsLeft h front rest (compile w ∷ requests) (a.Served entry k catalog ∷ replies) → entry ≡ length front →
      IsStep h front (compile w) (a.Served entry k catalog) requests replies
  served h front [] w entry k catalog requests replies left at =
      let all = size h front [] left.is in let inside = left.run.0.1.inside in absurd (omega (arith, all, inside, at))
  served h front (e ∷ rest) w entry k catalog requests replies left at =
      let all = size h front (e ∷ rest) left.is in
      let (fresh, is) = left.run.0 in
      let k_is : k ≡ length front =
      let one = fresh.had in let two = is.later in omega (arith, one, two, at) in
      let m = means_seen h front (e ∷ rest) k w is.facts (Ok (catalog, is.set)) left.is k_is is.means in
      let e_is : e ≡ publishes (record {
        author = AUTHOR;
        call = is.call;
        node = w.node;
        facts = is.facts;
        k = k;
        set = is.set;
      }) =
      some_is e _ (sym (get_end front e rest) ∙ ap (slice_get (front ++ e ∷ rest)) (sym at)
      ∙ ap (λ l. slice_get l entry) (sym left.is) ∙ is.at) in
      let may = subst (MayFollow meaning front) e_is
      (legal_at meaning front rest e left.some (subst (Legal meaning) left.is left.legal)) in
      record {
        next = front ++ e ∷ [];
        rest = rest;
        takes = inl (turn_served meaning listed limit front (front ++ e ∷ []) w m.site is.facts catalog is.set entry k
            (let told = fresh.told in omega (arith, told, k_is)) m.site_is m.facts_are m.meant
            (let few = left.few in omega (arith, few, all)) at k_is
            (ap (λ x. front ++ x ∷ []) (e_is ∙ (λ i. publishes (record {
              author = AUTHOR;
              call = may.numbered i;
              node = w.node;
              facts = is.facts;
              k = k_is i;
              set = is.set;
            })))));
        left = goes_on h front rest e (compile w) (a.Served entry k catalog) requests replies left (omega (arith, at))
            (ap (λ n. n ∷ []) at);
      }

  added : (h front rest : List (Event S)) (what : Plain S) (which : PlainKind) (entry : ℕ) (requests : List (Asked S))
      (replies : List (ReplyOf C F)) →
      IsLeft h front rest (plain what ∷ requests) (plain_reply which entry ∷ replies) →
      FitsPlain meaning listed h limit AUTHOR (length front) what (t.added which entry) → entry ≡ length front →
      IsStep h front (plain what) (plain_reply which entry) requests replies
  added h front [] what which entry requests replies left (is_kind, low, is) at =
      let all = size h front [] left.is in let inside = is.inside in absurd (omega (arith, all, inside, at))
  added h front (e ∷ rest) what which entry requests replies left (is_kind, low, is) at =
      let all = size h front (e ∷ rest) left.is in
      let e_is : e ≡ adds AUTHOR is.call what =
      some_is e _ (sym (get_end front e rest) ∙ ap (slice_get (front ++ e ∷ rest)) (sym at)
      ∙ ap (λ l. slice_get l entry) (sym left.is) ∙ is.at) in
      let may = subst (MayFollow meaning front) e_is
      (legal_at meaning front rest e left.some (subst (Legal meaning) left.is left.legal)) in
      let after = front ++ e ∷ [] in
      let took = turn_plain meaning listed limit front after what entry
      (let few = left.few in omega (arith, few, all)) at
      (ap (λ x. front ++ x ∷ []) (e_is ∙ ap (λ call. adds AUTHOR call what) may)) in
      record {
        next = after;
        rest = rest;
        takes = inl (took ∙ ap (λ k. Some (turn (plain_reply k entry) after)) (sym is_kind));
        left = goes_on h front rest e (plain what) (plain_reply which entry) requests replies left
            (had_plain C F which (length front) entry ∙ ap (λ n. n + 1) at) (named_plain C F which entry ∙ ap (λ n. n ∷ []) at);
      }

  module _ (h front rest : List (Event S)) (requests : List (Asked S)) (replies : List (ReplyOf C F)) where
    abbrev Step : Asked S → ReplyOf C F → Type 0
    Step asked reply = IsStep h front asked reply requests replies

    abbrev Left : Asked S → ReplyOf C F → Type 0
    Left asked reply = IsLeft h front rest (asked ∷ requests) (reply ∷ replies)

    -- the next entry is named here, if it is known after this reply
    next_here : (asked : Asked S) (reply : ReplyOf C F) → Left asked reply →
        IsNext meaning listed h limit AUTHOR (length front) (said reply)
    next_here asked reply left =
        let all = size h front rest left.is in
        next_named meaning listed h limit AUTHOR (length front) asked requests reply replies left.few
        (omega (arith, all)) left.run left.names

    -- a reply that tells of n entries and names none
    silent_step : (asked : Asked S) (reply : ReplyOf C F) (n : ℕ) → Left asked reply → named reply ≡ [] →
        had (length front) reply ≡ n → n ≡ length front →
        Takes meaning listed limit front asked reply front → Step asked reply
    silent_step asked reply n left none tells at takes = record {
      next = front;
      rest = rest;
      takes = takes;
      left = stays h front rest asked reply requests replies left (tells ∙ at) none;
    }

    step : (asked : Asked S) (reply : ReplyOf C F) → Left asked reply → Step asked reply
    step (compile w) (a.Served entry k catalog) left =
        let (fresh, is) = left.run.0 in
        let low : length front ≤ entry = let one = fresh.had in let two = is.later in omega (arith, one, two) in
        served h front rest w entry k catalog requests replies left
        (first meaning listed h limit AUTHOR (length front) entry low
        (next_here (compile w) (a.Served entry k catalog) left).next)
    step (compile w) (a.Refused k fault) left =
        let (fresh, (facts, means)) = left.run.0 in
        let at = silent meaning listed h limit AUTHOR (length front) k fresh.had
        (next_here (compile w) (a.Refused k fault) left).next in
        let m = means_seen h front rest k w facts (Err fault) left.is at means in
        silent_step (compile w) (a.Refused k fault) k left refl refl at
        (inl (turn_refused meaning listed limit front w m.site facts fault k
        (let told = fresh.told in omega (arith, told, at)) m.site_is m.facts_are m.meant at))
    step (compile w) (a.HistoryFull n) left =
        let (is, full, (k, facts, made, fresh, means)) = left.run.0 in
        let all = size h front rest left.is in
        let at = silent meaning listed h limit AUTHOR (length front) n (omega (arith, is, full, all))
        (next_here (compile w) (a.HistoryFull n) left).next in
        let k_is : k ≡ length front =
        let one = fresh.had in let two = fresh.high in omega (arith, one, two, is, full, at) in
        let m = means_seen h front rest k w facts (Ok made) left.is k_is means in
        silent_step (compile w) (a.HistoryFull n) n left refl refl at
        (inl (turn_full meaning listed limit front w m.site facts made n
        (let told = fresh.told in omega (arith, told, k_is)) m.site_is m.facts_are m.meant
        (omega (arith, is, at)) at))
    step (compile w) (a.SeenAhead n) left =
        let (low, within, ahead) = left.run.0 in
        let at = silent meaning listed h limit AUTHOR (length front) n low
        (next_here (compile w) (a.SeenAhead n) left).next in
        silent_step (compile w) (a.SeenAhead n) n left refl refl at
        (inl (turn_ahead meaning listed limit front w n (omega (arith, ahead, at)) at))
    step (compile w) (a.UnknownNode k) left =
        let (fresh, is) = left.run.0 in
        let at = silent meaning listed h limit AUTHOR (length front) k fresh.had
        (next_here (compile w) (a.UnknownNode k) left).next in
        let site_is : site_at front (length front) ≡ Some is.site =
        sym (site_at-append front rest (length front) (omega arith))
        ∙ ap (λ l. site_at l (length front)) (sym left.is) ∙ ap (site_at h) (sym at) ∙ is.site_is in
        silent_step (compile w) (a.UnknownNode k) k left refl refl at
        (inl (turn_unknown meaning listed limit front w is.site k (let told = fresh.told in omega (arith, told, at))
        site_is is.none at))
    step (compile w) (a.Deactivated entry) left = absurd left.run.0
    step (compile w) (a.Deployed entry) left = absurd left.run.0
    step (compile w) (a.Reported entry) left = absurd left.run.0
    step (compile w) a.Memory left =
        silent_step (compile w) a.Memory (length front) left refl refl refl (inr (refl, refl))
    step (plain what) (a.Served entry k catalog) left = absurd left.run.0
    step (plain what) (a.Refused k fault) left = absurd left.run.0
    step (plain what) (a.HistoryFull n) left =
        let (is, full) = left.run.0 in
        let all = size h front rest left.is in
        let at = silent meaning listed h limit AUTHOR (length front) n (omega (arith, is, full, all))
        (next_here (plain what) (a.HistoryFull n) left).next in
        silent_step (plain what) (a.HistoryFull n) n left refl refl at
        (inl (turn_no_room meaning listed limit front what n (omega (arith, is, at)) at))
    step (plain what) (a.SeenAhead n) left = absurd left.run.0
    step (plain what) (a.UnknownNode k) left = absurd left.run.0
    step (plain what) (a.Deactivated entry) left =
        let (is_kind, low, is) = left.run.0 in
        added h front rest what kind.Deactivation entry requests replies left left.run.0
        (first meaning listed h limit AUTHOR (length front) entry low
        (next_here (plain what) (a.Deactivated entry) left).next)
    step (plain what) (a.Deployed entry) left =
        let (is_kind, low, is) = left.run.0 in
        added h front rest what kind.Deployment entry requests replies left left.run.0
        (first meaning listed h limit AUTHOR (length front) entry low
        (next_here (plain what) (a.Deployed entry) left).next)
    step (plain what) (a.Reported entry) left =
        let (is_kind, low, is) = left.run.0 in
        added h front rest what kind.Filing entry requests replies left left.run.0
        (first meaning listed h limit AUTHOR (length front) entry low
        (next_here (plain what) (a.Reported entry) left).next)
    step (plain what) a.Memory left =
        silent_step (plain what) a.Memory (length front) left refl refl refl (inr (refl, refl))

  steps : (requests : List (Asked S)) (replies : List (ReplyOf C F)) (h front rest : List (Event S)) →
      IsLeft h front rest requests replies → AnsweredInTurn meaning listed limit front requests replies h
  steps [] [] h front rest left = done h front rest left
  steps (asked ∷ requests) (reply ∷ replies) h front rest left =
      let one = step h front rest requests replies asked reply left in
      (one.next, one.takes, steps requests replies h one.next one.rest one.left)
  steps [] (reply ∷ replies) h front rest left = absurd left.run
  steps (asked ∷ requests) [] h front rest left = absurd left.run

  pub whole_in_turn : WholeIsInTurn meaning listed limit
  whole_in_turn site after requests replies w =
      let authors : (author : ℕ) → total (is_hand_of author) w.hands ≡ below 1 author =
      λ author. let all = w.authors author in let none = below_no 0 author (omega arith) in omega (arith, all, none) in
      let (places, hands_are) = one_hand w.hands authors in
      let run = subst (EachRuns meaning listed after limit 1 requests replies) hands_are w.run in
      let shares = subst (λ l. (k : ℕ) → total (times_in k) l ≡ below (length requests) k) hands_are w.shares in
      let places_are : places ≡ count_from 0 (length requests) =
      in_turn 0 (length requests) places run.0 (λ k. let all = shares k in let none = below_no 0 k (omega arith) in
      let end : below (0 + length requests) k ≡ below (length requests) k = ap (λ n. below n k) (omega arith) in
      omega (arith, all, none, end)) in
      let asked_are : picked requests places ≡ requests =
      ap (picked requests) places_are ∙ picked_rest requests [] requests 0 refl refl in
      let replies_are : picked replies places ≡ replies =
      ap (picked replies) (places_are ∙ ap (count_from 0) (sym w.answered))
      ∙ picked_rest replies [] replies 0 refl refl in
      steps requests replies after (opens site ∷ []) w.begins.0 (record {
        legal = w.legal;
        few = w.few;
        is = sym w.begins.1;
        some = omega arith;
        run = subst (λ (x : List (Asked S) × List (ReplyOf C F)). Runs meaning listed after limit AUTHOR 1 x.0 x.1)
            (λ i. (asked_are i, replies_are i)) run.1;
        names = w.once;
      })

  pub one_result : OneResult meaning listed limit
  one_result site requests first_ second one two told also =
      let a_ = meant meaning listed limit (opens site ∷ []) first_.history requests first_.replies
      (whole_in_turn site first_.history requests first_.replies one) told in
      let b_ = meant meaning listed limit (opens site ∷ []) second.history requests second.replies
      (whole_in_turn site second.history requests second.replies two) also in
      some_is first_ second (sym a_ ∙ b_)
