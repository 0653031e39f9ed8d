-- Connections that were served side by side were served under the history that is handed out at the end.
use Rattle.std.proofs.Common.{◌≡◌, ℕ, zero, suc, ◌+◌, ◌≤◌, ◌<◌, List, [], ◌∷◌, ◌++◌, map, length, slice_get, Option, Some, None, IfSome, refl, sym, ap, ◌∙◌, subst, subst₂, arith, append_assoc, length-append}
use Rattle.std.specs.List.{AllZip}
use mathlib.Core.Logic.{dite}
use native.Mathlib.Decide.{ℕ_discrete, dec_le}
use mathlib.Core.List.{IsPrefix}
use Rattle.std.proofs.lemmas.Option.{slice_get_past}
use Rattle.list_sums.specs.Counts.{total, times, same}
use Rattle.list_sums.proofs.Marks.{same_no, same_yes, below_yes, below_no}
use Rattle.hist_lock.specs.Held.{LockId}
use Rattle.hist_lock.specs.Calls.{stands, wrote, has_author, AreCalls}
use Rattle.hist_lock.proofs.Fronts.{prefix_trans, prefix_length, at_front}
use Rattle.site_io.specs.Stream.{Stream}
use Rattle.site_io.specs.Net.{Net}
use Rattle.site_core.specs.Asked.{Asked}
use Rattle.site_core.specs.Each.{Each}
use Rattle.site_core.specs.Meaning.{Meaning}
use Rattle.site_core.specs.Events.{Event, author_of}
use Rattle.site_core.specs.Legal.{Legal}
use Rattle.site_core.specs.Fits.{Listed}
use Rattle.site_core.specs.Runs.{Runs, all_named}
use Rattle.site_core.specs.declared.reply.ReplyOf.{ReplyOf}
use Rattle.site_core.proofs.Running.{runs_under}
use Rattle.shared_site.specs.Shows.{Terms}
use Rattle.shared_site.specs.Known.{Known, held, IsLater, AreTheOthers}
use Rattle.site_serve.specs.declared.conn_end.ConnEnd.{ConnEnd}
use Rattle.site_serve.specs.Ends.{Dialect, HasReplied}
use Rattle.site_service.specs.declared.service_stop.ServiceStop.{ServiceStop}
use Rattle.site_service.specs.Doors.{AreEarlier}
use Rattle.site_service.specs.Visits.{HasVisited}
use Rattle.site_service.specs.Served.{Taken, IsWhy, Tells, IsByOneOf, HasRepliedUnder, AreServed, HasServedAll}
use Rattle.site_service.specs.Handing.{Out, HasJoined}
use Rattle.site_service.proofs.Asking.{runs_less, ends_as, asked_of}
use Rattle.site_service.proofs.Authors.{exactly_own, none_own, calls_within, has_one}
use Rattle.site_service.proofs.Chains.{IsNewPass, IsLast, AreNew}

-- whoever stands among one author is this author
stands_alone : (a : ℕ) (who : Option ℕ) → 1 ≤ stands (a ∷ []) who → who ≡ Some a
stands_alone a None some = absurd (omega (arith, some))
stands_alone a (Some b) some = dite (ℕ_discrete b a) (λ is. ap Some is)
    (λ other. let apart = same_no b a other in absurd (omega (arith, some, apart)))

module _ {A : Type 0} where
  first_behind : (front rest : List A) (x : A) → slice_get (front ++ x ∷ rest) (length front) ≡ Some x
  first_behind [] rest x = refl
  first_behind (y ∷ front) rest x = first_behind front rest x

  -- what holds at each place behind a front holds of each member there
  each_behind : (P : A → Type 0) (all front rest : List A) → all ≡ front ++ rest →
      ((k : ℕ) (x : A) → length front ≤ k → k < length all → slice_get all k ≡ Some x → P x) → Each P rest
  each_behind P all front [] is holds = tt
  each_behind P all front (x ∷ rest) is holds =
      let size = ap length is in let sum = length-append front (x ∷ rest) in (
        holds (length front) x (omega arith) (omega (arith, size, sum))
            (ap (λ l. slice_get l (length front)) is ∙ first_behind front rest x),
        each_behind P all (front ++ x ∷ []) rest (is ∙ sym (append_assoc front (x ∷ []) rest))
            (λ k y behind inside at. let more = length-append front (x ∷ []) in
            holds k y (omega (arith, behind, more)) inside at),
      )

-- an author below the base is none from the base on
not_of : (base a : ℕ) (who : Option ℕ) → base ≤ a → IfSome who (λ author. author < base) → stands (a ∷ []) who ≡ 0
not_of base a None above earlier = refl
not_of base a (Some author) above earlier =
    let apart = same_no author a (λ is. omega (arith, is, above, earlier)) in omega (arith, apart)

module _ {S : Type 0} where
  -- no earlier entry is of an author from the base on
  early_at : (base a : ℕ) (h : List (Event S)) (k : ℕ) → base ≤ a → AreEarlier base h →
      wrote author_of (a ∷ []) (slice_get h k) ≡ 0
  early_at base a [] k above earlier = refl
  early_at base a (e ∷ h) zero above earlier = not_of base a (author_of e) above earlier.0
  early_at base a (e ∷ h) (suc k) above earlier = early_at base a h k above earlier.1

module _ {S X C F : Type 0} (meaning : Meaning S C F) (listed : Listed S) (d : Dialect S C F) (id : LockId) (terms : Terms)
    (first : List (Event S)) (stream : X → Stream) where
  abbrev pub Came : (Known S × Stream) → Out S X → Type 0
  Came v o = HasVisited meaning listed d v.0 v.1 o.end o.pass (stream o.connection)

  abbrev pub number : Out S X → ℕ
  number o = o.pass.author

  abbrev pub own : Out S X → List ℕ
  own o = o.pass.own

  later_of : (v : Known S × Stream) (o : Out S X) → Came v o → IsLater v.0 o.pass
  later_of v o came = (asked_of d (HasReplied meaning listed v.0 o.pass) o.end v.1 came.ended came.ends).2.later

  own_calls : (c : ℕ) (v : Known S × Stream) (o : Out S X) → IsNewPass id terms first c v.0 → Came v o →
      AreCalls author_of o.pass.own (o.pass.author ∷ []) o.pass.front
  own_calls c v o new came =
      let later = later_of v o came in
      subst (λ l. AreCalls author_of o.pass.own l o.pass.front)
      (later.numbers ∙ new.numbers ∙ ap (λ a. a ∷ []) (sym (later.author ∙ new.author))) came.calls

  -- what the passes account for
  weights : (c : ℕ) (vs : List (Known S × Stream)) (outs : List (Out S X)) → AreNew id terms first c vs →
      AllZip Came vs outs → (total (λ o. o.pass.room + held o.pass) outs ≡ length vs) × (length outs ≡ length vs)
  weights c [] [] new came = (refl, refl)
  weights c [] (o ∷ outs) new came = absurd came
  weights c (v ∷ vs) [] new came = absurd came
  weights c (v ∷ vs) (o ∷ outs) new came =
      let rest = weights (c + 1) vs outs new.1 came.1 in let later = later_of v o came.0 in
      let one = ap length later.numbers ∙ ap length new.0.numbers in
      (omega (arith, rest.0, one, later.room, new.0.room), omega (arith, rest.1))

  -- all are of this site
  pub of_site : (c : ℕ) (vs : List (Known S × Stream)) (outs : List (Out S X)) → AreNew id terms first c vs →
      AllZip Came vs outs → Each (λ o. o.pass.site ≡ id) outs
  of_site c [] [] new came = tt
  of_site c [] (o ∷ outs) new came = absurd came
  of_site c (v ∷ vs) [] new came = absurd came
  of_site c (v ∷ vs) (o ∷ outs) new came =
      ((later_of v o came.0).site ∙ new.0.site, of_site (c + 1) vs outs new.1 came.1)

  pub may_close : (vs : List (Known S × Stream)) (outs : List (Out S X)) (p q : Known S) → AreNew id terms first 1 vs →
      AllZip Came vs outs → IsLast id terms first (1 + length vs) p → HasJoined p outs q →
      (q.site ≡ id) × (q.room + held q ≡ 65536)
  may_close vs outs p q new came last joined =
      let sums = weights 1 vs outs new came in
      (joined.site ∙ last.site, omega (arith, joined.weight, last.weight, sums.0))

  -- no author below the first of these, and each other one at most once
  none_below : (c a : ℕ) (vs : List (Known S × Stream)) (outs : List (Out S X)) → a < terms.base + c →
      AreNew id terms first c vs → AllZip Came vs outs → total (λ o. same a (number o)) outs ≡ 0
  none_below c a [] [] lower new came = refl
  none_below c a [] (o ∷ outs) lower new came = absurd came
  none_below c a (v ∷ vs) [] lower new came = absurd came
  none_below c a (v ∷ vs) (o ∷ outs) lower new came =
      let later = later_of v o came.0 in
      let apart = same_no a o.pass.author (λ is. omega (arith, is, lower, later.author, new.0.author)) in
      let rest = none_below (c + 1) a vs outs (omega (arith, lower)) new.1 came.1 in omega (arith, apart, rest)

  apart_all : (c : ℕ) (vs : List (Known S × Stream)) (outs : List (Out S X)) → AreNew id terms first c vs →
      AllZip Came vs outs → (a : ℕ) → total (λ o. same a (number o)) outs ≤ 1
  apart_all c [] [] new came a = omega arith
  apart_all c [] (o ∷ outs) new came a = absurd came
  apart_all c (v ∷ vs) [] new came a = absurd came
  apart_all c (v ∷ vs) (o ∷ outs) new came a =
      let later = later_of v o came.0 in
      dite (ℕ_discrete a o.pass.author)
      (λ is. let here = same_yes a o.pass.author is in
      let rest = none_below (c + 1) a vs outs (omega (arith, is, later.author, new.0.author)) new.1 came.1 in
      omega (arith, here, rest))
      (λ other. let here = same_no a o.pass.author other in
      let rest = apart_all (c + 1) vs outs new.1 came.1 a in omega (arith, here, rest))

  fronts_within : (front h : List (Event S)) (outs : List (Out S X)) → Each (λ o. IsPrefix o.pass.front front) outs →
      IsPrefix front h → Each (λ o. IsPrefix o.pass.front h) outs
  fronts_within front h [] begins prefix = tt
  fronts_within front h (o ∷ outs) begins prefix =
      (prefix_trans o.pass.front front h begins.0 prefix, fronts_within front h outs begins.1 prefix)

  module _ (h : List (Event S)) where
    abbrev pub OwnWithin : List (Out S X) → Type 0
    OwnWithin outs = Each (λ o. (k : ℕ) → times k (own o) ≤ wrote author_of (number o ∷ []) (slice_get h k)) outs

    within_all : (c : ℕ) (vs : List (Known S × Stream)) (outs : List (Out S X)) → AreNew id terms first c vs →
        AllZip Came vs outs → Each (λ o. IsPrefix o.pass.front h) outs → OwnWithin outs
    within_all c [] [] new came begins = tt
    within_all c [] (o ∷ outs) new came begins = absurd came
    within_all c (v ∷ vs) [] new came begins = absurd came
    within_all c (v ∷ vs) (o ∷ outs) new came begins = (
      calls_within author_of o.pass.own o.pass.author o.pass.front h (own_calls c v o new.0 came.0) begins.0,
      within_all (c + 1) vs outs new.1 came.1 begins.1,
    )

    -- an entry that some pass owns is of the pass's author
    among : (c k : ℕ) (e : Event S) (vs : List (Known S × Stream)) (outs : List (Out S X)) →
        AreNew id terms first c vs → AllZip Came vs outs → OwnWithin outs → slice_get h k ≡ Some e →
        0 < total (λ o. times k (own o)) outs →
        (author : ℕ) × (author_of e ≡ Some author) × (terms.base + c ≤ author)
        × (author < terms.base + (c + length vs))
    among c k e [] [] new came within at some = absurd (omega (arith, some))
    among c k e [] (o ∷ outs) new came within at some = absurd came
    among c k e (v ∷ vs) [] new came within at some = absurd came
    among c k e (v ∷ vs) (o ∷ outs) new came within at some =
        let later = later_of v o came.0 in
        dite (dec_le 1 (times k o.pass.own))
        (λ mine. let is : wrote author_of (o.pass.author ∷ []) (slice_get h k) ≡ stands (o.pass.author ∷ []) (author_of e) =
        ap (wrote author_of (o.pass.author ∷ [])) at in (
          o.pass.author,
          stands_alone o.pass.author (author_of e) (omega (arith, mine, within.0 k, is)),
          omega (arith, later.author, new.0.author),
          omega (arith, later.author, new.0.author),
        ))
        (λ others. let rest = among (c + 1) k e vs outs new.1 came.1 within.1 at (omega (arith, some, others)) in
        (rest.0, rest.1, omega (arith, rest.2), omega (arith, rest.3)))

    -- the connections as they were given, ended and were left
    abbrev pub taken_of : List (Known S × Stream) → List (Out S X) → List Taken
    taken_of [] outs = []
    taken_of (v ∷ vs) [] = []
    taken_of (v ∷ vs) (o ∷ outs) = record { given = v.1; end = o.end; back = stream o.connection } ∷ taken_of vs outs

    replied_under : (c : ℕ) (p q : Known S) → IsNewPass id terms first c p → IsPrefix q.front h →
        length h ≤ terms.limit → ((k : ℕ) → times k q.own ≡ wrote author_of (q.author ∷ []) (slice_get h k)) →
        (asked : List (Asked S)) (replies : List (ReplyOf C F)) → HasReplied meaning listed p q asked replies →
        HasRepliedUnder meaning listed terms.limit (length first) h (terms.base + c) asked replies
    replied_under c p q new begins few calls asked replies done =
        let bound : q.terms.limit ≡ terms.limit = ap (λ t. t.limit) (done.later.terms ∙ new.terms_are) in
        let who : q.author ≡ terms.base + c = done.later.author ∙ new.author in
        let long = prefix_length first p.front new.front in
        let mine : q.own ≡ all_named replies = done.own ∙ ap (λ l. l ++ all_named replies) new.own in
        record {
          run = runs_less meaning listed h terms.limit (terms.base + c) (length p.front) (length first) asked replies (omega (arith, long))
              (runs_under meaning listed q.front h terms.limit (terms.base + c) (length p.front) asked replies begins few
              (subst₂ (λ l a. Runs meaning listed q.front l a (length p.front) asked replies) bound who done.run));
          own = λ k. ap (times k) (sym mine) ∙ calls k ∙ ap (λ a. wrote author_of (a ∷ []) (slice_get h k)) who;
        }

    each_served : (c : ℕ) (vs : List (Known S × Stream)) (outs : List (Out S X)) → AreNew id terms first c vs →
        AllZip Came vs outs → Each (λ o. IsPrefix o.pass.front h) outs → length h ≤ terms.limit →
        ((k : ℕ) → Each (λ o. times k (own o) ≡ wrote author_of (number o ∷ []) (slice_get h k)) outs) →
        AreServed meaning listed terms.limit (length first) h d (terms.base + c) (taken_of vs outs)
    each_served c [] outs new came begins few calls = tt
    each_served c (v ∷ vs) [] new came begins few calls = absurd came
    each_served c (v ∷ vs) (o ∷ outs) new came begins few calls = (
      (
        came.0.ended,
        ends_as d (HasReplied meaning listed v.0 o.pass) (HasRepliedUnder meaning listed terms.limit (length first) h (terms.base + c))
            (replied_under c v.0 o.pass new.0 begins.0 few (λ k. (calls k).0)) o.end v.1 came.0.ended came.0.ends,
        came.0.prompt,
        came.0.shut_is,
      ),
      subst (λ n. AreServed meaning listed terms.limit (length first) h d n (taken_of vs outs)) (omega arith)
          (each_served (c + 1) vs outs new.1 came.1 begins.1 few (λ k. (calls k).1)),
    )

    pub taken_are : (vs : List (Known S × Stream)) (outs : List (Out S X)) → AllZip Came vs outs →
        (map (λ t. t.given) (taken_of vs outs) ≡ map (λ v. v.1) vs)
        × (map (λ t. t.end) (taken_of vs outs) ≡ map (λ o. o.end) outs)
        × (map (λ t. Some t.back) (taken_of vs outs) ≡ map (λ o. Some (stream o.connection)) outs)
        × (length (taken_of vs outs) ≡ length vs)
    taken_are [] [] came = (refl, refl, refl, refl)
    taken_are [] (o ∷ outs) came = absurd came
    taken_are (v ∷ vs) [] came = absurd came
    taken_are (v ∷ vs) (o ∷ outs) came =
        let rest = taken_are vs outs came.1 in (
          ap (λ l. v.1 ∷ l) rest.0,
          ap (λ l. o.end ∷ l) rest.1,
          ap (λ l. Some (stream o.connection) ∷ l) rest.2,
          ap suc rest.3,
        )

  -- each entry behind the first ones that has an author is owned
  owned : (h : List (Event S)) (p q : Known S) (outs : List (Out S X)) → p.own ≡ [] → HasJoined p outs q →
      AreTheOthers (length first) q.own h → (k : ℕ) → length first ≤ k →
      has_author author_of (slice_get h k) ≤ total (λ o. times k (own o)) outs
  owned h p q outs none joined others k behind =
      let none_given = below_no (length first) k behind in
      let mine : times k p.own ≡ 0 = ap (times k) none in
      dite (dec_le (length h) k)
      (λ past. let nothing : has_author author_of (slice_get h k) ≡ 0 =
      ap (has_author author_of) (slice_get_past h k past) in omega (arith, nothing))
      (λ inside. let here = below_yes (length h) k (omega (arith, inside)) in
      let one = has_one author_of (slice_get h k) in
      omega (arith, one, here, none_given, mine, joined.own k, others k))

  -- and none of the first ones is of one of their authors
  none_early : (h : List (Event S)) (c : ℕ) (vs : List (Known S × Stream)) (outs : List (Out S X)) →
      AreEarlier terms.base first → IsPrefix first h → AreNew id terms first c vs → AllZip Came vs outs → (k : ℕ) →
      k < length first → Each (λ o. wrote author_of (number o ∷ []) (slice_get h k) ≡ 0) outs
  none_early h c [] [] earlier begins new came k inside = tt
  none_early h c [] (o ∷ outs) earlier begins new came k inside = absurd came
  none_early h c (v ∷ vs) [] earlier begins new came k inside = absurd came
  none_early h c (v ∷ vs) (o ∷ outs) earlier begins new came k inside =
      let later = later_of v o came.0 in (
        ap (wrote author_of (o.pass.author ∷ [])) (at_front first h k begins inside)
            ∙ early_at terms.base o.pass.author first k (omega (arith, later.author, new.0.author)) earlier,
        none_early h (c + 1) vs outs earlier begins new.1 came.1 k inside,
      )

  -- From what each thread gave back, what was joined, and what closing the site says of its history: the clause of a
  -- whole service.
  pub all_served : (h : List (Event S)) (count : ℕ) (n after : Net) (why : ServiceStop) (vs : List (Known S × Stream))
      (outs : List (Out S X)) (p q : Known S) (ends : List ConnEnd) → AreEarlier terms.base first → AreNew id terms first 1 vs →
      AllZip Came vs outs → IsLast id terms first (1 + length vs) p → terms.given ≡ length first →
      HasJoined p outs q → length vs ≤ count → ends ≡ map (λ o. o.end) outs →
      IsWhy why count (taken_of h vs outs) n after → Tells n.told (taken_of h vs outs) after.told →
      n.faults ≤ after.faults → Legal meaning h → IsPrefix q.front h → length h ≤ q.terms.limit →
      AreTheOthers q.terms.given q.own h →
      HasServedAll meaning listed d terms.limit terms.base first count n after ends why h
  all_served h count n after why vs outs p q ends earlier new came last given joined few ends_are why_is told faults legal
      begins within others =
      let are = taken_are h vs outs came in
      let same_terms : q.terms ≡ terms = joined.terms ∙ last.terms_are in
      let prefixes = fronts_within q.front h outs joined.fronts begins in
      let start = prefix_trans first q.front h (prefix_trans first p.front q.front last.front joined.front) begins in
      let short : length h ≤ terms.limit = omega (arith, within, ap (λ t. t.limit) same_terms) in
      let rest = subst (λ g. AreTheOthers g q.own h) (ap (λ t. t.given) same_terms ∙ given) others in
      let bounds = within_all h 1 vs outs new came prefixes in
      let mine = λ (k : ℕ). dite (dec_le (length first) k)
      (λ behind. exactly_own author_of number own outs h (apart_all 1 vs outs new came) bounds k
      (owned h p q outs last.own joined rest k behind))
      (λ inside. none_own author_of number own outs h bounds k
      (none_early h 1 vs outs earlier start new came k (omega (arith, inside)))) in
      record {
        legal = legal;
        few = short;
        taken = taken_of h vs outs;
        counted = omega (arith, are.3, few);
        why_is = why_is;
        each = each_served h 1 vs outs new came prefixes short mine;
        ends_are = ends_are ∙ sym are.1;
        told = told;
        faults = faults;
        others = start.0;
        begins = sym start.1;
        authors = each_behind (IsByOneOf terms.base (length (taken_of h vs outs))) h first start.0 (sym start.1)
            (λ k e behind inside at.
            let one = below_yes (length h) k inside in let none_given = below_no (length first) k behind in
            let mine : times k p.own ≡ 0 = ap (times k) last.own in
            let by = among h 1 k e vs outs new came bounds at
            (omega (arith, rest k, one, none_given, mine, joined.own k)) in
            (by.0, by.1, by.2, omega (arith, by.3, are.3)));
      }
