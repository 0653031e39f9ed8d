-- Replies that are read one after another.
use Rattle.std.proofs.Common.{◌≡◌, ℕ, ◌+◌, ◌<◌, List, [], ◌∷◌, ◌++◌, length, Some, refl, sym, ap, ◌∙◌, subst, arith, append_assoc, append-nil, length-append}
use Rattle.std.specs.Prelude.{IsTrue}
use Rattle.site_core.specs.Each.{Each}
use Rattle.site_core.specs.declared.reply.ReplyOf.{ReplyOf}
use Rattle.site_core.specs.declared.reply.ReplyOf.TheVariants as a
use Rattle.history_tools.specs.Rounds.{IsTold, is_served, is_meant, ComesTo, with_reply}
use Rattle.history_tools.specs.declared.outcome.Outcome.{Outcome}
use Rattle.history_tools.specs.declared.outcome.Outcome.TheVariants as o
use Rattle.history_tools.proofs.Told.{each_both}

module _ {C F : Type 0} where
  -- these were read and come to this, and so many are left
  pub record IsReading (all left : List (ReplyOf C F)) (count place : ℕ) (outcome : Outcome F) : Type 0 where
    pub done : List (ReplyOf C F)
    pub split : done ++ left ≡ all
    pub place_is : length done ≡ place
    pub count_is : count ≡ length left
    pub comes : ComesTo done outcome
    pub told : Each IsTold left

  served_meant : (r : ReplyOf C F) → IsTrue (is_served r) → IsTrue (is_meant r)
  served_meant (a.Served entry k catalog) so = refl
  served_meant (a.Refused k fault) so = so
  served_meant (a.HistoryFull n) so = refl
  served_meant (a.SeenAhead n) so = so
  served_meant (a.UnknownNode k) so = so
  served_meant (a.Deactivated entry) so = so
  served_meant (a.Deployed entry) so = so
  served_meant (a.Reported entry) so = so
  served_meant a.Memory so = so

  all_meant : (rs : List (ReplyOf C F)) → Each (λ r. IsTrue (is_served r)) rs → Each (λ r. IsTrue (is_meant r)) rs
  all_meant [] each = tt
  all_meant (r ∷ rs) each = (served_meant r each.0, all_meant rs each.1)

  more_back : (done front back : List (ReplyOf C F)) (r x : ReplyOf C F) → done ≡ front ++ r ∷ back →
      done ++ x ∷ [] ≡ front ++ r ∷ (back ++ x ∷ [])
  more_back done front back r x is = ap (λ l. l ++ x ∷ []) is ∙ append_assoc front (r ∷ back) (x ∷ [])

  refused_more : (done : List (ReplyOf C F)) (place j : ℕ) (other : F) (x : ReplyOf C F) →
      ComesTo done (o.Refused place j other) → ComesTo (done ++ x ∷ []) (o.Refused place j other)
  refused_more done place j other x comes = (
    comes.0,
    comes.1 ++ x ∷ [],
    more_back done comes.0 comes.1 (a.Refused j other) x comes.2,
    comes.3,
    comes.4,
  )

  full_more : (done : List (ReplyOf C F)) (m : ℕ) → Each (λ r. IsTrue (is_meant r)) done →
      ComesTo (done ++ a.HistoryFull m ∷ []) (o.Full m)
  full_more done m meant =
      (each_both (λ r. IsTrue (is_meant r)) done (a.HistoryFull m ∷ []) meant (refl, tt), (done, [], refl))

  -- what holds of the replies so far holds with one more
  comes_more : (done : List (ReplyOf C F)) (so_far next : Outcome F) (reply : ReplyOf C F) → ComesTo done so_far →
      with_reply so_far (length done) reply ≡ Some next → ComesTo (done ++ reply ∷ []) next
  comes_more done o.Whole next (a.Served entry k catalog) comes is =
      let same : o.Whole ≡ next = cc is in
      subst (ComesTo (done ++ a.Served entry k catalog ∷ [])) same
      (each_both (λ r. IsTrue (is_served r)) done (a.Served entry k catalog ∷ []) comes (refl, tt))
  comes_more done (o.Refused place j other) next (a.Served entry k catalog) comes is =
      let same : o.Refused place j other ≡ next = cc is in
      subst (ComesTo (done ++ a.Served entry k catalog ∷ [])) same
      (refused_more done place j other (a.Served entry k catalog) comes)
  comes_more done (o.Full n) next (a.Served entry k catalog) comes is =
      let same : o.Full n ≡ next = cc is in
      subst (ComesTo (done ++ a.Served entry k catalog ∷ [])) same (
        each_both (λ r. IsTrue (is_meant r)) done (a.Served entry k catalog ∷ []) comes.0 (refl, tt),
        (
          comes.1.0,
          comes.1.1 ++ a.Served entry k catalog ∷ [],
          more_back done comes.1.0 comes.1.1 (a.HistoryFull n)
              (a.Served entry k catalog) comes.1.2,
        ),
      )
  comes_more done o.Whole next (a.Refused k fault) comes is =
      let same : o.Refused (length done) k fault ≡ next = cc is in
      subst (ComesTo (done ++ a.Refused k fault ∷ [])) same (done, [], refl, refl, all_meant done comes)
  comes_more done (o.Refused place j other) next (a.Refused k fault) comes is =
      let same : o.Refused place j other ≡ next = cc is in
      subst (ComesTo (done ++ a.Refused k fault ∷ [])) same (refused_more done place j other (a.Refused k fault) comes)
  comes_more done (o.Full n) next (a.Refused k fault) comes is =
      let same : o.Refused (length done) k fault ≡ next = cc is in
      subst (ComesTo (done ++ a.Refused k fault ∷ [])) same (done, [], refl, refl, comes.0)
  comes_more done o.Whole next (a.HistoryFull m) comes is =
      let same : o.Full m ≡ next = cc is in
      subst (ComesTo (done ++ a.HistoryFull m ∷ [])) same (full_more done m (all_meant done comes))
  comes_more done (o.Refused place j other) next (a.HistoryFull m) comes is =
      let same : o.Refused place j other ≡ next = cc is in
      subst (ComesTo (done ++ a.HistoryFull m ∷ [])) same (refused_more done place j other (a.HistoryFull m) comes)
  comes_more done (o.Full n) next (a.HistoryFull m) comes is =
      let same : o.Full m ≡ next = cc is in
      subst (ComesTo (done ++ a.HistoryFull m ∷ [])) same (full_more done m comes.0)
  comes_more done so_far next (a.SeenAhead n) comes is = absurd cc
  comes_more done so_far next (a.UnknownNode k) comes is = absurd cc
  comes_more done so_far next (a.Deactivated entry) comes is = absurd cc
  comes_more done so_far next (a.Deployed entry) comes is = absurd cc
  comes_more done so_far next (a.Reported entry) comes is = absurd cc
  comes_more done so_far next a.Memory comes is = absurd cc

  pub reading_none : (all left : List (ReplyOf C F)) (count : ℕ) → left ≡ all → count ≡ length left → Each IsTold all →
      IsReading all left count 0 o.Whole
  reading_none all left count is count_is told = record {
    done = [];
    split = is;
    place_is = refl;
    count_is = count_is;
    comes = tt;
    told = subst (Each IsTold) (sym is) told;
  }

  pub reading_more : (all left rest : List (ReplyOf C F)) (count less place now : ℕ) (so_far next : Outcome F)
      (reply : ReplyOf C F) → IsReading all left count place so_far → left ≡ reply ∷ rest → less + 1 ≡ count →
      with_reply so_far place reply ≡ Some next → now ≡ place + 1 → IsReading all rest less now next
  reading_more all left rest count less place now so_far next reply before is less_is next_is now_is = record {
    done = before.done ++ reply ∷ [];
    split = append_assoc before.done (reply ∷ []) rest ∙ ap (λ l. before.done ++ l) (sym is) ∙ before.split;
    place_is = let size = length-append before.done (reply ∷ []) in let old = before.place_is in
        omega (arith, size, old, now_is);
    count_is = let old = before.count_is in let size = ap length is in omega (arith, old, size, less_is);
    comes = comes_more before.done so_far next reply before.comes
        (subst (λ n. with_reply so_far n reply ≡ Some next) (sym before.place_is) next_is);
    told = (subst (Each IsTold) is before.told).1;
  }

  pub next_told : (all left rest : List (ReplyOf C F)) (count place : ℕ) (so_far : Outcome F) (reply : ReplyOf C F) →
      IsReading all left count place so_far → left ≡ reply ∷ rest → IsTold reply
  next_told all left rest count place so_far reply before is = (subst (Each IsTold) is before.told).0

  pub read_all : (all left : List (ReplyOf C F)) (count place : ℕ) (outcome : Outcome F) →
      IsReading all left count place outcome → count ≡ 0 → ComesTo all outcome
  read_all all [] count place outcome before none =
      subst (λ l. ComesTo l outcome) (sym (append-nil before.done) ∙ before.split) before.comes
  read_all all (r ∷ left) count place outcome before none =
      let old = before.count_is in absurd (omega (arith, old, none))

  -- the next place is within
  pub place_within : (all left rest : List (ReplyOf C F)) (count place : ℕ) (so_far : Outcome F) (reply : ReplyOf C F) →
      IsReading all left count place so_far → left ≡ reply ∷ rest → place < length all
  place_within all left rest count place so_far reply before is =
      let size = ap length (sym before.split) ∙ length-append before.done left in let old = before.place_is in
      let some = ap length is in omega (arith, size, old, some)
