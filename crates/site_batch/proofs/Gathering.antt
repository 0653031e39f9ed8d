-- One more worker's pass, seat and answers are joined.
use Rattle.std.proofs.Common.{◌≡◌, ℕ, ◌+◌, max, List, [], ◌∷◌, ◌++◌, length, Some, IsSome, Vec, refl, sym, ap, ◌∙◌, subst, arith, append_assoc, length-append}
use Rattle.std.specs.declared.alloc.Global.{Global}
use mathlib.Core.List.{IsPrefix}
use Rattle.list_sums.specs.Counts.{times, same}
use Rattle.list_sums.proofs.Totals.{total-append}
use Rattle.hist_lock.specs.Calls.{IsLonger}
use Rattle.hist_lock.specs.Held.{LockId}
use Rattle.hist_lock.proofs.Fronts.{prefix_self, prefix_trans}
use mathlib.Core.Logic.{dite}
use native.Mathlib.Decide.{dec_le}
use Rattle.site_core.proofs.Each.{each_map, each_end}
use Rattle.shared_site.specs.Known.{Known, joined_to}
use Rattle.work_pool.specs.Seats.{ClaimsId, Claimant, joining}
use Rattle.site_batch.specs.declared.answered.Answered.{Answered}
use Rattle.site_core.specs.Each.{Each}
use Rattle.site_batch.specs.Gathered.{Out, kept, all_answers, IsOf, AreGathered}

module _ {E : Type 0} where
  -- the longer of two fronts begins with either
  longer_one : (one other now : List E) → IsLonger one other now → IsPrefix one now × IsPrefix other now
  longer_one one other now longer = dite (dec_le (length other) (length one))
      (λ le. let is = longer.0 le in (subst (IsPrefix one) (sym is.0) (prefix_self one), subst (IsPrefix other) (sym is.0) is.1))
      (λ not_le. let is = longer.1 (omega (arith, not_le)) in
      (subst (IsPrefix one) (sym is.0) is.1, subst (IsPrefix other) (sym is.0) (prefix_self other)))

module _ {S T : Type 0} where
  -- the first one that was taken
  gathered_one : (out : Out S T) (answers : Vec (Answered T) Global) → out.answers ≡ Some answers →
      AreGathered (out ∷ []) out.pass out.seat answers.items
  gathered_one out answers is = record {
    fronts = (prefix_self out.pass.front, tt);
    terms = λ terms each. each.0;
    own = λ k. omega arith;
    passes = omega arith;
    known = (omega arith, tt);
    drawn = λ k. omega arith;
    seats = omega arith;
    kept_all = (subst IsSome (sym is) refl, tt);
    answers_are = sym (ap kept is);
  }

  -- and one more
  gathered_more : (outs : List (Out S T)) (out : Out S T) (pass now : Known S) (seat joined : Claimant)
      (answers all : List (Answered T)) (more : Vec (Answered T) Global) → AreGathered outs pass seat answers →
      out.answers ≡ Some more → now ≡ joined_to pass out.pass now.front →
      IsLonger pass.front out.pass.front now.front → joined ≡ joining seat out.seat → all ≡ answers ++ more.items →
      AreGathered (out ∷ outs) now joined all
  gathered_more outs out pass now seat joined answers all more done given now_is longer joined_is all_is =
      let front = longer_one pass.front out.pass.front now.front longer in
      record {
        fronts = (front.1, each_map _ _ (λ o p. prefix_trans o.pass.front pass.front now.front p front.0) outs done.fronts);
        terms = λ terms each. ap (λ p. p.terms) now_is ∙ done.terms terms each.1;
        own = λ k. let sum = total-append (same k) pass.own out.pass.own in
            let is : times k now.own ≡ times k (pass.own ++ out.pass.own) = ap (λ p. times k p.own) now_is in
            omega (arith, done.own k, sum, is);
        passes = let room : now.room ≡ pass.room + out.pass.room = ap (λ p. p.room) now_is in
            let size = length-append pass.numbers out.pass.numbers in
            let numbers : length now.numbers ≡ length (pass.numbers ++ out.pass.numbers) =
            ap (λ p. length p.numbers) now_is in
            omega (arith, done.passes, room, size, numbers);
        known = let is : joined.known ≡ max seat.known out.seat.known = ap (λ s. s.known) joined_is in
            (omega (arith, is), each_map _ _ (λ o le. omega (arith, le, is)) outs done.known);
        drawn = λ k. let sum = total-append (same k) seat.numbers out.seat.numbers in
            let is : times k joined.numbers ≡ times k (seat.numbers ++ out.seat.numbers) =
            ap (λ s. times k s.numbers) joined_is in
            omega (arith, done.drawn k, sum, is);
        seats = let room : joined.room ≡ seat.room + out.seat.room = ap (λ s. s.room) joined_is in
            let size : joined.held ≡ seat.held + out.seat.held = ap (λ s. s.held) joined_is in
            omega (arith, done.seats, room, size);
        kept_all = (subst IsSome (sym given) refl, done.kept_all);
        answers_are = all_is ∙ ap (λ l. l ++ more.items) done.answers_are
            ∙ ap (λ l. all_answers outs ++ l) (sym (ap kept given));
      }

module _ {S T : Type 0} where
  -- the last of the works were joined, and these are left
  pub record AreJoining (id : LockId) (claims : ClaimsId) (works left : List (Out S T)) (pass : Known S)
      (seat : Claimant) (answers : List (Answered T)) : Type 0 where
    pub done : List (Out S T)
    pub split : works ≡ left ++ done
    pub gathered : AreGathered done pass seat answers
    pub site_is : pass.site ≡ id
    pub claims_are : seat.claims ≡ claims

  pub joining_one : (id : LockId) (claims : ClaimsId) (works left : List (Out S T)) (out : Out S T)
      (answers : Vec (Answered T) Global) → Each (IsOf id claims) works → works ≡ left ++ out ∷ [] →
      out.answers ≡ Some answers → AreJoining id claims works left out.pass out.seat answers.items
  joining_one id claims works left out answers of split is =
      let mine = each_end (IsOf id claims) left out [] (subst (Each (IsOf id claims)) split of) in
      record {
        done = out ∷ [];
        split = split;
        gathered = gathered_one out answers is;
        site_is = mine.0;
        claims_are = mine.1;
      }

  taken_out : (works left done rest : List (Out S T)) (out : Out S T) → works ≡ left ++ done → left ≡ rest ++ out ∷ [] →
      works ≡ rest ++ out ∷ done
  taken_out works left done rest out split last =
      split ∙ ap (λ l. l ++ done) last ∙ append_assoc rest (out ∷ []) done

  -- the one that is taken next
  pub next_of : (id : LockId) (claims : ClaimsId) (works left rest : List (Out S T)) (out : Out S T)
      (pass : Known S) (seat : Claimant) (answers : List (Answered T)) → Each (IsOf id claims) works →
      AreJoining id claims works left pass seat answers → left ≡ rest ++ out ∷ [] → IsOf id claims out
  next_of id claims works left rest out pass seat answers of joining last =
      each_end (IsOf id claims) rest out joining.done
      (subst (Each (IsOf id claims)) (taken_out works left joining.done rest out joining.split last) of)

  pub joining_more : (id : LockId) (claims : ClaimsId) (works left rest : List (Out S T)) (out : Out S T)
      (pass now : Known S) (seat joined : Claimant) (answers all : List (Answered T)) (more : Vec (Answered T) Global) →
      AreJoining id claims works left pass seat answers → left ≡ rest ++ out ∷ [] → out.answers ≡ Some more →
      now ≡ joined_to pass out.pass now.front → IsLonger pass.front out.pass.front now.front →
      joined ≡ joining seat out.seat → all ≡ answers ++ more.items →
      AreJoining id claims works rest now joined all
  joining_more id claims works left rest out pass now seat joined answers all more before last is now_is longer
      joined_is all_is = record {
        done = out ∷ before.done;
        split = taken_out works left before.done rest out before.split last;
        gathered = gathered_more before.done out pass now seat joined answers all more before.gathered is now_is longer
            joined_is all_is;
        site_is = ap (λ p. p.site) now_is ∙ before.site_is;
        claims_are = ap (λ s. s.claims) joined_is ∙ before.claims_are;
      }

  pub joined_all : (id : LockId) (claims : ClaimsId) (works left : List (Out S T)) (pass : Known S)
      (seat : Claimant) (answers : List (Answered T)) → AreJoining id claims works left pass seat answers →
      left ≡ [] → AreGathered works pass seat answers
  joined_all id claims works left pass seat answers joining none =
      subst (λ l. AreGathered l pass seat answers) (sym (joining.split ∙ ap (λ l. l ++ joining.done) none)) joining.gathered
