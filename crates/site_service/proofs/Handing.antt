-- One more connection is handed back, and its pass joined.
use Rattle.std.proofs.Common.{◌≡◌, ℕ, suc, ◌+◌, ◌-◌, ◌≤◌, ◌<◌, List, [], ◌∷◌, ◌++◌, map, length, slice_get, slice_set, Option, Some, None, option_map, refl, sym, ap, ◌∙◌, subst, arith, append_assoc, append-nil, length-append}
use Rattle.std.proofs.lemmas.List.{map-append}
use mathlib.Core.List.{IsPrefix}
use mathlib.Core.Logic.{dite}
use native.Mathlib.Decide.{dec_le}
use Rattle.list_sums.specs.Counts.{times}
use Rattle.list_sums.proofs.Totals.{total-append}
use Rattle.hist_lock.specs.Calls.{IsLonger}
use Rattle.hist_lock.specs.Held.{LockId}
use Rattle.hist_lock.proofs.Fronts.{prefix_self, prefix_trans}
use Rattle.site_io.specs.Stream.{Stream}
use Rattle.site_io.specs.Net.{Net, Lines, IsGone, put_back}
use Rattle.site_core.specs.Each.{Each}
use Rattle.site_core.proofs.Each.{each_map}
use Rattle.shared_site.specs.Known.{Known, held, joined_to}
use Rattle.site_serve.specs.declared.conn_end.ConnEnd.{ConnEnd}
use Rattle.site_service.specs.Handing.{Out, HasJoined, is_out, AreOut, is_back, AreBack, SomeAreBack}

module _ {A : Type 0} where
  each_snoc : (P : A → Type 0) (xs : List A) (y : A) → Each P xs → P y → Each P (xs ++ y ∷ [])
  each_snoc P [] y each new = (new, tt)
  each_snoc P (x ∷ xs) y each new = (each.0, each_snoc P xs y each.1 new)

  get_between : (xs ys : List A) (y : A) → slice_get (xs ++ y ∷ ys) (length xs) ≡ Some y
  get_between [] ys y = refl
  get_between (x ∷ xs) ys y = get_between xs ys y

  set_between : (xs ys : List A) (y z : A) → slice_set (xs ++ y ∷ ys) (length xs) z ≡ xs ++ z ∷ ys
  set_between [] ys y z = refl
  set_between (x ∷ xs) ys y z = ap (λ l. x ∷ l) (set_between xs ys y z)

  length-mapped : {B : Type 0} (f : A → B) (xs : List A) → length (map f xs) ≡ length xs
  length-mapped f [] = refl
  length-mapped f (x ∷ xs) = ap suc (length-mapped f xs)

  -- the longer of two fronts begins with either
  longer_than_both : (one other now : List A) → IsLonger one other now → IsPrefix one now × IsPrefix other now
  longer_than_both one other now longer = dite (dec_le (length other) (length one))
      (λ le. let is = longer.0 le in (subst (IsPrefix one) (sym is.0) (prefix_self one), subst (IsPrefix other) (sym is.0) is.1))
      (λ above. let is = longer.1 (omega (arith, above)) in
      (subst (IsPrefix one) (sym is.0) is.1, subst (IsPrefix other) (sym is.0) (prefix_self other)))

module _ {S X : Type 0} where
  pub none_joined : (p : Known S) → HasJoined {X = X} p [] p
  none_joined p = record {
    site = refl;
    terms = refl;
    front = prefix_self p.front;
    fronts = tt;
    own = λ k. omega arith;
    weight = omega arith;
  }

  one_joined : (p q now : Known S) (done : List (Out S X)) (v : Out S X) → HasJoined p done q →
      now ≡ joined_to q v.pass now.front → IsLonger q.front v.pass.front now.front → HasJoined p (done ++ v ∷ []) now
  one_joined p q now done v joined now_is longer =
      let fronts = longer_than_both q.front v.pass.front now.front longer in record {
        site = ap (λ x. x.site) now_is ∙ joined.site;
        terms = ap (λ x. x.terms) now_is ∙ joined.terms;
        front = prefix_trans p.front q.front now.front joined.front fronts.0;
        fronts = each_snoc (λ w. IsPrefix w.pass.front now.front) done v
            (each_map (λ w. IsPrefix w.pass.front q.front) (λ w. IsPrefix w.pass.front now.front)
            (λ w begins. prefix_trans w.pass.front q.front now.front begins fronts.0) done joined.fronts) fronts.1;
        own = λ k. let is : times k now.own ≡ times k (q.own ++ v.pass.own) = ap (λ x. times k x.own) now_is in
            let sum : times k (q.own ++ v.pass.own) ≡ times k q.own + times k v.pass.own =
            total-append _ q.own v.pass.own in
            let all = total-append (λ (w : Out S X). times k w.pass.own) done (v ∷ []) in
            omega (arith, joined.own k, sum, is, all);
        weight = let room : now.room ≡ q.room + v.pass.room = ap (λ x. x.room) now_is in
            let size = length-append q.numbers v.pass.numbers in
            let numbers : length now.numbers ≡ length (q.numbers ++ v.pass.numbers) = ap (λ x. length x.numbers) now_is in
            let all = total-append (λ (w : Out S X). w.pass.room + held w.pass) done (v ∷ []) in
            omega (arith, joined.weight, room, size, numbers, all);
      }

  module _ (stream : X → Stream) where
    -- the first ones are back, as many as the number tells
    pub record AreHandedTo (id : LockId) (p : Known S) (n : Net) (visits left : List (Out S X)) (number : ℕ) (q : Known S)
        (now : Net) (ends : List ConnEnd) : Type 0 where
      pub done : List (Out S X)
      pub split : visits ≡ done ++ left
      pub number_is : number ≡ length done
      pub site_is : p.site ≡ id
      pub joined : HasJoined p done q
      pub of : Each (λ v. v.pass.site ≡ id) left
      pub ends_are : ends ≡ map (λ v. v.end) done
      pub later : n.faults ≤ now.faults
      pub told : SomeAreBack stream n.told done left now.told

    none_back : (told : Option Lines) (visits : List (Out S X)) → AreOut told visits →
        SomeAreBack stream told [] visits told
    none_back None visits out = refl
    none_back (Some l) visits out = ap (λ g. Some (record { waiting = l.waiting; given = g })) out

    pub handed_none : (id : LockId) (p : Known S) (n : Net) (visits left : List (Out S X)) (ends : List ConnEnd) →
        left ≡ visits → p.site ≡ id → Each (λ v. v.pass.site ≡ id) visits → AreOut n.told visits → ends ≡ [] →
        AreHandedTo id p n visits left 0 p n ends
    handed_none id p n visits left ends left_is site of out none = record {
      done = [];
      split = sym left_is;
      number_is = refl;
      site_is = site;
      joined = none_joined p;
      of = subst (Each (λ v. v.pass.site ≡ id)) (sym left_is) of;
      ends_are = none;
      later = omega arith;
      told = subst (λ l. SomeAreBack stream n.told [] l n.told) (sym left_is) (none_back n.told visits out);
    }

    module _ (id : LockId) (p q : Known S) (n now : Net) (visits left rest : List (Out S X)) (number : ℕ)
        (ends : List ConnEnd) (before : AreHandedTo id p n visits left number q now ends) (v : Out S X)
        (next_is : left ≡ v ∷ rest) where
      pub number_below : number < length visits
      number_below = let all = ap length before.split in let sum = length-append before.done left in
          let one = ap length next_is in omega (arith, all, sum, one, before.number_is)

      pub number_left : length visits ≡ number + 1 + length rest
      number_left = let all = ap length before.split in let sum = length-append before.done left in
          let one = ap length next_is in omega (arith, all, sum, one, before.number_is)

      pub site_of : v.pass.site ≡ id
      site_of = (subst (Each (λ w. w.pass.site ≡ id)) next_is before.of).0

      pub site_now : q.site ≡ id
      site_now = before.joined.site ∙ before.site_is

      -- its place among those that were given
      place : (next : ℕ) → next ≡ number + 1 → next - 1 ≡ length (map (is_back stream) before.done)
      place next is = let size = length-mapped (is_back stream) before.done in omega (arith, is, before.number_is, size)

      gone_in : (told now_told : Option Lines) (next : ℕ) → next ≡ number + 1 →
          SomeAreBack stream told before.done left now_told → IsGone next now_told
      gone_in None now_told next is told = subst (IsGone next) (sym told) tt
      gone_in (Some l) now_told next is told = subst (IsGone next) (sym told)
          (ap (λ t. slice_get (map (is_back stream) before.done ++ map is_out t) (next - 1)) next_is
          ∙ ap (slice_get (map (is_back stream) before.done ++ None ∷ map is_out rest)) (place next is)
          ∙ get_between (map (is_back stream) before.done) (map is_out rest) None)

      pub gone : (next : ℕ) → next ≡ number + 1 → IsGone next now.told
      gone next is = gone_in n.told now.told next is before.told

      back_in : (told now_told after : Option Lines) (next : ℕ) → next ≡ number + 1 →
          SomeAreBack stream told before.done left now_told →
          after ≡ option_map (put_back next (stream v.connection)) now_told →
          SomeAreBack stream told (before.done ++ v ∷ []) rest after
      back_in None now_told after next is told put =
          put ∙ ap (option_map (put_back next (stream v.connection))) told
      back_in (Some l) now_told after next is told put =
          put ∙ ap (option_map (put_back next (stream v.connection))) told
          ∙ ap (λ g. Some (record { waiting = l.waiting; given = g }))
          (ap (λ t. slice_set (map (is_back stream) before.done ++ map is_out t) (next - 1) (is_back stream v)) next_is
          ∙ ap (λ k. slice_set (map (is_back stream) before.done ++ None ∷ map is_out rest) k (is_back stream v))
          (place next is)
          ∙ set_between (map (is_back stream) before.done) (map is_out rest) None (is_back stream v)
          ∙ sym (ap (λ g. g ++ map is_out rest) (map-append (is_back stream) before.done (v ∷ []))
          ∙ append_assoc (map (is_back stream) before.done) (is_back stream v ∷ []) (map is_out rest)))

      pub one_handed : (next : ℕ) (q' : Known S) (now' : Net) (ends' : List ConnEnd) → next ≡ number + 1 →
          q' ≡ joined_to q v.pass q'.front → IsLonger q.front v.pass.front q'.front → now.faults ≤ now'.faults →
          now'.told ≡ option_map (put_back next (stream v.connection)) now.told → ends' ≡ ends ++ v.end ∷ [] →
          AreHandedTo id p n visits rest next q' now' ends'
      one_handed next q' now' ends' is q'_is longer later put more = record {
        done = before.done ++ v ∷ [];
        split = before.split ∙ ap (λ l. before.done ++ l) next_is ∙ sym (append_assoc before.done (v ∷ []) rest);
        number_is = let sum = length-append before.done (v ∷ []) in omega (arith, is, before.number_is, sum);
        site_is = before.site_is;
        joined = one_joined p q q' before.done v before.joined q'_is longer;
        of = (subst (Each (λ w. w.pass.site ≡ id)) next_is before.of).1;
        ends_are = more ∙ ap (λ l. l ++ v.end ∷ []) before.ends_are ∙ sym (map-append (λ w. w.end) before.done (v ∷ []));
        later = omega (arith, before.later, later);
        told = back_in n.told now.told now'.told next is before.told put;
      }

    all_back : (told now : Option Lines) (done : List (Out S X)) → SomeAreBack stream told done [] now →
        AreBack stream told done now
    all_back None now done told = told
    all_back (Some l) now done told =
        told ∙ ap (λ g. Some (record { waiting = l.waiting; given = g })) (append-nil (map (is_back stream) done))

    pub handed_all : (id : LockId) (p q : Known S) (n now : Net) (visits left : List (Out S X)) (number : ℕ)
        (ends : List ConnEnd) → AreHandedTo id p n visits left number q now ends → left ≡ [] →
        HasJoined p visits q × AreBack stream n.told visits now.told × (n.faults ≤ now.faults)
        × (ends ≡ map (λ v. v.end) visits)
    handed_all id p q n now visits left number ends all none =
        let is : all.done ≡ visits = sym (append-nil all.done) ∙ ap (λ l. all.done ++ l) (sym none) ∙ sym all.split in (
          subst (λ l. HasJoined p l q) is all.joined,
          subst (λ l. AreBack stream n.told l now.told) is
              (all_back n.told now.told all.done (subst (λ l. SomeAreBack stream n.told all.done l now.told) none all.told)),
          all.later,
          all.ends_are ∙ ap (map (λ v. v.end)) is,
        )
