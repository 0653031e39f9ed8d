-- Shares that are split from the first pass and seat.
use Rattle.std.proofs.Common.{◌≡◌, ℕ, ◌+◌, ◌-◌, ◌<◌, List, [], ◌∷◌, ◌++◌, length, refl, sym, ap, ◌∙◌, subst, arith}
use mathlib.Core.List.{IsPrefix}
use Rattle.list_sums.specs.Counts.{total, same, below}
use Rattle.list_sums.proofs.Marks.{below_next}
use Rattle.list_sums.proofs.Totals.{total-append}
use Rattle.hist_lock.specs.Held.{LockId}
use Rattle.hist_lock.proofs.Fronts.{prefix_self, prefix_trans}
use Rattle.shared_site.specs.Shows.{Shared}
use Rattle.shared_site.specs.Known.{Known, first_pass, cut, cut_off}
use Rattle.work_pool.specs.Seats.{ClaimsId, Claimant, first_seat, splitting, split_off}
use Rattle.site_core.specs.Each.{Each}
use Rattle.site_batch.specs.Shares.{Share, seen_by, IsIdle, IsNew, is_author, pass_weight, seat_weight, AreShares}

module _ {A : Type 0} (P : A → Type 0) where
  pub each_snoc : (xs : List A) (x : A) → Each P xs → P x → Each P (xs ++ x ∷ [])
  each_snoc [] x each last = (last, tt)
  each_snoc (y ∷ xs) x each last = (each.0, each_snoc xs x each.1 last)

module _ {S : Type 0} where
  -- n authors were made, of which the first one keeps what is left
  pub record AreSplit (id : LockId) (s : Shared S) (claims : ClaimsId) (n : ℕ) (shares : List (Share S))
      (pass : Known S) (seat : Claimant) : Type 0 where
    pub new : Each (IsNew id s claims) shares
    pub mine : IsNew id s claims (pass, seat)
    pub author_is : pass.author ≡ s.terms.base
    pub authors : (author : ℕ) → total (is_author author) shares + same author s.terms.base + below s.terms.base author
        ≡ below (s.terms.base + n) author
    pub passes : total pass_weight shares + pass_weight (pass, seat) ≡ 65536
    pub seats : total seat_weight shares + seat_weight (pass, seat) ≡ 65536
    pub room : pass.room + n ≡ 65536
    pub seat_room : seat.room + n ≡ 65536

  pub split_none : (id : LockId) (claims : ClaimsId) (pass : Known S) (seat : Claimant) (shares : List (Share S)) →
      pass ≡ first_pass id (seen_by pass) → seat ≡ first_seat claims → shares ≡ [] →
      AreSplit id (seen_by pass) claims 1 shares pass seat
  split_none id claims pass seat shares pass_is seat_is none =
      let seat_room : seat.room ≡ 65535 = ap (λ s. s.room) seat_is in
      let seat_held : seat.held ≡ 1 = ap (λ s. s.held) seat_is in
      let room : pass.room ≡ 65535 = ap (λ p. p.room) pass_is in
      let author : pass.author ≡ pass.terms.base = ap (λ p. p.author) pass_is in
      let numbers : pass.numbers ≡ pass.terms.base ∷ [] = ap (λ p. p.numbers) pass_is in
      let size : length pass.numbers ≡ 1 = ap length numbers in
      subst (λ l. AreSplit id (seen_by pass) claims 1 l pass seat) (sym none) (record {
        new = tt;
        mine = record {
          site_is = ap (λ p. p.site) pass_is;
          terms_is = refl;
          begins = prefix_self pass.front;
          own = ap (λ p. p.own) pass_is;
          alone = numbers ∙ ap (λ a. a ∷ []) (sym author);
          claims_are = ap (λ s. s.claims) seat_is;
          idle = ap (λ s. s.numbers) seat_is;
        };
        author_is = author;
        authors = λ a. let next = below_next pass.terms.base a in omega (arith, next);
        passes = omega (arith, room, size);
        seats = omega (arith, seat_room, seat_held);
        room = omega (arith, room);
        seat_room = omega (arith, seat_room);
      })

  pub split_more : (id : LockId) (s : Shared S) (claims : ClaimsId) (n : ℕ) (shares after : List (Share S))
      (pass now other : Known S) (seat left spare : Claimant) → AreSplit id s claims n shares pass seat →
      n < 65536 → IsPrefix pass.front now.front → now ≡ cut pass now.front → other ≡ cut_off pass now.front →
      left ≡ splitting seat → spare ≡ split_off seat → after ≡ shares ++ (other, spare) ∷ [] →
      AreSplit id s claims (n + 1) after now left
  split_more id s claims n shares after pass now other seat left spare before low front now_is other_is left_is
      spare_is after_is =
      let begins = prefix_trans s.history pass.front now.front before.mine.begins front in
      let base : pass.terms.base ≡ s.terms.base = ap (λ t. t.base) before.mine.terms_is in
      let number : other.author ≡ pass.terms.base + (65536 - pass.room) = ap (λ p. p.author) other_is in
      let author : other.author ≡ s.terms.base + n = omega (arith, number, base, before.room) in
      let room : now.room ≡ pass.room - 1 = ap (λ p. p.room) now_is in
      let size : length now.numbers ≡ length pass.numbers = ap (λ p. length p.numbers) now_is in
      let one : other.room + length other.numbers ≡ 1 = ap (λ p. p.room + length p.numbers) other_is in
      let seat_room : left.room ≡ seat.room - 1 = ap (λ s. s.room) left_is in
      let seat_held : left.held ≡ seat.held = ap (λ s. s.held) left_is in
      let seat_one : spare.room + spare.held ≡ 1 = ap (λ s. s.room + s.held) spare_is in
      subst (λ l. AreSplit id s claims (n + 1) l now left) (sym after_is) (record {
        new = each_snoc (IsNew id s claims) shares (other, spare) before.new (record {
          site_is = ap (λ p. p.site) other_is ∙ before.mine.site_is;
          terms_is = ap (λ p. p.terms) other_is ∙ before.mine.terms_is;
          begins = subst (λ l. IsPrefix s.history l) (sym (ap (λ p. p.front) other_is)) begins;
          own = ap (λ p. p.own) other_is;
          alone = ap (λ p. p.numbers) other_is ∙ ap (λ a. a ∷ []) (sym (ap (λ p. p.author) other_is));
          claims_are = ap (λ s. s.claims) spare_is ∙ before.mine.claims_are;
          idle = ap (λ s. s.numbers) spare_is;
        });
        mine = record {
          site_is = ap (λ p. p.site) now_is ∙ before.mine.site_is;
          terms_is = ap (λ p. p.terms) now_is ∙ before.mine.terms_is;
          begins = begins;
          own = ap (λ p. p.own) now_is ∙ before.mine.own;
          alone = ap (λ p. p.numbers) now_is ∙ before.mine.alone ∙ ap (λ a. a ∷ []) (sym (ap (λ p. p.author) now_is));
          claims_are = ap (λ s. s.claims) left_is ∙ before.mine.claims_are;
          idle = ap (λ s. s.numbers) left_is ∙ before.mine.idle;
        };
        author_is = ap (λ p. p.author) now_is ∙ before.author_is;
        authors = λ a. let sum = total-append (is_author a) shares ((other, spare) ∷ []) in
            let mark : same a other.author ≡ same a (s.terms.base + n) = ap (same a) author in
            let next = below_next (s.terms.base + n) a in let old = before.authors a in
            let up : below (s.terms.base + n + 1) a ≡ below (s.terms.base + (n + 1)) a =
            ap (λ m. below m a) (omega arith) in omega (arith, sum, mark, next, old, up);
        passes = let sum = total-append pass_weight shares ((other, spare) ∷ []) in
            omega (arith, sum, before.passes, room, size, one, before.room, low);
        seats = let sum = total-append seat_weight shares ((other, spare) ∷ []) in
            omega (arith, sum, before.seats, seat_room, seat_held, seat_one, before.seat_room, low);
        room = omega (arith, room, before.room, low);
        seat_room = omega (arith, seat_room, before.seat_room, low);
      })

  pub split_all : (id : LockId) (s : Shared S) (claims : ClaimsId) (n : ℕ) (shares after : List (Share S))
      (pass : Known S) (seat : Claimant) → AreSplit id s claims n shares pass seat →
      after ≡ shares ++ (pass, seat) ∷ [] → AreShares id s claims n after
  split_all id s claims n shares after pass seat split is =
      subst (AreShares id s claims n) (sym is) (record {
        new = each_snoc (IsNew id s claims) shares (pass, seat) split.new split.mine;
        authors = λ a. let sum = total-append (is_author a) shares ((pass, seat) ∷ []) in
            let mark : same a pass.author ≡ same a s.terms.base = ap (same a) split.author_is in
            let old = split.authors a in omega (arith, sum, mark, old);
        passes = let sum = total-append pass_weight shares ((pass, seat) ∷ []) in omega (arith, sum, split.passes);
        seats = let sum = total-append seat_weight shares ((pass, seat) ∷ []) in omega (arith, sum, split.seats);
      })

  pub split_end : (id : LockId) (s : Shared S) (claims : ClaimsId) (n workers : ℕ)
      (shares after : List (Share S)) (pass : Known S) (seat : Claimant) →
      AreSplit id s claims n shares pass seat → n ≡ workers → after ≡ shares ++ (pass, seat) ∷ [] →
      AreShares id s claims workers after
  split_end id s claims n workers shares after pass seat split is after_is =
      subst (λ m. AreShares id s claims m after) is
      (split_all id s claims n shares after pass seat split after_is)

  idle_of : (id : LockId) (s : Shared S) (claims : ClaimsId) (shares : List (Share S)) →
      Each (IsNew id s claims) shares → Each (IsIdle id claims) shares
  idle_of id s claims [] each = tt
  idle_of id s claims (x ∷ shares) each =
      ((each.0.site_is, each.0.claims_are, each.0.idle), idle_of id s claims shares each.1)

  pub idle_shares : (id : LockId) (s : Shared S) (claims : ClaimsId) (n : ℕ) (shares : List (Share S)) →
      AreShares id s claims n shares → Each (IsIdle id claims) shares
  idle_shares id s claims n shares are = idle_of id s claims shares are.new
