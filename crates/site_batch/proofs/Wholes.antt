-- What all workers did is the work of a batch.
use Rattle.std.proofs.Common.{◌≡◌, ℕ, ◌+◌, ◌≤◌, List, [], ◌∷◌, ◌++◌, length, slice_get, Option, Some, None, IsSome, Vec, refl, sym, ap, ◌∙◌, subst, arith}
use Rattle.std.specs.List.{cons_option}
use Rattle.std.specs.declared.alloc.Global.{Global}
use mathlib.Core.List.{IsPrefix}
use Rattle.list_sums.specs.Counts.{total, times, same, below}
use Rattle.list_sums.proofs.Totals.{total-append}
use Rattle.list_sums.proofs.Marks.{below_yes, below_no}
use Rattle.hist_lock.specs.Held.{LockId}
use Rattle.hist_lock.proofs.Fronts.{prefix_trans}
use Rattle.site_core.specs.Asked.{Asked}
use Rattle.site_core.specs.Meaning.{Meaning}
use Rattle.site_core.specs.Events.{Event}
use Rattle.site_core.specs.Legal.{Legal}
use Rattle.site_core.specs.Fits.{Listed, named}
use Rattle.site_core.specs.Runs.{Hand, is_hand_of, times_in, RiseFrom, picked, all_named, Runs, EachRuns, Continues}
use Rattle.site_core.specs.declared.reply.ReplyOf.{ReplyOf}
use Rattle.shared_site.specs.Shows.{Terms, Shared}
use Rattle.shared_site.specs.Known.{Known, held, first_pass, AreTheOthers}
use Rattle.work_pool.specs.Seats.{ClaimsId, Claimant, Draws}
use Rattle.site_batch.specs.declared.answered.Answered.{Answered}
use Rattle.site_core.specs.Each.{Each}
use Rattle.site_batch.specs.Answers.{indexes, AreAll, AreOrdered}
use Rattle.site_batch.specs.Shares.{Share, seen_by, IsIdle, IsNew, is_author, pass_weight, seat_weight, AreShares}
use Rattle.site_batch.specs.Gathered.{Out, kept, shown, all_answers, IsOf, AreGathered, AreWorked}
use Rattle.site_batch.specs.Work.{replies_of, RiseWithin, HasAnswered, HasWorked}
use Rattle.site_core.proofs.Running.{times_named, runs_under}
use Rattle.site_core.proofs.Each.{each_map, each_front, each_back}
use Rattle.site_batch.proofs.Slots.{indexes-append}

rise_from : (low high : ℕ) (xs : List ℕ) → RiseWithin low high xs → RiseFrom low xs
rise_from low high [] rise = tt
rise_from low high (x ∷ xs) rise = (rise.0, rise_from (x + 1) high xs rise.1)

module _ {C F : Type 0} where
  total_replies : (f : ReplyOf C F → ℕ) (answers : List (Answered (ReplyOf C F))) →
      total f (replies_of answers) ≡ total (λ a. f a.reply) answers
  total_replies f [] = refl
  total_replies f (a ∷ answers) = let rest = total_replies f answers in omega (arith, rest)

  -- the replies at the places of these answers are theirs
  picked_replies : (replies : List (ReplyOf C F)) (answers : List (Answered (ReplyOf C F))) →
      Each (λ a. slice_get replies a.index ≡ Some a.reply) answers → picked replies (indexes answers) ≡ replies_of answers
  picked_replies replies [] each = refl
  picked_replies replies (a ∷ answers) each =
      ap (λ o. cons_option o (picked replies (indexes answers))) each.0
      ∙ ap (λ l. a.reply ∷ l) (picked_replies replies answers each.1)

-- a first worker has a share
no_shares : {P : Type 0} (base workers : ℕ) → 1 ≤ workers → 0 + below base base ≡ below (base + workers) base → P
no_shares base workers some are =
    let none = below_no base base (omega arith) in
    let one = below_yes (base + workers) base (omega (arith, some)) in absurd (omega (arith, none, one, are))

-- the hands of workers that came back
hands_of : {S T : Type 0} → List (Out S T) → List Hand
hands_of [] = []
hands_of (out ∷ outs) = record { author = out.pass.author; places = out.seat.numbers } ∷ hands_of outs

module _ {S : Type 0} where
  -- what the first pass has seen is the history that it was made with
  pub first_seen : (id : LockId) (s : Shared S) (pass : Known S) → pass ≡ first_pass id s →
      pass ≡ first_pass id (seen_by pass)
  first_seen id s pass is = is ∙ ap (λ p. first_pass id (seen_by p)) (sym is)

  pub idle_all : (id : LockId) (s : Shared S) (workers : ℕ) (claims : ClaimsId)
      (shares : List (Share S)) → AreShares id s claims workers shares → Each (IsIdle id claims) shares
  idle_all id s workers claims shares are =
      each_map (IsNew id s claims) (IsIdle id claims)
      (λ share new. (new.site_is, new.claims_are, new.idle)) shares are.new

module _ {S C F : Type 0} (meaning : Meaning S C F) (listed : Listed S) (requests : List (Asked S)) where
  -- whoever kept its answers did this
  done_with : (share : Share S) (q : Known S) (b : Claimant) (answers : Option (Vec (Answered (ReplyOf C F)) Global)) →
      HasWorked meaning listed requests share.0 share.1 q b (shown answers) → IsSome answers →
      HasAnswered meaning listed requests share.0 q share.1 b (kept answers) × (b.claims.count ≤ b.known)
  done_with share q b None worked some = absurd (cc some)
  done_with share q b (Some answers) worked some = worked

  done_of : (share : Share S) (out : Out S (ReplyOf C F)) →
      HasWorked meaning listed requests share.0 share.1 out.pass out.seat (shown out.answers) → IsSome out.answers →
      HasAnswered meaning listed requests share.0 out.pass share.1 out.seat (kept out.answers) × (out.seat.claims.count ≤ out.seat.known)
  done_of share out worked some = done_with share out.pass out.seat out.answers worked some

  is_with : (id : LockId) (s : Shared S) (claims : ClaimsId) (share : Share S) (q : Known S)
      (b : Claimant) (answers : Option (Vec (Answered (ReplyOf C F)) Global)) → IsNew id s claims share →
      HasWorked meaning listed requests share.0 share.1 q b (shown answers) →
      (q.site ≡ id) × (q.terms ≡ s.terms) × (b.claims ≡ claims)
  is_with id s claims share q b None new worked =
      (worked.0 ∙ new.site_is, worked.1 ∙ new.terms_is, worked.2 ∙ new.claims_are)
  is_with id s claims share q b (Some answers) new worked =
      (worked.0.later.site ∙ new.site_is, worked.0.later.terms ∙ new.terms_is, worked.0.seat.claims ∙ new.claims_are)

  is_of : (id : LockId) (s : Shared S) (claims : ClaimsId) (share : Share S)
      (out : Out S (ReplyOf C F)) → IsNew id s claims share →
      HasWorked meaning listed requests share.0 share.1 out.pass out.seat (shown out.answers) →
      (out.pass.site ≡ id) × (out.pass.terms ≡ s.terms) × (out.seat.claims ≡ claims)
  is_of id s claims share out new worked =
      is_with id s claims share out.pass out.seat out.answers new worked

  pub are_of : (id : LockId) (s : Shared S) (claims : ClaimsId) (shares : List (Share S))
      (outs : List (Out S (ReplyOf C F))) → Each (IsNew id s claims) shares →
      AreWorked meaning listed requests shares outs →
      Each (IsOf id claims) outs × Each (λ out. out.pass.terms ≡ s.terms) outs
  are_of id s claims [] [] new worked = (tt, tt)
  are_of id s claims [] (out ∷ outs) new worked = absurd worked
  are_of id s claims (share ∷ shares) [] new worked = absurd worked
  are_of id s claims (share ∷ shares) (out ∷ outs) new worked =
      let first = is_of id s claims share out new.0 worked.0 in
      let rest = are_of id s claims shares outs new.1 worked.1 in
      (((first.0, first.2), rest.0), (first.1, rest.1))

  -- what passes and seats account for stays
  weights : (shares : List (Share S)) (outs : List (Out S (ReplyOf C F))) → AreWorked meaning listed requests shares outs →
      Each (λ out. IsSome out.answers) outs →
      (total (λ out. out.pass.room + held out.pass) outs ≡ total pass_weight shares)
      × (total (λ out. out.seat.room + out.seat.held) outs ≡ total seat_weight shares)
  weights [] [] worked some = (refl, refl)
  weights [] (out ∷ outs) worked some = absurd worked
  weights (share ∷ shares) [] worked some = absurd worked
  weights (share ∷ shares) (out ∷ outs) worked some =
      let done = done_of share out worked.0 some.0 in let rest = weights shares outs worked.1 some.1 in
      let room = done.0.later.room in let size = ap length done.0.later.numbers in
      (omega (arith, rest.0, room, size), omega (arith, rest.1, done.0.seat.room, done.0.seat.held))

  -- what the entries of all outs are, by the replies
  owned : (id : LockId) (s : Shared S) (claims : ClaimsId) (shares : List (Share S))
      (outs : List (Out S (ReplyOf C F))) → Each (IsNew id s claims) shares →
      AreWorked meaning listed requests shares outs → Each (λ out. IsSome out.answers) outs → (k : ℕ) →
      total (λ out. times k out.pass.own) outs ≡ total (λ a. times k (named a.reply)) (all_answers outs)
  owned id s claims [] [] new worked some k = refl
  owned id s claims [] (out ∷ outs) new worked some k = absurd worked
  owned id s claims (share ∷ shares) [] new worked some k = absurd worked
  owned id s claims (share ∷ shares) (out ∷ outs) new worked some k =
      let done = done_of share out worked.0 some.0 in
      let rest = owned id s claims shares outs new.1 worked.1 some.1 k in
      let own : times k out.pass.own ≡ times k (all_named (replies_of (kept out.answers))) =
      ap (times k) (done.0.own ∙ ap (λ l. l ++ all_named (replies_of (kept out.answers))) new.0.own) in
      let names = times_named k (replies_of (kept out.answers)) in
      let replies = total_replies (λ r. times k (named r)) (kept out.answers) in
      let sum = total-append (λ a. times k (named a.reply)) (all_answers outs) (kept out.answers) in
      omega (arith, rest, own, names, replies, sum)

  drawn_of : (shares : List (Share S)) (outs : List (Out S (ReplyOf C F))) → AreWorked meaning listed requests shares outs →
      Each (λ out. IsSome out.answers) outs → (k : ℕ) →
      total (λ out. times k out.seat.numbers) outs ≡ times k (indexes (all_answers outs))
  drawn_of [] [] worked some k = refl
  drawn_of [] (out ∷ outs) worked some k = absurd worked
  drawn_of (share ∷ shares) [] worked some k = absurd worked
  drawn_of (share ∷ shares) (out ∷ outs) worked some k =
      let done = done_of share out worked.0 some.0 in let rest = drawn_of shares outs worked.1 some.1 k in
      let here = ap (times k) done.0.drawn in
      let sum = indexes-append (all_answers outs) (kept out.answers) k in
      omega (arith, rest, here, sum)

  -- each number was drawn, since each worker went on until none was left
  knows : (share : Share S) (shares : List (Share S)) (out : Out S (ReplyOf C F)) (outs : List (Out S (ReplyOf C F)))
      (seat : Claimant) → AreWorked meaning listed requests (share ∷ shares) (out ∷ outs) → IsSome out.answers →
      Each (λ o. o.seat.known ≤ seat.known) (out ∷ outs) → out.seat.claims.count ≤ seat.known
  knows share shares out outs seat worked some known =
      let done = done_of share out worked.0 some in omega (arith, done.1, known.0)

  authors_of : (shares : List (Share S)) (outs : List (Out S (ReplyOf C F))) → AreWorked meaning listed requests shares outs →
      Each (λ out. IsSome out.answers) outs → (a : ℕ) → total (is_hand_of a) (hands_of outs) ≡ total (is_author a) shares
  unfolding hands_of
  authors_of [] [] worked some a = refl
  authors_of [] (out ∷ outs) worked some a = absurd worked
  authors_of (share ∷ shares) [] worked some a = absurd worked
  authors_of (share ∷ shares) (out ∷ outs) worked some a =
      let done = done_of share out worked.0 some.0 in let rest = authors_of shares outs worked.1 some.1 a in
      let here : same a out.pass.author ≡ same a share.0.author = ap (same a) done.0.later.author in
      omega (arith, rest, here)

  places_of : (outs : List (Out S (ReplyOf C F))) (place : ℕ) →
      total (times_in place) (hands_of outs) ≡ total (λ out. times place out.seat.numbers) outs
  unfolding hands_of
  places_of [] place = refl
  places_of (out ∷ outs) place = let rest = places_of outs place in omega (arith, rest)

  -- each worker's replies run under the whole history
  runs_of : (h front : List (Event S)) (replies : List (ReplyOf C F)) (id : LockId) (s : Shared S) (claims : ClaimsId)
      (shares : List (Share S)) (outs : List (Out S (ReplyOf C F))) →
      Each (IsNew id s claims) shares → AreWorked meaning listed requests shares outs →
      Each (λ out. IsSome out.answers) outs → Each (λ out. IsPrefix out.pass.front front) outs → IsPrefix front h →
      length h ≤ s.terms.limit → Each (λ a. slice_get replies a.index ≡ Some a.reply) (all_answers outs) →
      EachRuns meaning listed h s.terms.limit s.terms.given requests replies (hands_of outs)
  unfolding hands_of
  runs_of h front replies id s claims [] [] new worked some fronts begins few at = tt
  runs_of h front replies id s claims [] (out ∷ outs) new worked some fronts begins few at = absurd worked
  runs_of h front replies id s claims (share ∷ shares) [] new worked some fronts begins few at = absurd worked
  runs_of h front replies id s claims (share ∷ shares) (out ∷ outs) new worked some fronts begins few at =
      let done = done_of share out worked.0 some.0 in
      let terms : out.pass.terms ≡ s.terms = done.0.later.terms ∙ new.0.terms_is in
      let mine = each_back (λ a. slice_get replies a.index ≡ Some a.reply) (all_answers outs) (kept out.answers) at in
      let run = runs_under meaning listed out.pass.front h s.terms.limit out.pass.author s.terms.given
      (picked requests (indexes (kept out.answers))) (replies_of (kept out.answers))
      (prefix_trans out.pass.front front h fronts.0 begins) few
      (subst (λ (t : Terms). Runs meaning listed out.pass.front t.limit out.pass.author t.given
      (picked requests (indexes (kept out.answers))) (replies_of (kept out.answers))) terms done.0.run) in (
        rise_from 0 out.seat.known out.seat.numbers done.0.rising,
        subst (λ l. Runs meaning listed h s.terms.limit out.pass.author s.terms.given (picked requests l)
            (picked replies l)) (sym done.0.drawn)
            (subst (λ l. Runs meaning listed h s.terms.limit out.pass.author s.terms.given
            (picked requests (indexes (kept out.answers))) l) (sym (picked_replies replies (kept out.answers) mine)) run),
        runs_of h front replies id s claims shares outs new.1 worked.1 some.1 fronts.1 begins few
            (each_front (λ a. slice_get replies a.index ≡ Some a.reply) (all_answers outs) (kept out.answers) at),
      )

  -- there is a first worker
  first_front : (id : LockId) (s : Shared S) (workers : ℕ) (claims : ClaimsId) (shares : List (Share S))
      (outs : List (Out S (ReplyOf C F))) (front : List (Event S)) → AreShares id s claims workers shares →
      1 ≤ workers → AreWorked meaning listed requests shares outs → Each (λ out. IsSome out.answers) outs →
      Each (λ out. IsPrefix out.pass.front front) outs → IsPrefix s.history front
  first_front id s workers claims [] outs front are some worked kept_all fronts =
      no_shares s.terms.base workers some (are.authors s.terms.base)
  first_front id s workers claims (share ∷ shares) [] front are some worked kept_all fronts = absurd worked
  first_front id s workers claims (share ∷ shares) (out ∷ outs) front are some worked kept_all fronts =
      let done = done_of share out worked.0 kept_all.0 in
      prefix_trans s.history share.0.front front are.new.0.begins
      (prefix_trans share.0.front out.pass.front front done.0.later.front fronts.0)

  -- the seats found that no number is left
  pub all_known : (id : LockId) (s : Shared S) (workers : ℕ) (claims : ClaimsId) (shares : List (Share S))
      (outs : List (Out S (ReplyOf C F))) (pass : Known S) (seat : Claimant) (answers : List (Answered (ReplyOf C F))) →
      AreShares id s claims workers shares → 1 ≤ workers → AreWorked meaning listed requests shares outs →
      AreGathered outs pass seat answers → claims.count ≤ seat.known
  all_known id s workers claims [] outs pass seat answers are some worked gathered =
      no_shares s.terms.base workers some (are.authors s.terms.base)
  all_known id s workers claims (share ∷ shares) [] pass seat answers are some worked gathered = absurd worked
  all_known id s workers claims (share ∷ shares) (out ∷ outs) pass seat answers are some worked gathered =
      let of = is_of id s claims share out are.new.0 worked.0 in
      let is : out.seat.claims.count ≡ claims.count = ap (λ c. c.count) of.2 in
      let low = knows share shares out outs seat worked gathered.kept_all.0 gathered.known in omega (arith, low, is)

  pub all_weights : (id : LockId) (s : Shared S) (workers : ℕ) (claims : ClaimsId)
      (shares : List (Share S)) (outs : List (Out S (ReplyOf C F))) (pass : Known S) (seat : Claimant)
      (answers : List (Answered (ReplyOf C F))) → AreShares id s claims workers shares →
      AreWorked meaning listed requests shares outs → AreGathered outs pass seat answers →
      (pass.room + held pass ≡ 65536) × (seat.room + seat.held ≡ 65536)
  all_weights id s workers claims shares outs pass seat answers are worked gathered =
      let sums = weights shares outs worked gathered.kept_all in
      (omega (arith, gathered.passes, sums.0, are.passes), omega (arith, gathered.seats, sums.1, are.seats))

  -- each request was answered once
  pub all_are : (count : ℕ) (shares : List (Share S)) (outs : List (Out S (ReplyOf C F))) (pass : Known S) (seat : Claimant)
      (answers : List (Answered (ReplyOf C F))) → AreWorked meaning listed requests shares outs →
      AreGathered outs pass seat answers → ((i : ℕ) → times i seat.numbers ≡ below count i) → AreAll count answers
  all_are count shares outs pass seat answers worked gathered drawn i =
      let is : times i (indexes answers) ≡ times i (indexes (all_answers outs)) =
      ap (λ l. times i (indexes l)) gathered.answers_are in
      let sum = drawn_of shares outs worked gathered.kept_all i in
      omega (arith, is, sum, gathered.drawn i, drawn i)

  pub whole : (id : LockId) (s : Shared S) (workers : ℕ) (claims : ClaimsId) (shares : List (Share S))
      (outs : List (Out S (ReplyOf C F))) (pass : Known S) (seat : Claimant) (answers : List (Answered (ReplyOf C F)))
      (replies : List (ReplyOf C F)) (h : List (Event S)) → s.terms.given ≡ length s.history →
      AreShares id s claims workers shares → 1 ≤ workers →
      AreWorked meaning listed requests shares outs → AreGathered outs pass seat answers →
      ((i : ℕ) → times i seat.numbers ≡ below (length requests) i) → AreOrdered (length requests) answers replies →
      Legal meaning h → IsPrefix pass.front h → length h ≤ pass.terms.limit →
      AreTheOthers pass.terms.given pass.own h →
      Continues meaning listed s.terms.limit s.terms.base workers s.history requests replies h
  whole id s workers claims shares outs pass seat answers replies h given are some worked gathered drawn ordered legal
      begins few own =
      let terms : pass.terms ≡ s.terms =
      gathered.terms s.terms (are_of id s claims shares outs are.new worked).1 in
      let within : length h ≤ s.terms.limit = omega (arith, few, ap (λ t. t.limit) terms) in
      let front = first_front id s workers claims shares outs pass.front are some worked gathered.kept_all
      gathered.fronts in
      record {
        legal = legal;
        begins = prefix_trans s.history pass.front h front begins;
        few = within;
        answered = ordered.count_is;
        hands = hands_of outs;
        authors = λ a. let mine = authors_of shares outs worked gathered.kept_all a in
            let all = are.authors a in omega (arith, mine, all);
        shares = λ place. places_of outs place ∙ sym (gathered.drawn place) ∙ drawn place;
        run = subst (λ n. EachRuns meaning listed h s.terms.limit n requests replies (hands_of outs)) given
            (runs_of h pass.front replies id s claims shares outs are.new worked gathered.kept_all
            gathered.fronts begins within
            (subst (Each (λ a. slice_get replies a.index ≡ Some a.reply)) gathered.answers_are ordered.at));
        once = λ entry. let names = times_named entry replies in
            let sum = ordered.sums (λ r. times entry (named r)) in
            let is : total (λ a. times entry (named a.reply)) answers ≡ total (λ a. times entry (named a.reply)) (all_answers outs) =
            ap (total (λ a. times entry (named a.reply))) gathered.answers_are in
            let owns = owned id s claims shares outs are.new worked gathered.kept_all entry in
            let all = own entry in
            let first : below pass.terms.given entry ≡ below (length s.history) entry =
            ap (λ n. below n entry) (ap (λ t. t.given) terms ∙ given) in
            omega (arith, names, sum, is, owns, gathered.own entry, all, first);
      }

-- a seat that stands for all seats, and found that no number is left, has each number once
pub drawn_all : (r : Option ℕ) (p q : Claimant) (claims : ClaimsId) → Draws r p q → p.claims ≡ claims →
    p.room + p.held ≡ 65536 → claims.count ≤ p.known → (i : ℕ) → times i p.numbers ≡ below claims.count i
drawn_all (Some n) p q claims draws is all past i =
    let count : p.claims.count ≡ claims.count = ap (λ c. c.count) is in
    absurd (omega (arith, draws.0, draws.1, past, count))
drawn_all None p q claims draws is all past i = draws.3 all i ∙ ap (λ c. below c.count i) is
