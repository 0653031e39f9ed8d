-- What contracts see of passes that are split, meet and are joined.
use Rattle.std.proofs.Common.{◌≡◌, ℕ, ◌+◌, ◌-◌, max, List, [], ◌∷◌, ◌++◌, map, length, sym, ap, subst, ◌∙◌, arith}
use Rattle.std.proofs.lemmas.List.{map-append}
use mathlib.Core.List.{IsPrefix}
use mathlib.Core.Logic.{dite}
use native.Mathlib.Decide.{dec_le}
use Rattle.hist_lock.specs.Calls.{IsLonger}
use Rattle.hist_lock.specs.Held.{Held, taking, splitting, split_off, meeting, joining}
use Rattle.site_core.specs.Meaning.{Meaning}
use Rattle.shared_site.specs.Shows.{Shared, Shown, shown, events_in, terms_in, Lasts}
use Rattle.shared_site.specs.Known.{cut, cut_off, seeing, joined_to}
use Rattle.shared_site.specs.Seats.{known, IsFront, IsReady}
use Rattle.shared_site.proofs.Calls.{longer_terms}
use Rattle.shared_site.proofs.Turns.{some_seen, found, Looked}

module _ {S C F : Type 0} (meaning : Meaning S C F) where
  longer_front : (xs ys now : List (Shown S)) → IsFront meaning xs → IsFront meaning ys → IsLonger xs ys now →
      IsFront meaning now
  longer_front xs ys now one other longer = dite (dec_le (length ys) (length xs))
      (λ le. subst (IsFront meaning) (sym (longer.0 le).0) one)
      (λ not_le. subst (IsFront meaning) (sym (longer.1 (omega (arith, not_le))).0) other)

  both_terms : (xs ys now : List (Shown S)) → IsFront meaning xs → IsFront meaning ys → IsLonger xs ys now →
      (terms_in now ≡ terms_in xs) × (terms_in now ≡ terms_in ys)
  both_terms xs ys now one other longer =
      longer_terms xs ys now (some_seen meaning xs one) (some_seen meaning ys other) longer

  longer_count : (xs ys now : List (Shown S)) (m n : ℕ) → IsLonger xs ys now → m ≡ length xs → n ≡ length ys →
      max m n ≡ length now
  longer_count xs ys now m n longer one other = dite (dec_le (length ys) (length xs))
      (λ le. let is = ap length (longer.0 le).0 in omega (arith, is, le, one, other))
      (λ not_le. let is = ap length (longer.1 (omega (arith, not_le))).0 in omega (arith, is, not_le, one, other))

  -- a pass that met what another one or a note had seen
  pub met_ready : (p q : Held (Shown S)) (other : List (Shown S)) (m n a count : ℕ) → IsReady meaning p m a →
      IsFront meaning other → n ≡ length other → q.turn ≡ p.turn → q.author ≡ p.author →
      IsLonger p.front other q.front → count ≡ max m n → IsReady meaning q count a
  met_ready p q other m n a count ready seen long turn author longer is = record {
    idle = turn ∙ ready.idle;
    seen = longer_front p.front other q.front ready.seen seen longer;
    count_is = is ∙ longer_count p.front other q.front m n longer ready.count_is long;
    author_is = ready.author_is
        ∙ ap (λ t. t.base + p.author) (sym (both_terms p.front other q.front ready.seen seen longer).0)
        ∙ ap (λ x. (terms_in q.front).base + x) (sym author);
  }

  pub met_known : (p : Held (Shown S)) (other now : List (Shown S)) → IsFront meaning p.front → IsFront meaning other →
      IsLonger p.front other now → known (meeting p now) ≡ seeing (known p) (events_in now)
  met_known p other now one seen longer i =
      let terms = (both_terms p.front other now one seen longer).0 in record {
        site = p.lock;
        terms = terms i;
        front = events_in now;
        own = p.calls;
        numbers = map (λ n. (terms i).base + n) p.numbers;
        room = p.room;
        author = (terms i).base + p.author;
      }

  pub joined_known : (p q : Held (Shown S)) (now : List (Shown S)) → IsFront meaning p.front → IsFront meaning q.front →
      IsLonger p.front q.front now → known (joining p q now) ≡ joined_to (known p) (known q) (events_in now)
  joined_known p q now one other longer =
      let both = both_terms p.front q.front now one other longer in
      let numbers : map (λ n. (terms_in now).base + n) (p.numbers ++ q.numbers)
      ≡ map (λ n. (terms_in p.front).base + n) p.numbers ++ map (λ n. (terms_in q.front).base + n) q.numbers =
      map-append (λ n. (terms_in now).base + n) p.numbers q.numbers
      ∙ ap (λ t. map (λ n. t.base + n) p.numbers ++ map (λ n. (terms_in now).base + n) q.numbers) both.0
      ∙ ap (λ t. map (λ n. (terms_in p.front).base + n) p.numbers ++ map (λ n. t.base + n) q.numbers) both.1 in
      λ i. record {
        site = p.lock;
        terms = both.0 i;
        front = events_in now;
        own = p.calls ++ q.calls;
        numbers = numbers i;
        room = p.room + q.room;
        author = (both.0 i).base + p.author;
      }

  -- a pass from which one was split
  pub cut_known : (p q : Held (Shown S)) (n a : ℕ) (s : Shared S) → Looked meaning (splitting p) q n a s →
      known q ≡ cut (known p) (events_in q.front)
  cut_known p q n a s l i = record {
    site = l.later.site i;
    terms = l.later.terms i;
    front = events_in q.front;
    own = l.own i;
    numbers = l.later.numbers i;
    room = l.later.room i;
    author = l.later.author i;
  }

  -- and the new one
  pub cut_off_known : (p t r : Held (Shown S)) (m a : ℕ) (s : Shared S) → IsReady meaning p m a →
      IsPrefix p.front (shown s) → Lasts meaning s → t ≡ taking p (shown s) → r ≡ split_off t →
      terms_in (shown s) ≡ s.terms → known r ≡ cut_off (known p) (events_in (shown s))
  cut_off_known p t r m a s ready before lasts taken is told =
      let off : r ≡ split_off (taking p (shown s)) = is ∙ ap split_off taken in
      let terms : terms_in (shown s) ≡ terms_in p.front = told ∙ sym (found meaning p m a s ready before).terms in
      ap known off ∙ (λ i. record {
        site = p.lock;
        terms = terms i;
        front = events_in (shown s);
        own = [];
        numbers = ((terms i).base + (65536 - p.room)) ∷ [];
        room = 0;
        author = (terms i).base + (65536 - p.room);
      })
