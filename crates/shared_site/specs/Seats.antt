-- What a pass of the lock says of its site.
use Rattle.std.specs.Prelude.{ℕ, ◌≡◌, ◌+◌, List, length, false, map}
use Rattle.hist_lock.specs.Held.{Held, Noted}
use Rattle.site_core.specs.Meaning.{Meaning}
use Rattle.shared_site.specs.Shows.{Shown, events_in, terms_in, shown, told, Lasts}
use Rattle.shared_site.specs.Known.{Known, Told}

module _ {S : Type 0} where
  abbrev pub known : Held (Shown S) → Known S
  known p = record {
    site = p.lock;
    terms = terms_in p.front;
    front = events_in p.front;
    own = p.calls;
    numbers = map (λ n. (terms_in p.front).base + n) p.numbers;
    room = p.room;
    author = (terms_in p.front).base + p.author;
  }

  abbrev pub noted : Noted (Shown S) → Told S
  noted n = record { site = n.lock; terms = terms_in n.front; front = events_in n.front }

  -- a front is a shared history of some moment
  pub record IsFront {C F : Type 0} (meaning : Meaning S C F) (front : List (Shown S)) : Type 0 where
    pub lasts : Lasts meaning (told front)
    pub shown_is : front ≡ shown (told front)

  -- between two calls no turn is held, and what the pass has seen is counted
  pub record IsReady {C F : Type 0} (meaning : Meaning S C F) (p : Held (Shown S)) (count author : ℕ) : Type 0 where
    pub idle : p.turn ≡ false
    pub seen : IsFront meaning p.front
    pub count_is : count ≡ length p.front
    pub author_is : author ≡ (terms_in p.front).base + p.author

  pub record IsHeard {C F : Type 0} (meaning : Meaning S C F) (n : Noted (Shown S)) (count : ℕ) : Type 0 where
    pub seen : IsFront meaning n.front
    pub count_is : count ≡ length n.front
