-- What a turn makes of a pass.
use Rattle.std.proofs.Common.{◌≡◌, ℕ, ◌+◌, ◌≤◌, List, [], ◌∷◌, ◌++◌, map, length, Some, Ok, Err, refl, sym, ap, subst, ◌∙◌, arith}
use Rattle.std.specs.Prelude.{Result, OnOk, OnErr, false}
use mathlib.Core.List.{IsPrefix}
use Rattle.hist_lock.specs.Held.{Held, LockId, first_pass as lock_pass, taking, giving_back, adding, splitting, split_off}
use Rattle.site_core.specs.Meaning.{Meaning}
use Rattle.site_core.specs.Events.{Event, author_of}
use Rattle.site_core.specs.Legal.{Legal}
use Rattle.site_core.specs.Snapshots.{Of}
use Rattle.site_core.specs.Core.{Core, with_event}
use Rattle.site_core.specs.Answers.{Stops}
use Rattle.site_core.specs.declared.done_stop.DoneStop.{DoneStop}
use Rattle.site_core.specs.declared.done_stop.DoneStop.TheVariants as stop
use Rattle.site_core.proofs.Legal.{some_entry}
use Rattle.site_core.proofs.Growing.{stays}
use Rattle.site_core.specs.declared.addition.Addition.{Addition}
use Rattle.site_core.specs.declared.addition.Addition.TheVariants as v
use Rattle.site_core.specs.Additions.{entry_of, MayAdd}
use Rattle.shared_site.specs.Shows.{Terms, Shared, Shown, counted_from, core_of, with_entry, mark, shown, events_in, terms_in, told, author_shown, IsParted, Lasts}
use Rattle.shared_site.specs.Known.{Known, first_pass, IsLater, HasAsked}
use Rattle.shared_site.specs.Seats.{known, IsFront, IsReady}
use Rattle.shared_site.proofs.Parted.{counted_own, parted_push}
use Rattle.shared_site.proofs.Shown.{told_shown, length_shown, shown_with, Begins, begins, prefix_more}

module _ {S C F : Type 0} (meaning : Meaning S C F) where
  -- each front has an entry
  pub some_seen : (front : List (Shown S)) → IsFront meaning front → 1 ≤ length (events_in front)
  some_seen front is = some_entry meaning (events_in front) is.lasts.sound.legal

  -- what a pass had seen begins the history that its turn found
  pub found : (p : Held (Shown S)) (m a : ℕ) (s : Shared S) → IsReady meaning p m a → IsPrefix p.front (shown s) →
      Begins p.front s
  found p m a s ready before = begins p.front s (some_seen p.front ready.seen) before

  told_of : (front : List (Shown S)) (s : Shared S) → Lasts meaning s → front ≡ shown s → told front ≡ s
  told_of front s lasts is = ap told is ∙ told_shown s (some_entry meaning s.history lasts.sound.legal)

  -- the list that a turn found is a front
  pub front_of : (front : List (Shown S)) (s : Shared S) → Lasts meaning s → front ≡ shown s → IsFront meaning front
  front_of front s lasts is = let all : told front ≡ s = told_of front s lasts is in record {
    lasts = subst (Lasts meaning) (sym all) lasts;
    shown_is = is ∙ ap shown (sym all);
  }

  -- a pass without the turn that sees just this
  pub sees : (q : Held (Shown S)) (n a : ℕ) (s : Shared S) → Lasts meaning s → n ≡ length s.history →
      a ≡ s.terms.base + q.author → q.front ≡ shown s → q.turn ≡ false → IsReady meaning q n a
  sees q n a s lasts count author front idle = record {
    idle = idle;
    seen = front_of q.front s lasts front;
    count_is = count ∙ sym (length_shown s) ∙ sym (ap length front);
    author_is = author ∙ ap (λ t. t.base + q.author) (sym (ap (λ x. x.terms) (told_of q.front s lasts front)));
  }

  -- after a turn that changed nothing
  pub record Looked (p q : Held (Shown S)) (n a : ℕ) (s : Shared S) : Type 0 where
    pub ready : IsReady meaning q n a
    pub later : IsLater (known p) (known q)
    pub front : events_in q.front ≡ s.history
    pub own : q.calls ≡ p.calls

  -- the numbers and the author of a pass whose terms are these
  named : (p q : Held (Shown S)) → terms_in q.front ≡ terms_in p.front → q.numbers ≡ p.numbers → q.author ≡ p.author →
      ((known q).numbers ≡ (known p).numbers) × ((known q).author ≡ (known p).author)
  named p q terms numbers author = (
    ap (λ t. map (λ n. t.base + n) q.numbers) terms ∙ ap (map (λ n. (terms_in p.front).base + n)) numbers,
    ap (λ t. t.base + q.author) terms ∙ ap (λ n. (terms_in p.front).base + n) author,
  )

  pub looked : (p t q : Held (Shown S)) (m n a : ℕ) (s : Shared S) → IsReady meaning p m a → Lasts meaning s →
      n ≡ length s.history → t ≡ taking p (shown s) → q ≡ giving_back t → IsPrefix p.front (shown s) →
      Looked p q n a s
  looked p t q m n a s ready lasts count taken given before =
      let is : q ≡ giving_back (taking p (shown s)) = given ∙ ap giving_back taken in
      let front : q.front ≡ shown s = ap (λ x. x.front) is in
      let all : told q.front ≡ s = told_of q.front s lasts front in
      let seen : Begins p.front s = found p m a s ready before in
      let terms : terms_in q.front ≡ terms_in p.front = ap (λ x. x.terms) all ∙ sym seen.terms in
      let author : q.author ≡ p.author = ap (λ x. x.author) is in
      let names = named p q terms (ap (λ x. x.numbers) is) author in
      record {
        ready = sees q n a s lasts count (ready.author_is ∙ ap (λ t. t.base + p.author) seen.terms
            ∙ ap (λ x. s.terms.base + x) (sym author)) front (ap (λ x. x.turn) is);
        later = record {
          site = ap (λ x. x.lock) is;
          terms = terms;
          numbers = names.0;
          room = ap (λ x. x.room) is;
          author = names.1;
          front = subst (IsPrefix (events_in p.front)) (sym (ap (λ x. x.history) all)) seen.events;
        };
        front = ap (λ x. x.history) all;
        own = ap (λ x. x.calls) is;
      }

  -- after a turn in which another pass was split from this one
  pub parted : (p t t' q : Held (Shown S)) (m n a : ℕ) (s : Shared S) → IsReady meaning p m a → Lasts meaning s →
      n ≡ length s.history → t ≡ taking p (shown s) → t' ≡ splitting t → q ≡ giving_back t' →
      IsPrefix p.front (shown s) → Looked (splitting p) q n a s
  parted p t t' q m n a s ready lasts count taken split given before =
      looked (splitting p) t' q m n a s
      (record {
        idle = ready.idle;
        seen = ready.seen;
        count_is = ready.count_is;
        author_is = ready.author_is;
      })
      lasts count (split ∙ ap splitting taken) given before

  pub part_ready : (p t r : Held (Shown S)) (n a : ℕ) (s : Shared S) → Lasts meaning s → n ≡ length s.history →
      t ≡ taking p (shown s) → r ≡ split_off t → a ≡ s.terms.base + r.author → IsReady meaning r n a
  part_ready p t r n a s lasts count taken is author =
      let off : r ≡ split_off (taking p (shown s)) = is ∙ ap split_off taken in
      sees r n a s lasts count author (ap (λ x. x.front) off) (ap (λ x. x.turn) off)

  -- after a turn in which an entry was to be added
  pub record Appended (entry : List (Event S) → Event S) (result : Result ℕ DoneStop)
      (p : Known S) (q : Held (Shown S)) (n a : ℕ) : Type 0 where
    pub ready : IsReady meaning q n a
    pub later : IsLater p (known q)
    pub legal : Legal meaning (events_in q.front)
    pub asked : HasAsked entry result p (known q)

  added : (p t q : Held (Shown S)) (m n a number : ℕ) (s s' : Shared S) (entry : List (Event S) → Event S) →
      IsReady meaning p m a → Lasts meaning s' → n ≡ length s'.history → t ≡ taking p (shown s) →
      q ≡ adding t (shown s') → s' ≡ with_entry s (entry s.history) → number ≡ length s.history →
      IsPrefix p.front (shown s) → Appended entry (Ok number) (known p) q n a
  added p t q m n a number s s' entry ready lasts count taken given more place before =
      let is : q ≡ adding (taking p (shown s)) (shown s') = given ∙ ap (λ x. adding x (shown s')) taken in
      let front : q.front ≡ shown s' = ap (λ x. x.front) is in
      let all : told q.front ≡ with_entry s (entry s.history) = told_of q.front s' lasts front ∙ more in
      let seen : Begins p.front s = found p m a s ready before in
      let terms : terms_in q.front ≡ terms_in p.front = ap (λ x. x.terms) all ∙ sym seen.terms in
      let author : q.author ≡ p.author = ap (λ x. x.author) is in
      let names = named p q terms (ap (λ x. x.numbers) is) author in
      let ready' : IsReady meaning q n a = sees q n a s' lasts count
      (ready.author_is ∙ ap (λ t. t.base + p.author) (seen.terms ∙ sym (ap (λ x. x.terms) more))
      ∙ ap (λ x. s'.terms.base + x) (sym author)) front (ap (λ x. x.turn) is) in
      record {
        ready = ready';
        later = record {
          site = ap (λ x. x.lock) is;
          terms = terms;
          numbers = names.0;
          room = ap (λ x. x.room) is;
          author = names.1;
          front = subst (IsPrefix (events_in p.front)) (sym (ap (λ x. x.history) all))
              (prefix_more (events_in p.front) s.history (entry s.history ∷ []) seen.events);
        };
        legal = ready'.seen.lasts.sound.legal;
        asked = (
          s.history,
          seen.events,
          place,
          ap (λ x. x.history) all,
          ap (λ x. x.calls) is ∙ ap (λ k. p.calls ++ k ∷ []) (length_shown s ∙ sym place),
        );
      }

  stopped : (p q : Held (Shown S)) (n a : ℕ) (s : Shared S) (entry : List (Event S) → Event S) (why : DoneStop) →
      Looked p q n a s → terms_in q.front ≡ s.terms → Stops (core_of s) (Err why) →
      HasAsked entry (Err why) (known p) (known q)
  stopped p q n a s entry (stop.Full length_) l terms (full, is) =
      (l.own, is ∙ sym (ap length l.front), is ∙ full ∙ sym (ap (λ t. t.limit) terms))
  stopped p q n a s entry stop.Memory l terms room = l.own

  refused : (p t q : Held (Shown S)) (m n a : ℕ) (s s' : Shared S) (entry : List (Event S) → Event S) (why : DoneStop) →
      IsReady meaning p m a → Lasts meaning s' → n ≡ length s'.history → t ≡ taking p (shown s) →
      q ≡ giving_back t → s' ≡ s → Stops (core_of s) (Err why) → IsPrefix p.front (shown s) →
      Appended entry (Err why) (known p) q n a
  refused p t q m n a s s' entry why ready lasts count taken given same stops before =
      let lasts' : Lasts meaning s = subst (Lasts meaning) same lasts in
      let l : Looked p q n a s =
      looked p t q m n a s ready lasts' (count ∙ ap (λ x. length x.history) same) taken given before in
      let front : q.front ≡ shown s = ap (λ x. x.front) (given ∙ ap giving_back taken) in
      record {
        ready = l.ready;
        later = l.later;
        legal = l.ready.seen.lasts.sound.legal;
        asked = stopped p q n a s entry why l (ap (λ x. x.terms) (told_of q.front s lasts' front)) stops;
      }

  -- the same of what contracts see of the pass
  pub has_added : (was : Known S) (p t q : Held (Shown S)) (m n a number author : ℕ) (s s' : Shared S)
      (addition : Addition S) → known p ≡ was → author ≡ was.author →
      IsReady meaning p m a → Lasts meaning s' → n ≡ length s'.history → t ≡ taking p (shown s) →
      q ≡ adding t (shown s') → s' ≡ with_entry s (entry_of addition author s.history) →
      Stops (core_of s) (Ok number) → IsPrefix p.front (shown s) →
      Appended (entry_of addition was.author) (Ok number) was q n a
  has_added was p t q m n a number author s s' addition view mine ready lasts count taken given more place before =
      subst (λ by. Appended (entry_of addition by) (Ok number) was q n a) mine
      (subst (λ w. Appended (entry_of addition author) (Ok number) w q n a) view
      (added p t q m n a number s s' (entry_of addition author) ready lasts count taken given more place.1 before))

  pub has_refused : (was : Known S) (p t q : Held (Shown S)) (m n a : ℕ) (s s' : Shared S) (why : DoneStop)
      (entry : List (Event S) → Event S) → known p ≡ was →
      IsReady meaning p m a → Lasts meaning s' → n ≡ length s'.history → t ≡ taking p (shown s) →
      q ≡ giving_back t → s' ≡ s → Stops (core_of s) (Err why) → IsPrefix p.front (shown s) →
      Appended entry (Err why) was q n a
  has_refused was p t q m n a s s' why entry view ready lasts count taken given same stops before =
      subst (λ w. Appended entry (Err why) w q n a) view
      (refused p t q m n a s s' entry why ready lasts count taken given same stops before)

  -- what could be added to what the pass had seen can be added now
  pub may_add_still : (addition : Addition S) (h now : List (Event S)) → IsPrefix h now → MayAdd meaning addition h →
      MayAdd meaning addition now
  may_add_still (v.Publication node facts snapshot set) h now (rest, is) (shape, of, meant) =
      (shape, subst (Of snapshot) is (stays snapshot h rest of), meant)
  may_add_still (v.Plain what) h now before may = may

  -- the author of the pass is one of the site's own
  pub own_number : (was : Known S) (p : Held (Shown S)) (m a author : ℕ) (s : Shared S) → known p ≡ was →
      author ≡ was.author → IsReady meaning p m a → IsPrefix p.front (shown s) →
      author ≡ s.terms.base + p.author
  own_number was p m a author s view mine ready before =
      mine ∙ ap (λ w. w.author) (sym view) ∙ ap (λ t. t.base + p.author) (found p m a s ready before).terms

module _ {S : Type 0} where
  pub author_of_entry : (addition : Addition S) (author : ℕ) (h : List (Event S)) →
      author_of (entry_of addition author h) ≡ Some author
  author_of_entry (v.Publication node facts snapshot set) author h = refl
  author_of_entry (v.Plain what) author h = refl

  -- the entry that the turn ends with
  pub one_entry : (p t : Held (Shown S)) (s s' : Shared S) (addition : Addition S) (author : ℕ) →
      author ≡ s.terms.base + p.author → t ≡ taking p (shown s) →
      s' ≡ with_entry s (entry_of addition author s.history) →
      (x : Shown S) × (shown s' ≡ t.front ++ x ∷ []) × (author_shown x ≡ Some t.author)
  one_entry p t s s' addition author mine taken more =
      let e : Event S = entry_of addition author s.history in
      let low : s.terms.base ≤ author = omega (arith, mine) in (
        mark s.terms e,
        ap shown more ∙ shown_with s e ∙ ap (λ x. x.front ++ mark s.terms e ∷ []) (sym taken),
        ap (λ a. counted_from s.terms.base a) (author_of_entry addition author s.history)
            ∙ counted_own s.terms.base author low
            ∙ ap Some (omega (arith, mine, ap (λ x. x.author) taken)),
      )

  -- entries of own authors alone come behind those that were given
  pub added_parted : (terms : Terms) (old new : Core S) (addition : Addition S) (author : ℕ)
      (result : Result ℕ DoneStop) → IsParted terms old.history → terms.base ≤ author →
      OnOk result (new ≡ with_event old (entry_of addition author old.history)) → OnErr result (new ≡ old) →
      IsParted terms new.history
  added_parted terms old new addition author (Ok number) parted low ok err =
      subst (λ (core : Core S). IsParted terms core.history) (sym ok)
      (parted_push terms old.history (entry_of addition author old.history) author parted
      (author_of_entry addition author old.history) low)
  added_parted terms old new addition author (Err why) parted low ok err =
      subst (λ (core : Core S). IsParted terms core.history) (sym err) parted

  -- the first pass of the lock is the first pass of the site
  pub first_known : (id : LockId) (s : Shared S) (p : Held (Shown S)) → 1 ≤ length s.history →
      p ≡ lock_pass id (shown s) → known p ≡ first_pass id s
  first_known id s p some is =
      let all = told_shown s some in
      let base : (terms_in (shown s)).base + 0 ≡ s.terms.base = omega (arith, ap (λ x. x.terms.base) all) in
      ap known is ∙ (λ i. record {
        site = id;
        terms = (all i).terms;
        front = (all i).history;
        own = [];
        numbers = (base i) ∷ [];
        room = 65535;
        author = base i;
      })
