-- A door that opened again and again.
use Rattle.std.proofs.Common.{◌≡◌, ℕ, zero, suc, ◌+◌, ◌-◌, ◌≤◌, List, [], ◌∷◌, ◌++◌, map, length, Option, Some, None, refl, sym, ap, ◌∙◌, subst, arith, append_assoc, append-nil}
use mathlib.Core.List.{IsPrefix}
use Rattle.hist_lock.specs.Held.{LockId}
use Rattle.hist_lock.proofs.Fronts.{prefix_trans}
use Rattle.site_io.specs.Stream.{Stream, Rose}
use Rattle.site_io.specs.Net.{Net, Lines, Gives, HasNoMore}
use Rattle.site_io.proofs.Streams.{Rose-after}
use Rattle.site_core.specs.Events.{Event}
use Rattle.shared_site.specs.Shows.{Terms}
use Rattle.shared_site.specs.Known.{Known, held}
use Rattle.work_pool.specs.Supplied.{Supplied}
use Rattle.site_service.specs.declared.service_stop.ServiceStop.{ServiceStop}
use Rattle.site_service.specs.declared.service_stop.ServiceStop.TheVariants as stop
use Rattle.site_service.specs.Doors.{HasOpened, IsIdleSince, HasStopped, Opens}

-- these were given, in order, and are out
abbrev pub Gone : Option Lines → List Stream → Option Lines → Type 0
Gone None given now = now ≡ None
Gone (Some l) given now =
    (rest : List Stream) × (l.waiting ≡ given ++ rest)
    × (now ≡ Some (record { waiting = rest; given = l.given ++ map (λ s. None) given }))

abbrev pub IsWhyHere : ServiceStop → ℕ → ℕ → Net → Net → Type 0
IsWhyHere stop.Counted left came before after = came ≡ left
IsWhyHere stop.Closed left came before after = HasNoMore after.told
IsWhyHere stop.NetFault left came before after = Rose before.faults after.faults

gone_none : (told : Option Lines) → Gone told [] told
gone_none None = refl
gone_none (Some l) = (l.waiting, refl, ap (λ g. Some (record { waiting = l.waiting; given = g })) (sym (append-nil l.given)))

gone_same : (told now : Option Lines) → now ≡ told → Gone told [] now
gone_same told now is = subst (Gone told []) (sym is) (gone_none told)

gone_on : (told mid now : Option Lines) (s : Stream) (given : List Stream) → Gives s told mid → Gone mid given now →
    Gone told (s ∷ given) now
gone_on None mid now s given gives gone = subst (λ m. Gone m given now) gives gone
gone_on (Some l) mid now s given gives gone =
    let more = subst (λ m. Gone m given now) gives.2 gone in (
      more.0,
      gives.1 ∙ ap (λ w. s ∷ w) more.1,
      more.2 ∙ ap (λ g. Some (record { waiting = more.0; given = g }))
          (append_assoc l.given (None ∷ []) (map (λ x. None) given)),
    )

why_on : (why : ServiceStop) (left less came : ℕ) (n mid now : Net) → left ≡ less + 1 → n.faults ≤ mid.faults →
    IsWhyHere why less came mid now → IsWhyHere why left (suc came) n now
why_on stop.Counted left less came n mid now is later here = omega (arith, is, here)
why_on stop.Closed left less came n mid now is later here = here
why_on stop.NetFault left less came n mid now is later here = Rose-after n.faults mid.faults now.faults later here

module _ {S : Type 0} (id : LockId) (terms : Terms) (first : List (Event S)) where
  -- a new pass, of the author that stands c places behind the site's own
  pub record IsNewPass (c : ℕ) (q : Known S) : Type 0 where
    pub site : q.site ≡ id
    pub terms_are : q.terms ≡ terms
    pub own : q.own ≡ []
    pub numbers : q.numbers ≡ (terms.base + c) ∷ []
    pub room : q.room ≡ 0
    pub author : q.author ≡ terms.base + c
    pub front : IsPrefix first q.front

  -- a door's pass, from which that author is split next
  pub record IsDoorAt (c : ℕ) (p : Known S) : Type 0 where
    pub site : p.site ≡ id
    pub terms_are : p.terms ≡ terms
    pub own : p.own ≡ []
    pub front : IsPrefix first p.front
    pub room : p.room + c ≡ 65536
    pub one : held p ≡ 1

  -- a door's pass at the end, which accounts for its own author and all from c on
  pub record IsLast (c : ℕ) (p : Known S) : Type 0 where
    pub site : p.site ≡ id
    pub terms_are : p.terms ≡ terms
    pub own : p.own ≡ []
    pub front : IsPrefix first p.front
    pub weight : p.room + held p + c ≡ 65537

  last_of : (c : ℕ) (p now : Known S) → IsDoorAt c p → IsIdleSince p now → IsLast c now
  last_of c p now door idle = record {
    site = idle.site ∙ door.site;
    terms_are = idle.terms ∙ door.terms_are;
    own = idle.own ∙ door.own;
    front = prefix_trans first p.front now.front door.front idle.front;
    weight = omega (arith, idle.weight, door.room, door.one);
  }

  last_here : (c : ℕ) (p now : Known S) → IsDoorAt c p → now ≡ p → IsLast c now
  last_here c p now door is = subst (IsLast c) (sym is) (record {
    site = door.site;
    terms_are = door.terms_are;
    own = door.own;
    front = door.front;
    weight = omega (arith, door.room, door.one);
  })

  module _ (c left less : ℕ) (p q now : Known S) (n mid : Net) (s : Stream) (door : IsDoorAt c p)
      (opened : HasOpened p n left q s now mid less) where
    seen : IsPrefix first now.front
    seen = prefix_trans first p.front now.front door.front opened.front

    number : p.terms.base + (65536 - p.room) ≡ terms.base + c
    number = let base : p.terms.base ≡ terms.base = ap (λ t. t.base) door.terms_are in omega (arith, base, door.room)

    next_door : IsDoorAt (c + 1) now
    next_door = record {
      site = ap (λ x. x.site) opened.pass_is ∙ door.site;
      terms_are = ap (λ x. x.terms) opened.pass_is ∙ door.terms_are;
      own = ap (λ x. x.own) opened.pass_is ∙ door.own;
      front = seen;
      room = let is : now.room ≡ p.room - 1 = ap (λ x. x.room) opened.pass_is in omega (arith, is, opened.room, door.room);
      one = ap (λ x. length x.numbers) opened.pass_is ∙ door.one;
    }

    new_pass : IsNewPass c q
    new_pass = record {
      site = ap (λ x. x.site) opened.new_is ∙ door.site;
      terms_are = ap (λ x. x.terms) opened.new_is ∙ door.terms_are;
      own = ap (λ x. x.own) opened.new_is;
      numbers = ap (λ x. x.numbers) opened.new_is ∙ ap (λ a. a ∷ []) number;
      room = ap (λ x. x.room) opened.new_is;
      author = ap (λ x. x.author) opened.new_is ∙ number;
      front = subst (λ l. IsPrefix first l) (sym (ap (λ x. x.front) opened.new_is)) seen;
    }

  -- new passes, of the authors from that one on
  abbrev pub AreNew : ℕ → List (Known S × Stream) → Type 0
  AreNew c [] = Unit {0}
  AreNew c (v ∷ visits) = IsNewPass c v.0 × AreNew (c + 1) visits

  module _ {D : Type 0} (pass : D → Known S) (net : D → Net) (left : D → ℕ) (why : D → ServiceStop)
      (gives : D → Option (Known S × Stream) → D → Type 0)
      (opens : (d : D) (v : Option (Known S × Stream)) (e : D) → gives d v e →
      Opens (pass d) (net d) (left d) v (why e) (pass e) (net e) (left e)) where
    pub record IsChained (c : ℕ) (d : D) (visits : List (Known S × Stream)) (e : D) : Type 0 where
      pub new : AreNew c visits
      pub last : IsLast (c + length visits) (pass e)
      pub gone : Gone (net d).told (map (λ v. v.1) visits) (net e).told
      pub later : (net d).faults ≤ (net e).faults
      pub few : length visits ≤ left d
      pub why_is : IsWhyHere (why e) (left d) (length visits) (net d) (net e)

    stopped : (w : ServiceStop) (c : ℕ) (d e : D) → why e ≡ w → IsDoorAt c (pass d) →
        HasStopped w (pass d) (net d) (left d) (pass e) (net e) → IsChained c d [] e
    stopped stop.Counted c d e is door stops = record {
      new = tt;
      last = subst (λ n. IsLast n (pass e)) (omega arith) (last_here c (pass d) (pass e) door stops.1);
      gone = gone_same (net d).told (net e).told (ap (λ n. n.told) stops.2);
      later = let same : (net e).faults ≡ (net d).faults = ap (λ n. n.faults) stops.2 in omega (arith, same);
      few = omega arith;
      why_is = subst (λ w. IsWhyHere w (left d) 0 (net d) (net e)) (sym is) (sym stops.0);
    }
    stopped stop.Closed c d e is door stops = record {
      new = tt;
      last = subst (λ n. IsLast n (pass e)) (omega arith) (last_of c (pass d) (pass e) door stops.0);
      gone = gone_same (net d).told (net e).told stops.1.told;
      later = stops.1.later;
      few = omega arith;
      why_is = subst (λ w. IsWhyHere w (left d) 0 (net d) (net e)) (sym is)
          (subst HasNoMore (sym stops.1.told) stops.2);
    }
    stopped stop.NetFault c d e is door stops = record {
      new = tt;
      last = subst (λ n. IsLast n (pass e)) (omega arith) (last_of c (pass d) (pass e) door stops.0);
      gone = gone_same (net d).told (net e).told stops.1.told;
      later = stops.1.later;
      few = omega arith;
      why_is = subst (λ w. IsWhyHere w (left d) 0 (net d) (net e)) (sym is) stops.2;
    }

    pub chained : (most c : ℕ) (d : D) (visits : List (Known S × Stream)) (e : D) → left d ≡ most →
        why d ≡ stop.Counted → IsDoorAt c (pass d) → Supplied gives most d visits e → IsChained c d visits e
    chained zero c d [] e all counted door supplied =
        stopped stop.Counted c d e (ap why supplied ∙ counted) door (all, ap pass supplied, ap net supplied)
    chained zero c d (v ∷ visits) e all counted door supplied = absurd supplied
    chained (suc most) c d [] e all counted door supplied = stopped (why e) c d e refl door (opens d None e supplied)
    chained (suc most) c d (v ∷ visits) e all counted door supplied =
        let mid = supplied.0 in let step = opens d (Some v) mid supplied.1 in let opened = step.0 in
        let door' = next_door c (left d) (left mid) (pass d) v.0 (pass mid) (net d) (net mid) v.1 door opened in
        let rest = chained most (c + 1) mid visits e (omega (arith, opened.left_is, all)) step.1 door' supplied.2 in
        record {
          new = (new_pass c (left d) (left mid) (pass d) v.0 (pass mid) (net d) (net mid) v.1 door opened, rest.new);
          last = subst (λ n. IsLast n (pass e)) (omega arith) rest.last;
          gone = gone_on (net d).told (net mid).told (net e).told v.1 (map (λ x. x.1) visits) opened.came.told rest.gone;
          later = omega (arith, opened.came.later, rest.later);
          few = omega (arith, opened.left_is, rest.few);
          why_is = why_on (why e) (left d) (left mid) (length visits) (net d) (net mid) (net e) opened.left_is
              opened.came.later rest.why_is;
        }
