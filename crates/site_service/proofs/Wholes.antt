-- A door that was served, and what is made of its passes and connections.
use Rattle.std.proofs.Common.{◌≡◌, ◌⊎◌, inl, inr, ℕ, ◌+◌, ◌≤◌, ◌<◌, List, [], ◌∷◌, ◌++◌, map, length, Option, Some, None, IfSome, option_map, refl, sym, ap, ◌∙◌, subst, arith}
use Rattle.std.specs.List.{AllZip}
use mathlib.Core.List.{IsPrefix}
use Rattle.hist_lock.specs.Held.{LockId}
use Rattle.hist_lock.proofs.Fronts.{prefix_self}
use Rattle.site_io.specs.Stream.{Stream, Rose}
use Rattle.site_io.specs.Net.{Net, Lines, IsSameNet, HasBound, renewed, HasNoMore}
use Rattle.site_io.proofs.Streams.{Rose-after, Rose-before}
use Rattle.site_core.specs.Each.{Each}
use Rattle.site_core.specs.Meaning.{Meaning}
use Rattle.site_core.specs.Events.{Event, author_of}
use Rattle.site_core.specs.Legal.{Legal}
use Rattle.site_core.specs.Resuming.{base_of, past_author}
use Rattle.site_core.specs.Fits.{Listed}
use Rattle.shared_site.specs.Shows.{Shared, opened, resumed}
use Rattle.shared_site.specs.Known.{Known, held, first_pass, AreTheOthers}
use Rattle.work_pool.specs.Supplied.{HasRun}
use Rattle.site_serve.specs.declared.conn_end.ConnEnd.{ConnEnd}
use Rattle.site_serve.specs.Ends.{Dialect}
use Rattle.site_service.specs.declared.door.Door.{Door}
use Rattle.site_service.specs.declared.service_stop.ServiceStop.{ServiceStop}
use Rattle.site_service.specs.declared.service_stop.ServiceStop.TheVariants as stop
use Rattle.site_service.specs.Doors.{IsOpening, AreEarlier, Opens}
use Rattle.site_service.specs.Visits.{HasVisited}
use Rattle.site_service.specs.Served.{Taken, IsNewNet, IsWhy, Tells, HasServedAll}
use Rattle.site_service.specs.Handing.{Out, HasJoined, is_out, AreOut, is_back, AreBack}
use Rattle.site_service.proofs.Handing.{none_joined}
use Rattle.site_service.proofs.Chains.{IsDoorAt, IsLast, IsWhyHere, Gone, IsChained, chained}
use Rattle.site_service.proofs.Closing as closing
use Rattle.site_service.proofs.Closing.{taken_of, taken_are, all_served}

module _ {S C F X : Type 0} (meaning : Meaning S C F) (listed : Listed S) (d : Dialect S C F) (stream : X → Stream) where
  abbrev pub Visits : (Known S × Stream) → Out S X → Type 0
  Visits v o = HasVisited meaning listed d v.0 v.1 o.end o.pass (stream o.connection)

  same_count : (vs : List (Known S × Stream)) (outs : List (Out S X)) → AllZip Visits vs outs → length outs ≡ length vs
  same_count [] [] all = refl
  same_count [] (o ∷ outs) all = absurd all
  same_count (v ∷ vs) [] all = absurd all
  same_count (v ∷ vs) (o ∷ outs) all = let rest = same_count vs outs all.1 in omega (arith, rest)

  -- what a listener has out
  out_alike : (vs : List (Known S × Stream)) (outs : List (Out S X)) → AllZip Visits vs outs →
      map (λ (s : Stream). None) (map (λ v. v.1) vs) ≡ map is_out outs
  out_alike [] [] came = refl
  out_alike [] (o ∷ outs) came = absurd came
  out_alike (v ∷ vs) [] came = absurd came
  out_alike (v ∷ vs) (o ∷ outs) came = ap (λ l. None ∷ l) (out_alike vs outs came.1)

  all_out : (told mid : Option Lines) (vs : List (Known S × Stream)) (outs : List (Out S X)) → IsNewNet told →
      Gone told (map (λ v. v.1) vs) mid → AllZip Visits vs outs → AreOut mid outs
  all_out None mid vs outs new gone came = subst (λ m. AreOut m outs) (sym gone) tt
  all_out (Some l) mid vs outs new gone came = subst (λ m. AreOut m outs) (sym gone.2)
      (ap (λ g. g ++ map (λ s. None) (map (λ v. v.1) vs)) new ∙ out_alike vs outs came)

module _ {L N G S C F X : Type 0} (meaning : Meaning S C F) (listed : Listed S) (d : Dialect S C F) (id : LockId)
    (net_of : N → Net) (stream : X → Stream) where
  abbrev pub Opened : Door L N G S C F → Option (Known S × Stream) → Door L N G S C F → Type 0
  Opened p job q = (q.net.ghost_name ≡ p.net.ghost_name)
      × Opens p.pass (net_of p.net.now) p.left job q.stop q.pass (net_of q.net.now) q.left

  module _ (count : ℕ) (p q : Door L N G S C F) (outs : List (Out S X))
      (run : HasRun Opened (Visits meaning listed d stream) count p outs q) (opening : IsOpening id p.pass)
      (left_is : p.left ≡ count) (stop_is : p.stop ≡ stop.Counted) where
    first_door : IsDoorAt id p.pass.terms p.pass.front 1 p.pass
    first_door = subst (IsDoorAt id p.pass.terms p.pass.front 1) (sym opening.pass_is) (record {
      site = refl;
      terms_are = refl;
      own = refl;
      front = prefix_self p.pass.front;
      room = omega arith;
      one = refl;
    })

    chain : IsChained id p.pass.terms p.pass.front (λ (x : Door L N G S C F). x.pass) (λ x. net_of x.net.now)
        (λ x. x.left) (λ x. x.stop) Opened (λ d v e given. given.1) 1 p run.jobs q
    chain = chained id p.pass.terms p.pass.front (λ (x : Door L N G S C F). x.pass) (λ x. net_of x.net.now)
        (λ x. x.left) (λ x. x.stop) Opened (λ d v e given. given.1) count 1 p run.jobs q left_is stop_is first_door
        run.supplied

    pub site_is : q.pass.site ≡ id
    site_is = chain.last.site

    pub of_all : Each (λ (o : Out S X). o.pass.site ≡ id) outs
    of_all = closing.of_site meaning listed d id p.pass.terms p.pass.front stream 1 run.jobs outs chain.new
        run.kept

    pub few : length outs ≤ count
    few = let same = same_count meaning listed d stream run.jobs outs run.kept in omega (arith, same, chain.few, left_is)

    pub out : IsNewNet (net_of p.net.now).told → AreOut (net_of q.net.now).told outs
    out new = all_out meaning listed d stream (net_of p.net.now).told (net_of q.net.now).told run.jobs outs new chain.gone
        run.kept

    pub may_close : (r : Known S) → HasJoined q.pass outs r → (r.site ≡ id) × (r.room + held r ≡ 65536)
    may_close r joined = closing.may_close meaning listed d id p.pass.terms p.pass.front stream run.jobs outs
        q.pass r chain.new run.kept chain.last joined

    module _ (after : Net) (h : List (Event S)) where
      abbrev served_ones : List Taken
      served_ones = taken_of meaning listed d id p.pass.terms p.pass.front stream h run.jobs outs

      why_all : (w : ServiceStop) → IsWhyHere w count (length run.jobs) (net_of p.net.now) (net_of q.net.now) →
          (net_of q.net.now).faults ≤ after.faults → AreBack stream (net_of q.net.now).told outs after.told →
          IsWhy w count served_ones (net_of p.net.now) after
      why_all stop.Counted why later back =
          (taken_are meaning listed d id p.pass.terms p.pass.front stream h run.jobs outs run.kept).3 ∙ why
      why_all stop.Closed why later back = still (net_of q.net.now).told after.told why back
        where
          still : (mid now : Option Lines) → HasNoMore mid → AreBack stream mid outs now → HasNoMore now
          still None now none is = absurd none
          still (Some l) now none is = subst HasNoMore (sym is) none
      why_all stop.NetFault why later back =
          Rose-before (net_of p.net.now).faults (net_of q.net.now).faults after.faults why later

      tells_all : (told mid now : Option Lines) → Gone told (map (λ v. v.1) run.jobs) mid →
          AreBack stream mid outs now → Tells told served_ones now
      tells_all None mid now gone back = subst (λ m. AreBack stream m outs now) gone back
      tells_all (Some l) mid now gone back =
          let are = taken_are meaning listed d id p.pass.terms p.pass.front stream h run.jobs outs run.kept in (
            record { waiting = gone.0; given = map (is_back stream) outs },
            subst (λ m. AreBack stream m outs now) gone.2 back,
            (gone.1 ∙ ap (λ ss. ss ++ gone.0) (sym are.0), inl (sym are.2)),
          )

      pub served : (r : Known S) (ends : List ConnEnd) → IsNewNet (net_of p.net.now).told → HasJoined q.pass outs r →
          AreBack stream (net_of q.net.now).told outs after.told → (net_of q.net.now).faults ≤ after.faults →
          ends ≡ map (λ o. o.end) outs → Legal meaning h → IsPrefix r.front h → length h ≤ r.terms.limit →
          AreTheOthers r.terms.given r.own h →
          HasServedAll meaning listed d p.pass.terms.limit p.pass.terms.base p.pass.front count (net_of p.net.now) after ends q.stop h
      served r ends new joined back later ends_are legal begins within others =
          all_served meaning listed d id p.pass.terms p.pass.front stream h count (net_of p.net.now) after q.stop
          run.jobs outs q.pass r ends opening.earlier chain.new run.kept chain.last opening.given joined
          (omega (arith, chain.few, left_is)) ends_are
          (why_all q.stop (subst (λ n. IsWhyHere q.stop n (length run.jobs) (net_of p.net.now) (net_of q.net.now)) left_is
          chain.why_is) later back)
          (tells_all (net_of p.net.now).told (net_of q.net.now).told after.told chain.gone back)
          (omega (arith, chain.later, later)) legal begins within others

-- the first pass of a site that was opened
pub opening_of : {S : Type 0} (id : LockId) (p : Known S) (site : S) (limit : ℕ) → p ≡ first_pass id (opened site limit) →
    IsOpening id p
opening_of id p site limit is = subst (IsOpening id) (sym is) (record { pass_is = refl; given = refl; earlier = (tt, tt) })

-- every author of a history is below its base
below_base : {S : Type 0} (base : ℕ) (h : List (Event S)) → base_of h ≤ base → AreEarlier base h
below_base base [] le = tt
below_base base (e ∷ h) le =
    (below_past (author_of e) (omega (arith, le)), below_base base h (omega (arith, le)))
  where
    below_past : (who : Option ℕ) → past_author who ≤ base → IfSome who (λ author. author < base)
    below_past None under = tt
    below_past (Some author) under = omega (arith, under)

-- the first pass of a site that goes on from a history
pub resuming_of : {S : Type 0} (id : LockId) (p : Known S) (h : List (Event S)) (limit : ℕ) →
    p ≡ first_pass id (resumed h limit) → IsOpening id p
resuming_of id p h limit is = subst (IsOpening id) (sym is) (record {
  pass_is = refl;
  given = refl;
  earlier = below_base (base_of h) h (omega arith);
})

pub new_net : (n m : Net) → HasBound n m → IsNewNet m.told
new_net n m bound = subst IsNewNet (sym bound.told) (renewed_new n.told)
  where
    renewed_new : (told : Option Lines) → IsNewNet (option_map renewed told)
    renewed_new None = tt
    renewed_new (Some l) = refl

module _ {S C F : Type 0} (meaning : Meaning S C F) (listed : Listed S) (d : Dialect S C F) where
  -- what the listener told before it began to listen
  told_before : (told mid now : Option Lines) (taken : List Taken) → mid ≡ option_map renewed told → Tells mid taken now →
      Tells told taken now
  told_before None mid now taken is tells = subst (λ m. Tells m taken now) is tells
  told_before (Some l) mid now taken is tells =
      let them = subst (λ m. Tells m taken now) is tells in (them.0, them.1, (them.2.0, back them.2.1))
    where
      back : {given : List (Option Stream)} → (given ≡ map (λ t. Some t.back) taken) ⊎ ((taken ≡ []) × (given ≡ [])) →
          (given ≡ map (λ t. Some t.back) taken) ⊎ ((taken ≡ []) × (given ≡ l.given))
      back (inl is) = inl is
      back (inr none) = inl (none.1 ∙ sym (ap (map (λ t. Some t.back)) none.0))

  why_before : (w : ServiceStop) (count : ℕ) (taken : List Taken) (n m after : Net) → n.faults ≤ m.faults →
      IsWhy w count taken m after → IsWhy w count taken n after
  why_before stop.Counted count taken n m after later why = why
  why_before stop.Closed count taken n m after later why = why
  why_before stop.NetFault count taken n m after later why = Rose-after n.faults m.faults after.faults later why

  -- the same from before the listener began to listen
  pub from_listening : (limit base : ℕ) (first : List (Event S)) (count : ℕ) (n m after : Net) (ends : List ConnEnd)
      (why : ServiceStop) (h : List (Event S)) → HasBound n m →
      HasServedAll meaning listed d limit base first count m after ends why h →
      HasServedAll meaning listed d limit base first count n after ends why h
  from_listening limit base first count n m after ends why h bound all = record {
    legal = all.legal;
    few = all.few;
    taken = all.taken;
    counted = all.counted;
    why_is = why_before why count all.taken n m after bound.later all.why_is;
    each = all.each;
    ends_are = all.ends_are;
    told = told_before n.told m.told after.told all.taken bound.told all.told;
    faults = omega (arith, bound.later, all.faults);
    others = all.others;
    begins = all.begins;
    authors = all.authors;
  }

  -- and where the pass was the first one of this history
  pub from_first : (id : LockId) (p : Known S) (s : Shared S) (count : ℕ) (n after : Net) (ends : List ConnEnd)
      (why : ServiceStop) (h : List (Event S)) → p ≡ first_pass id s →
      HasServedAll meaning listed d p.terms.limit p.terms.base p.front count n after ends why h →
      HasServedAll meaning listed d s.terms.limit s.terms.base s.history count n after ends why h
  from_first id p s count n after ends why h is all =
      subst (λ (x : Known S). HasServedAll meaning listed d x.terms.limit x.terms.base x.front count n after ends why h) is
      all

  last_opening : (id : LockId) (p : Known S) (opening : IsOpening id p) →
      IsLast id p.terms p.front (1 + 0) p
  last_opening id p opening = subst (IsLast id p.terms p.front (1 + 0)) (sym opening.pass_is) (record {
    site = refl;
    terms_are = refl;
    own = refl;
    front = prefix_self p.front;
    weight = omega arith;
  })

  told_unbound : (told now : Option Lines) → now ≡ told → Tells told [] now
  told_unbound None now is = is
  told_unbound (Some l) now is = (l, is, (refl, inr (refl, refl)))

  -- where the listener could not listen, nothing was served
  pub unserved : (id : LockId) (p : Known S) (count : ℕ) (n m : Net) (ends : List ConnEnd) (h : List (Event S)) →
      IsOpening id p → IsSameNet n m → Rose n.faults m.faults → ends ≡ [] → Legal meaning h → IsPrefix p.front h →
      length h ≤ p.terms.limit → AreTheOthers p.terms.given p.own h →
      HasServedAll meaning listed d p.terms.limit p.terms.base p.front count n m ends stop.NetFault h
  unserved id p count n m ends h opening same rose none legal begins within others =
      all_served {X = Stream} meaning listed d id p.terms p.front (λ s. s) h count n m stop.NetFault [] [] p p ends
      opening.earlier tt tt (last_opening id p opening) opening.given (none_joined p) (omega arith) none rose
      (told_unbound n.told m.told same.told) same.later legal begins within others

pub closes_opening : {S : Type 0} (id : LockId) (p : Known S) → IsOpening id p →
    (p.site ≡ id) × (p.room + held p ≡ 65536)
closes_opening id p opening =
    (ap (λ x. x.site) opening.pass_is, ap (λ x. x.room + held x) opening.pass_is)
