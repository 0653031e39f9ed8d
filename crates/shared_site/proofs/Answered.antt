-- What the turns of a call come to.
use Rattle.std.proofs.Common.{◌≡◌, ℕ, ◌+◌, ◌≤◌, List, [], ◌∷◌, ◌++◌, length, Some, Ok, Err, refl, sym, ap, subst, ◌∙◌, arith, length-append, append-nil}
use Rattle.std.specs.Prelude.{Result, slice_get}
use Rattle.std.specs.Arc.{arc_value}
use Rattle.hist_lock.proofs.Fronts.{prefix_trans, prefix_length, at_end}
use Rattle.pp_values.specs.Datum.{Datum}
use Rattle.pp_values.specs.Views.{view}
use Rattle.res_core.specs.Asked.{Wanted}
use Rattle.res_core.specs.declared.export_set.ExportSet.{ExportSet}
use Rattle.site_core.specs.Additions.{entry_of}
use Rattle.site_core.specs.Asked.{compile, plain}
use Rattle.site_core.specs.Compiling.{IsMeant, IsPublication, IsTold, served_reply, added_reply}
use Rattle.site_core.specs.Events.{Event, publishes, adds, publication, next_entry, calls_of}
use Rattle.site_core.specs.Fits.{Listed, IsFresh, Means, FitsSaid, had_said, named_said, had}
use Rattle.site_core.specs.Legal.{Legal}
use Rattle.site_core.specs.Meaning.{Meaning}
use Rattle.site_core.specs.Said as t
use Rattle.site_core.specs.Said.{Said, said, kind_of, plain_reply}
use Rattle.site_core.specs.Snapshots.{Of}
use Rattle.site_core.specs.declared.addition.Addition.{Addition}
use Rattle.site_core.specs.declared.addition.Addition.TheVariants as v
use Rattle.site_core.specs.declared.done_stop.DoneStop.{DoneStop}
use Rattle.site_core.specs.declared.done_stop.DoneStop.TheVariants as stop
use Rattle.site_core.specs.declared.plain.Plain.{Plain}
use Rattle.site_core.specs.declared.reply.ReplyOf.{ReplyOf}
use Rattle.site_core.specs.declared.reply.ReplyOf.TheVariants as a
use Rattle.site_core.specs.declared.snapshot.Snapshot.{Snapshot}
use Rattle.site_core.proofs.Fitting.{means_grows, said_plain}
use Rattle.shared_site.specs.Known.{Known, IsLater, HasAdded, HasAsked, LeavesSaid, Leaves, IsAnswered, IsGated}

module _ {C F : Type 0} where
  had_within_said : (s seen now : ℕ) (told : Said C F) → s ≤ seen → LeavesSaid seen told now → had_said s told ≤ now
  had_within_said s seen now (t.served entry k catalog) le leaves = omega (arith, leaves)
  had_within_said s seen now (t.refused k fault) le leaves = omega (arith, leaves)
  had_within_said s seen now (t.full n) le leaves = omega (arith, leaves)
  had_within_said s seen now (t.ahead n) le leaves = omega (arith, leaves)
  had_within_said s seen now (t.unknown k) le leaves = omega (arith, leaves)
  had_within_said s seen now (t.added kind entry) le leaves = omega (arith, leaves)
  had_within_said s seen now t.short le leaves = omega (arith, le, leaves)

  -- for callers: after the reply whoever had seen no more than the pass has seen no more than it does now
  pub had_within : (s seen now : ℕ) (reply : ReplyOf C F) → s ≤ seen → Leaves seen reply now → had s reply ≤ now
  had_within s seen now reply le leaves = had_within_said s seen now (said reply) le leaves

module _ {S : Type 0} where
  pub later_trans : (p m q : Known S) → IsLater p m → IsLater m q → IsLater p q
  later_trans p m q first second = record {
    site = second.site ∙ first.site;
    terms = second.terms ∙ first.terms;
    numbers = second.numbers ∙ first.numbers;
    room = second.room ∙ first.room;
    author = second.author ∙ first.author;
    front = prefix_trans p.front m.front q.front first.front second.front;
  }

  later_refl : (p : Known S) → IsLater p p
  later_refl p = record {
    site = refl;
    terms = refl;
    numbers = refl;
    room = refl;
    author = refl;
    front = ([], append-nil p.front);
  }

  -- how many entries stand behind those that were seen, with the one that was added
  with_one : (h all : List (Event S)) (e : Event S) → all ≡ h ++ e ∷ [] → length all ≡ length h + 1
  with_one h all e is = ap length is ∙ length-append h (e ∷ [])

  module _ {C F : Type 0} (meaning : Meaning S C F) (listed : Listed S) where
    -- a compile that has begun: p before it, m at its snapshot
    pub record HasBegun (p m : Known S) (s : Snapshot S) : Type 0 where
      pub later : IsLater p m
      pub own : m.own ≡ p.own
      pub legal : Legal meaning m.front
      pub number : s.k ≡ length m.front
      pub of : Of s m.front

    fresh : (p m q : Known S) (s : Snapshot S) (seen : ℕ) → HasBegun p m s → seen ≤ s.k → IsLater m q →
        IsFresh q.front (length p.front) seen s.k
    fresh p m q s seen begun told second = record {
      had = omega (arith, prefix_length p.front m.front begun.later.front, begun.number);
      told = told;
      low = begun.of.some;
      high = omega (arith, prefix_length m.front q.front second.front, begun.number);
    }

    -- what is meant under the snapshot is meant by the first entries of each later history
    means : (p m q : Known S) (s : Snapshot S) (w : Wanted) (facts : Datum) (answer : Result (C × ExportSet) F) →
        HasBegun p m s → IsLater m q → IsMeant meaning listed w s facts answer →
        Means meaning listed q.front s.k w facts answer
    means p m q s w facts answer begun second is =
        let here : Means meaning listed m.front s.k w facts answer = record {
          site = arc_value s.site;
          site_is = begun.of.site_is;
          facts_are = is.given;
          meant = ap (meaning (arc_value s.site) w.node facts) (sym begun.of.version_is) ∙ is.meant;
        } in
        subst (λ x. Means meaning listed x s.k w facts answer) second.front.1
        (means_grows meaning listed m.front second.front.0 s.k w facts answer begun.of.within here)

    -- nothing is published
    pub told : (p m : Known S) (s : Snapshot S) (w : Wanted) (reply : ReplyOf C F) → HasBegun p m s →
        IsTold meaning listed w s (said reply) → IsAnswered meaning listed (compile w) reply p m
    told p m s w (a.Served entry k catalog) begun is = absurd is
    told p m s w (a.Refused k fault) begun (is, (facts, meant)) =
        subst (λ n. IsAnswered meaning listed (compile w) (a.Refused n fault) p m) (sym is) (record {
          later = begun.later;
          legal = begun.legal;
          fits = (
            fresh p m m s w.seen begun meant.told (later_refl m),
            (facts, means p m m s w facts (Err fault) begun (later_refl m) meant),
          );
          own = begun.own ∙ sym (append-nil p.own);
          leaves = sym begun.number;
        })
    told p m s w (a.HistoryFull n) begun is = absurd is
    told p m s w (a.SeenAhead n) begun (is, ahead) =
        subst (λ n. IsAnswered meaning listed (compile w) (a.SeenAhead n) p m) (sym is) (record {
          later = begun.later;
          legal = begun.legal;
          fits = (
            omega (arith, prefix_length p.front m.front begun.later.front, begun.number),
            omega (arith, begun.number),
            ahead,
          );
          own = begun.own ∙ sym (append-nil p.own);
          leaves = sym begun.number;
        })
    told p m s w (a.UnknownNode k) begun (is, seen, none) =
        subst (λ n. IsAnswered meaning listed (compile w) (a.UnknownNode n) p m) (sym is) (record {
          later = begun.later;
          legal = begun.legal;
          fits = (
            fresh p m m s w.seen begun seen (later_refl m),
            record { site = arc_value s.site; site_is = begun.of.site_is; none = none },
          );
          own = begun.own ∙ sym (append-nil p.own);
          leaves = sym begun.number;
        })
    told p m s w (a.Deactivated entry) begun is = absurd is
    told p m s w (a.Deployed entry) begun is = absurd is
    told p m s w (a.Reported entry) begun is = absurd is
    told p m s w a.Memory begun is = record {
      later = begun.later;
      legal = begun.legal;
      fits = tt;
      own = begun.own ∙ sym (append-nil p.own);
      leaves = prefix_length p.front m.front begun.later.front;
    }

    served : (p m q : Known S) (s : Snapshot S) (w : Wanted) (facts : Datum) (catalog : C) (set : ExportSet)
        (n : ℕ) → HasBegun p m s → IsMeant meaning listed w s facts (Ok (catalog, set)) → IsLater m q →
        Legal meaning q.front → HasAdded (λ h. publication h m.author w.node facts s.k set) n m q →
        IsAnswered meaning listed (compile w) (a.Served n s.k catalog) p q
    served p m q s w facts catalog set n begun meant second legal (h, before, number, front, more) =
        let entry : ℕ → Event S = λ by. publishes (record {
          author = by;
          call = calls_of m.author h;
          node = w.node;
          facts = facts;
          k = s.k;
          set = set;
        }) in
        let grown : length m.front ≤ length h = prefix_length m.front h before in
        let long : length q.front ≡ length h + 1 = with_one h q.front (entry m.author) front in
        record {
          later = later_trans p m q begun.later second;
          legal = legal;
          fits = (
            fresh p m q s w.seen begun meant.told second,
            record {
              later = omega (arith, begun.number, grown, number);
              inside = omega (arith, number, long);
              facts = facts;
              set = set;
              call = calls_of m.author h;
              means = means p m q s w facts (Ok (catalog, set)) begun second meant;
              at =
                  ap (λ x. slice_get x n) front ∙ at_end h (entry m.author) n number
                  ∙ ap (λ by. Some (entry by)) (sym second.author);
            },
          );
          own = more ∙ ap (λ x. x ++ n ∷ []) begun.own;
          leaves = omega (arith, number, long);
        }

    -- what came of the publication
    ended : (p m q : Known S) (s : Snapshot S) (w : Wanted) (facts : Datum) (catalog : C) (set : ExportSet)
        (answer : Result ℕ DoneStop) → HasBegun p m s → IsMeant meaning listed w s facts (Ok (catalog, set)) →
        IsLater m q → Legal meaning q.front →
        HasAsked (λ h. publication h m.author w.node facts s.k set) answer m q →
        IsAnswered meaning listed (compile w) (served_reply s.k catalog answer) p q
    ended p m q s w facts catalog set (Ok n) begun meant second legal added =
        served p m q s w facts catalog set n begun meant second legal added
    ended p m q s w facts catalog set (Err (stop.Full n)) begun meant second legal (same, long, limit) = record {
      later = later_trans p m q begun.later second;
      legal = legal;
      fits = (
        limit,
        sym long ∙ limit,
        (
          s.k,
          facts,
          (catalog, set),
          fresh p m q s w.seen begun meant.told second,
          means p m q s w facts (Ok (catalog, set)) begun second meant,
        ),
      );
      own = same ∙ begun.own ∙ sym (append-nil p.own);
      leaves = sym long;
    }
    ended p m q s w facts catalog set (Err stop.Memory) begun meant second legal same =
        let later : IsLater p q = later_trans p m q begun.later second in
        record {
          later = later;
          legal = legal;
          fits = tt;
          own = same ∙ begun.own ∙ sym (append-nil p.own);
          leaves = prefix_length p.front q.front later.front;
        }

    -- the catalog is there, and its publication was to be added
    pub published : (p m q : Known S) (s : Snapshot S) (w : Wanted) (catalog : C) (addition : Addition S)
        (answer : Result ℕ DoneStop) → HasBegun p m s → IsPublication meaning listed w s catalog addition →
        IsLater m q → Legal meaning q.front → HasAsked (entry_of addition m.author) answer m q →
        IsAnswered meaning listed (compile w) (served_reply s.k catalog answer) p q
    published p m q s w catalog (v.Publication node facts snapshot set) answer begun (is, named, shape, meant) second
        legal asked =
        let same : (node, snapshot.k) ≡ (w.node, s.k) = λ i. (named i, ap (λ x. x.k) is i) in
        ended p m q s w (view facts) catalog set answer begun meant second legal
        (subst (λ (x : List ℕ × ℕ). HasAsked (λ h. publication h m.author x.0 (view facts) x.1 set) answer m q) same
        asked)
    published p m q s w catalog (v.Plain what) answer begun is second legal asked = absurd is

    -- a plain entry was to be added
    pub plain_ended : (p q : Known S) (one : Plain S) (answer : Result ℕ DoneStop) → IsLater p q →
        Legal meaning q.front → HasAsked (λ h. next_entry h p.author one) answer p q →
        IsAnswered meaning listed (plain one) (added_reply (kind_of one) answer) p q
    plain_ended p q one (Ok n) later legal (h, before, number, front, more) =
        let entry : ℕ → Event S = λ by. adds by (calls_of p.author h) one in
        let grown : length p.front ≤ length h = prefix_length p.front h before in
        let long : length q.front ≡ length h + 1 = with_one h q.front (entry p.author) front in
        let is : said (plain_reply (kind_of one) n) ≡ t.added (kind_of one) n = said_plain (kind_of one) n in
        record {
          later = later;
          legal = legal;
          fits = subst (FitsSaid meaning listed q.front q.terms.limit q.author (length p.front) (plain one)) (sym is) (
            refl,
            omega (arith, grown, number),
            record {
              inside = omega (arith, number, long);
              call = calls_of p.author h;
              at =
                  ap (λ x. slice_get x n) front ∙ at_end h (entry p.author) n number
                  ∙ ap (λ by. Some (entry by)) (sym later.author);
            },
          );
          own = more ∙ ap (λ x. p.own ++ named_said x) (sym is);
          leaves = subst (λ x. LeavesSaid (length p.front) x (length q.front)) (sym is) (omega (arith, number, long));
        }
    plain_ended p q one (Err (stop.Full n)) later legal (same, long, limit) = record {
      later = later;
      legal = legal;
      fits = (limit, sym long ∙ limit);
      own = same ∙ sym (append-nil p.own);
      leaves = sym long;
    }
    plain_ended p q one (Err stop.Memory) later legal same = record {
      later = later;
      legal = legal;
      fits = tt;
      own = same ∙ sym (append-nil p.own);
      leaves = prefix_length p.front q.front later.front;
    }

-- whatever the reply is
pub gated : {C F : Type 0} (Passed : Type 0) (reply : ReplyOf C F) → Passed → IsGated Passed reply
gated Passed (a.Served entry k catalog) passed = passed
gated Passed (a.Refused k fault) passed = passed
gated Passed (a.HistoryFull length) passed = passed
gated Passed (a.SeenAhead length) passed = tt
gated Passed (a.UnknownNode k) passed = tt
gated Passed (a.Deactivated entry) passed = tt
gated Passed (a.Deployed entry) passed = tt
gated Passed (a.Reported entry) passed = tt
gated Passed a.Memory passed = tt
