-- What a request comes to that is answered over a core.
use Rattle.std.proofs.Common.{◌≡◌, ℕ, ◌≤◌, ◌<◌, inl, inr, List, [], ◌∷◌, ◌++◌, length, Option, None, Some, Ok, Err, refl, sym, ap, subst, ◌∙◌, arith, lt-ltb, le-ltb}
use Rattle.std.specs.Prelude.{Result, OnOk, OnErr}
use Rattle.std.specs.Arc.{arc_value}
use Rattle.pp_values.specs.Datum.{Datum}
use Rattle.pp_values.specs.Views.{view}
use Rattle.res_core.specs.Asked.{Wanted}
use Rattle.res_core.specs.declared.export_set.ExportSet.{ExportSet}
use Rattle.site_core.specs.Additions.{entry_of}
use Rattle.site_core.specs.Answers.{Stops}
use Rattle.site_core.specs.Asked.{compile, plain}
use Rattle.site_core.specs.Compiling.{IsMeant, IsPublication, IsTold, served_reply, added_reply}
use Rattle.site_core.specs.Core.{Core, with_event}
use Rattle.site_core.specs.Events.{Event, publication, next_entry}
use Rattle.site_core.specs.Fits.{Listed, facts_for}
use Rattle.site_core.specs.Meaning.{Meaning}
use Rattle.site_core.specs.Said.{said, kind_of, plain_reply}
use Rattle.site_core.specs.Sets.{sets_at, site_at}
use Rattle.site_core.specs.Snapshots.{Of}
use Rattle.site_core.specs.declared.addition.Addition.{Addition}
use Rattle.site_core.specs.declared.addition.Addition.TheVariants as v
use Rattle.site_core.specs.declared.done_stop.DoneStop.{DoneStop}
use Rattle.site_core.specs.declared.done_stop.DoneStop.TheVariants as stop
use Rattle.site_core.specs.declared.plain.Plain.{Plain}
use Rattle.site_core.specs.declared.reply.ReplyOf.{ReplyOf}
use Rattle.site_core.specs.declared.reply.ReplyOf.TheVariants as a
use Rattle.site_core.specs.declared.snapshot.Snapshot.{Snapshot}
use Rattle.site_sequence.specs.Sequence.{turn, turn_meant, turn_known, turn_for, Takes}
use Rattle.site_sequence.specs.declared.sequence.TheConstants.{AUTHOR}

module _ {S C F : Type 0} (meaning : Meaning S C F) (listed : Listed S) (limit : ℕ) where
  -- the turn of a request that knows of no more entries than there are
  pub turn_of : (h : List (Event S)) (w : Wanted) (site : S) (facts : Option Datum) → w.seen ≤ length h →
      site_at h (length h) ≡ Some site → facts_for listed site w ≡ facts →
      turn_for meaning listed limit h (compile w) ≡ Some (turn_known meaning listed limit h site w.node facts)
  turn_of h w site facts seen at given = rw (le-ltb (length h) w.seen seen, at, given) refl

  -- the turn of a request that knows of more
  pub turn_ahead : (h : List (Event S)) (w : Wanted) (n : ℕ) → length h < w.seen → n ≡ length h →
      turn_for meaning listed limit h (compile w) ≡ Some (turn (a.SeenAhead n) h)
  turn_ahead h w n ahead is =
      rw (lt-ltb (length h) w.seen ahead) (ap (λ m. Some (turn (a.SeenAhead m) h)) (sym is))

  -- the turns of a compile that is meant so
  pub turn_refused : (h : List (Event S)) (w : Wanted) (site : S) (facts : Datum) (fault : F) (k : ℕ) →
      w.seen ≤ length h → site_at h (length h) ≡ Some site → facts_for listed site w ≡ Some facts →
      meaning site w.node facts (sets_at h (length h)) ≡ Err fault → k ≡ length h →
      turn_for meaning listed limit h (compile w) ≡ Some (turn (a.Refused k fault) h)
  turn_refused h w site facts fault k seen at given meant is =
      turn_of h w site (Some facts) seen at given ∙ ap (λ m. Some (turn_meant limit h w.node facts m)) meant
      ∙ ap (λ n. Some (turn (a.Refused n fault) h)) (sym is)

  pub turn_served : (h after : List (Event S)) (w : Wanted) (site : S) (facts : Datum) (catalog : C) (set : ExportSet)
      (entry k : ℕ) → w.seen ≤ length h → site_at h (length h) ≡ Some site → facts_for listed site w ≡ Some facts →
      meaning site w.node facts (sets_at h (length h)) ≡ Ok (catalog, set) → length h < limit → entry ≡ length h →
      k ≡ length h → after ≡ h ++ publication h AUTHOR w.node facts (length h) set ∷ [] →
      turn_for meaning listed limit h (compile w) ≡ Some (turn (a.Served entry k catalog) after)
  turn_served h after w site facts catalog set entry k seen at given meant room entry_is k_is after_is =
      turn_of h w site (Some facts) seen at given ∙ ap (λ m. Some (turn_meant limit h w.node facts m)) meant
      ∙ rw (lt-ltb (length h) limit room)
      (λ i. Some (turn (a.Served (sym entry_is i) (sym k_is i) catalog) (sym after_is i)))

  pub turn_full : (h : List (Event S)) (w : Wanted) (site : S) (facts : Datum) (made : C × ExportSet) (n : ℕ) →
      w.seen ≤ length h → site_at h (length h) ≡ Some site → facts_for listed site w ≡ Some facts →
      meaning site w.node facts (sets_at h (length h)) ≡ Ok made → limit ≤ length h → n ≡ length h →
      turn_for meaning listed limit h (compile w) ≡ Some (turn (a.HistoryFull n) h)
  turn_full h w site facts made n seen at given meant past is =
      turn_of h w site (Some facts) seen at given ∙ ap (λ m. Some (turn_meant limit h w.node facts m)) meant
      ∙ rw (le-ltb (length h) limit past) (ap (λ m. Some (turn (a.HistoryFull m) h)) (sym is))

  pub turn_unknown : (h : List (Event S)) (w : Wanted) (site : S) (k : ℕ) →
      w.seen ≤ length h → site_at h (length h) ≡ Some site → facts_for listed site w ≡ None → k ≡ length h →
      turn_for meaning listed limit h (compile w) ≡ Some (turn (a.UnknownNode k) h)
  turn_unknown h w site k seen at given is =
      turn_of h w site None seen at given ∙ ap (λ n. Some (turn (a.UnknownNode n) h)) (sym is)

  -- the turns of a plain request
  pub turn_plain : (h after : List (Event S)) (one : Plain S) (entry : ℕ) → length h < limit → entry ≡ length h →
      after ≡ h ++ next_entry h AUTHOR one ∷ [] →
      turn_for meaning listed limit h (plain one) ≡ Some (turn (plain_reply (kind_of one) entry) after)
  turn_plain h after one entry room entry_is after_is =
      rw (lt-ltb (length h) limit room)
      (λ i. Some (turn (plain_reply (kind_of one) (sym entry_is i)) (sym after_is i)))

  pub turn_no_room : (h : List (Event S)) (one : Plain S) (n : ℕ) → limit ≤ length h → n ≡ length h →
      turn_for meaning listed limit h (plain one) ≡ Some (turn (a.HistoryFull n) h)
  turn_no_room h one n past is =
      rw (le-ltb (length h) limit past) (ap (λ m. Some (turn (a.HistoryFull m) h)) (sym is))

module _ {S C F : Type 0} (meaning : Meaning S C F) (listed : Listed S) where
  -- what a snapshot of all entries shows
  site_shown : (h : List (Event S)) (s : Snapshot S) → Of s h → s.k ≡ length h →
      site_at h (length h) ≡ Some (arc_value s.site)
  site_shown h s of is = ap (site_at h) (sym is) ∙ of.site_is

  meant_now : (h : List (Event S)) (s : Snapshot S) (w : Wanted) (facts : Datum) (answer : Result (C × ExportSet) F) →
      Of s h → s.k ≡ length h → IsMeant meaning listed w s facts answer →
      meaning (arc_value s.site) w.node facts (sets_at h (length h)) ≡ answer
  meant_now h s w facts answer of is m =
      ap (meaning (arc_value s.site) w.node facts) (ap (sets_at h) (sym is) ∙ sym of.version_is) ∙ m.meant

  -- nothing is published
  pub told : (limit : ℕ) (h : List (Event S)) (s : Snapshot S) (w : Wanted) (reply : ReplyOf C F) → Of s h →
      s.k ≡ length h → IsTold meaning listed w s (said reply) → Takes meaning listed limit h (compile w) reply h
  told limit h s w (a.Served entry k catalog) of is why = absurd why
  told limit h s w (a.Refused k fault) of is (k_is, (facts, m)) =
      inl (turn_refused meaning listed limit h w (arc_value s.site) facts fault k (omega (arith, is, m.told))
      (site_shown h s of is) m.given (meant_now h s w facts (Err fault) of is m) (k_is ∙ is))
  told limit h s w (a.HistoryFull n) of is why = absurd why
  told limit h s w (a.SeenAhead n) of is (n_is, ahead) =
      inl (turn_ahead meaning listed limit h w n (omega (arith, is, ahead)) (n_is ∙ is))
  told limit h s w (a.UnknownNode k) of is (k_is, seen, none) =
      inl (turn_unknown meaning listed limit h w (arc_value s.site) k (omega (arith, is, seen)) (site_shown h s of is)
      none (k_is ∙ is))
  told limit h s w (a.Deactivated entry) of is why = absurd why
  told limit h s w (a.Deployed entry) of is why = absurd why
  told limit h s w (a.Reported entry) of is why = absurd why
  told limit h s w a.Memory of is why = inr (refl, refl)

  -- what came of the publication
  ended : (old new : Core S) (s : Snapshot S) (w : Wanted) (facts : Datum) (catalog : C) (set : ExportSet)
      (answer : Result ℕ DoneStop) → Of s old.history → s.k ≡ length old.history →
      IsMeant meaning listed w s facts (Ok (catalog, set)) → Stops old answer →
      OnOk answer (new ≡ with_event old (publication old.history AUTHOR w.node facts s.k set)) →
      OnErr answer (new ≡ old) →
      Takes meaning listed old.limit old.history (compile w) (served_reply s.k catalog answer) new.history
  ended old new s w facts catalog set (Ok n) of is m (room, n_is) ok err =
      let h = old.history in
      inl (turn_served meaning listed old.limit h new.history w (arc_value s.site) facts catalog set n s.k
      (omega (arith, is, m.told)) (site_shown h s of is) m.given (meant_now h s w facts (Ok (catalog, set)) of is m)
      room n_is is
      (ap (λ c. c.history) ok ∙ ap (λ k. h ++ publication h AUTHOR w.node facts k set ∷ []) is))
  ended old new s w facts catalog set (Err (stop.Full n)) of is m (full, n_is) ok err =
      let h = old.history in
      inl (turn_full meaning listed old.limit h w (arc_value s.site) facts (catalog, set) n
      (omega (arith, is, m.told)) (site_shown h s of is) m.given (meant_now h s w facts (Ok (catalog, set)) of is m)
      (omega (arith, full)) n_is
      ∙ ap (λ after. Some (turn (a.HistoryFull n) after)) (sym (ap (λ c. c.history) err)))
  ended old new s w facts catalog set (Err stop.Memory) of is m room ok err = inr (refl, ap (λ c. c.history) err)

  -- the catalog is there, and its publication was to be added
  pub published : (old new : Core S) (s : Snapshot S) (w : Wanted) (catalog : C) (addition : Addition S)
      (answer : Result ℕ DoneStop) → Of s old.history → s.k ≡ length old.history →
      IsPublication meaning listed w s catalog addition → Stops old answer →
      OnOk answer (new ≡ with_event old (entry_of addition AUTHOR old.history)) → OnErr answer (new ≡ old) →
      Takes meaning listed old.limit old.history (compile w) (served_reply s.k catalog answer) new.history
  published old new s w catalog (v.Publication node facts snapshot set) answer of is (same, named, shape, m) stops ok
      err =
      let both : (node, snapshot.k) ≡ (w.node, s.k) = λ i. (named i, ap (λ x. x.k) same i) in
      ended old new s w (view facts) catalog set answer of is m stops
      (subst (λ (x : List ℕ × ℕ).
      OnOk answer (new ≡ with_event old (publication old.history AUTHOR x.0 (view facts) x.1 set))) both ok) err
  published old new s w catalog (v.Plain what) answer of is none stops ok err = absurd none

  -- a plain entry was to be added
  pub added : (old new : Core S) (one : Plain S) (answer : Result ℕ DoneStop) → Stops old answer →
      OnOk answer (new ≡ with_event old (next_entry old.history AUTHOR one)) → OnErr answer (new ≡ old) →
      Takes meaning listed old.limit old.history (plain one) (added_reply {C = C} {F = F} (kind_of one) answer) new.history
  added old new one (Ok n) (room, n_is) ok err =
      inl (turn_plain meaning listed old.limit old.history new.history one n room n_is (ap (λ c. c.history) ok))
  added old new one (Err (stop.Full n)) (full, n_is) ok err =
      inl (turn_no_room meaning listed old.limit old.history one n (omega (arith, full)) n_is
      ∙ ap (λ after. Some (turn (a.HistoryFull n) after)) (sym (ap (λ c. c.history) err)))
  added old new one (Err stop.Memory) room ok err = inr (refl, ap (λ c. c.history) err)

pub limit_stays : {S : Type 0} (old new : Core S) (e : Event S) (answer : Result ℕ DoneStop) →
    OnOk answer (new ≡ with_event old e) → OnErr answer (new ≡ old) → new.limit ≡ old.limit
limit_stays old new e (Ok n) ok err = ap (λ c. c.limit) ok
limit_stays old new e (Err why) ok err = ap (λ c. c.limit) err
