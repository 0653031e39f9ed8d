-- What a compile comes to: under its snapshot, and after its end.
use Rattle.std.specs.Prelude.{◌≡◌, ℕ, ◌≤◌, ◌<◌, IsTrue, Some, None, Result, Ok, Err}
use Rattle.std.specs.Arc.{arc_value}
use Rattle.pp_values.specs.Datum.{Datum}
use Rattle.pp_values.specs.Facts.{are_facts}
use Rattle.pp_values.specs.Views.{view}
use Rattle.res_core.specs.Asked.{Wanted}
use Rattle.res_core.specs.declared.export_set.ExportSet.{ExportSet}
use Rattle.site_core.specs.Meaning.{Meaning}
use Rattle.site_core.specs.Fits.{Listed, facts_for}
use Rattle.site_core.specs.Said as t
use Rattle.site_core.specs.Said.{Said, said, plain_reply}
use Rattle.site_core.specs.declared.addition.Addition.{Addition}
use Rattle.site_core.specs.declared.addition.Addition.TheVariants as v
use Rattle.site_core.specs.declared.done_stop.DoneStop.{DoneStop}
use Rattle.site_core.specs.declared.done_stop.DoneStop.TheVariants as stop
use Rattle.site_core.specs.declared.plain.PlainKind.{PlainKind}
use Rattle.site_core.specs.declared.reply.ReplyOf.{ReplyOf}
use Rattle.site_core.specs.declared.reply.ReplyOf.TheVariants as a
use Rattle.site_core.specs.declared.snapshot.Snapshot.{Snapshot}

-- the request knows of no more entries than the snapshot, and has these facts; and this is what the site means for its
-- node
pub record IsMeant {S C F : Type 0} (meaning : Meaning S C F) (listed : Listed S) (w : Wanted) (s : Snapshot S)
    (facts : Datum) (answer : Result (C × ExportSet) F) : Type 0 where
  pub told : w.seen ≤ s.k
  pub given : facts_for listed (arc_value s.site) w ≡ Some facts
  pub meant : meaning (arc_value s.site) w.node facts s.version ≡ answer

module _ {S C F : Type 0} (meaning : Meaning S C F) (listed : Listed S) (w : Wanted) (s : Snapshot S) where
  -- the addition is the publication of what is meant, beside this catalog
  abbrev pub IsPublication : C → Addition S → Type 0
  IsPublication catalog (v.Publication node facts snapshot set) =
      (snapshot ≡ s) × (node ≡ w.node) × IsTrue (are_facts (view facts))
      × IsMeant meaning listed w s (view facts) (Ok (catalog, set))
  IsPublication catalog (v.Plain what) = ⊥

  -- what a compile is told that publishes nothing: the first that holds of more entries heard of than there are, facts
  -- that no one gives, and a fault; or want of memory
  abbrev pub IsTold : Said C F → Type 0
  IsTold (t.served entry k catalog) = ⊥
  IsTold (t.refused k fault) = (k ≡ s.k) × ((facts : Datum) × IsMeant meaning listed w s facts (Err fault))
  IsTold (t.full length) = ⊥
  IsTold (t.ahead length) = (length ≡ s.k) × (s.k < w.seen)
  IsTold (t.unknown k) = (k ≡ s.k) × (w.seen ≤ s.k) × (facts_for listed (arc_value s.site) w ≡ None)
  IsTold (t.added kind entry) = ⊥
  IsTold t.short = Unit {0}

  -- a catalog and the publication beside it, or a reply
  abbrev pub ComesTo : Result (C × Addition S) (ReplyOf C F) → Type 0
  ComesTo (Ok made) = IsPublication made.0 made.1
  ComesTo (Err reply) = IsTold (said reply)

module _ {C F : Type 0} where
  abbrev pub stop_reply : DoneStop → ReplyOf C F
  stop_reply (stop.Full length) = a.HistoryFull length
  stop_reply stop.Memory = a.Memory

  -- what is replied to a compile under the first k entries, by what came of adding its publication
  abbrev pub served_reply : ℕ → C → Result ℕ DoneStop → ReplyOf C F
  served_reply k catalog (Ok entry) = a.Served entry k catalog
  served_reply k catalog (Err why) = stop_reply why

  -- what is replied where a plain entry is asked for, by what came of adding it
  abbrev pub added_reply : PlainKind → Result ℕ DoneStop → ReplyOf C F
  added_reply kind (Ok entry) = plain_reply kind entry
  added_reply kind (Err why) = stop_reply why
