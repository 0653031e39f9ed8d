-- Entries that are to be added.
use Rattle.std.specs.Prelude.{ℕ, IsTrue, List}
use Rattle.std.specs.Arc.{arc_value}
use Rattle.pp_values.specs.Views.{view}
use Rattle.pp_values.specs.Facts.{are_facts}
use Rattle.site_core.specs.Meaning.{Meaning, HasExports}
use Rattle.site_core.specs.Events.{Event, publication, next_entry}
use Rattle.site_core.specs.Snapshots.{Of}
use Rattle.site_core.specs.declared.addition.Addition.{Addition}
use Rattle.site_core.specs.declared.addition.Addition.TheVariants as v

module _ {S : Type 0} where
  -- the author's next entry behind the entries h
  abbrev pub entry_of : Addition S → ℕ → List (Event S) → Event S
  entry_of (v.Publication node facts snapshot set) author h = publication h author node (view facts) snapshot.k set
  entry_of (v.Plain what) author h = next_entry h author what

  -- it may be added to a history that begins with h: the exports are those that were meant at the snapshot
  abbrev pub MayAdd : {C F : Type 0} → Meaning S C F → Addition S → List (Event S) → Type 0
  MayAdd meaning (v.Publication node facts snapshot set) h =
      IsTrue (are_facts (view facts)) × Of snapshot h
      × HasExports (meaning (arc_value snapshot.site) node (view facts) snapshot.version) set
  MayAdd meaning (v.Plain what) h = Unit {0}
