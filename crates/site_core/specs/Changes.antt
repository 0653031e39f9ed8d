-- What an entry replaces of what is kept beside the history.
use Rattle.std.specs.Prelude.{◌≡◌}
use Rattle.std.specs.Arc.{arc_value}
use Rattle.export_store.specs.Sets.{Sets}
use Rattle.site_core.specs.Events.{Event}
use Rattle.site_core.specs.Sets.{sets_after, site_after}
use Rattle.site_core.specs.declared.change.Change.{Change}
use Rattle.site_core.specs.declared.change.Change.TheVariants as v

module _ {S : Type 0} where
  abbrev pub changed_sets : Change S → Sets → Sets
  changed_sets (v.Exports version) sets = version
  changed_sets (v.Site site) sets = sets
  changed_sets v.Nothing sets = sets

  abbrev pub changed_site : Change S → S → S
  changed_site (v.Exports version) now = now
  changed_site (v.Site site) now = arc_value site
  changed_site v.Nothing now = now

  -- the change is that of the entry, behind entries after which the sets are these
  pub record IsChangeOf (change : Change S) (sets : Sets) (e : Event S) : Type 0 where
    pub exports : changed_sets change sets ≡ sets_after sets e
    pub site : (now : S) → changed_site change now ≡ site_after now e
