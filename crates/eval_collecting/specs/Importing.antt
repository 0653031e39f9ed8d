-- Which resources that other nodes export a collector imports, and what becomes of them.
use Rattle.std.specs.Prelude.{ℕ, Bool, true, false, ◌&&◌, ◌==◌, List, Option, None, Some, Result, Ok, slice_get}
use Rattle.std.specs.Str.{bytes_eq}
use Rattle.collector_query.specs.Needed.{needed_tag as query_needs_tag}
use Rattle.override_rules.specs.Meaning.{stands}
use Rattle.pp_values.specs.Answers.{and_then}
use Rattle.pp_values.specs.declared.fault.Fault.{Fault}
use Rattle.pp_values.specs.declared.reference.Reference.{Reference}
use Rattle.res_book.specs.Rows.{number_of}
use Rattle.res_book.specs.declared.collector.Collector.{Collector}
use Rattle.res_book.specs.declared.mode.Mode.{Mode}
use Rattle.res_book.specs.declared.mode.Mode.TheVariants as mode
use Rattle.res_book.specs.declared.row.Row.{Row}
use Rattle.res_core.specs.Criteria.{Criterion}
use Rattle.res_core.specs.declared.declared.Declared.{Declared}
use Rattle.res_core.specs.declared.exported.Exported.{Exported}
use Rattle.res_core.specs.declared.resource.Resource.{Resource}
use Rattle.eval_resources.specs.Checks.{kind_checked, settings_known}
use Rattle.eval_resources.specs.Declaring.{container_in}
use Rattle.eval_resources.specs.declared.known_kind.KnownKind.{KnownKind}
use Rattle.eval_world.specs.Environment.{Environment}
use Rattle.eval_world.specs.Outcomes.{Step, ◌>>=◌, ◌>>◌, pure, answered}
use Rattle.eval_world.specs.Owners.{owner_at}
use Rattle.eval_world.specs.Worlds.{put}
use Rattle.eval_world.specs.declared.owner.Owner.{Owner}
use Rattle.eval_world.specs.declared.world.World.{World}
use Rattle.eval_collecting.specs.Blocks.{block_applied}
use Rattle.eval_collecting.specs.Matching.{asks, reference_of}

-- ---- which collectors import

-- the kind whose exports a collector takes, where it takes any
abbrev pub kind_imported : Bool → List ℕ → Option (List ℕ)
kind_imported true kind = Some kind
kind_imported false kind = None

abbrev pub imports_by : Option Collector → Option (List ℕ)
imports_by None = None
imports_by (Some c) = kind_imported c.exported c.kind

-- a number of no collector imports nothing
abbrev pub imports : World → ℕ → Option (List ℕ)
imports w c = imports_by (slice_get w.relations.collectors c)

-- ---- what they find

-- a tag that all has which a collector finds, where its query tells one
abbrev pub tag_by : Option Reference → Criterion → Option (List ℕ)
tag_by (Some wanted) query = None
tag_by None query = query_needs_tag query

abbrev pub tag_of : Option Collector → Option (List ℕ)
tag_of None = None
tag_of (Some c) = tag_by c.realized c.query

abbrev pub needed_tag : World → ℕ → Option (List ℕ)
needed_tag w c = tag_of (slice_get w.relations.collectors c)

-- `<<| |>>` finds what is of its kind and asked for, by the attributes and tags that were published
unfoldable pub finds : Collector → Exported → Bool
finds c e =
    c.exported && (bytes_eq e.item.kind c.kind && asks c.realized c.query e.item e.item.attributes)

-- ---- what was imported already

abbrev pub same_import : List ℕ → ℕ → Mode → Bool
same_import node place mode.Plain = false
same_import node place mode.Virtual = false
same_import node place mode.Exported = false
same_import node place (mode.Imported n p) = bytes_eq n node && (p == place)

-- the declaration is the import from this place of the node's set
abbrev pub is_import_of : List ℕ → ℕ → Option Row → Bool
is_import_of node place None = false
is_import_of node place (Some r) = same_import node place r.mode

abbrev pub where_true : Bool → ℕ → Option ℕ
where_true true n = Some n
where_true false n = None

abbrev pub import_at : List ℕ → ℕ → List Row → Option ℕ → Option ℕ
import_at node place book None = None
import_at node place book (Some n) = where_true (is_import_of node place (slice_get book n)) n

-- The number of what was imported from this place. An import has the reference of what is exported, so that it is found
-- under it.
abbrev pub import_of : List ℕ → ℕ → Resource → List Row → Option ℕ
import_of node place r book = import_at node place book (number_of (reference_of r) book)

-- ---- the tests, as those of a local declaration, at the place that it has in its set

-- F10 at the first attribute that the resource does not take
abbrev pub attributes_checked : Exported → KnownKind → Result KnownKind Fault
attributes_checked e k =
    and_then (settings_known (reference_of e.item) k.known e.node_place e.item.attributes) (λ _. Ok k)

-- F5 of a kind that is neither native nor a define of the site, then F10
unfoldable pub tested : Environment → Exported → Result KnownKind Fault
tested m e = and_then (kind_checked m e.item.kind e.node_place) (attributes_checked e)

-- ---- the declaration

-- It has the attributes and the tags that were published. Where it stands, and whose it is, it has from the collector.
abbrev pub item_of : Owner → List Row → KnownKind → Exported → Declared
item_of owner book k e = record {
  item = e.item;
  at = e.node_place;
  scope = owner.scope;
  container = container_in book owner.resource;
  class = owner.source;
  known = k.known;
}

-- F14, F28; its number
unfoldable pub declare_rule : ℕ → List ℕ → ℕ → KnownKind → Exported → Step ℕ
declare_rule owner node place k e = λ w.
    put (item_of (owner_at owner w.owners) w.book k e) (mode.Imported node place) w

-- after the tests the override lines that came before it
unfoldable pub import_rule : ℕ → List ℕ → ℕ → Exported → Step ℕ
import_rule owner node place e = do
  k ← (λ w. answered (tested w.environment e) w)
  n ← declare_rule owner node place k e
  (λ w. answered (stands w.overrides w.book n) w)
  pure n

-- ---- what becomes of it

-- What was imported before is not imported again, whichever collector did it. The collector's block comes behind all
-- else. Something was added where it was imported, or where the block was applied to it.
unfoldable pub import_once : Option ℕ → ℕ → ℕ → List ℕ → ℕ → Exported → Step Bool
import_once (Some n) c owner node place e = block_applied c n
import_once None c owner node place e = do
  n ← import_rule owner node place e
  block_applied c n
  pure true

-- whose an import is then
abbrev pub owner_by : Option Collector → Exported → Option ℕ
owner_by None e = None
owner_by (Some c) e = where_true (finds c e) c.owner

-- a number of no collector stands for none that finds anything
abbrev pub owner_for : World → ℕ → Exported → Option ℕ
owner_for w c e = owner_by (slice_get w.relations.collectors c) e

abbrev pub import_for : Option ℕ → ℕ → List ℕ → ℕ → Exported → Step Bool
import_for None c node place e = pure false
import_for (Some owner) c node place e = λ w. import_once (import_of node place e.item w.book) c owner node place e w

unfoldable pub import_match : ℕ → List ℕ → ℕ → Exported → Step Bool
import_match c node place e = λ w. import_for (owner_for w c e) c node place e w
