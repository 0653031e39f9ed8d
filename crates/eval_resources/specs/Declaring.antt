-- What a title of a body declares.
use Rattle.std.specs.Prelude.{ℕ, if◌then◌else◌, List, [], ◌∷◌, Option, None, Some}
use Rattle.std.specs.BTreeMap.{insert_entry}
use Rattle.pp_values.specs.Rising.{text_cmp}
use Rattle.pp_values.specs.Settings.{Setting}
use Rattle.res_book.specs.Rows.{is_live_at}
use Rattle.res_book.specs.declared.mode.Mode.{Mode}
use Rattle.res_book.specs.declared.mode.Mode.TheVariants as mode
use Rattle.res_book.specs.declared.row.Row.{Row}
use Rattle.res_core.specs.TagNames.{tags}
use Rattle.res_core.specs.declared.declared.Declared.{Declared}
use Rattle.res_core.specs.declared.resource.Resource.{Resource}
use Rattle.res_core.specs.declared.form.Form.{Form}
use Rattle.res_core.specs.declared.form.Form.TheVariants as form
use Rattle.eval_classes.specs.Attributes.{given_tags, is_value, tags_in}
use Rattle.eval_world.specs.Outcomes.{Step}
use Rattle.eval_world.specs.Owners.{owner_at}
use Rattle.eval_world.specs.Worlds.{put}
use Rattle.eval_world.specs.declared.here.Here.{Here}
use Rattle.eval_world.specs.declared.owner.Owner.{Owner}
use Rattle.eval_resources.specs.declared.named.Named.{Named}
use Rattle.res_core.specs.Lines.{Line}
use Rattle.res_core.specs.declared.body.Body.{Body}

-- ---- attributes

-- an attribute whose value is Undef is not set
abbrev pub with_line : List Setting → Line → List Setting
with_line done l = if is_value l.value then insert_entry text_cmp done l.name l.value else done

-- the attributes that lines set, with those that are there, by the order of their names
unfoldable pub set_from : List Setting → List Line → List Setting
set_from done [] = done
set_from done (l ∷ ls) = set_from (with_line done l) ls

-- ---- the declaration

-- the resource of the owner contains it, as far as that is a live declaration
abbrev pub container_in : List Row → ℕ → Option ℕ
container_in book resource = if is_live_at book resource then Some resource else None

-- with these attributes, it has its own tags and those of what contains it
abbrev pub resource_by : List Row → Option ℕ → List ℕ → List ℕ → List Setting → Resource
resource_by book container kind title set = record {
  kind = kind;
  title = title;
  attributes = set;
  tags = tags kind title (given_tags set) (tags_in container book);
}

abbrev pub item_by : Owner → List Row → Option ℕ → Named → Body → Declared
item_by owner book container named b = record {
  item = resource_by book container named.kind named.title (set_from [] b.lines);
  at = b.at;
  scope = owner.scope;
  container = container;
  class = owner.source;
  known = named.known;
}

abbrev pub item_of : Owner → List Row → Named → Body → Declared
item_of owner book named b = item_by owner book (container_in book owner.resource) named b

abbrev pub mode_of : Form → Mode
mode_of form.Plain = mode.Plain
mode_of form.Virtual = mode.Virtual
mode_of form.Exported = mode.Exported

-- it is put into the book: F14, F28; its number
unfoldable pub declare_rule : Form → Named → Body → Here → Step ℕ
declare_rule written named b here = λ w.
    put (item_of (owner_at here.owner w.owners) w.book named b) (mode_of written) w
