-- The text of a site: compact JSON, with the members of each object in byte order.
use Rattle.std.specs.Prelude.{ℕ, List, map, codes}
use Rattle.serde_json.specs.Data.{Data, Members, object, no_members, member}
use Rattle.serde_json.specs.Written.{compact_text}
use Rattle.pp_values.specs.Datum.{text}
use Rattle.pp_values.specs.Settings.{Setting}
use Rattle.json_values.specs.ValueForm.{setting_members, put_all}
use Rattle.site_bundle.specs.SiteView.{SiteView, Filed}

-- a site, from the forms of its files and of its nodes
unfoldable pub site_object : Data → Data → Data
site_object files nodes = object (member (codes "files") files (member (codes "nodes") nodes no_members))

-- each file's path with its text
abbrev pub file_settings : List Filed → List Setting
file_settings = map (λ f. (f.0, text f.1))

-- all files, the manifests and the others: each is put where its path stands in byte order
abbrev pub file_members : SiteView → Members
file_members s = put_all (file_settings s.data) (put_all (file_settings s.manifests) no_members)

-- each node's name with the form of its facts
unfoldable pub site_data : SiteView → Data
site_data s = site_object (object (file_members s)) (object (setting_members s.nodes))

-- without a line feed at the end
abbrev pub site_text : SiteView → List ℕ
site_text s = compact_text (site_data s)
