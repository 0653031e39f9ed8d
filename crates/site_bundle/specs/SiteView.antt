-- What a site says.
use Rattle.std.specs.Prelude.{◌≡◌, ℕ, Bool, not, List, [], ◌∷◌, filter, Option, refl}
use Rattle.std.specs.Coded.{Coded, code_by, coded×, coded_list}
use Rattle.std.specs.FinMap.{find, put, is_sorted}
use Rattle.std.specs.List.{list_all}
use Rattle.std.specs.Option.{option_or, unwrap_or}
use Rattle.pp_values.specs.Datum.{Datum}
use Rattle.pp_values.specs.Codes.{coded_text, coded_datum}
use Rattle.pp_values.specs.Facts.{are_facts}
use Rattle.pp_values.specs.Rising.{text_cmp}
use Rattle.pp_values.specs.declared.place.TheConstants.{MAIN_MANIFEST}
use Rattle.site_bundle.specs.Given.{is_manifest_path}

-- a path, and the text that stands there
abbrev pub Filed : Type 0
Filed = List ℕ × List ℕ

-- a node's name, and what its facts say
abbrev pub Listed : Type 0
Listed = List ℕ × Datum

-- the manifests and the other files by path, and the nodes by name, each in byte order
pub record SiteView : Type 0 where
  pub manifests : List Filed
  pub «data» : List Filed
  pub nodes : List Listed

-- the text at a path, if a manifest stands there
abbrev pub text_at : SiteView → List ℕ → Option (List ℕ)
text_at s path = find text_cmp path s.manifests

-- the text of the file at a path, a manifest or another one: none exactly where the site has no such file
abbrev pub file_in : SiteView → List ℕ → Option (List ℕ)
file_in s path = option_or (text_at s path) (find text_cmp path s.data)

-- the text of the main manifest; each site has one
abbrev pub main_text : SiteView → List ℕ
main_text s = unwrap_or (text_at s MAIN_MANIFEST.now) []

-- the facts that a site lists for a node, if it does
abbrev pub facts_for : SiteView → List ℕ → Option Datum
facts_for s node = find text_cmp node s.nodes

-- the keys rise, so that none stands twice
abbrev pub are_rising : {X : Type 0} → List (List ℕ × X) → Bool
are_rising es = is_sorted text_cmp es

-- what each node has are facts
abbrev pub have_facts : List Listed → Bool
have_facts nodes = list_all (λ e. are_facts e.1) nodes

-- ---- a site of pairs

-- the entries of a map, with these pairs put in, the last one first
unfoldable pub put_in : {X : Type 0} → List (List ℕ × X) → List (List ℕ × X) → List (List ℕ × X)
put_in es [] = es
put_in es (p ∷ ps) = put text_cmp p.0 p.1 (put_in es ps)

-- the manifests among files, and the others
abbrev pub manifests_among : List Filed → List Filed
manifests_among files = filter (λ f. is_manifest_path f.0) files

abbrev pub data_among : List Filed → List Filed
data_among files = filter (λ f. not (is_manifest_path f.0)) files

-- the site of these files and nodes
abbrev pub site_of : List Filed → List Listed → SiteView
site_of files nodes = record {
  manifests = put_in [] (manifests_among files);
  «data» = put_in [] (data_among files);
  nodes = put_in [] nodes;
}

-- the codes by which a proof tells sites apart
abbrev pub coded_files : Coded (List Filed)
coded_files = coded_list (coded× coded_text coded_text)

abbrev pub coded_nodes : Coded (List Listed)
coded_nodes = coded_list (coded× coded_text coded_datum)

abbrev pub coded_site : Coded SiteView
coded_site =
    code_by (List Filed × (List Filed × List Listed)) (coded× coded_files (coded× coded_files coded_nodes))
    (λ s. (s.manifests, (s.data, s.nodes))) (λ p. record { manifests = p.0; «data» = p.1.0; nodes = p.1.1 }) (λ _. refl)
