-- Bundles, and what they say.
use Rattle.std.proofs.Common.{◌≡◌, ℕ, ◌+◌, ◌*◌, true, false, List, length, [], ◌∷◌, Some, None, Ok, Err, refl, ap, codes, pos}
use Rattle.std.specs.Prelude.{if◌then◌else◌, nat_lt}
use Rattle.serde_json.specs.Data.{Data}
use Rattle.pp_values.specs.Datum.{undef, flag, int, text, list, hash, no_entries, data_of, entries_of}
use Rattle.pp_values.specs.declared.place.TheConstants.{MAIN_MANIFEST}
use Rattle.res_core.specs.Asked.{compile, deactivate}
use Rattle.site_bundle.specs.SiteView.{SiteView, facts_for, file_in, main_text, text_at, put_in, site_of}
use Rattle.site_bundle.specs.Given.{are_distinct, has_main, is_manifest_path}
use Rattle.site_bundle.specs.declared.limits.TheConstants.{MOST_BUNDLE_BYTES, MOST_FILES, MOST_FILE_BYTES, MOST_REQUESTS}
use Rattle.site_bundle.specs.Refusals.{not_json, bad_shape, too_large, result_and_then}
use Rattle.site_bundle.specs.Bundles.{bundle_of, site_said, request_list}
use Rattle.site_bundle.specs.Files.{content_of, has_room, with_file, with_files}
use Rattle.site_bundle.specs.Keeping.{with_text}
use Rattle.site_bundle.specs.Machines.{no_machine}
use Rattle.site_bundle.specs.declared.kept_files.KeptFiles.{KeptFiles}
use Rattle.site_bundle.proofs.OnLiterals.{bundle_on_literals}

-- nodes by name, requests in their order
whole : bundle_of (codes "{\"bundle\": 1, \"files\": {\"manifests/site.pp\": \"\"}, \"nodes\": {\"b\": {}, \"a\": {}}, \"requests\": [{\"node\": \"a\", \"seen\": 2}, {\"node\": \"b\", \"facts\": {}}, {\"deactivate\": \"z\"}]}") ≡ Ok (record {
  site = record {
    manifests = (MAIN_MANIFEST.now, []) ∷ [];
    «data» = [];
    nodes = (codes "a", hash no_entries) ∷
        (codes "b", hash no_entries) ∷ [];
  };
  requests = compile (record { node = codes "a"; facts = None; seen = 2 }) ∷
      compile (record { node = codes "b"; facts = Some (hash no_entries); seen = 0 }) ∷ deactivate (codes "z") ∷ [];
  machine = no_machine;
})
unfolding bundle_on_literals with_files
whole = refl

-- nodes and requests may be missing, and other members do not count
least : bundle_of (codes "{\"bundle\":1,\"files\":{\"manifests/site.pp\":\"x\"},\"other\":[1.5]}") ≡ Ok (record { site = record { manifests = (MAIN_MANIFEST.now, codes "x") ∷ []; «data» = []; nodes = [] }; requests = []; machine = no_machine })
unfolding bundle_on_literals with_files
least = refl

-- a text that is cut off
no_json : bundle_of (codes "{") ≡ Err not_json
unfolding bundle_on_literals with_files
no_json = refl

-- a byte that is no text
no_text : bundle_of (255 ∷ []) ≡ Err not_json
unfolding bundle_on_literals with_files
no_text = refl

-- a document that is no object
no_object : bundle_of (codes "[1]") ≡ Err (bad_shape (codes "bundle"))
unfolding bundle_on_literals with_files
no_object = refl

-- `1.0` is not the integer 1
no_integer : bundle_of (codes "{\"bundle\":1.0,\"files\": {\"manifests/site.pp\": \"\"}}") ≡ Err (bad_shape (codes "bundle"))
unfolding bundle_on_literals with_files
no_integer = refl

-- no files
no_files : bundle_of (codes "{\"bundle\":1}") ≡ Err (bad_shape (codes "files"))
unfolding bundle_on_literals with_files
no_files = refl

-- files come before nodes
files_first : bundle_of (codes "{\"nodes\":[],\"files\":[],\"bundle\":1}") ≡ Err (bad_shape (codes "files"))
unfolding bundle_on_literals with_files
files_first = refl

-- manifests beside the main one, by path in byte order
modules : bundle_of (codes "{\"bundle\":1,\"files\":{\"modules/m/manifests/init.pp\":\"m\",\"a.pp\":\"a\",\"manifests/site.pp\":\"\"}}") ≡ Ok (record {
  site = record {
    manifests = (codes "a.pp", codes "a") ∷ (MAIN_MANIFEST.now, []) ∷
        (codes "modules/m/manifests/init.pp", codes "m") ∷ [];
    «data» = [];
    nodes = [];
  };
  requests = [];
  machine = no_machine;
})
unfolding bundle_on_literals with_files
modules = refl

-- other files before, between and behind manifests: whatever their content is, it is data
any_file : bundle_of (codes "{\"bundle\":1,\"files\":{\"z\":\"no JSON\",\"modules/m/manifests/init.pp\":\"m\",\"modules/m/hiera.yaml\":\"{\",\"data/a.json\":\"{}\",\"manifests/site.pp\":\"\"}}") ≡ Ok (record {
  site = record {
    manifests = (MAIN_MANIFEST.now, []) ∷ (codes "modules/m/manifests/init.pp", codes "m") ∷ [];
    «data» = (codes "data/a.json", codes "{}") ∷ (codes "modules/m/hiera.yaml", codes "{") ∷ (codes "z", codes "no JSON") ∷
        [];
    nodes = [];
  };
  requests = [];
  machine = no_machine;
})
unfolding bundle_on_literals with_files
any_file = refl

-- a file of data that is no text, before the main manifest; it is told before what stands behind it
data_no_text : bundle_of (codes "{\"bundle\":1,\"files\":{\"data/a.json\":{},\"z\":1}}") ≡ Err (bad_shape (codes "files.data/a.json"))
unfolding bundle_on_literals with_files
data_no_text = refl

-- data does not stand in the main manifest's place
data_alone : bundle_of (codes "{\"bundle\":1,\"files\":{\"hiera.yaml\":\"\",\"z\":1}}") ≡ Err (bad_shape (codes "files.manifests/site.pp"))
unfolding bundle_on_literals with_files
data_alone = refl

-- the first path that is bad decides: here the main manifest's place, which comes before `z.pp`
missing_before : bundle_of (codes "{\"bundle\":1,\"files\":{\"a.pp\":\"\",\"z.pp\":1}}") ≡ Err (bad_shape (codes "files.manifests/site.pp"))
unfolding bundle_on_literals with_files
missing_before = refl

-- a manifest that is no text
content_no_text : bundle_of (codes "{\"bundle\":1,\"files\":{\"a.pp\":1,\"z\":\"\"}}") ≡ Err (bad_shape (codes "files.a.pp"))
unfolding bundle_on_literals with_files
content_no_text = refl

-- the main manifest is missing where it should stand
main_missing : bundle_of (codes "{\"bundle\":1,\"files\":{\"z\":\"\"}}") ≡ Err (bad_shape (codes "files.manifests/site.pp"))
unfolding bundle_on_literals with_files
main_missing = refl

-- a file behind the main manifest, which is a text
file_behind : bundle_of (codes "{\"bundle\":1,\"files\":{\"z\":1,\"manifests/site.pp\":\"\"}}") ≡ Err (bad_shape (codes "files.z"))
unfolding bundle_on_literals with_files
file_behind = refl

-- a key that is no node name
node_name : bundle_of (codes "{\"bundle\":1,\"files\": {\"manifests/site.pp\": \"\"},\"nodes\":{\"A\":{}}}") ≡ Err (bad_shape (codes "nodes.A"))
unfolding bundle_on_literals with_files
node_name = refl

-- facts are read whole, by name in byte order; a number that is no 64-bit integer is Undef
whole_facts : bundle_of (codes "{\"bundle\":1,\"files\": {\"manifests/site.pp\": \"\"},\"nodes\":{\"a\":{\"n\":3,\"load\":0.5,\"l\":[true,{\"x\":null}]}}}") ≡ Ok (record {
  site = record {
    manifests = (MAIN_MANIFEST.now, []) ∷ [];
    «data» = [];
    nodes = (
      codes "a",
      hash (entries_of ((text (codes "l"), list (data_of (flag true ∷ hash (entries_of ((text (codes "x"), undef) ∷ [])) ∷ []))) ∷
          (text (codes "load"), undef) ∷ (text (codes "n"), int (pos 3)) ∷ [])),
    ) ∷ [];
  };
  requests = [];
  machine = no_machine;
})
unfolding bundle_on_literals with_files
whole_facts = refl

-- facts that are no object
node_facts : bundle_of (codes "{\"bundle\":1,\"files\": {\"manifests/site.pp\": \"\"},\"nodes\":{\"a\":1}}") ≡ Err (bad_shape (codes "nodes.a"))
unfolding bundle_on_literals with_files
node_facts = refl

-- both node and deactivate
both : bundle_of (codes "{\"bundle\":1,\"files\": {\"manifests/site.pp\": \"\"},\"requests\":[{\"node\":\"a\"},{\"node\":\"a\",\"deactivate\":\"a\"}]}") ≡ Err (bad_shape (codes "requests.1"))
unfolding bundle_on_literals with_files
both = refl

-- beside `deactivate` nothing else counts
ignored : bundle_of (codes "{\"bundle\":1,\"files\": {\"manifests/site.pp\": \"\"},\"requests\":[{\"facts\":1,\"seen\":-1,\"deactivate\":\"a\"}]}") ≡ Ok (record { site = record { manifests = (MAIN_MANIFEST.now, []) ∷ []; «data» = []; nodes = [] }; requests = deactivate (codes "a") ∷ []; machine = no_machine })
unfolding bundle_on_literals with_files
ignored = refl

-- a number that takes more than 32 bits
seen : bundle_of (codes "{\"bundle\":1,\"files\": {\"manifests/site.pp\": \"\"},\"requests\":[{\"node\":\"a\",\"seen\":4294967296}]}") ≡ Err (bad_shape (codes "requests.0.seen"))
unfolding bundle_on_literals with_files
seen = refl

-- facts come before node and seen
facts_first : bundle_of (codes "{\"bundle\":1,\"files\": {\"manifests/site.pp\": \"\"},\"requests\":[{\"node\":\"\",\"seen\":1.0,\"facts\":[]}]}") ≡ Err (bad_shape (codes "requests.0.facts"))
unfolding bundle_on_literals with_files
facts_first = refl

-- and node before seen
name_next : bundle_of (codes "{\"bundle\":1,\"files\": {\"manifests/site.pp\": \"\"},\"requests\":[{\"node\":\"\",\"seen\":1.0}]}") ≡ Err (bad_shape (codes "requests.0.node"))
unfolding bundle_on_literals with_files
name_next = refl

-- a machine, after all the others
machine_last : bundle_of (codes "{\"bundle\":1,\"machine\":null,\"files\":{},\"nodes\":{}}") ≡ Err (bad_shape (codes "files.manifests/site.pp"))
unfolding bundle_on_literals with_files
machine_last = refl

-- a machine that is no object
machine : bundle_of (codes "{\"bundle\":1,\"machine\":null,\"files\": {\"manifests/site.pp\": \"\"}}") ≡ Err (bad_shape (codes "machine"))
unfolding bundle_on_literals with_files
machine = refl

-- a machine of which nothing is said
no_state : bundle_of (codes "{\"bundle\":1,\"machine\":{},\"files\": {\"manifests/site.pp\": \"\"}}") ≡ Ok (record { site = record { manifests = (MAIN_MANIFEST.now, []) ∷ []; «data» = []; nodes = [] }; requests = []; machine = no_machine })
unfolding bundle_on_literals with_files
no_state = refl

-- what is recorded, and which calls fail
whole_machine : bundle_of (codes "{\"bundle\":1,\"machine\":{\"state\":{\"File[/a]\":{\"mode\":\"1\"}},\"failing\":[\"f\"]},\"files\": {\"manifests/site.pp\": \"\"}}") ≡ Ok (record { site = record { manifests = (MAIN_MANIFEST.now, []) ∷ []; «data» = []; nodes = [] }; requests = []; machine = record { failing = codes "f" ∷ []; state = (codes "File[/a]", (codes "mode", text (codes "1")) ∷ []) ∷ [] } })
unfolding bundle_on_literals with_files
whole_machine = refl

-- requests come before the machine, and within it the calls that fail before the state
requests_before : bundle_of (codes "{\"bundle\":1,\"machine\":1,\"requests\":1,\"files\": {\"manifests/site.pp\": \"\"}}") ≡ Err (bad_shape (codes "requests"))
unfolding bundle_on_literals with_files
requests_before = refl

bad_failing : bundle_of (codes "{\"bundle\":1,\"machine\":{\"state\":1,\"failing\":[\"a\",1]},\"files\": {\"manifests/site.pp\": \"\"}}") ≡ Err (bad_shape (codes "machine.failing.1"))
unfolding bundle_on_literals with_files
bad_failing = refl

-- the last value of a key that stands twice
twice : bundle_of (codes "{\"bundle\":2,\"bundle\":1,\"files\":{\"manifests/site.pp\":\"\"}}") ≡ Ok (record { site = record { manifests = (MAIN_MANIFEST.now, []) ∷ []; «data» = []; nodes = [] }; requests = []; machine = no_machine })
unfolding bundle_on_literals with_files
twice = refl

-- ---- a site without anything that is asked of it

-- files alone
site_alone : site_said (codes "{\"files\":{\"manifests/site.pp\":\"notify { 'hi': }\"}}") ≡ Ok (record { manifests = (MAIN_MANIFEST.now, codes "notify { 'hi': }") ∷ []; «data» = []; nodes = [] })
unfolding bundle_on_literals with_files
site_alone = refl

-- files of either kind and nodes; what else a bundle has does not count, whatever it is
site_among_others : site_said (codes "{\"bundle\":2,\"machine\":1,\"requests\":{},\"nodes\":{\"a\":{}},\"files\":{\"manifests/site.pp\":\"\",\"hiera.yaml\":\"{\"}}") ≡ Ok (record {
  manifests = (MAIN_MANIFEST.now, []) ∷ [];
  «data» = (codes "hiera.yaml", codes "{") ∷ [];
  nodes = (codes "a", hash no_entries) ∷ [];
})
unfolding bundle_on_literals with_files
site_among_others = refl

-- no object, no files, no main manifest, a node without facts, and no JSON
no_sites : (site_said (codes "[]") ≡ Err (bad_shape (codes "files")))
    × (site_said (codes "{}") ≡ Err (bad_shape (codes "files")))
    × (site_said (codes "{\"files\":{}}") ≡ Err (bad_shape (codes "files.manifests/site.pp")))
    × (site_said (codes "{\"files\":{\"manifests/site.pp\":\"\"},\"nodes\":{\"a\":1}}") ≡ Err (bad_shape (codes "nodes.a")))
    × (site_said (codes "{\"files\"") ≡ Err not_json)
unfolding bundle_on_literals with_files
no_sites = (refl, refl, refl, refl, refl)

-- ---- requests by themselves

lists : (request_list (codes " [{\"deactivate\":\"a\"}]\n") ≡ Ok (deactivate (codes "a") ∷ []))
    × (request_list (codes "[]") ≡ Ok [])
    × (request_list (codes "{}") ≡ Err (bad_shape (codes "requests")))
    × (request_list [] ≡ Err (bad_shape (codes "requests")))
    × (request_list (codes "[{\"deactivate\":\"a\"},{}]") ≡ Err (bad_shape (codes "requests.1")))
unfolding request_list bundle_on_literals
lists = (refl, refl, refl, refl, refl)

site : SiteView
site = record {
  manifests = (MAIN_MANIFEST.now, []) ∷ [];
  «data» = [];
  nodes = (codes "a", hash no_entries) ∷
      (codes "c", hash no_entries) ∷ [];
}

not_listed : facts_for site (codes "b") ≡ None
unfolding site
not_listed = refl

listed : facts_for site (codes "c") ≡ Some (hash no_entries)
unfolding site
listed = refl

main_manifest : main_text site ≡ []
unfolding site
main_manifest = refl

no_file : text_at site (codes "a.pp") ≡ None
unfolding site
no_file = refl

-- a file of data is no manifest
no_manifest : text_at site (codes "a") ≡ None
unfolding site
no_manifest = refl

-- a file is found whether it is a manifest or not
with_data : SiteView
with_data = record {
  manifests = (codes "a.pp", codes "y") ∷ (MAIN_MANIFEST.now, codes "x") ∷ [];
  «data» = (codes "a.epp", codes "e") ∷ (codes "hiera.yaml", []) ∷ [];
  nodes = [];
}

found_manifest : file_in with_data (codes "a.pp") ≡ Some (codes "y")
unfolding with_data
found_manifest = refl

found_data : file_in with_data (codes "a.epp") ≡ Some (codes "e")
unfolding with_data
found_data = refl

-- one without a text is one
found_empty : file_in with_data (codes "hiera.yaml") ≡ Some []
unfolding with_data
found_empty = refl

found_none : file_in with_data (codes "a") ≡ None
unfolding with_data
found_none = refl

-- files and nodes stand by path and name in byte order
in_order : site_of ((codes "z", codes "d") ∷ (MAIN_MANIFEST.now, codes "x") ∷ (codes "hiera.yaml", codes "h") ∷
    (codes "a.pp", codes "y") ∷ [])
    ((codes "c", hash no_entries) ∷ (codes "a", hash no_entries) ∷ [])
    ≡ record {
      manifests = (codes "a.pp", codes "y") ∷ (MAIN_MANIFEST.now, codes "x") ∷ [];
      «data» = (codes "hiera.yaml", codes "h") ∷ (codes "z", codes "d") ∷ [];
      nodes = (codes "a", hash no_entries) ∷ (codes "c", hash no_entries) ∷ [];
    }
unfolding put_in
in_order = refl

-- manifests and other files count together: 65,536 files may come
full : (files : KeptFiles) (path : List ℕ) (d : Data) → length files.manifests + length files.data ≡ MOST_FILES →
    with_file files path d ≡ Err (too_large path)
full files path d h = ap (λ n. if nat_lt n MOST_FILES
    then result_and_then (λ text. Ok (with_text path text files)) (content_of path d)
    else Err (too_large path)) h

last_one : (files : KeptFiles) → length files.manifests + length files.data ≡ 65535 → has_room files ≡ true
last_one files h = ap (λ n. nat_lt n MOST_FILES) h

given : (are_distinct {X = ℕ} ((codes "a", 0) ∷ (codes "b", 0) ∷ []) ≡ true)
    × (are_distinct {X = ℕ} ((codes "a", 0) ∷ (codes "b", 0) ∷ (codes "a", 0) ∷ []) ≡ false)
    × (has_main ((MAIN_MANIFEST.now, []) ∷ []) ≡ true)
    × (has_main ((codes "site.pp", []) ∷ []) ≡ false)
    × (is_manifest_path (codes "modules/a/manifests/init.pp") ≡ true)
    × (is_manifest_path (codes ".pp") ≡ true)
    × (is_manifest_path (codes "pp") ≡ false)
    × (is_manifest_path (codes "data/common.json") ≡ false)
given = (refl, refl, refl, refl, refl, refl, refl, refl)

-- how much a bundle may be: 64 MiB, 4 MiB a file, 65,536 files, 1,048,576 requests
limits : (MOST_BUNDLE_BYTES ≡ 64 * 1024 * 1024) × (MOST_FILE_BYTES ≡ 4 * 1024 * 1024)
    × (MOST_FILES ≡ 65536) × (MOST_REQUESTS ≡ 1024 * 1024)
limits = (refl, refl, refl, refl)
