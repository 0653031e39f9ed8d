-- What the bytes of a bundle say.
use Rattle.std.specs.Prelude.{ℕ, ◌==◌, Bool, false, if◌then◌else◌, codes, List, Option, Some, None, option_and_then}
use Rattle.std.specs.Prelude.{Result, Ok, Err}
use Rattle.serde_json.specs.Data.{Data}
use Rattle.serde_json.specs.Find.{get, as_number, as_u64}
use Rattle.site_bundle.specs.declared.bundle.Bundle.{Bundle}
use Rattle.site_bundle.specs.declared.kept_files.KeptFiles.{KeptFiles}
use Rattle.site_bundle.specs.Refusals.{Refusal, not_json, bad_shape, too_large, result_and_then}
use Rattle.site_bundle.specs.Documents.{document_of, json_of}
use Rattle.site_bundle.specs.Files.{files_of}
use Rattle.site_bundle.specs.Nodes.{nodes_of}
use Rattle.site_bundle.specs.SiteView.{SiteView, Listed}
use Rattle.site_bundle.specs.Machines.{machine_of}
use Rattle.site_bundle.specs.RequestsOf.{all_asked_in, requests_of}
use Rattle.res_core.specs.Asked.{Asked}

abbrev pub is_one : Option ℕ → Bool
is_one None = false
is_one (Some n) = n == 1

-- the document is an object whose `bundle` is the integer 1
abbrev pub is_bundle : Data → Bool
is_bundle d = is_one (option_and_then as_u64 (option_and_then as_number (get (codes "bundle") d)))

abbrev pub site_with : KeptFiles → List Listed → SiteView
site_with files nodes = record { manifests = files.manifests; «data» = files.data; nodes = nodes }

-- the site that a document says: its files and then its nodes, so that the first one that is bad decides
unfoldable pub site_in : Data → Result SiteView Refusal
site_in d = result_and_then (λ files. result_and_then (λ nodes. Ok (site_with files nodes)) (nodes_of d)) (files_of d)

-- its members in their order, in the same way
unfoldable pub members_of : Data → Result Bundle Refusal
members_of d =
    result_and_then (λ site. result_and_then (λ requests. result_and_then
    (λ machine. Ok (record { site = site; requests = requests; machine = machine })) (machine_of d)) (requests_of d))
    (site_in d)

abbrev pub bundle_in : Data → Result Bundle Refusal
bundle_in d = if is_bundle d then members_of d else Err (bad_shape (codes "bundle"))

-- the site, the requests and the machine that the bytes say, or the first thing that is wrong with them
unfoldable pub bundle_of : List ℕ → Result Bundle Refusal
bundle_of bytes = result_and_then bundle_in (document_of bytes)

-- The site that the bytes say, or the first thing that is wrong with them: a document as a bundle is one, of which no
-- other members count.
unfoldable pub site_said : List ℕ → Result SiteView Refusal
site_said bytes = result_and_then site_in (document_of bytes)

-- what is no JSON is no list of requests
abbrev pub list_or : Result Data Refusal → Result Data Refusal
list_or (Ok d) = Ok d
list_or (Err not_json) = Err (bad_shape (codes "requests"))
list_or (Err (bad_shape path)) = Err (bad_shape path)
list_or (Err (too_large path)) = Err (too_large path)

-- the requests that the bytes say, or the first thing that is wrong with them: a list as `requests` of a bundle is one
unfoldable pub request_list : List ℕ → Result (List Asked) Refusal
request_list bytes = result_and_then all_asked_in (list_or (json_of bytes))
