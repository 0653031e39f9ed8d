-- The requests of a bundle.
use Rattle.std.specs.Prelude.{ℕ, suc, ◌^◌, if◌then◌else◌, nat_lt, nat_le, codes, List, [], ◌∷◌, ◌++◌, length, Option}
use Rattle.std.specs.Prelude.{Some, None, option_and_then, Result, Ok, Err}
use Rattle.std.specs.Option.{ok_or}
use Rattle.pp_values.specs.Datum.{Datum}
use Rattle.serde_json.specs.Data.{Data, Items, no_items, item}
use Rattle.serde_json.specs.Find.{get, as_array, as_str, as_number, as_u64}
use Rattle.res_core.specs.Asked.{Asked, compile, deactivate, Wanted}
use Rattle.site_bundle.specs.declared.limits.TheConstants.{MOST_REQUESTS}
use Rattle.word_rules.specs.NodeNames.{is_node_name}
use Rattle.site_bundle.specs.Refusals.{Refusal, bad_shape, too_large, under, request_path, result_and_then}
use Rattle.site_bundle.specs.GivenFacts.{given_facts}

-- a member of the request with this number is bad
abbrev pub bad_member : ℕ → List ℕ → Refusal
bad_member index key = bad_shape (under (request_path index) key)

abbrev pub if_node_name : List ℕ → Option (List ℕ)
if_node_name text = if is_node_name text then Some text else None

-- a text that is the name of a node
abbrev pub name_in : Data → Option (List ℕ)
name_in d = option_and_then if_node_name (as_str d)

abbrev pub if_fits : ℕ → Option ℕ
if_fits n = if nat_lt n (2 ^ 32) then Some n else None

-- an integer of 32 bits without a sign
abbrev pub count_in : Data → Option ℕ
count_in d = option_and_then if_fits (option_and_then as_u64 (as_number d))

-- facts that are not given are none, and none seen are 0
abbrev pub facts_asked : ℕ → Option Data → Result (Option Datum) Refusal
facts_asked index None = Ok None
facts_asked index (Some d) = result_and_then (λ facts. Ok (Some facts))
    (ok_or (given_facts d) (bad_member index (codes "facts")))

abbrev pub seen_asked : ℕ → Option Data → Result ℕ Refusal
seen_asked index None = Ok 0
seen_asked index (Some d) = ok_or (count_in d) (bad_member index (codes "seen"))

abbrev pub name_asked : ℕ → List ℕ → Data → Result (List ℕ) Refusal
name_asked index key d = ok_or (name_in d) (bad_member index key)

-- a request for a catalog: its members by name in byte order
abbrev pub wanted_in : ℕ → Data → Data → Result Wanted Refusal
wanted_in index request node =
    result_and_then (λ facts. result_and_then (λ name. result_and_then
    (λ seen. Ok (record { node = name; facts = facts; seen = seen }))
    (seen_asked index (get (codes "seen") request))) (name_asked index (codes "node") node))
    (facts_asked index (get (codes "facts") request))

-- a request has exactly one of `node` and `deactivate`; beside `deactivate` nothing else counts
abbrev pub asked_by : ℕ → Data → Option Data → Option Data → Result Asked Refusal
asked_by index request (Some node) None = result_and_then (λ w. Ok (compile w)) (wanted_in index request node)
asked_by index request None (Some name) = result_and_then (λ node. Ok (deactivate node))
    (name_asked index (codes "deactivate") name)
asked_by index request both neither = Err (bad_shape (request_path index))

abbrev pub asked_in : ℕ → Data → Result Asked Refusal
asked_in index request = asked_by index request (get (codes "node") request) (get (codes "deactivate") request)

-- the requests that were found, and those of the items behind them
unfoldable pub asked_from : List Asked → Items → Result (List Asked) Refusal
asked_from found no_items = Ok found
asked_from found (item d ds) = result_and_then (λ a. asked_from (found ++ a ∷ []) ds) (asked_in (length found) d)

unfoldable pub item_count : Items → ℕ
item_count no_items = 0
item_count (item d ds) = suc (item_count ds)

-- a list that is too long is refused before any of its items
abbrev pub asked_among : Items → Result (List Asked) Refusal
asked_among ds = if nat_le (item_count ds) MOST_REQUESTS then asked_from [] ds else Err (too_large (codes "requests"))

abbrev pub all_asked_in : Data → Result (List Asked) Refusal
all_asked_in d = result_and_then asked_among (ok_or (as_array d) (bad_shape (codes "requests")))

abbrev pub given_requests : Option Data → Result (List Asked) Refusal
given_requests None = Ok []
given_requests (Some d) = all_asked_in d

-- what the bundle asks for; there may be nothing
abbrev pub requests_of : Data → Result (List Asked) Refusal
requests_of bundle = given_requests (get (codes "requests") bundle)
