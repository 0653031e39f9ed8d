-- What the words of a command line ask for.
use Rattle.std.specs.Prelude.{ℕ, ◌≤◌, Bool, true, false, if◌then◌else◌, codes, List, [], ◌∷◌, Option, Some, None, Result}
use Rattle.std.specs.Prelude.{Ok, Err, IfSome}
use Rattle.std.specs.Str.{bytes_eq}
use Rattle.clap.specs.Words.{Kinds, Row, Text, fault_of, subcommand_of}
use Rattle.hiera_merge.specs.declared.merge.Merge.{Merge}
use Rattle.word_rules.specs.declared.limits.TheConstants.{MOST_CONNECTIONS, MOST_DEMO_NODES, MOST_PORT, MOST_ROUNDS}
use Rattle.word_rules.specs.declared.limits.TheConstants.{MOST_WORKERS}
use Rattle.site_words.specs.CommandLine.{command_line}
use Rattle.site_words.specs.Said.{Said, ◌>>=◌, node_in, key_in, number_in, merge_in, workers_in}
use Rattle.site_words.specs.Said.{given_workers_in, dir_in, flag_in}
use Rattle.site_words.specs.declared.ids.TheConstants.{NODES, ROUNDS, PORT, COUNT, RESUME}

pub data Asked : Type 0 where
  -- the catalog of this node under the manifest that comes in
  manifest : Text → Asked
  -- the faults of the files of a bundle, or of this folder
  check : Option Text → Asked
  -- the catalog of this node under a bundle, or under this folder
  compile : Text → Option Text → Asked
  -- the history and the replies of a bundle's requests, one after another
  sequence : Asked
  -- the value that the data of a bundle, or of this folder, have for a node and a key, by this merge where one is given
  lookup : Text → Text → Option Merge → Option Text → Asked
  -- a run of this node's catalog on a machine; by this many workers, where they are said
  apply : Text → Option Text → Option ℕ → Asked
  -- what a run of the demo site with this many nodes comes to
  demo : ℕ → Asked
  -- the history and the replies of a bundle's requests, by this many workers
  batch : ℕ → Asked
  -- on this port, so many connections, over the site of this folder
  serve : ℕ → ℕ → Text → Asked
  -- on this port, so many connections, over the history of a journal
  serve_on : ℕ → ℕ → Asked
  -- whether a journal is that of a legal history
  audit : Asked
  -- a journal, in the version that is written today
  migrate : Asked
  -- the history and the replies of requests over the history of a journal, by this many workers
  resume : ℕ → Asked
  -- whether what the nodes of a bundle export settles in so many rounds, by this many workers
  settle : ℕ → ℕ → Asked
  -- the words are those of no command
  refused : Asked
  -- this word is the first that breaks the rule of its place: positional words in their order, and then options
  bad_word : Text → Asked

-- ---- each command: its words are looked at in the order in which they stand here

abbrev pub manifest_in : List Row → Said Asked
manifest_in rows = do
  node ← node_in rows
  Ok (manifest node)

abbrev pub check_in : List Row → Said Asked
check_in rows = Ok (check (dir_in rows))

abbrev pub compile_in : List Row → Said Asked
compile_in rows = do
  node ← node_in rows
  Ok (compile node (dir_in rows))

abbrev pub lookup_in : List Row → Said Asked
lookup_in rows = do
  node ← node_in rows
  key ← key_in rows
  merge ← merge_in rows
  Ok (lookup node key merge (dir_in rows))

abbrev pub apply_in : List Row → Said Asked
apply_in rows = do
  node ← node_in rows
  workers ← given_workers_in rows
  Ok (apply node (dir_in rows) workers)

abbrev pub demo_in : List Row → Said Asked
demo_in rows = do
  nodes ← number_in NODES.now MOST_DEMO_NODES rows
  Ok (demo nodes)

abbrev pub batch_in : List Row → Said Asked
batch_in rows = do
  workers ← workers_in rows
  Ok (batch workers)

-- over a folder or over a journal, and not over both: where both are named, or none, the option is told that is too
-- much or is wanting
abbrev pub served : ℕ → ℕ → Option Text → Bool → Said Asked
served port count (Some dir) false = Ok (serve port count dir)
served port count (Some dir) true = Err (codes "--resume")
served port count None true = Ok (serve_on port count)
served port count None false = Err (codes "--dir")

abbrev pub serve_in : List Row → Said Asked
serve_in rows = do
  port ← number_in PORT.now MOST_PORT rows
  count ← number_in COUNT.now MOST_CONNECTIONS rows
  served port count (dir_in rows) (flag_in RESUME.now rows)

abbrev pub resume_in : List Row → Said Asked
resume_in rows = do
  workers ← workers_in rows
  Ok (resume workers)

abbrev pub settle_in : List Row → Said Asked
settle_in rows = do
  rounds ← number_in ROUNDS.now MOST_ROUNDS rows
  workers ← workers_in rows
  Ok (settle rounds workers)

-- ---- all of them

abbrev pub asked_under : Text → List Row → Said Asked
asked_under name rows =
    if bytes_eq name (codes "manifest") then manifest_in rows
    else if bytes_eq name (codes "check") then check_in rows
    else if bytes_eq name (codes "compile") then compile_in rows
    else if bytes_eq name (codes "sequence") then Ok sequence
    else if bytes_eq name (codes "lookup") then lookup_in rows
    else if bytes_eq name (codes "apply") then apply_in rows
    else if bytes_eq name (codes "demo") then demo_in rows
    else if bytes_eq name (codes "batch") then batch_in rows
    else if bytes_eq name (codes "serve") then serve_in rows
    else if bytes_eq name (codes "audit") then Ok audit
    else if bytes_eq name (codes "migrate") then Ok migrate
    else if bytes_eq name (codes "resume") then resume_in rows
    else if bytes_eq name (codes "settle") then settle_in rows
    else Err name

-- `clap` refuses words that name no command (`a_command_is_named`)
abbrev pub asked_in : Option (Text × List Row) → Said Asked
asked_in None = Err []
asked_in (Some found) = asked_under found.0 found.1

abbrev pub told : Said Asked → Asked
told (Ok asked) = asked
told (Err word) = bad_word word

abbrev pub unless_refused : Kinds → Said Asked → Asked
unless_refused [] said = told said
unless_refused (kind ∷ kinds) said = refused

-- what the words ask for, which come without the program's name
abbrev pub asked_of : List Text → Asked
asked_of words = unless_refused (fault_of command_line words) (asked_in (subcommand_of command_line words))

-- the numbers are within their limits
abbrev pub IsWithin : Asked → Type 0
IsWithin (apply node dir workers) = IfSome workers (λ n. (1 ≤ n) × (n ≤ MOST_WORKERS))
IsWithin (demo nodes) = (1 ≤ nodes) × (nodes ≤ MOST_DEMO_NODES)
IsWithin (batch workers) = (1 ≤ workers) × (workers ≤ MOST_WORKERS)
IsWithin (serve port count dir) = (1 ≤ port) × (port ≤ MOST_PORT) × (1 ≤ count) × (count ≤ MOST_CONNECTIONS)
IsWithin (serve_on port count) = (1 ≤ port) × (port ≤ MOST_PORT) × (1 ≤ count) × (count ≤ MOST_CONNECTIONS)
IsWithin (resume workers) = (1 ≤ workers) × (workers ≤ MOST_WORKERS)
IsWithin (settle rounds workers) = (1 ≤ rounds) × (rounds ≤ MOST_ROUNDS) × (1 ≤ workers) × (workers ≤ MOST_WORKERS)
IsWithin asked = Unit {0}
