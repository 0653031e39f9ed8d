-- What the code's answers say.
use Rattle.std.specs.Prelude.{◌≡◌, ◌≢◌, ⊤, List, [], map, option_map, string_bytes, Result, Ok, Err}
use Rattle.std.specs.declared.alloc.Global.{Global}
use Rattle.std.specs.declared.string.String.{String}
use Rattle.clap.specs.Words.{Text, fault_of, kind_of, subcommand_of, subcommand_rows_of}
use Rattle.clap.specs.declared.error.Error.{Error}
use Rattle.clap.specs.declared.error.kind.ErrorKind.TheVariants.{OutOfMemory}
use Rattle.clap.specs.declared.parser.matches.ArgMatches.{ArgMatches}
use Rattle.site_words.specs.Asked as a
use Rattle.site_words.specs.Asked.{Asked, asked_of}
use Rattle.site_words.specs.CommandLine.{command_line}
use Rattle.site_words.specs.Said.{Said}
use Rattle.site_words.specs.declared.command.Command.{Command}
use Rattle.site_words.specs.declared.command.Command.TheVariants as c
use Rattle.site_words.specs.declared.word_stop.BadWord.{BadWord}
use Rattle.site_words.specs.declared.word_stop.WordStop.{WordStop}
use Rattle.site_words.specs.declared.word_stop.WordStop.TheVariants as stop

abbrev pub texts_of : List (String Global) → List Text
texts_of words = map string_bytes words

-- what a command asks for
abbrev pub asked_by : Command → Asked
asked_by (c.Manifest node) = a.manifest node.now
asked_by (c.Check dir) = a.check (option_map (λ d. d.now) dir)
asked_by (c.Compile node dir) = a.compile node.now (option_map (λ d. d.now) dir)
asked_by c.Sequence = a.sequence
asked_by (c.Lookup node key merge dir) = a.lookup node.now key.now merge (option_map (λ d. d.now) dir)
asked_by (c.Apply node dir workers) = a.apply node.now (option_map (λ d. d.now) dir) workers
asked_by (c.Demo nodes) = a.demo nodes
asked_by (c.Batch workers) = a.batch workers
asked_by (c.Serve port count dir) = a.serve port count dir.now
asked_by (c.ServeOn port count) = a.serve_on port count
asked_by c.Audit = a.audit
asked_by c.Migrate = a.migrate
asked_by (c.Resume workers) = a.resume workers
asked_by (c.Settle rounds workers) = a.settle rounds workers

-- an answer of the code, where a value says something
abbrev pub saying : {A B : Type 0} → (A → B) → Result A BadWord → Said B
saying says (Ok x) = Ok (says x)
saying says (Err bad) = Err bad.word.now

-- an error of another cause than memory is a refusal, unless memory is wanting for its text
abbrev pub IsRefusal : Error → WordStop → Type 0
IsRefusal error (stop.Refused text) = kind_of error ≢ OutOfMemory
IsRefusal error (stop.BadWord word) = ⊥
IsRefusal error stop.Memory = ⊤

-- what `clap` makes of the words
abbrev pub IsParsedAs : List Text → Result ArgMatches WordStop → Type 0
IsParsedAs words (Ok matches) =
    (fault_of command_line words ≡ []) × (subcommand_rows_of matches ≡ subcommand_of command_line words)
IsParsedAs words (Err (stop.Refused text)) = fault_of command_line words ≢ []
IsParsedAs words (Err (stop.BadWord word)) = ⊥
IsParsedAs words (Err stop.Memory) = ⊤

-- Ok is what the words ask for. A refusal comes exactly where `clap` refuses them for another cause than memory, and a
-- bad word exactly where it takes them and that word is the first that breaks its rule.
abbrev pub Reads : List Text → Result Command WordStop → Type 0
Reads words (Ok command) = asked_of words ≡ asked_by command
Reads words (Err (stop.Refused text)) = asked_of words ≡ a.refused
Reads words (Err (stop.BadWord word)) = asked_of words ≡ a.bad_word word.now
Reads words (Err stop.Memory) = ⊤
