-- The command line is one of which `clap` says exactly what it makes of words.
use Rattle.std.proofs.Common.{◌≡◌, ◌≢◌, true, List, [], ◌∷◌, refl, subst, inl, inr}
use Rattle.clap.specs.Kinds.{HasKind, Kinds}
use Rattle.clap.specs.Values.{kind_of}
use Rattle.clap.specs.Walk.{Text}
use Rattle.clap.specs.Simple.{App, HasMatchesOf, is_simple, subcommand_of, subcommand_rows_of}
use Rattle.clap.specs.Faults.{fault_of, is_simple_and_free}
use Rattle.clap.specs.declared.error.Error.{Error}
use Rattle.clap.specs.declared.error.kind.ErrorKind.TheVariants.{OutOfMemory}
use Rattle.clap.specs.declared.parser.matches.ArgMatches.{ArgMatches}
use Rattle.std.specs.Prelude.{Err}
use Rattle.site_words.specs.Asked.{Asked, asked_in, refused, unless_refused}
use Rattle.site_words.specs.Said.{Said}
use Rattle.site_words.specs.Reading.{IsParsedAs, IsRefusal, Reads}
use Rattle.site_words.specs.declared.word_stop.WordStop.{WordStop}
use Rattle.site_words.specs.declared.word_stop.WordStop.TheVariants as stop
use Rattle.site_words.specs.CommandLine.{reading_line, bundle_line, served_line, journal_line, command_line}

pub command_line_is_simple : is_simple_and_free command_line ≡ true
unfolding reading_line bundle_line served_line journal_line command_line
command_line_is_simple = refl

is_simple_line : is_simple command_line ≡ true
unfolding reading_line bundle_line served_line journal_line command_line
is_simple_line = refl

-- what a parse by this command line says of the words that it takes
pub words_taken : (line : App) (words : List Text) (m : ArgMatches) → line ≡ command_line → HasMatchesOf line words m
    → (is_simple_and_free line ≡ true → fault_of line words ≡ [])
    → (fault_of command_line words ≡ []) × (subcommand_rows_of m ≡ subcommand_of command_line words)
words_taken line words m is has free =
    let has_matches = subst (λ (l : App). HasMatchesOf l words m) is has in
    let is_free = subst (λ (l : App). is_simple_and_free l ≡ true → fault_of l words ≡ []) is free in
    (is_free command_line_is_simple, (has_matches is_simple_line).1)

some_kind : (e : Error) (kinds : Kinds) → HasKind kinds e → kind_of e ≢ OutOfMemory → kinds ≢ []
some_kind e [] (inl memory) other = λ _. other memory
some_kind e [] (inr among) other = absurd among
some_kind e (k ∷ ks) has other = λ same. cc

-- and of those that it refuses
pub words_refused : (line : App) (words : List Text) (e : Error) (s : WordStop) → line ≡ command_line
    → (is_simple_and_free line ≡ true → HasKind (fault_of line words) e) → IsRefusal e s → IsParsedAs words (Err s)
words_refused line words e (stop.Refused text) is free other =
    let is_free = subst (λ (l : App). is_simple_and_free l ≡ true → HasKind (fault_of l words) e) is free in
    some_kind e (fault_of command_line words) (is_free command_line_is_simple) other
words_refused line words e (stop.BadWord word) is free other = other
words_refused line words e stop.Memory is free other = tt

is_refused : (kinds : Kinds) (said : Said Asked) → kinds ≢ [] → unless_refused kinds said ≡ refused
is_refused [] said some = absurd (some refl)
is_refused (k ∷ ks) said some = refl

-- so a parse that stops says what the words ask for
pub stop_reads : (words : List Text) (s : WordStop) → IsParsedAs words (Err s) → Reads words (Err s)
stop_reads words (stop.Refused text) some =
    is_refused (fault_of command_line words) (asked_in (subcommand_of command_line words)) some
stop_reads words (stop.BadWord word) none = absurd none
stop_reads words stop.Memory any = tt
