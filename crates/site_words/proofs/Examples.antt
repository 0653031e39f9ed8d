-- What words ask for, on examples.
use Rattle.std.proofs.Common.{◌≡◌, List, [], ◌∷◌, refl, codes, replicate}
use Rattle.std.specs.Prelude.{Some, None}
use Rattle.clap.specs.Walk.{Text}
use Rattle.clap.specs.Faults.{fault_of}
use Rattle.clap.specs.declared.error.kind.ErrorKind.TheVariants as kind
use Rattle.clap.proofs.OnLiterals.{clap_on_literals}
use Rattle.hiera_merge.specs.declared.merge.Merge.TheVariants as by
use Rattle.site_words.specs.Asked.{asked_of, manifest, check, compile, sequence, lookup, apply, demo, batch, serve, serve_on, audit, migrate, resume, settle, refused, bad_word}
use Rattle.site_words.specs.CommandLine.{reading_line, bundle_line, served_line, journal_line, command_line}

-- a line of one, two or more words
abbrev one : Text → List Text
one a = a ∷ []

abbrev two : Text → Text → List Text
two a b = a ∷ b ∷ []

abbrev three : Text → Text → Text → List Text
three a b c = a ∷ b ∷ c ∷ []

abbrev lookup_with : List Text → List Text
lookup_with words = codes "lookup" ∷ codes "n" ∷ codes "k" ∷ words

-- a command alone, and its positional words
commands : (asked_of (two (codes "manifest") (codes "web-1.example_0")) ≡ manifest (codes "web-1.example_0"))
    × (asked_of (one (codes "sequence")) ≡ sequence)
    × (asked_of (one (codes "check")) ≡ check None)
    × (asked_of (two (codes "compile") (codes "n")) ≡ compile (codes "n") None)
    × (asked_of (three (codes "lookup") (codes "n") (codes "a::b")) ≡ lookup (codes "n") (codes "a::b") None None)
    × (asked_of (two (codes "apply") (codes "n")) ≡ apply (codes "n") None None)
    × (asked_of (two (codes "demo") (codes "4096")) ≡ demo 4096)
    × (asked_of (one (codes "batch")) ≡ batch 1)
    × (asked_of (codes "serve" ∷ codes "8080" ∷ codes "3" ∷ codes "--dir" ∷ codes "d" ∷ []) ≡ serve 8080 3 (codes "d"))
    × (asked_of (codes "serve" ∷ codes "8080" ∷ codes "3" ∷ codes "--resume" ∷ []) ≡ serve_on 8080 3)
    × (asked_of (one (codes "audit")) ≡ audit)
    × (asked_of (one (codes "migrate")) ≡ migrate)
    × (asked_of (one (codes "resume")) ≡ resume 1)
    × (asked_of (two (codes "settle") (codes "100")) ≡ settle 100 1)
unfolding reading_line bundle_line served_line journal_line command_line clap_on_literals
commands = (refl, refl, refl, refl, refl, refl, refl, refl, refl, refl, refl, refl, refl, refl)

-- options stand anywhere behind the command, as two words or as one
options : (asked_of (lookup_with (codes "--merge" ∷ codes "deep" ∷ [])) ≡ lookup (codes "n") (codes "k") (Some by.Deep) None)
    × (asked_of (codes "lookup" ∷ codes "--merge" ∷ codes "deep" ∷ codes "n" ∷ codes "k" ∷ [])
    ≡ lookup (codes "n") (codes "k") (Some by.Deep) None)
    × (asked_of (codes "lookup" ∷ codes "n" ∷ codes "--merge=first" ∷ codes "k" ∷ codes "--dir=d" ∷ [])
    ≡ lookup (codes "n") (codes "k") (Some by.First) (Some (codes "d")))
    × (asked_of (three (codes "check") (codes "--dir") (codes "-")) ≡ check (Some (codes "-")))
    × (asked_of (two (codes "check") (codes "--dir=-x")) ≡ check (Some (codes "-x")))
    × (asked_of (two (codes "check") (codes "--dir=")) ≡ check (Some []))
    × (asked_of (two (codes "batch") (codes "--workers=64")) ≡ batch 64)
    × (asked_of (three (codes "apply") (codes "n") (codes "--workers=1")) ≡ apply (codes "n") None (Some 1))
    × (asked_of (codes "apply" ∷ codes "--workers" ∷ codes "64" ∷ codes "--dir=d" ∷ codes "n" ∷ [])
    ≡ apply (codes "n") (Some (codes "d")) (Some 64))
    × (asked_of (three (codes "resume") (codes "--workers") (codes "8")) ≡ resume 8)
    × (asked_of (three (codes "settle") (codes "--workers=2") (codes "1")) ≡ settle 1 2)
    × (asked_of (codes "serve" ∷ codes "--resume" ∷ codes "8080" ∷ codes "3" ∷ []) ≡ serve_on 8080 3)
unfolding reading_line bundle_line served_line journal_line command_line clap_on_literals
options = (refl, refl, refl, refl, refl, refl, refl, refl, refl, refl, refl, refl)

-- behind `--` every word is positional, and `-` is one everywhere
positional_words : (asked_of (codes "lookup" ∷ codes "--" ∷ codes "n" ∷ codes "--merge" ∷ [])
    ≡ lookup (codes "n") (codes "--merge") None None)
    × (asked_of (three (codes "lookup") (codes "n") (codes "-")) ≡ lookup (codes "n") (codes "-") None None)
    × (asked_of (codes "lookup" ∷ codes "--merge" ∷ codes "hash" ∷ codes "--" ∷ codes "-n" ∷ codes "-k" ∷ [])
    ≡ lookup (codes "-n") (codes "-k") (Some by.Hash) None)
    × (asked_of (two (codes "manifest") (codes "--")) ≡ refused)
    × (asked_of (codes "check" ∷ codes "--" ∷ codes "--dir" ∷ codes "d" ∷ []) ≡ refused)
unfolding reading_line bundle_line served_line journal_line command_line clap_on_literals
positional_words = (refl, refl, refl, refl, refl)

-- what `clap` refuses
refusals : (fault_of command_line [] ≡ kind.MissingSubcommand ∷ [])
    × (asked_of [] ≡ refused)
    × (fault_of command_line (one (codes "manifest")) ≡ kind.MissingRequiredArgument ∷ [])
    × (fault_of command_line (three (codes "manifest") (codes "n") (codes "m")) ≡ kind.UnknownArgument ∷ [])
    × (fault_of command_line (two (codes "sequence") (codes "n")) ≡ kind.UnknownArgument ∷ [])
    × (fault_of command_line (two (codes "sequence") (codes "-x")) ≡ kind.UnknownArgument ∷ [])
    × (asked_of (one (codes "Sequence")) ≡ refused)
    × (asked_of (two (codes "help") (codes "check")) ≡ refused)
    × (fault_of command_line (one (codes "--help")) ≡ kind.DisplayHelp ∷ [])
    × (fault_of command_line (two (codes "check") (codes "-h")) ≡ kind.DisplayHelp ∷ [])
    × (fault_of command_line (two (codes "check") (codes "--merge=deep")) ≡ kind.UnknownArgument ∷ [])
    × (fault_of command_line (lookup_with (codes "--merg=deep" ∷ [])) ≡ kind.UnknownArgument ∷ [])
    × (fault_of command_line (codes "check" ∷ codes "--dir" ∷ codes "a" ∷ codes "--dir=a" ∷ []) ≡ kind.ArgumentConflict ∷ [])
    × (asked_of (three (codes "check") (codes "--dir") (codes "-x")) ≡ refused)
    × (asked_of (two (codes "check") (codes "--dir")) ≡ refused)
    × (fault_of command_line (three (codes "serve") (codes "80") (codes "--resume")) ≡ kind.MissingRequiredArgument ∷ [])
    × (fault_of command_line (codes "serve" ∷ codes "--resume" ∷ codes "80" ∷ codes "1" ∷ codes "--resume" ∷ [])
    ≡ kind.ArgumentConflict ∷ [])
    × (fault_of command_line (codes "serve" ∷ codes "80" ∷ codes "1" ∷ codes "--resume=j" ∷ []) ≡ kind.TooManyValues ∷ [])
    × (asked_of (three (codes "--dir") (codes "d") (codes "check")) ≡ refused)
    × (fault_of command_line (two (codes "sequence") (codes "--workers=2")) ≡ kind.UnknownArgument ∷ [])
    × (fault_of command_line (two (codes "audit") (codes "--workers=2")) ≡ kind.UnknownArgument ∷ [])
    × (fault_of command_line (two (codes "migrate") (codes "--dir=d")) ≡ kind.UnknownArgument ∷ [])
    × (fault_of command_line (one (codes "settle")) ≡ kind.MissingRequiredArgument ∷ [])
    × (fault_of command_line (codes "resume" ∷ codes "--workers=1" ∷ codes "--workers=1" ∷ []) ≡ kind.ArgumentConflict ∷ [])
    × (fault_of command_line (three (codes "resume") (codes "--dir") (codes "d")) ≡ kind.UnknownArgument ∷ [])
unfolding reading_line bundle_line served_line journal_line command_line clap_on_literals
refusals = (
  refl,
  refl,
  refl,
  refl,
  refl,
  refl,
  refl,
  refl,
  refl,
  refl,
  refl,
  refl,
  refl,
  refl,
  refl,
  refl,
  refl,
  refl,
  refl,
  refl,
  refl,
  refl,
  refl,
  refl,
  refl,
)

-- the first word that breaks its rule: positional words in order, then the values of options
bad_words : (asked_of (two (codes "manifest") (codes "Web")) ≡ bad_word (codes "Web"))
    × (asked_of (two (codes "manifest") []) ≡ bad_word [])
    × (asked_of (two (codes "manifest") (replicate 255 110)) ≡ manifest (replicate 255 110))
    × (asked_of (two (codes "manifest") (replicate 256 110)) ≡ bad_word (replicate 256 110))
    × (asked_of (three (codes "lookup") (codes "n") []) ≡ bad_word [])
    × (asked_of (codes "lookup" ∷ codes "--merge" ∷ codes "most" ∷ codes "N" ∷ [] ∷ []) ≡ bad_word (codes "N"))
    × (asked_of (codes "lookup" ∷ codes "--merge" ∷ codes "most" ∷ codes "n" ∷ [] ∷ []) ≡ bad_word [])
    × (asked_of (lookup_with (codes "--merge" ∷ codes "most" ∷ [])) ≡ bad_word (codes "most"))
    × (asked_of (lookup_with (codes "--merge=" ∷ [])) ≡ bad_word [])
    × (asked_of (two (codes "demo") (codes "4097")) ≡ bad_word (codes "4097"))
    × (asked_of (two (codes "demo") (codes "01")) ≡ bad_word (codes "01"))
    × (asked_of (two (codes "demo") (codes "0")) ≡ bad_word (codes "0"))
    × (asked_of (two (codes "batch") (codes "--workers=+4")) ≡ bad_word (codes "+4"))
    × (asked_of (codes "serve" ∷ codes "65536" ∷ codes "0" ∷ codes "--dir=d" ∷ []) ≡ bad_word (codes "65536"))
    × (asked_of (codes "serve" ∷ codes "65535" ∷ codes "1025" ∷ codes "--dir=d" ∷ []) ≡ bad_word (codes "1025"))
    × (asked_of (codes "serve" ∷ codes "80" ∷ codes "1" ∷ codes "--dir=d" ∷ codes "--resume" ∷ [])
    ≡ bad_word (codes "--resume"))
    × (asked_of (three (codes "serve") (codes "80") (codes "1")) ≡ bad_word (codes "--dir"))
    × (asked_of (three (codes "serve") (codes "80") (codes "0")) ≡ bad_word (codes "0"))
    × (asked_of (three (codes "apply") (codes "n") (codes "--workers=0")) ≡ bad_word (codes "0"))
    × (asked_of (three (codes "apply") (codes "N") (codes "--workers=0")) ≡ bad_word (codes "N"))
    × (asked_of (two (codes "resume") (codes "--workers=65")) ≡ bad_word (codes "65"))
    × (asked_of (two (codes "settle") (codes "101")) ≡ bad_word (codes "101"))
    × (asked_of (three (codes "settle") (codes "--workers=0") (codes "0")) ≡ bad_word (codes "0"))
    × (asked_of (three (codes "settle") (codes "--workers=x") (codes "07")) ≡ bad_word (codes "07"))
    × (asked_of (three (codes "settle") (codes "--workers=x") (codes "7")) ≡ bad_word (codes "x"))
unfolding reading_line bundle_line served_line journal_line command_line clap_on_literals
bad_words = (
  refl,
  refl,
  refl,
  refl,
  refl,
  refl,
  refl,
  refl,
  refl,
  refl,
  refl,
  refl,
  refl,
  refl,
  refl,
  refl,
  refl,
  refl,
  refl,
  refl,
  refl,
  refl,
  refl,
  refl,
  refl,
)
