-- What a run of the program means, from the words that the system hands to it to the status that it exits with.
use Rattle.std.specs.Prelude.{◌≡◌, ◌≢◌, ℕ, List, [], ◌∷◌, Result, Ok, Err, codes}
use Rattle.command_outputs.specs.Lines.{line}
use Rattle.std.specs.declared.alloc.Global.{Global}
use Rattle.std.specs.IoError.{error_kind}
use Rattle.std.specs.declared.io.Error.{Error}
use Rattle.std.specs.declared.io.ErrorKind.{ErrorKind}
use Rattle.std.specs.declared.io.ErrorKind.TheVariants.{OutOfMemory}
use Rattle.std.specs.declared.string.String.{String}
use Rattle.std.specs.declared.vec.Vec.{Vec}
use Rattle.site_words.specs.Asked.{asked_of}
use Rattle.site_words.specs.Reading.{texts_of}
use Rattle.site_commands.specs.Endings.{HasEnded, SaysAlone}
use Rattle.site_commands.specs.World.{World}

-- nothing was read, only this line was said, and the status is that one
pub record HasOnlySaid (text : List ℕ) (meant status : ℕ) (before after : World) : Type 0 where
  pub is : status ≡ meant
  pub said : SaysAlone (line text) before after

-- all that stands behind the program's name
abbrev pub without_name : {T : Type 0} → List T → List T
without_name [] = []
without_name (name ∷ words) = words

-- There are no words, by an error of this kind: for want of memory, or since one is no text.
pub record HasFailedOn (status : ℕ) (kind : ErrorKind) (before after : World) : Type 0 where
  pub memory : kind ≡ OutOfMemory → HasOnlySaid (codes "memory") 16 status before after
  pub no_texts : kind ≢ OutOfMemory → HasOnlySaid (codes "a word is no UTF-8") 10 status before after

-- The program ran on the words of its command line, without its name. Where there are none, it was said why.
abbrev pub HasRunOn : ℕ → Result (Vec (String Global) Global) Error → World → World → Type 0
HasRunOn status (Ok line) before after = HasEnded status (asked_of (texts_of (without_name line.items))) before after
HasRunOn status (Err error) before after = HasFailedOn status (error_kind error) before after
