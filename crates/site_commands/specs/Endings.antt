-- What each ending of a run means: what the words ask for, what was read, and what was done and written.
use Rattle.std.specs.Prelude.{◌≡◌, ◌⊎◌, ℕ, List, ◌++◌, codes, string_bytes}
use Rattle.command_outputs.specs.Lines.{line}
use Rattle.site_io.specs.Stream.{Stream}
use Rattle.site_words.specs.Asked as a
use Rattle.site_words.specs.Asked.{Asked}
use Rattle.site_words.specs.declared.word_stop.WordStop.{WordStop}
use Rattle.site_words.specs.declared.word_stop.WordStop.TheVariants as w
use Rattle.site_commands.specs.Applying.{Applies}
use Rattle.site_commands.specs.Inputs.{Input, site, history, reading_of, HasInput, HasStoppedBy, whole_of, stop_text}
use Rattle.site_commands.specs.Inputs.{stop_ending}
use Rattle.site_commands.specs.Serving.{Serves, ServesOn}
use Rattle.site_commands.specs.Status.{status_of}
use Rattle.site_commands.specs.Work.{GivesOutput}
use Rattle.site_commands.specs.World.{World, Says}
use Rattle.site_commands.specs.declared.ending.Ending.{Ending}
use Rattle.site_commands.specs.declared.ending.Ending.TheVariants as e
use Rattle.site_commands.specs.declared.input.InputStop.{InputStop}

-- nothing was done but that a line was written to the error stream, as far as it took it
pub record SaysAlone (text : List ℕ) (before after : World) : Type 0 where
  pub source : after.source ≡ before.source
  pub out : after.out ≡ before.out
  pub said : Says text before.err after.err
  pub net : after.net ≡ before.net
  pub folder : after.folder ≡ before.folder
  pub machine : after.machine ≡ before.machine

-- ---- words

abbrev pub IsComplaint : Asked → Type 0
IsComplaint a.refused = Unit {0}
IsComplaint (a.bad_word word) = Unit {0}
IsComplaint asked = ⊥

-- some text where the words are those of no command, or the line for the first word that breaks its rule
abbrev pub Complains : Asked → World → World → Type 0
Complains a.refused before after = (text : List ℕ) × SaysAlone text before after
Complains (a.bad_word word) before after = SaysAlone (line (codes "bad word " ++ word)) before after
Complains asked before after = ⊥

-- what is said of faulty words, and how the run ends
abbrev pub Complained : Ending → WordStop → Stream → Stream → Type 0
Complained ending (w.Refused text) err err' = (ending ≡ e.BadWords) × Says (string_bytes text) err err'
Complained ending (w.BadWord word) err err' =
    (ending ≡ e.BadWords) × Says (line (codes "bad word " ++ word.now)) err err'
Complained ending w.Memory err err' = (ending ≡ e.Memory) × Says (line (codes "memory")) err err'

-- it may wait
abbrev pub IsShared : Asked → Type 0
IsShared (a.batch workers) = Unit {0}
IsShared (a.serve port count dir) = Unit {0}
IsShared (a.serve_on port count) = Unit {0}
IsShared (a.resume workers) = Unit {0}
IsShared (a.settle rounds workers) = Unit {0}
IsShared asked = ⊥

-- it waits for nobody
abbrev pub IsPlain : Asked → Type 0
IsPlain (a.batch workers) = ⊥
IsPlain (a.serve port count dir) = ⊥
IsPlain (a.serve_on port count) = ⊥
IsPlain (a.resume workers) = ⊥
IsPlain (a.settle rounds workers) = ⊥
IsPlain a.refused = ⊥
IsPlain (a.bad_word word) = ⊥
IsPlain asked = Unit {0}

-- ---- a command

-- reading stopped, and only the line that tells why was written
pub record HasStopped (ending : Ending) (asked : Asked) (before after : World) : Type 0 where
  pub stop : InputStop
  pub is : ending ≡ stop_ending stop
  pub read : HasStoppedBy stop (reading_of asked) before.source after.source before.folder after.folder
  pub said : Says (line (stop_text (whole_of asked) stop)) before.err after.err
  pub out : after.out ≡ before.out
  pub net : after.net ≡ before.net
  pub machine : after.machine ≡ before.machine

-- The work of a command on what was read ended so. `apply` alone calls the machine, and `serve` alone the listener.
abbrev pub Works : Ending → Asked → Input → World → World → Type 0
Works ending (a.apply node dir workers) (site said) before after =
    Applies ending workers node said before.out after.out before.err after.err before.machine after.machine
    × (after.net ≡ before.net)
Works ending (a.serve port count dir) (site said) before after =
    Serves ending said.site count before.out after.out before.err after.err before.net after.net
    × (after.machine ≡ before.machine)
Works ending (a.serve_on port count) (history h) before after =
    ServesOn ending h count before.out after.out before.err after.err before.net after.net
    × (after.machine ≡ before.machine)
Works ending asked input before after =
    GivesOutput ending asked input before.out after.out before.err after.err
    × ((after.net ≡ before.net) × (after.machine ≡ before.machine))

-- the input of a command was had, and the work on it ended so
pub record HasWorked (ending : Ending) (asked : Asked) (before after : World) : Type 0 where
  pub input : Input
  pub read : HasInput (reading_of asked) input before.source after.source before.folder after.folder
  pub work : Works ending asked input before after

-- ---- a run

-- A run on words that ask for this ended so. Before a command's work the source or the tree may have failed, or the
-- input may be none of its kind; and memory may have been wanting for the words.
abbrev pub Ends : Ending → Asked → World → World → Type 0
Ends e.BadWords asked before after = Complains asked before after
Ends e.ReadFault asked before after = HasStopped e.ReadFault asked before after
Ends e.TreeFault asked before after = HasStopped e.TreeFault asked before after
Ends e.BadInput asked before after =
    HasStopped e.BadInput asked before after ⊎ HasWorked e.BadInput asked before after
Ends e.Memory asked before after =
    SaysAlone (line (codes "memory")) before after
    ⊎ (HasStopped e.Memory asked before after ⊎ HasWorked e.Memory asked before after)
Ends ending asked before after = HasWorked ending asked before after

-- a run on words that ask for this ended with this status
pub record HasEnded (status : ℕ) (asked : Asked) (before after : World) : Type 0 where
  pub ending : Ending
  pub is : status ≡ status_of ending
  pub ends : Ends ending asked before after
