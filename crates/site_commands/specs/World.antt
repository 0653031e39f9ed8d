-- What a run of the program sees of the outside, and what it says there.
use Rattle.std.specs.Prelude.{ℕ, ◌⊎◌, List}
use Rattle.agent_machine.specs.Machines.{Told}
use Rattle.site_io.specs.Folders.{Folder}
use Rattle.site_io.specs.Net.{Net}
use Rattle.site_io.specs.Stream.{Stream, Rose, HasWritten}
use Rattle.site_io.specs.Transfer.{HasWrittenPart}

pub record World : Type 0 where
  pub source : Stream
  pub out : Stream
  pub err : Stream
  pub net : Net
  pub folder : Folder
  pub machine : Told

abbrev pub world : Stream → Stream → Stream → Net → Folder → Told → World
world source out err net folder machine =
    record { source = source; out = out; err = err; net = net; folder = folder; machine = machine }

-- a write failed, and what was written by then is a front of the text
abbrev pub FailsToSay : List ℕ → Stream → Stream → Type 0
FailsToSay text before after = Rose before.faults after.faults × HasWrittenPart text before after

-- the text was written, as far as the stream took it
abbrev pub Says : List ℕ → Stream → Stream → Type 0
Says text before after = HasWritten text before after ⊎ FailsToSay text before after
