-- What is written of an output, and what each ending of it means.
use Rattle.std.specs.Prelude.{◌≡◌, ◌⊎◌, ℕ, List, [], ◌∷◌, Result, Ok, Err, codes}
use Rattle.command_outputs.specs.Journals.{audited_output, migrated_output}
use Rattle.command_outputs.specs.Lines.{line}
use Rattle.command_outputs.specs.Outputs.{manifest_output, checked_output, compiled_output, looked_up_output, HasRun}
use Rattle.command_outputs.specs.Outputs.{HasShared, HasDemonstrated}
use Rattle.command_outputs.specs.Resuming.{HasResumed}
use Rattle.command_outputs.specs.Settling.{HasSettled}
use Rattle.command_outputs.specs.declared.output.Output.{Output}
use Rattle.command_outputs.specs.declared.output.Output.TheVariants as o
use Rattle.pp_values.specs.declared.memory.Memory.{Memory}
use Rattle.site_io.specs.Stream.{Stream, HasWritten}
use Rattle.site_words.specs.Asked as a
use Rattle.site_words.specs.Asked.{Asked}
use Rattle.site_commands.specs.Inputs.{Input, none, bytes, site, history, asking}
use Rattle.site_commands.specs.World.{Says, FailsToSay}
use Rattle.site_commands.specs.declared.ending.Ending.{Ending}
use Rattle.site_commands.specs.declared.ending.Ending.TheVariants as e

-- the output to a command, by what was read
abbrev pub IsOutput : Asked → Output → Input → Type 0
IsOutput (a.manifest node) output (bytes input) = output ≡ manifest_output node input
IsOutput (a.check dir) output (site said) = output ≡ checked_output said.site
IsOutput (a.compile node dir) output (site said) = output ≡ compiled_output said.site node
IsOutput a.sequence output (site said) = HasRun output said
IsOutput (a.lookup node key merge dir) output (site said) = output ≡ looked_up_output said.site node key merge
IsOutput (a.demo nodes) output none = HasDemonstrated nodes output
IsOutput (a.batch workers) output (site said) = HasShared workers output said
IsOutput a.audit output (history h) = output ≡ audited_output h
IsOutput a.migrate output (history h) = output ≡ migrated_output h
IsOutput (a.resume workers) output (asking h asked) = HasResumed workers output h asked
IsOutput (a.settle rounds workers) output (site said) = HasSettled rounds workers output said
IsOutput asked output input = ⊥

-- an error line alone
abbrev pub SaysOnly : List ℕ → Stream → Stream → Stream → Stream → Type 0
SaysOnly text out out' err err' = Says text err err' × (out' ≡ out)

-- the text was written whole, and the run ends so; or it was not, which is a write fault
abbrev pub WritesOr : Ending → Ending → List ℕ → Stream → Stream → Type 0
WritesOr e.WriteFault whole text before after = FailsToSay text before after
WritesOr ending whole text before after = (ending ≡ whole) × HasWritten text before after

-- the output was written whole, and then the line that memory was wanting; or it was not
abbrev pub WritesShort : Ending → List ℕ → Stream → Stream → Stream → Stream → Type 0
WritesShort e.WriteFault text out out' err err' = FailsToSay text out out' × (err' ≡ err)
WritesShort ending text out out' err err' = (ending ≡ e.Memory)
    × (HasWritten text out out' × Says (line (codes "memory")) err err')

-- the output was not written whole, and nothing of the line; or it was, and the line was not
abbrev pub FailsBoth : List ℕ → List ℕ → Stream → Stream → Stream → Stream → Type 0
FailsBoth text line out out' err err' =
    (FailsToSay text out out' × (err' ≡ err)) ⊎ (HasWritten text out out' × FailsToSay line err err')

-- the output was written whole, and then the line, and the run ends so; or one of them was not, which is a write fault
abbrev pub WritesBoth : Ending → Ending → List ℕ → List ℕ → Stream → Stream → Stream → Stream → Type 0
WritesBoth e.WriteFault whole text line out out' err err' = FailsBoth text line out out' err err'
WritesBoth ending whole text line out out' err err' = (ending ≡ whole)
    × (HasWritten text out out' × HasWritten line err err')

-- a log was written whole; where it has no lines, the stream was left alone
abbrev pub HasLogged : List ℕ → Stream → Stream → Type 0
HasLogged [] before after = after ≡ before
HasLogged (b ∷ bs) before after = HasWritten (b ∷ bs) before after

-- the log was written whole, and then the output; or the log was not, and nothing of the output; or the log was, and
-- the output was not
abbrev pub WritesLogged : Ending → List ℕ → List ℕ → Stream → Stream → Stream → Stream → Type 0
WritesLogged e.WriteFault log text out out' err err' = (FailsToSay log err err' × (out' ≡ out))
    ⊎ (HasLogged log err err' × FailsToSay text out out')
WritesLogged ending log text out out' err err' = (ending ≡ e.Done)
    × (HasLogged log err err' × HasWritten text out out')

-- what is written of an output; out and err, before and after
abbrev pub Delivers : Ending → Output → Stream → Stream → Stream → Stream → Type 0
Delivers ending (o.Done text) out out' err err' = WritesOr ending e.Done text out out' × (err' ≡ err)
Delivers ending (o.Compiled log text) out out' err err' = WritesLogged ending log text out out' err err'
Delivers ending (o.Refused text) out out' err err' = WritesOr ending e.Refused text out out' × (err' ≡ err)
Delivers ending (o.Faulty text line) out out' err err' = WritesBoth ending e.Refused text line out out' err err'
Delivers ending (o.Unsettled text line) out out' err err' = WritesBoth ending e.NotSettled text line out out' err err'
Delivers ending (o.Short text) out out' err err' = WritesShort ending text out out' err err'
Delivers ending (o.Fault text) out out' err err' = WritesOr ending e.Refused text err err' × (out' ≡ out)
Delivers ending (o.BadInput text) out out' err err' = (ending ≡ e.BadInput) × SaysOnly text out out' err err'

-- the output to the input was written, as far as the streams took it
pub record HasDelivered (ending : Ending) (asked : Asked) (input : Input) (out out' err err' : Stream) : Type 0 where
  pub output : Output
  pub is : IsOutput asked output input
  pub written : Delivers ending output out out' err err'

-- the output to the input was written, or memory was wanting for it
abbrev pub GivesOutput : Ending → Asked → Input → Stream → Stream → Stream → Stream → Type 0
GivesOutput e.Memory asked input out out' err err' =
    HasDelivered e.Memory asked input out out' err err' ⊎ SaysOnly (line (codes "memory")) out out' err err'
GivesOutput ending asked input out out' err err' = HasDelivered ending asked input out out' err err'

-- what was made for the output was written, or memory was wanting for it
abbrev pub WritesMade : Ending → Result Output Memory → Stream → Stream → Stream → Stream → Type 0
WritesMade ending (Ok output) out out' err err' = Delivers ending output out out' err err'
WritesMade ending (Err memory) out out' err err' =
    (ending ≡ e.Memory) × SaysOnly (line (codes "memory")) out out' err err'
