-- From the parts of a run to how it ended.
use Rattle.std.proofs.Common.{◌≡◌, ◌⊎◌, ℕ, List, sym, subst, refl, inl, inr}
use Rattle.std.specs.Prelude.{Result, Ok, Err, IfOk}
use Rattle.command_outputs.specs.Lines.{line}
use Rattle.command_outputs.specs.declared.output.Output.{Output}
use Rattle.command_outputs.specs.declared.output.Output.TheVariants as o
use Rattle.pp_values.specs.declared.memory.Memory.{Memory}
use Rattle.site_bundle.specs.declared.bundle_stop.BundleStop.TheVariants as b
use Rattle.site_io.specs.Stream.{Stream}
use Rattle.site_io.specs.declared.transfer.ReadStop.TheVariants as r
use Rattle.site_words.specs.Asked.{Asked}
use Rattle.site_commands.specs.Endings.{Ends, HasStopped, HasWorked, Works}
use Rattle.site_commands.specs.Inputs.{Input, reading_of, HasInput, HasStoppedBy, whole_of, stop_text, stop_ending}
use Rattle.site_commands.specs.Work.{IsOutput, Delivers, GivesOutput, HasDelivered, WritesBoth, WritesOr, WritesLogged, WritesShort, WritesMade}
use Rattle.site_commands.specs.World.{World, Says}
use Rattle.site_commands.specs.declared.ending.Ending.{Ending}
use Rattle.site_commands.specs.declared.ending.Ending.TheVariants as e
use Rattle.site_commands.specs.declared.input.InputStop.{InputStop}
use Rattle.site_commands.specs.declared.input.InputStop.TheVariants as i

-- an ending that work may have
abbrev pub IsOfWork : Ending → Type 0
IsOfWork e.BadWords = ⊥
IsOfWork e.ReadFault = ⊥
IsOfWork e.TreeFault = ⊥
IsOfWork ending = Unit {0}

pub ends_worked : (ending : Ending) (asked : Asked) (before after : World) → IsOfWork ending →
    HasWorked ending asked before after → Ends ending asked before after
ends_worked e.Done asked before after of_work worked = worked
ends_worked e.Refused asked before after of_work worked = worked
ends_worked e.Changed asked before after of_work worked = worked
ends_worked e.Failed asked before after of_work worked = worked
ends_worked e.ChangedAndFailed asked before after of_work worked = worked
ends_worked e.BadWords asked before after of_work worked = absurd of_work
ends_worked e.BadInput asked before after of_work worked = inr worked
ends_worked e.ReadFault asked before after of_work worked = absurd of_work
ends_worked e.WriteFault asked before after of_work worked = worked
ends_worked e.NetFault asked before after of_work worked = worked
ends_worked e.TreeFault asked before after of_work worked = absurd of_work
ends_worked e.Memory asked before after of_work worked = inr (inr worked)
ends_worked e.NotSettled asked before after of_work worked = worked

-- ---- outputs

-- how a run ends that writes all of an output
abbrev pub output_ending : Output → Ending
output_ending (o.Done text) = e.Done
output_ending (o.Compiled log text) = e.Done
output_ending (o.Refused text) = e.Refused
output_ending (o.Faulty text line) = e.Refused
output_ending (o.Unsettled text line) = e.NotSettled
output_ending (o.Short text) = e.Memory
output_ending (o.Fault text) = e.Refused
output_ending (o.BadInput text) = e.BadInput

pub ending-writes : (ending whole : Ending) (text : List ℕ) (s t : Stream) → WritesOr ending whole text s t →
    (ending ≡ whole) ⊎ (ending ≡ e.WriteFault)
ending-writes e.WriteFault whole text s t did = inr refl
ending-writes ending whole text s t did = inl did.0

ending-logged : (ending : Ending) (log text : List ℕ) (out out' err err' : Stream) →
    WritesLogged ending log text out out' err err' → (ending ≡ e.Done) ⊎ (ending ≡ e.WriteFault)
ending-logged e.WriteFault log text out out' err err' did = inr refl
ending-logged ending log text out out' err err' did = inl did.0

ending-both : (ending whole : Ending) (text line : List ℕ) (out out' err err' : Stream) →
    WritesBoth ending whole text line out out' err err' → (ending ≡ whole) ⊎ (ending ≡ e.WriteFault)
ending-both e.WriteFault whole text line out out' err err' did = inr refl
ending-both ending whole text line out out' err err' did = inl did.0

ending-short : (ending : Ending) (text : List ℕ) (out out' err err' : Stream) →
    WritesShort ending text out out' err err' → (ending ≡ e.Memory) ⊎ (ending ≡ e.WriteFault)
ending-short e.WriteFault text out out' err err' did = inr refl
ending-short ending text out out' err err' did = inl did.0

-- a run that delivers an output ends as it tells, unless writing failed
pub ending-delivers : (ending : Ending) (output : Output) (out out' err err' : Stream) →
    Delivers ending output out out' err err' → (ending ≡ output_ending output) ⊎ (ending ≡ e.WriteFault)
ending-delivers ending (o.Done text) out out' err err' did = ending-writes ending e.Done text out out' did.0
ending-delivers ending (o.Compiled log text) out out' err err' did = ending-logged ending log text out out' err err' did
ending-delivers ending (o.Refused text) out out' err err' did = ending-writes ending e.Refused text out out' did.0
ending-delivers ending (o.Faulty text line) out out' err err' did =
    ending-both ending e.Refused text line out out' err err' did
ending-delivers ending (o.Unsettled text line) out out' err err' did =
    ending-both ending e.NotSettled text line out out' err err' did
ending-delivers ending (o.Short text) out out' err err' did = ending-short ending text out out' err err' did
ending-delivers ending (o.Fault text) out out' err err' did = ending-writes ending e.Refused text err err' did.0
ending-delivers ending (o.BadInput text) out out' err err' did = inl did.0

output_ending-of_work : (output : Output) → IsOfWork (output_ending output)
output_ending-of_work (o.Done text) = tt
output_ending-of_work (o.Compiled log text) = tt
output_ending-of_work (o.Refused text) = tt
output_ending-of_work (o.Faulty text line) = tt
output_ending-of_work (o.Unsettled text line) = tt
output_ending-of_work (o.Short text) = tt
output_ending-of_work (o.Fault text) = tt
output_ending-of_work (o.BadInput text) = tt

pub either_of_work : (ending whole : Ending) → IsOfWork whole → (ending ≡ whole) ⊎ (ending ≡ e.WriteFault) →
    IsOfWork ending
either_of_work ending whole of_work (inl is) = subst IsOfWork (sym is) of_work
either_of_work ending whole of_work (inr is) = subst IsOfWork (sym is) tt

delivered_of_work : (ending : Ending) (output : Output) (out out' err err' : Stream) →
    Delivers ending output out out' err err' → IsOfWork ending
delivered_of_work ending output out out' err err' did =
    either_of_work ending (output_ending output) (output_ending-of_work output)
    (ending-delivers ending output out out' err err' did)

made_of_work : (ending : Ending) (made : Result Output Memory) (out out' err err' : Stream) →
    WritesMade ending made out out' err err' → IsOfWork ending
made_of_work ending (Ok output) out out' err err' did = delivered_of_work ending output out out' err err' did
made_of_work ending (Err memory) out out' err err' did = subst IsOfWork (sym did.0) tt

delivered : (ending : Ending) (asked : Asked) (input : Input) (out out' err err' : Stream) →
    HasDelivered ending asked input out out' err err' → GivesOutput ending asked input out out' err err'
delivered e.Memory asked input out out' err err' did = inl did
delivered ending asked input out out' err err' did = did

gives : (ending : Ending) (made : Result Output Memory) (asked : Asked) (input : Input) (out out' err err' : Stream) →
    IfOk made (λ output. IsOutput asked output input) → WritesMade ending made out out' err err' →
    GivesOutput ending asked input out out' err err'
gives ending (Ok output) asked input out out' err err' is did =
    delivered ending asked input out out' err err' (record { output = output; is = is; written = did })
gives ending (Err memory) asked input out out' err err' is did =
    subst (λ x. GivesOutput x asked input out out' err err') (sym did.0) (inr did.1)

-- where the input was had, and what was made for the output of it was written, the run ended so
pub ends_made : (ending : Ending) (made : Result Output Memory) (asked : Asked) (input : Input) (before after : World) →
    (GivesOutput ending asked input before.out after.out before.err after.err → Works ending asked input before after) →
    HasInput (reading_of asked) input before.source after.source before.folder after.folder →
    IfOk made (λ output. IsOutput asked output input) →
    WritesMade ending made before.out after.out before.err after.err → Ends ending asked before after
ends_made ending made asked input before after works read is did =
    ends_worked ending asked before after (made_of_work ending made before.out after.out before.err after.err did)
    (record {
      input = input;
      read = read;
      work = works (gives ending made asked input before.out after.out before.err after.err is did);
    })

-- ---- stops

stops : (stop : InputStop) (asked : Asked) (before after : World) → HasStopped (stop_ending stop) asked before after →
    Ends (stop_ending stop) asked before after
stops (i.Unread r.Fault) asked before after did = did
stops (i.Unread r.TooLong) asked before after did = inl did
stops (i.Unread r.Memory) asked before after did = inr (inl did)
stops (i.Refused b.NotJson) asked before after did = inl did
stops (i.Refused (b.BadShape path)) asked before after did = inl did
stops (i.Refused (b.TooLarge path)) asked before after did = inl did
stops (i.Refused (b.TreeFault path)) asked before after did = did
stops (i.Refused b.Memory) asked before after did = inr (inl did)
stops (i.BadLine number) asked before after did = inl did
stops i.TooManyEntries asked before after did = inl did

-- where reading stopped, and that was said, the run ended so
pub ends_stopped : (stop : InputStop) (ending : Ending) (asked : Asked) (before after : World) →
    ending ≡ stop_ending stop →
    HasStoppedBy stop (reading_of asked) before.source after.source before.folder after.folder →
    Says (line (stop_text (whole_of asked) stop)) before.err after.err → after.out ≡ before.out →
    after.net ≡ before.net →
    after.machine ≡ before.machine → Ends ending asked before after
ends_stopped stop ending asked before after is read said out net machine =
    subst (λ x. Ends x asked before after) (sym is)
    (stops stop asked before after
    (record { stop = stop; is = refl; read = read; said = said; out = out; net = net; machine = machine }))
