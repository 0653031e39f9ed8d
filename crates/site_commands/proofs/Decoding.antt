-- An ending, by its status.
use Rattle.std.proofs.Common.{◌≡◌, ℕ, sym, ap, ◌∙◌, refl}
use Rattle.std.specs.Prelude.{nat_eq, if◌then◌else◌}
use Rattle.site_commands.specs.Status.{status_of}
use Rattle.site_commands.specs.declared.ending.Ending.{Ending}
use Rattle.site_commands.specs.declared.ending.Ending.TheVariants as e

abbrev pub ending_of : ℕ → Ending
ending_of n =
    if nat_eq n 0 then e.Done else if nat_eq n 1 then e.Refused else if nat_eq n 2 then e.Changed else if nat_eq n 4
    then e.Failed else if nat_eq n 6 then e.ChangedAndFailed else if nat_eq n 10 then e.BadWords else if nat_eq n 11
    then e.BadInput else if nat_eq n 12 then e.ReadFault else if nat_eq n 13 then e.WriteFault else if nat_eq n 14
    then e.NetFault else if nat_eq n 15 then e.TreeFault else if nat_eq n 16 then e.Memory else e.NotSettled

ending_of-status : (ending : Ending) → ending_of (status_of ending) ≡ ending
ending_of-status e.Done = refl
ending_of-status e.Refused = refl
ending_of-status e.Changed = refl
ending_of-status e.Failed = refl
ending_of-status e.ChangedAndFailed = refl
ending_of-status e.BadWords = refl
ending_of-status e.BadInput = refl
ending_of-status e.ReadFault = refl
ending_of-status e.WriteFault = refl
ending_of-status e.NetFault = refl
ending_of-status e.TreeFault = refl
ending_of-status e.Memory = refl
ending_of-status e.NotSettled = refl

-- no two endings have one status
pub ending-is : (status : ℕ) (ending : Ending) (n : ℕ) → status ≡ status_of ending → status ≡ n → ending ≡ ending_of n
ending-is status ending n of is = sym (ending_of-status ending) ∙ ap ending_of (sym of ∙ is)
