-- What workers come back with, joined.
use Rattle.std.specs.Prelude.{◌≡◌, ℕ, ◌+◌, ◌≤◌, List, [], ◌∷◌, ◌++◌, Option, Some, None, IsSome, Vec, option_map}
use Rattle.std.specs.List.{AllZip}
use Rattle.std.specs.declared.alloc.Global.{Global}
use mathlib.Core.List.{IsPrefix}
use Rattle.list_sums.specs.Counts.{total, times}
use Rattle.hist_lock.specs.Held.{LockId}
use Rattle.site_core.specs.Asked.{Asked}
use Rattle.site_core.specs.Meaning.{Meaning}
use Rattle.site_core.specs.Fits.{Listed}
use Rattle.site_core.specs.declared.reply.ReplyOf.{ReplyOf}
use Rattle.shared_site.specs.Shows.{Terms}
use Rattle.shared_site.specs.Known.{Known, held}
use Rattle.work_pool.specs.Seats.{ClaimsId, Claimant}
use Rattle.site_batch.specs.declared.answered.Answered.{Answered}
use Rattle.site_batch.specs.declared.finished.Finished.{Finished}
use Rattle.site_core.specs.Each.{Each}
use Rattle.site_batch.specs.Shares.{Share}
use Rattle.site_batch.specs.Work.{HasWorked}

-- a pass and a seat that were worked with, and the answers, or none for want of memory
abbrev pub Out : Type 0 → Type 0 → Type 0
Out S T = Finished (Known S) T

module _ {T : Type 0} where
  abbrev pub kept : Option (Vec (Answered T) Global) → List (Answered T)
  kept None = []
  kept (Some answers) = answers.items

  abbrev pub shown : Option (Vec (Answered T) Global) → Option (List (Answered T))
  shown answers = option_map (λ v. v.items) answers

module _ {S T : Type 0} where
  -- all answers
  abbrev pub all_answers : List (Out S T) → List (Answered T)
  all_answers [] = []
  all_answers (out ∷ outs) = all_answers outs ++ kept out.answers

  abbrev pub IsOf : LockId → ClaimsId → Out S T → Type 0
  IsOf id claims out = (out.pass.site ≡ id) × (out.seat.claims ≡ claims)

  -- these pass and seat stand for those of all outs, and these are all answers
  pub record AreGathered (outs : List (Out S T)) (pass : Known S) (seat : Claimant) (answers : List (Answered T)) : Type
      0 where
    pub fronts : Each (λ out. IsPrefix out.pass.front pass.front) outs
    pub terms : (terms : Terms) → Each (λ out. out.pass.terms ≡ terms) outs → pass.terms ≡ terms
    pub own : (k : ℕ) → times k pass.own ≡ total (λ out. times k out.pass.own) outs
    pub passes : pass.room + held pass ≡ total (λ out. out.pass.room + held out.pass) outs
    pub known : Each (λ out. out.seat.known ≤ seat.known) outs
    pub drawn : (k : ℕ) → times k seat.numbers ≡ total (λ out. times k out.seat.numbers) outs
    pub seats : seat.room + seat.held ≡ total (λ out. out.seat.room + out.seat.held) outs
    pub kept_all : Each (λ out. IsSome out.answers) outs
    pub answers_are : answers ≡ all_answers outs

-- each share was worked with, and this came of it
abbrev pub AreWorked : {S C F : Type 0} → Meaning S C F → Listed S → List (Asked S) → List (Share S) →
    List (Out S (ReplyOf C F)) → Type 0
AreWorked meaning listed requests shares outs =
    AllZip (λ share out. HasWorked meaning listed requests share.0 share.1 out.pass out.seat (shown out.answers)) shares
    outs
