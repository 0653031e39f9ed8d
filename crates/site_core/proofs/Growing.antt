-- For callers: a snapshot goes on showing the first entries of its history when the history grows.
use Rattle.std.proofs.Common.{◌≡◌, ◌≤◌, [], ◌∷◌, length, sym, ◌∙◌, subst, arith}
use Rattle.std.proofs.lemmas.List.{length-append}
use Rattle.site_core.specs.Events.{Event}
use Rattle.site_core.specs.Snapshots.{Of, SnapshotsStay}
use Rattle.site_core.specs.Core.{Core, with_event}
use Rattle.site_core.specs.declared.snapshot.Snapshot.{Snapshot}
use Rattle.site_core.proofs.Sets.{sets_at-append, site_at-append}

module _ {S : Type 0} where
  pub stays : SnapshotsStay S
  stays s h more of =
      record {
        some = of.some;
        within = rw (length-append h more) (let within : s.k ≤ length h = of.within in omega arith);
        version_is = of.version_is ∙ sym (sets_at-append h more s.k of.within);
        site_is = site_at-append h more s.k of.within ∙ of.site_is;
      }

  -- as `done` and `deactivate` say it of a core
  pub stays_with : (s : Snapshot S) (old new : Core S) (e : Event S) → new ≡ with_event old e → Of s old.history →
      Of s new.history
  stays_with s old new e is of = let P : Core S → Type 0 = λ core. Of s core.history in
      subst P (sym is) (stays s old.history (e ∷ []) of)
