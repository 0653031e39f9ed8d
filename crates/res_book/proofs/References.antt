-- References that are the same.
use Rattle.std.proofs.Common.{◌≡◌, Bool, true, false, ◌&&◌, refl}
use Rattle.std.proofs.lemmas.Slice.Eq.{bytes_eq-Decides}
use Rattle.std.specs.Str.{bytes_eq}
use Rattle.pp_values.specs.References.{same_reference, same_reference_equiv}
use Rattle.pp_values.specs.declared.reference.Reference.{Reference}

both : (a b : Bool) → (a && b) ≡ true → (a ≡ true) × (b ≡ true)
both true true e = (refl, refl)
both true false e = absurd cc
both false b e = absurd cc

pub same : (p q : Reference) → same_reference p q ≡ true → p ≡ q
same p q e =
    let parts = both (bytes_eq p.kind q.kind) (bytes_eq p.title q.title) e in
    λ i. record {
      kind = (bytes_eq-Decides p.kind q.kind).0 parts.0 i;
      title = (bytes_eq-Decides p.title q.title).0 parts.1 i;
    }

pub itself : (p : Reference) → same_reference p p ≡ true
itself = same_reference_equiv.refl

pub turned : (p q : Reference) → same_reference p q ≡ same_reference q p
turned = same_reference_equiv.symm
