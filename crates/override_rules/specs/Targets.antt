-- The order of references, by which lines are found.
use Rattle.std.specs.Prelude.{◌≡◌, ◌&&◌, nat_eq, refl}
use Rattle.std.proofs.Common.{sym, ap, ◌∙◌}
use Rattle.std.specs.declared.cmp.Ordering.{Ordering}
use Rattle.std.specs.declared.cmp.Ordering.TheVariants.{Less, Equal, Greater}
use Rattle.std.specs.Ordering.{nat_cmp, on, then_cmp, ordering_then, is_eq, eq_by_cmp}
use Rattle.std.specs.Cmp.{IsTotalOrder, on_total, then_total}
use Rattle.std.specs.Cmp.Lexicographic.{slice_cmp, pointwise, nat_list_cmp_total, texts_ties}
use Rattle.pp_values.specs.References.{same_reference}
use Rattle.pp_values.specs.declared.reference.Reference.{Reference}

-- by kind, then by title, both by their bytes
abbrev pub reference_cmp : Reference → Reference → Ordering
reference_cmp = then_cmp (on (λ r. r.kind) (slice_cmp nat_cmp)) (on (λ r. r.title) (slice_cmp nat_cmp))

pub reference_total : IsTotalOrder reference_cmp
reference_total = then_total (on_total (λ r. r.kind) nat_list_cmp_total) (on_total (λ r. r.title) nat_list_cmp_total)

pub is_eq-then : (p q : Ordering) → is_eq (ordering_then p q) ≡ (is_eq p && is_eq q)
is_eq-then Less q = refl
is_eq-then Equal q = refl
is_eq-then Greater q = refl

-- the references that the order doesn't tell apart are the same
pub same_by_cmp : (x y : Reference) → same_reference x y ≡ eq_by_cmp reference_cmp x y
same_by_cmp x y =
    ap (λ b. b && pointwise nat_eq x.title y.title) (texts_ties x.kind y.kind)
    ∙ ap (λ b. eq_by_cmp (slice_cmp nat_cmp) x.kind y.kind && b) (texts_ties x.title y.title)
    ∙ sym (is_eq-then (slice_cmp nat_cmp x.kind y.kind) (slice_cmp nat_cmp x.title y.title))
