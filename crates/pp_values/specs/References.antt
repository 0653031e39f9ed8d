-- References: the kind and the title of a resource.
use Rattle.std.specs.Prelude.{Bool, nat_eq}
use Rattle.std.specs.Ordering.{on, eq_of_both}
use Rattle.std.specs.Cmp.{IsEquivalence, and_equiv, on_equiv}
use Rattle.std.specs.Cmp.Lexicographic.{pointwise, nat_list_eq_equiv}
use Rattle.pp_values.specs.declared.reference.Reference.{Reference}

-- two references are the same where kind and title are, letter by letter
abbrev pub same_reference : Reference → Reference → Bool
same_reference = eq_of_both (on (λ r. r.kind) (pointwise nat_eq)) (on (λ r. r.title) (pointwise nat_eq))

pub same_reference_equiv : IsEquivalence same_reference
same_reference_equiv = and_equiv (on_equiv (λ r. r.kind) nat_list_eq_equiv) (on_equiv (λ r. r.title) nat_list_eq_equiv)
