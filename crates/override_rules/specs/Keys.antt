-- The order of defaults: by kind, then by scope, then by name.
use Rattle.std.specs.Prelude.{◌≡◌, Bool, ◌&&◌, nat_eq}
use Rattle.std.proofs.Common.{sym, ap, ◌∙◌}
use Rattle.std.specs.declared.cmp.Ordering.{Ordering}
use Rattle.std.specs.Ordering.{nat_cmp, on, then_cmp, eq_of_both, eq_by_cmp}
use Rattle.std.specs.Cmp.{IsTotalOrder, IsEquivalence, nat_cmp_total, nat_eq_equiv, on_total, then_total, and_equiv}
use Rattle.std.specs.Cmp.{on_equiv, unsigned_ties}
use Rattle.std.specs.Cmp.Lexicographic.{slice_cmp, pointwise, nat_list_cmp_total, nat_list_eq_equiv, texts_ties}
use Rattle.override_rules.specs.Targets.{is_eq-then}
use Rattle.override_rules.specs.declared.default_key.DefaultKey.{DefaultKey}

abbrev by_kind : DefaultKey → DefaultKey → Ordering
by_kind = on (λ k. k.kind) (slice_cmp nat_cmp)

abbrev by_scope : DefaultKey → DefaultKey → Ordering
by_scope = on (λ k. k.scope) nat_cmp

abbrev by_name : DefaultKey → DefaultKey → Ordering
by_name = on (λ k. k.name) (slice_cmp nat_cmp)

abbrev pub key_cmp : DefaultKey → DefaultKey → Ordering
key_cmp = then_cmp by_kind (then_cmp by_scope by_name)

pub key_total : IsTotalOrder key_cmp
key_total =
    then_total (on_total (λ k. k.kind) nat_list_cmp_total)
    (then_total (on_total (λ k. k.scope) nat_cmp_total) (on_total (λ k. k.name) nat_list_cmp_total))

abbrev pub same_key : DefaultKey → DefaultKey → Bool
same_key =
    eq_of_both (on (λ k. k.kind) (pointwise nat_eq))
    (eq_of_both (on (λ k. k.scope) nat_eq) (on (λ k. k.name) (pointwise nat_eq)))

pub same_key_equiv : IsEquivalence same_key
same_key_equiv =
    and_equiv (on_equiv (λ k. k.kind) nat_list_eq_equiv)
    (and_equiv (on_equiv (λ k. k.scope) nat_eq_equiv) (on_equiv (λ k. k.name) nat_list_eq_equiv))

rest_ties : (x y : DefaultKey) →
    (nat_eq x.scope y.scope && pointwise nat_eq x.name y.name) ≡ eq_by_cmp (then_cmp by_scope by_name) x y
rest_ties x y =
    ap (λ b. b && pointwise nat_eq x.name y.name) (unsigned_ties x.scope y.scope)
    ∙ ap (λ b. eq_by_cmp nat_cmp x.scope y.scope && b) (texts_ties x.name y.name)
    ∙ sym (is_eq-then (nat_cmp x.scope y.scope) (slice_cmp nat_cmp x.name y.name))

-- the keys that the order doesn't tell apart are the same
pub key_ties : (x y : DefaultKey) → same_key x y ≡ eq_by_cmp key_cmp x y
key_ties x y =
    ap (λ b. b && (nat_eq x.scope y.scope && pointwise nat_eq x.name y.name)) (texts_ties x.kind y.kind)
    ∙ ap (λ b. eq_by_cmp (slice_cmp nat_cmp) x.kind y.kind && b) (rest_ties x y)
    ∙ sym (is_eq-then (slice_cmp nat_cmp x.kind y.kind) (then_cmp by_scope by_name x y))
