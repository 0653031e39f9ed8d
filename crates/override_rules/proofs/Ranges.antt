-- The defaults of one scope for one kind stand side by side in the order of their keys.
use Rattle.std.proofs.Common.{◌≡◌, ℕ, ◌+◌, ◌<◌, ◌==◌, Bool, true, false, not, ◌&&◌, cond, List, [], ◌∷◌, map, filter, refl, sym, ap, ◌∙◌, arith}
use Rattle.std.proofs.lemmas.Bool.{ne_eqb, eq-eqb}
use Rattle.std.proofs.lemmas.List.Elements.{filter_agree}
use Rattle.std.specs.BTreeMap.Range.{range_contains, entries_between}
use Rattle.std.specs.Cmp.{ranks, nat_cmp_is, tied_itself}
use Rattle.std.specs.Cmp.Lexicographic.{slice_cmp, texts_ties, nat_list_cmp_total}
use Rattle.std.specs.declared.cmp.Ordering.{Ordering}
use Rattle.std.specs.declared.cmp.Ordering.TheVariants.{Less, Equal, Greater}
use Rattle.std.specs.declared.ops.Bound.TheVariants.{Included, Excluded}
use Rattle.std.specs.Ordering.{nat_cmp, ordering_then, is_eq, is_le, is_gt, MatchOrdering}
use Rattle.pp_values.specs.declared.value.Value.{Value}
use Rattle.override_rules.specs.Defaults.{default_key}
use Rattle.override_rules.specs.Inside.{default_of, defaults_of}
use Rattle.override_rules.specs.Keys.{key_cmp}
use Rattle.override_rules.specs.Names.{is_for, names_in}
use Rattle.override_rules.specs.declared.default_key.DefaultKey.{DefaultKey}

no_name_first : (name : List ℕ) → is_le (slice_cmp nat_cmp [] name) ≡ true
no_name_first [] = refl
no_name_first (b ∷ bs) = refl

le_alone : (o p : Ordering) → is_le p ≡ true → is_le (ordering_then o p) ≡ is_le o
le_alone Less p e = refl
le_alone Equal p e = e
le_alone Greater p e = refl

this_one : (o p : Ordering) (s k : ℕ) → MatchOrdering o (s < k) (s ≡ k) (k < s) →
    MatchOrdering p (s + 1 < k) (s + 1 ≡ k) (k < s + 1) → (is_le o && not (is_le p)) ≡ (s == k)
this_one Less Less s k a b = sym (ne_eqb s k (λ e. omega arith))
this_one Less Equal s k a b = sym (ne_eqb s k (λ e. omega arith))
this_one Less Greater s k a b = absurd (omega arith)
this_one Equal Less s k a b = absurd (omega arith)
this_one Equal Equal s k a b = absurd (omega arith)
this_one Equal Greater s k a b = sym (eq-eqb s k a)
this_one Greater p s k a b = sym (ne_eqb s k (λ e. omega arith))

by_kind : (o b c : Ordering) (same : Bool) → (is_le b && not (is_le c)) ≡ same →
    (is_le (ordering_then o b) && not (is_le (ordering_then o c))) ≡ (is_eq o && same)
by_kind Less b c same e = refl
by_kind Equal b c same e = e
by_kind Greater b c same e = refl

between : (kind : List ℕ) (scope : ℕ) (k : DefaultKey) →
    range_contains key_cmp (Included (default_key kind scope [])) (Excluded (default_key kind (scope + 1) [])) k
    ≡ is_for kind scope k
between kind scope k =
    let low = nat_cmp scope k.scope in
    let high = nat_cmp (scope + 1) k.scope in
    let name = slice_cmp nat_cmp [] k.name in
    by_kind (slice_cmp nat_cmp kind k.kind) (ordering_then low name) (ordering_then high name) (scope == k.scope)
    (ap (λ b. b && not (is_le (ordering_then high name))) (le_alone low name (no_name_first k.name))
    ∙ ap (λ b. is_le low && not b) (le_alone high name (no_name_first k.name))
    ∙ this_one low high scope k.scope (ranks scope k.scope) (ranks (scope + 1) k.scope))
    ∙ ap (λ b. b && (scope == k.scope)) (sym (texts_ties kind k.kind))

names_seen : (test : DefaultKey → Bool) (es : List (DefaultKey × Value)) →
    map (λ d. d.0.name) (filter (λ d. test d.0) (defaults_of es)) ≡ map (λ e. e.0.name) (filter (λ e. test e.0) es)
names_seen test [] = refl
names_seen test (e ∷ es) =
    elim (test e.0) as (λ b. map (λ d. d.0.name) (cond b (default_of e ∷ filter (λ d. test d.0) (defaults_of es))
    (filter (λ d. test d.0) (defaults_of es))) ≡ map (λ x. x.0.name) (cond b (e ∷ filter (λ x. test x.0) es)
    (filter (λ x. test x.0) es)))
    [ true ↦ ap (λ t. e.0.name ∷ t) (names_seen test es) | false ↦ names_seen test es ]

-- the names between the bounds are those of the scope for the kind
pub names_between : (kind : List ℕ) (scope : ℕ) (es : List (DefaultKey × Value)) →
    map (λ e. e.0.name) (entries_between key_cmp (Included (default_key kind scope []))
    (Excluded (default_key kind (scope + 1) [])) es)
    ≡ names_in (defaults_of es) kind scope
names_between kind scope es =
    ap (map (λ e. e.0.name)) (filter_agree _ (λ e. is_for kind scope e.0) (λ e. between kind scope e.0) es)
    ∙ sym (names_seen (is_for kind scope) es)

-- the bounds stand in their order
pub forward : (kind : List ℕ) (scope : ℕ) →
    is_gt (key_cmp (default_key kind scope []) (default_key kind (scope + 1) [])) ≡ false
forward kind scope =
    ap (λ o. is_gt (ordering_then o (ordering_then (nat_cmp scope (scope + 1)) Equal)))
    (tied_itself nat_list_cmp_total kind)
    ∙ ap (λ o. is_gt (ordering_then o Equal)) (sym (nat_cmp_is scope (scope + 1) Less (omega arith)))
