-- References that are printed alike are the same.
use Rattle.std.proofs.Common.{◌≡◌, ℕ, ◌==◌, Bool, true, false, IsTrue, if◌then◌else◌, List, [], ◌∷◌, ◌++◌, codes, refl, sym, ap, subst, arith, get_or, drop, ◌∙◌}
use Rattle.std.specs.Char.{to_ascii_uppercase}
use Rattle.std.specs.Cmp.{first_so, second_so}
use Rattle.std.specs.List.{list_all}
use Rattle.std.proofs.lemmas.List.{append_cancel_right}
use Rattle.pp_values.specs.declared.reference.Reference.{Reference}
use Rattle.pp_values.specs.Kinds.{is_kind_byte, is_kind}
use Rattle.pp_values.specs.Words.{capitalised_after, kind_text, reference_text}

-- a byte as it stands after a colon, or after another byte
abbrev shown : Bool → ℕ → ℕ
shown after b = if after then to_ascii_uppercase b else b

-- bytes of kinds are told apart as they are shown, and none is shown as `[`
same_byte : (after : Bool) (a b : ℕ) → is_kind_byte a ≡ true → is_kind_byte b ≡ true → shown after a ≡ shown after b → a ≡ b
same_byte true a b h k e = grind arith
same_byte false a b h k e = e

no_bracket : (after : Bool) (b : ℕ) → is_kind_byte b ≡ true → shown after b ≡ 91 → ⊥
no_bracket true b h e = grind arith
no_bracket false b h e = grind arith

abbrev first : List ℕ → ℕ
first bs = get_or bs 0 0

-- the kind ends at the first `[`
apart : (last : ℕ) (xs ys s t : List ℕ) → list_all is_kind_byte xs ≡ true → list_all is_kind_byte ys ≡ true →
    capitalised_after last xs ++ 91 ∷ s ≡ capitalised_after last ys ++ 91 ∷ t → (xs ≡ ys) × (s ≡ t)
apart last [] [] s t h k e = (refl, ap (drop 1) e)
apart last [] (y ∷ ys) s t h k e = absurd (no_bracket (last == 58) y (first_so _ _ k) (sym (ap first e)))
apart last (x ∷ xs) [] s t h k e = absurd (no_bracket (last == 58) x (first_so _ _ h) (ap first e))
apart last (x ∷ xs) (y ∷ ys) s t h k e =
    let same : x ≡ y = same_byte (last == 58) x y (first_so _ _ h) (first_so _ _ k) (ap first e) in
    let rest : (xs ≡ ys) × (s ≡ t) = apart x xs ys s t (second_so _ _ h) (second_so _ _ k)
    (subst (λ z. capitalised_after x xs ++ 91 ∷ s ≡ capitalised_after z ys ++ 91 ∷ t) (sym same) (ap (drop 1) e)) in
    (λ i. same i ∷ rest.0 i, rest.1)

kind_bytes : (k : List ℕ) → IsTrue (is_kind k) → list_all is_kind_byte k ≡ true
kind_bytes [] h = refl
kind_bytes (b ∷ bs) h = h

rejoined : (k t : List ℕ) → k ++ codes "[" ++ t ++ codes "]" ≡ k ++ 91 ∷ (t ++ codes "]")
rejoined [] t = refl
rejoined (b ∷ bs) t = ap (λ xs. b ∷ xs) (rejoined bs t)

pub printed_apart : (r s : Reference) →
    IsTrue (is_kind r.kind) → IsTrue (is_kind s.kind) → reference_text r ≡ reference_text s → r ≡ s
printed_apart r s h k e =
    let parts : (r.kind ≡ s.kind) × (r.title ++ codes "]" ≡ s.title ++ codes "]") =
    apart 58 r.kind s.kind (r.title ++ codes "]") (s.title ++ codes "]") (kind_bytes r.kind h) (kind_bytes s.kind k)
    (sym (rejoined (kind_text r.kind) r.title) ∙ e ∙ rejoined (kind_text s.kind) s.title) in
    let titles : r.title ≡ s.title = append_cancel_right r.title s.title (codes "]") parts.1 in
    λ i. record { kind = parts.0 i; title = titles i }
