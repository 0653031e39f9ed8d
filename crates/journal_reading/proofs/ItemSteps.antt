-- One item of a list after another.
use Rattle.std.proofs.Common.{◌≡◌, ◌≤◌, ◌-◌, List, [], ◌∷◌, ◌++◌, length, take, drop, get_or, Option, Some, None, option_map, refl, ap, sym, ◌∙◌, arith, append_assoc}
use Rattle.std.proofs.lemmas.Grind.{common_steps}
use Rattle.serde_json.specs.declared.value.Value.{Value}
use Rattle.serde_json.specs.View.{view, items_view}
use Rattle.res_core.specs.declared.exported.Exported.{Exported}
use Rattle.json_values.specs.FromData.{both}
use Rattle.journal_reading.specs.EntryReading.{export_said, exports_said}

rest_of : (y : Value) (ys : List Value) → take (length (y ∷ ys) - 1) (drop 1 (y ∷ ys)) ≡ ys
rest_of y ys = grind (arith, common_steps)

first_of : (xs : List Value) (x : Value) → 1 ≤ length xs → x ≡ get_or xs 0 x → xs ≡ x ∷
    take (length xs - 1) (drop 1 xs)
first_of [] x h at = absurd (omega (arith, h))
first_of (y ∷ ys) x h at = ap (λ z. z ∷ ys) (sym at) ∙ ap (λ l. x ∷ l) (sym (rest_of y ys))

abbrev so_far : List Exported → Option (List Exported) → Option (List Exported)
so_far found o = option_map (λ after. found ++ after) o

one_more : (found : List Exported) (e : Exported) (o : Option (List Exported)) →
    so_far (found ++ e ∷ []) o ≡ so_far found (option_map (λ rest. e ∷ rest) o)
one_more found e None = refl
one_more found e (Some rest) = ap Some (append_assoc found (e ∷ []) rest)

pub export_found : (found new : List Exported) (xs : List Value) (x : Value) (e : Exported) → 1 ≤ length xs → x ≡ get_or xs 0 x →
    Some e ≡ export_said (view x) → new ≡ found ++ e ∷ [] →
    so_far new (exports_said (items_view (take (length xs - 1) (drop 1 xs)))) ≡ so_far found (exports_said (items_view xs))
export_found found new xs x e some at is added =
    let rest = take (length xs - 1) (drop 1 xs) in
    ap (λ f. so_far f (exports_said (items_view rest))) added
    ∙ one_more found e (exports_said (items_view rest))
    ∙ ap (λ o. so_far found (both (λ y ys. y ∷ ys) o (exports_said (items_view rest)))) is
    ∙ ap (λ l. so_far found (exports_said (items_view l))) (sym (first_of xs x some at))
