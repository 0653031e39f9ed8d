-- One member of an object after another.
use Rattle.std.proofs.Common.{◌≡◌, ℕ, List, [], ◌∷◌, ◌++◌, Option, Some, None, option_map, String, string_bytes, refl, ap, sym, ◌∙◌, append_assoc, append-nil}
use Rattle.std.specs.declared.alloc.Global.{Global}
use Rattle.serde_json.specs.Data.{Data, Members, no_members, member}
use Rattle.serde_json.specs.declared.value.Value.{Value}
use Rattle.serde_json.specs.View.{view, members_view}
use Rattle.json_values.specs.FromData.{both}

abbrev Entry : Type 0
Entry = String Global × Value

abbrev pub so_far : {A : Type 0} → List A → Option (List A) → Option (List A)
so_far found o = option_map (λ after. found ++ after) o

one_more : {A : Type 0} (found : List A) (x : A) (o : Option (List A)) →
    so_far (found ++ x ∷ []) o ≡ so_far found (option_map (λ rest. x ∷ rest) o)
one_more found x None = refl
one_more found x (Some rest) = ap Some (append_assoc found (x ∷ []) rest)

-- each name with what stands there
module _ {V : Type 0} (one : Data → Option V) (all : Members → Option (List (List ℕ × V)))
    (none : all no_members ≡ Some [])
    (more : (k : List ℕ) (d : Data) (ms : Members) → all (member k d ms) ≡ both (λ v rest. (k, v) ∷ rest) (one d) (all ms)) where
  first_of : (es rest : List Entry) (key : String Global) (value : Value) → es ≡ (key, value) ∷ rest →
      all (members_view es) ≡ both (λ v vs. (string_bytes key, v) ∷ vs) (one (view value)) (all (members_view rest))
  first_of es rest key value is = ap (λ l. all (members_view l)) is ∙ more (string_bytes key) (view value) (members_view rest)

  pub member_found : (found new : List (List ℕ × V)) (es rest : List Entry) (key : String Global) (value : Value) (name : List ℕ) (v : V) →
      es ≡ (key, value) ∷ rest → name ≡ string_bytes key → one (view value) ≡ Some v → new ≡ found ++ (name, v) ∷ [] →
      so_far new (all (members_view rest)) ≡ so_far found (all (members_view es))
  member_found found new es rest key value name v is named made added =
      ap (λ f. so_far f (all (members_view rest))) added
      ∙ one_more found (name, v) (all (members_view rest))
      ∙ ap (λ k. so_far found (option_map (λ vs. (k, v) ∷ vs) (all (members_view rest)))) named
      ∙ ap (λ o. so_far found (both (λ w vs. (string_bytes key, w) ∷ vs) o (all (members_view rest)))) (sym made)
      ∙ ap (so_far found) (sym (first_of es rest key value is))

  pub member_bad : (found : List (List ℕ × V)) (es rest : List Entry) (key : String Global) (value : Value) →
      es ≡ (key, value) ∷ rest → one (view value) ≡ None → so_far found (all (members_view es)) ≡ None
  member_bad found es rest key value is bad =
      ap (so_far found) (first_of es rest key value is
      ∙ ap (λ o. both (λ w vs. (string_bytes key, w) ∷ vs) o (all (members_view rest))) bad)

  pub nothing_left : (found : List (List ℕ × V)) (es : List Entry) → es ≡ [] → so_far found (all (members_view es)) ≡ Some found
  nothing_left found es is =
      ap (λ l. so_far found (all (members_view l))) is ∙ ap (so_far found) none ∙ ap Some (append-nil found)
