-- Lists out of JSON, one item after another.
use Rattle.std.proofs.Common.{◌≡◌, ℕ, List, [], ◌∷◌, ◌++◌, Option, Some, None, option_map, refl, ap, sym, ◌∙◌, append_assoc, append-nil}
use Rattle.serde_json.specs.declared.value.Value.{Value as Json}
use Rattle.serde_json.specs.Find.{as_str}
use Rattle.serde_json.specs.View.{view as json_view, items_view}
use Rattle.json_values.specs.FromData.{both}
use Rattle.hiera_config.specs.declared.config.Level.{Level}
use Rattle.hiera_config.specs.Config.{texts_from, level_in, levels_from}

-- what was read, and what is read of the rest
abbrev pub so_far : {A : Type 0} → List A → Option (List A) → Option (List A)
so_far done rest = option_map (λ xs. done ++ xs) rest

step : {A : Type 0} (r : Option (List A)) (done : List A) (x : A)
    → so_far (done ++ x ∷ []) r ≡ so_far done (both (λ y ys. y ∷ ys) (Some x) r)
step None done x = refl
step (Some xs) done x = ap Some (append_assoc done (x ∷ []) xs)

pub all_read : {A : Type 0} (done : List A) → so_far done (Some []) ≡ Some done
all_read done = ap Some (append-nil done)

pub text_read : (done : List (List ℕ)) (t : List ℕ) (json : Json) (left : List Json) → as_str (json_view json) ≡ Some t
    → so_far (done ++ t ∷ []) (texts_from (items_view left)) ≡ so_far done (texts_from (items_view (json ∷ left)))
text_read done t json left e = step (texts_from (items_view left)) done t ∙ sym (rw e refl)

pub no_text : (done : List (List ℕ)) (json : Json) (left : List Json) → as_str (json_view json) ≡ None
    → so_far done (texts_from (items_view (json ∷ left))) ≡ None
no_text done json left e = rw e refl

pub level_read : (folder : List ℕ) (done : List Level) (l : Level) (json : Json) (left : List Json)
    → level_in folder (json_view json) ≡ Some l
    → so_far (done ++ l ∷ []) (levels_from folder (items_view left))
    ≡ so_far done (levels_from folder (items_view (json ∷ left)))
level_read folder done l json left e = step (levels_from folder (items_view left)) done l ∙ sym (rw e refl)

pub no_level : (folder : List ℕ) (done : List Level) (json : Json) (left : List Json)
    → level_in folder (json_view json) ≡ None
    → so_far done (levels_from folder (items_view (json ∷ left))) ≡ None
no_level folder done json left e = rw e refl
