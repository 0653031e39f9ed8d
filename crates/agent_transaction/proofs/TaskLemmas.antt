-- What attributes that are set say, and what is at an index.
use Rattle.std.proofs.Common.{◌≡◌, ℕ, Bool, true, false, ◌&&◌, cond, List, [], ◌∷◌, ◌++◌, None, Some, find, refl, sym, subst, ap, ◌∙◌, append-nil}
use Rattle.std.specs.Prelude.{option_map, option_to_list, slice_get}
use Rattle.std.specs.Str.{bytes_eq}
use Rattle.pp_values.specs.Datum.{Datum}
use Rattle.pp_values.specs.Plain.{is_plain_value}
use Rattle.pp_values.specs.Settings.{Setting}
use Rattle.pp_values.specs.declared.reference.Reference.{Reference}
use Rattle.res_core.specs.AttributeViews.{set_in}
use Rattle.res_core.specs.Catalogs.{reference_of}
use Rattle.res_core.specs.PlainAttributes.{are_plain}
use Rattle.res_core.specs.declared.held.Held.{Held}
use Rattle.agent_transaction.specs.Catalogs.{reference_at}

first : (a b : Bool) → (a && b) ≡ true → a ≡ true
first true b e = refl
first false b e = absurd cc

second : (a b : Bool) → (a && b) ≡ true → b ≡ true
second true b e = e
second false b e = absurd cc

same_value : (a b : Datum) → Some a ≡ Some b → a ≡ b
same_value a b e = cc

-- what an attribute of plain ones is set to is plain
pub plain_set : (ss : List Setting) (name : List ℕ) (v : Datum) → are_plain ss ≡ true → Some v ≡ set_in ss name →
    is_plain_value v ≡ true
plain_set [] name v all is = absurd cc
plain_set (s ∷ ss) name v all is =
    elim (bytes_eq s.0 name) as (λ b. Some v ≡ option_map (λ (t : Setting). t.1) (cond b (Some s) (find (λ (t : Setting). bytes_eq t.0 name) ss)) →
    is_plain_value v ≡ true) [
      | true ↦ λ here. ap is_plain_value (same_value v s.1 here) ∙ first (is_plain_value s.1) (are_plain ss) all
      | false ↦ λ later. plain_set ss name v (second (is_plain_value s.1) (are_plain ss) all) later
    ] is

-- where nothing is at an index, nothing is put
pub none_put : (hs : List Held) (at : ℕ) (items : List Reference) → None ≡ slice_get hs at → items ≡ items ++ reference_at hs at
none_put hs at items none =
    subst (λ o. items ≡ items ++ option_to_list (option_map reference_of o)) none (sym (append-nil items))
