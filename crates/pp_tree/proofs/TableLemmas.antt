-- The places of a table's names, and one step of the table.
use Rattle.std.proofs.Common.{◌≡◌, ℕ, suc, Bool, true, false, cond, List, [], ◌∷◌, ◌++◌, length, Option, None, Some, Err, is_some, if◌then◌else◌, refl, sym, ap, ◌∙◌, true≢false}
use Rattle.std.specs.Prelude.{slice_get}
use Rattle.std.specs.BTreeMap.{BTreeMap, get, is_at, Updates}
use Rattle.std.specs.Map.{lookup}
use Rattle.std.specs.Option.{option_map}
use Rattle.std.specs.Ordering.{is_eq}
use Rattle.pp_tree.specs.declared.definition.Definition.{Definition}
use Rattle.pp_tree.specs.declared.rows.Row.{Row}
use Rattle.pp_tree.specs.declared.table.DefinitionName.{DefinitionName}
use Rattle.pp_tree.specs.declared.table.TableStop.TheVariants.{Doubled}
use Rattle.pp_tree.specs.NameLaws.{same_name_equiv, name_cmp_ties}
use Rattle.pp_tree.specs.Names.{same_name, name_cmp}
use Rattle.pp_tree.specs.Tables.{Entries, ArePlaces, place_of, table_from}

-- ---- the places of names

abbrev pub found_at : Entries → Option ℕ → Option Definition
found_at es None = None
found_at es (Some place) = option_map (λ e. e.1) (slice_get es place)

further : (e : DefinitionName × Definition) (es : Entries) (place : Option ℕ) → found_at (e ∷ es) (option_map suc place) ≡ found_at es place
further e es None = refl
further e es (Some place) = refl

-- what stands under a name is what stands at its place
looked_up : (name : DefinitionName) (es : Entries) → lookup (same_name name) es ≡ found_at es (place_of name es)
unfolding place_of
looked_up name [] = refl
looked_up name (e ∷ es) = by (same_name name e.0) (looked_up name es)
  where
    by : (b : Bool) → lookup (same_name name) es ≡ found_at es (place_of name es)
        → cond b (Some e.1) (lookup (same_name name) es) ≡ found_at (e ∷ es) (if b then Some 0 else option_map suc (place_of name es))
    by true rest = refl
    by false rest = rest ∙ sym (further e es (place_of name es))

pub stands_at : (places : BTreeMap DefinitionName ℕ) (es seen : Entries) (name : DefinitionName) (place : Option ℕ) → ArePlaces places es → es ≡ seen
    → place ≡ get name_cmp places name → found_at es place ≡ lookup (same_name name) seen
stands_at places es seen name place are same is =
    ap (found_at es) (is ∙ are name) ∙ sym (looked_up name es) ∙ ap (lookup (same_name name)) same

-- a name that is not there goes last
place_behind : (name : DefinitionName) (d : Definition) (q : DefinitionName) (es : Entries) → lookup (same_name name) es ≡ None
    → place_of q (es ++ (name, d) ∷ []) ≡ cond (same_name name q) (Some (length es)) (place_of q es)
unfolding place_of
place_behind name d q [] new = ap (λ b. cond b (Some 0) None) (same_name_equiv.symm q name)
place_behind name d q (e ∷ es) new = by (same_name q e.0) (same_name name q) refl refl (place_behind name d q es (others new))
  where
    other : (b : Bool) → cond b (Some e.1) (lookup (same_name name) es) ≡ None → b ≡ false
    other true h = absurd (true≢false (ap is_some h))
    other false h = refl

    others : lookup (same_name name) (e ∷ es) ≡ None → lookup (same_name name) es ≡ None
    others h = sym (ap (λ b. cond b (Some e.1) (lookup (same_name name) es)) (other (same_name name e.0) h)) ∙ h

    under : (here : Bool) → cond here (Some (length es)) (place_of q es) ≡ place_of q (es ++ (name, d) ∷ [])
        → option_map suc (place_of q (es ++ (name, d) ∷ [])) ≡ cond here (Some (suc (length es))) (option_map suc (place_of q es))
    under true is = ap (option_map suc) (sym is)
    under false is = ap (option_map suc) (sym is)

    by : (there here : Bool) → same_name q e.0 ≡ there → same_name name q ≡ here
        → place_of q (es ++ (name, d) ∷ []) ≡ cond (same_name name q) (Some (length es)) (place_of q es)
        → cond there (Some 0) (option_map suc (place_of q (es ++ (name, d) ∷ []))) ≡ cond here (Some (suc (length es))) (cond there (Some 0) (option_map suc (place_of q es)))
    by true true there here _ = absurd (true≢false (sym there ∙ sym (same_name_equiv.congr name q e.0 here) ∙ other (same_name name e.0) new))
    by true false there here _ = refl
    by false here _ is rest = under here (ap (λ b. cond b (Some (length es)) (place_of q es)) (sym is) ∙ sym rest)

-- no names have no places
pub no_places : (places : BTreeMap DefinitionName ℕ) → places.entries ≡ [] → ArePlaces places []
unfolding place_of
no_places places none name = ap (lookup (is_at (name_cmp name))) none

-- the places when one more name has come
pub one_place_more : (old new : BTreeMap DefinitionName ℕ) (es more : Entries) (name copy : DefinitionName) (d : Definition) (place : ℕ)
    → ArePlaces old es → lookup (same_name name) es ≡ None → copy ≡ name → place ≡ length es
    → Updates name_cmp old new copy (Some place) → more ≡ es ++ (name, d) ∷ [] → ArePlaces new more
one_place_more old new es more name copy d place are absent same last updates pushed q =
    updates.0 q
    ∙ ap (λ k. cond (is_eq (name_cmp k q)) (Some place) (get name_cmp old q)) same
    ∙ ap (λ n. cond (is_eq (name_cmp name q)) (Some n) (get name_cmp old q)) last
    ∙ ap (λ b. cond b (Some (length es)) (get name_cmp old q)) (sym (name_cmp_ties name q))
    ∙ ap (cond (same_name name q) (Some (length es))) (are q)
    ∙ sym (place_behind name d q es absent)
    ∙ ap (place_of q) (sym pushed)

pub row_doubled : (done : Entries) (r : Row) (rs : List Row) → is_some (lookup (same_name r.name) done) ≡ true → table_from done (r ∷ rs) ≡ Err (Doubled r.at)
unfolding table_from
row_doubled done r rs h = ap (λ b. if b then Err (Doubled r.at) else table_from (done ++ (r.name, r.definition) ∷ []) rs) h

pub row_put : (done : Entries) (r : Row) (rs : List Row) → is_some (lookup (same_name r.name) done) ≡ false → table_from done (r ∷ rs) ≡ table_from (done ++ (r.name, r.definition) ∷ []) rs
unfolding table_from
row_put done r rs h = ap (λ b. if b then Err (Doubled r.at) else table_from (done ++ (r.name, r.definition) ∷ []) rs) h
