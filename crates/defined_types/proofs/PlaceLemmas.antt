-- What stands at the places that a query finds.
use Rattle.std.proofs.Common.{◌≡◌, ℕ, ◌+◌, Bool, true, false, ◌&&◌, T, cond, List, [], ◌∷◌, ◌++◌, length, filter}
use Rattle.std.proofs.Common.{Option, Some, option_map, option_and_then, refl, sym, ap, subst, ◌∙◌, append_assoc}
use Rattle.std.proofs.Common.{length-append}
use Rattle.std.specs.FinMap.{entries, find, get, get-entries, is_sorted, entries_sorted}
use Rattle.std.specs.FinMap.Entries.{below_all}
use Rattle.std.specs.declared.cmp.Ordering.{Ordering}
use Rattle.std.specs.declared.cmp.Ordering.TheVariants.{Less, Equal, Greater}
use Rattle.std.specs.Cmp.{tied_itself}
use Rattle.std.specs.Ordering.{is_lt, is_eq, ordering_reverse}
use Rattle.std.specs.Cmp.Lexicographic.{nat_list_cmp_total}
use Rattle.std.specs.List.{slice_get, cons_option}
use Rattle.pp_values.specs.Rising.{text_cmp}
use Rattle.res_core.specs.declared.exported.Exported.{Exported}
use Rattle.res_core.specs.declared.export_set.ExportSet.{ExportSet}
use Rattle.export_store.specs.ExportQueries.{Placed, placed, all_placed, exports_of, is_found, places_of, found}
use Rattle.export_store.specs.Rows.{Entry}
use Rattle.export_store.specs.Sets.{Sets}
use Rattle.defined_types.specs.ImportPlaces.{placed_at, all_placed_at}

-- each of these stands at its place
abbrev pub StandAt : Sets → List Placed → Type 0
StandAt sets [] = Unit {0}
StandAt sets (p ∷ ps) = (placed_at sets p.0 ≡ Some p) × StandAt sets ps

pub stand-append : (sets : Sets) (ps qs : List Placed) → StandAt sets ps → StandAt sets qs → StandAt sets (ps ++ qs)
stand-append sets [] qs h k = k
stand-append sets (p ∷ ps) qs h k = (h.0, stand-append sets ps qs h.1 k)

stand_if : (sets : Sets) (b : Bool) (p : Placed) (ps : List Placed) → placed_at sets p.0 ≡ Some p → StandAt sets ps →
    StandAt sets (cond b (p ∷ ps) ps)
stand_if sets true p ps h k = (h, k)
stand_if sets false p ps h k = k

pub stand-filter : (sets : Sets) (q : Placed → Bool) (ps : List Placed) → StandAt sets ps → StandAt sets (filter q ps)
stand-filter sets q [] h = tt
stand-filter sets q (p ∷ ps) h = stand_if sets (q p) p (filter q ps) h.0 (stand-filter sets q ps h.1)

-- so that the places give them back
back : (sets : Sets) (ps : List Placed) → StandAt sets ps → all_placed_at sets (places_of ps) ≡ ps
back sets [] h = refl
back sets (p ∷ ps) h = ap (λ o. cons_option o (all_placed_at sets (places_of ps))) h.0
    ∙ ap (λ l. p ∷ l) (back sets ps h.1)

behind : {X : Type 0} (front : List X) (x : X) (xs : List X) → slice_get (front ++ x ∷ xs) (length front) ≡ Some x
behind [] x xs = refl
behind (y ∷ ys) x xs = behind ys x xs

-- the resources of a node's set from a place on
set_stands : (sets : Sets) (node : List ℕ) (set : ExportSet) → get sets node ≡ Some set →
    (front es : List Exported) (i : ℕ) → set.items ≡ front ++ es → i ≡ length front →
    StandAt sets (placed node i es)
set_stands sets node set has front [] i parts at = tt
set_stands sets node set has front (e ∷ es) i parts at = (
  ap (λ o. option_map (λ x. (record { node = node; place = i }, x))
      (option_and_then (λ (s : ExportSet). slice_get s.items i) o)) has
      ∙ ap (λ o. option_map (λ x. (record { node = node; place = i }, x)) o)
      (ap (λ xs. slice_get xs i) parts ∙ ap (slice_get (front ++ e ∷ es)) at ∙ behind front e es),
  set_stands sets node set has (front ++ e ∷ []) es (i + 1) (parts ∙ sym (append_assoc front (e ∷ []) es))
      (ap (λ n. n + 1) at ∙ sym (length-append front (e ∷ []))),
)

first : (a b : Bool) → T (a && b) → T a
first true b h = tt
first false b h = h

second : (a b : Bool) → T (a && b) → T b
second true b h = h
second false b h = absurd h

less : (r : Ordering) → T (is_lt r) → r ≡ Less
less Less h = refl
less Equal h = absurd h
less Greater h = absurd h

below_middle : (x : List ℕ) (front es : List Entry) (e : Entry) → T (below_all text_cmp x (front ++ e ∷ es)) →
    text_cmp x e.0 ≡ Less
below_middle x [] es e h = less _ (first _ _ h)
below_middle x (f ∷ fs) es e h = below_middle x fs es e (second _ _ h)

-- among entries whose names rise, each is found by its name
found_entry : (front es : List Entry) (e : Entry) → T (is_sorted text_cmp (front ++ e ∷ es)) →
    find text_cmp e.0 (front ++ e ∷ es) ≡ Some e.1
found_entry [] es e h = ap (λ r. cond (is_eq r) (Some e.1) (find text_cmp e.0 es)) (tied_itself nat_list_cmp_total e.0)
found_entry (f ∷ fs) es e h =
    ap (λ r. cond (is_eq r) (Some f.1) (find text_cmp e.0 (fs ++ e ∷ es)))
    (nat_list_cmp_total.antisymm e.0 f.0 ∙ ap ordering_reverse (below_middle f.0 fs es e (first _ _ h)))
    ∙ found_entry fs es e (second _ _ h)

-- the sets of all nodes, from an entry on
pub all_stand : (sets : Sets) (front es : List Entry) → entries sets ≡ front ++ es → StandAt sets (all_placed es)
all_stand sets front [] parts = tt
all_stand sets front (e ∷ es) parts =
    let has : get sets e.0 ≡ Some e.1 =
    get-entries sets e.0 ∙ ap (find text_cmp e.0) parts
    ∙ found_entry front es e (subst (λ l. T (is_sorted text_cmp l)) parts (entries_sorted sets)) in
    stand-append sets (placed e.0 0 e.1.items) (all_placed es) (set_stands sets e.0 e.1 has [] e.1.items 0 refl refl)
    (all_stand sets (front ++ e ∷ []) es (parts ∙ sym (append_assoc front (e ∷ []) es)))

-- what stands at the places that a query finds is what it finds
pub placed_found : (sets : Sets) (k : List ℕ) (tag : Option (List ℕ)) (node : List ℕ) →
    all_placed_at sets (found k tag node sets) ≡ filter (is_found k tag node) (exports_of sets)
placed_found sets k tag node =
    back sets _ (stand-filter sets (is_found k tag node) (exports_of sets)
    (all_stand sets [] (entries sets) refl))
