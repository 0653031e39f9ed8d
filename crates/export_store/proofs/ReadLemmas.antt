-- What is found under a key of the index is what is found among all sets.
use Rattle.std.proofs.Common.{◌≡◌, ℕ, ◌+◌, Bool, true, false, true≢false, not, ◌&&◌, ◌||◌, T, cond, Option, None, Some, List, [], ◌∷◌, ◌++◌, map, filter, refl, sym, ap, ◌∙◌}
use Rattle.std.proofs.lemmas.List.{map-append}
use Rattle.std.proofs.lemmas.List.Folds.{list_any-append}
use Rattle.std.proofs.lemmas.Slice.Eq.{bytes_eq-Decides}
use Rattle.std.specs.Char.{to_ascii_lowercase}
use Rattle.std.specs.declared.cmp.Ordering.{Ordering}
use Rattle.std.specs.declared.cmp.Ordering.TheVariants.{Less, Equal, Greater}
use Rattle.std.specs.Ordering.{is_eq, eq_by_cmp}
use Rattle.std.specs.Cmp.Lexicographic.{nat_list_cmp_total}
use Rattle.std.specs.FinMap.{entries, entries_sorted, get, find, is_sorted, from_sorted, get-entries, get-from_sorted, entries-from_sorted, same_map, slice_cmp-IsAntisymmetric, nat_cmp-IsAntisymmetric}
use Rattle.std.specs.FinMap.Entries.{below_all}
use Rattle.std.specs.Str.{bytes_eq, str_eq_ignore_ascii_case}
use Rattle.pp_values.specs.Rising.{text_cmp, has_text}
use Rattle.pp_values.proofs.RisingLemmas.{has_text-with_texts}
use Rattle.res_core.specs.TagNames.{lowered, is_tagged}
use Rattle.res_core.specs.declared.exported.Exported.{Exported}
use Rattle.export_store.specs.ExportQueries.{Placed, placed, matches, is_found, places_of, found_in}
use Rattle.export_store.specs.Sets.{Sets}
use Rattle.export_store.specs.Rows.{Entry}
use Rattle.export_store.specs.Indexing.{Index, IsIndexOf, key_of, resource_keys, keys_of, set_keys, set_among, found_among, with_key}
use Rattle.export_store.proofs.EntryLemmas.{first, second, both, below_tied, find-below}
use Rattle.export_store.proofs.QueryLemmas.{found-cons}

-- ---- the keys of what matches

or_left : (a b : Bool) → a ≡ true → (a || b) ≡ true
or_left a b e = ap (λ x. x || b) e

or_right : (a b : Bool) → b ≡ true → (a || b) ≡ true
or_right true b e = refl
or_right false b e = e

and_first : (a b : Bool) → (a && b) ≡ true → a ≡ true
and_first true b e = refl
and_first false b e = e

and_second : (a b : Bool) → (a && b) ≡ true → b ≡ true
and_second true b e = e
and_second false b e = absurd (true≢false (sym e))

same_key : (kind tag other : List ℕ) → lowered tag ≡ lowered other → key_of kind (Some tag) ≡ key_of kind (Some other)
same_key kind tag other e =
    map-append to_ascii_lowercase kind (10 ∷ tag)
    ∙ ap (λ l. lowered kind ++ (to_ascii_lowercase 10 ∷ l)) e
    ∙ sym (map-append to_ascii_lowercase kind (10 ∷ other))

tag_has_key : (kind tag : List ℕ) (tags : List (List ℕ)) → is_tagged tags tag ≡ true →
    has_text (map (λ t. key_of kind (Some t)) tags) (key_of kind (Some tag)) ≡ true
tag_has_key kind tag [] e = absurd (true≢false (sym e))
tag_has_key kind tag (t ∷ ts) e =
    elim (str_eq_ignore_ascii_case tag t) as (λ b. str_eq_ignore_ascii_case tag t ≡ b → (b || is_tagged ts tag) ≡ true →
    (bytes_eq (key_of kind (Some tag)) (key_of kind (Some t)) || has_text (map (λ u. key_of kind (Some u)) ts) (key_of kind (Some tag))) ≡ true) [
      | true ↦ λ p _. or_left _ _ ((bytes_eq-Decides (key_of kind (Some tag)) (key_of kind (Some t))).1 (same_key kind tag t ((bytes_eq-Decides (lowered tag) (lowered t)).0 p)))
      | false ↦ λ _ rest. or_right _ _ (tag_has_key kind tag ts rest)
    ] refl e

-- a resource that matches has the key that is asked for
match_has_key : (kind : List ℕ) (tag : Option (List ℕ)) (e : Exported) → matches kind tag e ≡ true →
    has_text (resource_keys e.item.kind e.item.tags) (key_of kind tag) ≡ true
match_has_key kind None e m =
    or_left _ _ ((bytes_eq-Decides kind e.item.kind).1 (sym ((bytes_eq-Decides e.item.kind kind).0 (and_first _ _ m))))
match_has_key kind (Some tag) e m =
    let same : e.item.kind ≡ kind = (bytes_eq-Decides e.item.kind kind).0 (and_first _ _ m) in
    or_right _ _ (ap (λ k. has_text (map (λ t. key_of k (Some t)) e.item.tags) (key_of kind (Some tag))) same
    ∙ tag_has_key kind tag e.item.tags (and_second _ _ m))

no_match : (kind : List ℕ) (tag : Option (List ℕ)) (e : Exported) → has_text (resource_keys e.item.kind e.item.tags) (key_of kind tag) ≡ false → matches kind tag e ≡ false
no_match kind tag e none =
    elim (matches kind tag e) as (λ b. matches kind tag e ≡ b → b ≡ false) [
      | true ↦ λ m. absurd (true≢false (sym (match_has_key kind tag e m) ∙ none))
      | false ↦ λ m. refl
    ] refl

neither_first : (a b : Bool) → (a || b) ≡ false → a ≡ false
neither_first true b e = e
neither_first false b e = refl

neither_second : (a b : Bool) → (a || b) ≡ false → b ≡ false
neither_second true b e = absurd (true≢false e)
neither_second false b e = e

unfound : (a b : Bool) (x rest : List Placed) → b ≡ false → cond (a && b) x rest ≡ rest
unfound true b x rest e = ap (λ c. cond c x rest) e
unfound false b x rest e = refl

-- nothing is found in a set without the key
none_found : (kind : List ℕ) (tag : Option (List ℕ)) (but_node node : List ℕ) (place : ℕ) (es : List Exported) → has_text (keys_of es) (key_of kind tag) ≡ false →
    filter (is_found kind tag but_node) (placed node place es) ≡ []
none_found kind tag but_node node place [] none = refl
none_found kind tag but_node node place (e ∷ es) none =
    let rest : List Placed = filter (is_found kind tag but_node) (placed node (place + 1) es) in
    let parts = sym (list_any-append (bytes_eq (key_of kind tag)) (resource_keys e.item.kind e.item.tags) (keys_of es)) ∙ none in
    unfound (not (bytes_eq node but_node)) (matches kind tag e) ((record { node = node; place = place }, e) ∷ rest) rest (no_match kind tag e (neither_first _ _ parts))
    ∙ none_found kind tag but_node node (place + 1) es (neither_second _ _ parts)

-- ---- the sets that have a key

abbrev pub has_key : List ℕ → Entry → Bool
has_key key e = has_text (set_keys e.1) key

unsorted : (key : List ℕ) (e : Entry) → has_key key e ≡ false → has_text (keys_of e.1.items) key ≡ false
unsorted key e none = neither_first _ _ (sym (has_text-with_texts (keys_of e.1.items) [] key) ∙ none)

pub found_by_key : (kind : List ℕ) (tag : Option (List ℕ)) (but_node : List ℕ) (es : List Entry) →
    found_in kind tag but_node (filter (has_key (key_of kind tag)) es) ≡ found_in kind tag but_node es
found_by_key kind tag but_node [] = refl
found_by_key kind tag but_node (e ∷ es) =
    let key = key_of kind tag in
    let kept : List Entry = filter (has_key key) es in
    let rest = found_by_key kind tag but_node es in
    elim (has_key key e) as (λ b. has_key key e ≡ b → found_in kind tag but_node (cond b (e ∷ kept) kept) ≡ found_in kind tag but_node (e ∷ es)) [
      | true ↦ λ _. found-cons kind tag but_node e kept
          ∙ ap (λ l. places_of (filter (is_found kind tag but_node) (placed e.0 0 e.1.items)) ++ l) rest
          ∙ sym (found-cons kind tag but_node e es)
      | false ↦ λ none. rest
          ∙ sym (found-cons kind tag but_node e es
          ∙ ap (λ (l : List Placed). places_of l ++ found_in kind tag but_node es) (none_found kind tag but_node e.0 0 e.1.items (unsorted key e none)))
    ] refl

below-kept : (key q : List ℕ) (es : List Entry) → T (below_all text_cmp q es) → T (below_all text_cmp q (filter (has_key key) es))
below-kept key q [] h = tt
below-kept key q (e ∷ es) h =
    let rest = below-kept key q es (second _ _ h) in
    let kept : List Entry = filter (has_key key) es in
    elim (has_key key e) as (λ b. T (below_all text_cmp q (cond b (e ∷ kept) kept))) [ true ↦ both _ _ (first _ _ h) rest | false ↦ rest ]

sorted-kept : (key : List ℕ) (es : List Entry) → T (is_sorted text_cmp es) → T (is_sorted text_cmp (filter (has_key key) es))
sorted-kept key [] h = tt
sorted-kept key (e ∷ es) h =
    let rest = sorted-kept key es (second _ _ h) in
    let kept : List Entry = filter (has_key key) es in
    elim (has_key key e) as (λ b. T (is_sorted text_cmp (cond b (e ∷ kept) kept))) [ true ↦ both _ _ (below-kept key e.0 es (first _ _ h)) rest | false ↦ rest ]

equal : (r : Ordering) → is_eq r ≡ true → r ≡ Equal
equal Less e = absurd (true≢false (sym e))
equal Equal e = refl
equal Greater e = absurd (true≢false (sym e))

find-kept : (key q : List ℕ) (es : List Entry) → T (is_sorted text_cmp es) → find text_cmp q (filter (has_key key) es) ≡ with_key key (find text_cmp q es)
find-kept key q [] h = refl
find-kept key q (e ∷ es) h =
    let kept : List Entry = filter (has_key key) es in
    let rest = find-kept key q es (second _ _ h) in
    elim (eq_by_cmp text_cmp q e.0) as (λ t. eq_by_cmp text_cmp q e.0 ≡ t → find text_cmp q (cond (has_key key e) (e ∷ kept) kept) ≡ with_key key (cond t (Some e.1) (find text_cmp q es))) [
      | true ↦ λ p.
          let none : find text_cmp q kept ≡ None = find-below q kept (below-kept key q es (below_tied q e.0 es (equal _ p) (first _ _ h))) in
          elim (has_key key e) as (λ b. find text_cmp q (cond b (e ∷ kept) kept) ≡ cond b (Some e.1) None) [
            | true ↦ ap (λ t. cond t (Some e.1) (find text_cmp q kept)) p
            | false ↦ none
          ]
      | false ↦ λ p.
          elim (has_key key e) as (λ b. find text_cmp q (cond b (e ∷ kept) kept) ≡ with_key key (find text_cmp q es)) [
            | true ↦ ap (λ t. cond t (Some e.1) (find text_cmp q kept)) p ∙ rest
            | false ↦ rest
          ]
    ] refl

-- nodes that have the sets with a key are all sets with this key
entries-kept : (sets nodes : Sets) (key : List ℕ) → ((node : List ℕ) → get nodes node ≡ with_key key (get sets node)) →
    entries nodes ≡ filter (has_key key) (entries sets)
entries-kept sets nodes key is =
    let es : List Entry = entries sets in
    let fs : List Entry = filter (has_key key) es in
    let order : T (is_sorted text_cmp fs) = sorted-kept key es (entries_sorted sets) in
    let kept : Sets = from_sorted fs in
    let same : nodes ≡ kept =
    same_map nat_list_cmp_total (slice_cmp-IsAntisymmetric nat_cmp-IsAntisymmetric) nodes kept (λ q.
    is q ∙ ap (with_key key) (get-entries sets q) ∙ sym (find-kept key q es (entries_sorted sets)) ∙ sym (get-from_sorted text_cmp fs q order)) in
    ap (λ (m : Sets). entries m) same ∙ entries-from_sorted text_cmp fs order

pub found_under : (kind : List ℕ) (tag : Option (List ℕ)) (but_node : List ℕ) (sets nodes : Sets) →
    ((node : List ℕ) → get nodes node ≡ with_key (key_of kind tag) (get sets node)) →
    found_in kind tag but_node (entries nodes) ≡ found_in kind tag but_node (entries sets)
found_under kind tag but_node sets nodes is =
    ap (found_in kind tag but_node) (entries-kept sets nodes (key_of kind tag) is) ∙ found_by_key kind tag but_node (entries sets)

none_under : (kind : List ℕ) (tag : Option (List ℕ)) (but_node : List ℕ) (sets : Sets) →
    ((node : List ℕ) → None ≡ with_key (key_of kind tag) (get sets node)) → [] ≡ found_in kind tag but_node (entries sets)
none_under kind tag but_node sets is =
    let none : Sets = from_sorted [] in
    sym (ap (found_in kind tag but_node) (entries-from_sorted text_cmp [] tt))
    ∙ found_under kind tag but_node sets none (λ node. get-from_sorted text_cmp [] node tt ∙ is node)

-- what is found under the key is what is found among all sets
pub read : (kind : List ℕ) (tag : Option (List ℕ)) (but_node : List ℕ) (sets : Sets) (index : Index) → IsIndexOf sets index →
    found_among kind tag but_node (get index (key_of kind tag)) ≡ found_in kind tag but_node (entries sets)
read kind tag but_node sets index is =
    let key = key_of kind tag in
    elim (get index key) as (λ o. get index key ≡ o → found_among kind tag but_node o ≡ found_in kind tag but_node (entries sets)) [
      | None ↦ λ e. none_under kind tag but_node sets (λ node. sym (ap (λ o. set_among o node) e) ∙ is key node)
      | Some nodes ↦ λ e. found_under kind tag but_node sets nodes (λ node. sym (ap (λ o. set_among o node) e) ∙ is key node)
    ] refl
