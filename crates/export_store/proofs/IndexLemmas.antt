-- The index, as sets come and go.
use Rattle.std.proofs.Common.{◌≡◌, ℕ, ◌+◌, ◌<◌, Bool, true, false, ◌&&◌, ◌||◌, cond, Option, None, Some, List, [], ◌∷◌, ◌++◌, take, length, get_or, refl, sym, ap, ◌∙◌}
use Rattle.std.proofs.lemmas.List.{take_more}
use Rattle.std.proofs.lemmas.List.Folds.{list_any-append}
use Rattle.std.proofs.lemmas.Slice.Eq.{bytes_eq-Decides}
use Rattle.std.specs.Cmp.Lexicographic.{nat_list_cmp_total, texts_ties}
use Rattle.std.specs.FinMap.{empty, get, insert, remove, get-empty, get-insert, get-remove}
use Rattle.std.specs.Str.{bytes_eq}
use Rattle.pp_values.specs.Rising.{text_cmp, has_text}
use Rattle.res_core.specs.declared.export_set.ExportSet.{ExportSet}
use Rattle.export_store.specs.Sets.{Sets}
use Rattle.export_store.specs.Indexing.{Index, set_keys, set_among, set_under, with_key, IsIndexOf, IsIndexOfOthers, SetsUnder, SetsAmong}
use Rattle.export_store.proofs.SetLemmas.{get-with, get-without}

same_text : (x y : List ℕ) → bytes_eq x y ≡ true → x ≡ y
same_text x y e = (bytes_eq-Decides x y).0 e

-- ---- some nodes

pub among_with : (nodes : Sets) (node : List ℕ) (set : ExportSet) → SetsAmong node (Some set) (Some nodes) (insert nodes node set)
among_with nodes node set other = get-with nodes node other set

pub among_first : (node : List ℕ) (set : ExportSet) → (let none : Sets = empty in SetsAmong node (Some set) None (insert none node set))
among_first node set other =
    let none : Sets = empty in
    get-with none node other set ∙ ap (cond (bytes_eq other node) (Some set)) (get-empty text_cmp other)

pub among_without : (nodes : Sets) (node : List ℕ) → SetsAmong node None (Some nodes) (remove nodes node)
among_without nodes node other = get-without nodes node other

-- what is left under a key without the node
pub among_left : (under : Option Sets) (nodes left : Sets) (node : List ℕ) → Some nodes ≡ under → left ≡ remove nodes node → SetsAmong node None under left
among_left under nodes left node there is other =
    ap (λ (m : Sets). get m other) is ∙ among_without nodes node other ∙ ap (λ o. cond (bytes_eq other node) None (set_among o other)) there

-- ---- one key

key_put : (index : Index) (key node : List ℕ) (set : Option ExportSet) (nodes : Sets) → SetsAmong node set (get index key) nodes →
    (q other : List ℕ) (b : Bool) → bytes_eq q key ≡ b →
    set_among (cond b (Some nodes) (get index q)) other ≡ cond ((b || false) && bytes_eq other node) set (set_among (get index q) other)
key_put index key node set nodes is q other true e =
    is other ∙ ap (λ k. cond (bytes_eq other node) set (set_among (get index k) other)) (sym (same_text q key e))
key_put index key node set nodes is q other false e = refl

pub under_put : (index new : Index) (key node : List ℕ) (set held : Option ExportSet) (under : Option Sets) (nodes value : Sets) → under ≡ get index key →
    held ≡ set → SetsAmong node held under nodes → value ≡ nodes → new ≡ insert index key value → SetsUnder (key ∷ []) node set index new
under_put index new key node set held under nodes value there same among is put q other =
    let whole : SetsAmong node set (get index key) nodes = λ n.
    among n ∙ ap (λ s. cond (bytes_eq n node) s (set_among under n)) same ∙ ap (λ o. cond (bytes_eq n node) set (set_among o n)) there in
    ap (λ (i : Index). set_under i q other) (put ∙ ap (insert index key) is)
    ∙ ap (λ o. set_among o other) (get-insert nat_list_cmp_total index key nodes q ∙ ap (λ b. cond b (Some nodes) (get index q)) (sym (texts_ties q key)))
    ∙ key_put index key node set nodes whole q other (bytes_eq q key) refl

both_none : (b : Bool) (o : Option ExportSet) → o ≡ None → o ≡ cond b None o
both_none true o e = e
both_none false o e = refl

none_there : (index : Index) (key node : List ℕ) → get index key ≡ None → (q other : List ℕ) (b : Bool) → bytes_eq q key ≡ b →
    set_among (get index q) other ≡ cond ((b || false) && bytes_eq other node) None (set_among (get index q) other)
none_there index key node none q other true e =
    both_none (bytes_eq other node) (set_among (get index q) other)
    (ap (λ k. set_among (get index k) other) (same_text q key e) ∙ ap (λ o. set_among o other) none)
none_there index key node none q other false e = refl

-- no node stands under the key
pub under_none : (index new : Index) (key node : List ℕ) → get index key ≡ None → new ≡ index → SetsUnder (key ∷ []) node None index new
under_none index new key node none same q other =
    ap (λ (i : Index). set_under i q other) same ∙ none_there index key node none q other (bytes_eq q key) refl

key_out : (index : Index) (key node : List ℕ) (left : Sets) → SetsAmong node None (get index key) left → (let none : Sets = empty in left ≡ none) →
    (q other : List ℕ) (b : Bool) → bytes_eq q key ≡ b →
    set_among (cond b None (get index q)) other ≡ cond ((b || false) && bytes_eq other node) None (set_among (get index q) other)
key_out index key node left is none q other true e =
    sym (ap (λ (m : Sets). get m other) none ∙ get-empty text_cmp other) ∙ is other
    ∙ ap (λ k. cond (bytes_eq other node) None (set_among (get index k) other)) (sym (same_text q key e))
key_out index key node left is none q other false e = refl

-- no other node stands under the key
pub under_out : (index new : Index) (key node : List ℕ) (left : Sets) → SetsAmong node None (get index key) left → (let none : Sets = empty in left ≡ none) →
    new ≡ remove index key → SetsUnder (key ∷ []) node None index new
under_out index new key node left is none gone q other =
    ap (λ (i : Index). set_under i q other) gone
    ∙ ap (λ o. set_among o other) (get-remove nat_list_cmp_total index key q ∙ ap (λ b. cond b None (get index q)) (sym (texts_ties q key)))
    ∙ key_out index key node left is none q other (bytes_eq q key) refl

-- ---- key after key

pub no_keys : (node : List ℕ) (set : Option ExportSet) (old new : Index) → new ≡ old → SetsUnder [] node set old new
no_keys node set old new same q other = ap (λ (i : Index). set_under i q other) same

one_more : (b c e : Bool) (set old : Option ExportSet) → cond ((c || false) && e) set (cond (b && e) set old) ≡ cond ((b || (c || false)) && e) set old
one_more true true true set old = refl
one_more true true false set old = refl
one_more true false true set old = refl
one_more true false false set old = refl
one_more false true true set old = refl
one_more false true false set old = refl
one_more false false true set old = refl
one_more false false false set old = refl

pub more_keys : (keys : List (List ℕ)) (i : ℕ) (key node : List ℕ) (set : Option ExportSet) (old middle new : Index) →
    i < length keys → key ≡ get_or keys i key → SetsUnder (take i keys) node set old middle → SetsUnder (key ∷ []) node set middle new →
    SetsUnder (take (i + 1) keys) node set old new
more_keys keys i key node set old middle new h at before step q other =
    let more : take (i + 1) keys ≡ take i keys ++ key ∷ [] = take_more keys i key h ∙ ap (λ y. take i keys ++ y ∷ []) (sym at) in
    step q other ∙ ap (cond (has_text (key ∷ []) q && bytes_eq other node) set) (before q other)
    ∙ one_more (has_text (take i keys) q) (bytes_eq q key) (bytes_eq other node) set (set_under old q other)
    ∙ ap (λ b. cond (b && bytes_eq other node) set (set_under old q other))
    (sym (list_any-append (bytes_eq q) (take i keys) (key ∷ [])) ∙ ap (λ ks. has_text ks q) (sym more))

-- ---- a set goes, and another one comes

pub index_at_first : let none : Sets = empty in let index : Index = empty in IsIndexOf none index
index_at_first key node =
    let none : Sets = empty in
    let index : Index = empty in
    ap (λ o. set_among o node) (get-empty text_cmp key) ∙ sym (ap (with_key key) (get-empty text_cmp node))

taken : (b : Bool) (set : ExportSet) → cond (b && true) None (cond b (Some set) None) ≡ None
taken true set = refl
taken false set = refl

apart : (b : Bool) (set old : Option ExportSet) → cond (b && false) set old ≡ old
apart true set old = refl
apart false set old = refl

taken_at : (sets : Sets) (node : List ℕ) (set : ExportSet) → get sets node ≡ Some set → (key other : List ℕ) (b : Bool) → bytes_eq other node ≡ b →
    cond (has_text (set_keys set) key && b) None (with_key key (get sets other)) ≡ cond b None (with_key key (get sets other))
taken_at sets node set there key other true e =
    ap (λ o. cond (has_text (set_keys set) key && true) None (with_key key o)) (ap (get sets) (same_text other node e) ∙ there)
    ∙ taken (has_text (set_keys set) key) set
taken_at sets node set there key other false e = apart (has_text (set_keys set) key) None (with_key key (get sets other))

pub taken_out : (sets : Sets) (node : List ℕ) (set : ExportSet) (keys : List (List ℕ)) (old new : Index) → get sets node ≡ Some set → IsIndexOf sets old →
    keys ≡ set_keys set → SetsUnder keys node None old new → IsIndexOfOthers node sets new
taken_out sets node set keys old new there is all under key other =
    under key other ∙ ap (λ ks. cond (has_text ks key && bytes_eq other node) None (set_under old key other)) all
    ∙ ap (cond (has_text (set_keys set) key && bytes_eq other node) None) (is key other)
    ∙ taken_at sets node set there key other (bytes_eq other node) refl

nothing_at : (sets : Sets) (node : List ℕ) → get sets node ≡ None → (key other : List ℕ) (b : Bool) → bytes_eq other node ≡ b →
    with_key key (get sets other) ≡ cond b None (with_key key (get sets other))
nothing_at sets node none key other true e = ap (λ k. with_key key (get sets k)) (same_text other node e) ∙ ap (with_key key) none
nothing_at sets node none key other false e = refl

-- a node that has no set stands nowhere
pub nothing_out : (sets : Sets) (node : List ℕ) (old new : Index) → get sets node ≡ None → IsIndexOf sets old → new ≡ old → IsIndexOfOthers node sets new
nothing_out sets node old new none is same key other =
    ap (λ (i : Index). set_under i key other) same ∙ is key other ∙ nothing_at sets node none key other (bytes_eq other node) refl

put_at : (b : Bool) (key : List ℕ) (set : ExportSet) (old : Option ExportSet) →
    cond (has_text (set_keys set) key && b) (Some set) (cond b None (with_key key old)) ≡ with_key key (cond b (Some set) old)
put_at true key set old = elim (has_text (set_keys set) key) as (λ h. cond (h && true) (Some set) None ≡ cond h (Some set) None) [ true ↦ refl | false ↦ refl ]
put_at false key set old = apart (has_text (set_keys set) key) (Some set) (with_key key old)

pub put_in : (sets after : Sets) (node : List ℕ) (set : ExportSet) (keys : List (List ℕ)) (old new : Index) → after ≡ insert sets node set →
    IsIndexOfOthers node sets old → keys ≡ set_keys set → SetsUnder keys node (Some set) old new → IsIndexOf after new
put_in sets after node set keys old new put others all under key other =
    under key other ∙ ap (λ ks. cond (has_text ks key && bytes_eq other node) (Some set) (set_under old key other)) all
    ∙ ap (cond (has_text (set_keys set) key && bytes_eq other node) (Some set)) (others key other)
    ∙ put_at (bytes_eq other node) key set (get sets other)
    ∙ ap (with_key key) (sym (ap (λ (m : Sets). get m other) put ∙ get-with sets node other set))

gone_at : (b : Bool) (key : List ℕ) (old : Option ExportSet) → cond b None (with_key key old) ≡ with_key key (cond b None old)
gone_at true key old = refl
gone_at false key old = refl

pub left_out : (sets after : Sets) (node : List ℕ) (new : Index) → after ≡ remove sets node → IsIndexOfOthers node sets new → IsIndexOf after new
left_out sets after node new gone others key other =
    others key other ∙ gone_at (bytes_eq other node) key (get sets other)
    ∙ ap (with_key key) (sym (ap (λ (m : Sets). get m other) gone ∙ get-without sets node other))
