-- Who is called the same stands under the same key.
use Rattle.std.proofs.Common.{◌≡◌, ℕ, zero, suc, ◌+◌, Bool, true, false, cond, List, [], ◌∷◌, ◌++◌, length, append-nil, append_assoc, drop, get_or, drop-cons, ◌<◌, ◌≤◌, refl, sym, ap, subst, ◌∙◌, true≢false, arith}
use Rattle.std.specs.BTreeMap.{get, is_at}
use Rattle.std.specs.Cmp.{first_so, second_so}
use Rattle.std.specs.Cmp.Lexicographic.{slice_cmp}
use Rattle.std.specs.Ordering.{nat_cmp, is_eq}
use Rattle.std.specs.Option.{option_or}
use Rattle.std.specs.Prelude.{Option, None, Some, find, option_to_list, slice_get, codes}
use Rattle.std.specs.Str.{bytes_eq}
use Rattle.std.specs.declared.alloc.Global.{Global}
use Rattle.std.specs.declared.vec.Vec.{Vec}
use Rattle.std.proofs.Math.ListN.{drop_of_length-le}
use Rattle.std.proofs.lemmas.Bool.{cond-false}
use Rattle.std.proofs.lemmas.List.Folds.{find-append}
use Rattle.std.proofs.lemmas.Map.Text.{is_eq-slice_cmp}
use Rattle.std.proofs.lemmas.Slice.Eq.{bytes_eq-Decides}
use Rattle.pp_ops.specs.Same.{same}
use Rattle.pp_values.specs.Datum as d
use Rattle.pp_values.specs.Datum.{Datum}
use Rattle.catalog_finish.specs.Naming.{Called, same_name}
use Rattle.catalog_finish.specs.NameKeys.{letters, key, Places, told, under, places_from, IsTable, AddsPlace, picked}

-- ---- one name, one key

same_letters : (x y : Datum) → same x y ≡ true → letters x ≡ letters y
same_letters (d.text a) (d.text b) h = (bytes_eq-Decides a b).0 h
same_letters (d.text a) y h = absurd (true≢false (sym h))
same_letters x (d.text b) h = absurd (true≢false (sym h))
same_letters x y h = refl

alike : (a b : Called) → same_name a b ≡ true → bytes_eq (key b) (key a) ≡ true
alike a b h =
    let kinds : a.kind ≡ b.kind = (bytes_eq-Decides a.kind b.kind).0 (first_so _ _ h) in
    let names : letters a.name ≡ letters b.name = same_letters a.name b.name (first_so _ _ (second_so _ _ h)) in
    let providers : letters a.provider ≡ letters b.provider =
    same_letters a.provider b.provider (second_so _ _ (second_so _ _ h)) in
    (bytes_eq-Decides (key b) (key a)).1
    (sym (λ i. (((kinds i ++ codes " ") ++ names i) ++ codes " ") ++ providers i))

-- ---- what is found under a key is what is found at all

differs : (b : Bool) → (b ≡ true → ⊥) → b ≡ false
differs true h = absurd (h refl)
differs false h = refl

module _ (c : Called) (all : List Called) where
  found_step : (x : Called) (cs : List Called) (n : ℕ) (b : Bool) → bytes_eq (key x) (key c) ≡ b →
      slice_get all n ≡ Some x →
      find (same_name c) (picked all (places_from (key c) (suc n) cs)) ≡ find (same_name c) cs →
      find (same_name c) (picked all (cond b (n ∷ []) [] ++ places_from (key c) (suc n) cs))
      ≡ find (same_name c) (x ∷ cs)
  found_step x cs n true e here rest =
      ap (λ o. find (same_name c) (option_to_list o ++ picked all (places_from (key c) (suc n) cs))) here
      ∙ ap (cond (same_name c x) (Some x)) rest
  found_step x cs n false e here rest =
      rest
      ∙ sym (cond-false (same_name c x) (Some x) (find (same_name c) cs)
      (differs (same_name c x) (λ h. true≢false (sym (alike c x h) ∙ e))))

  found : (cs : List Called) (n : ℕ) → ((k : ℕ) → slice_get all (n + k) ≡ slice_get cs k) →
      find (same_name c) (picked all (places_from (key c) n cs)) ≡ find (same_name c) cs
  found [] n at = refl
  found (x ∷ cs) n at =
      let next : (k : ℕ) → n + suc k ≡ suc n + k = λ k. omega arith in
      let here : n + zero ≡ n = omega arith in
      found_step x cs n (bytes_eq (key x) (key c)) refl (subst (λ i. slice_get all i ≡ Some x) here (at zero))
      (found cs (suc n) (λ k. subst (λ i. slice_get all i ≡ slice_get cs k) (next k) (at (suc k))))

pub found_there : (ps : Places) (cs : List Called) (c : Called) → IsTable ps cs →
    find (same_name c) (picked cs (under (key c) ps)) ≡ find (same_name c) cs
found_there ps cs c is =
    let start : (k : ℕ) → k ≡ 0 + k = λ k. omega arith in
    ap (λ ns. find (same_name c) (picked cs ns)) (is (key c))
    ∙ found c cs cs 0 (λ k. subst (λ i. slice_get cs i ≡ slice_get cs k) (start k) refl)

-- ---- the places of a key, one after another

module _ (c : Called) (cs : List Called) (ns : List ℕ) (i : ℕ) where
  at_place : i < length ns →
      find (same_name c) (picked cs (drop i ns))
      ≡ option_or (find (same_name c) (option_to_list (slice_get cs (get_or ns i 0))))
      (find (same_name c) (picked cs (drop (suc i) ns)))
  at_place h =
      ap (λ l. find (same_name c) (picked cs l)) (drop-cons ns i 0 h)
      ∙ find-append (same_name c) (option_to_list (slice_get cs (get_or ns i 0))) (picked cs (drop (suc i) ns))

  pub here_some : (x : Called) → i < length ns →
      find (same_name c) (picked cs ns) ≡ find (same_name c) (picked cs (drop i ns)) →
      Some x ≡ find (same_name c) (option_to_list (slice_get cs (get_or ns i 0))) →
      Some x ≡ find (same_name c) (picked cs ns)
  here_some x h so_far here =
      sym (so_far ∙ at_place h
      ∙ ap (λ o. option_or o (find (same_name c) (picked cs (drop (suc i) ns)))) (sym here))

  pub here_none : i < length ns →
      find (same_name c) (picked cs ns) ≡ find (same_name c) (picked cs (drop i ns)) →
      None ≡ find (same_name c) (option_to_list (slice_get cs (get_or ns i 0))) →
      find (same_name c) (picked cs ns) ≡ find (same_name c) (picked cs (drop (i + 1) ns))
  here_none h so_far here =
      let next : suc i ≡ i + 1 = omega arith in
      so_far ∙ at_place h
      ∙ ap (λ o. option_or o (find (same_name c) (picked cs (drop (suc i) ns)))) (sym here)
      ∙ ap (λ j. find (same_name c) (picked cs (drop j ns))) next

  pub at_end : length ns ≤ i → find (same_name c) (picked cs ns) ≡ find (same_name c) (picked cs (drop i ns)) →
      None ≡ find (same_name c) (picked cs ns)
  at_end h so_far = sym (so_far ∙ ap (λ l. find (same_name c) (picked cs l)) (drop_of_length-le ns h))

-- ---- one more

places_more : (t : List ℕ) (n : ℕ) (cs : List Called) (c : Called) →
    places_from t n (cs ++ c ∷ []) ≡ places_from t n cs ++ cond (bytes_eq (key c) t) ((n + length cs) ∷ []) []
places_more t n [] c =
    let here : n ≡ n + 0 = omega arith in
    append-nil (cond (bytes_eq (key c) t) (n ∷ []) []) ∙ ap (λ m. cond (bytes_eq (key c) t) (m ∷ []) []) here
places_more t n (x ∷ cs) c =
    let next : suc n + length cs ≡ n + suc (length cs) = omega arith in
    ap (λ ps. cond (bytes_eq (key x) t) (n ∷ []) [] ++ ps) (places_more t (suc n) cs c
    ∙ ap (λ m. places_from t (suc n) cs ++ cond (bytes_eq (key c) t) (m ∷ []) []) next)
    ∙ sym (append_assoc (cond (bytes_eq (key x) t) (n ∷ []) []) (places_from t (suc n) cs) _)

pub table_more : (ps new : Places) (cs : List Called) (c : Called) (m : ℕ) → IsTable ps cs → m ≡ length cs →
    AddsPlace (key c) m ps new → IsTable new (cs ++ c ∷ [])
table_more ps new cs c m is long adds t =
    let place : m ≡ 0 + length cs = omega arith in
    adds t
    ∙ ap (λ ns. ns ++ cond (bytes_eq (key c) t) (m ∷ []) []) (is t)
    ∙ ap (λ i. places_from t 0 cs ++ cond (bytes_eq (key c) t) (i ∷ []) []) place
    ∙ sym (places_more t 0 cs c)

-- ---- a key's places taken out of a table, and other ones put there

told_either : (b : Bool) (o p : Option (Vec ℕ Global)) → told (cond b o p) ≡ cond b (told o) (told p)
told_either true o p = refl
told_either false o p = refl

abbrev Changes : Places → Places → List ℕ → Option (Vec ℕ Global) → Type 0
Changes ps new key o =
    (t : List ℕ) → get (slice_cmp nat_cmp) new t
    ≡ cond (is_at (slice_cmp nat_cmp key) t) o (get (slice_cmp nat_cmp) ps t)

pub changed : (ps new : Places) (key : List ℕ) (o : Option (Vec ℕ Global)) → Changes ps new key o →
    (t : List ℕ) → under t new ≡ cond (bytes_eq key t) (told o) (under t ps)
changed ps new key o changes t =
    ap told (changes t)
    ∙ told_either (is_eq (slice_cmp nat_cmp key t)) o (get (slice_cmp nat_cmp) ps t)
    ∙ ap (λ b. cond b (told o) (under t ps)) (is_eq-slice_cmp key t)

one_or_none : (ps mid : Places) (key t : List ℕ) (n : ℕ) (ns : List ℕ) → ns ≡ under key ps ++ n ∷ [] →
    under t mid ≡ cond (bytes_eq key t) [] (under t ps) → (b : Bool) → bytes_eq key t ≡ b →
    cond b ns (under t mid) ≡ under t ps ++ cond b (n ∷ []) []
one_or_none ps mid key t n ns is rest true e = is ∙ ap (λ u. under u ps ++ n ∷ []) ((bytes_eq-Decides key t).0 e)
one_or_none ps mid key t n ns is rest false e =
    rest ∙ ap (λ b. cond b [] (under t ps)) e ∙ sym (append-nil (under t ps))

pub added : (ps mid new : Places) (key : List ℕ) (n : ℕ) (known : Vec ℕ Global) →
    told (Some known) ≡ under key ps ++ n ∷ [] →
    ((t : List ℕ) → under t mid ≡ cond (bytes_eq key t) [] (under t ps)) → Changes mid new key (Some known) →
    AddsPlace key n ps new
added ps mid new key n known is rest changes t =
    changed mid new key (Some known) changes t
    ∙ one_or_none ps mid key t n (told (Some known)) is (rest t) (bytes_eq key t) refl
