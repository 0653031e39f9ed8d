-- Names that are put behind one another, and then in order.
use Rattle.std.proofs.Common.{◌≡◌, ℕ, Bool, true, false, cond, ◌||◌, IsTrue, List, [], ◌∷◌, ◌++◌, map, filter, refl, ap, sym, subst, ◌∙◌, if◌then◌else◌, arith, Result, Ok, Err, IfOk}
use Rattle.std.proofs.Math.Bool.{or_comm}
use Rattle.std.proofs.lemmas.List.{map-append}
use Rattle.std.proofs.lemmas.List.Folds.{list_any-append}
use Rattle.std.proofs.lemmas.List.Kept.{IsStrictlySortedBy-dedup}
use Rattle.std.proofs.lemmas.List.Sorted.{list_any-IsPermutation}
use Rattle.std.proofs.lemmas.Cmp.{nat_list_cmp_total}
use Rattle.std.specs.BTreeSet.{insert_key}
use Rattle.std.specs.Char.{to_ascii_lowercase}
use Rattle.std.specs.Cmp.{first_so, second_so}
use Rattle.std.specs.Cmp.Derive.{both_true}
use Rattle.std.specs.Cmp.Lexicographic.{same_text, texts_ties}
use Rattle.std.specs.List.{dedup, dedup_from, list_all}
use Rattle.std.specs.List.Sorted.{IsPermutation, IsSorted, IsStrictlySortedBy}
use Rattle.std.specs.Ordering.{is_lt}
use Rattle.std.specs.Str.{bytes_eq}
use Rattle.pp_values.specs.declared.memory.Memory.{Memory}
use Rattle.pp_values.specs.Rising.{text_cmp, with_texts, sorted, is_rising, has_text}
use Rattle.pp_values.proofs.RisingLemmas.{is_rising-with_texts, has_text-with_texts, same_rising}
use Rattle.res_core.specs.TagNames.{segments, is_filled, is_lower_byte, is_taggable, with_segments, names, lowered, tags, AddsTexts, TagsAreTheSet}

-- ---- a name in lower case

lower_byte : (b : ℕ) → is_lower_byte b ≡ true → to_ascii_lowercase b ≡ b
lower_byte b h = grind (arith, h)

-- what is in lower case stays as it is
pub lowered_stays : (name : List ℕ) → list_all is_lower_byte name ≡ true → lowered name ≡ name
lowered_stays [] h = refl
lowered_stays (b ∷ bs) h =
    ap (λ c. c ∷ lowered bs) (lower_byte b (first_so _ _ h)) ∙ ap (λ cs. b ∷ cs) (lowered_stays bs (second_so (is_lower_byte b) _ h))

-- ---- sorted, and each once

rising_strict : (ts : List (List ℕ)) → IsStrictlySortedBy text_cmp ts → is_rising ts ≡ true
unfolding IsStrictlySortedBy
rising_strict [] h = refl
rising_strict (t ∷ []) h = refl
rising_strict (t ∷ u ∷ us) h = both_true (ap is_lt h.0.0) (rising_strict (u ∷ us) h.1)

again : (a b : Bool) → (a || (a || b)) ≡ (a || b)
again true b = refl
again false b = refl

has_text-dedup_from : (k : List ℕ) (ts : List (List ℕ)) (q : List ℕ) → has_text (dedup_from bytes_eq k ts) q ≡ has_text (k ∷ ts) q
has_text-dedup_from k [] q = refl
has_text-dedup_from k (t ∷ ts) q =
    elim (bytes_eq t k) as (λ b. bytes_eq t k ≡ b → has_text (cond b (dedup_from bytes_eq k ts) (k ∷ dedup_from bytes_eq t ts)) q ≡ has_text (k ∷ t ∷ ts) q) [
      | true ↦ λ e. subst (λ u. has_text (dedup_from bytes_eq k ts) q ≡ has_text (k ∷ u ∷ ts) q) (sym (same_text t k (sym e))) (has_text-dedup_from k ts q ∙ sym (again (bytes_eq q k) (has_text ts q)))
      | false ↦ λ e. ap (λ b. bytes_eq q k || b) (has_text-dedup_from t ts q)
    ] refl

has_text-dedup : (ts : List (List ℕ)) (q : List ℕ) → has_text (dedup bytes_eq ts) q ≡ has_text ts q
has_text-dedup [] q = refl
has_text-dedup (t ∷ ts) q = has_text-dedup_from t ts q

or_nothing : (b : Bool) → (b || false) ≡ b
or_nothing true = refl
or_nothing false = refl

sorted_rises : (ts : List (List ℕ)) → is_rising (sorted ts) ≡ true
sorted_rises ts = is_rising-with_texts ts [] refl

sorted_holds : (ts : List (List ℕ)) (q : List ℕ) → has_text (sorted ts) q ≡ has_text ts q
sorted_holds ts q = has_text-with_texts ts [] q ∙ or_nothing (has_text ts q)

-- texts that were sorted rise once each stands there once
pub dedup_rises : (ts : List (List ℕ)) → IsSorted text_cmp ts → is_rising (dedup bytes_eq ts) ≡ true
dedup_rises ts h = rising_strict _ (IsStrictlySortedBy-dedup nat_list_cmp_total texts_ties ts h)

-- and are the same as if each had been put at its place
pub dedup_sorted : (ts us : List (List ℕ)) → IsPermutation ts us → IsSorted text_cmp us → dedup bytes_eq us ≡ sorted ts
dedup_sorted ts us moved h =
    same_rising _ _ (dedup_rises us h) (sorted_rises ts) (λ q. has_text-dedup us q ∙ sym (list_any-IsPermutation (bytes_eq q) ts us moved) ∙ sym (sorted_holds ts q))

-- lists that hold the same are the same in order
pub same_sorted : (ts us : List (List ℕ)) → ((q : List ℕ) → has_text ts q ≡ has_text us q) → sorted ts ≡ sorted us
same_sorted ts us alike =
    same_rising _ _ (sorted_rises ts) (sorted_rises us) (λ q. sorted_holds ts q ∙ alike q ∙ sym (sorted_holds us q))

pub with_texts-append : (ts us held : List (List ℕ)) → with_texts held (ts ++ us) ≡ with_texts (with_texts held ts) us
with_texts-append [] us held = refl
with_texts-append (t ∷ ts) us held = with_texts-append ts us (insert_key text_cmp held t)

-- texts put at their places among rising ones are all of them, in order
pub all_in_order : (held ts all us : List (List ℕ)) → is_rising held ≡ true → all ≡ held ++ ts → us ≡ sorted all →
    us ≡ with_texts held ts
all_in_order held ts all us h both e =
    e ∙ ap sorted both ∙ with_texts-append held ts []
    ∙ ap (λ vs. with_texts vs ts) (same_rising _ _ (sorted_rises held) h (sorted_holds held))

-- ---- the names of a resource

-- texts that were put behind others
pub put_behind : (old new ts : List (List ℕ)) → new ≡ old ++ ts → AddsTexts old new ts
put_behind old new ts e q = ap (λ us. has_text us q) e ∙ list_any-append (bytes_eq q) old ts

-- a name that is its only segment is put once
pub put_whole : (old new : List (List ℕ)) (name : List ℕ) → new ≡ old ++ lowered name ∷ [] → segments name ≡ name ∷ [] → AddsTexts old new (map lowered (with_segments name))
put_whole old new name e whole q =
    put_behind old new (lowered name ∷ []) e q
    ∙ ap (λ b. has_text old q || b) (once name ∙ sym (ap (λ ts. has_text (map lowered (name ∷ filter is_filled ts)) q) whole)) where
      once : (n : List ℕ) → has_text (lowered n ∷ []) q ≡ has_text (map lowered (n ∷ filter is_filled (n ∷ []))) q
      once [] = refl
      once (b ∷ bs) = sym (again (bytes_eq q (lowered (b ∷ bs))) false)

filled_first : (t : List ℕ) (ts : List (List ℕ)) → map lowered (filter is_filled (t ∷ [])) ++ map lowered (filter is_filled ts) ≡ map lowered (filter is_filled (t ∷ ts))
filled_first [] ts = refl
filled_first (b ∷ bs) ts = refl

behind : (ts us vs : List (List ℕ)) → (ts ++ us) ++ vs ≡ ts ++ (us ++ vs)
behind [] us vs = refl
behind (t ∷ ts) us vs = ap (λ xs. t ∷ xs) (behind ts us vs)

-- the first segment is put, and then the rest
pub segment_more : (rest segment after : List ℕ) (held more : List (List ℕ)) →
    segments rest ≡ segment ∷ segments after → more ≡ held ++ map lowered (filter is_filled (segment ∷ [])) →
    more ++ map lowered (filter is_filled (segments after)) ≡ held ++ map lowered (filter is_filled (segments rest))
segment_more rest segment after held more cut put =
    ap (λ h. h ++ map lowered (filter is_filled (segments after))) put
    ∙ behind held (map lowered (filter is_filled (segment ∷ []))) _
    ∙ ap (λ ts. held ++ ts) (filled_first segment (segments after) ∙ ap (λ ts. map lowered (filter is_filled ts)) (sym cut))

-- a name, its first segment and the others are put
pub put_parts : (old one two new : List (List ℕ)) (name first others : List ℕ) →
    one ≡ old ++ lowered name ∷ [] → two ≡ one ++ map lowered (filter is_filled (first ∷ [])) →
    new ≡ two ++ map lowered (filter is_filled (segments others)) → segments name ≡ first ∷ segments others →
    AddsTexts old new (map lowered (with_segments name))
put_parts old one two new name first others named headed followed cut =
    put_behind old new (map lowered (with_segments name))
    (followed ∙ segment_more name first others one two cut headed ∙ ap (λ ts. ts ++ map lowered (filter is_filled (segments name))) named ∙ behind old (lowered name ∷ []) _)

turned : (g t k : Bool) → ((g || t) || k) ≡ (k || (t || (g || false)))
turned g t k = or_comm _ k ∙ ap (λ b. k || b) (or_comm g t ∙ ap (λ b. t || b) (sym (or_nothing g)))

-- what the names of the four parts hold
names_hold : (kind title : List ℕ) (given container : List (List ℕ)) (q : List ℕ) →
    has_text (map lowered (names kind title given container)) q
    ≡ (has_text (map lowered (with_segments kind)) q
    || (has_text (map lowered (if is_taggable title then with_segments title else [])) q
    || (has_text (map lowered given) q || has_text (map lowered container) q)))
names_hold kind title given container q =
    ap has (map-append lowered (with_segments kind) _ ∙ ap (λ x. k ++ x) (map-append lowered (if is_taggable title then with_segments title else []) _ ∙ ap (λ x. t ++ x) (map-append lowered given container)))
    ∙ list_any-append (bytes_eq q) k _
    ∙ ap (λ x. has k || x) (list_any-append (bytes_eq q) t _ ∙ ap (λ x. has t || x) (list_any-append (bytes_eq q) g (map lowered container))) where
      k : List (List ℕ)
      k = map lowered (with_segments kind)

      t : List (List ℕ)
      t = map lowered (if is_taggable title then with_segments title else [])

      g : List (List ℕ)
      g = map lowered given

      has : List (List ℕ) → Bool
      has ts = has_text ts q

-- the names of three parts are put behind one another
pub own_put : (kind title : List ℕ) (given start b c d : List (List ℕ)) → start ≡ [] → b ≡ start ++ map lowered given →
    AddsTexts b c (map lowered (if is_taggable title then with_segments title else [])) →
    AddsTexts c d (map lowered (with_segments kind)) →
    (q : List ℕ) → has_text d q ≡ has_text (map lowered (names kind title given [])) q
own_put kind title given start b c d empty of_given of_title of_kind q =
    of_kind q
    ∙ ap (λ x. x || has_text (map lowered (with_segments kind)) q)
    (of_title q
    ∙ ap (λ x. x || has_text (map lowered (if is_taggable title then with_segments title else [])) q)
    (ap (λ us. has_text us q) (of_given ∙ ap (λ us. us ++ map lowered given) empty)))
    ∙ turned (has_text (map lowered given) q)
    (has_text (map lowered (if is_taggable title then with_segments title else [])) q)
    (has_text (map lowered (with_segments kind)) q)
    ∙ sym (names_hold kind title given [] q)

-- texts that are all in lower case stay as they are
pub all_stay : (ts : List (List ℕ)) → list_all (list_all is_lower_byte) ts ≡ true → map lowered ts ≡ ts
all_stay [] h = refl
all_stay (t ∷ ts) h =
    ap (λ u. u ∷ map lowered ts) (lowered_stays t (first_so _ _ h))
    ∙ ap (λ us. t ∷ us) (all_stay ts (second_so (list_all is_lower_byte t) _ h))

-- a copy of such texts holds what they hold
pub copy_holds : (r : Result (List (List ℕ)) Memory) (ts : List (List ℕ)) → list_all (list_all is_lower_byte) ts ≡ true →
    IfOk r (λ us. us ≡ ts) → IfOk r (λ us. (q : List ℕ) → has_text us q ≡ has_text (map lowered ts) q)
copy_holds (Ok us) ts h e = λ q. ap (λ vs. has_text vs q) (e ∙ sym (all_stay ts h))
copy_holds (Err m) ts h e = e

-- texts that were put into an empty list, in order
pub put_holds : (us all start names ts : List (List ℕ)) → us ≡ sorted all → all ≡ start ++ map lowered names →
    start ≡ [] → names ≡ ts → (q : List ℕ) → has_text us q ≡ has_text (map lowered ts) q
put_holds us all start names ts in_order put empty same q =
    ap (λ vs. has_text vs q) in_order
    ∙ sorted_holds all q
    ∙ ap (λ vs. has_text vs q) (put ∙ ap (λ vs. vs ++ map lowered names) empty ∙ ap (map lowered) same)

regrouped : (k t g n : Bool) → ((k || (t || (g || false))) || n) ≡ (k || (t || (g || n)))
regrouped true t g n = refl
regrouped false true g n = refl
regrouped false false true n = refl
regrouped false false false n = refl

-- the container's tags with the other names put at their places are the tags
pub tags_made : (kind title : List ℕ) (given container held own : List (List ℕ)) → is_rising held ≡ true →
    ((q : List ℕ) → has_text held q ≡ has_text (map lowered container) q) →
    ((q : List ℕ) → has_text own q ≡ has_text (map lowered (names kind title given [])) q) →
    with_texts held own ≡ tags kind title given container
tags_made kind title given container held own rises of_held of_own =
    same_rising (with_texts held own) (tags kind title given container) (is_rising-with_texts own held rises)
    (sorted_rises (map lowered (names kind title given container)))
    (λ q.
    has_text-with_texts own held q
    ∙ ap (λ b. b || has_text held q) (of_own q ∙ names_hold kind title given [] q)
    ∙ ap (λ b. (has_text (map lowered (with_segments kind)) q
    || (has_text (map lowered (if is_taggable title then with_segments title else [])) q
    || (has_text (map lowered given) q || false))) || b) (of_held q)
    ∙ regrouped (has_text (map lowered (with_segments kind)) q)
    (has_text (map lowered (if is_taggable title then with_segments title else [])) q)
    (has_text (map lowered given) q) (has_text (map lowered container) q)
    ∙ sym (names_hold kind title given container q)
    ∙ sym (sorted_holds (map lowered (names kind title given container)) q))

-- ---- what the tags are

pub rising_tags : (kind title : List ℕ) (given container ts : List (List ℕ)) → ts ≡ tags kind title given container → IsTrue (is_rising ts)
rising_tags kind title given container ts e = ap is_rising e ∙ sorted_rises (map lowered (names kind title given container))

pub tags_are_the_set : TagsAreTheSet
tags_are_the_set kind title given container ts = (there, back) where
  all : List (List ℕ)
  all = map lowered (names kind title given container)

  there : ts ≡ tags kind title given container → IsTrue (is_rising ts) × ((t : List ℕ) → has_text ts t ≡ has_text (map lowered (names kind title given container)) t)
  there e = (rising_tags kind title given container ts e, λ t. ap (λ us. has_text us t) e ∙ sorted_holds all t)

  back : IsTrue (is_rising ts) × ((t : List ℕ) → has_text ts t ≡ has_text (map lowered (names kind title given container)) t) → ts ≡ tags kind title given container
  back h = same_rising ts _ h.0 (sorted_rises all) (λ t. h.1 t ∙ sym (sorted_holds all t))
