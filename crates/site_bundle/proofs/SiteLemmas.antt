-- The files and nodes of a site as maps: what is found in them, and what is put in.
use Rattle.std.proofs.Common.{◌≡◌, Bor, ℕ, Bool, true, false, ◌&&◌, ◌||◌, T, IsTrue, cond, None, Some, Option, List, [], ◌∷◌, ◌++◌, append_assoc, append-nil, refl, sym, ap, subst, ◌∙◌}
use Rattle.std.specs.Prelude.{option_map, option_copied, IsSome, IfSome, if◌then◌else◌}
use Rattle.std.specs.declared.cmp.Ordering.{Ordering}
use Rattle.std.specs.declared.cmp.Ordering.TheVariants.{Less, Equal, Greater}
use Rattle.std.specs.Ordering.{eq_by_cmp, is_eq, is_lt, match_ordering}
use Rattle.std.proofs.lemmas.List.Elements.{All-head, All-tail, All-cons}
use Rattle.std.proofs.lemmas.Map.Text.{is_eq-slice_cmp}
use Rattle.std.proofs.lemmas.Slice.Eq.{bytes_eq-Decides}
use Rattle.std.specs.Cmp.Lexicographic.{nat_list_cmp_total}
use Rattle.std.specs.BTreeMap.{insert_entry, is_at}
use Rattle.std.specs.Map.{lookup}
use Rattle.std.specs.Str.{bytes_eq}
use Rattle.std.specs.FinMap.{find, put}
use Rattle.std.specs.FinMap.Entries.{by_order, below_all, find-put, is_sorted-put}
use Rattle.std.proofs.lemmas.List.{map-append}
use Rattle.std.proofs.lemmas.List.Folds.{list_all-append}
use Rattle.std.specs.List.{All, list_all}
use Rattle.pp_parser.specs.Manifest.{file_of}
use Rattle.pp_values.specs.declared.value.Value.{Value}
use Rattle.pp_values.specs.Datum.{Datum}
use Rattle.pp_values.specs.Views.{view}
use Rattle.pp_values.specs.Facts.{are_facts}
use Rattle.pp_values.specs.PairLists.{fact_view, fact_views}
use Rattle.pp_values.specs.Rising.{text_cmp}
use Rattle.pp_tree.specs.declared.manifest_file.ManifestFile.{ManifestFile}
use Rattle.site_bundle.specs.Given.{has_key}
use Rattle.site_bundle.specs.SiteView.{Filed, Listed, are_rising, have_facts, put_in}
use Rattle.site_bundle.specs.Listing.{shown, listed, IsRead, AreRead, IsShort, AreShort}

true_of : (b : Bool) → T b → IsTrue b
true_of true h = refl
true_of false h = absurd h

test_of : (b : Bool) → IsTrue b → T b
test_of b e = subst T (sym e) tt

both : (a b : Bool) → IsTrue a → IsTrue b → IsTrue (a && b)
both true b p q = q
both false b p q = p

first : (a b : Bool) → IsTrue (a && b) → IsTrue a
first true b h = refl
first false b h = h

second : (a b : Bool) → IsTrue (a && b) → IsTrue b
second true b h = h
second false b h = absurd (test_of false h)

-- ---- whatever stands at the keys

module _ {X Y : Type 0} (f : X → Y) where
  -- to insert an entry is to put what it shows
  pub shown-insert : (es : List (List ℕ × X)) (k : List ℕ) (v : X) →
      shown f (insert_entry text_cmp es k v) ≡ put text_cmp k (f v) (shown f es)
  shown-insert [] k v = refl
  shown-insert (e ∷ es) k v =
      elim (text_cmp k e.0) as (λ r. shown f (match_ordering r ((k, v) ∷ e ∷ es) ((e.0, v) ∷ es)
      (e ∷ insert_entry text_cmp es k v))
      ≡ by_order r ((k, f v) ∷ shown f (e ∷ es)) ((e.0, f v) ∷ shown f es)
      ((e.0, f e.1) ∷ put text_cmp k (f v) (shown f es))) [
        | Less ↦ refl
        | Equal ↦ refl
        | Greater ↦ ap (λ l. (e.0, f e.1) ∷ l) (shown-insert es k v)
      ]

  -- what is looked up shows what is found
  pub lookup-shown : (es : List (List ℕ × X)) (k : List ℕ) →
      option_map f (lookup (is_at (text_cmp k)) es) ≡ find text_cmp k (shown f es)
  lookup-shown [] k = refl
  lookup-shown (e ∷ es) k =
      elim (eq_by_cmp text_cmp k e.0) as (λ b. option_map f (cond b (Some e.1) (lookup (is_at (text_cmp k)) es)) ≡ cond
      b (Some (f e.1)) (find text_cmp k (shown f es))) [
        | true ↦ refl
        | false ↦ lookup-shown es k
      ]

  -- what is shown of a value that is found
  pub viewed : (o : Option (Bor X)) (p : Option X) → option_copied o ≡ p → option_map (λ v. f v.now) o ≡ option_map f p
  viewed None p is = ap (option_map f) is
  viewed (Some v) p is = ap (option_map f) is

pub rising-put : {X : Type 0} (k : List ℕ) (v : X) (es : List (List ℕ × X)) → IsTrue (are_rising es) →
    IsTrue (are_rising (put text_cmp k v es))
rising-put k v es rising = true_of _ (is_sorted-put text_cmp nat_list_cmp_total k v es (test_of _ rising))

-- a fact of what stands in a map holds after a put, or where nothing was put
pub still : {X : Type 0} (P : List X → Type 0) (b : Bool) (old new with : List X) → P old → P with →
    new ≡ (if b then with else old) → P new
still P true old new with before after is = subst P (sym is) after
still P false old new with before after is = subst P (sym is) before

-- the last of the pairs is put in first
pub put_in-last : {X : Type 0} (es ps : List (List ℕ × X)) (p : List ℕ × X) →
    put_in es (ps ++ p ∷ []) ≡ put_in (put text_cmp p.0 p.1 es) ps
unfolding put_in
put_in-last es [] p = refl
put_in-last es (q ∷ ps) p = ap (put text_cmp q.0 q.1) (put_in-last es ps p)

pub put_in-none : {X : Type 0} (es : List (List ℕ × X)) → put_in es [] ≡ es
unfolding put_in
put_in-none es = refl

-- after the last one was put in, the others give the whole
pub put_step : {X : Type 0} (done more left rest all : List (List ℕ × X)) (p : List ℕ × X) → left ≡ rest ++ p ∷ [] →
    more ≡ put text_cmp p.0 p.1 done →
    put_in done left ≡ put_in [] all → put_in more rest ≡ put_in [] all
put_step done more left rest all p parts is held =
    ap (λ es. put_in es rest) is ∙ sym (put_in-last done rest p) ∙ ap (put_in done) (sym parts) ∙ held

pub put_end : {X : Type 0} (done left all : List (List ℕ × X)) → left ≡ [] → put_in done left ≡ put_in [] all →
    done ≡ put_in [] all
put_end done left all none held = sym (put_in-none done) ∙ ap (put_in done) (sym none) ∙ held

-- ---- pairs that rise

less : (o : Ordering) → IsTrue (is_lt o) → o ≡ Less
less Less h = refl
less Equal h = absurd (test_of false h)
less Greater h = absurd (test_of false h)

put_front : {X : Type 0} (k : List ℕ) (v : X) (es : List (List ℕ × X)) → IsTrue (below_all text_cmp k es) →
    put text_cmp k v es ≡ (k, v) ∷ es
put_front k v [] h = refl
put_front k v (e ∷ es) h = rw (less _ (first (is_lt (text_cmp k e.0)) _ h)) refl

-- they are the same when they are put in
pub put_in_rising : {X : Type 0} (ps : List (List ℕ × X)) → IsTrue (are_rising ps) → put_in [] ps ≡ ps
unfolding put_in
put_in_rising [] h = refl
put_in_rising (p ∷ ps) h =
    ap (put text_cmp p.0 p.1) (put_in_rising ps (second (below_all text_cmp p.0 ps) _ h))
    ∙ put_front p.0 p.1 ps (first (below_all text_cmp p.0 ps) _ h)

-- ---- texts

pub insert-put : (es : List Filed) (k v : List ℕ) → insert_entry text_cmp es k v ≡ put text_cmp k v es
insert-put [] k v = refl
insert-put (e ∷ es) k v =
    elim (text_cmp k e.0) as (λ r. match_ordering r ((k, v) ∷ e ∷ es) ((e.0, v) ∷ es)
    (e ∷ insert_entry text_cmp es k v) ≡ by_order r ((k, v) ∷ e ∷ es) ((e.0, v) ∷ es) (e ∷ put text_cmp k v es)) [
      | Less ↦ refl
      | Equal ↦ refl
      | Greater ↦ ap (λ l. e ∷ l) (insert-put es k v)
    ]

pub lookup-find : (es : List Filed) (k : List ℕ) → lookup (is_at (text_cmp k)) es ≡ find text_cmp k es
lookup-find [] k = refl
lookup-find (e ∷ es) k =
    elim (eq_by_cmp text_cmp k e.0) as (λ b. cond b (Some e.1) (lookup (is_at (text_cmp k)) es)
    ≡ cond b (Some e.1) (find text_cmp k es)) [
      | true ↦ refl
      | false ↦ lookup-find es k
    ]

-- texts are short where another short one is put in
pub short-put : (es : List Filed) (k v : List ℕ) → IsShort (k, v) → AreShort es → AreShort (put text_cmp k v es)
short-put [] k v short all = All-cons IsShort (k, v) [] short all
short-put (e ∷ es) k v short all =
    elim (text_cmp k e.0) as (λ r.
    AreShort (by_order r ((k, v) ∷ e ∷ es) ((e.0, v) ∷ es) (e ∷ put text_cmp k v es))) [
      | Less ↦ All-cons IsShort (k, v) (e ∷ es) short all
      | Equal ↦ All-cons IsShort (e.0, v) es short (All-tail IsShort e es all)
      | Greater ↦ All-cons IsShort e (put text_cmp k v es) (All-head IsShort e es all)
          (short-put es k v short (All-tail IsShort e es all))
    ]

-- the next one goes behind those that are done
pub one_listed : (done more rest left all : List Filed) (p m : Filed) → left ≡ p ∷ rest → m ≡ p → more ≡ done ++ m ∷ [] →
    done ++ left ≡ all → more ++ rest ≡ all
one_listed done more rest left all p m next same made held =
    ap (λ l. l ++ rest) (made ∙ ap (λ x. done ++ x ∷ []) same) ∙ append_assoc done (p ∷ []) rest
    ∙ ap (λ l. done ++ l) (sym next) ∙ held

pub all_listed : (done left all : List Filed) → left ≡ [] → done ++ left ≡ all → done ≡ all
all_listed done left all none held = sym (append-nil done) ∙ ap (λ l. done ++ l) (sym none) ∙ held

-- a key that is given is found
some_if : {X : Type 0} (b : Bool) (v : X) (o : Option X) → (b ≡ false → IsSome o) → IsSome (cond b (Some v) o)
some_if true v o h = refl
some_if false v o h = h refl

pub or_right : (a b : Bool) → a ≡ false → IsTrue (a || b) → IsTrue b
or_right true b e h = absurd cc
or_right false b e h = h

pub found_if_given : {X : Type 0} (key : List ℕ) (ps : List (List ℕ × X)) → IsTrue (has_key key ps) →
    IsSome (find text_cmp key (put_in [] ps))
unfolding put_in
found_if_given key [] h = absurd cc
found_if_given key (p ∷ ps) h =
    subst (λ o. IsSome o) (sym (find-put text_cmp nat_list_cmp_total key p.0 p.1 (put_in [] ps)))
    (some_if (eq_by_cmp text_cmp key p.0) p.1 (find text_cmp key (put_in [] ps))
    (λ other. found_if_given key ps (or_right (bytes_eq key p.0) (has_key key ps)
    (sym (is_eq-slice_cmp key p.0) ∙ other) h)))

-- what holds of each element holds of the last one, and of the others
pub each_before : {X : Type 0} (p : X → Bool) (xs all : List X) (x : X) → all ≡ xs ++ x ∷ [] → IsTrue (list_all p all) →
    IsTrue (list_all p xs)
each_before p xs all x parts h = first _ _ (sym (ap (list_all p) parts ∙ list_all-append p xs (x ∷ [])) ∙ h)

pub last_too : {X : Type 0} (p : X → Bool) (xs all : List X) (x : X) → all ≡ xs ++ x ∷ [] → IsTrue (list_all p all) →
    IsTrue (p x)
last_too p xs all x parts h = first _ _ (second (list_all p xs) _
    (sym (ap (list_all p) parts ∙ list_all-append p xs (x ∷ [])) ∙ h))

pub views_parts : (xs all : List (List ℕ × Value)) (x : List ℕ × Value) → all ≡ xs ++ x ∷ [] →
    fact_views all ≡ fact_views xs ++ fact_view x ∷ []
views_parts xs all x parts = ap fact_views parts ∙ map-append fact_view xs (x ∷ [])

-- ---- facts

found_facts : (es : List Listed) (k : List ℕ) → IsTrue (have_facts es) →
    IfSome (find text_cmp k es) (λ d. IsTrue (are_facts d))
found_facts [] k h = tt
found_facts (e ∷ es) k h =
    elim (eq_by_cmp text_cmp k e.0) as (λ b. IfSome (cond b (Some e.1) (find text_cmp k es))
    (λ d. IsTrue (are_facts d))) [
      | true ↦ first _ _ h
      | false ↦ found_facts es k (second _ _ h)
    ]

pub have_facts-put : (k : List ℕ) (d : Datum) (es : List Listed) → IsTrue (are_facts d) → IsTrue (have_facts es) →
    IsTrue (have_facts (put text_cmp k d es))
have_facts-put k d [] p h = both _ _ p refl
have_facts-put k d (e ∷ es) p h =
    elim (text_cmp k e.0) as (λ r. IsTrue (have_facts
    (by_order r ((k, d) ∷ e ∷ es) ((e.0, d) ∷ es) (e ∷ put text_cmp k d es)))) [
      | Less ↦ both _ _ p h
      | Equal ↦ both _ _ p (second _ _ h)
      | Greater ↦ both _ _ (first _ _ h) (have_facts-put k d es p (second _ _ h))
    ]

pub viewed_facts : (o : Option (Bor Value)) (es : List Listed) (k : List ℕ) →
    option_map (λ v. view v.now) o ≡ find text_cmp k es →
    IsTrue (have_facts es) → IfSome o (λ v. IsTrue (are_facts (view v.now)))
viewed_facts None es k is h = tt
viewed_facts (Some v) es k is h = subst (λ p. IfSome p (λ d. IsTrue (are_facts d))) (sym is) (found_facts es k h)

-- ---- trees

same_key : (a b : List ℕ) → eq_by_cmp text_cmp a b ≡ true → a ≡ b
same_key a b e = (bytes_eq-Decides a b).0 (sym (is_eq-slice_cmp a b) ∙ e)

-- what was read of a file stays so when another is put in, and a new one has been read
pub are_read-insert : (es : List (List ℕ × ManifestFile)) (k : List ℕ) (v : ManifestFile) → v.read ≡ file_of k v.text →
    AreRead es →
    AreRead (insert_entry text_cmp es k v)
are_read-insert [] k v read all = All-cons IsRead (k, v) [] read all
are_read-insert (e ∷ es) k v read all =
    elim (text_cmp k e.0) as (λ r. text_cmp k e.0 ≡ r →
    AreRead (match_ordering r ((k, v) ∷ e ∷ es) ((e.0, v) ∷ es) (e ∷ insert_entry text_cmp es k v))) [
      | Less ↦ λ is. All-cons IsRead (k, v) (e ∷ es) read all
      | Equal ↦ λ is.
          All-cons IsRead (e.0, v) es (subst (λ p. v.read ≡ file_of p v.text) (same_key k e.0 (ap is_eq is)) read)
          (All-tail IsRead e es all)
      | Greater ↦ λ is. All-cons IsRead e (insert_entry text_cmp es k v) (All-head IsRead e es all)
          (are_read-insert es k v read (All-tail IsRead e es all))
    ] refl

-- what is looked up was read at this path
found_read : (es : List (List ℕ × ManifestFile)) (k : List ℕ) → AreRead es →
    IfSome (lookup (is_at (text_cmp k)) es) (λ v. v.read ≡ file_of k v.text)
found_read [] k all = tt
found_read (e ∷ es) k all =
    elim (eq_by_cmp text_cmp k e.0) as (λ b. eq_by_cmp text_cmp k e.0 ≡ b →
    IfSome (cond b (Some e.1) (lookup (is_at (text_cmp k)) es)) (λ v. v.read ≡ file_of k v.text)) [
      | true ↦ λ is. subst (λ p. e.1.read ≡ file_of p e.1.text) (sym (same_key k e.0 is)) (All-head IsRead e es all)
      | false ↦ λ is. found_read es k (All-tail IsRead e es all)
    ] refl

pub viewed_read : (o : Option (Bor ManifestFile)) (es : List (List ℕ × ManifestFile)) (k : List ℕ) →
    option_copied o ≡ lookup (is_at (text_cmp k)) es → AreRead es →
    IfSome o (λ v. v.now.read ≡ file_of k v.now.text)
viewed_read None es k is all = tt
viewed_read (Some v) es k is all = subst (λ p. IfSome p (λ v. v.read ≡ file_of k v.text)) (sym is) (found_read es k all)
