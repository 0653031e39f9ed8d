-- Declarations that are called by their titles are called apart, since no two have the same reference.
use Rattle.std.proofs.Common.{◌≡◌, ◌⊎◌, inl, inr, ℕ, zero, suc, ◌+◌, ◌<◌, Bool, true, false, not, ◌&&◌, ◌||◌, ◌==◌, if◌then◌else◌, cond, IsTrue, List, [], ◌∷◌, ◌++◌, drop, filter, find, Option, None, Some, option_map, Ok, refl, sym, ap, ◌∙◌, arith}
use Rattle.std.proofs.lemmas.Slice.Eq.{bytes_eq-Decides}
use Rattle.std.specs.Cmp.{first_so, second_so}
use Rattle.std.specs.Cmp.Derive.{both_true}
use Rattle.std.specs.List.{list_all}
use Rattle.std.specs.Prelude.{codes, slice_get}
use Rattle.std.specs.Str.{bytes_eq}
use Rattle.pp_ops.specs.Same.{same}
use Rattle.pp_values.specs.Answers.{and_then, in_turn}
use Rattle.pp_values.specs.Datum.{undef, text}
use Rattle.pp_values.specs.Rising.{is_rising}
use Rattle.pp_values.specs.Settings.{Setting, setting_names}
use Rattle.res_core.specs.AttributeViews.{set_in, settings}
use Rattle.res_core.specs.NativeTypes as native_types
use Rattle.res_core.specs.NativeTypes.{native_of}
use Rattle.res_core.specs.declared.attribute.Attribute.{Attribute}
use Rattle.res_core.specs.declared.declared.Declared.{Declared}
use Rattle.res_core.specs.declared.native_type.NativeType.{NativeType}
use Rattle.res_core.specs.declared.native_type.NativeType.TheVariants as native
use Rattle.res_book.specs.Rows.{AreApart, is_live, number_of, reference_of}
use Rattle.res_book.specs.declared.row.Row.{Row}
use Rattle.override_rules.proofs.Alone.{told_untouched}
use Rattle.override_rules.specs.Meaning.{State, touched_by}
use Rattle.override_rules.specs.Names.{attributes_of, is_set}
use Rattle.catalog_finish.specs.Naming.{Called, called_by, is_told_apart, name_step, name_told, names_checked, native_called, or_title, or_undef, provider_of, same_name, with_name}
use Rattle.catalog_finish.specs.Titles.{has_setting, has_no_name, has_attribute, are_nameless, is_titled, is_by_title, is_surely_by_title, is_unnamed}

neither : (a b : Bool) → (a || b) ≡ false → (a ≡ false) × (b ≡ false)
neither true b e = absurd cc
neither false b e = (refl, e)

neither_back : (a b : Bool) → a ≡ false → b ≡ false → (a || b) ≡ false
neither_back true b e f = absurd cc
neither_back false b e f = f

not_true : (b : Bool) → not b ≡ true → b ≡ false
not_true true e = absurd cc
not_true false e = refl

-- ---- attributes without a name

seen_setting : (attributes : List Attribute) (name : List ℕ) →
    has_setting (settings attributes) name ≡ has_attribute attributes name
seen_setting [] name = refl
seen_setting (a ∷ rest) name = ap (λ b. bytes_eq a.name name || b) (seen_setting rest name)

not_set : (ss : List Setting) (name : List ℕ) → has_setting ss name ≡ false → set_in ss name ≡ None
not_set [] name e = refl
not_set (s ∷ ss) name e =
    let parts = neither (bytes_eq s.0 name) (has_setting ss name) e in
    ap (λ b. option_map (λ x. x.1) (cond b (Some s) (find (λ x. bytes_eq x.0 name) ss))) parts.0 ∙ not_set ss name parts.1

fewer : (ss : List Setting) (name : List ℕ) → has_setting ss name ≡ false → has_setting (filter is_set ss) name ≡ false
fewer [] name e = refl
fewer (s ∷ ss) name e =
    let parts = neither (bytes_eq s.0 name) (has_setting ss name) e in
    elim (is_set s) as (λ b. has_setting (cond b (s ∷ filter is_set ss) (filter is_set ss)) name ≡ false) [
      | true ↦ neither_back (bytes_eq s.0 name) (has_setting (filter is_set ss) name) parts.0 (fewer ss name parts.1)
      | false ↦ fewer ss name parts.1
    ]

fewer_names : (n : NativeType) (ss : List Setting) → has_no_name n ss ≡ true → has_no_name n (filter is_set ss) ≡ true
fewer_names n ss e =
    elim (is_told_apart n) as (λ b. (not b || not (has_setting ss (native_types.row n).namevar || has_setting ss (codes "provider"))) ≡ true → (not b || not (has_setting (filter is_set ss) (native_types.row n).namevar || has_setting (filter is_set ss) (codes "provider"))) ≡ true) [
      | true ↦ λ h. let parts = neither (has_setting ss (native_types.row n).namevar) _ (not_true _ h) in
          ap not (neither_back (has_setting (filter is_set ss) (native_types.row n).namevar) _ (fewer ss (native_types.row n).namevar parts.0) (fewer ss (codes "provider") parts.1))
      | false ↦ λ h. refl
    ] e

nameless : (n : NativeType) (attributes : List Attribute) → has_no_name n (settings attributes) ≡ are_nameless n attributes
nameless n attributes =
    λ i. not (is_told_apart n) || not (seen_setting attributes (native_types.row n).namevar i || seen_setting attributes (codes "provider") i)

-- of a declaration that nothing else concerns
pub by_own : (s : State) (r : Row) (b : Bool) (n : NativeType) (attributes : List Attribute) →
    b ≡ (touched_by s r == 0) → b ≡ true → settings attributes ≡ r.declared.item.attributes →
    IsTrue (is_rising (setting_names r.declared.item.attributes)) → are_nameless n attributes ≡ true →
    has_no_name n (attributes_of s r) ≡ true
by_own s r b n attributes told holds is rises none =
    ap (has_no_name n) (told_untouched s r b told holds rises)
    ∙ fewer_names n r.declared.item.attributes (sym (ap (has_no_name n) is) ∙ nameless n attributes ∙ none)

-- as the declaration tells by itself
pub unnamed_alone : (s : State) (r : Row) (b c : Bool) (n : NativeType) (attributes : List Attribute) →
    b ≡ (touched_by s r == 0) → b ≡ true → settings attributes ≡ r.declared.item.attributes →
    c ≡ are_nameless n attributes → c ≡ is_unnamed s r n
unnamed_alone s r b c n attributes told holds is none =
    none ∙ sym (nameless n attributes) ∙ ap (has_no_name n) is
    ∙ ap (λ t. t && has_no_name n r.declared.item.attributes) (sym holds ∙ told)

pub unnamed_not : (s : State) (r : Row) (b : Bool) (n : NativeType) → b ≡ (touched_by s r == 0) → b ≡ false →
    false ≡ is_unnamed s r n
unnamed_not s r b n told holds = ap (λ t. t && has_no_name n r.declared.item.attributes) (sym holds ∙ told)

-- ---- what they are called

abbrev titled : Declared → Called
titled d = record { kind = d.item.kind; title = d.item.title; name = text d.item.title; provider = undef }

provider_none : (n : NativeType) (ss : List Setting) → set_in ss (codes "provider") ≡ None → provider_of n ss ≡ undef
provider_none native.File ss e = refl
provider_none native.Package ss e = ap or_undef e
provider_none native.Service ss e = refl
provider_none native.User ss e = refl
provider_none native.Group ss e = refl
provider_none native.Host ss e = refl
provider_none native.Cron ss e = refl
provider_none native.Exec ss e = refl
provider_none native.Notify ss e = refl

by_title : (n : NativeType) (d : Declared) (ss : List Setting) → set_in ss (native_types.row n).namevar ≡ None →
    set_in ss (codes "provider") ≡ None → called_by n d ss ≡ titled d
by_title n d ss name provider = λ i. record {
  kind = d.item.kind;
  title = d.item.title;
  name = or_title (name i) d.item.title;
  provider = provider_none n ss provider i;
}

called_titled : (o : Option NativeType) (d : Declared) (ss : List Setting) → is_titled o ss ≡ true →
    (native_called o d ss ≡ None) ⊎ (native_called o d ss ≡ Some (titled d))
called_titled None d ss e = inl refl
called_titled (Some n) d ss e =
    elim (is_told_apart n) as (λ b. (not b || not (has_setting ss (native_types.row n).namevar || has_setting ss (codes "provider"))) ≡ true → ((if b then Some (called_by n d ss) else None) ≡ None) ⊎ ((if b then Some (called_by n d ss) else None) ≡ Some (titled d))) [
      | true ↦ λ h. let parts = neither (has_setting ss (native_types.row n).namevar) _ (not_true _ h) in
          inr (ap Some (by_title n d ss (not_set ss (native_types.row n).namevar parts.0) (not_set ss (codes "provider") parts.1)))
      | false ↦ λ h. inl refl
    ] e

-- ---- which of them came before

-- it is one of the first n declarations, called by its title
abbrev Came : List Row → ℕ → Called → Type 0
Came rows n c = (m : ℕ) × (q : Row) × (m < n) × (slice_get rows m ≡ Some q) × (c ≡ titled q.declared)

abbrev Known : List Row → ℕ → List Called → Type 0
Known rows n [] = Unit {0}
Known rows n (c ∷ cs) = Came rows n c × Known rows n cs

known_later : (rows : List Row) (n : ℕ) (cs : List Called) → Known rows n cs → Known rows (suc n) cs
known_later rows n [] known = tt
known_later rows n (c ∷ cs) ((m, q, before, there, is), known) = ((m, q, omega (arith, before), there, is), known_later rows n cs known)

known_more : (rows : List Row) (n : ℕ) (cs : List Called) (c : Called) → Known rows n cs → Came rows n c → Known rows n (cs ++ c ∷ [])
known_more rows n [] c known came = (came, tt)
known_more rows n (x ∷ cs) c (first, known) came = (first, known_more rows n cs c known came)

not_itself : (n m : ℕ) → m < n → Some n ≡ Some m → ⊥
not_itself n m before e = let same_number : n ≡ m = cc in omega (arith, before, same_number)

apart_from : (rows : List Row) → AreApart rows → (n m : ℕ) (r q : Row) → m < n → slice_get rows n ≡ Some r →
    slice_get rows m ≡ Some q → same_name (titled r.declared) (titled q.declared) ≡ true → ⊥
apart_from rows apart n m r q before here there h =
    not_itself n m before
    (sym (apart.found n r.declared (ap (option_map (λ x. x.declared)) here))
    ∙ ap (λ x. number_of x rows) same_one
    ∙ apart.found m q.declared (ap (option_map (λ x. x.declared)) there)) where
      same_one : reference_of r.declared ≡ reference_of q.declared
      same_one = λ i. record {
        kind = (bytes_eq-Decides r.declared.item.kind q.declared.item.kind).0 (first_so _ _ h) i;
        title = (bytes_eq-Decides r.declared.item.title q.declared.item.title).0
            (first_so _ (same undef undef) (second_so (bytes_eq r.declared.item.kind q.declared.item.kind) _ h)) i;
      }

none_same : (rows : List Row) → AreApart rows → (n : ℕ) (r : Row) → slice_get rows n ≡ Some r → (cs : List Called) →
    Known rows n cs → find (same_name (titled r.declared)) cs ≡ None
none_same rows apart n r here [] known = refl
none_same rows apart n r here (c ∷ cs) ((m, q, before, there, is), known) =
    elim (same_name (titled r.declared) c) as (λ b. same_name (titled r.declared) c ≡ b → cond b (Some c) (find (same_name (titled r.declared)) cs) ≡ None) [
      | true ↦ λ h. absurd (apart_from rows apart n m r q before here there (ap (same_name (titled r.declared)) (sym is) ∙ h))
      | false ↦ λ h. none_same rows apart n r here cs known
    ] refl

-- ---- one after another

step_titled : (s : State) (rows : List Row) → AreApart rows → (n : ℕ) (r : Row) → slice_get rows n ≡ Some r →
    is_by_title s r ≡ true → (cs : List Called) → Known rows n cs →
    (out : List Called) × (name_step s cs r ≡ Ok out) × Known rows (suc n) out
step_titled s rows apart n r here titled_so cs known =
    elim (is_live r) as (λ b. (out : List Called) × ((if b then with_name r.declared.at cs (native_called (native_of r.declared.item.kind) r.declared (attributes_of s r)) else Ok cs) ≡ Ok out) × Known rows (suc n) out) [
      | true ↦ live (called_titled (native_of r.declared.item.kind) r.declared (attributes_of s r) titled_so)
      | false ↦ (cs, refl, known_later rows n cs known)
    ] where
      called : Option Called
      called = native_called (native_of r.declared.item.kind) r.declared (attributes_of s r)

      live : (called ≡ None) ⊎ (called ≡ Some (titled r.declared)) →
          (out : List Called) × (with_name r.declared.at cs called ≡ Ok out) × Known rows (suc n) out
      live (inl e) = (cs, ap (with_name r.declared.at cs) e, known_later rows n cs known)
      live (inr e) = (
        cs ++ titled r.declared ∷ [],
        ap (with_name r.declared.at cs) e ∙ ap (name_told r.declared.at (titled r.declared) cs) (none_same rows apart n r here cs known),
        known_more rows (suc n) cs (titled r.declared) (known_later rows n cs known) (n, r, omega arith, here, refl),
      )

there_first : (rows rest : List Row) (n : ℕ) (r : Row) → drop n rows ≡ r ∷ rest → slice_get rows n ≡ Some r
there_first [] rest zero r e = absurd cc
there_first [] rest (suc n) r e = absurd cc
there_first (q ∷ rows) rest zero r e = ap Some cc
there_first (q ∷ rows) rest (suc n) r e = there_first rows rest n r e

there_rest : (rows rest : List Row) (n : ℕ) (r : Row) → drop n rows ≡ r ∷ rest → drop (suc n) rows ≡ rest
there_rest [] rest zero r e = absurd cc
there_rest [] rest (suc n) r e = absurd cc
there_rest (q ∷ rows) rest zero r e = cc
there_rest (q ∷ rows) rest (suc n) r e = there_rest rows rest n r e

all_titled : (s : State) (rows : List Row) → AreApart rows → (rest : List Row) (n : ℕ) (cs : List Called) →
    drop n rows ≡ rest → list_all (is_by_title s) rest ≡ true → Known rows n cs →
    (out : List Called) × (in_turn (name_step s) cs rest ≡ Ok out)
unfolding in_turn
all_titled s rows apart [] n cs is all known = (cs, refl)
all_titled s rows apart (r ∷ rest) n cs is all known =
    let (next, stepped, later) = step_titled s rows apart n r (there_first rows rest n r is) (first_so _ _ all) cs known in
    let (out, ended) = all_titled s rows apart rest (suc n) next (there_rest rows rest n r is) (second_so (is_by_title s r) _ all) later in
    (out, ap (λ m. and_then m (λ b. in_turn (name_step s) b rest)) stepped ∙ ended)

pub called_apart : (s : State) (rows : List Row) → AreApart rows → list_all (is_by_title s) rows ≡ true →
    names_checked s rows ≡ Ok tt
called_apart s rows apart all =
    let (out, ended) = all_titled s rows apart rows zero [] refl all tt in
    ap (λ m. and_then m (λ _. Ok tt)) ended

-- ---- a loop over declarations

pub title_next : (s : State) (rows : List Row) (n : ℕ) (r : Row) → drop n rows ≡ r ∷ drop (n + 1) rows →
    is_by_title s r ≡ true → (list_all (is_by_title s) (drop n rows) ≡ true → list_all (is_by_title s) rows ≡ true) →
    list_all (is_by_title s) (drop (n + 1) rows) ≡ true → list_all (is_by_title s) rows ≡ true
title_next s rows n r is here before after = before (ap (list_all (is_by_title s)) is ∙ both_true here after)

pub title_end : (s : State) (rows : List Row) (n : ℕ) → drop n rows ≡ [] →
    (list_all (is_by_title s) (drop n rows) ≡ true → list_all (is_by_title s) rows ≡ true) →
    list_all (is_by_title s) rows ≡ true
title_end s rows n ended before = before (ap (list_all (is_by_title s)) ended)

-- ---- and whether each tells so by itself

module _ (s : State) (rows : List Row) (n : ℕ) (r : Row) (is : drop n rows ≡ r ∷ drop (n + 1) rows)
    (before : list_all (is_surely_by_title s) rows ≡ list_all (is_surely_by_title s) (drop n rows)) where
  told_by : (b : Bool) → is_surely_by_title s r ≡ b →
      list_all (is_surely_by_title s) rows ≡ (b && list_all (is_surely_by_title s) (drop (n + 1) rows))
  told_by b h =
      before ∙ ap (list_all (is_surely_by_title s)) is
      ∙ ap (λ t. t && list_all (is_surely_by_title s) (drop (n + 1) rows)) h

  pub sure_next : is_surely_by_title s r ≡ true →
      list_all (is_surely_by_title s) rows ≡ list_all (is_surely_by_title s) (drop (n + 1) rows)
  sure_next h = told_by true h

  pub sure_stops : is_surely_by_title s r ≡ false → false ≡ list_all (is_surely_by_title s) rows
  sure_stops h = sym (told_by false h)

pub sure_end : (s : State) (rows : List Row) (n : ℕ) → drop n rows ≡ [] →
    list_all (is_surely_by_title s) rows ≡ list_all (is_surely_by_title s) (drop n rows) →
    true ≡ list_all (is_surely_by_title s) rows
sure_end s rows n ended before = sym (before ∙ ap (list_all (is_surely_by_title s)) ended)
