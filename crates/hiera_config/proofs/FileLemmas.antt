-- Files by path: what is put in, and what is found.
use Rattle.std.proofs.Common.{◌≡◌, Bor, ℕ, true, false, cond, None, Some, Option, List, [], ◌∷◌, ◌++◌, refl, sym, ap, subst, ◌∙◌}
use Rattle.std.specs.Prelude.{option_map, option_copied, IfSome}
use Rattle.std.specs.declared.cmp.Ordering.TheVariants.{Less, Equal, Greater}
use Rattle.std.specs.Ordering.{eq_by_cmp, is_eq, match_ordering}
use Rattle.std.proofs.lemmas.List.Elements.{All-head, All-tail, All-cons}
use Rattle.std.proofs.lemmas.Map.Text.{is_eq-slice_cmp}
use Rattle.std.proofs.lemmas.Slice.Eq.{bytes_eq-Decides}
use Rattle.std.specs.BTreeMap.{insert_entry, is_at}
use Rattle.std.specs.FinMap.{find, put}
use Rattle.std.specs.FinMap.Entries.{by_order}
use Rattle.std.specs.Map.{lookup}
use Rattle.pp_values.specs.Rising.{text_cmp}
use Rattle.hiera_config.specs.declared.site_data.DataFile.{DataFile}
use Rattle.hiera_config.specs.Documents.{File, put_in}
use Rattle.hiera_config.specs.Keeping.{filed, IsKept, AreKept}

abbrev pub Entry : Type 0
Entry = List ℕ × DataFile

-- ---- what is found

pub found_text : (es : List Entry) (path : List ℕ)
    → option_map (λ f. f.text) (lookup (is_at (text_cmp path)) es) ≡ find text_cmp path (filed es)
found_text [] path = refl
found_text (e ∷ es) path =
    elim (eq_by_cmp text_cmp path e.0) as
    (λ b. option_map (λ f. f.text) (cond b (Some e.1) (lookup (is_at (text_cmp path)) es))
    ≡ cond b (Some e.1.text) (find text_cmp path (filed es))) [
      | true ↦ refl
      | false ↦ found_text es path
    ]

pub lent_text : (o : Option (Bor DataFile)) (p : Option DataFile) → option_copied o ≡ p
    → option_map (λ f. f.now.text) o ≡ option_map (λ f. f.text) p
lent_text None p is = ap (option_map (λ f. f.text)) is
lent_text (Some f) p is = ap (option_map (λ f. f.text)) is

pub same_key : (a b : List ℕ) → eq_by_cmp text_cmp a b ≡ true → a ≡ b
same_key a b e = (bytes_eq-Decides a b).0 (sym (is_eq-slice_cmp a b) ∙ e)

kept_there : (es : List Entry) (path : List ℕ) → AreKept es
    → IfSome (lookup (is_at (text_cmp path)) es) (λ f. IsKept path f)
kept_there [] path all = tt
kept_there (e ∷ es) path all =
    elim (eq_by_cmp text_cmp path e.0) as
    (λ b. eq_by_cmp text_cmp path e.0 ≡ b
    → IfSome (cond b (Some e.1) (lookup (is_at (text_cmp path)) es)) (λ f. IsKept path f)) [
      | true ↦ λ is. subst (λ p. IsKept p e.1) (sym (same_key path e.0 is)) (All-head (λ x. IsKept x.0 x.1) e es all)
      | false ↦ λ is. kept_there es path (All-tail (λ x. IsKept x.0 x.1) e es all)
    ] refl

pub lent_kept : (o : Option (Bor DataFile)) (es : List Entry) (path : List ℕ)
    → option_copied o ≡ lookup (is_at (text_cmp path)) es → AreKept es → IfSome o (λ f. IsKept path f.now)
lent_kept None es path is all = tt
lent_kept (Some f) es path is all = subst (λ p. IfSome p (λ g. IsKept path g)) (sym is) (kept_there es path all)

-- ---- what is put in

pub filed_insert : (es : List Entry) (path : List ℕ) (f : DataFile)
    → filed (insert_entry text_cmp es path f) ≡ put text_cmp path f.text (filed es)
filed_insert [] path f = refl
filed_insert (e ∷ es) path f =
    elim (text_cmp path e.0) as (λ r. filed
    (match_ordering r ((path, f) ∷ e ∷ es) ((e.0, f) ∷ es) (e ∷ insert_entry text_cmp es path f))
    ≡ by_order r ((path, f.text) ∷ filed (e ∷ es)) ((e.0, f.text) ∷ filed es)
    ((e.0, e.1.text) ∷ put text_cmp path f.text (filed es))) [
      | Less ↦ refl
      | Equal ↦ refl
      | Greater ↦ ap (λ (l : List File). (e.0, e.1.text) ∷ l) (filed_insert es path f)
    ]

pub kept_insert : (es : List Entry) (path : List ℕ) (f : DataFile) → IsKept path f → AreKept es
    → AreKept (insert_entry text_cmp es path f)
kept_insert [] path f kept all = All-cons (λ x. IsKept x.0 x.1) (path, f) [] kept all
kept_insert (e ∷ es) path f kept all =
    elim (text_cmp path e.0) as (λ r. text_cmp path e.0 ≡ r
    → AreKept (match_ordering r ((path, f) ∷ e ∷ es) ((e.0, f) ∷ es) (e ∷ insert_entry text_cmp es path f))) [
      | Less ↦ λ is. All-cons (λ x. IsKept x.0 x.1) (path, f) (e ∷ es) kept all
      | Equal ↦ λ is.
          All-cons (λ x. IsKept x.0 x.1) (e.0, f) es (subst (λ p. IsKept p f) (same_key path e.0 (ap is_eq is)) kept)
          (All-tail (λ x. IsKept x.0 x.1) e es all)
      | Greater ↦ λ is.
          All-cons (λ x. IsKept x.0 x.1) e (insert_entry text_cmp es path f) (All-head (λ x. IsKept x.0 x.1) e es all)
          (kept_insert es path f kept (All-tail (λ x. IsKept x.0 x.1) e es all))
    ] refl

-- ---- the last of the pairs is put in first

put_in_last : (files ps : List File) (p : File) → put_in files (ps ++ p ∷ []) ≡ put_in (put text_cmp p.0 p.1 files) ps
unfolding put_in
put_in_last files [] p = refl
put_in_last files (q ∷ ps) p = ap (put text_cmp q.0 q.1) (put_in_last files ps p)

pub one_put : (done more left rest all : List File) (p : File) → left ≡ rest ++ p ∷ []
    → more ≡ put text_cmp p.0 p.1 done → put_in done left ≡ put_in [] all → put_in more rest ≡ put_in [] all
one_put done more left rest all p parts is held =
    ap (λ es. put_in es rest) is ∙ sym (put_in_last done rest p) ∙ ap (put_in done) (sym parts) ∙ held

pub all_put : (done left all : List File) → left ≡ [] → put_in done left ≡ put_in [] all → done ≡ put_in [] all
unfolding put_in
all_put done left all none held = sym (ap (put_in done) none) ∙ held
