-- Values under their texts hold what a list holds.
use denote.Ref.{Bor}
use Rattle.std.proofs.Common.{◌≡◌, ℕ, Bool, true, false, not, cond, List, [], ◌∷◌, ◌++◌, append-nil, refl, sym, ap, subst, ◌∙◌}
use Rattle.std.specs.BTreeMap.{get, is_at}
use Rattle.std.specs.Cmp.Lexicographic.{slice_cmp}
use Rattle.std.specs.Ordering.{nat_cmp, is_eq}
use Rattle.std.specs.Prelude.{Option, Some}
use Rattle.std.specs.declared.alloc.Global.{Global}
use Rattle.std.specs.declared.vec.Vec.{Vec}
use Rattle.std.specs.List.{list_any}
use Rattle.std.specs.Str.{bytes_eq}
use Rattle.std.proofs.lemmas.List.Elements.{filter-append}
use Rattle.std.proofs.lemmas.Map.Text.{is_eq-slice_cmp}
use Rattle.std.proofs.lemmas.Map.Views.{any-filter_same}
use Rattle.std.proofs.lemmas.Slice.Eq.{bytes_eq-Decides}
use Rattle.pp_ops.specs.Same.{same}
use Rattle.pp_values.specs.declared.value.Value.{Value}
use Rattle.pp_values.specs.Datum.{Datum}
use Rattle.pp_values.specs.TextOf.{text_of}
use Rattle.pp_funcs.specs.Lists.{with_new}
use Rattle.pp_funcs.specs.Seen.{Seen, told, under, Holds}
use Rattle.pp_funcs.proofs.SameOnes.{one_value}

-- a value that is exactly the same has the same text
alike : (d e : Datum) → same d e ≡ true → bytes_eq (text_of e) (text_of d) ≡ true
alike d e h = (bytes_eq-Decides (text_of e) (text_of d)).1 (ap text_of (sym (one_value d e h)))

-- so that it is found among those of its text
found_there : (seen : Seen) (had : List Datum) (d : Datum) → Holds seen had →
    list_any (same d) (under (text_of d) seen) ≡ list_any (same d) had
found_there seen had d holds =
    ap (list_any (same d)) (holds (text_of d))
    ∙ any-filter_same (same d) (λ e. bytes_eq (text_of e) (text_of d)) true (alike d) had

pub old_one : (seen : Seen) (had : List Datum) (d : Datum) → list_any (same d) (under (text_of d) seen) ≡ true →
    Holds seen had → (false ≡ not (list_any (same d) had)) × Holds seen (with_new had d)
old_one seen had d found holds =
    let there : list_any (same d) had ≡ true = sym (found_there seen had d holds) ∙ found in (
      sym (ap not there),
      subst (λ b. Holds seen (cond b had (had ++ d ∷ []))) (sym there) holds,
    )

one_more : (seen new : Seen) (had : List Datum) (d : Datum) →
    ((t : List ℕ) → under t new ≡ under t seen ++ cond (bytes_eq (text_of d) t) (d ∷ []) []) →
    Holds seen had → Holds new (had ++ d ∷ [])
one_more seen new had d added holds t =
    added t
    ∙ ap (λ ds. ds ++ cond (bytes_eq (text_of d) t) (d ∷ []) []) (holds t)
    ∙ sym (filter-append (λ e. bytes_eq (text_of e) t) had (d ∷ []))

pub new_one : (seen new : Seen) (had : List Datum) (d : Datum) →
    list_any (same d) (under (text_of d) seen) ≡ false →
    ((t : List ℕ) → under t new ≡ under t seen ++ cond (bytes_eq (text_of d) t) (d ∷ []) []) →
    Holds seen had → (true ≡ not (list_any (same d) had)) × Holds new (with_new had d)
new_one seen new had d found added holds =
    let there : list_any (same d) had ≡ false = sym (found_there seen had d holds) ∙ found in (
      sym (ap not there),
      subst (λ b. Holds new (cond b had (had ++ d ∷ []))) (sym there) (one_more seen new had d added holds),
    )

-- a text's values taken out of a table, and other values put there
told_either : (b : Bool) (o p : Option (Vec (Bor Value) Global)) → told (cond b o p) ≡ cond b (told o) (told p)
told_either true o p = refl
told_either false o p = refl

abbrev Changes : Seen → Seen → List ℕ → Option (Vec (Bor Value) Global) → Type 0
Changes seen new text o =
    (t : List ℕ) → get (slice_cmp nat_cmp) new t
    ≡ cond (is_at (slice_cmp nat_cmp text) t) o (get (slice_cmp nat_cmp) seen t)

pub changed : (seen new : Seen) (text : List ℕ) (o : Option (Vec (Bor Value) Global)) → Changes seen new text o →
    (t : List ℕ) → under t new ≡ cond (bytes_eq text t) (told o) (under t seen)
changed seen new text o changes t =
    ap told (changes t)
    ∙ told_either (is_eq (slice_cmp nat_cmp text t)) o (get (slice_cmp nat_cmp) seen t)
    ∙ ap (λ b. cond b (told o) (under t seen)) (is_eq-slice_cmp text t)

one_or_none : (seen mid : Seen) (text t : List ℕ) (d : Datum) (ds : List Datum) → ds ≡ under text seen ++ d ∷ [] →
    under t mid ≡ cond (bytes_eq text t) [] (under t seen) → (b : Bool) → bytes_eq text t ≡ b →
    cond b ds (under t mid) ≡ under t seen ++ cond b (d ∷ []) []
one_or_none seen mid text t d ds is rest true e =
    is ∙ ap (λ u. under u seen ++ d ∷ []) ((bytes_eq-Decides text t).0 e)
one_or_none seen mid text t d ds is rest false e =
    rest ∙ ap (λ b. cond b [] (under t seen)) e ∙ sym (append-nil (under t seen))

pub added : (seen mid new : Seen) (text : List ℕ) (d : Datum) (values : Vec (Bor Value) Global) →
    told (Some values) ≡ under text seen ++ d ∷ [] →
    ((t : List ℕ) → under t mid ≡ cond (bytes_eq text t) [] (under t seen)) → Changes mid new text (Some values) →
    (t : List ℕ) → under t new ≡ under t seen ++ cond (bytes_eq text t) (d ∷ []) []
added seen mid new text d values is rest changes t =
    changed mid new text (Some values) changes t
    ∙ one_or_none seen mid text t d (told (Some values)) is (rest t) (bytes_eq text t) refl
