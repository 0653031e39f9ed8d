-- What the turns of a catalog have to do, where none is an `exec` or a `notify`.
use Rattle.std.proofs.Common.{◌≡◌, ℕ, zero, suc, Bool, true, false, cond, not, ◌&&◌, ◌||◌, if◌then◌else◌, List, [], ◌∷◌, map, None, Some, Option, slice_get, option_map, option_and_then, find, codes, bytes_eq, inl, inr, ◌⊎◌, refl, sym, subst, ap, ◌∙◌, true≢false}
use Rattle.std.specs.List.{list_all, list_any}
use Rattle.std.specs.Ordering.{eq_by_cmp}
use Rattle.std.proofs.lemmas.Bool.{or_parts}
use Rattle.pp_values.proofs.Printed.{printed_apart}
use Rattle.pp_values.specs.Datum.{Datum}
use Rattle.pp_values.specs.References.{same_reference, same_reference_equiv}
use Rattle.pp_values.specs.Rising.{text_cmp}
use Rattle.pp_values.specs.Settings.{Setting}
use Rattle.pp_values.specs.Words.{reference_text}
use Rattle.pp_values.specs.declared.reference.Reference.{Reference}
use Rattle.res_core.specs.AttributeViews.{set_in}
use Rattle.res_core.specs.Catalogs.{reference_of, are_apart, has_form, IsCatalog}
use Rattle.res_core.specs.NativeTypes.{row, all_natives, native_of}
use Rattle.res_core.specs.declared.edge.Edge.{Edge}
use Rattle.res_core.specs.declared.held.Held.{Held}
use Rattle.res_core.specs.declared.native_type.NativeType.{NativeType}
use Rattle.res_core.specs.declared.native_type.NativeType.TheVariants as native
use Rattle.res_core.specs.declared.resource.Resource.{Resource}
use Rattle.agent_machine.specs.States.{is_ensure, removes}
use Rattle.agent_transaction.proofs.RecordLemmas.{Differ, one_key}
use Rattle.agent_transaction.proofs.StepLemmas.{Precedes, InOrder, Fits}
use Rattle.agent_transaction.specs.Runs.{task_at}
use Rattle.agent_transaction.specs.SecondRuns.{is_run}
use Rattle.agent_transaction.specs.Tasks.{from_here, looked_at, task_of, task_in}
use Rattle.agent_transaction.specs.declared.task.Task.{Task}

first : (a b : Bool) → (a && b) ≡ true → a ≡ true
first true b e = refl
first false b e = e

second : (a b : Bool) → (a && b) ≡ true → b ≡ true
second true b e = e
second false b e = absurd (true≢false (sym e))

not_true : (b : Bool) → not b ≡ true → b ≡ false
not_true true e = absurd (true≢false (sym e))
not_true false e = refl

-- ---- the properties of a native type

-- another name than this one, and not `ensure`
abbrev is_other : List ℕ → List ℕ → Bool
is_other name n = not (is_ensure n) && not (bytes_eq name n)

abbrev are_in_order : List (List ℕ) → Bool
are_in_order [] = true
are_in_order (name ∷ names) = list_all (is_other name) names && are_in_order names

precedes_set : (name : List ℕ) (value : Datum) (names : List (List ℕ)) (attributes : List Setting) →
    removes name value ≡ false →
    list_all (is_other name) names ≡ true → Precedes (name, value) (looked_at names attributes)
precedes_set name value [] attributes stays h = tt
precedes_set name value (n ∷ names) attributes stays h =
    let rest = precedes_set name value names attributes stays (second _ _ h) in
    let here = first (is_other name n) (list_all (is_other name) names) h in
    elim (set_in attributes n) as (λ o. Precedes (name, value) (from_here n o (looked_at names attributes))) [
      | None ↦ rest
      | Some v ↦ (
        stays,
        not_true (is_ensure n) (first (not (is_ensure n)) (not (bytes_eq name n)) here),
        not_true (bytes_eq name n) (second (not (is_ensure n)) (not (bytes_eq name n)) here),
        elim (removes n v) as (λ b. Precedes (name, value) (if b then [] else looked_at names attributes)) [
          | true ↦ tt
          | false ↦ rest
        ],
      )
    ]

in_order : (names : List (List ℕ)) (attributes : List Setting) → are_in_order names ≡ true →
    InOrder (looked_at names attributes)
in_order [] attributes h = tt
in_order (name ∷ names) attributes h =
    let rest = in_order names attributes (second _ _ h) in
    elim (set_in attributes name) as (λ o. InOrder (from_here name o (looked_at names attributes))) [
      | None ↦ rest
      | Some v ↦ elim (removes name v) as (λ b. removes name v ≡ b →
          Precedes (name, v) (if b then [] else looked_at names attributes) × InOrder
          (if b then [] else looked_at names attributes)) [
            | true ↦ λ is. (tt, tt)
            | false ↦ λ is. (
              precedes_set name v names attributes is
                  (first (list_all (is_other name) names) (are_in_order names) h),
              rest,
            )
          ] refl
    ]

-- ---- one resource

held : {X : Type 0} (a b : X) → Some a ≡ Some b → a ≡ b
held a b e = cc e

passes : {X : Type 0} (p : X → Bool) (xs : List X) (x : X) → find p xs ≡ Some x → p x ≡ true
passes p [] x h = absurd (cc h)
passes p (y ∷ xs) x h =
    elim (p y) as (λ b. p y ≡ b → cond b (Some y) (find p xs) ≡ Some x → p x ≡ true) [
      | true ↦ λ is e. subst (λ z. p z ≡ true) (held y x e) is
      | false ↦ λ is e. passes p xs x e
    ] refl h

kind_of_native : (kind : List ℕ) (n : NativeType) → native_of kind ≡ Some n → bytes_eq kind (row n).kind ≡ true
unfolding native_of
kind_of_native kind n h = passes (λ m. bytes_eq kind (row m).kind) all_natives n h

fits_of : (n : NativeType) (r : Resource) → bytes_eq r.kind (row n).kind ≡ true →
    bytes_eq r.kind (codes "exec") ≡ false → bytes_eq r.kind (codes "notify") ≡ false → Fits (task_of n r).work
fits_of native.File r h a b = in_order (row native.File).properties r.attributes refl
fits_of native.Package r h a b = in_order (row native.Package).properties r.attributes refl
fits_of native.Service r h a b = in_order (row native.Service).properties r.attributes refl
fits_of native.User r h a b = in_order (row native.User).properties r.attributes refl
fits_of native.Group r h a b = in_order (row native.Group).properties r.attributes refl
fits_of native.Host r h a b = in_order (row native.Host).properties r.attributes refl
fits_of native.Cron r h a b = in_order (row native.Cron).properties r.attributes refl
fits_of native.Exec r h a b = absurd (true≢false (sym h ∙ a))
fits_of native.Notify r h a b = absurd (true≢false (sym h ∙ b))

pub same_task : (t u : Task) → Some t ≡ Some u → t ≡ u
same_task t u e = cc e

pub some_task : (r : Resource) (o : Option NativeType) (q : Task) → option_map (λ n. task_of n r) o ≡ Some q →
    (n : NativeType) × (o ≡ Some n) × (q ≡ task_of n r)
some_task r None q e = absurd (cc e)
some_task r (Some n) q e = (n, refl, sym (same_task (task_of n r) q e))

abbrev pub Known : List Held → Task → Type 0
Known hs q = (i : ℕ) × (task_at hs i ≡ Some q)

-- which resource it is
pub taken : (hs : List Held) (i : ℕ) (q : Task) → task_at hs i ≡ Some q →
    (h : Held) × (slice_get hs i ≡ Some h) × (task_in h.item ≡ Some q)
taken hs i q e = elim (slice_get hs i) as (λ o. slice_get hs i ≡ o → option_and_then (λ h. task_in h.item) o ≡ Some q →
    (h : Held) × (slice_get hs i ≡ Some h) × (task_in h.item ≡ Some q)) [
      | None ↦ λ is k. absurd (cc k)
      | Some h ↦ λ is k. (h, is, k)
    ] refl e

all_at : {X : Type 0} (p : X → Bool) (xs : List X) (i : ℕ) (x : X) → list_all p xs ≡ true → slice_get xs i ≡ Some x →
    p x ≡ true
all_at p [] i x h e = absurd (cc e)
all_at p (y ∷ xs) zero x h e = subst (λ z. p z ≡ true) (held y x e) (first _ _ h)
all_at p (y ∷ xs) (suc i) x h e = all_at p xs i x (second _ _ h) e

-- ---- no two resources have one text

any_at : (hs : List Held) (i : ℕ) (h : Held) (q : Reference) → slice_get hs i ≡ Some h → q ≡ reference_of h →
    list_any (same_reference q) (map reference_of hs) ≡ true
any_at [] i h q e is = absurd (cc e)
any_at (g ∷ hs) zero h q e is =
    let here : same_reference q (reference_of g) ≡ true =
    subst (λ (k : Held). same_reference q (reference_of k) ≡ true) (sym (held g h e))
    (subst (λ r. same_reference q r ≡ true) is (same_reference_equiv.refl q)) in
    ap (λ b. b || list_any (same_reference q) (map reference_of hs)) here
any_at (g ∷ hs) (suc i) h q e is =
    let rest = any_at hs i h q e is in
    elim (same_reference q (reference_of g)) as (λ b. (b || list_any (same_reference q) (map reference_of hs)) ≡ true) [
      | true ↦ refl
      | false ↦ rest
    ]

one_at : (hs : List Held) (i j : ℕ) (h g : Held) → are_apart (map reference_of hs) ≡ true → slice_get hs i ≡ Some h →
    slice_get hs j ≡ Some g → reference_of h ≡ reference_of g → h ≡ g
one_at [] i j h g apart a b same = absurd (cc a)
one_at (k ∷ hs) zero zero h g apart a b same = held h g (sym a ∙ b)
one_at (k ∷ hs) zero (suc j) h g apart a b same =
    let here : reference_of k ≡ reference_of g = ap reference_of (held k h a) ∙ same in
    absurd (true≢false (sym (any_at hs j g (reference_of k) b here) ∙ not_true _ (first _ _ apart)))
one_at (k ∷ hs) (suc i) zero h g apart a b same =
    let here : reference_of k ≡ reference_of h = ap reference_of (held k g b) ∙ sym same in
    absurd (true≢false (sym (any_at hs i h (reference_of k) a here) ∙ not_true _ (first _ _ apart)))
one_at (k ∷ hs) (suc i) (suc j) h g apart a b same = one_at hs i j h g (second _ _ apart) a b same

pub place_at : (hs : List Held) (i j : ℕ) (h g : Held) → are_apart (map reference_of hs) ≡ true → slice_get hs i ≡ Some h →
    slice_get hs j ≡ Some g → reference_of h ≡ reference_of g → i ≡ j
place_at [] i j h g apart a b same = absurd (cc a)
place_at (k ∷ hs) zero zero h g apart a b same = refl
place_at (k ∷ hs) zero (suc j) h g apart a b same =
    let here : reference_of k ≡ reference_of g = ap reference_of (held k h a) ∙ same in
    absurd (true≢false (sym (any_at hs j g (reference_of k) b here) ∙ not_true _ (first _ _ apart)))
place_at (k ∷ hs) (suc i) zero h g apart a b same =
    let here : reference_of k ≡ reference_of h = ap reference_of (held k g b) ∙ sym same in
    absurd (true≢false (sym (any_at hs i h (reference_of k) a here) ∙ not_true _ (first _ _ apart)))
place_at (k ∷ hs) (suc i) (suc j) h g apart a b same = ap suc (place_at hs i j h g (second _ _ apart) a b same)

pub what_of : (h : Held) (q : Task) → task_in h.item ≡ Some q → q.what ≡ reference_of h
what_of h q e = let is = some_task h.item (native_of h.item.kind) q e in ap (λ (t : Task). t.what) is.2

-- ---- the tasks of a catalog

module _ (hs : List Held) (es : List Edge) (kept : IsCatalog hs es) where
  module _ (described : list_all (λ h. not (is_run h)) hs ≡ true) where
    pub known_fits : (q : Task) → Known hs q → Fits q.work
    known_fits q known =
        let place = taken hs known.0 q known.1 in
        let is = some_task place.0.item (native_of place.0.item.kind) q place.2 in
        let plain = or_parts _ _ (not_true _ (all_at (λ h. not (is_run h)) hs known.0 place.0 described place.1)) in
        subst (λ (t : Task). Fits t.work) (sym is.2)
        (fits_of is.0 place.0.item (kind_of_native place.0.item.kind is.0 is.1) plain.0 plain.1)

  pub known_apart : (t u : Task) → Known hs t → Known hs u →
      (t ≡ u) ⊎ Differ (reference_text t.what) (reference_text u.what)
  known_apart t u a b =
      elim (eq_by_cmp text_cmp (reference_text t.what) (reference_text u.what)) as
      (λ x. eq_by_cmp text_cmp (reference_text t.what) (reference_text u.what) ≡ x →
      (t ≡ u) ⊎ Differ (reference_text t.what) (reference_text u.what)) [
        | true ↦ λ is. inl (one_task (one_key _ _ is))
        | false ↦ λ is. inr is
      ] refl where
        one_task : reference_text t.what ≡ reference_text u.what → t ≡ u
        one_task same =
            let p = taken hs a.0 t a.1 in
            let q = taken hs b.0 u b.1 in
            let h = p.0 in
            let g = q.0 in
            let texts : reference_text (reference_of h) ≡ reference_text (reference_of g) =
            sym (ap reference_text (what_of h t p.2)) ∙ same ∙ ap reference_text (what_of g u q.2) in
            let refs = printed_apart (reference_of h) (reference_of g)
            (first _ _ (all_at has_form hs a.0 h kept.forms p.1))
            (first _ _ (all_at has_form hs b.0 g kept.forms q.1)) texts in
            let one = one_at hs a.0 b.0 h g kept.apart p.1 q.1 refs in
            same_task t u (sym p.2 ∙ ap (λ (k : Held). task_in k.item) one ∙ q.2)

  -- a task is that of one resource
  pub same_index : (i j : ℕ) (t : Task) → task_at hs i ≡ Some t → task_at hs j ≡ Some t → i ≡ j
  same_index i j t a b =
      let p = taken hs i t a in
      let q = taken hs j t b in
      place_at hs i j p.0 q.0 kept.apart p.1 q.1 (sym (what_of p.0 t p.2) ∙ what_of q.0 t q.2)
