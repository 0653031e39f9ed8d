-- What a map has after one of its records was set or removed: of that record, and of others.
use Rattle.std.proofs.Common.{◌≡◌, ℕ, Bool, true, false, cond, ◌&&◌, List, [], ◌∷◌, None, Some, Option, T, refl, sym, subst, ap, ap₂, ◌∙◌, unwrap_or}
use Rattle.std.specs.Ordering.{eq_by_cmp, is_eq, is_lt}
use Rattle.std.specs.Cmp.Lexicographic.{nat_list_cmp_total}
use Rattle.std.specs.declared.cmp.Ordering.{Ordering}
use Rattle.std.specs.declared.cmp.Ordering.TheVariants.{Less, Equal, Greater}
use Rattle.std.specs.FinMap.{find, put}
use Rattle.std.specs.FinMap.Entries.{is_sorted, below_all, find-put, is_sorted-put}
use Rattle.std.specs.List.{AllByRecursion}
use Rattle.std.specs.List.Sorted.{IsStrictlySortedBy}
use Rattle.std.specs.Map.{keys_of, remove_entry, set_value}
use Rattle.std.proofs.lemmas.Map.Text.{is_eq-slice_cmp}
use Rattle.std.proofs.lemmas.Slice.Eq.{bytes_eq-Decides}
use Rattle.pp_values.specs.Rising.{text_cmp}
use Rattle.pp_values.specs.Datum.{Datum}
use Rattle.pp_values.specs.Settings.{Setting}
use Rattle.agent_machine.specs.States.{State, is_key, with_record}

-- two texts differ
abbrev pub Differ : List ℕ → List ℕ → Type 0
Differ q key = eq_by_cmp text_cmp q key ≡ false

-- each text stands once, in byte order
abbrev pub Rises : {X : Type 0} → List (List ℕ × X) → Type 0
Rises es = is_sorted text_cmp es ≡ true

pub one_key : (q key : List ℕ) → eq_by_cmp text_cmp q key ≡ true → q ≡ key
one_key q key h = (bytes_eq-Decides q key).0 (sym (is_eq-slice_cmp q key) ∙ h)

pub key_itself : (key : List ℕ) → eq_by_cmp text_cmp key key ≡ true
key_itself key = is_eq-slice_cmp key key ∙ (bytes_eq-Decides key key).1 refl

first : (a b : Bool) → (a && b) ≡ true → a ≡ true
first true b e = refl
first false b e = e

second : (a b : Bool) → (a && b) ≡ true → b ≡ true
second true b e = e
second false b e = absurd (cc e)

both : (a b : Bool) → a ≡ true → b ≡ true → (a && b) ≡ true
both true b e f = f
both false b e f = absurd (cc e)

not_tied : (r : Ordering) → is_lt r ≡ true → is_eq r ≡ false
not_tied Less e = refl
not_tied Equal e = absurd (cc e)
not_tied Greater e = refl

shown : (b : Bool) → b ≡ true → T b
shown b e = subst T (sym e) tt

seen : (b : Bool) → T b → b ≡ true
seen true t = refl
seen false t = absurd t

-- another key does not tie with what ties with this one
other : (q key k : List ℕ) → Differ q key → eq_by_cmp text_cmp key k ≡ true → eq_by_cmp text_cmp q k ≡ false
other q key k apart is = subst (λ l. eq_by_cmp text_cmp q l ≡ false) (one_key key k is) apart

module _ {X : Type 0} where
  -- the record that is set
  pub find_set : (key : List ℕ) (es : List (List ℕ × X)) (x w : X) → find text_cmp key es ≡ Some x →
      find text_cmp key (set_value (is_key key) es w) ≡ Some w
  find_set key [] x w there = absurd (cc there)
  find_set key (e ∷ es) x w there =
      elim (eq_by_cmp text_cmp key e.0) as
      (λ b. eq_by_cmp text_cmp key e.0 ≡ b → cond b (Some e.1) (find text_cmp key es) ≡ Some x →
      find text_cmp key (cond b ((e.0, w) ∷ es) (e ∷ set_value (is_key key) es w)) ≡ Some w) [
        | true ↦ λ is h. ap (λ b. cond b (Some w) (find text_cmp key es)) is
        | false ↦ λ is h. ap (λ b. cond b (Some e.1) (find text_cmp key (set_value (is_key key) es w))) is
            ∙ find_set key es x w h
      ] refl there

  module _ (q key : List ℕ) (apart : Differ q key) where
    -- another record stays
    pub find_set_other : (es : List (List ℕ × X)) (w : X) →
        find text_cmp q (set_value (is_key key) es w) ≡ find text_cmp q es
    find_set_other [] w = refl
    find_set_other (e ∷ es) w =
        elim (eq_by_cmp text_cmp key e.0) as
        (λ b. eq_by_cmp text_cmp key e.0 ≡ b →
        find text_cmp q (cond b ((e.0, w) ∷ es) (e ∷ set_value (is_key key) es w)) ≡ find text_cmp q (e ∷ es)) [
          | true ↦ λ is. ap (λ b. cond b (Some w) (find text_cmp q es)) (other q key e.0 apart is)
              ∙ sym (ap (λ b. cond b (Some e.1) (find text_cmp q es)) (other q key e.0 apart is))
          | false ↦ λ is. ap (cond (eq_by_cmp text_cmp q e.0) (Some e.1)) (find_set_other es w)
        ] refl

    pub find_without_other : (es : List (List ℕ × X)) → find text_cmp q (remove_entry (is_key key) es)
        ≡ find text_cmp q es
    find_without_other [] = refl
    find_without_other (e ∷ es) =
        elim (eq_by_cmp text_cmp key e.0) as
        (λ b. eq_by_cmp text_cmp key e.0 ≡ b →
        find text_cmp q (cond b es (e ∷ remove_entry (is_key key) es)) ≡ find text_cmp q (e ∷ es)) [
          | true ↦ λ is. sym (ap (λ b. cond b (Some e.1) (find text_cmp q es)) (other q key e.0 apart is))
          | false ↦ λ is. ap (cond (eq_by_cmp text_cmp q e.0) (Some e.1)) (find_without_other es)
        ] refl

  none_below : (key : List ℕ) (es : List (List ℕ × X)) → below_all text_cmp key es ≡ true → find text_cmp key es ≡ None
  none_below key [] h = refl
  none_below key (e ∷ es) h =
      ap (λ b. cond b (Some e.1) (find text_cmp key es)) (not_tied (text_cmp key e.0) (first _ _ h))
      ∙ none_below key es (second _ _ h)

  -- the record that is removed
  pub find_without : (key : List ℕ) (es : List (List ℕ × X)) → Rises es →
      find text_cmp key (remove_entry (is_key key) es) ≡ None
  find_without key [] rises = refl
  find_without key (e ∷ es) rises =
      elim (eq_by_cmp text_cmp key e.0) as
      (λ b. eq_by_cmp text_cmp key e.0 ≡ b → find text_cmp key (cond b es (e ∷ remove_entry (is_key key) es)) ≡ None) [
        | true ↦ λ is. none_below key es (subst (λ k. below_all text_cmp k es ≡ true) (sym (one_key key e.0 is))
            (first _ _ rises))
        | false ↦ λ is. ap (λ b. cond b (Some e.1) (find text_cmp key (remove_entry (is_key key) es))) is
            ∙ find_without key es (second _ _ rises)
      ] refl

  -- ---- the order stays

  below_set : (x : List ℕ) (test : List ℕ → Bool) (es : List (List ℕ × X)) (w : X) →
      below_all text_cmp x (set_value test es w) ≡ below_all text_cmp x es
  below_set x test [] w = refl
  below_set x test (e ∷ es) w =
      elim (test e.0) as (λ b. below_all text_cmp x (cond b ((e.0, w) ∷ es) (e ∷ set_value test es w))
      ≡ below_all text_cmp x (e ∷ es)) [
        | true ↦ refl
        | false ↦ ap (λ b. is_lt (text_cmp x e.0) && b) (below_set x test es w)
      ]

  pub rises_set : (test : List ℕ → Bool) (es : List (List ℕ × X)) (w : X) →
      is_sorted text_cmp (set_value test es w) ≡ is_sorted text_cmp es
  rises_set test [] w = refl
  rises_set test (e ∷ es) w =
      elim (test e.0) as (λ b. is_sorted text_cmp (cond b ((e.0, w) ∷ es) (e ∷ set_value test es w))
      ≡ is_sorted text_cmp (e ∷ es)) [
        | true ↦ refl
        | false ↦ ap₂ (λ a b. a && b) (below_set e.0 test es w) (rises_set test es w)
      ]

  below_without : (x : List ℕ) (test : List ℕ → Bool) (es : List (List ℕ × X)) → below_all text_cmp x es ≡ true →
      below_all text_cmp x (remove_entry test es) ≡ true
  below_without x test [] h = refl
  below_without x test (e ∷ es) h =
      elim (test e.0) as (λ b. below_all text_cmp x (cond b es (e ∷ remove_entry test es)) ≡ true) [
        | true ↦ second _ _ h
        | false ↦ both _ _ (first _ _ h) (below_without x test es (second _ _ h))
      ]

  pub rises_without : (test : List ℕ → Bool) (es : List (List ℕ × X)) → Rises es → Rises (remove_entry test es)
  rises_without test [] h = refl
  rises_without test (e ∷ es) h =
      elim (test e.0) as (λ b. is_sorted text_cmp (cond b es (e ∷ remove_entry test es)) ≡ true) [
        | true ↦ second _ _ h
        | false ↦ both _ _ (below_without e.0 test es (first _ _ h)) (rises_without test es (second _ _ h))
      ]

  pub rises_put : (key : List ℕ) (x : X) (es : List (List ℕ × X)) → Rises es → Rises (put text_cmp key x es)
  rises_put key x es h = seen _ (is_sorted-put text_cmp nat_list_cmp_total key x es (shown _ h))

  -- what was put in is found
  pub find_put : (key : List ℕ) (x : X) (es : List (List ℕ × X)) → find text_cmp key (put text_cmp key x es) ≡ Some x
  find_put key x es =
      find-put text_cmp nat_list_cmp_total key key x es
      ∙ ap (λ b. cond b (Some x) (find text_cmp key es)) (key_itself key)

  pub find_put_other : (q key : List ℕ) (x : X) (es : List (List ℕ × X)) → Differ q key →
      find text_cmp q (put text_cmp key x es) ≡ find text_cmp q es
  find_put_other q key x es apart =
      find-put text_cmp nat_list_cmp_total q key x es ∙ ap (λ b. cond b (Some x) (find text_cmp q es)) apart

-- ---- a record with one more property

pub record_here : (key name : List ℕ) (v : Datum) (o : Option (List Setting)) (state : State) →
    find text_cmp key state ≡ o →
    find text_cmp key (with_record key name v o state) ≡ Some (put text_cmp name v (unwrap_or o []))
record_here key name v None state is = find_put key (put text_cmp name v []) state
record_here key name v (Some properties) state is = find_set key state properties (put text_cmp name v properties) is

pub record_other : (q key name : List ℕ) (v : Datum) (o : Option (List Setting)) (state : State) → Differ q key →
    find text_cmp q (with_record key name v o state) ≡ find text_cmp q state
record_other q key name v None state apart = find_put_other q key (put text_cmp name v []) state apart
record_other q key name v (Some properties) state apart = find_set_other q key apart state
    (put text_cmp name v properties)

pub record_rises : (key name : List ℕ) (v : Datum) (o : Option (List Setting)) (state : State) → Rises state →
    Rises (with_record key name v o state)
record_rises key name v None state h = rises_put key (put text_cmp name v []) state h
record_rises key name v (Some properties) state h = rises_set (is_key key) state (put text_cmp name v properties) ∙ h

-- ---- maps of the program

below_from : {X : Type 0} (x : List ℕ) (es : List (List ℕ × X)) →
    AllByRecursion (λ y. text_cmp x y ≡ Less) (keys_of es) →
    below_all text_cmp x es ≡ true
below_from x [] all = refl
below_from x (e ∷ es) all = both _ _ (ap is_lt all.0) (below_from x es all.1)

pub rises_from : {X : Type 0} (es : List (List ℕ × X)) → IsStrictlySortedBy text_cmp (keys_of es) → Rises es
unfolding IsStrictlySortedBy
rises_from [] h = refl
rises_from (e ∷ es) h = both _ _ (below_from e.0 es h.0) (rises_from es h.1)
