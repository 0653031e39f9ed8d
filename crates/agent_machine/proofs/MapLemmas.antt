-- What is found in maps, and what is put into them.
use Rattle.std.proofs.Common.{◌≡◌, Bor, ℕ, Bool, true, false, ◌&&◌, cond, None, Some, Option, List, [], ◌∷◌, refl, sym, ap, ap₂, ◌∙◌, IsTrue, ◌||◌, if◌then◌else◌}
use Rattle.std.specs.List.{list_any}
use Rattle.std.specs.Prelude.{option_map, option_copied}
use Rattle.std.specs.declared.cmp.Ordering.TheVariants.{Less, Equal, Greater}
use Rattle.std.specs.Ordering.{eq_by_cmp, match_ordering}
use Rattle.std.specs.BTreeMap.{insert_entry, is_at}
use Rattle.std.specs.FinMap.{find, put}
use Rattle.std.specs.FinMap.Entries.{by_order}
use Rattle.std.specs.Map.{lookup, set_value}
use Rattle.pp_values.specs.Datum.{Datum}
use Rattle.pp_values.specs.Plain.{is_plain_value}
use Rattle.pp_values.specs.Rising.{text_cmp, has_text, sorted}
use Rattle.pp_values.specs.Settings.{Setting}
use Rattle.pp_values.specs.Views.{view}
use Rattle.pp_values.specs.declared.value.Value.{Value}
use Rattle.res_core.specs.PlainAttributes.{are_plain}
use Rattle.std.proofs.lemmas.Map.Text.{is_eq-slice_cmp}
use Rattle.pp_values.proofs.RisingLemmas.{has_text-with_texts}
use Rattle.agent_machine.specs.Recorded.{recorded}
use Rattle.agent_machine.specs.States.{State, with_record}

-- ---- properties

pub found_value : (es : List (List ℕ × Value)) (name : List ℕ) →
    option_map view (lookup (is_at (text_cmp name)) es) ≡ find text_cmp name (recorded es)
found_value [] name = refl
found_value (e ∷ es) name =
    elim (eq_by_cmp text_cmp name e.0) as
    (λ b. option_map view (cond b (Some e.1) (lookup (is_at (text_cmp name)) es))
    ≡ cond b (Some (view e.1)) (find text_cmp name (recorded es))) [
      | true ↦ refl
      | false ↦ found_value es name
    ]

pub lent_value : (o : Option (Bor Value)) (p : Option Value) → option_copied o ≡ p →
    option_map (λ v. view v.now) o ≡ option_map view p
lent_value None p is = ap (option_map view) is
lent_value (Some v) p is = ap (option_map view) is

pub recorded_insert : (es : List (List ℕ × Value)) (name : List ℕ) (v : Value) →
    recorded (insert_entry text_cmp es name v) ≡ put text_cmp name (view v) (recorded es)
recorded_insert [] name v = refl
recorded_insert (e ∷ es) name v =
    elim (text_cmp name e.0) as (λ r. recorded
    (match_ordering r ((name, v) ∷ e ∷ es) ((e.0, v) ∷ es) (e ∷ insert_entry text_cmp es name v))
    ≡ by_order r ((name, view v) ∷ recorded (e ∷ es)) ((e.0, view v) ∷ recorded es)
    ((e.0, view e.1) ∷ put text_cmp name (view v) (recorded es))) [
      | Less ↦ refl
      | Equal ↦ refl
      | Greater ↦ ap (λ (l : List Setting). (e.0, view e.1) ∷ l) (recorded_insert es name v)
    ]

and_true : (a b : Bool) → IsTrue a → IsTrue b → IsTrue (a && b)
and_true true b p q = q
and_true false b p q = p

first_true : (a b : Bool) → IsTrue (a && b) → IsTrue a
first_true true b p = refl
first_true false b p = p

rest_true : (a b : Bool) → IsTrue (a && b) → IsTrue b
rest_true true b p = p
rest_true false b p = absurd (cc p)

pub plain_put : (ss : List Setting) (name : List ℕ) (d : Datum) → IsTrue (is_plain_value d) → IsTrue (are_plain ss) →
    IsTrue (are_plain (put text_cmp name d ss))
plain_put [] name d plain all = and_true (is_plain_value d) true plain refl
plain_put (s ∷ ss) name d plain all =
    let here = first_true (is_plain_value s.1) (are_plain ss) all in
    let rest = rest_true (is_plain_value s.1) (are_plain ss) all in
    elim (text_cmp name s.0) as (λ r. IsTrue (are_plain
    (by_order r ((name, d) ∷ s ∷ ss) ((s.0, d) ∷ ss) (s ∷ put text_cmp name d ss)))) [
      | Less ↦ and_true (is_plain_value d) (are_plain (s ∷ ss)) plain all
      | Equal ↦ and_true (is_plain_value d) (are_plain ss) plain rest
      | Greater ↦ and_true (is_plain_value s.1) (are_plain (put text_cmp name d ss)) here (plain_put ss name d plain rest)
    ]

-- ---- records

module _ {X : Type 0} where
  pub lookup_find : (es : List (List ℕ × X)) (key : List ℕ) → lookup (is_at (text_cmp key)) es ≡ find text_cmp key es
  lookup_find [] key = refl
  lookup_find (e ∷ es) key = ap (cond (eq_by_cmp text_cmp key e.0) (Some e.1)) (lookup_find es key)

  pub insert_put : (es : List (List ℕ × X)) (key : List ℕ) (x : X) → insert_entry text_cmp es key x ≡ put text_cmp key x es
  insert_put [] key x = refl
  insert_put (e ∷ es) key x =
      elim (text_cmp key e.0) as (λ r. match_ordering r ((key, x) ∷ e ∷ es) ((e.0, x) ∷ es) (e ∷ insert_entry text_cmp es key x)
      ≡ by_order r ((key, x) ∷ e ∷ es) ((e.0, x) ∷ es) (e ∷ put text_cmp key x es)) [
        | Less ↦ refl
        | Equal ↦ refl
        | Greater ↦ ap (λ (l : List (List ℕ × X)). e ∷ l) (insert_put es key x)
      ]

  -- to set what is found changes nothing
  pub set_same : (test : List ℕ → Bool) (es : List (List ℕ × X)) (x : X) → lookup test es ≡ Some x → set_value test es x ≡ es
  set_same test [] x e = refl
  set_same test (e ∷ es) x is =
      elim (test e.0) as (λ b. cond b (Some e.1) (lookup test es) ≡ Some x → cond b ((e.0, x) ∷ es) (e ∷ set_value test es x) ≡ e ∷ es) [
        | true ↦ λ same. ap (λ y. (e.0, y) ∷ es) (sym (inside e.1 x same))
        | false ↦ λ rest. ap (λ (l : List (List ℕ × X)). e ∷ l) (set_same test es x rest)
      ] is where
        inside : (a b : X) → Some a ≡ Some b → a ≡ b
        inside a b p = cc p

-- a property is set in the record that is there
pub set_there : (ok : Bool) (m n : State) (key name : List ℕ) (d : Datum) (ps w : List Setting) →
    Some ps ≡ lookup (is_at (text_cmp key)) m → n ≡ set_value (is_at (text_cmp key)) m w →
    w ≡ (if ok then put text_cmp name d ps else ps) →
    n ≡ (if ok then with_record key name d (find text_cmp key m) m else m)
set_there true m n key name d ps w found set is =
    set ∙ ap (set_value (is_at (text_cmp key)) m) is
    ∙ ap (λ o. with_record key name d o m) (found ∙ lookup_find m key)
set_there false m n key name d ps w found set is =
    set ∙ ap (set_value (is_at (text_cmp key)) m) is ∙ set_same (is_at (text_cmp key)) m ps (sym found)

-- ---- texts

any_same : (ts : List (List ℕ)) (q : List ℕ) → list_any (is_at (text_cmp q)) ts ≡ has_text ts q
any_same [] q = refl
any_same (t ∷ ts) q = ap₂ (λ a b. a || b) (is_eq-slice_cmp q t) (any_same ts q)

or_false : (b : Bool) → (b || false) ≡ b
or_false true = refl
or_false false = refl

-- what is among texts is among them in order
pub among_sorted : (ts keys : List (List ℕ)) (q : List ℕ) → keys ≡ sorted ts →
    list_any (is_at (text_cmp q)) keys ≡ has_text ts q
among_sorted ts keys q is =
    any_same keys q ∙ ap (λ l. has_text l q) is ∙ has_text-with_texts ts [] q ∙ or_false (has_text ts q)

-- ---- whether there is a record

pub record_found : (m s : State) (key key2 : List ℕ) → m ≡ s → key ≡ key2 →
    lookup (is_at (text_cmp key)) m ≡ find text_cmp key2 s
record_found m s key key2 same is = lookup_find m key ∙ ap₂ (λ k e. find text_cmp k e) is same
