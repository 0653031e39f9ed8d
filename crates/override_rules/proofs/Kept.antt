-- Defaults, in their order and for a kind.
use Rattle.std.proofs.Common.{◌≡◌, ℕ, suc, ◌≤◌, Bool, true, false, cond, if◌then◌else◌, List, [], ◌∷◌, length, Option, None, Some, option_map, refl, sym, ap, ◌∙◌, arith}
use Rattle.std.specs.BTreeMap.{insert_entry, is_at}
use Rattle.std.specs.Cmp.Lexicographic.{nat_list_eq_equiv}
use Rattle.std.specs.declared.cmp.Ordering.TheVariants.{Less, Equal, Greater}
use Rattle.std.specs.Map.{lookup}
use Rattle.std.specs.Ordering.{is_eq, match_ordering}
use Rattle.std.specs.Prelude.{option_copied}
use Rattle.std.specs.Str.{bytes_eq}
use denote.Ref.{Bor}
use Rattle.pp_values.specs.Datum.{Datum}
use Rattle.pp_values.specs.Views.{view}
use Rattle.pp_values.specs.declared.value.Value.{Value}
use Rattle.override_rules.specs.Counts.{CountTable, AddsOne, KeepsCounts, CountsKinds}
use Rattle.override_rules.specs.Defaults.{Default, default_key, is_default, default_in, defaults_for, with_default}
use Rattle.override_rules.specs.Inside.{default_of, defaults_of}
use Rattle.override_rules.specs.Keys.{key_cmp, key_ties}
use Rattle.override_rules.specs.declared.default_key.DefaultKey.{DefaultKey}

pub seen : (o : Option (Bor Value)) → option_map (λ v. view v.now) o ≡ option_map view (option_copied o)
seen None = refl
seen (Some v) = refl

lookup-seen : (test : DefaultKey → Bool) (es : List (DefaultKey × Value)) →
    lookup test (defaults_of es) ≡ option_map view (lookup test es)
lookup-seen test [] = refl
lookup-seen test (e ∷ es) =
    elim (test e.0) as (λ b. cond b (Some (view e.1)) (lookup test (defaults_of es))
    ≡ option_map view (cond b (Some e.1) (lookup test es)))
    [ true ↦ refl | false ↦ lookup-seen test es ]

same_tests : (kind : List ℕ) (scope : ℕ) (name : List ℕ) →
    is_default kind scope name ≡ is_at (key_cmp (default_key kind scope name))
same_tests kind scope name = λ i k. key_ties (default_key kind scope name) k i

pub default_at : (ds : List Default) (kind : List ℕ) (scope : ℕ) (name : List ℕ) →
    default_in ds kind scope name ≡ lookup (is_at (key_cmp (default_key kind scope name))) ds
default_at ds kind scope name = ap (λ test. lookup test ds) (same_tests kind scope name)

-- what the map finds is what the scope has
pub default_found : (es : List (DefaultKey × Value)) (kind : List ℕ) (scope : ℕ) (name : List ℕ) →
    default_in (defaults_of es) kind scope name
    ≡ option_map view (lookup (is_at (key_cmp (default_key kind scope name))) es)
default_found es kind scope name =
    default_at (defaults_of es) kind scope name ∙ lookup-seen (is_at (key_cmp (default_key kind scope name))) es

pub put_seen : (es : List (DefaultKey × Value)) (k : DefaultKey) (v : Value) →
    defaults_of (insert_entry key_cmp es k v) ≡ with_default (defaults_of es) k (view v)
put_seen [] k v = refl
put_seen (e ∷ es) k v =
    elim (key_cmp k e.0) as (λ o. defaults_of (match_ordering o ((k, v) ∷ e ∷ es) ((e.0, v) ∷ es)
    (e ∷ insert_entry key_cmp es k v)) ≡ match_ordering o ((k, view v) ∷ default_of e ∷ defaults_of es)
    ((e.0, view v) ∷ defaults_of es) (default_of e ∷ insert_entry key_cmp (defaults_of es) k (view v)))
    [ Less ↦ refl | Equal ↦ refl | Greater ↦ ap (λ t. default_of e ∷ t) (put_seen es k v) ]

-- ---- how many for a kind

longer : {X : Type 0} (b : Bool) (x : X) (xs : List X) → length (cond b (x ∷ xs) xs)
    ≡ (if b then suc (length xs) else length xs)
longer true x xs = refl
longer false x xs = refl

further : (b c : Bool) (x : Default) (xs ys : List Default) → length ys ≡ (if b then suc (length xs) else length xs) →
    length (cond c (x ∷ ys) ys) ≡ (if b then suc (length (cond c (x ∷ xs) xs)) else length (cond c (x ∷ xs) xs))
further true true x xs ys e = ap suc e
further true false x xs ys e = e
further false true x xs ys e = ap suc e
further false false x xs ys e = e

none_there : {X : Type 0} (b : Bool) (x : X) (o : Option X) → cond b (Some x) o ≡ None → (b ≡ false) × (o ≡ None)
none_there true x o e = absurd cc
none_there false x o e = (refl, e)

pub one_more : (ds : List Default) (k : DefaultKey) (d : Datum) (kind : List ℕ) →
    lookup (is_at (key_cmp k)) ds ≡ None →
    length (defaults_for kind (with_default ds k d))
    ≡ (if bytes_eq kind k.kind then suc (length (defaults_for kind ds)) else length (defaults_for kind ds))
one_more [] k d kind e = longer (bytes_eq kind k.kind) (k, d) []
one_more (x ∷ xs) k d kind e =
    let parts = none_there (is_eq (key_cmp k x.0)) x.1 (lookup (is_at (key_cmp k)) xs) e in
    let F = defaults_for kind in
    elim (key_cmp k x.0) as (λ o. is_eq o ≡ false →
    length (F (match_ordering o ((k, d) ∷ x ∷ xs) ((x.0, d) ∷ xs) (x ∷ with_default xs k d)))
    ≡ (if bytes_eq kind k.kind then suc (length (F (x ∷ xs))) else length (F (x ∷ xs)))) [
      | Less ↦ λ no. longer (bytes_eq kind k.kind) (k, d) (F (x ∷ xs))
      | Equal ↦ λ no. absurd cc
      | Greater ↦ λ no. further (bytes_eq kind k.kind) (bytes_eq kind x.0.kind) x (F xs) (F (with_default xs k d))
          (one_more xs k d kind parts.1)
    ] parts.0

-- the counts after one more default
pub counts_more : (a b c : CountTable) (es : List (DefaultKey × Value)) (k : DefaultKey) (v : Value) →
    lookup (is_at (key_cmp k)) (defaults_of es) ≡ None → KeepsCounts a b → AddsOne k.kind b c →
    CountsKinds a (defaults_of es) → CountsKinds c (defaults_of (insert_entry key_cmp es k v))
counts_more a b c es k v new keeps adds held = λ kind.
    adds kind
    ∙ ap (λ n. if bytes_eq k.kind kind then suc n else n) (keeps kind ∙ held kind)
    ∙ ap (λ t. if t then suc (length (defaults_for kind (defaults_of es)))
    else length (defaults_for kind (defaults_of es)))
    (nat_list_eq_equiv.symm k.kind kind)
    ∙ sym (ap (λ ds. length (defaults_for kind ds)) (put_seen es k v) ∙ one_more (defaults_of es) k (view v) kind new)

pub counts_kept : (a b : CountTable) (ds : List Default) → KeepsCounts a b → CountsKinds a ds → CountsKinds b ds
counts_kept a b ds keeps held = λ kind. keeps kind ∙ held kind

pub one_longer : (ds : List Default) (k : DefaultKey) (d : Datum) → length (with_default ds k d) ≤ suc (length ds)
one_longer [] k d = omega arith
one_longer (x ∷ xs) k d =
    let more : length (with_default xs k d) ≤ suc (length xs) = one_longer xs k d in
    elim (key_cmp k x.0) as (λ o. length (match_ordering o ((k, d) ∷ x ∷ xs) ((x.0, d) ∷ xs)
    (x ∷ with_default xs k d)) ≤ suc (suc (length xs)))
    [ Less ↦ omega arith | Equal ↦ omega arith | Greater ↦ omega arith ]
