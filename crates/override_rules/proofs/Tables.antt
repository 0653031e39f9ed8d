-- What the tables find after one entry of theirs was set.
use Rattle.std.proofs.Common.{◌≡◌, ℕ, suc, Bool, true, false, ◌&&◌, cond, if◌then◌else◌, List, [], ◌∷◌, ◌++◌, Option, Some, refl, sym, ap, ◌∙◌}
use Rattle.std.specs.Prelude.{unwrap_or}
use Rattle.std.specs.BTreeMap.{UpdatesBy, get, get_by}
use Rattle.std.specs.Cmp.Lexicographic.{slice_cmp, bytes_decides, texts_ties}
use Rattle.std.specs.Ordering.{nat_cmp, is_eq, on}
use Rattle.std.specs.Str.{bytes_eq}
use Rattle.std.specs.declared.alloc.Global.{Global}
use Rattle.std.specs.declared.vec.Vec.{Vec}
use Rattle.pp_values.specs.References.{same_reference}
use Rattle.pp_values.specs.declared.reference.Reference.{Reference}
use Rattle.override_rules.specs.Counts.{CountTable, count_of, AddsOne, KeepsCounts}
use Rattle.override_rules.specs.Numbers.{Table, items_in, numbers_at, Adds, Keeps}
use Rattle.override_rules.specs.Targets.{reference_cmp, same_by_cmp}
use Rattle.override_rules.specs.declared.target.Target.{Target}

both_true : (a b : Bool) → (a && b) ≡ true → (a ≡ true) × (b ≡ true)
both_true true true e = (refl, refl)
both_true true false e = absurd cc
both_true false b e = absurd cc

pub same_is : (x y : Reference) → same_reference x y ≡ true → x ≡ y
same_is x y e =
    let p = both_true (bytes_eq x.kind y.kind) (bytes_eq x.title y.title) e in
    λ i. record { kind = (bytes_decides x.kind y.kind).0 p.0 i; title = (bytes_decides x.title y.title).0 p.1 i }

-- what one key has is told of each that is the same
moved : {K X : Type 0} (same : K → K → Bool) → ((a b : K) → same a b ≡ true → a ≡ b) →
    (f : K → X) (g : X → X) (k r : K) →
    (if same k r then g (f k) else f r) ≡ (if same k r then g (f r) else f r)
moved same is f g k r =
    elim (same k r) as (λ b. same k r ≡ b → (if b then g (f k) else f r) ≡ (if b then g (f r) else f r))
    [ true ↦ λ e. ap (λ q. g (f q)) (is k r e) | false ↦ λ e. refl ] refl

either : {X : Type 0} (b : Bool) (x : X) → (if b then x else x) ≡ x
either true x = refl
either false x = refl

-- ---- numbers of lines

items_cond : (b : Bool) (w : Vec ℕ Global) (o : Option (Vec ℕ Global)) →
    items_in (cond b (Some w) o) ≡ (if b then w.items else items_in o)
items_cond true w o = refl
items_cond false w o = refl

put : (m n : Table) (k : Target) (w : Vec ℕ Global) →
    UpdatesBy (on (λ t. t.reference) reference_cmp) (λ t. reference_cmp k.reference t.reference) m n (Some w) →
    (r : Reference) → numbers_at n r ≡ (if same_reference k.reference r then w.items else numbers_at m r)
put m n k w u r =
    ap items_in (u.0 (record { reference = r }))
    ∙ items_cond (is_eq (reference_cmp k.reference r)) w (get_by (λ t. reference_cmp r t.reference) m)
    ∙ ap (λ b. if b then w.items else numbers_at m r) (sym (same_by_cmp k.reference r))

pub added : (m n : Table) (k : Target) (w : Vec ℕ Global) (x : ℕ) →
    UpdatesBy (on (λ t. t.reference) reference_cmp) (λ t. reference_cmp k.reference t.reference) m n (Some w) →
    w.items ≡ numbers_at m k.reference ++ x ∷ [] → Adds k.reference x m n
added m n k w x u e = λ r.
    put m n k w u r
    ∙ ap (λ l. if same_reference k.reference r then l else numbers_at m r) e
    ∙ moved same_reference same_is (numbers_at m) (λ l. l ++ x ∷ []) k.reference r

pub unchanged : (m n : Table) (k : Target) (w : Vec ℕ Global) →
    UpdatesBy (on (λ t. t.reference) reference_cmp) (λ t. reference_cmp k.reference t.reference) m n (Some w) →
    w.items ≡ numbers_at m k.reference → Keeps m n
unchanged m n k w u e = λ r.
    put m n k w u r
    ∙ ap (λ l. if same_reference k.reference r then l else numbers_at m r) e
    ∙ moved same_reference same_is (numbers_at m) (λ l. l) k.reference r
    ∙ either (same_reference k.reference r) (numbers_at m r)

-- ---- counts

count_cond : (b : Bool) (w : ℕ) (o : Option ℕ) → unwrap_or (cond b (Some w) o) 0 ≡ (if b then w else unwrap_or o 0)
count_cond true w o = refl
count_cond false w o = refl

count_put : (m n : CountTable) (k : List ℕ) (w : ℕ) →
    UpdatesBy (slice_cmp nat_cmp) (slice_cmp nat_cmp k) m n (Some w) →
    (q : List ℕ) → count_of n q ≡ (if bytes_eq k q then w else count_of m q)
count_put m n k w u q =
    ap (λ o. unwrap_or o 0) (u.0 q)
    ∙ count_cond (is_eq (slice_cmp nat_cmp k q)) w (get (slice_cmp nat_cmp) m q)
    ∙ ap (λ b. if b then w else count_of m q) (sym (texts_ties k q))

pub counted_up : (m n : CountTable) (k : List ℕ) (w : ℕ) →
    UpdatesBy (slice_cmp nat_cmp) (slice_cmp nat_cmp k) m n (Some w) → w ≡ suc (count_of m k) → AddsOne k m n
counted_up m n k w u e = λ q.
    count_put m n k w u q
    ∙ ap (λ c. if bytes_eq k q then c else count_of m q) e
    ∙ moved bytes_eq (λ a b. (bytes_decides a b).0) (count_of m) suc k q

pub count_same : (m n : CountTable) (k : List ℕ) (w : ℕ) →
    UpdatesBy (slice_cmp nat_cmp) (slice_cmp nat_cmp k) m n (Some w) → w ≡ count_of m k → KeepsCounts m n
count_same m n k w u e = λ q.
    count_put m n k w u q
    ∙ ap (λ c. if bytes_eq k q then c else count_of m q) e
    ∙ moved bytes_eq (λ a b. (bytes_decides a b).0) (count_of m) (λ c. c) k q
    ∙ either (bytes_eq k q) (count_of m q)
