-- A collector of the function `realize` takes one declaration at most, which its reference finds.
use Rattle.std.proofs.Common.{◌≡◌, ℕ, zero, suc, ◌+◌, ◌<◌, ◌≤◌, Bool, true, false, ◌||◌, ◌&&◌, List, length, Option}
use Rattle.std.proofs.Common.{None, Some, Ok, Err, refl, sym, ap, ◌∙◌, arith, ⊎_elim}
use Rattle.std.proofs.Math.Bool.{or-false}
use Rattle.std.proofs.lemmas.Bool.Decides.{eqb_tells}
use Rattle.std.proofs.lemmas.Slice.Eq.{bytes_eq-Decides}
use Rattle.std.specs.Prelude.{slice_get}
use Rattle.std.specs.Str.{bytes_eq}
use Rattle.pp_values.specs.References.{same_reference}
use Rattle.pp_values.specs.declared.reference.Reference.{Reference}
use Rattle.res_book.proofs.Rows.{number_of-below}
use Rattle.res_book.specs.Rows.{AreApart, item_at, number_of, reference_of}
use Rattle.res_book.specs.declared.collector.Collector.{Collector}
use Rattle.res_book.specs.declared.row.Row.{Row}
use Rattle.res_core.specs.declared.declared.Declared.{Declared}
use Rattle.eval_collecting.proofs.Keeping.{Holds, local_match_keeps}
use Rattle.eval_collecting.proofs.Passing.{named_by, passes_others}
use Rattle.eval_collecting.specs.Matching.{local_match, realized, realized_by}
use Rattle.eval_world.specs.Outcomes.{Outcome, go_on, pure}
use Rattle.eval_world.specs.declared.world.World.{World}
use Rattle.defined_types.specs.Named.{take_named}
use Rattle.defined_types.specs.Rounds.{take_from, take_locals}

-- ---- what a reference finds

both : (a b : Bool) → (a && b) ≡ true → (a ≡ true) × (b ≡ true)
both true true e = (refl, refl)
both true false e = absurd cc
both false b e = absurd cc

exact : (p q : Reference) → same_reference p q ≡ true → p ≡ q
exact p q e =
    let parts = both (bytes_eq p.kind q.kind) (bytes_eq p.title q.title) e in
    λ i. record {
      kind = (bytes_eq-Decides p.kind q.kind).0 parts.0 i;
      title = (bytes_eq-Decides p.title q.title).0 parts.1 i;
    }

other_by : (rows : List Row) (q : Reference) (m : ℕ) (d : Declared) (b : Bool) → AreApart rows →
    item_at rows m ≡ Some d → same_reference q (reference_of d) ≡ b → ¬ (number_of q rows ≡ Some m) → b ≡ false
other_by rows q m d false apart at is other = refl
other_by rows q m d true apart at is other =
    absurd (other (ap (λ r. number_of r rows) (exact q (reference_of d) is) ∙ apart.found m d at))

others_at : (rows : List Row) (q : Reference) (m : ℕ) (o : Option Declared) → AreApart rows → item_at rows m ≡ o →
    ¬ (number_of q rows ≡ Some m) → named_by q o ≡ false
others_at rows q m None apart at other = refl
others_at rows q m (Some d) apart at other =
    other_by rows q m d (same_reference q (reference_of d)) apart at refl other

-- what has another number has another reference
pub others : (rows : List Row) (q : Reference) (m : ℕ) → AreApart rows → ¬ (number_of q rows ≡ Some m) →
    named_by q (item_at rows m) ≡ false
others rows q m apart other = others_at rows q m (item_at rows m) apart refl other

-- ---- what is passed over

abbrev Others : Reference → ℕ → (ℕ → Option Declared) → Type 0
Others q k items = (m : ℕ) → ¬ (m ≡ k) → named_by q (items m) ≡ false

none_taken : (c : ℕ) (q : Reference) (added : Bool) (n left : ℕ) (w : World) → realized w c ≡ Some q →
    ((m : ℕ) → n ≤ m → named_by q (item_at w.book m) ≡ false) → take_from c added n left w ≡ Ok (added, w)
unfolding take_from
none_taken c q added n zero w is other = refl
none_taken c q added n (suc left) w is other =
    ap (λ o. go_on o (λ more. take_from c (more || added) (n + 1) left))
    (passes_others c n q w is (other n (omega arith)))
    ∙ none_taken c q added (n + 1) left w is (λ m past. other m (omega (arith, past)))

-- of a reference that was asked for, and of all others but one
abbrev Stays : ℕ → Reference → ℕ → (ℕ → Option Declared) → List Collector → Type 0
Stays c q k items cs = (realized_by (slice_get cs c) ≡ Some q) × Others q k items

then_none : (c : ℕ) (q : Reference) (added : Bool) (k left : ℕ) (o : Outcome Bool) →
    Holds (λ v. Stays c q k (item_at v.book) v.relations.collectors) o →
    go_on o (λ more. take_from c (more || added) (k + 1) left) ≡ go_on o (λ more. pure (more || added))
then_none c q added k left (Ok p) stays =
    none_taken c q (p.0 || added) (k + 1) left p.1 stays.0
    (λ m past. stays.1 m (λ same. omega (arith, past, same)))
then_none c q added k left (Err f) stays = refl

one_at : (c : ℕ) (q : Reference) (k : ℕ) (added : Bool) (n left : ℕ) (w : World) → n ≡ k → realized w c ≡ Some q →
    Others q k (item_at w.book) →
    take_from c added n (suc left) w ≡ go_on (local_match c k w) (λ more. pure (more || added))
unfolding take_from
one_at c q k added n left w here is other =
    ap (λ m. go_on (local_match c m w) (λ more. take_from c (more || added) (m + 1) left)) here
    ∙ then_none c q added k left (local_match c k w) (local_match_keeps (Stays c q k) c k w (is, other))

one_taken : (c : ℕ) (q : Reference) (k : ℕ) (added : Bool) (n left : ℕ) (w : World) → n ≤ k → k < n + left →
    realized w c ≡ Some q → Others q k (item_at w.book) →
    take_from c added n left w ≡ go_on (local_match c k w) (λ more. pure (more || added))
unfolding take_from
one_taken c q k added n zero w from to is other = absurd (omega (arith, from, to))
one_taken c q k added n (suc left) w from to is other =
    ⊎_elim (λ e. one_at c q k added n left w e.1 is other)
    (λ e. ap (λ o. go_on o (λ more. take_from c (more || added) (n + 1) left)) (passes_others c n q w is (other n e.1))
    ∙ one_taken c q k added (n + 1) left w (omega (arith, from, e.1)) (omega (arith, to)) is other)
    (eqb_tells n k)

-- ---- all declarations

as_it_is : (o : Outcome Bool) → go_on o (λ more. pure (more || false)) ≡ o
as_it_is (Ok p) = ap (λ b. Ok (b, p.1)) (or-false p.0)
as_it_is (Err f) = refl

by_number : (c : ℕ) (q : Reference) (w : World) (found : Option ℕ) → realized w c ≡ Some q → AreApart w.book →
    number_of q w.book ≡ found → take_locals c w ≡ take_named c found w
by_number c q w None is apart none =
    none_taken c q false 0 (length w.book) w is
    (λ m past. others w.book q m apart (λ at. let told : None ≡ Some m = sym none ∙ at in absurd cc))
by_number c q w (Some k) is apart found =
    one_taken c q k false 0 (length w.book) w (omega arith) (omega (arith, number_of-below q w.book k found)) is
    (λ m apart_from. others w.book q m apart (λ at.
    let both_found : Some m ≡ Some k = sym at ∙ found in let same : m ≡ k = cc in apart_from same))
    ∙ as_it_is (local_match c k w)

pub only_named : (c : ℕ) (q : Reference) (w : World) → realized w c ≡ Some q → AreApart w.book →
    take_locals c w ≡ take_named c (number_of q w.book) w
only_named c q w is apart = by_number c q w (number_of q w.book) is apart refl
