-- Lists that go on, and scopes that are kept.
use Rattle.std.proofs.Common.{◌≡◌, ℕ, zero, suc, ◌≤◌, Bool, true, false, if◌then◌else◌}
use Rattle.std.proofs.Common.{List, [], ◌∷◌, ◌++◌, length, take}
use Rattle.std.proofs.Common.{Option, None, Some, refl, sym, ap, ◌∙◌, arith}
use Rattle.std.proofs.lemmas.List.{append-nil, append_assoc}
use Rattle.std.specs.Cmp.Lexicographic.{nat_list_cmp_total}
use Rattle.std.specs.Prelude.{slice_get, option_and_then}
use Rattle.pp_values.specs.Datum.{Datum}
use Rattle.pp_values.specs.Rising.{text_cmp}
use Rattle.scope_core.specs.Names.{Name, value_of, with_value}
use Rattle.scope_core.specs.Scopes.{Scope, is_last_ended, scopes_after, set_in, without_ended}
use Rattle.world_laws.specs.Extends.{GoesOn, IsKept, AreKept}
use Rattle.world_laws.proofs.Entries.{found_still as entry_still}

-- ---- lists

pub goes_on : {A : Type 0} (old more : List A) → GoesOn old (old ++ more)
goes_on old more = record { more = more; is = refl }

pub stays : {A : Type 0} (xs : List A) → GoesOn xs xs
stays xs = record { more = []; is = sym (append-nil xs) }

pub further : {A : Type 0} {a b c : List A} → GoesOn a b → GoesOn b c → GoesOn a c
further {a = a} f g = record {
  more = f.more ++ g.more;
  is = g.is ∙ ap (λ xs. xs ++ g.more) f.is ∙ append_assoc a f.more g.more;
}

-- ---- one scope

pub kept : (s : Scope) → IsKept s s
kept s = record { owner = refl; parent = refl; names = λ x d e. e }

pub kept_on : {s t u : Scope} → IsKept s t → IsKept t u → IsKept s u
kept_on f g = record {
  owner = g.owner ∙ f.owner;
  parent = g.parent ∙ f.parent;
  names = λ x d e. g.names x d (f.names x d e);
}

-- ---- names

pub found_still : (k : Name) (v : Datum) (es : List (Name × Datum)) → value_of k es ≡ None → (x : Name) (d : Datum) →
    value_of x es ≡ Some d → value_of x (with_value k v es) ≡ Some d
found_still = entry_still text_cmp nat_list_cmp_total

-- ---- all scopes

pub all_kept : (ss : List Scope) → AreKept ss ss
unfolding AreKept
all_kept [] = tt
all_kept (s ∷ ss) = (kept s, all_kept ss)

pub all_kept_on : (ss ts us : List Scope) → AreKept ss ts → AreKept ts us → AreKept ss us
unfolding AreKept
all_kept_on [] ts us f g = tt
all_kept_on (s ∷ ss) [] us f g = absurd f
all_kept_on (s ∷ ss) (t ∷ ts) [] f g = absurd g
all_kept_on (s ∷ ss) (t ∷ ts) (u ∷ us) f g = (kept_on f.0 g.0, all_kept_on ss ts us f.1 g.1)

-- one scope more
pub kept_before : (ss more : List Scope) → AreKept ss (ss ++ more)
unfolding AreKept
kept_before [] more = tt
kept_before (s ∷ ss) more = (kept s, kept_before ss more)

-- a scope ends that is not among them, and stays
kept_where : (n : ℕ) (o : Option Scope) (ss ts : List Scope) → length ss ≤ n → AreKept ss ts →
    AreKept ss (scopes_after n o ts)
unfolding AreKept
kept_where n None ss ts past f = f
kept_where n (Some s) [] ts past f = tt
kept_where n (Some s) (x ∷ xs) [] past f = absurd f
kept_where zero (Some s) (x ∷ xs) (t ∷ ts) past f = absurd (omega (arith, past))
kept_where (suc n) (Some s) (x ∷ xs) (t ∷ ts) past f =
    let less : length xs ≤ n = omega arith in (f.0, kept_where n (Some s) xs ts less f.1)

-- so many are left that they are among them
kept_front : (n : ℕ) (ss ts : List Scope) → length ss ≤ n → AreKept ss ts → AreKept ss (take n ts)
unfolding AreKept
kept_front n [] ts past f = tt
kept_front n (s ∷ ss) [] past f = absurd f
kept_front zero (s ∷ ss) (t ∷ ts) past f = absurd (omega (arith, past))
kept_front (suc n) (s ∷ ss) (t ∷ ts) past f =
    let less : length ss ≤ n = omega arith in (f.0, kept_front n ss ts less f.1)

kept_by : (b : Bool) (n : ℕ) (ss ts : List Scope) → length ss ≤ n → AreKept ss ts →
    AreKept ss (if b then take n ts else ts)
kept_by true n ss ts past f = kept_front n ss ts past f
kept_by false n ss ts past f = f

-- what becomes of a scope that is not among them
pub kept_beside : (n : ℕ) (o : Option Scope) (ss ts : List Scope) → length ss ≤ n → AreKept ss ts →
    AreKept ss (without_ended n (scopes_after n o ts))
kept_beside n o ss ts past f =
    kept_by (is_last_ended n (scopes_after n o ts)) n ss (scopes_after n o ts) past (kept_where n o ss ts past f)

-- ---- a name that is set

behind_first : (n : ℕ) (x : Name) (d : Datum) (o : Option Scope) (s : Scope) (ss : List Scope) →
    AreKept ss (set_in n x d o ss) → AreKept (s ∷ ss) (set_in (suc n) x d o (s ∷ ss))
unfolding AreKept
behind_first n x d None s ss f = (kept s, f)
behind_first n x d (Some t) s ss f = (kept s, f)

pub name_set : (n : ℕ) (x : Name) (d : Datum) (ss : List Scope) →
    option_and_then (λ s. value_of x s.names) (slice_get ss n) ≡ None → AreKept ss (set_in n x d (slice_get ss n) ss)
unfolding AreKept
name_set n x d [] none = tt
name_set zero x d (s ∷ ss) none =
    (record { owner = refl; parent = refl; names = found_still x d s.names none }, all_kept ss)
name_set (suc n) x d (s ∷ ss) none = behind_first n x d (slice_get ss n) s ss (name_set n x d ss none)
