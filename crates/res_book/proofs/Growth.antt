-- What each change of a book changes, and what it leaves.
use Rattle.std.proofs.Common.{◌≡◌, ℕ, zero, suc, ◌<◌, Bool, true, false, cond, IsTrue, List, [], ◌∷◌, ◌++◌, length}
use Rattle.std.proofs.Common.{Option, None, Some, Result, Ok, Err, option_map, refl, sym, ap, subst, ◌∙◌, arith, length-append}
use Rattle.std.specs.Prelude.{slice_get, nat_lt, ◌&&◌, ◌||◌, not, IsSome}
use Rattle.pp_values.specs.Settings.{Setting}
use Rattle.pp_values.specs.declared.fault.Fault.{Fault}
use Rattle.pp_values.specs.declared.reference.Reference.{Reference}
use Rattle.res_core.specs.declared.declared.Declared.{Declared}
use Rattle.res_book.specs.Growth.{Grows}
use Rattle.res_book.specs.Rows.{passes, is_virtual, is_live, is_instance, is_pending, is_pending_at, is_live_at, item_at, mode_at, bound_at, number_of, is_named, with_change, with_mark, with_bound, marked, bound_to}
use Rattle.res_book.specs.Rows.{reference_of, declared, declared_as, declared_once, new_row, limit, is_class_virtual, class_virtual, too_many}
use Rattle.res_book.specs.declared.mode.Mode.{Mode}
use Rattle.res_book.specs.declared.row.Row.{Row}
use Rattle.res_book.proofs.Live.{live-append, live-change, KeepsLife, marked_live}
use Rattle.res_book.proofs.Rows.{KeepsItem, number_of-change, item_at-change, length-change}

-- ---- one more declaration

-- what comes of a declaration, whatever its last test says
last_appends : (b : Bool) (d : Declared) (m : Mode) (rows new : List Row) (n : ℕ) →
    cond {A = Result (ℕ × List Row) Fault} b (Ok (length rows, rows ++ new_row d m ∷ [])) (Err (too_many d))
    ≡ Ok (n, new) →
    (n ≡ length rows) × (new ≡ rows ++ new_row d m ∷ [])
last_appends true d m rows new n e =
    let both : Prim.Path (ℕ × List Row) (length rows, rows ++ new_row d m ∷ []) (n, new) = cc in
    (sym (ap (λ q. q.0) both), sym (ap (λ q. q.1) both))
last_appends false d m rows new n e = absurd cc

once_appends : (o : Option Row) (d : Declared) (m : Mode) (rows new : List Row) (n : ℕ) →
    declared_once d m o rows ≡ Ok (n, new) → (n ≡ length rows) × (new ≡ rows ++ new_row d m ∷ [])
once_appends None d m rows new n e = last_appends (nat_lt (length rows) limit) d m rows new n e
once_appends (Some r) d m rows new n e = absurd cc

any_appends : (b : Bool) (o : Option Row) (d : Declared) (m : Mode) (rows new : List Row) (n : ℕ) →
    cond b (Err (class_virtual d)) (declared_once d m o rows) ≡ Ok (n, new) →
    (n ≡ length rows) × (new ≡ rows ++ new_row d m ∷ [])
any_appends true o d m rows new n e = absurd cc
any_appends false o d m rows new n e = once_appends o d m rows new n e

-- a declaration that is not refused has the next number, and stands behind the others
pub declared-appends : (d : Declared) (m : Mode) (rows new : List Row) (n : ℕ) →
    declared d m rows ≡ Ok (n, new) → (n ≡ length rows) × (new ≡ rows ++ new_row d m ∷ [])
declared-appends d m rows new n e =
    any_appends (is_class_virtual d m) (declared_as (reference_of d) rows) d m rows new n e

-- the rows before it stay
pub row-append : (rows : List Row) (r : Row) (n : ℕ) → n < length rows →
    slice_get (rows ++ r ∷ []) n ≡ slice_get rows n
row-append [] r n below = absurd (omega arith)
row-append (x ∷ xs) r zero below = refl
row-append (x ∷ xs) r (suc n) below = let less : n < length xs = omega arith in row-append xs r n less

-- and it stands behind them
pub row-last : (rows : List Row) (r : Row) → slice_get (rows ++ r ∷ []) (length rows) ≡ Some r
row-last [] r = refl
row-last (x ∷ xs) r = row-last xs r

-- so what is pending of them stays so
pub pending-append : (rows : List Row) (r : Row) (n : ℕ) → n < length rows →
    is_pending_at (rows ++ r ∷ []) n ≡ is_pending_at rows n
pending-append rows r n below = ap (passes is_pending) (row-append rows r n below)

item_stays : (rows : List Row) (r : Row) (n : ℕ) (d : Declared) → item_at rows n ≡ Some d →
    item_at (rows ++ r ∷ []) n ≡ Some d
item_stays [] r n d e = absurd cc
item_stays (x ∷ xs) r zero d e = e
item_stays (x ∷ xs) r (suc n) d e = item_stays xs r n d e

mode_stays : (rows : List Row) (r : Row) (n : ℕ) (m : Mode) → mode_at rows n ≡ Some m →
    mode_at (rows ++ r ∷ []) n ≡ Some m
mode_stays [] r n m e = absurd cc
mode_stays (x ∷ xs) r zero m e = e
mode_stays (x ∷ xs) r (suc n) m e = mode_stays xs r n m e

bound_stays : (rows : List Row) (r : Row) (n : ℕ) → IsSome (bound_at rows n) → IsSome (bound_at (rows ++ r ∷ []) n)
bound_stays [] r n e = absurd cc
bound_stays (x ∷ xs) r zero e = e
bound_stays (x ∷ xs) r (suc n) e = bound_stays xs r n e

later_number : (b : Bool) (o p : Option ℕ) (n : ℕ) → ((m : ℕ) → o ≡ Some m → p ≡ Some m) →
    cond b (Some 0) (option_map suc o) ≡ Some n → cond b (Some 0) (option_map suc p) ≡ Some n
later_number true o p n same e = e
later_number false None p n same e = absurd cc
later_number false (Some m) p n same e = ap (option_map suc) (same m refl) ∙ e

-- a number that a reference has stays its number
pub number-append : (q : Reference) (rows : List Row) (r : Row) (n : ℕ) → number_of q rows ≡ Some n →
    number_of q (rows ++ r ∷ []) ≡ Some n
number-append q [] r n e = absurd cc
number-append q (x ∷ xs) r n e =
    later_number (is_named q x) (number_of q xs) (number_of q (xs ++ r ∷ [])) n
    (λ m. number-append q xs r m) e

pub grows-append : (rows : List Row) (r : Row) → Grows rows (rows ++ r ∷ [])
grows-append rows r = record {
  longer = let l = length-append rows (r ∷ []) in omega arith;
  item = λ n d. item_stays rows r n d;
  mode = λ n m. mode_stays rows r n m;
  number = λ q n. number-append q rows r n;
  live = λ n. live-append rows r n;
  bound = λ n. bound_stays rows r n;
}

pub grows-declared : (d : Declared) (m : Mode) (rows new : List Row) (n : ℕ) → declared d m rows ≡ Ok (n, new) →
    Grows rows new
grows-declared d m rows new n e =
    subst (Grows rows) (sym (declared-appends d m rows new n e).1) (grows-append rows (new_row d m))

-- ---- a change of one row

-- the row of this number is changed
pub row-change : (change : Row → Row) (n : ℕ) (rows : List Row) →
    slice_get (with_change change n rows) n ≡ option_map change (slice_get rows n)
row-change change n [] = refl
row-change change zero (r ∷ rs) = refl
row-change change (suc n) (r ∷ rs) = row-change change n rs

-- and each other stays
pub row-others : (change : Row → Row) (m n : ℕ) (rows : List Row) → ¬ (m ≡ n) →
    slice_get (with_change change n rows) m ≡ slice_get rows m
row-others change m n [] apart = refl
row-others change zero zero (r ∷ rs) apart = absurd (apart refl)
row-others change (suc m) zero (r ∷ rs) apart = refl
row-others change zero (suc n) (r ∷ rs) apart = refl
row-others change (suc m) (suc n) (r ∷ rs) apart = row-others change m n rs (λ e. apart (ap suc e))

mode-change : (change : Row → Row) → ((r : Row) → (change r).mode ≡ r.mode) → (m n : ℕ) (rows : List Row) →
    mode_at (with_change change n rows) m ≡ mode_at rows m
mode-change change keeps m n [] = refl
mode-change change keeps zero zero (r ∷ rs) = ap (λ x. Some x) (keeps r)
mode-change change keeps (suc m) zero (r ∷ rs) = refl
mode-change change keeps zero (suc n) (r ∷ rs) = refl
mode-change change keeps (suc m) (suc n) (r ∷ rs) = mode-change change keeps m n rs

bound-change : (change : Row → Row) → ((r : Row) → IsSome r.bound → IsSome (change r).bound) → (m n : ℕ)
    (rows : List Row) → IsSome (bound_at rows m) → IsSome (bound_at (with_change change n rows) m)
bound-change change keeps m n [] e = e
bound-change change keeps zero zero (r ∷ rs) e = keeps r e
bound-change change keeps (suc m) zero (r ∷ rs) e = e
bound-change change keeps zero (suc n) (r ∷ rs) e = e
bound-change change keeps (suc m) (suc n) (r ∷ rs) e = bound-change change keeps m n rs e

grows-change : (change : Row → Row) → KeepsItem change → ((r : Row) → (change r).mode ≡ r.mode) → KeepsLife change →
    ((r : Row) → IsSome r.bound → IsSome (change r).bound) → (n : ℕ) (rows : List Row) →
    Grows rows (with_change change n rows)
grows-change change item mode life bound n rows = record {
  longer = let l = length-change change n rows in omega arith;
  item = λ m d e. item-change m ∙ e;
  mode = λ m k e. mode-change change mode m n rows ∙ e;
  number = λ q m e. number_of-change change item q n rows ∙ e;
  live = λ m. live-change change life m n rows;
  bound = λ m. bound-change change bound m n rows;
} where
  item-change : (m : ℕ) → item_at (with_change change n rows) m ≡ item_at rows m
  item-change m = item_at-change change item m n rows

pub grows-mark : (n : ℕ) (rows : List Row) → Grows rows (with_mark n rows)
grows-mark n rows = grows-change marked (λ r. refl) (λ r. refl) marked_live (λ r e. e) n rows

pub grows-bound : (n : ℕ) (settings : List Setting) (rows : List Row) → Grows rows (with_bound n settings rows)
grows-bound n settings rows =
    grows-change (bound_to settings) (λ r. refl) (λ r. refl) (λ r e. e) (λ r e. refl) n rows

-- the parameters that were kept last are those that are found
pub bound-kept : (n : ℕ) (settings : List Setting) (rows : List Row) → n < length rows →
    bound_at (with_bound n settings rows) n ≡ Some settings
bound-kept n settings [] below = absurd (omega arith)
bound-kept zero settings (r ∷ rs) below = refl
bound-kept (suc n) settings (r ∷ rs) below = let less : n < length rs = omega arith in bound-kept n settings rs less

always : (b : Bool) → IsTrue (b || true)
always true = refl
always false = refl

-- what was marked is live
pub mark-live : (n : ℕ) (rows : List Row) → n < length rows → IsTrue (is_live_at (with_mark n rows) n)
mark-live n [] below = absurd (omega arith)
mark-live zero (r ∷ rs) below = always (not (is_virtual r.mode))
mark-live (suc n) (r ∷ rs) below = let less : n < length rs = omega arith in mark-live n rs less

-- ---- which are pending

-- kept parameters leave all others as pending as they were
pub pending-bound_others : (m n : ℕ) (settings : List Setting) (rows : List Row) → ¬ (m ≡ n) →
    is_pending_at (with_bound n settings rows) m ≡ is_pending_at rows m
pending-bound_others m n settings rows apart =
    ap (passes is_pending) (row-others (bound_to settings) m n rows apart)

never : (a b : Bool) → (a && (b && false)) ≡ false
never true true = refl
never true false = refl
never false b = refl

-- an instance that was evaluated is not pending
pub pending-bound : (n : ℕ) (settings : List Setting) (rows : List Row) →
    is_pending_at (with_bound n settings rows) n ≡ false
pending-bound n settings [] = refl
pending-bound zero settings (r ∷ rs) = never (is_live r) (is_instance r.declared)
pending-bound (suc n) settings (r ∷ rs) = pending-bound n settings rs

-- ---- growth in several steps

pub grows-not : (rows : List Row) → Grows rows rows
grows-not rows = record {
  longer = omega arith;
  item = λ n d e. e;
  mode = λ n m e. e;
  number = λ q n e. e;
  live = λ n e. e;
  bound = λ n e. e;
}

pub grows-on : {a b c : List Row} → Grows a b → Grows b c → Grows a c
grows-on f g = record {
  longer = let x = f.longer in let y = g.longer in omega arith;
  item = λ n d e. g.item n d (f.item n d e);
  mode = λ n m e. g.mode n m (f.mode n m e);
  number = λ q n e. g.number q n (f.number q n e);
  live = λ n e. g.live n (f.live n e);
  bound = λ n e. g.bound n (f.bound n e);
}
