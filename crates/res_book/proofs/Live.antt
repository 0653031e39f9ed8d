-- What is live stays live, and so do containers.
use Rattle.std.proofs.Common.{◌≡◌, ℕ, zero, suc, ◌<◌, Bool, true, false, not, ◌||◌, IsTrue, List, [], ◌∷◌, ◌++◌, length}
use Rattle.std.proofs.Common.{Option, Some, inl, inr, refl, sym, ap, subst, ◌∙◌, arith}
use Rattle.res_book.specs.Rows.{is_virtual, is_live, is_live_at, is_contained, AreContained, with_change, marked}
use Rattle.res_book.specs.declared.row.Row.{Row}
use Rattle.res_book.proofs.Rows.{KeepsItem, item_at-append, item_at-change}

pub live_below : (rows : List Row) (n : ℕ) → IsTrue (is_live_at rows n) → n < length rows
live_below [] n e = absurd cc
live_below (r ∷ rs) zero e = omega arith
live_below (r ∷ rs) (suc n) e = let b : n < length rs = live_below rs n e in omega arith

pub live-append : (rows : List Row) (r : Row) (n : ℕ) → IsTrue (is_live_at rows n) →
    IsTrue (is_live_at (rows ++ r ∷ []) n)
live-append [] r n e = absurd cc
live-append (x ∷ xs) r zero e = e
live-append (x ∷ xs) r (suc n) e = live-append xs r n e

abbrev pub KeepsLife : (Row → Row) → Type 0
KeepsLife change = (r : Row) → IsTrue (is_live r) → IsTrue (is_live (change r))

pub live-change : (change : Row → Row) → KeepsLife change → (m n : ℕ) (rows : List Row) →
    IsTrue (is_live_at rows m) → IsTrue (is_live_at (with_change change n rows) m)
live-change change keeps m n [] e = absurd cc
live-change change keeps zero zero (r ∷ rs) e = keeps r e
live-change change keeps (suc m) zero (r ∷ rs) e = e
live-change change keeps zero (suc n) (r ∷ rs) e = e
live-change change keeps (suc m) (suc n) (r ∷ rs) e = live-change change keeps m n rs e

or_true : (b : Bool) → IsTrue (b || true)
or_true true = refl
or_true false = refl

-- a mark makes live
pub marked_live : KeepsLife marked
marked_live r e = or_true (not (is_virtual r.mode))

-- ---- containers

within : (o : Option ℕ) (c : ℕ) (rows : List Row) → o ≡ Some c → IsTrue (is_contained o rows) →
    IsTrue (is_live_at rows c)
within o c rows e h = subst (λ p. IsTrue (is_contained p rows)) e h

pub contained-append : (rows : List Row) (r : Row) → IsTrue (is_contained r.declared.container rows) →
    AreContained rows → AreContained (rows ++ r ∷ [])
contained-append rows r new old = record {
  before = λ n c d at in_c.
      elim (item_at-append rows r n d at) [
        | inl was ↦ old.before n c d was in_c
        | inr last ↦
            let live : IsTrue (is_live_at rows c) =
            within r.declared.container c rows (ap (λ x. x.container) last.1 ∙ in_c) new in
            let less = live_below rows c live in
            let is = last.0 in
            omega arith
      ];
  live = λ n c d at in_c.
      elim (item_at-append rows r n d at) [
        | inl was ↦ live-append rows r c (old.live n c d was in_c)
        | inr last ↦ live-append rows r c (within r.declared.container c rows (ap (λ x. x.container) last.1 ∙ in_c) new)
      ];
}

pub contained-change : (change : Row → Row) → KeepsItem change → KeepsLife change → (n : ℕ) (rows : List Row) →
    AreContained rows → AreContained (with_change change n rows)
contained-change change item life n rows old = record {
  before = λ m c d at in_c. old.before m c d (sym (item_at-change change item m n rows) ∙ at) in_c;
  live = λ m c d at in_c.
      live-change change life c n rows (old.live m c d (sym (item_at-change change item m n rows) ∙ at) in_c);
}
