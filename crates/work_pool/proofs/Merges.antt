-- Splitting a view and joining two keep the rule.
use Rattle.std.proofs.Common.{◌≡◌, ℕ, ◌+◌, ◌<◌, ◌≢◌, List, [], ◌∷◌, ◌++◌, set, refl, ap, sym, ◌∙◌, subst, ⊎_elim, arith}
use mathlib.Core.Logic.{dite}
use mathlib.Core.Option.{some}
use native.Mathlib.Decide.{dec_le}
use lib.ListN.{get_elem?}
use Rattle.atomic_table.specs.Table.{Splits, Joins}
use Rattle.atomic_table.proofs.Lists.{at_set, at_snoc, set_else}
use Rattle.list_sums.specs.Counts.{total, same}
use Rattle.work_pool.specs.Views.{has_number, room_of, held_of, past_of, dividing, divided, joined, spent}
use Rattle.work_pool.specs.Claimed.{Fits, Claimed}
use Rattle.work_pool.specs.declared.view.View.{View}
use Rattle.list_sums.proofs.Totals.{total-append, total-set}

pub divides : (count id : ℕ) (v : View) → 0 < v.room → 0 < v.held → Splits (Claimed count) id v (dividing v) (divided v)
divides count id v room some_ s r me =
    let f = r.each id v me in let left : View = dividing v in let right : View = divided v in let vs : List View = set s.views id left in
    let both : (g : View → ℕ) → total g (vs ++ right ∷ []) + g v ≡ total g s.views + g left + g right = λ g. omega (arith, total-append g vs (right ∷ []), total-set g s.views id v left me) in
    record {
      word = r.word;
      words = r.words;
      small = r.small;
      once = λ a. omega (arith, both (has_number a), r.once a);
      bound = omega (arith, both past_of, r.bound);
      few = omega (arith, both room_of, both held_of, r.few);
      each = λ i u at.
          ⊎_elim
          (λ there. ⊎_elim (λ t. subst (λ (x : View). Fits count r.word x) t.1 record { same = f.same; known = f.known; nobody = f.nobody; few_past = f.few_past; past_end = f.past_end }) (λ t. r.each i u t.1) (at_set s.views id i left u there))
          (λ e. subst (λ (x : View). Fits count r.word x) e record { same = λ _. f.same some_; known = f.known; nobody = λ _. refl; few_past = omega arith; past_end = λ h. absurd (omega arith) })
          (at_snoc vs right u i at);
    }

no_numbers : (xs ys : List ℕ) → xs ≡ [] → ys ≡ [] → xs ++ ys ≡ []
no_numbers xs ys e d = ap (λ (l : List ℕ). l ++ ys) e ∙ d

pub merges : (count id : ℕ) (v : View) (other : ℕ) (w : View) → 0 < v.held → Joins (Claimed count) id v other w (joined v w) spent
merges count id v other w some_ s r me apart them =
    let u : View = joined v w in let vs : List View = set s.views id u in
    let there : get_elem? s.views other ≡ some w = sym (set_else s.views id other u apart) ∙ them in
    let f = r.each id v me in let g = r.each other w there in
    let both : (h : View → ℕ) → total h (set vs other spent) + h w + h v ≡ total h s.views + h u + h spent = λ h. omega (arith, total-set h s.views id v u me, total-set h vs other w spent them) in
    record {
      word = r.word;
      words = r.words;
      small = r.small;
      once = λ a. omega (arith, both (has_number a), r.once a, total-append (same a) v.numbers w.numbers);
      bound = omega (arith, both past_of, r.bound);
      few = omega (arith, both room_of, both held_of, r.few);
      each = λ i x at.
          ⊎_elim
          (λ (t : (i ≡ other) × (spent ≡ x)). subst (λ (y : View). Fits count r.word y) t.1 record { same = λ h. absurd (omega arith); known = omega arith; nobody = λ _. refl; few_past = omega arith; past_end = λ h. absurd (omega arith) })
          (λ (q : (i ≢ other) × (get_elem? vs i ≡ some x)). ⊎_elim
          (λ (t : (i ≡ id) × (u ≡ x)). subst (λ (y : View). Fits count r.word y) t.1 record {
            same = λ _. f.same some_;
            known = omega (arith, f.known, g.known);
            nobody = λ h. absurd (omega arith);
            few_past = omega (arith, f.few_past, g.few_past);
            past_end = λ h. dite (dec_le 1 v.past) (λ y. f.past_end y) (λ n. g.past_end (omega arith));
          })
          (λ t. r.each i x t.1)
          (at_set s.views id i u x q.1))
          (at_set vs other i spent x at);
    }
