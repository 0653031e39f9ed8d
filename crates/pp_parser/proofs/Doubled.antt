-- The loop that looks for a key that stands twice.
use Rattle.std.proofs.Common.{◌≡◌, ℕ, ℤ, suc, ◌+◌, ◌<◌, ◌≤◌, Bool, true, false, not, ◌||◌, List, [], ◌∷◌, ◌++◌, length, take, drop, get_or, Option, Some, None, refl, sym, ap, ◌∙◌, Bor, true≢false, ◌⊎◌, inl, inr, arith}
use Rattle.std.proofs.Math.Bool.{or-false, or_assoc}
use Rattle.std.proofs.Math.Seq.{drop-cons, take-suc}
use Rattle.std.proofs.Math.ListN.{drop_of_length-le}
use Rattle.std.specs.Cmp.{int_eq_equiv}
use Rattle.std.specs.Cmp.Lexicographic.{slice_cmp, nat_list_eq_equiv, texts_ties}
use Rattle.std.specs.List.{list_any}
use Rattle.std.specs.BTreeMap.{is_at}
use Rattle.std.specs.BTreeSet.{insert_key}
use Rattle.std.specs.Ordering.{nat_cmp, int_cmp, is_eq, match_ordering}
use Rattle.std.specs.declared.cmp.Ordering.{Ordering}
use Rattle.std.specs.declared.cmp.Ordering.TheVariants.{Less, Equal, Greater}
use Rattle.std.specs.Str.{bytes_eq}
use Rattle.pp_tree.specs.declared.expr.Expr.{Expr}
use Rattle.pp_tree.specs.declared.expr.Pair.{Pair}
use Rattle.pp_tree.specs.declared.collector.Test.TheOpen.{Form-F}
use Rattle.pp_tree.specs.declared.expr.Form.{Form, out-Form, roll-Form, roll-out-Form}
use Rattle.pp_tree.specs.declared.expr.Form as forms
use Rattle.pp_tree.specs.declared.expr.Form.TheVariants as form
use Rattle.pp_tree.specs.Building.{form_of, line_of}
use Rattle.pp_tree.specs.Layers.{FormLayer}
use Rattle.pp_parser.specs.Keys.{Written, text, number, written, written_by, same_written, is_key, doubled_from, doubled_key}

-- whether what a key says is among these texts or numbers
abbrev pub text_order : Bor (List ℕ) → Bor (List ℕ) → Ordering
text_order x y = slice_cmp nat_cmp x.now y.now

abbrev is_text : List ℕ → Bor (List ℕ) → Bool
is_text t x = is_eq (slice_cmp nat_cmp t x.now)

abbrev is_number : ℤ → ℤ → Bool
is_number n m = is_eq (int_cmp n m)

unfoldable pub is_among : List (Bor (List ℕ)) → List ℤ → Option Written → Bool
is_among texts numbers (Some (text t)) = list_any (is_text t) texts
is_among texts numbers (Some (number n)) = list_any (is_number n) numbers
is_among texts numbers None = false

-- the texts and numbers are what the pairs before the place say, and no key of these stands twice
pub record Walked (pairs : List (Pair Expr)) (at : ℕ) (texts : List (Bor (List ℕ))) (numbers : List ℤ) : Type 0 where
  pub keeps : (key : Expr) → is_key key (take at pairs) ≡ is_among texts numbers (written key)
  pub ahead : doubled_from (take at pairs) (drop at pairs) ≡ doubled_key pairs

-- what a key of each form says
module _ (key : Expr) (f : Form) (same : f ≡ form_of key) where
  pub says_number : (n : ℤ) → f ≡ form.Number n → written key ≡ Some (number n)
  unfolding written forms.out-Form denote.Hole.Carrier.out
  says_number n is = ap (λ f. written_by (out-Form f)) (sym same ∙ is)

  pub says_text : (t : List ℕ) → (f ≡ form.Text t) ⊎ (f ≡ form.Name t) → written key ≡ Some (text t)
  unfolding written forms.out-Form denote.Hole.Carrier.out
  says_text t (inl is) = ap (λ f. written_by (out-Form f)) (sym same ∙ is)
  says_text t (inr is) = ap (λ f. written_by (out-Form f)) (sym same ∙ is)

  pub says_none : ((n : ℤ) → f ≡ form.Number n → ⊥) → ((t : List ℕ) → f ≡ form.Text t → ⊥) → ((t : List ℕ) → f ≡ form.Name t → ⊥) → written key ≡ None
  unfolding written roll-Form denote.Hole.Carrier.roll
  says_none no_number no_text no_name = go (out-Form (form_of key)) refl
    where
      rolled : (g : FormLayer) → out-Form (form_of key) ≡ g → f ≡ roll-Form g
      rolled g h = same ∙ sym (roll-out-Form (form_of key)) ∙ ap roll-Form h

      go : (g : FormLayer) → out-Form (form_of key) ≡ g → written_by g ≡ None
      go (Form-F.Number n) h = absurd (no_number n (rolled (Form-F.Number n) h))
      go (Form-F.Text t) h = absurd (no_text t (rolled (Form-F.Text t) h))
      go (Form-F.Name t) h = absurd (no_name t (rolled (Form-F.Name t) h))
      go _ h = refl

-- one more pair
is_key_push : (key : Expr) (ps : List (Pair Expr)) (p : Pair Expr) → is_key key (ps ++ p ∷ []) ≡ (is_key key ps || same_written (written p.key) (written key))
unfolding is_key
is_key_push key [] p = or-false (same_written (written p.key) (written key))
is_key_push key (e ∷ es) p = ap (λ b. same_written (written e.key) (written key) || b) (is_key_push key es p)
    ∙ sym (or_assoc (same_written (written e.key) (written key)) (is_key key es) (same_written (written p.key) (written key)))

-- what passes a test among the keys of a set, when a key comes that was not there
module _ {K : Type 0} (order : K → K → Ordering) (test : K → Bool) (k : K) where
  turned : (b : Bool) (bs : Bool) → (b || bs) ≡ (bs || b)
  turned true true = refl
  turned true false = refl
  turned false true = refl
  turned false false = refl

  at_place : (x : K) (xs : List K) → (list_any (is_at (order k)) xs ≡ false → list_any test (insert_key order xs k) ≡ (list_any test xs || test k))
      → (o : Ordering) → (is_eq o || list_any (is_at (order k)) xs) ≡ false
      → list_any test (match_ordering o (k ∷ x ∷ xs) (x ∷ xs) (x ∷ insert_key order xs k)) ≡ ((test x || list_any test xs) || test k)
  at_place x xs rest Less h = turned (test k) (test x || list_any test xs)
  at_place x xs rest Equal h = absurd (true≢false h)
  at_place x xs rest Greater h = ap (λ b. test x || b) (rest h) ∙ sym (or_assoc (test x) (list_any test xs) (test k))

  list_any-insert_key : (xs : List K) → list_any (is_at (order k)) xs ≡ false → list_any test (insert_key order xs k) ≡ (list_any test xs || test k)
  list_any-insert_key [] absent = turned (test k) false
  list_any-insert_key (x ∷ xs) absent = at_place x xs (list_any-insert_key xs) (order k x) absent

-- one more text, and one more number
same_text : (u t : List ℕ) → is_eq (slice_cmp nat_cmp u t) ≡ bytes_eq t u
same_text u t = sym (texts_ties u t) ∙ nat_list_eq_equiv.symm u t

text_push : (texts : List (Bor (List ℕ))) (numbers : List ℤ) (t : Bor (List ℕ)) → list_any (is_text t.now) texts ≡ false → (w : Option Written)
    → is_among (insert_key text_order texts t) numbers w ≡ (is_among texts numbers w || same_written (Some (text t.now)) w)
unfolding is_among same_written
text_push texts numbers t new (Some (text u)) = list_any-insert_key text_order (is_text u) t texts new
    ∙ ap (λ b. list_any (is_text u) texts || b) (same_text u t.now)
text_push texts numbers t new (Some (number n)) = sym (or-false (list_any (is_number n) numbers))
text_push texts numbers t new None = refl

number_push : (texts : List (Bor (List ℕ))) (numbers : List ℤ) (n : ℤ) → list_any (is_number n) numbers ≡ false → (w : Option Written)
    → is_among texts (insert_key int_cmp numbers n) w ≡ (is_among texts numbers w || same_written (Some (number n)) w)
unfolding is_among same_written
number_push texts numbers n new (Some (number m)) = list_any-insert_key int_cmp (is_number m) n numbers new
    ∙ ap (λ b. list_any (is_number m) numbers || b) (int_eq_equiv.symm m n)
number_push texts numbers n new (Some (text u)) = sym (or-false (list_any (is_text u) texts))
number_push texts numbers n new None = refl

-- a key that says nothing is the same as none
none_push : (texts : List (Bor (List ℕ))) (numbers : List ℤ) (w : Option Written) → is_among texts numbers w ≡ (is_among texts numbers w || same_written None w)
unfolding same_written
none_push texts numbers w = sym (or-false (is_among texts numbers w))

pub walked_start : (pairs : List (Pair Expr)) (texts : List (Bor (List ℕ))) (numbers : List ℤ) → texts ≡ [] → numbers ≡ [] → Walked pairs 0 texts numbers
unfolding is_among is_key doubled_key
walked_start pairs texts numbers no_texts no_numbers = record { keeps = λ key. rw (no_texts, no_numbers) (none (written key)); ahead = refl }
  where
    none : (w : Option Written) → false ≡ is_among [] [] w
    none None = refl
    none (Some (text t)) = refl
    none (Some (number n)) = refl

module _ (pairs : List (Pair Expr)) (at : ℕ) (d : Pair Expr) (texts : List (Bor (List ℕ))) (numbers : List ℤ) (below : at < length pairs) (so_far : Walked pairs at texts numbers) where
  turn : (texts-new : List (Bor (List ℕ))) (numbers-new : List ℤ) → is_among texts numbers (written (get_or pairs at d).key) ≡ false
      → ((w : Option Written) → is_among texts-new numbers-new w ≡ (is_among texts numbers w || same_written (written (get_or pairs at d).key) w))
      → Walked pairs (at + 1) texts-new numbers-new
  unfolding doubled_from
  turn texts-new numbers-new new pushed = record {
    keeps = λ key. ap (is_key key) more ∙ is_key_push key (take at pairs) (get_or pairs at d)
        ∙ ap (λ b. b || same_written (written (get_or pairs at d).key) (written key)) (so_far.keeps key)
        ∙ sym (pushed (written key));
    ahead = sym ahead_now ∙ so_far.ahead;
  }
    where
      more : take (at + 1) pairs ≡ take at pairs ++ get_or pairs at d ∷ []
      more = let next : at + 1 ≡ suc at = omega arith in rw (next, take-suc pairs at d below) refl

      ahead_now : doubled_from (take at pairs) (drop at pairs) ≡ doubled_from (take (at + 1) pairs) (drop (at + 1) pairs)
      ahead_now = let next : at + 1 ≡ suc at = omega arith in rw (next, drop-cons pairs at d below, so_far.keeps (get_or pairs at d).key, new, take-suc pairs at d below) refl

  found : is_among texts numbers (written (get_or pairs at d).key) ≡ true → Some (line_of (get_or pairs at d).key) ≡ doubled_key pairs
  unfolding doubled_from
  found old = (rw (drop-cons pairs at d below, so_far.keeps (get_or pairs at d).key, old) refl) ∙ so_far.ahead

pub doubled_end : (pairs : List (Pair Expr)) (at : ℕ) (texts : List (Bor (List ℕ))) (numbers : List ℤ) → length pairs ≤ at → Walked pairs at texts numbers → None ≡ doubled_key pairs
unfolding doubled_from
doubled_end pairs at texts numbers done so_far = (rw (drop_of_length-le pairs done) refl) ∙ so_far.ahead

-- a turn at a text, at a number and at a key that says neither, where `is_new` tells whether it was inserted
module _ (pairs : List (Pair Expr)) (at : ℕ) (d : Pair Expr) (texts : List (Bor (List ℕ))) (numbers : List ℤ) (below : at < length pairs) (so_far : Walked pairs at texts numbers)
    (is_new : Bool) (texts-new : List (Bor (List ℕ))) (numbers-new : List ℤ) where
  abbrev pub Turns : Type 0
  Turns = (is_new ≡ false → Some (line_of (get_or pairs at d).key) ≡ doubled_key pairs) × (is_new ≡ true → Walked pairs (at + 1) texts-new numbers-new)

  pub text_turns : (t : Bor (List ℕ)) → written (get_or pairs at d).key ≡ Some (text t.now) → is_new ≡ not (list_any (is_text t.now) texts)
      → texts-new ≡ insert_key text_order texts t → numbers-new ≡ numbers → Turns
  unfolding is_among
  text_turns t says tells inserted kept = by (list_any (is_text t.now) texts) refl
    where
      by : (b : Bool) → list_any (is_text t.now) texts ≡ b → Turns
      by true old = (λ no. found pairs at d texts numbers below so_far (rw (says) old), λ yes. absurd (true≢false (sym yes ∙ tells ∙ ap not old)))
      by false new = (
        λ no. absurd (true≢false (sym (tells ∙ ap not new) ∙ no)),
        λ yes. rw (inserted, kept)
            (turn pairs at d texts numbers below so_far (insert_key text_order texts t) numbers (rw (says) new) (λ w. rw (says) (text_push texts numbers t new w))),
      )

  pub number_turns : (n : ℤ) → written (get_or pairs at d).key ≡ Some (number n) → is_new ≡ not (list_any (is_number n) numbers)
      → texts-new ≡ texts → numbers-new ≡ insert_key int_cmp numbers n → Turns
  unfolding is_among
  number_turns n says tells kept inserted = by (list_any (is_number n) numbers) refl
    where
      by : (b : Bool) → list_any (is_number n) numbers ≡ b → Turns
      by true old = (λ no. found pairs at d texts numbers below so_far (rw (says) old), λ yes. absurd (true≢false (sym yes ∙ tells ∙ ap not old)))
      by false new = (
        λ no. absurd (true≢false (sym (tells ∙ ap not new) ∙ no)),
        λ yes. rw (kept, inserted)
            (turn pairs at d texts numbers below so_far texts (insert_key int_cmp numbers n) (rw (says) new) (λ w. rw (says) (number_push texts numbers n new w))),
      )

  pub other_turns : written (get_or pairs at d).key ≡ None → is_new ≡ true → texts-new ≡ texts → numbers-new ≡ numbers → Turns
  unfolding is_among
  other_turns says new texts-kept numbers-kept = (
    λ no. absurd (true≢false (sym new ∙ no)),
    λ yes. rw (texts-kept, numbers-kept)
        (turn pairs at d texts numbers below so_far texts numbers (rw (says) refl) (λ w. rw (says) (none_push texts numbers w))),
  )
