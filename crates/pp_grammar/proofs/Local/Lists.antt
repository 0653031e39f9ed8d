-- Lists look at the next token alone, however many turns they have.
use Rattle.std.proofs.Common.{◌≡◌, ℕ, zero, suc, ◌+◌, ◌<◌, ◌≤◌, Bool, true, false, if◌then◌else◌, List, [], ◌∷◌, ◌++◌, length, Option, Some, None, Ok, Err, refl, ap, subst, arith}
use Rattle.pp_lexer.specs.declared.kind.Kind.{Kind}
use Rattle.pp_grammar.proofs.Reader.Input.{Input, Outcome, Parser, and_then, ◌>>=◌, pure, kind, eat, turns, more_or_done, repeat_from, repeat, separated_from, separated, separated_some}
use Rattle.pp_grammar.proofs.Local.Steps.{Cut, Falls, Follows, IsLocal, any, if_given, if_true, bind_local, pure_local, refuse_local, peek_local, if_local, eat_local, eat_falls}

-- ---- how many turns there are makes no difference, as long as there are more than tokens

pub same_then : {A B : Type 0} (cost : A → ℕ) (i : Input) (o : Outcome A) (f g : A → Parser B) → Falls cost i o → ((x : A) (j : Input) → length j.left + cost x ≤ length i.left → f x j ≡ g x j) → and_then o f ≡ and_then o g
same_then cost i (Ok p) f g h next = next p.0 p.1 h
same_then cost i (Err e) f g h next = refl

pub same_if : {A : Type 0} (b : Bool) (p p2 q q2 : Parser A) (i : Input) → (b ≡ true → p i ≡ p2 i) → (b ≡ false → q i ≡ q2 i) → (if b then p else q) i ≡ (if b then p2 else q2) i
same_if true p p2 q q2 i yes_same no_same = yes_same refl
same_if false p p2 q q2 i yes_same no_same = no_same refl

pub same_more : {A : Type 0} (found : List A) (x : Option A) (go other : List A → Parser (List A)) (i : Input) → ((y : A) → x ≡ Some y → go (found ++ y ∷ []) i ≡ other (found ++ y ∷ []) i) → more_or_done found go x i ≡ more_or_done found other x i
same_more found None go other i h = refl
same_more found (Some y) go other i h = h y refl

pub repeat_turns : {A : Type 0} (step : Parser (Option A)) (falls : (i : Input) → Falls if_given i (step i)) (n m : ℕ) (found : List A) (i : Input) → length i.left < n → length i.left < m → repeat_from step n found i ≡ repeat_from step m found i
unfolding repeat_from
repeat_turns step falls zero m found i h k = absurd (omega arith)
repeat_turns step falls (suc n) zero found i h k = absurd (omega arith)
repeat_turns step falls (suc n) (suc m) found i h k =
    same_then if_given i (step i) (more_or_done found (repeat_from step n)) (more_or_done found (repeat_from step m)) (falls i)
    (λ x j l. same_more found x (repeat_from step n) (repeat_from step m) j
    (λ y e. let w : if_given x ≡ 1 = ap if_given e in repeat_turns step falls n m (found ++ y ∷ []) j (omega arith) (omega arith)))

abbrev pub behind_item : {A : Type 0} → Kind → List A → (List A → Parser (List A)) → A → Parser (List A)
behind_item separator found go x = eat separator >>= (λ more. if more then go (found ++ x ∷ []) else pure (found ++ x ∷ []))

pub same_behind : {A : Type 0} (separator : Kind) (found : List A) (x : A) (go other : List A → Parser (List A)) (i : Input) → ((j : Input) → length j.left < length i.left → go (found ++ x ∷ []) j ≡ other (found ++ x ∷ []) j) → behind_item separator found go x i ≡ behind_item separator found other x i
same_behind separator found x go other i h =
    same_then if_true i (eat separator i) (λ more. if more then go (found ++ x ∷ []) else pure (found ++ x ∷ [])) (λ more. if more then other (found ++ x ∷ []) else pure (found ++ x ∷ [])) (eat_falls separator i)
    (λ more j l. same_if more (go (found ++ x ∷ [])) (other (found ++ x ∷ [])) (pure (found ++ x ∷ [])) (pure (found ++ x ∷ [])) j (λ e. let w : if_true more ≡ 1 = ap if_true e in h j (omega arith)) (λ e. refl))

pub separated_turns : {A : Type 0} (ends : Option Kind → Bool) (separator : Kind) (item : Parser A) (falls : (i : Input) → Falls any i (item i)) (n m : ℕ) (found : List A) (i : Input)
    → length i.left < n → length i.left < m → separated_from ends separator item n found i ≡ separated_from ends separator item m found i
unfolding separated_from
separated_turns ends separator item falls zero m found i h k = absurd (omega arith)
separated_turns ends separator item falls (suc n) zero found i h k = absurd (omega arith)
separated_turns ends separator item falls (suc n) (suc m) found i h k =
    same_if (ends (kind i)) (pure found) (pure found) (item >>= behind_item separator found (separated_from ends separator item n)) (item >>= behind_item separator found (separated_from ends separator item m)) i
    (λ e. refl)
    (λ e. same_then any i (item i) (behind_item separator found (separated_from ends separator item n)) (behind_item separator found (separated_from ends separator item m)) (falls i)
    (λ x j l. same_behind separator found x (separated_from ends separator item n) (separated_from ends separator item m) j
    (λ w t. separated_turns ends separator item falls n m (found ++ x ∷ []) w (omega arith) (omega arith))))

-- a loop of two readers is local where it is so with equally many turns
pub turns_local : {A : Type 0} {c : Cut} {deepest : Bool} {cost : A → ℕ} {p q : ℕ → Parser A} → ((n : ℕ) → IsLocal c deepest cost (p n) (q n))
    → ((n m : ℕ) (i : Input) → length i.left < n → length i.left < m → p n i ≡ p m i) → ((n m : ℕ) (i : Input) → length i.left < n → length i.left < m → q n i ≡ q m i)
    → IsLocal c deepest cost (λ i. p (turns i) i) (λ i. q (turns i) i)
turns_local {c = c} {p = p} {q = q} F P Q = record {
  falls = λ i. (F (turns i)).falls i;
  falls_too = λ i. (F (turns i)).falls_too i;
  follows = λ s i j h.
      let n = turns i + turns j in
      let e : p n i ≡ p (turns i) i = P n (turns i) i (omega arith) (omega arith) in
      let d : q n j ≡ q (turns j) j = Q n (turns j) j (omega arith) (omega arith) in
      subst (λ (o : Outcome _). Follows c o (q (turns j) j)) e (subst (λ (o : Outcome _). Follows c (p n i) o) d ((F n).follows s i j h));
}

-- ---- the lists

more_local : {A : Type 0} {c : Cut} {deepest : Bool} {go other : List A → Parser (List A)} (found : List A) (x : Option A) → ((more : List A) → IsLocal c deepest any (go more) (other more)) → IsLocal c deepest any (more_or_done found go x) (more_or_done found other x)
more_local found None h = pure_local found
more_local found (Some y) h = h (found ++ y ∷ [])

repeat_from_local : {A : Type 0} {c : Cut} {deepest : Bool} {step other : Parser (Option A)} → IsLocal c deepest if_given step other → (n : ℕ) (found : List A) → IsLocal c deepest any (repeat_from step n found) (repeat_from other n found)
unfolding repeat_from
repeat_from_local S zero found = refuse_local
repeat_from_local S (suc n) found = bind_local S (λ x. more_local found x (repeat_from_local S n))

pub repeat_local : {A : Type 0} {c : Cut} {deepest : Bool} {step other : Parser (Option A)} → IsLocal c deepest if_given step other → IsLocal c deepest any (repeat step) (repeat other)
unfolding repeat
repeat_local {step = step} {other = other} S = turns_local (λ n. repeat_from_local S n []) (λ n m i. repeat_turns step S.falls n m [] i) (λ n m i. repeat_turns other S.falls_too n m [] i)

separated_from_local : {A : Type 0} {c : Cut} {deepest : Bool} {item other : Parser A} (ends : Option Kind → Bool) (separator : Kind) → IsLocal c deepest any item other → (n : ℕ) (found : List A)
    → IsLocal c deepest any (separated_from ends separator item n found) (separated_from ends separator other n found)
unfolding separated_from
separated_from_local ends separator I zero found = refuse_local
separated_from_local ends separator I (suc n) found =
    peek_local (λ next. if_local (ends next) (pure_local found) (bind_local I (λ x. bind_local (eat_local separator) (λ more. if_local more (separated_from_local ends separator I n (found ++ x ∷ [])) (pure_local (found ++ x ∷ []))))))

separated_after_local : {A : Type 0} {c : Cut} {deepest : Bool} {item other : Parser A} (ends : Option Kind → Bool) (separator : Kind) → IsLocal c deepest any item other → (found : List A)
    → IsLocal c deepest any (λ i. separated_from ends separator item (turns i) found i) (λ i. separated_from ends separator other (turns i) found i)
separated_after_local {item = item} {other = other} ends separator I found =
    turns_local (λ n. separated_from_local ends separator I n found) (λ n m i. separated_turns ends separator item I.falls n m found i) (λ n m i. separated_turns ends separator other I.falls_too n m found i)

pub separated_local : {A : Type 0} {c : Cut} {deepest : Bool} {item other : Parser A} (ends : Option Kind → Bool) (separator : Kind) → IsLocal c deepest any item other
    → IsLocal c deepest any (separated ends separator item) (separated ends separator other)
unfolding separated
separated_local ends separator I = separated_after_local ends separator I []

pub separated_some_local : {A : Type 0} {c : Cut} {deepest : Bool} {item other : Parser A} (ends : Option Kind → Bool) (separator : Kind) → IsLocal c deepest any item other
    → IsLocal c deepest any (separated_some ends separator item) (separated_some ends separator other)
unfolding separated_some
separated_some_local ends separator I = bind_local I (λ x. bind_local (eat_local separator) (λ more. if_local more (separated_after_local ends separator I (x ∷ [])) (pure_local _)))
