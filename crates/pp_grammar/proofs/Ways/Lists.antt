-- Lists: behind what was read of one there is a way.
use Rattle.std.proofs.Common.{◌≡◌, ℕ, zero, suc, ◌+◌, ◌≤◌, Bool, true, false, not, if◌then◌else◌, List, [], ◌∷◌, ◌++◌, length, Option, Some, None, Ok, Err, refl, sym, ap, subst, ◌∙◌, add-one, arith}
use Rattle.pp_lexer.specs.declared.kind.Kind.{Kind}
use Rattle.pp_lexer.specs.Seen.{Token}
use Rattle.pp_grammar.proofs.Reader.Input.{Input, Outcome, Parser, and_then, ◌>>=◌, pure, kind, kind_at, peek, eat, turns, more_or_done, repeat_from, repeat, separated_from, separated, separated_some}
use Rattle.pp_grammar.specs.Kinds.{is_kind}
use Rattle.pp_grammar.proofs.Local.Steps.{Falls, any, if_given}
use Rattle.pp_grammar.proofs.Local.Lists.{same_then, same_if, same_more, repeat_turns, same_behind, behind_item, separated_turns}
use Rattle.pp_grammar.proofs.Ways.Steps.{Holds, Fresh, Rule, Meets, bind_holds, first, after, pure_goes, refuse_holds, fresh_first}
use Rattle.pp_grammar.proofs.Ways.NextToken.{peek_holds, peek_none, takes, leaves, test_holds, test_goes, test_branch, same_holds, eats, eat_goes, eat_fresh}

-- a set of kinds that may follow whatever is given
abbrev pub always : {A : Type 0} → (Option Kind → Bool) → A → Option Kind → Bool
always S _ next = S next

-- ---- what a step gives, again and again

abbrev pub again : {A : Type 0} → Parser (Option A) → List A → Parser (List A)
again step found i = repeat_from step (turns i) found i

pub again_is : {A : Type 0} (step : Parser (Option A)) (falls : (i : Input) → Falls if_given i (step i)) (found : List A) (i : Input) → (step >>= more_or_done found (again step)) i ≡ again step found i
unfolding repeat_from
again_is step falls found i =
    let e : again step found i ≡ repeat_from step (suc (length i.left)) found i = ap (λ (n : ℕ). repeat_from step n found i) (add-one (length i.left)) in
    same_then if_given i (step i) (more_or_done found (again step)) (more_or_done found (repeat_from step (length i.left))) (falls i)
    (λ x j l. same_more found x (again step) (repeat_from step (length i.left)) j
    (λ y w. let v : if_given x ≡ 1 = ap if_given w in repeat_turns step falls (turns j) (length i.left) (found ++ y ∷ []) j (omega arith) (omega arith))) ∙ sym e

given_none : {A : Type 0} (x : Option A) → if_given x ≡ 0 → x ≡ None
given_none None e = refl
given_none (Some y) e = absurd (omega arith)

module _ {A : Type 0} {S : Option Kind → Bool} (step : ℕ → Parser (Option A)) (falls : (m : ℕ) (i : Input) → Falls if_given i (step m i)) where
  again_fresh : Fresh None (always S) step → (found : List A) → Fresh None (always S) (λ m. again (step m) found)
  again_fresh X found = record {
    way = [];
    begins = refl;
    enough = X.enough;
    found = found;
    reads = λ i r m h e x.
        let t = X.reads i r m h (e ∙ ap (λ (w : List Token). w ++ r) (sym X.begins)) x in
        let l = ap length e in
        let v = ap length t.2 in
        let f : length t.0.left + if_given X.found ≤ length i.left = subst (λ (o : Outcome _). Falls if_given i o) t.1 (falls m i) in
        (t.0, sym (again_is (step m) (falls m) found i) ∙ ap (λ (o : Outcome _). and_then o (more_or_done found (again (step m)))) t.1 ∙ ap (λ (y : Option A). more_or_done found (again (step m)) y t.0) (given_none X.found (omega arith)), t.2);
  }

  pub repeat_fresh : Fresh None (always S) step → Fresh None (always S) (λ m. repeat (step m))
  unfolding repeat
  repeat_fresh X = again_fresh X []

  more_goes : {n : ℕ} (go : List A → Parser (List A)) → ((found : List A) → Rule n None (always S) (go found) (λ m. again (step m) found)) → (found : List A) (x : Option A)
      → Rule n None (always S) (more_or_done found go x) (λ m. more_or_done found (again (step m)) x)
  more_goes go G found None = pure_goes found
  more_goes go G found (Some y) = G (found ++ y ∷ [])

  repeat_holds : {n : ℕ} {p : Parser (Option A)} → Rule n None (always S) p step → (most : ℕ) (found : List A) → Holds n 0 (always S) (repeat_from p most found) (λ m. again (step m) found)
  unfolding repeat_from
  repeat_holds P zero found = refuse_holds
  repeat_holds {p = p} P (suc most) found = same_holds (λ i. refl) (λ m i. again_is (step m) (falls m) found i)
      (bind_holds 0 P.holds (more_goes (repeat_from p most) (λ more. record { holds = repeat_holds P most more; fresh = again_fresh P.fresh more }) found) (λ _. omega arith) (λ _ _ _ e. e))

  pub repeat_goes : {n : ℕ} {p : Parser (Option A)} → Rule n None (always S) p step → Rule n None (always S) (repeat p) (λ m. repeat (step m))
  unfolding repeat
  repeat_goes P = record { holds = record { falls = λ i. (repeat_holds P (turns i) []).falls i; goes = λ i. (repeat_holds P (turns i) []).goes i }; fresh = again_fresh P.fresh [] }

-- ---- items with separators between them

abbrev pub listed : {A : Type 0} → (Option Kind → Bool) → Kind → Parser A → List A → Parser (List A)
listed ends separator item found i = separated_from ends separator item (turns i) found i

abbrev listed_then : {A : Type 0} → (Option Kind → Bool) → Kind → Parser A → List A → (List A → Parser (List A)) → Option Kind → Parser (List A)
listed_then ends separator item found go next = if ends next then pure found else (item >>= behind_item separator found go)

listed_is : {A : Type 0} (ends : Option Kind → Bool) (separator : Kind) (item : Parser A) (falls : (i : Input) → Falls any i (item i)) (found : List A) (i : Input)
    → (peek >>= listed_then ends separator item found (listed ends separator item)) i ≡ listed ends separator item found i
unfolding separated_from
listed_is ends separator item falls found i =
    let n = length i.left in
    let e : listed ends separator item found i ≡ separated_from ends separator item (suc n) found i = ap (λ (t : ℕ). separated_from ends separator item t found i) (add-one n) in
    same_if (ends (kind i)) (pure found) (pure found) (item >>= behind_item separator found (listed ends separator item)) (item >>= behind_item separator found (separated_from ends separator item n)) i
    (λ w. refl)
    (λ w. same_then any i (item i) (behind_item separator found (listed ends separator item)) (behind_item separator found (separated_from ends separator item n)) (falls i)
    (λ x j l. same_behind separator found x (listed ends separator item) (separated_from ends separator item n) j
    (λ v t. separated_turns ends separator item falls (turns v) n (found ++ x ∷ []) v (omega arith) (omega arith)))) ∙ sym e

-- the next token is no separator
abbrev pub Apart : Kind → (Option Kind → Bool) → Type 0
Apart separator S = (next : Option Kind) → S next ≡ true → not (is_kind separator next) ≡ true

pub eaten : {B : Type 0} {S : Option Kind → Bool} (separator : Kind) → Apart separator S → (more : Bool) → Meets {B = B} (eats separator) None (always S) more
eaten separator apart true = λ b next e. refl
eaten separator apart false = λ b next e. apart next e

module _ {A : Type 0} {S I : Option Kind → Bool} (ends : Option Kind → Bool) (separator : Kind) (item : ℕ → Parser A) (falls : (m : ℕ) (i : Input) → Falls any i (item m i))
    (closes : (next : Option Kind) → S next ≡ true → ends next ≡ true) (within_item : (next : Option Kind) → S next ≡ true → I next ≡ true) (apart : Apart separator S) where
  pub listed_fresh : (found : List A) → Fresh None (always S) (λ m. listed ends separator (item m) found)
  unfolding kind
  listed_fresh found = record {
    way = [];
    begins = refl;
    enough = 0;
    found = found;
    reads = λ i r m h e x.
        (i, sym (listed_is ends separator (item m) (falls m) found i) ∙ ap (λ (b : Bool). (if b then pure found else (item m >>= behind_item separator found (listed ends separator (item m)))) i) (closes (kind_at i.left) (ap (λ (ts : List Token). S (kind_at ts)) e ∙ x)), e);
  }

  behind_goes : {n : ℕ} {go : List A → Parser (List A)} → ((found : List A) → Rule n None (always S) (go found) (λ m. listed ends separator (item m) found)) → (found : List A) (x : A)
      → Rule n None (always S) (behind_item separator found go x) (λ m. behind_item separator found (listed ends separator (item m)) x)
  behind_goes G found x = after (eat_goes separator) (λ more. test_goes more (G (found ++ x ∷ [])) (pure_goes (found ++ x ∷ []))) (eaten separator apart)

  listed_holds : {k : Kind} {n : ℕ} {p : Parser A} → Rule n (Some k) (always I) p item → (most : ℕ) (found : List A) → Holds n 0 (always S) (separated_from ends separator p most found) (λ m. listed ends separator (item m) found)
  unfolding separated_from
  listed_holds P zero found = refuse_holds
  listed_holds {p = p} P (suc most) found = same_holds (λ i. refl) (λ m i. listed_is ends separator (item m) (falls m) found i)
      (peek_none {f = listed_then ends separator p found (separated_from ends separator p most)} {g = λ next m. listed_then ends separator (item m) found (listed ends separator (item m)) next} (pure_goes found)
      (λ next. test_branch (ends next) (leaves refl refl) (takes (bind_holds 1 P.holds (behind_goes (λ more. record { holds = listed_holds P most more; fresh = listed_fresh more }) found) (λ _. omega arith) (λ _ _ next e. within_item next e))))
      (λ _ next e m. ap (λ (b : Bool). if b then pure found else (item m >>= behind_item separator found (listed ends separator (item m)))) (closes next e))).holds

  listed_goes : {k : Kind} {n : ℕ} {p : Parser A} → Rule n (Some k) (always I) p item → (found : List A) → Rule n None (always S) (listed ends separator p found) (λ m. listed ends separator (item m) found)
  listed_goes P found = record { holds = record { falls = λ i. (listed_holds P (turns i) found).falls i; goes = λ i. (listed_holds P (turns i) found).goes i }; fresh = listed_fresh found }

  pub separated_goes : {k : Kind} {n : ℕ} {p : Parser A} → Rule n (Some k) (always I) p item → Rule n None (always S) (separated ends separator p) (λ m. separated ends separator (item m))
  unfolding separated
  separated_goes P = listed_goes P []

  pub separated_some_goes : {k : Kind} {n : ℕ} {p : Parser A} → Rule n (Some k) (always I) p item → Rule n (Some k) (always S) (separated_some ends separator p) (λ m. separated_some ends separator (item m))
  unfolding separated_some
  separated_some_goes P = first P (λ x. after (eat_goes separator) (λ more. test_goes more (listed_goes P (x ∷ [])) (pure_goes (x ∷ []))) (eaten separator apart)) (λ _ _ next e. within_item next e)

-- ---- a list and what closes it, which need not be able to end an item

pub same_behind_outcome : {A B : Type 0} (o : Outcome A) (f g : A → Parser B) → ((x : A) (j : Input) → f x j ≡ g x j) → and_then o f ≡ and_then o g
same_behind_outcome (Ok p) f g e = e p.0 p.1
same_behind_outcome (Err x) f g e = refl

pub reassociated : {A B C : Type 0} (o : Outcome A) (f : A → Parser B) (g : B → Parser C) → and_then (and_then o f) g ≡ and_then o (λ x j. and_then (f x j) g)
reassociated (Ok p) f g = refl
reassociated (Err x) f g = refl

abbrev closing_behind : {A B : Type 0} → Kind → List A → (List A → Parser (List A)) → (List A → Parser B) → A → Parser B
closing_behind separator found go close x = eat separator >>= (λ more. if more then (go (found ++ x ∷ []) >>= close) else close (found ++ x ∷ []))

closing_choice : {A B : Type 0} (more : Bool) (p : Parser (List A)) (xs : List A) (close : List A → Parser B) (i : Input) → and_then ((if more then p else pure xs) i) close ≡ (if more then (p >>= close) else close xs) i
closing_choice true p xs close i = refl
closing_choice false p xs close i = refl

closing_is : {A B : Type 0} (b : Bool) (separator : Kind) (item : Parser A) (found : List A) (go : List A → Parser (List A)) (close : List A → Parser B) (i : Input)
    → and_then ((if b then pure found else (item >>= behind_item separator found go)) i) close ≡ (if b then close found else (item >>= closing_behind separator found go close)) i
closing_is true separator item found go close i = refl
closing_is false separator item found go close i =
    reassociated (item i) (behind_item separator found go) close
    ∙ same_behind_outcome (item i) (λ x j. and_then (behind_item separator found go x j) close) (closing_behind separator found go close)
    (λ x j. reassociated (eat separator j) (λ more. if more then go (found ++ x ∷ []) else pure (found ++ x ∷ [])) close
    ∙ same_behind_outcome (eat separator j) (λ more l. and_then ((if more then go (found ++ x ∷ []) else pure (found ++ x ∷ [])) l) close) (λ more. if more then (go (found ++ x ∷ []) >>= close) else close (found ++ x ∷ []))
    (λ more l. closing_choice more (go (found ++ x ∷ [])) (found ++ x ∷ []) close l))

module _ {A B : Type 0} (c : Kind) (ends : Option Kind → Bool) (separator : Kind) (item : ℕ → Parser A) (close : List A → ℕ → Parser B) (falls : (m : ℕ) (i : Input) → Falls any i (item m i))
    (closes : ends (Some c) ≡ true) (is_it : is_kind separator (Some separator) ≡ true) (apart : not (is_kind separator (Some c)) ≡ true) where
  abbrev closing : List A → ℕ → Parser B
  closing found m = listed ends separator (item m) found >>= (λ xs. close xs m)

  closing_fresh : {F : B → Option Kind → Bool} → ((xs : List A) → Fresh (Some c) F (close xs)) → (found : List A) → Fresh (Some c) F (closing found)
  unfolding kind kind_at
  closing_fresh X found = record {
    way = (X found).way;
    begins = (X found).begins;
    enough = (X found).enough;
    found = (X found).found;
    reads = λ i r m h e x.
        let t = (X found).reads i r m h e x in
        let w : ends (kind_at i.left) ≡ true = ap (λ (ts : List Token). ends (kind_at ts)) e ∙ ap (λ (w : List Token). ends (kind_at (w ++ r))) (X found).begins.1 ∙ closes in
        (t.0, ap (λ (o : Outcome _). and_then o (λ xs. close xs m)) (sym (listed_is ends separator (item m) (falls m) found i) ∙ ap (λ (b : Bool). (if b then pure found else (item m >>= behind_item separator found (listed ends separator (item m)))) i) w) ∙ t.1, t.2);
  }

  closing_holds : {k : Kind} {I : Option Kind → Bool} {F : B → Option Kind → Bool} {n : ℕ} {p : Parser A} {g : List A → Parser B} → Rule n (Some k) (always I) p item → ((xs : List A) → Rule n (Some c) F (g xs) (close xs)) → I (Some separator) ≡ true → (most : ℕ) (found : List A)
      → Holds n 1 F (separated_from ends separator p most found >>= g) (closing found)
  unfolding separated_from
  closing_holds P G separates zero found = refuse_holds
  closing_holds {p = p} {g = g} P G separates (suc most) found =
      same_holds (λ i. sym (closing_is (ends (kind i)) separator p found (separated_from ends separator p most) g i))
      (λ m i. sym (closing_is (ends (kind i)) separator (item m) found (listed ends separator (item m)) (λ xs. close xs m) i) ∙ ap (λ (o : Outcome _). and_then o (λ xs. close xs m)) (listed_is ends separator (item m) (falls m) found i))
      (peek_holds {f = λ next. if ends next then g found else (p >>= closing_behind separator found (separated_from ends separator p most) g)} {g = λ next m. if ends next then close found m else (item m >>= closing_behind separator found (listed ends separator (item m)) (λ xs. close xs m))}
      (λ next. test_holds (ends next) (G found).holds (bind_holds 1 P.holds (λ x. record {
        holds = bind_holds 1 (eat_goes separator).holds (λ more. test_goes more (record { holds = closing_holds P G separates most (found ++ x ∷ []); fresh = closing_fresh (λ xs. (G xs).fresh) (found ++ x ∷ []) }) (G (found ++ x ∷ []))) (λ _. omega arith) at_close;
        fresh = fresh_first (eat_fresh separator is_it) (λ more. test_fresh more (closing_fresh (λ xs. (G xs).fresh) (found ++ x ∷ [])) (G (found ++ x ∷ [])).fresh) (λ _. refl);
      }) (λ _. omega arith) (λ _. separates))))
    where
      at_close : (more : Bool) → eats separator more (Some c) ≡ true
      at_close true = refl
      at_close false = apart

      test_fresh : {F : B → Option Kind → Bool} {q q2 : ℕ → Parser B} (b : Bool) → Fresh (Some c) F q → Fresh (Some c) F q2 → Fresh (Some c) F (λ m. if b then q m else q2 m)
      test_fresh true X Y = X
      test_fresh false X Y = Y

  pub closed_goes : {k : Kind} {I : Option Kind → Bool} {F : B → Option Kind → Bool} {n : ℕ} {p : Parser A} {g : List A → Parser B} → Rule n (Some k) (always I) p item → ((xs : List A) → Rule n (Some c) F (g xs) (close xs)) → I (Some separator) ≡ true → Rule n (Some c) F (separated ends separator p >>= g) (λ m. separated ends separator (item m) >>= (λ xs. close xs m))
  unfolding separated
  closed_goes P G separates = record { holds = record { falls = λ i. (closing_holds P G separates (turns i) []).falls i; goes = λ i. (closing_holds P G separates (turns i) []).goes i }; fresh = closing_fresh (λ xs. (G xs).fresh) [] }
