-- Blanks, one after another from either end.
use Rattle.std.proofs.Common.{◌≡◌, ℕ, suc, ◌==◌, Bool, true, false, ◌||◌, ◌&&◌, if◌then◌else◌, nat_eq, List, [], ◌∷◌, ◌++◌, length, take, ◌-◌, Option, Some, None, refl, ap, sym, ◌∙◌, arith, ◌<◌}
use Rattle.std.proofs.lemmas.Bool.Decides.{Decides-eqb}
use Rattle.hiera_config.specs.Cuts.{after_prefix, before_suffix, is_blank, trimmed_start, before_blanks, trimmed_end, or_text, without_first_blank, without_last_blank}
use Rattle.hiera_config.proofs.CutLemmas.{suffix_of, has_end}

-- ---- at the front

first_blank : List ℕ → Option (List ℕ)
first_blank [] = None
first_blank (b ∷ bs) = if is_blank b then Some bs else None

and_true : (t : Bool) (bs : List ℕ) → (if (t && true) then Some bs else None) ≡ (if t then Some bs else None)
and_true true bs = refl
and_true false bs = refl

one_off : (b x : ℕ) (bs : List ℕ) → after_prefix (x ∷ []) (b ∷ bs) ≡ (if x == b then Some bs else None)
one_off b x bs = and_true (nat_eq x b) bs

joined_tests : (p q r s : Bool) (bs : List ℕ)
    → or_text (if p then Some bs else None)
    (or_text (if q then Some bs else None) (or_text (if r then Some bs else None) (if s then Some bs else None)))
    ≡ (if (p || (q || (r || s))) then Some bs else None)
joined_tests true q r s bs = refl
joined_tests false true r s bs = refl
joined_tests false false true s bs = refl
joined_tests false false false true bs = refl
joined_tests false false false false bs = refl

first_blank_is : (t : List ℕ) → without_first_blank t ≡ first_blank t
unfolding first_blank
first_blank_is [] = refl
first_blank_is (b ∷ bs) =
    rw (one_off b 32 bs, one_off b 9 bs, one_off b 13 bs, one_off b 10 bs)
    (joined_tests (32 == b) (9 == b) (13 == b) (10 == b) bs)

pub start_more : (t r : List ℕ) → Some r ≡ without_first_blank t → trimmed_start t ≡ trimmed_start r
unfolding first_blank trimmed_start
start_more [] r h = absurd (cc (h, first_blank_is []))
start_more (b ∷ bs) r h =
    elim (is_blank b) as (λ t. Some r ≡ (if t then Some bs else None)
    → (if t then trimmed_start bs else b ∷ bs) ≡ trimmed_start r) [
      | true ↦ λ e. let same : r ≡ bs = cc e in ap trimmed_start (sym same)
      | false ↦ λ e. absurd (cc e)
    ] (h ∙ first_blank_is (b ∷ bs))

pub start_end : (t : List ℕ) → None ≡ without_first_blank t → trimmed_start t ≡ t
unfolding first_blank trimmed_start
start_end [] h = refl
start_end (b ∷ bs) h =
    elim (is_blank b) as (λ t. None ≡ (if t then Some bs else None)
    → (if t then trimmed_start bs else b ∷ bs) ≡ b ∷ bs) [
      | true ↦ λ e. absurd (cc e)
      | false ↦ λ e. refl
    ] (h ∙ first_blank_is (b ∷ bs))

pub start_shorter : (t r : List ℕ) → Some r ≡ without_first_blank t → length r < length t
unfolding first_blank
start_shorter [] r h = absurd (cc (h, first_blank_is []))
start_shorter (b ∷ bs) r h =
    elim (is_blank b) as (λ t. Some r ≡ (if t then Some bs else None) → length r < length (b ∷ bs)) [
      | true ↦ λ e. let same : r ≡ bs = cc e in omega (arith, ap length same)
      | false ↦ λ e. absurd (cc e)
    ] (h ∙ first_blank_is (b ∷ bs))

-- ---- at the end

blank_alone : (x : ℕ) → is_blank x ≡ true → trimmed_end (x ∷ []) ≡ []
unfolding trimmed_end
blank_alone x h = rw h refl

blank_behind : (t : List ℕ) (x : ℕ) → is_blank x ≡ true → trimmed_end (t ++ x ∷ []) ≡ trimmed_end t
unfolding trimmed_end
blank_behind [] x h = blank_alone x h
blank_behind (b ∷ bs) x h = ap (before_blanks b) (blank_behind bs x h)

length-more : (t : List ℕ) (x : ℕ) → length (t ++ x ∷ []) ≡ suc (length t)
length-more [] x = refl
length-more (b ∷ bs) x = ap suc (length-more bs x)

-- one of four marks is taken off
module _ {P : List ℕ → Type 0} (t : List ℕ)
    (each : (x : ℕ) (r : List ℕ) → is_blank x ≡ true → t ≡ r ++ x ∷ [] → P r) where
  by_last : (r : List ℕ) → Some r ≡ without_last_blank t → P r
  by_last r h = first (before_suffix (32 ∷ []) t) refl h where
    fourth : (o : Option (List ℕ)) → o ≡ before_suffix (10 ∷ []) t → Some r ≡ o → P r
    fourth o is h = each 10 r refl (suffix_of t (10 ∷ []) r (h ∙ is))

    third : (o : Option (List ℕ)) → o ≡ before_suffix (13 ∷ []) t → Some r ≡ or_text o (before_suffix (10 ∷ []) t)
        → P r
    third None is h = fourth (before_suffix (10 ∷ []) t) refl h
    third (Some u) is h = each 13 r refl (suffix_of t (13 ∷ []) r (h ∙ is))

    second : (o : Option (List ℕ)) → o ≡ before_suffix (9 ∷ []) t
        → Some r ≡ or_text o (or_text (before_suffix (13 ∷ []) t) (before_suffix (10 ∷ []) t)) → P r
    second None is h = third (before_suffix (13 ∷ []) t) refl h
    second (Some u) is h = each 9 r refl (suffix_of t (9 ∷ []) r (h ∙ is))

    first : (o : Option (List ℕ)) → o ≡ before_suffix (32 ∷ []) t
        → Some r ≡ or_text o (or_text (before_suffix (9 ∷ []) t)
        (or_text (before_suffix (13 ∷ []) t) (before_suffix (10 ∷ []) t))) → P r
    first None is h = second (before_suffix (9 ∷ []) t) refl h
    first (Some u) is h = each 32 r refl (suffix_of t (32 ∷ []) r (h ∙ is))

pub end_more : (t r : List ℕ) → Some r ≡ without_last_blank t → trimmed_end t ≡ trimmed_end r
end_more t =
    by_last {P = λ r. trimmed_end t ≡ trimmed_end r} t (λ x r blank is. ap trimmed_end is ∙ blank_behind r x blank)

pub end_shorter : (t r : List ℕ) → Some r ≡ without_last_blank t → length r < length t
end_shorter t = by_last {P = λ r. length r < length t} t (λ x r blank is. omega (arith, ap length is, length-more r x))

-- a text that ends with no blank
unblanked : (t : List ℕ) → ((x : ℕ) (r : List ℕ) → is_blank x ≡ true → t ≡ r ++ x ∷ [] → ⊥) → trimmed_end t ≡ t
unfolding trimmed_end
unblanked [] never = refl
unblanked (b ∷ []) never =
    elim (is_blank b) as (λ t. is_blank b ≡ t → (if t then [] else b ∷ []) ≡ b ∷ []) [
      | true ↦ λ e. absurd (never b [] e refl)
      | false ↦ λ e. refl
    ] refl
unblanked (b ∷ c ∷ cs) never =
    ap (before_blanks b) (unblanked (c ∷ cs) (λ x r blank is. never x (b ∷ r) blank (ap (λ (l : List ℕ). b ∷ l) is)))

found_at_end : (t r : List ℕ) (x : ℕ) → t ≡ r ++ x ∷ [] → before_suffix (x ∷ []) t ≡ Some (take (length t - 1) t)
found_at_end t r x is = rw (has_end t (x ∷ []) r is) refl

not_none : (o : Option (List ℕ)) (u : List ℕ) → o ≡ Some u → None ≡ o → ⊥
not_none o u is none = absurd (cc (is, none))

none_first : (o p : Option (List ℕ)) → None ≡ or_text o p → None ≡ o
none_first None p h = refl
none_first (Some u) p h = absurd (cc h)

none_rest : (o p : Option (List ℕ)) → None ≡ or_text o p → None ≡ p
none_rest None p h = h
none_rest (Some u) p h = absurd (cc h)

blank_there : (t r : List ℕ) (x y : ℕ) → t ≡ r ++ x ∷ [] → (y == x) ≡ true → None ≡ before_suffix (y ∷ []) t → ⊥
blank_there t r x y is same none =
    let e : x ≡ y = sym ((Decides-eqb y x).0 same) in
    not_none _ _ (found_at_end t r y (is ∙ ap (λ z. r ++ z ∷ []) e)) none

never_blank : (t r : List ℕ) (x : ℕ) → t ≡ r ++ x ∷ [] → (p q s u : Bool) → (32 == x) ≡ p → (9 == x) ≡ q
    → (13 == x) ≡ s → (10 == x) ≡ u → (p || (q || (s || u))) ≡ true
    → None ≡ before_suffix (32 ∷ []) t → None ≡ before_suffix (9 ∷ []) t → None ≡ before_suffix (13 ∷ []) t
    → None ≡ before_suffix (10 ∷ []) t → ⊥
never_blank t r x is true q s u a b c d h n1 n2 n3 n4 = blank_there t r x 32 is a n1
never_blank t r x is false true s u a b c d h n1 n2 n3 n4 = blank_there t r x 9 is b n2
never_blank t r x is false false true u a b c d h n1 n2 n3 n4 = blank_there t r x 13 is c n3
never_blank t r x is false false false true a b c d h n1 n2 n3 n4 = blank_there t r x 10 is d n4
never_blank t r x is false false false false a b c d h n1 n2 n3 n4 = absurd (cc h)

pub end_end : (t : List ℕ) → None ≡ without_last_blank t → trimmed_end t ≡ t
end_end t h =
    let n1 = none_first (before_suffix (32 ∷ []) t) _ h in
    let h2 = none_rest (before_suffix (32 ∷ []) t) _ h in
    let n2 = none_first (before_suffix (9 ∷ []) t) _ h2 in
    let h3 = none_rest (before_suffix (9 ∷ []) t) _ h2 in
    let n3 = none_first (before_suffix (13 ∷ []) t) _ h3 in
    let n4 = none_rest (before_suffix (13 ∷ []) t) _ h3 in
    unblanked t (λ x r blank is. never_blank t r x is (32 == x) (9 == x) (13 == x)
    (10 == x) refl refl refl refl blank n1 n2 n3 n4)
