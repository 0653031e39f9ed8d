-- No more turns are needed on a way over parents than there are definitions: one that was passed is not passed again, or
-- the way goes round.
use Rattle.std.proofs.Common.{◌≡◌, ℕ, zero, suc, ◌+◌, ◌≤◌, Bool, true, false, cond, ◌||◌, List, [], ◌∷◌, length}
use Rattle.std.proofs.Common.{Option, None, Some, refl, ap, sym, ◌∙◌, subst, arith}
use Rattle.std.specs.Cmp.Lexicographic.{bytes_decides}
use Rattle.std.specs.Prelude.{option_and_then}
use Rattle.std.specs.Str.{bytes_eq}
use Rattle.pp_tree.specs.declared.definition.Class.{Class}
use Rattle.pp_tree.specs.declared.table.DefinitionName.{DefinitionName}
use Rattle.res_book.specs.declared.row.Row.{Row}
use Rattle.eval_world.specs.Environment.{Environment}
use Rattle.eval_classes.specs.Above.{parent_named, sources_from}
use Rattle.eval_classes.specs.Definitions.{all_names, class_name, class_source, class_told, comes_to, definition_of}
use Rattle.eval_classes.specs.Definitions.{longest_way, parent_at, parent_of, written_parent}
use Rattle.eval_classes.specs.Listing.{chain_from, class_at, is_declared, or_done, parent_or_done, unless_declared}
use Rattle.eval_classes.specs.Stacks.{Chain, chain_of}
use Rattle.eval_classes.proofs.Behind.{IsBehind, came_back, mark_stays, marked, none_at}
use Rattle.eval_classes.proofs.Passed.{has, has_other, is_named, itself, length_without, passed, without}

true≢false : true ≡ false → ⊥
true≢false is = cc

-- what is left, when one more was passed
less : (k : ℕ) (x : List ℕ) (ks : List DefinitionName) → length ks ≤ suc k → has x ks ≡ true
    → length (without x ks) ≤ k
less k x ks small h = let is = length_without x ks h in omega (arith, is)

none_left : (x : List ℕ) (ks : List DefinitionName) → length ks ≤ zero → has x ks ≡ true → ⊥
none_left x ks small h = let is = length_without x ks h in omega (arith, is)

module _ (m : Environment) where
  -- each class of the site has a name that was passed or is left
  Covers : List (List ℕ) → List DefinitionName → Type 0
  Covers vs ks = (x : List ℕ) (c : Class) → class_told (definition_of m x) ≡ Some c → (passed x vs || has x ks) ≡ true

  all_left : Covers [] (all_names m)
  unfolding Covers
  all_left x c is = is_named m x c is

  one_left : (vs : List (List ℕ)) (ks : List DefinitionName) (x : List ℕ) (c : Class) → Covers vs ks
      → class_told (definition_of m x) ≡ Some c → passed x vs ≡ false → has x ks ≡ true
  unfolding Covers
  one_left vs ks x c covers is new = subst (λ b. (b || has x ks) ≡ true) new (covers x c is)

  still : (p q : Bool) (x y : List ℕ) (ks : List DefinitionName) → bytes_eq y x ≡ p → (q || has y ks) ≡ true
      → ((p || q) || has y (without x ks)) ≡ true
  still true q x y ks e h = refl
  still false true x y ks e h = refl
  still false false x y ks e h = has_other x y ks e h

  covers_on : (vs : List (List ℕ)) (ks : List DefinitionName) (x : List ℕ) → Covers vs ks → Covers (x ∷ vs) (without x ks)
  unfolding Covers
  covers_on vs ks x covers y c is = still (bytes_eq y x) (passed y vs) x y ks refl (covers y c is)

  -- ---- a name that is looked for

  module _ (name : List ℕ) where
    -- the way has led here from each that was passed
    AreBehind : List (List ℕ) → Option (List ℕ) → Type 0
    AreBehind vs at = (v : List ℕ) → passed v vs ≡ true → IsBehind m name (Some v) at

    none_behind : (at : Option (List ℕ)) → AreBehind [] at
    unfolding AreBehind
    none_behind at v h = absurd cc

    behind_by : (b : Bool) (vs : List (List ℕ)) (x v : List ℕ) → AreBehind vs (Some x) → bytes_eq x name ≡ false
        → bytes_eq v x ≡ b → (b || passed v vs) ≡ true → IsBehind m name (Some v) (parent_at m x)
    unfolding AreBehind
    behind_by true vs x v behind other e h = subst (λ y. IsBehind m name (Some y) (parent_at m x))
        (sym ((bytes_decides v x).0 e)) (marked m name x other)
    behind_by false vs x v behind other e h = mark_stays m name (Some v) x (behind v h) other

    behind_on : (vs : List (List ℕ)) (x : List ℕ) → AreBehind vs (Some x) → bytes_eq x name ≡ false
        → AreBehind (x ∷ vs) (parent_at m x)
    unfolding AreBehind
    behind_on vs x behind other v h = behind_by (bytes_eq v x) vs x v behind other refl h

    has_passed : (vs : List (List ℕ)) (x : List ℕ) (n : ℕ) → AreBehind vs (Some x) → passed x vs ≡ true
        → comes_to n m name (Some x) ≡ false
    unfolding AreBehind
    has_passed vs x n behind h = came_back m name x n (behind x h)

    -- Two ways are alike from here on, of so many turns at least.
    Alike : ℕ → Option (List ℕ) → Type 0
    Alike k at = (n o : ℕ) → k ≤ n → k ≤ o → comes_to n m name at ≡ comes_to o m name at

    alike_at_end : (k : ℕ) → Alike k None
    unfolding Alike
    alike_at_end k n o p q = none_at m name n ∙ sym (none_at m name o)

    alike_passed : (k : ℕ) (vs : List (List ℕ)) (x : List ℕ) → AreBehind vs (Some x) → passed x vs ≡ true
        → Alike k (Some x)
    unfolding Alike
    alike_passed k vs x behind h n o p q = has_passed vs x n behind h ∙ sym (has_passed vs x o behind h)

    alike_met : (k : ℕ) (x : List ℕ) → bytes_eq x name ≡ true → Alike (suc k) (Some x)
    unfolding Alike comes_to
    alike_met k x is zero o p q = absurd (omega (arith, p))
    alike_met k x is (suc n) zero p q = absurd (omega (arith, q))
    alike_met k x is (suc n) (suc o) p q = rw is refl

    alike_on : (k : ℕ) (x : List ℕ) → Alike k (parent_at m x) → Alike (suc k) (Some x)
    unfolding Alike comes_to
    alike_on k x rest zero o p q = absurd (omega (arith, p))
    alike_on k x rest (suc n) zero p q = absurd (omega (arith, q))
    alike_on k x rest (suc n) (suc o) p q =
        ap (λ b. bytes_eq x name || b) (rest n o (omega (arith, p)) (omega (arith, q)))

    alike_by_class : (k : ℕ) (x : List ℕ) (o : Option Class) → class_told (definition_of m x) ≡ o
        → ((c : Class) → class_told (definition_of m x) ≡ Some c → Alike k (parent_at m x)) → Alike k (parent_at m x)
    alike_by_class k x None is rest =
        subst (λ o. Alike k (option_and_then written_parent o)) (sym is) (alike_at_end k)
    alike_by_class k x (Some c) is rest = rest c is

    alike_here : (k : ℕ) (vs : List (List ℕ)) (x : List ℕ) (b p : Bool) → AreBehind vs (Some x)
        → bytes_eq x name ≡ b → passed x vs ≡ p
        → (bytes_eq x name ≡ false → passed x vs ≡ false → Alike k (parent_at m x)) → Alike (suc k) (Some x)
    alike_here k vs x true p behind e f new = alike_met k x e
    alike_here k vs x false true behind e f new = alike_passed (suc k) vs x behind f
    alike_here k vs x false false behind e f new = alike_on k x (new e f)

    alike : (k : ℕ) (vs : List (List ℕ)) (ks : List DefinitionName) (at : Option (List ℕ)) → length ks ≤ k
        → Covers vs ks → AreBehind vs at → Alike (suc k) at
    alike zero vs ks None small covers behind = alike_at_end 1
    alike zero vs ks (Some x) small covers behind =
        alike_here zero vs x (bytes_eq x name) (passed x vs) behind refl refl (λ e f.
        alike_by_class zero x (class_told (definition_of m x)) refl (λ c is.
        absurd (none_left x ks small (one_left vs ks x c covers is f))))
    alike (suc k) vs ks None small covers behind = alike_at_end (suc (suc k))
    alike (suc k) vs ks (Some x) small covers behind =
        alike_here (suc k) vs x (bytes_eq x name) (passed x vs) behind refl refl (λ e f.
        alike_by_class (suc k) x (class_told (definition_of m x)) refl (λ c is.
        alike k (x ∷ vs) (without x ks) (parent_at m x) (less k x ks small (one_left vs ks x c covers is f))
        (covers_on vs ks x covers) (behind_on vs x behind e)))

    pub comes_alike : (at : Option (List ℕ)) (n : ℕ) → longest_way m ≤ n
        → comes_to n m name at ≡ comes_to (longest_way m) m name at
    unfolding Alike
    comes_alike at n enough =
        alike (length (all_names m)) [] (all_names m) at (omega arith) all_left (none_behind at) n (longest_way m) enough
        (omega arith)

  -- ---- ways without rings

  -- from here the way comes to none that was passed
  Clear : List (List ℕ) → Option (List ℕ) → Type 0
  Clear vs at = (v : List ℕ) → passed v vs ≡ true → comes_to (longest_way m) m v at ≡ false

  clear_first : (at : Option (List ℕ)) → Clear [] at
  unfolding Clear
  clear_first at v h = absurd cc

  met_itself : (x : List ℕ) → comes_to (longest_way m) m x (Some x) ≡ true
  unfolding comes_to
  met_itself x = rw (itself x) refl

  not_by : (b : Bool) (vs : List (List ℕ)) (x : List ℕ) → passed x vs ≡ b → Clear vs (Some x) → passed x vs ≡ false
  unfolding Clear
  not_by false vs x e clear = e
  not_by true vs x e clear = absurd (true≢false (sym (met_itself x) ∙ clear x e))

  not_passed : (vs : List (List ℕ)) (x : List ℕ) → Clear vs (Some x) → passed x vs ≡ false
  not_passed vs x clear = not_by (passed x vs) vs x refl clear

  -- what a class has as its parent, which does not inherit from itself
  chosen : (b : Bool) (o : Option (List ℕ)) (y : List ℕ) → cond b None o ≡ Some y → (b ≡ false) × (o ≡ Some y)
  chosen true o y is = absurd cc
  chosen false o y is = (refl, is)

  parent_is : (x y : List ℕ) (c : Class) → parent_of m x c ≡ Some y
      → (written_parent c ≡ Some y) × (comes_to (longest_way m) m x (Some y) ≡ false)
  unfolding parent_of
  parent_is x y c is =
      let found = chosen (comes_to (longest_way m) m x (written_parent c)) (written_parent c) y is in
      (found.1, subst (λ o. comes_to (longest_way m) m x o ≡ false) found.1 found.0)

  or_false : (b p : Bool) → (b || p) ≡ false → p ≡ false
  or_false true p is = absurd cc
  or_false false p is = is

  step_clear : (v x : List ℕ) → comes_to (longest_way m) m v (Some x) ≡ false
      → comes_to (longest_way m) m v (parent_at m x) ≡ false
  unfolding comes_to
  step_clear v x is = or_false (bytes_eq x v) (comes_to (longest_way m) m v (parent_at m x))
      (comes_alike v (Some x) (suc (longest_way m)) (omega arith) ∙ is)

  clear_by : (b : Bool) (vs : List (List ℕ)) (x y v : List ℕ) → bytes_eq v x ≡ b → Clear vs (Some x)
      → parent_at m x ≡ Some y → comes_to (longest_way m) m x (Some y) ≡ false → (b || passed v vs) ≡ true
      → comes_to (longest_way m) m v (Some y) ≡ false
  unfolding Clear
  clear_by true vs x y v e clear is never h = subst (λ z. comes_to (longest_way m) m z (Some y) ≡ false)
      (sym ((bytes_decides v x).0 e)) never
  clear_by false vs x y v e clear is never h =
      subst (λ o. comes_to (longest_way m) m v o ≡ false) is (step_clear v x (clear v h))

  clear_on : (vs : List (List ℕ)) (x y : List ℕ) → Clear vs (Some x) → parent_at m x ≡ Some y
      → comes_to (longest_way m) m x (Some y) ≡ false → Clear (x ∷ vs) (Some y)
  unfolding Clear
  clear_on vs x y clear is never v h = clear_by (bytes_eq v x) vs x y v refl clear is never h

  -- the class of a name whose way goes on
  of_class : (o : Option Class) (x y : List ℕ) → class_told (definition_of m x) ≡ o
      → option_and_then (parent_of m x) o ≡ Some y → (c : Class) × (class_told (definition_of m x) ≡ Some c)
      × (parent_of m x c ≡ Some y)
  of_class None x y e is = absurd cc
  of_class (Some c) x y e is = (c, e, is)

  parent_at_is : (x y : List ℕ) (c : Class) → class_told (definition_of m x) ≡ Some c → written_parent c ≡ Some y
      → parent_at m x ≡ Some y
  parent_at_is x y c e is = subst (λ o. option_and_then written_parent o ≡ Some y) (sym e) is

  -- ---- sources

  AlikeSources : ℕ → Option (List ℕ) → Type 0
  AlikeSources k at = (n o : ℕ) → k ≤ n → k ≤ o → sources_from n m at ≡ sources_from o m at

  no_sources : (n : ℕ) → sources_from n m None ≡ []
  unfolding sources_from
  no_sources zero = refl
  no_sources (suc n) = refl

  sources_end : (k : ℕ) → AlikeSources k None
  unfolding AlikeSources
  sources_end k n o p q = no_sources n ∙ sym (no_sources o)

  sources_on : (k : ℕ) (x : List ℕ) → AlikeSources k (parent_named m x) → AlikeSources (suc k) (Some x)
  unfolding AlikeSources sources_from
  sources_on k x rest zero o p q = absurd (omega (arith, p))
  sources_on k x rest (suc n) zero p q = absurd (omega (arith, q))
  sources_on k x rest (suc n) (suc o) p q =
      ap (λ ss. class_source x ∷ ss) (rest n o (omega (arith, p)) (omega (arith, q)))

  sources_by_parent : (k : ℕ) (x : List ℕ) (o : Option (List ℕ)) → parent_named m x ≡ o
      → ((y : List ℕ) → parent_named m x ≡ Some y → AlikeSources k (Some y)) → AlikeSources k (parent_named m x)
  sources_by_parent k x None is rest = subst (λ o. AlikeSources k o) (sym is) (sources_end k)
  sources_by_parent k x (Some y) is rest = subst (λ o. AlikeSources k o) (sym is) (rest y is)

  alike_sources : (k : ℕ) (vs : List (List ℕ)) (ks : List DefinitionName) (at : Option (List ℕ)) → length ks ≤ k
      → Covers vs ks → Clear vs at → AlikeSources (suc k) at
  alike_sources zero vs ks None small covers clear = sources_end 1
  alike_sources zero vs ks (Some x) small covers clear =
      sources_on zero x (sources_by_parent zero x (parent_named m x) refl (λ y is.
      let c = of_class (class_told (definition_of m x)) x y refl is in
      absurd (none_left x ks small (one_left vs ks x c.0 covers c.1 (not_passed vs x clear)))))
  alike_sources (suc k) vs ks None small covers clear = sources_end (suc (suc k))
  alike_sources (suc k) vs ks (Some x) small covers clear =
      sources_on (suc k) x (sources_by_parent (suc k) x (parent_named m x) refl (λ y is.
      let c = of_class (class_told (definition_of m x)) x y refl is in
      let p = parent_is x y c.0 c.2 in
      alike_sources k (x ∷ vs) (without x ks) (Some y)
      (less k x ks small (one_left vs ks x c.0 covers c.1 (not_passed vs x clear)))
      (covers_on vs ks x covers) (clear_on vs x y clear (parent_at_is x y c.0 c.1 p.0) p.1)))

  pub sources_alike : (at : Option (List ℕ)) (n : ℕ) → longest_way m ≤ n
      → sources_from n m at ≡ sources_from (longest_way m) m at
  unfolding AlikeSources
  sources_alike at n enough =
      alike_sources (length (all_names m)) [] (all_names m) at (omega arith) all_left (clear_first at) n (longest_way m)
      enough (omega arith)

  -- ---- chains

  module _ (book : List Row) where
    AlikeChains : ℕ → List Class → List ℕ → Class → Type 0
    AlikeChains k before x c =
        (n o : ℕ) → k ≤ n → k ≤ o → chain_from n before x c m book ≡ chain_from o before x c m book

    or_done_alike : (o : Option Class) (done : Chain) (f g : Class → Chain) → ((q : Class) → o ≡ Some q → f q ≡ g q)
        → or_done o done f ≡ or_done o done g
    or_done_alike None done f g rest = refl
    or_done_alike (Some q) done f g rest = rest q refl

    parent_alike : (o : Option (List ℕ)) (done : Chain) (f g : List ℕ → Class → Chain)
        → ((y : List ℕ) (q : Class) → o ≡ Some y → unless_declared book (class_at m (Some y)) ≡ Some q → f y q ≡ g y q)
        → parent_or_done o m book done f ≡ parent_or_done o m book done g
    parent_alike None done f g rest = refl
    parent_alike (Some y) done f g rest =
        or_done_alike (unless_declared book (class_at m (Some y))) done (f y) (g y) (λ q. rest y q refl)

    chains_on : (k : ℕ) (before : List Class) (x : List ℕ) (c : Class)
        → ((y : List ℕ) (q : Class) → parent_of m x c ≡ Some y → unless_declared book (class_at m (Some y)) ≡ Some q
        → AlikeChains k (c ∷ before) y q) → AlikeChains (suc k) before x c
    unfolding AlikeChains chain_from
    chains_on k before x c rest zero o p q = absurd (omega (arith, p))
    chains_on k before x c rest (suc n) zero p q = absurd (omega (arith, q))
    chains_on k before x c rest (suc n) (suc o) p q =
        parent_alike (parent_of m x c) (chain_of c before (parent_of m x c))
        (λ y z. chain_from n (c ∷ before) y z m book) (λ y z. chain_from o (c ∷ before) y z m book)
        (λ y z is there. rest y z is there n o (omega (arith, p)) (omega (arith, q)))

    there_by : (b : Bool) (c q : Class) → cond b None (Some c) ≡ Some q → Some c ≡ Some q
    there_by true c q is = absurd cc
    there_by false c q is = is

    class_there : (o : Option Class) (q : Class) → unless_declared book o ≡ Some q → o ≡ Some q
    class_there None q is = absurd cc
    class_there (Some c) q is = there_by (is_declared (class_name c) book) c q is

    alike_chains : (k : ℕ) (vs : List (List ℕ)) (ks : List DefinitionName) (before : List Class) (x : List ℕ) (c : Class)
        → length ks ≤ k → Covers vs ks → Clear vs (Some x) → class_told (definition_of m x) ≡ Some c
        → AlikeChains k before x c
    alike_chains zero vs ks before x c small covers clear is =
        absurd (none_left x ks small (one_left vs ks x c covers is (not_passed vs x clear)))
    alike_chains (suc k) vs ks before x c small covers clear is = chains_on k before x c (λ y q parent there.
        let p = parent_is x y c parent in
        alike_chains k (x ∷ vs) (without x ks) (c ∷ before) y q
        (less k x ks small (one_left vs ks x c covers is (not_passed vs x clear)))
        (covers_on vs ks x covers) (clear_on vs x y clear (parent_at_is x y c is p.0) p.1)
        (class_there (class_told (definition_of m y)) q there))

    pub chains_alike : (before : List Class) (x : List ℕ) (c : Class) (n : ℕ) → longest_way m ≤ n
        → chain_from n before x c m book ≡ chain_from (longest_way m) before x c m book
    unfolding AlikeChains
    chains_alike before x c n enough = chains_on (length (all_names m)) before x c (λ y q parent there.
        alike_chains (length (all_names m)) [] (all_names m) (c ∷ before) y q (omega arith) all_left (clear_first (Some y))
        (class_there (class_told (definition_of m y)) q there)) n (longest_way m) enough (omega arith)
