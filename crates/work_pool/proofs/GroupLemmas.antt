-- Lists place by place, and in runs.
use Rattle.std.proofs.Common.{◌≡◌, ℕ, suc, ◌<◌, List, [], ◌∷◌, ◌++◌, length, get_or, Vec, Result, Ok, Err, IfOk, refl, ap, ap₂, sym, ◌∙◌, subst, subst₂, arith, take, drop, take-append-drop, append_assoc, append-nil}
use Rattle.std.specs.List.{AllZip}
use Rattle.std.specs.declared.alloc.Global.{Global}
use Rattle.work_pool.specs.Groups.{together, gathered, AreOk}

module _ {A B : Type 0} (R : A → B → Type 0) where
  pub zip_append : (xs xs' : List A) (ys ys' : List B) → AllZip R xs ys → AllZip R xs' ys' → AllZip R (xs ++ xs') (ys ++ ys')
  zip_append [] xs' [] ys' h g = g
  zip_append [] xs' (y ∷ ys) ys' h g = absurd h
  zip_append (x ∷ xs) xs' [] ys' h g = absurd h
  zip_append (x ∷ xs) xs' (y ∷ ys) ys' h g = (h.0, zip_append xs xs' ys ys' h.1 g)

  pub zip_push : (xs : List A) (ys : List B) (x : A) (y : B) → AllZip R xs ys → R x y → AllZip R (xs ++ x ∷ []) (ys ++ y ∷ [])
  zip_push xs ys x y h r = zip_append xs (x ∷ []) ys (y ∷ []) h (r, tt)

  -- the places of two lists of one length, each by itself
  pub zips : (xs : List A) (ys : List B) → length ys ≡ length xs → ((i : ℕ) (d : B) → i < length xs → (x : A) × ((e : A) → get_or xs i e ≡ x) × R x (get_or ys i d)) → AllZip R xs ys
  zips [] [] e h = tt
  zips [] (y ∷ ys) e h = absurd (omega arith)
  zips (x ∷ xs) [] e h = absurd (omega arith)
  zips (x ∷ xs) (y ∷ ys) e h =
      let first = h 0 y (omega arith) in
      (subst (λ (a : A). R a y) (sym (first.1 x)) first.2, zips xs ys (omega arith) (λ i d lt. h (suc i) d (omega arith)))

  -- the jobs of all runs in order, and their results
  pub runs_zip : {X : Type 0} (groups : List (Vec A Global)) (parts : List (Result (Vec B Global) X)) → AllZip (λ group part. IfOk part (λ done. AllZip R group.items done.items)) groups parts → AreOk parts
      → AllZip R (together groups) (gathered parts)
  runs_zip [] [] h ok = tt
  runs_zip [] (p ∷ ps) h ok = absurd h
  runs_zip (g ∷ gs) [] h ok = absurd h
  runs_zip (g ∷ gs) (Ok p ∷ ps) h ok = zip_append (together gs) g.items (gathered ps) p.items (runs_zip gs ps h.1 ok) h.0
  runs_zip (g ∷ gs) (Err x ∷ ps) h ok = absurd ok

module _ {A : Type 0} where
  pub together_push : (runs : List (Vec A Global)) (run : Vec A Global) → together (runs ++ run ∷ []) ≡ run.items ++ together runs
  together_push [] run = sym (append-nil run.items)
  together_push (r ∷ rs) run = ap (λ l. l ++ r.items) (together_push rs run) ∙ append_assoc run.items (together rs) r.items

  pub gathered_push : {X : Type 0} (parts : List (Result (Vec A Global) X)) (part : Vec A Global) → gathered (parts ++ Ok part ∷ []) ≡ part.items ++ gathered parts
  gathered_push [] part = sym (append-nil part.items)
  gathered_push (Ok p ∷ ps) part = ap (λ l. l ++ p.items) (gathered_push ps part) ∙ append_assoc part.items (gathered ps) p.items
  gathered_push (Err x ∷ ps) part = gathered_push ps part

  pub ok_push : {X : Type 0} (parts : List (Result (Vec A Global) X)) (part : Vec A Global) → AreOk parts → AreOk (parts ++ Ok part ∷ [])
  ok_push [] part h = tt
  ok_push (Ok p ∷ ps) part h = ok_push ps part h
  ok_push (Err x ∷ ps) part h = absurd h

  -- a run that is cut off goes to the runs
  pub cut : (items front : List A) (start : ℕ) (runs more : List (Vec A Global)) (run : Vec A Global) → front ≡ take start items → run.items ≡ drop start items → more ≡ runs ++ run ∷ [] → front ++ together more ≡ items ++ together runs
  cut items front start runs more run f r m =
      ap (λ l. front ++ together l) m ∙ (ap (λ l. front ++ l) (together_push runs run) ∙ (sym (append_assoc front run.items (together runs)) ∙ ap (λ l. l ++ together runs) (ap₂ (λ x y. x ++ y) f r ∙ take-append-drop start items)))

  pub taken : {X : Type 0} (all more : List A) (parts left : List (Result (Vec A Global) X)) (part : Vec A Global) → parts ≡ left ++ Ok part ∷ [] → more ≡ all ++ part.items → more ++ gathered left ≡ all ++ gathered parts
  taken all more parts left part p m =
      ap (λ l. l ++ gathered left) m ∙ (append_assoc all part.items (gathered left) ∙ (ap (λ l. all ++ l) (sym (gathered_push left part)) ∙ ap (λ l. all ++ gathered l) (sym p)))

  pub ok_taken : {X : Type 0} (parts left : List (Result (Vec A Global) X)) (part : Vec A Global) → parts ≡ left ++ Ok part ∷ [] → AreOk left → AreOk parts
  ok_taken parts left part p h = subst AreOk (sym p) (ok_push left part h)

-- the results of all jobs
pub all_results : {A B X : Type 0} (R : A → B → Type 0) (jobs : List A) (done : List B) (groups : List (Vec A Global)) (parts : List (Result (Vec B Global) X)) → together groups ≡ jobs → done ≡ gathered parts → AreOk parts
    → AllZip (λ group part. IfOk part (λ d. AllZip R group.items d.items)) groups parts → AllZip R jobs done
all_results R jobs done groups parts g d ok h = subst₂ (λ x y. AllZip R x y) g (sym d) (runs_zip R groups parts h ok)

pub if_ok : {A X : Type 0} (P : A → Type 0) (r : Result A X) → ((a : A) → r ≡ Ok a → P a) → IfOk r P
if_ok P (Ok a) h = h a refl
if_ok P (Err x) h = tt
