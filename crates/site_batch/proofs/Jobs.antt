-- A job for each share, and what came of all jobs.
use Rattle.std.proofs.Common.{◌≡◌, ℕ, ◌+◌, List, [], ◌∷◌, ◌++◌, map, length, arith, refl, sym, ap, ◌∙◌, subst, append_assoc, append-nil}
use Rattle.std.specs.List.{AllZip}
use Rattle.std.specs.Prelude.{Result, Ok, Err, IfOk, Vec}
use Rattle.std.specs.declared.alloc.Global.{Global}
use Rattle.std.proofs.lemmas.List.{map-append}
use Rattle.site_core.specs.Each.{Each}

module _ {W : Type 0} where
  each-snoc : (P : W → Type 0) (xs : List W) (x : W) → Each P xs → P x → Each P (xs ++ x ∷ [])
  each-snoc P [] x each last = (last, tt)
  each-snoc P (y ∷ xs) x each last = (each.0, each-snoc P xs x each.1 last)

module _ {B : Type 0} where
  pub one_less : (n m : ℕ) (x : B) (xs ys : List B) → n ≡ length ys → m + 1 ≡ n → ys ≡ x ∷ xs → m ≡ length xs
  one_less n m x xs ys count less is = let size = ap length is in omega (arith, count, less, size)

  pub no_items : (n : ℕ) (xs : List B) → n ≡ length xs → n ≡ 0 → xs ≡ []
  no_items n [] count none = refl
  no_items n (x ∷ xs) count none = absurd (omega (arith, count, none))

module _ {W B R : Type 0} where
  -- these jobs are for the first shares, which are idle as the others are, and for these requests
  abbrev pub AreFor : (W → B) → (W → R) → (B → Type 0) → R → List W → List B → List B → Type 0
  AreFor share asked idle requests jobs left all =
      (map share jobs ++ left ≡ all) × Each idle left × Each (λ w. asked w ≡ requests) jobs

  pub jobs_more : (share : W → B) (asked : W → R) (idle : B → Type 0) (requests : R) (jobs now : List W) (job : W) (one : B)
      (left rest all : List B) → now ≡ jobs ++ job ∷ [] → left ≡ one ∷ rest → AreFor share asked idle requests jobs left all →
      share job ≡ one → asked job ≡ requests → AreFor share asked idle requests now rest all
  jobs_more share asked idle requests jobs now job one left rest all now_is left_is are share_is asked_is = (
    ap (λ l. map share l ++ rest) now_is ∙ ap (λ l. l ++ rest) (map-append share jobs (job ∷ []))
        ∙ append_assoc (map share jobs) (share job ∷ []) rest ∙ ap (λ b. map share jobs ++ b ∷ rest) share_is
        ∙ ap (λ l. map share jobs ++ l) (sym left_is) ∙ are.0,
    (subst (Each idle) left_is are.1).1,
    subst (Each (λ w. asked w ≡ requests)) (sym now_is) (each-snoc (λ w. asked w ≡ requests) jobs job are.2 asked_is),
  )

module _ {W B R O : Type 0} where
  -- what is promised of each job is promised of its share
  zipped : (share : W → B) (asked : W → R) (promise : R → B → O → Type 0) (requests : R) (jobs : List W) (outs : List O) →
      Each (λ w. asked w ≡ requests) jobs → AllZip (λ w o. promise (asked w) (share w) o) jobs outs →
      AllZip (promise requests) (map share jobs) outs
  zipped share asked promise requests [] [] each all = all
  zipped share asked promise requests [] (o ∷ outs) each all = all
  zipped share asked promise requests (w ∷ jobs) [] each all = all
  zipped share asked promise requests (w ∷ jobs) (o ∷ outs) each all =
      (subst (λ r. promise r (share w) o) each.0 all.0, zipped share asked promise requests jobs outs each.1 all.1)

  jobs_all : (share : W → B) (asked : W → R) (promise : R → B → O → Type 0) (idle : B → Type 0) (requests : R)
      (jobs : List W) (left all : List B) (outs : List O) → left ≡ [] → AreFor share asked idle requests jobs left all →
      AllZip (λ w o. promise (asked w) (share w) o) jobs outs → AllZip (promise requests) all outs
  jobs_all share asked promise idle requests jobs left all outs none are done =
      subst (λ l. AllZip (promise requests) l outs)
      (sym (append-nil (map share jobs)) ∙ ap (λ l. map share jobs ++ l) (sym none) ∙ are.0)
      (zipped share asked promise requests jobs outs are.2 done)

  -- and where the jobs came back
  pub jobs_came : {E : Type 0} (share : W → B) (asked : W → R) (promise : R → B → O → Type 0) (idle : B → Type 0)
      (requests : R) (jobs : List W) (left all : List B) (r : Result (Vec O Global) E) → left ≡ [] →
      AreFor share asked idle requests jobs left all →
      IfOk r (λ done. AllZip (λ w o. promise (asked w) (share w) o) jobs done.items) →
      IfOk r (λ done. AllZip (promise requests) all done.items)
  jobs_came share asked promise idle requests jobs left all (Ok done) none are came =
      jobs_all share asked promise idle requests jobs left all done.items none are came
  jobs_came share asked promise idle requests jobs left all (Err e) none are came = came
