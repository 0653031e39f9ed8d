-- The steps of a look-up.
use Rattle.std.proofs.Common.{◌≡◌, ◌≢◌, ℕ, zero, suc, ◌-◌, ◌<◌, ◌+◌, true, false, List, [], ◌∷◌, ◌++◌, length, drop, get_or, Option, Some, Ok, Err, refl, sym, ap, ◌∙◌, arith}
use Rattle.pp_values.specs.declared.fault.What.TheVariants as what
use Rattle.pp_values.specs.Datum.{Datum}
use Rattle.hiera_config.specs.Meant.{go_on}
use Rattle.hiera_merge.specs.declared.merge.Merge.{Merge}
use Rattle.hiera_merge.specs.declared.merge.Merge.TheVariants as by
use Rattle.std.specs.Str.{bytes_eq}
use Rattle.hiera_lookup.specs.declared.asking.Ask.{Ask}
use Rattle.hiera_lookup.specs.Asks.{asks}
use Rattle.hiera_lookup.specs.Filled.{Answer, answer_to, filled}
use Rattle.hiera_lookup.specs.Look.{Looks, is_busy, answer, answers, interpolated, option_for, look, look_within}
use Rattle.hiera_lookup.specs.Options.{options_key, option_in}
use Rattle.hiera_lookup.specs.World.{World}

pub look_busy : (w : World) (n : ℕ) (busy : List (List ℕ)) (of_module : Option (List ℕ)) (key : List ℕ)
    (merge : Option Merge)
    → is_busy busy key ≡ true → look w n busy of_module key merge ≡ Err (what.LookupLoop key)
unfolding look
look_busy w zero busy of_module key merge b = rw b refl
look_busy w (suc n) busy of_module key merge b = rw b refl

pub look_deep : (w : World) (n : ℕ) (busy : List (List ℕ)) (of_module : Option (List ℕ)) (key : List ℕ)
    (merge : Option Merge)
    → is_busy busy key ≡ false → n ≡ 0 → look w n busy of_module key merge ≡ Err what.DepthLimit
unfolding look
look_deep w n busy of_module key merge b h = rw (h, b) refl

pub look_free : (w : World) (n : ℕ) (busy : List (List ℕ)) (of_module : Option (List ℕ)) (key : List ℕ)
    (merge : Option Merge)
    → is_busy busy key ≡ false → n ≢ 0
    → look w n busy of_module key merge ≡ look_within w (look w (n - 1)) (busy ++ key ∷ []) of_module key merge
unfolding look
look_free w zero busy of_module key merge b h = absurd (h refl)
look_free w (suc n) busy of_module key merge b h = let is : suc n - 1 ≡ n = omega arith in rw (b, is) refl

-- ---- the loop over what is asked

pub answers_at : (f : Looks) (busy : List (List ℕ)) (done : List Answer) (asked : List Ask) (i : ℕ) (a : Ask)
    → i < length asked → a ≡ get_or asked i a
    → answers f busy done (drop i asked)
    ≡ go_on (answer f busy a) (λ x. answers f busy (done ++ x ∷ []) (drop (i + 1) asked))
unfolding answers
answers_at f busy done [] i a h at = absurd (omega arith)
answers_at f busy done (b ∷ asked) zero a h at = rw at refl
answers_at f busy done (b ∷ asked) (suc i) a h at =
    let h' : i < length asked = omega arith in
    let e : suc i + 1 ≡ suc (i + 1) = omega arith in
    rw e (answers_at f busy done asked i a h' at)

pub answers_made : (f : Looks) (busy : List (List ℕ)) (done : List Answer) (new : Answer) (asked : List Ask) (i : ℕ)
    (a : Ask) → i < length asked → a ≡ get_or asked i a
    → answer f busy a ≡ Ok new
    → (all : List Answer) → all ≡ done ++ new ∷ []
    → answers f busy all (drop (i + 1) asked) ≡ answers f busy done (drop i asked)
unfolding go_on
answers_made f busy done new asked i a h at made all is =
    ap (λ xs. answers f busy xs (drop (i + 1) asked)) is
    ∙ sym (answers_at f busy done asked i a h at
    ∙ ap (λ o. go_on o (λ x. answers f busy (done ++ x ∷ []) (drop (i + 1) asked))) made)

pub answers_end : (f : Looks) (busy : List (List ℕ)) (done : List Answer) (left : List Ask) → left ≡ []
    → answers f busy done left ≡ Ok done
unfolding answers
answers_end f busy done left is = rw is refl

pub interpolated_by : (w : World) (f : Looks) (busy : List (List ℕ)) (d : Datum) (asked : List Ask) → asked ≡ asks d
    → interpolated w f busy (Some d)
    ≡ go_on (answers f busy [] asked) (λ table. Ok (Some (filled w.reads (answer_to table) d), table))
unfolding interpolated
interpolated_by w f busy d asked is =
    ap (λ xs. go_on (answers f busy [] xs) (λ table. Ok (Some (filled w.reads (answer_to table) d), table))) (sym is)

-- ---- the merge

pub option_hash : (w : World) (f : Looks) (busy : List (List ℕ)) (of_module : Option (List ℕ)) (root : List ℕ)
    → bytes_eq root options_key ≡ true → option_for w f busy of_module root ≡ Ok by.Hash
unfolding option_for
option_hash w f busy of_module root h = rw h refl

pub option_looked : (w : World) (f : Looks) (busy : List (List ℕ)) (of_module : Option (List ℕ)) (root : List ℕ)
    → bytes_eq root options_key ≡ false
    → option_for w f busy of_module root
    ≡ go_on (f busy of_module options_key (Some by.Hash)) (option_in w of_module root)
unfolding option_for
option_looked w f busy of_module root h = rw h refl
