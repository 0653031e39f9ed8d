-- The segments of a name, and the paths that they give.
use Rattle.std.proofs.Common.{◌≡◌, ℕ, Bool, true, false, ◌&&◌, ◌==◌, if◌then◌else◌, List, [], ◌∷◌, ◌++◌, length, ◌≤◌, None, refl, ap, sym, ◌∙◌, codes}
use Rattle.std.proofs.lemmas.List.{append_assoc, append-nil}
use Rattle.std.specs.List.{onto_first}
use Rattle.std.specs.Str.Pattern.{LacksTextAt, FindsText, SplitsAroundMatch}
use Rattle.res_core.specs.TagNames.{segments}
use Rattle.res_core.proofs.SegmentLemmas.{segments_whole, segments_split}
use Rattle.eval_classes.specs.Definitions.{below, step_to, within_modules, further_of, first_segment}
use Rattle.eval_classes.specs.Functions.{path_by}

abbrev is_cons : List (List ℕ) → Bool
is_cons [] = false
is_cons (s ∷ ss) = true

onto_cons : (a : ℕ) (ss : List (List ℕ)) → is_cons (onto_first a ss) ≡ true
onto_cons a [] = refl
onto_cons a (s ∷ ss) = refl

cons_if : (b : Bool) (ss ts : List (List ℕ)) → is_cons ts ≡ true → is_cons (if b then [] ∷ ss else ts) ≡ true
cons_if true ss ts h = refl
cons_if false ss ts h = h

-- a name has a first segment
segments_cons : (s : List ℕ) → is_cons (segments s) ≡ true
unfolding segments
segments_cons [] = refl
segments_cons (a ∷ []) = refl
segments_cons (a ∷ b ∷ rest) = cons_if ((a == 58) && (b == 58)) (segments rest) (onto_first a (segments (b ∷ rest)))
    (onto_cons a (segments (b ∷ rest)))

within_cons : (m : List ℕ) (ss : List (List ℕ)) → is_cons ss ≡ true → within_modules (m ∷ ss) ≡ further_of m ss
within_cons m [] h = absurd cc
within_cons m (s ∷ ss) h = refl

-- where the name is cut
pub within_further : (s m rest : List ℕ) → SplitsAroundMatch (FindsText (codes "::")) s m rest →
    within_modules (segments s) ≡ further_of m (segments rest)
within_further s m rest cut = ap within_modules (segments_split s m rest cut) ∙ within_cons m (segments rest) (segments_cons rest)

pub first_cut : (s m rest : List ℕ) → SplitsAroundMatch (FindsText (codes "::")) s m rest →
    first_segment (segments s) ≡ m
first_cut s m rest cut = ap first_segment (segments_split s m rest cut)

-- one segment more
pub below_cut : (s m rest done next : List ℕ) → SplitsAroundMatch (FindsText (codes "::")) s m rest →
    next ≡ done ++ step_to m → (next ++ below (segments rest)) ≡ (done ++ below (segments s))
unfolding below
below_cut s m rest done next cut e =
    ap (λ t. t ++ below (segments rest)) e
    ∙ append_assoc done (step_to m) (below (segments rest))
    ∙ ap (λ t. done ++ below t) (sym (segments_split s m rest cut))

-- the last segment
pub below_whole : (s : List ℕ) → ((i : ℕ) → i ≤ length s → LacksTextAt (codes "::") s i) →
    below (segments s) ≡ step_to s
unfolding below
below_whole s lacks = ap below (segments_whole s lacks) ∙ append-nil (step_to s)

-- three segments or more are no path of a function
none_beyond : (m s : List ℕ) (ss : List (List ℕ)) → is_cons ss ≡ true → path_by (m ∷ s ∷ ss) ≡ None
none_beyond m s [] h = absurd cc
none_beyond m s (t ∷ ts) h = refl

pub no_path : (m s cut rest : List ℕ) → SplitsAroundMatch (FindsText (codes "::")) s cut rest →
    path_by (m ∷ segments s) ≡ None
no_path m s cut rest is =
    ap (λ ss. path_by (m ∷ ss)) (segments_split s cut rest is)
    ∙ none_beyond m cut (segments rest) (segments_cons rest)
