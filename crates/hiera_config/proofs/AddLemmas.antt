-- What was come to, piece by piece.
use Rattle.std.proofs.Common.{◌≡◌, Bor, ℕ, zero, suc, ◌+◌, ◌<◌, List, [], ◌∷◌, ◌++◌, length, drop, get_or, map, None, Some, Result, Ok, Err, refl, sym, ap, subst, ◌∙◌, arith, append_assoc, append-nil}
use Rattle.std.specs.Prelude.{OnOk}
use Rattle.std.proofs.lemmas.List.{map-append}
use Rattle.std.proofs.lemmas.List.Elements.{All-nil, All-push, All-rest}
use Rattle.pp_values.specs.declared.fault.What.{What}
use Rattle.hiera_config.specs.declared.config.Level.{Level}
use Rattle.hiera_config.specs.declared.config.Config.{Config}
use Rattle.hiera_config.specs.declared.reaching.Reached as declared
use Rattle.hiera_config.specs.declared.reaching.Reached.TheVariants as v
use Rattle.hiera_config.specs.declared.refused.Refused.{Refused}
use Rattle.hiera_config.specs.declared.refused.Refused.TheVariants as refused
use Rattle.hiera_config.specs.declared.site_data.DataFile.{DataFile}
use Rattle.hiera_config.specs.Documents.{File, text_at}
use Rattle.hiera_config.specs.Keeping.{IsKept}
use Rattle.hiera_config.specs.Meant.{Meant, go_on, in_turn, MeetsBy}
use Rattle.hiera_config.specs.Planning.{PathIs}
use Rattle.hiera_config.specs.Reached.{Reached, each, file, broken, file_if, file_at, come_to, in_template, in_paths, in_level, in_config, read_from}
use Rattle.hiera_config.specs.Sources.{Source, path_of}
use Rattle.hiera_config.specs.ReachedFiles.{reached_view, reached_views, IsKeptAt, AreKeptAt, Comes, Adds, AddsBroken}
use Rattle.hiera_config.specs.Variables.{Variables}
use Rattle.hiera_config.proofs.PlanLemmas.{plain_path}

abbrev Found : Type 0
Found = List declared.Reached

-- ---- one after another

pub adds_then : (rs ss : List Reached) (a b c : Found) → Adds rs a b → Adds ss b c → Adds (rs ++ ss) a c
adds_then rs ss a b c first next = (
  next.0 ∙ ap (λ x. x ++ ss) first.0 ∙ append_assoc (reached_views a) rs ss,
  λ kept. next.1 (first.1 kept),
)

pub comes_of : (rs : List Reached) (a b : Found) → a ≡ [] → Adds rs a b → Comes rs b
comes_of rs a b none adds = (
  adds.0 ∙ ap (λ x. reached_views x ++ rs) none,
  adds.1 (subst AreKeptAt (sym none) (All-nil IsKeptAt)),
)

pub same_adds : {A E : Type 0} (r : Result A E) (rs ss : List Reached) (a b : Found) → rs ≡ ss
    → OnOk r (Adds ss a b) → OnOk r (Adds rs a b)
same_adds r rs ss a b is adds = subst (λ x. OnOk r (Adds x a b)) (sym is) adds

-- ---- each of a list

module _ {A : Type 0} (f : A → List Reached) where
  -- what was come to so far, with what is left, is all
  abbrev pub Left : List A → ℕ → Found → Found → Type 0
  Left xs i start now =
      (reached_views now ++ each f (drop i xs) ≡ reached_views start ++ each f xs) × (AreKeptAt start → AreKeptAt now)

  each_at : (xs : List A) (i : ℕ) (x : A) → i < length xs → x ≡ get_or xs i x
      → each f (drop i xs) ≡ f x ++ each f (drop (i + 1) xs)
  unfolding each
  each_at [] i x h at = absurd (omega arith)
  each_at (y ∷ xs) zero x h at = rw at refl
  each_at (y ∷ xs) (suc i) x h at =
      let h' : i < length xs = omega arith in
      let e : suc i + 1 ≡ suc (i + 1) = omega arith in
      rw e (each_at xs i x h' at)

  pub one_left : (xs : List A) (i : ℕ) (x : A) (start now new : Found) → i < length xs → x ≡ get_or xs i x
      → Adds (f x) now new → Left xs i start now → Left xs (i + 1) start new
  one_left xs i x start now new h at adds left = (
    ap (λ rs. rs ++ each f (drop (i + 1) xs)) adds.0
        ∙ append_assoc (reached_views now) (f x) (each f (drop (i + 1) xs))
        ∙ ap (λ rs. reached_views now ++ rs) (sym (each_at xs i x h at)) ∙ left.0,
    λ kept. adds.1 (left.1 kept),
  )

  none_left : (xs : List A) → xs ≡ [] → each f xs ≡ []
  unfolding each
  none_left xs is = ap (each f) is

  pub all_left : (xs : List A) (i : ℕ) (start now : Found) → drop i xs ≡ [] → Left xs i start now
      → Adds (each f xs) start now
  all_left xs i start now none left = (
    sym (append-nil (reached_views now))
        ∙ ap (λ rs. reached_views now ++ rs) (sym (none_left (drop i xs) none)) ∙ left.0,
    left.1,
  )

pub each_of : {A B : Type 0} (f : B → List Reached) (of : A → B) (xs : List A)
    → each f (map of xs) ≡ each (λ x. f (of x)) xs
unfolding each
each_of f of [] = refl
each_of f of (x ∷ xs) = ap (λ rs. f (of x) ++ rs) (each_of f of xs)

-- ---- a refusal

pub broken_config : {A E V : Type 0} {shown : V → Config} (levels : Config → List Reached) (r : Result A E) (s : Refused)
    (meant : Meant Config) (a b : Found) → MeetsBy shown (Err s) meant → OnOk r (AddsBroken s a b)
    → OnOk r (Adds (in_config levels meant) a b)
broken_config levels (Err e) s meant a b tells adds = tt
broken_config levels (Ok u) (refused.Fault w) meant a b tells adds =
    subst (λ o. Adds (in_config levels o) a b) (sym (tells.fault w refl)) adds
broken_config levels (Ok u) refused.Memory meant a b tells adds = absurd adds

pub broken_path : {A E V : Type 0} {shown : V → List ℕ} (files : List File) (r : Result A E) (s : Refused)
    (meant : Meant (List ℕ)) (a b : Found) → MeetsBy shown (Err s) meant → OnOk r (AddsBroken s a b)
    → OnOk r (Adds (come_to files meant) a b)
broken_path files (Err e) s meant a b tells adds = tt
broken_path files (Ok u) (refused.Fault w) meant a b tells adds =
    subst (λ o. Adds (come_to files o) a b) (sym (tells.fault w refl)) adds
broken_path files (Ok u) refused.Memory meant a b tells adds = absurd adds

-- ---- one file

pub no_file : (files : List File) (path : List ℕ) (a : Found) → None ≡ text_at path files → Adds (file_at files path) a a
no_file files path a none = (
  sym (append-nil (reached_views a)) ∙ ap (λ o. reached_views a ++ file_if path o) none,
  λ kept. kept,
)

pub one_file : (files : List File) (path : List ℕ) (f : Bor DataFile) (a b : Found)
    → Some f.now.text ≡ text_at path files → IsKept path f.now → b ≡ a ++ v.File path f ∷ []
    → Adds (file_at files path) a b
one_file files path f a b at kept is = (
  ap reached_views is ∙ map-append reached_view a (v.File path f ∷ [])
      ∙ ap (λ d. reached_views a ++ file path d ∷ []) kept.json ∙ ap (λ o. reached_views a ++ file_if path o) at,
  λ all. subst AreKeptAt (sym is) (All-push IsKeptAt a (v.File path f) all kept),
)

pub one_broken : (w : What) (a b : Found) → b ≡ a ++ v.Broken w ∷ [] → Adds (broken w ∷ []) a b
one_broken w a b is = (
  ap reached_views is ∙ map-append reached_view a (v.Broken w ∷ []),
  λ all. subst AreKeptAt (sym is) (All-push IsKeptAt a (v.Broken w) all tt),
)

pub nothing_more : (a : Found) → Adds [] a a
nothing_more a = (sym (append-nil (reached_views a)), λ kept. kept)

-- ---- a level that is found ahead

pub level_comes : (files : List File) (V : Variables) (folder : List ℕ) (level : Level) (path : List ℕ)
    → PathIs folder level path → in_level files V folder level ≡ file_at files path
unfolding each in_template
level_comes files V folder level path is =
    ap (in_paths files V folder level) is.sole
    ∙ append-nil (come_to files (path_of V folder level is.template))
    ∙ ap (come_to files) (plain_path V folder level is.template is.fixed_folder is.fixed_template)
    ∙ ap (file_at files) (sym is.joined)

-- ---- what these have for a key

pub one_refused : (key : List ℕ) (xs rest : Found) (x : declared.Reached) (a : List Source) → xs ≡ x ∷ rest
    → in_turn (read_from key) a (reached_views xs)
    ≡ go_on (read_from key a (reached_view x)) (λ b. in_turn (read_from key) b (reached_views rest))
unfolding in_turn
one_refused key xs rest x a split = ap (λ ys. in_turn (read_from key) a (reached_views ys)) split

pub one_read : (key : List ℕ) (xs rest : Found) (x : declared.Reached) (a b : List Source) (whole : Meant (List Source))
    → xs ≡ x ∷ rest → read_from key a (reached_view x) ≡ Ok b → in_turn (read_from key) a (reached_views xs) ≡ whole
    → in_turn (read_from key) b (reached_views rest) ≡ whole
unfolding go_on
one_read key xs rest x a b whole split made held =
    sym (one_refused key xs rest x a split
    ∙ ap (λ o. go_on o (λ c. in_turn (read_from key) c (reached_views rest))) made) ∙ held

pub rest_kept : (xs rest : Found) (x : declared.Reached) → xs ≡ x ∷ rest → AreKeptAt xs → AreKeptAt rest
rest_kept xs rest x split kept = All-rest IsKeptAt x rest xs split kept
