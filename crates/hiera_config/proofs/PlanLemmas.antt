-- Files that are found ahead.
use Rattle.std.proofs.Common.{◌≡◌, Bor, ℕ, zero, suc, ◌+◌, ◌<◌, Bool, true, false, cond, not, Vec, Global, None, Some, Option, List, [], ◌∷◌, ◌++◌, length, get_or, Ok, Err, codes, arith, length-append, refl, sym, ap, subst, ◌∙◌}
use Rattle.std.specs.Prelude.{IfSome, option_map}
use Rattle.pp_values.specs.declared.fault.What.TheVariants as what
use Rattle.serde_json.specs.Data.{Data}
use Rattle.serde_json.specs.Find.{get}
use Rattle.serde_json.specs.Read.{read}
use Rattle.hiera_config.specs.declared.config.Config.{Config}
use Rattle.hiera_config.specs.declared.config.Level.{Level}
use Rattle.hiera_config.specs.declared.plan.FixedFile.{FixedFile}
use Rattle.hiera_config.specs.declared.site_data.DataFile.{DataFile}
use Rattle.hiera_config.specs.Cuts.{cut_at}
use Rattle.hiera_config.specs.Documents.{File, text_at}
use Rattle.hiera_config.specs.Flags.{mark_of, may_have, HasNo}
use Rattle.hiera_config.specs.Keeping.{IsKept}
use Rattle.hiera_config.specs.Meant.{Meant, go_on, in_turn}
use Rattle.hiera_config.specs.Planning.{lacks_by, HasNoneAt, Skips, PathIs, Fits, Planned, PlannedIf, PlannedAt, slot_at}
use Rattle.hiera_config.specs.Sources as s
use Rattle.hiera_config.specs.Variables.{Variables, path_text}
use Rattle.hiera_config.proofs.PathTexts.{text_whole}

-- ---- what is lacking

lacking_text : (key : List ℕ) (found : List s.Source) (path : List ℕ) (o : Option Data) → HasNo key o
    → s.in_document key found path o ≡ Ok found
lacking_text key found path None has = absurd has
lacking_text key found path (Some d) has =
    ap (λ b. cond b (s.in_member found path (get key d)) (Err (what.BadData path))) has.0
    ∙ ap (s.in_member found path) has.1

lacking_at : (key : List ℕ) (found : List s.Source) (path : List ℕ) (o : Option (List ℕ)) → HasNoneAt key o
    → s.in_text key found path o ≡ Ok found
lacking_at key found path None has = refl
lacking_at key found path (Some text) has = lacking_text key found path (read text) has

pub passed_over : (files : List File) (key : List ℕ) (found : List s.Source) (path : List ℕ)
    (flags : Option (Vec Bool Global)) (mark : ℕ) → Skips files path flags → mark ≡ mark_of key
    → lacks_by flags mark ≡ true → s.in_file files key found path ≡ Ok found
passed_over files key found path flags mark skips is lacks =
    lacking_at key found path (text_at path files) (skips key (ap (lacks_by flags) (sym is) ∙ lacks))

-- of a file that is kept
has_none : (path key : List ℕ) (f : DataFile) → IsKept path f → may_have f.flags.items (mark_of key) ≡ false
    → HasNo key (read f.text)
has_none path key f kept lacks = subst (HasNo key) kept.json (kept.flags key lacks)

pub kept_lacks : (files : List File) (key : List ℕ) (found : List s.Source) (path : List ℕ) (f : DataFile)
    → Some f.text ≡ text_at path files → IsKept path f → may_have f.flags.items (mark_of key) ≡ false
    → s.in_file files key found path ≡ Ok found
kept_lacks files key found path f at kept lacks =
    ap (s.in_text key found path) (sym at) ∙ lacking_text key found path (read f.text) (has_none path key f kept lacks)

not_true : (b : Bool) → not b ≡ true → b ≡ false
not_true true is = absurd (cc is)
not_true false is = refl

pub kept_skips : (files : List File) (path : List ℕ) (file : Option (Bor DataFile)) (flags : Option (Vec Bool Global))
    → option_map (λ f. f.now.text) file ≡ text_at path files → IfSome file (λ f. IsKept path f.now)
    → option_map (λ (v : Vec Bool Global). v.items) flags ≡ option_map (λ f. f.now.flags.items) file
    → Skips files path flags
kept_skips files path None None at kept same = λ key lacks. subst (HasNoneAt key) at tt
kept_skips files path None (Some v) at kept same = absurd (cc same)
kept_skips files path (Some f) None at kept same = absurd (cc same)
kept_skips files path (Some f) (Some v) at kept same = λ key lacks.
    let is : v.items ≡ f.now.flags.items = cc same in
    subst (HasNoneAt key) at
    (has_none path key f.now kept
    (ap (λ fs. may_have fs (mark_of key)) (sym is) ∙ not_true (may_have v.items (mark_of key)) lacks))

-- ---- one level

same_go : {A : Type 0} (o : Meant A) → go_on o (λ b. Ok b) ≡ o
unfolding go_on
same_go (Ok x) = refl
same_go (Err f) = refl

plain_text : (v : Variables) (t : List ℕ) → None ≡ cut_at (codes "%{") t → path_text v t ≡ Ok t
plain_text v t plain = text_whole v [] t plain

pub plain_path : (v : Variables) (folder : List ℕ) (level : Level) (t : List ℕ) → None ≡ cut_at (codes "%{") level.folder
    → None ≡ cut_at (codes "%{") t → s.path_of v folder level t ≡ Ok (s.joined_path folder level.folder t)
unfolding go_on
plain_path v folder level t inner plain =
    ap (λ o. go_on o (λ i. go_on (path_text v t) (λ p. Ok (s.joined_path folder i p)))) (plain_text v level.folder inner)
    ∙ ap (λ o. go_on o (λ p. Ok (s.joined_path folder level.folder p))) (plain_text v t plain)

plain_template : (files : List File) (key folder : List ℕ) (level : Level) (v : Variables) (found : List s.Source)
    (t : List ℕ) → None ≡ cut_at (codes "%{") level.folder → None ≡ cut_at (codes "%{") t
    → s.in_template files key folder level v found t ≡ s.in_file files key found (s.joined_path folder level.folder t)
unfolding s.in_template go_on
plain_template files key folder level v found t inner plain =
    ap (λ o. go_on o (s.in_file files key found)) (plain_path v folder level t inner plain)

pub level_is : (files : List File) (key folder : List ℕ) (v : Variables) (found : List s.Source) (level : Level)
    (path : List ℕ) → PathIs folder level path
    → s.in_level files key folder v found level ≡ s.in_file files key found path
unfolding s.in_level in_turn
level_is files key folder v found level path is =
    ap (λ p. s.in_paths files key folder v level p found) is.sole
    ∙ same_go (s.in_template files key folder level v found is.template)
    ∙ plain_template files key folder level v found is.template is.fixed_folder is.fixed_template
    ∙ ap (s.in_file files key found) (sym is.joined)

-- ---- level by level

module _ (files : List File) (folder : List ℕ) where
  pub no_plan : (levels : List Level) → Planned files folder levels []
  no_plan [] = tt
  no_plan (l ∷ ls) = tt

  pub no_plan_at : PlannedAt files folder []
  no_plan_at = λ c is. no_plan c.levels

  pub empty_plan_at : (plan : List (Option FixedFile)) → plan ≡ [] → PlannedAt files folder plan
  empty_plan_at plan is = subst (λ p. PlannedAt files folder p) (sym is) no_plan_at

  pub planned_more : (levels : List Level) (plan : List (Option FixedFile)) (i : ℕ) (l : Level) (p : Option FixedFile)
      → i < length levels → l ≡ get_or levels i l → length plan ≡ i → Fits files folder l p
      → Planned files folder levels plan → Planned files folder levels (plan ++ p ∷ [])
  planned_more [] plan i l p h at long fits planned = tt
  planned_more (m ∷ ms) [] zero l p h at long fits planned =
      (subst (λ x. Fits files folder x p) at fits, no_plan ms)
  planned_more (m ∷ ms) [] (suc i) l p h at long fits planned = absurd (omega (arith, long))
  planned_more (m ∷ ms) (q ∷ plan) zero l p h at long fits planned = absurd (omega (arith, long))
  planned_more (m ∷ ms) (q ∷ plan) (suc i) l p h at long fits planned =
      let h' : i < length ms = omega arith in
      let long' : length plan ≡ i = omega (arith, long) in
      (planned.0, planned_more ms plan i l p h' at long' fits planned.1)

  pub fits_at : (levels : List Level) (plan : List (Option FixedFile)) (i : ℕ) (l : Level) → i < length levels
      → l ≡ get_or levels i l → Planned files folder levels plan → Fits files folder l (slot_at plan i)
  fits_at [] plan i l h at planned = absurd (omega arith)
  fits_at (m ∷ ms) [] i l h at planned = tt
  fits_at (m ∷ ms) (p ∷ plan) zero l h at planned = subst (λ x. Fits files folder x p) (sym at) planned.0
  fits_at (m ∷ ms) (p ∷ plan) (suc i) l h at planned =
      let h' : i < length ms = omega arith in fits_at ms plan i l h' at planned.1

  -- ---- a configuration

  pub absent_at : (plan : List (Option FixedFile)) → None ≡ text_at (s.config_path folder) files → PlannedAt files folder plan
  absent_at plan at = λ c is.
      let same : s.no_levels ≡ c = cc (sym (ap (s.config_at (s.config_path folder)) (sym at)) ∙ is) in
      subst (λ (x : Config). Planned files folder x.levels plan) same tt

  with_config : (path : List ℕ) (o : Option Config) (plan : List (Option FixedFile)) → PlannedIf files folder o plan
      → (c : Config) → s.config_or_bad path o ≡ Ok c → Planned files folder c.levels plan
  with_config path None plan planned c is = absurd (cc is)
  with_config path (Some d) plan planned c is =
      let same : d ≡ c = cc is in subst (λ (x : Config). Planned files folder x.levels plan) same planned

  pub present_at : (path : List ℕ) (f : DataFile) (plan : List (Option FixedFile)) → path ≡ s.config_path folder
      → Some f.text ≡ text_at path files → IsKept path f → PlannedIf files folder f.config plan
      → PlannedAt files folder plan
  present_at path f plan named at kept planned = λ c is.
      with_config path f.config plan planned c
      (ap (s.config_or_bad path) kept.config ∙ ap (s.config_at path) at
      ∙ ap (λ p. s.config_at p (text_at p files)) named ∙ is)

pub one_longer : {A : Type 0} (xs : List A) (x : A) (n : ℕ) → length xs ≡ n → length (xs ++ x ∷ []) ≡ n + 1
one_longer xs x n is = length-append xs (x ∷ []) ∙ ap (λ m. m + 1) is

-- what is lent fits as what it is
pub fits_in : (files : List File) (folder : List ℕ) (level : Level) (o : Option (Bor FixedFile)) (f : Bor FixedFile)
    → o ≡ Some f → Fits files folder level (option_map (λ (g : Bor FixedFile). g.now) o)
    → Fits files folder level (Some f.now)
fits_in files folder level o f is fits =
    subst (λ p. Fits files folder level (option_map (λ (g : Bor FixedFile). g.now) p)) is fits
