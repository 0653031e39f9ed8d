-- The sources of a key are what the files that the levels come to have for it.
use Rattle.std.proofs.Common.{◌≡◌, ℕ, List, [], ◌∷◌, ◌++◌, Option, None, Some, Ok, Err, refl, sym, ap, ◌∙◌}
use Rattle.hiera_config.specs.declared.config.Config.{Config}
use Rattle.hiera_config.specs.declared.config.Level.{Level}
use Rattle.hiera_config.specs.declared.config.LevelPaths.{LevelPaths}
use Rattle.hiera_config.specs.declared.config.LevelPaths.TheVariants as paths
use Rattle.hiera_config.specs.Documents.{File, text_at}
use Rattle.hiera_config.specs.Meant.{Meant, go_on, in_turn}
use Rattle.hiera_config.specs.Reached as come
use Rattle.hiera_config.specs.Reached.{Reached, each, read_from, read_all}
use Rattle.hiera_config.specs.Sources as s
use Rattle.hiera_config.specs.Variables.{Variables, hiding, variable, mapped_values}

-- ---- steps one after another

pub go_same : {A B : Type 0} (o : Meant A) (k l : A → Meant B) → ((a : A) → k a ≡ l a) → go_on o k ≡ go_on o l
unfolding go_on
go_same (Ok a) k l same = same a
go_same (Err f) k l same = refl

go_twice : {A B C : Type 0} (o : Meant A) (k : A → Meant B) (l : B → Meant C)
    → go_on (go_on o k) l ≡ go_on o (λ a. go_on (k a) l)
unfolding go_on
go_twice (Ok a) k l = refl
go_twice (Err f) k l = refl

go_whole : {A : Type 0} (o : Meant A) → o ≡ go_on o (λ a. Ok a)
unfolding go_on
go_whole (Ok a) = refl
go_whole (Err f) = refl

both_turns : {A T : Type 0} (step : A → T → Meant A) (a : A) (xs ys : List T)
    → in_turn step a (xs ++ ys) ≡ go_on (in_turn step a xs) (λ b. in_turn step b ys)
unfolding in_turn go_on
both_turns step a [] ys = refl
both_turns step a (x ∷ xs) ys =
    go_same (step a x) (λ b. in_turn step b (xs ++ ys)) (λ b. go_on (in_turn step b xs) (λ c. in_turn step c ys))
    (λ b. both_turns step b xs ys)
    ∙ sym (go_twice (step a x) (λ b. in_turn step b xs) (λ c. in_turn step c ys))

-- each of these is several steps
turns_each : {A X : Type 0} (step : A → Reached → Meant A) (inner : A → X → Meant A) (f : X → List Reached)
    → ((a : A) (x : X) → inner a x ≡ in_turn step a (f x)) → (a : A) (xs : List X)
    → in_turn inner a xs ≡ in_turn step a (each f xs)
unfolding in_turn each
turns_each step inner f same a [] = refl
turns_each step inner f same a (x ∷ xs) =
    ap (λ o. go_on o (λ b. in_turn inner b xs)) (same a x)
    ∙ go_same (in_turn step a (f x)) (λ b. in_turn inner b xs) (λ b. in_turn step b (each f xs))
    (λ b. turns_each step inner f same b xs)
    ∙ sym (both_turns step a (f x) (each f xs))

module _ (files : List File) (key : List ℕ) where
  -- ---- a file, and a path

  text_read : (found : List s.Source) (path : List ℕ) (o : Option (List ℕ))
      → s.in_text key found path o ≡ in_turn (read_from key) found (come.file_if path o)
  unfolding in_turn
  text_read found path None = refl
  text_read found path (Some text) = go_whole (s.in_text key found path (Some text))

  path_read : (found : List s.Source) (o : Meant (List ℕ))
      → go_on o (s.in_file files key found) ≡ in_turn (read_from key) found (come.come_to files o)
  unfolding in_turn go_on
  path_read found (Ok path) = text_read found path (text_at path files)
  path_read found (Err w) = refl

  template_read : (folder : List ℕ) (level : Level) (v : Variables) (found : List s.Source) (template : List ℕ)
      → s.in_template files key folder level v found template
      ≡ in_turn (read_from key) found (come.in_template files folder level v template)
  unfolding s.in_template come.in_template
  template_read folder level v found template = path_read found (s.path_of v folder level template)

  -- ---- levels

  paths_read : (folder : List ℕ) (v : Variables) (level : Level) (p : LevelPaths) (found : List s.Source)
      → s.in_paths files key folder v level p found
      ≡ in_turn (read_from key) found (come.in_paths files v folder level p)
  unfolding s.in_mapped
  paths_read folder v level (paths.Templates ts) found =
      turns_each (read_from key) (s.in_template files key folder level v) (come.in_template files folder level v)
      (template_read folder level v) found ts
  paths_read folder v level (paths.Mapped name_read name template) found =
      turns_each (read_from key) (s.in_mapped files key folder level v name template)
      (λ d. come.in_template files folder level (hiding name d v) template)
      (λ a d. template_read folder level (hiding name d v) a template) found (mapped_values (variable v name_read))

  level_read : (folder : List ℕ) (v : Variables) (found : List s.Source) (level : Level)
      → s.in_level files key folder v found level
      ≡ in_turn (read_from key) found (come.in_level files v folder level)
  unfolding s.in_level
  level_read folder v found level = paths_read folder v level level.paths found

  levels_read : (folder : List ℕ) (v : Variables) (found : List s.Source) (levels : List Level)
      → s.in_levels files key folder v found levels
      ≡ in_turn (read_from key) found (come.in_levels files v folder levels)
  levels_read folder v found levels =
      turns_each (read_from key) (s.in_level files key folder v) (come.in_level files v folder)
      (λ a l. level_read folder v a l) found levels

  -- ---- layers

  config_read : (folder : List ℕ) (v : Variables) (found : List s.Source) (o : Meant Config)
      → go_on o (λ c. s.in_levels files key folder v found c.levels)
      ≡ in_turn (read_from key) found (come.in_config (λ c. come.in_levels files v folder c.levels) o)
  unfolding in_turn go_on
  config_read folder v found (Ok c) = levels_read folder v found c.levels
  config_read folder v found (Err w) = refl

  layer_read : (v : Variables) (folder : List ℕ) (found : List s.Source)
      → s.in_layer files key v folder found ≡ in_turn (read_from key) found (come.in_layer files v folder)
  unfolding s.in_layer
  layer_read v folder found = config_read folder v found (s.config_in files folder)

  default_read : (folder : List ℕ) (v : Variables) (levels : List Level) (found : List s.Source)
      → s.or_default files key v folder levels found
      ≡ come.or_default key (come.in_levels files v folder levels) found
  default_read folder v levels [] = levels_read folder v [] levels
  default_read folder v levels (x ∷ found) = refl

  module_config_read : (folder : List ℕ) (v : Variables) (found : List s.Source) (o : Meant Config)
      → go_on o (s.in_module_config files key v folder found)
      ≡ go_on (in_turn (read_from key) found (come.in_config (λ c. come.in_levels files v folder c.levels) o))
      (come.or_default key (come.in_config (λ c. come.in_levels files v folder c.default_levels) o))
  unfolding in_turn go_on
  module_config_read folder v found (Ok c) =
      ap (λ o. go_on o (s.or_default files key v folder c.default_levels)) (levels_read folder v found c.levels)
      ∙ go_same (in_turn (read_from key) found (come.in_levels files v folder c.levels))
      (s.or_default files key v folder c.default_levels)
      (come.or_default key (come.in_levels files v folder c.default_levels))
      (default_read folder v c.default_levels)
  module_config_read folder v found (Err w) = refl

  no_default : (found : List s.Source) → Ok found ≡ come.or_default key [] found
  unfolding in_turn
  no_default [] = refl
  no_default (x ∷ found) = refl

  module_read : (v : Variables) (name : Option (List ℕ)) (found : List s.Source)
      → s.in_module files key v name found
      ≡ go_on (in_turn (read_from key) found (come.in_module files v name))
      (come.or_default key (come.reach_default files v name))
  unfolding s.in_module in_turn go_on
  module_read v None found = no_default found
  module_read v (Some name) found =
      module_config_read (s.module_folder name) v found (s.config_in files (s.module_folder name))

  -- ---- all of them

  pub sources_read : (v : Variables) (name : Option (List ℕ))
      → s.sources files v name key ≡ read_all key (come.reach files v name) (come.reach_default files v name)
  sources_read v name =
      let step = read_from key in
      let global = come.in_layer files v s.global_folder in
      let environment = come.in_layer files v [] in
      let own = come.in_module files v name in
      let default = come.or_default key (come.reach_default files v name) in
      ap (λ o. go_on o (λ found. go_on (s.in_layer files key v [] found) (s.in_module files key v name)))
      (layer_read v s.global_folder [])
      ∙ go_same (in_turn step [] global) (λ b. go_on (s.in_layer files key v [] b) (s.in_module files key v name))
      (λ b. go_on (in_turn step b (environment ++ own)) default)
      (λ b. ap (λ o. go_on o (s.in_module files key v name)) (layer_read v [] b)
      ∙ go_same (in_turn step b environment) (s.in_module files key v name) (λ c. go_on (in_turn step c own) default)
      (module_read v name)
      ∙ sym (go_twice (in_turn step b environment) (λ c. in_turn step c own) default)
      ∙ ap (λ o. go_on o default) (sym (both_turns step b environment own)))
      ∙ sym (go_twice (in_turn step [] global) (λ b. in_turn step b (environment ++ own)) default)
      ∙ ap (λ o. go_on o default) (sym (both_turns step [] global (environment ++ own)))

  pub sources_begun : (v : Variables) (name : Option (List ℕ)) (rs : List Reached) (found : List s.Source)
      → rs ≡ come.reach files v name → found ≡ []
      → s.sources files v name key
      ≡ go_on (in_turn (read_from key) found rs) (come.or_default key (come.reach_default files v name))
  sources_begun v name rs found is none =
      sources_read v name
      ∙ ap (λ xs. go_on (in_turn (read_from key) [] xs) (come.or_default key (come.reach_default files v name))) (sym is)
      ∙ ap (λ xs. go_on (in_turn (read_from key) xs rs) (come.or_default key (come.reach_default files v name)))
      (sym none)
