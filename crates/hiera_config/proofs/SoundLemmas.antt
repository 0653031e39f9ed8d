-- Where no value is faulty the sources of a key are told, and the highest is the first in the plans.
use Rattle.std.proofs.Common.{◌≡◌, Bor, ℕ, Bool, true, ◌&&◌, ◌==◌, cond, None, Some, Option, List, [], ◌∷◌, ◌++◌, length, Ok, Err, refl, sym, ap, subst, ◌∙◌, append_assoc, append-nil}
use Rattle.std.specs.Prelude.{ℤ, IfSome, is_some, option_map, option_and_then}
use Rattle.std.specs.List.{list_all}
use Rattle.std.specs.Ordering.{nat_cmp, match_ordering}
use Rattle.std.specs.Cmp.Lexicographic.{slice_cmp}
use Rattle.std.specs.declared.cmp.Ordering.TheVariants.{Less, Equal, Greater}
use Rattle.std.proofs.lemmas.Bool.Decides.{Decides-eqb}
use Rattle.pp_values.specs.Datum.{Datum}
use Rattle.pp_values.specs.declared.fault.What.TheVariants as what
use Rattle.serde_json.specs.Data as j
use Rattle.serde_json.specs.Find.{get, get_member, as_i64}
use Rattle.serde_json.specs.Read.{read}
use Rattle.json_values.specs.FromData.{data_value, item_values, member_values, number_value, both}
use Rattle.json_values.specs.declared.stops.Numbers.TheVariants as numbers
use Rattle.hiera_config.specs.declared.config.Config.{Config}
use Rattle.hiera_config.specs.declared.config.Level.{Level}
use Rattle.hiera_config.specs.declared.plan.FixedFile.{FixedFile}
use Rattle.hiera_config.specs.declared.site_data.DataFile.{DataFile}
use Rattle.hiera_config.specs.Documents.{File, text_at, is_document, strict}
use Rattle.hiera_config.specs.Keeping.{IsKept}
use Rattle.hiera_config.specs.Meant.{go_on, in_turn}
use Rattle.hiera_config.specs.Planning.{Planned, PlannedAt}
use Rattle.hiera_config.specs.Sound.{source_if, had_in, AreSources, is_sound_if, is_sound_slot, is_nothing, sound_by_config, sound_by, SoundPlan, SoundLayer, SoundLayers, SkipsAll, value_in_data, value_in_text, or_else, first_in, first_value, LacksConfig, highest}
use Rattle.hiera_config.specs.SoundData.{is_sound, are_sound_items, are_sound_members, is_sound_document, is_sound_text}
use Rattle.hiera_config.specs.Sources as s
use Rattle.hiera_config.specs.Variables.{Variables}
use Rattle.hiera_config.proofs.PlanLemmas.{level_is}
use Rattle.hiera_config.proofs.Booleans.{both_left, both_right}

-- ---- sound data have a value

all_of : (a b : Bool) → a ≡ true → b ≡ true → (a && b) ≡ true
all_of a b left right = rw (left, right) refl

some_number : (o : Option ℤ) → is_some o ≡ true → is_some (number_value numbers.Strict o) ≡ true
some_number None is = is
some_number (Some z) is = refl

some_map : {A B : Type 0} (f : A → B) (o : Option A) → is_some o ≡ true → is_some (option_map f o) ≡ true
some_map f None is = is
some_map f (Some a) is = refl

some_both : {A B C : Type 0} (f : A → B → C) (o : Option A) (p : Option B) → is_some o ≡ true → is_some p ≡ true
    → is_some (both f o p) ≡ true
some_both f None p first second = first
some_both f (Some a) p first second = some_map (f a) p second

mutual
  has_value : (d : j.Data) → is_sound d ≡ true → is_some (data_value numbers.Strict d) ≡ true
  has_value j.null is = refl
  has_value (j.boolean b) is = refl
  has_value (j.number n) is = some_number (as_i64 n) is
  has_value (j.string t) is = refl
  has_value (j.array ds) is = some_map _ (item_values numbers.Strict ds) (have_items ds is)
  has_value (j.object ms) is = some_map _ (member_values numbers.Strict ms) (have_members ms is)

  have_items : (ds : j.Items) → are_sound_items ds ≡ true → is_some (item_values numbers.Strict ds) ≡ true
  have_items j.no_items is = refl
  have_items (j.item d ds) is =
      some_both _ (data_value numbers.Strict d) (item_values numbers.Strict ds)
      (has_value d (both_left (is_sound d) (are_sound_items ds) is))
      (have_items ds (both_right (is_sound d) (are_sound_items ds) is))

  have_members : (ms : j.Members) → are_sound_members ms ≡ true → is_some (member_values numbers.Strict ms) ≡ true
  have_members j.no_members is = refl
  have_members (j.member k d ms) is =
      some_both _ (data_value numbers.Strict d) (member_values numbers.Strict ms)
      (has_value d (both_left (is_sound d) (are_sound_members ms) is))
      (have_members ms (both_right (is_sound d) (are_sound_members ms) is))

-- so has each of an object's members
sound_member : (ms : j.Members) (key : List ℕ) → are_sound_members ms ≡ true
    → IfSome (get_member key ms) (λ d. is_sound d ≡ true)
sound_member j.no_members key is = tt
sound_member (j.member name d ms) key is =
    let rest = sound_member ms key (both_right (is_sound d) (are_sound_members ms) is) in
    elim (slice_cmp nat_cmp key name) as
    (λ r. IfSome (match_ordering r (get_member key ms) (Some d) (get_member key ms)) (λ e. is_sound e ≡ true)) [
      | Less ↦ rest
      | Equal ↦ both_left (is_sound d) (are_sound_members ms) is
      | Greater ↦ rest
    ]

sound_get : (d : j.Data) (key : List ℕ) → is_sound d ≡ true → IfSome (get key d) (λ e. is_sound e ≡ true)
sound_get j.null key is = tt
sound_get (j.boolean b) key is = tt
sound_get (j.number n) key is = tt
sound_get (j.string t) key is = tt
sound_get (j.array ds) key is = tt
sound_get (j.object ms) key is = sound_member ms key is

-- ---- what a sound file adds to the sources

value_adds : (found : List s.Source) (path : List ℕ) (o : Option Datum) → is_some o ≡ true
    → s.value_or_fault found path o ≡ Ok (found ++ source_if path o)
value_adds found path None is = absurd (cc is)
value_adds found path (Some d) is = refl

member_adds : (found : List s.Source) (path : List ℕ) (o : Option j.Data) → IfSome o (λ d. is_sound d ≡ true)
    → s.in_member found path o ≡ Ok (found ++ source_if path (option_and_then strict o))
member_adds found path None sound = ap Ok (sym (append-nil found))
member_adds found path (Some d) sound = value_adds found path (strict d) (has_value d sound)

document_adds : (key : List ℕ) (found : List s.Source) (path : List ℕ) (o : Option j.Data) → is_sound_document o ≡ true
    → s.in_document key found path o ≡ Ok (found ++ source_if path (value_in_data key o))
document_adds key found path None sound = absurd (cc sound)
document_adds key found path (Some d) sound =
    ap (λ b. cond b (s.in_member found path (get key d)) (Err (what.BadData path)))
    (both_left (is_document d) (is_sound d) sound)
    ∙ member_adds found path (get key d) (sound_get d key (both_right (is_document d) (is_sound d) sound))

text_adds : (key : List ℕ) (found : List s.Source) (path : List ℕ) (o : Option (List ℕ)) → is_sound_text o ≡ true
    → s.in_text key found path o ≡ Ok (found ++ source_if path (value_in_text key o))
text_adds key found path None sound = ap Ok (sym (append-nil found))
text_adds key found path (Some text) sound = document_adds key found path (read text) sound

-- ---- what a sound layer adds

module _ (files : List File) (key : List ℕ) where
  levels_add : (folder : List ℕ) (v : Variables) (ls : List Level) (plan : List (Option FixedFile))
      (found : List s.Source) → SoundPlan files folder ls plan
      → in_turn (s.in_level files key folder v) found ls ≡ Ok (found ++ had_in files key plan)
  unfolding in_turn go_on
  levels_add folder v [] [] found sound = ap Ok (sym (append-nil found))
  levels_add folder v [] (p ∷ plan) found sound = absurd sound
  levels_add folder v (l ∷ ls) [] found sound = absurd sound
  levels_add folder v (l ∷ ls) (None ∷ plan) found sound = absurd sound
  levels_add folder v (l ∷ ls) (Some f ∷ plan) found sound =
      let here = source_if f.path (value_in_text key (text_at f.path files)) in
      ap (λ o. go_on o (λ b. in_turn (s.in_level files key folder v) b ls))
      (level_is files key folder v found l f.path sound.0
      ∙ text_adds key found f.path (text_at f.path files) sound.1.1)
      ∙ levels_add folder v ls plan (found ++ here) sound.2
      ∙ ap Ok (append_assoc found here (had_in files key plan))

  layer_adds : (folder : List ℕ) (v : Variables) (plan : List (Option FixedFile)) (found : List s.Source)
      → SoundLayer files folder plan → s.in_layer files key v folder found ≡ Ok (found ++ had_in files key plan)
  unfolding s.in_layer go_on
  layer_adds folder v plan found sound =
      ap (λ o. go_on o (λ config. s.in_levels files key folder v found config.levels)) sound.there
      ∙ levels_add folder v sound.config.levels plan found sound.sound

  -- ---- a module without a configuration

  no_default : (folder : List ℕ) (v : Variables) (found : List s.Source)
      → s.or_default files key v folder [] found ≡ Ok found
  unfolding in_turn
  no_default folder v [] = refl
  no_default folder v (x ∷ xs) = refl

  no_module : (v : Variables) (name : Option (List ℕ)) (found : List s.Source) → LacksConfig files name
      → s.in_module files key v name found ≡ Ok found
  unfolding s.in_module go_on in_turn
  no_module v None found lacks = refl
  no_module v (Some name) found lacks =
      ap (λ o. go_on (s.config_at (s.config_path (s.module_folder name)) o)
      (s.in_module_config files key v (s.module_folder name) found)) (sym lacks)
      ∙ no_default (s.module_folder name) v found

  -- ---- the highest

  first_of_both : (a b : List s.Source) → first_value (a ++ b) ≡ or_else (first_value a) (first_value b)
  first_of_both [] b = refl
  first_of_both (x ∷ xs) b = refl

  first_if : (path : List ℕ) (o : Option Datum) → first_value (source_if path o) ≡ o
  first_if path None = refl
  first_if path (Some d) = refl

  first_had : (plan : List (Option FixedFile)) → first_value (had_in files key plan) ≡ first_in files key plan
  first_had [] = refl
  first_had (None ∷ plan) = first_had plan
  first_had (Some f ∷ plan) =
      let here = value_in_text key (text_at f.path files) in
      first_of_both (source_if f.path here) (had_in files key plan)
      ∙ ap (λ o. or_else o (first_value (had_in files key plan))) (first_if f.path here)
      ∙ ap (or_else here) (first_had plan)

  all_told : (v : Variables) (name : Option (List ℕ)) (global environment : List (Option FixedFile))
      → SoundLayers files global environment → LacksConfig files name
      → s.sources files v name key ≡ Ok (had_in files key global ++ had_in files key environment)
  unfolding go_on
  all_told v name global environment sound lacks =
      ap (λ o. go_on o (λ found. go_on (s.in_layer files key v [] found) (s.in_module files key v name)))
      (layer_adds s.global_folder v global [] sound.0)
      ∙ ap (λ o. go_on o (s.in_module files key v name)) (layer_adds [] v environment (had_in files key global) sound.1)
      ∙ no_module v name (had_in files key global ++ had_in files key environment) lacks

  pub are_sources : (name : Option (List ℕ)) (global environment : List (Option FixedFile)) (found : List s.Source)
      → SoundLayers files global environment → LacksConfig files name
      → found ≡ had_in files key global ++ had_in files key environment → AreSources files name key found
  are_sources name global environment found sound lacks is = λ v. all_told v name global environment sound lacks ∙ ap Ok (sym is)

  pub is_highest : (v : Variables) (name : Option (List ℕ)) (global environment : List (Option FixedFile))
      (value : Option Datum) → SoundLayers files global environment → LacksConfig files name
      → value ≡ or_else (first_in files key global) (first_in files key environment)
      → highest (s.sources files v name key) ≡ Ok value
  unfolding go_on
  is_highest v name global environment value sound lacks is =
      ap highest (all_told v name global environment sound lacks)
      ∙ ap Ok (first_of_both (had_in files key global) (had_in files key environment)
      ∙ ap (λ o. or_else o (first_value (had_in files key environment))) (first_had global)
      ∙ ap (or_else (first_in files key global)) (first_had environment) ∙ sym is)

-- ---- plans

skips_in : (files : List File) (folder : List ℕ) (ls : List Level) (plan : List (Option FixedFile))
    → SoundPlan files folder ls plan → SkipsAll files plan
skips_in files folder [] [] sound = tt
skips_in files folder [] (p ∷ plan) sound = absurd sound
skips_in files folder (l ∷ ls) [] sound = absurd sound
skips_in files folder (l ∷ ls) (None ∷ plan) sound = absurd sound
skips_in files folder (l ∷ ls) (Some f ∷ plan) sound = (sound.1.0, skips_in files folder ls plan sound.2)

pub skips_all : (files : List File) (folder : List ℕ) (plan : List (Option FixedFile)) → SoundLayer files folder plan
    → SkipsAll files plan
skips_all files folder plan sound = skips_in files folder sound.config.levels plan sound.sound

sound_plan : (files : List File) (folder : List ℕ) (ls : List Level) (plan : List (Option FixedFile))
    → Planned files folder ls plan → length ls ≡ length plan → list_all is_sound_slot plan ≡ true
    → SoundPlan files folder ls plan
sound_plan files folder [] [] planned long sound = tt
sound_plan files folder [] (p ∷ plan) planned long sound = absurd (cc long)
sound_plan files folder (l ∷ ls) [] planned long sound = absurd (cc long)
sound_plan files folder (l ∷ ls) (None ∷ plan) planned long sound = absurd (cc sound)
sound_plan files folder (l ∷ ls) (Some f ∷ plan) planned long sound =
    let long' : length ls ≡ length plan = cc long in (
      planned.0.0,
      (planned.0.1, planned.0.2 (both_left f.is_sound (list_all is_sound_slot plan) sound)),
      sound_plan files folder ls plan planned.1 long' (both_right f.is_sound (list_all is_sound_slot plan) sound),
    )

nothing_is : (plan : List (Option FixedFile)) → is_nothing plan ≡ true → plan ≡ []
nothing_is [] is = refl
nothing_is (p ∷ plan) is = absurd (cc is)

-- the folder's configuration is what its file is
config_is : (files : List File) (folder path : List ℕ) (f : DataFile) (c : Config) → path ≡ s.config_path folder
    → Some f.text ≡ text_at path files → IsKept path f → f.config ≡ Some c → s.config_in files folder ≡ Ok c
config_is files folder path f c named at kept is =
    ap (λ p. s.config_at p (text_at p files)) (sym named)
    ∙ ap (s.config_at path) (sym at) ∙ ap (s.config_or_bad path) (sym kept.config ∙ is)

with_file : (files : List File) (folder path : List ℕ) (plan : List (Option FixedFile)) (f : DataFile)
    (o : Option Config) → path ≡ s.config_path folder → Some f.text ≡ text_at path files → IsKept path f
    → f.config ≡ o → PlannedAt files folder plan → sound_by_config o plan ≡ true → SoundLayer files folder plan
with_file files folder path plan f None named at kept is planned sound = absurd (cc sound)
with_file files folder path plan f (Some c) named at kept is planned sound =
    let there = config_is files folder path f c named at kept is in
    record {
      config = c;
      there = there;
      sound =
          sound_plan files folder c.levels plan (planned c there)
          ((Decides-eqb (length c.levels) (length plan)).0
          (both_left (length c.levels == length plan) (list_all is_sound_slot plan) sound))
          (both_right (length c.levels == length plan) (list_all is_sound_slot plan) sound);
    }

pub sound_at : (files : List File) (folder path : List ℕ) (plan : List (Option FixedFile)) (o : Option (Bor DataFile))
    → path ≡ s.config_path folder → option_map (λ (f : Bor DataFile). f.now.text) o ≡ text_at path files
    → IfSome o (λ f. IsKept path f.now) → PlannedAt files folder plan
    → sound_by (option_map (λ (f : Bor DataFile). f.now) o) plan ≡ true → SoundLayer files folder plan
sound_at files folder path plan None named at kept planned sound = record {
  config = s.no_levels;
  there =
      ap (λ p. s.config_at p (text_at p files)) (sym named) ∙ ap (s.config_at path) (sym at);
  sound = subst (SoundPlan files folder []) (sym (nothing_is plan sound)) tt;
}
sound_at files folder path plan (Some f) named at kept planned sound =
    with_file files folder path plan f.now f.now.config named at kept refl planned sound

-- ---- a file that is kept

pub kept_sound : (files : List File) (path : List ℕ) (o : Option (Bor DataFile))
    → option_map (λ (f : Bor DataFile). f.now.text) o ≡ text_at path files → IfSome o (λ f. IsKept path f.now)
    → is_sound_if (option_map (λ (f : Bor DataFile). f.now) o) ≡ true → is_sound_text (text_at path files) ≡ true
kept_sound files path None at kept sound = ap is_sound_text (sym at)
kept_sound files path (Some f) at kept sound =
    ap is_sound_text (sym at) ∙ ap is_sound_document (sym kept.json) ∙ sym kept.sound ∙ sound
