-- Names that were passed on a way, and those of definitions that are left.
use Rattle.std.proofs.Common.{◌≡◌, ℕ, suc, Bool, true, false, cond, ◌||◌, List, [], ◌∷◌, ◌++◌, length, refl, ap, sym, ◌∙◌}
use Rattle.std.proofs.Common.{Option, None, Some, Result, Ok, Err, map}
use Rattle.std.specs.BTreeMap.{is_at}
use Rattle.std.specs.Cmp.Lexicographic.{bytes_decides}
use Rattle.std.specs.Map.{lookup}
use Rattle.std.specs.Prelude.{option_and_then}
use Rattle.std.specs.Str.{bytes_eq}
use Rattle.pp_tree.specs.Names.{same_name}
use Rattle.pp_tree.specs.Tables.{Entries}
use Rattle.pp_tree.specs.declared.definition.Class.{Class}
use Rattle.pp_tree.specs.declared.definition.Definition.{Definition}
use Rattle.pp_tree.specs.declared.file.File.{File}
use Rattle.pp_tree.specs.declared.manifest_file.ManifestFile.{ManifestFile}
use Rattle.pp_tree.specs.declared.table.DefinitionName.{DefinitionName}
use Rattle.pp_tree.specs.declared.table.DefinitionName.TheVariants.{Code, Function, Node}
use Rattle.pp_values.specs.declared.fault.Fault.{Fault}
use Rattle.eval_world.specs.Environment.{Environment}
use Rattle.eval_classes.specs.Definitions.{all_names, class_by, class_told, defined_by, defined_in, definition_of, file_at, found_in_module, in_module, module_path, names_read, names_within, or_in_module}
use Rattle.pp_values.specs.Rising.{text_cmp}

-- ---- two names

abbrev pub passed : List ℕ → List (List ℕ) → Bool
passed x [] = false
passed x (v ∷ vs) = bytes_eq x v || passed x vs

-- a definition of this name is left
abbrev pub has : List ℕ → List DefinitionName → Bool
has x [] = false
has x (k ∷ ks) = same_name (Code x) k || has x ks

-- the others
abbrev pub without : List ℕ → List DefinitionName → List DefinitionName
without x [] = []
without x (k ∷ ks) = cond (same_name (Code x) k) ks (k ∷ without x ks)

pub itself : (x : List ℕ) → bytes_eq x x ≡ true
itself x = (bytes_decides x x).1 refl

same_as : (x y : List ℕ) (k : DefinitionName) → same_name (Code x) k ≡ true → same_name (Code y) k ≡ true
    → bytes_eq y x ≡ true
same_as x y (Code a) e f = (bytes_decides y x).1 ((bytes_decides y a).0 f ∙ sym ((bytes_decides x a).0 e))
same_as x y (Node a) e f = absurd cc
same_as x y (Function a) e f = absurd cc

-- ---- one less is left

length_by : (b : Bool) (x : List ℕ) (k : DefinitionName) (ks : List DefinitionName) → (b || has x ks) ≡ true
    → (has x ks ≡ true → length ks ≡ suc (length (without x ks)))
    → suc (length ks) ≡ suc (length (cond b ks (k ∷ without x ks)))
length_by true x k ks h rest = refl
length_by false x k ks h rest = ap suc (rest h)

pub length_without : (x : List ℕ) (ks : List DefinitionName) → has x ks ≡ true
    → length ks ≡ suc (length (without x ks))
length_without x [] h = absurd cc
length_without x (k ∷ ks) h = length_by (same_name (Code x) k) x k ks h (length_without x ks)

other_by : (p q : Bool) (x y : List ℕ) (k : DefinitionName) (ks : List DefinitionName)
    → same_name (Code x) k ≡ p → same_name (Code y) k ≡ q → bytes_eq y x ≡ false → (q || has y ks) ≡ true
    → (has y ks ≡ true → has y (without x ks) ≡ true) → has y (cond p ks (k ∷ without x ks)) ≡ true
other_by true true x y k ks e f other h rest = absurd (apart (sym (same_as x y k e f) ∙ other)) where
  apart : true ≡ false → ⊥
  apart is = cc
other_by true false x y k ks e f other h rest = h
other_by false true x y k ks e f other h rest = rw f refl
other_by false false x y k ks e f other h rest = rw f (rest h)

-- another name that was left still is
pub has_other : (x y : List ℕ) (ks : List DefinitionName) → bytes_eq y x ≡ false → has y ks ≡ true
    → has y (without x ks) ≡ true
has_other x y [] other h = absurd cc
has_other x y (k ∷ ks) other h =
    other_by (same_name (Code x) k) (same_name (Code y) k) x y k ks refl refl other h (has_other x y ks other)

-- ---- what the site defines

abbrev keys : Entries → List DefinitionName
keys es = map (λ e. e.0) es

found_by : (b : Bool) (x : List ℕ) (e : DefinitionName × Definition) (es : Entries) (d : Definition)
    → cond b (Some e.1) (lookup (same_name (Code x)) es) ≡ Some d
    → (lookup (same_name (Code x)) es ≡ Some d → has x (keys es) ≡ true) → (b || has x (keys es)) ≡ true
found_by true x e es d is rest = refl
found_by false x e es d is rest = rest is

in_entries : (x : List ℕ) (es : Entries) (d : Definition) → lookup (same_name (Code x)) es ≡ Some d
    → has x (keys es) ≡ true
in_entries x [] d is = absurd cc
in_entries x (e ∷ es) d is = found_by (same_name (Code x) e.0) x e es d is (in_entries x es d)

or_true : (b : Bool) → (b || true) ≡ true
or_true true = refl
or_true false = refl

first_part : (x : List ℕ) (ks ls : List DefinitionName) → has x ks ≡ true → has x (ks ++ ls) ≡ true
first_part x [] ls h = absurd cc
first_part x (k ∷ ks) ls h = by (same_name (Code x) k) h (first_part x ks ls) where
  by : (b : Bool) → (b || has x ks) ≡ true → (has x ks ≡ true → has x (ks ++ ls) ≡ true)
      → (b || has x (ks ++ ls)) ≡ true
  by true g rest = refl
  by false g rest = rest g

last_part : (x : List ℕ) (ks ls : List DefinitionName) → has x ls ≡ true → has x (ks ++ ls) ≡ true
last_part x [] ls h = h
last_part x (k ∷ ks) ls h = rw (last_part x ks ls h) (or_true (same_name (Code x) k))

-- a class that a file gives stands in that file under the name
in_file : (x : List ℕ) (c : Class) (r : Result File Fault) → class_told (defined_by x r) ≡ Some c
    → has x (names_read r) ≡ true
in_file x c (Err f) is = absurd cc
in_file x c (Ok file) is = by (lookup (same_name (Code x)) file.definitions) refl is where
  by : (o : Option Definition) → lookup (same_name (Code x)) file.definitions ≡ o
      → option_and_then class_by o ≡ Some c → has x (keys file.definitions) ≡ true
  by None e g = absurd cc
  by (Some d) e g = in_entries x file.definitions d e

in_files : (x path : List ℕ) (c : Class) (fs : List (List ℕ × ManifestFile))
    → class_told (in_module x (lookup (is_at (text_cmp path)) fs)) ≡ Some c → has x (names_within fs) ≡ true
in_files x path c [] is = absurd cc
in_files x path c (f ∷ fs) is = by (is_at (text_cmp path) f.0) is (in_files x path c fs) where
  by : (b : Bool) → class_told (in_module x (cond b (Some f.1) (lookup (is_at (text_cmp path)) fs))) ≡ Some c
      → (class_told (in_module x (lookup (is_at (text_cmp path)) fs)) ≡ Some c → has x (names_within fs) ≡ true)
      → has x (names_read f.1.read ++ names_within fs) ≡ true
  by true g rest = first_part x (names_read f.1.read) (names_within fs) (in_file x c f.1.read g)
  by false g rest = last_part x (names_read f.1.read) (names_within fs) (rest g)

module _ (m : Environment) (x : List ℕ) (c : Class) where
  by_main : (o : Option Definition) → defined_in x m.main ≡ o → class_told (or_in_module o m x) ≡ Some c
      → has x (all_names m) ≡ true
  by_main (Some d) e is =
      first_part x (keys m.main.definitions) (names_within m.files) (in_entries x m.main.definitions d e)
  by_main None e is =
      last_part x (keys m.main.definitions) (names_within m.files) (in_files x (module_path x) c m.files is)

  -- the name of a class that is found is one of those of all definitions
  pub is_named : class_told (definition_of m x) ≡ Some c → has x (all_names m) ≡ true
  unfolding definition_of
  is_named is = by_main (defined_in x m.main) refl is
