-- The codes by which a proof tells data types apart.
use Rattle.std.specs.Prelude.{◌≡◌, ℕ, ◌==◌, Bool, true, false, cond, List, [], ◌∷◌, ℤ, Option, None, Some, refl}
use Rattle.std.specs.Prelude.{slice_index_or}
use Rattle.std.proofs.Common.{ap, subst}
use Rattle.std.specs.Coded.{Coded, code_by, coded×, coded_ℕ, coded_ℤ, coded_list, coded_option}
use base.Stored.{Gv, gnil, gnum, gcons}
use Rattle.pp_values.specs.declared.bounds.Bound.{Bound}
use Rattle.pp_values.specs.declared.bounds.Bound.TheVariants.{Default, Number}
use Rattle.pp_values.specs.Sort.{Name, any, undef, default, boolean, integer, numeric, string, enum, scalar, data_}
use Rattle.pp_values.specs.Sort.{array, hash, collection, optional, variant, not_undef, tuple, type_, catalog_entry}
use Rattle.pp_values.specs.Sort.{class, resource, kind_of_resource, name_number, named_kind, Sort, of, Arguments, none}
use Rattle.pp_values.specs.Sort.{kind, bound, text}

-- the parts of a pair, its first number, and that this number is n
abbrev pub head : Gv → Gv
head gnil = gnil
head (gnum n) = gnil
head (gcons a b) = a

abbrev pub tail : Gv → Gv
tail gnil = gnil
tail (gnum n) = gnil
tail (gcons a b) = b

abbrev pub number_of : Gv → ℕ
number_of gnil = 0
number_of (gnum n) = n
number_of (gcons a b) = 0

abbrev pub tag : Gv → ℕ
tag g = number_of (head g)

abbrev pub Holds : Bool → Type 0
Holds true = Unit {0}
Holds false = ⊥

abbrev pub Tagged : ℕ → Gv → Type 0
Tagged n g = Holds (n == tag g)

-- the names without a kind, in the order of their numbers
abbrev pub plain_names : List Name
plain_names =
    any ∷ undef ∷ default ∷ boolean ∷ integer ∷ numeric ∷ string ∷ enum ∷ scalar ∷ data_ ∷ array ∷ hash ∷ collection
    ∷ optional ∷ variant ∷ not_undef ∷ tuple ∷ type_ ∷ catalog_entry ∷ class ∷ resource ∷ []

abbrev pub name_from : ℕ × List ℕ → Name
name_from p = cond (p.0 == 21) (kind_of_resource p.1) (slice_index_or plain_names p.0 any)

pub name_back : (n : Name) → name_from (name_number n, named_kind n) ≡ n
name_back any = refl
name_back undef = refl
name_back default = refl
name_back boolean = refl
name_back integer = refl
name_back numeric = refl
name_back string = refl
name_back enum = refl
name_back scalar = refl
name_back data_ = refl
name_back array = refl
name_back hash = refl
name_back collection = refl
name_back optional = refl
name_back variant = refl
name_back not_undef = refl
name_back tuple = refl
name_back type_ = refl
name_back catalog_entry = refl
name_back class = refl
name_back resource = refl
name_back (kind_of_resource k) = refl

abbrev pub coded_name : Coded Name
coded_name =
    code_by (ℕ × List ℕ) (coded× coded_ℕ (coded_list coded_ℕ)) (λ n. (name_number n, named_kind n)) name_from name_back

abbrev pub bound_parts : Bound → Option ℤ
bound_parts Default = None
bound_parts (Number z) = Some z

abbrev pub bound_from : Option ℤ → Bound
bound_from None = Default
bound_from (Some z) = Number z

pub bound_back : (b : Bound) → bound_from (bound_parts b) ≡ b
bound_back Default = refl
bound_back (Number z) = refl

abbrev pub coded_bound : Coded Bound
coded_bound = code_by (Option ℤ) (coded_option coded_ℤ) bound_parts bound_from bound_back

abbrev mutual
  pub sort_code : Sort → Gv
  sort_code (of n xs) = gcons (coded_name.code n) (arguments_code xs)

  pub arguments_code : Arguments → Gv
  arguments_code none = gcons (gnum 0) gnil
  arguments_code (kind s xs) = gcons (gnum 1) (gcons (sort_code s) (arguments_code xs))
  arguments_code (bound a xs) = gcons (gnum 2) (gcons (coded_bound.code a) (arguments_code xs))
  arguments_code (text a xs) = gcons (gnum 3) (gcons ((coded_list coded_ℕ).code a) (arguments_code xs))

mutual
  pub sort_inj : (x y : Sort) → sort_code x ≡ sort_code y → x ≡ y
  sort_inj (of m xs) (of n ys) p = λ i. of (coded_name.inj m n (ap head p) i) (arguments_inj xs ys (ap tail p) i)

  pub arguments_inj : (x y : Arguments) → arguments_code x ≡ arguments_code y → x ≡ y
  arguments_inj none none p = refl
  arguments_inj (kind s xs) (kind t ys) p =
      λ i. kind (sort_inj s t (ap (λ g. head (tail g)) p) i) (arguments_inj xs ys (ap (λ g. tail (tail g)) p) i)
  arguments_inj (bound a xs) (bound b ys) p =
      λ i. bound (coded_bound.inj a b (ap (λ g. head (tail g)) p) i) (arguments_inj xs ys (ap (λ g. tail (tail g)) p) i)
  arguments_inj (text a xs) (text b ys) p =
      λ i. text ((coded_list coded_ℕ).inj a b (ap (λ g. head (tail g)) p) i)
      (arguments_inj xs ys (ap (λ g. tail (tail g)) p) i)
  arguments_inj x y p = absurd (subst (Tagged (tag (arguments_code x))) p tt)

abbrev pub coded_sort : Coded Sort
coded_sort = record { code = sort_code; inj = sort_inj }

abbrev pub coded_sorts : Coded (List Sort)
coded_sorts = coded_list coded_sort
