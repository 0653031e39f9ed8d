-- What is found in a table of kinds and titles after a change.
use Rattle.std.proofs.Common.{◌≡◌, ℕ, Bool, true, false, cond, ◌&&◌, List, [], Option, None, Some, Result, Ok, Err, OnErr, is_some, refl, sym, ap, ◌∙◌}
use Rattle.std.proofs.lemmas.Map.Text.{is_eq-slice_cmp}
use Rattle.std.proofs.lemmas.Slice.Eq.{bytes_eq-Decides}
use Rattle.std.specs.BTreeMap.{BTreeMap, get, is_at, Updates, UpdatesBy}
use Rattle.std.specs.Cmp.Lexicographic.{slice_cmp}
use Rattle.std.specs.Map.{lookup}
use Rattle.std.specs.Ordering.{nat_cmp}
use Rattle.std.specs.Str.{bytes_eq}
use Rattle.pp_values.specs.declared.memory.Memory.{Memory}
use Rattle.res_book.specs.Numbers.{Kinds, Titles, number_in, number_at, Adds, Keeps, Claims, ClaimsTitle}

-- what stands in a table after a change at one text
pub changed : {X : Type 0} (m n : BTreeMap (List ℕ) X) (k : List ℕ) (w : X) →
    Updates (slice_cmp nat_cmp) m n k (Some w) → (q : List ℕ) →
    get (slice_cmp nat_cmp) n q ≡ cond (bytes_eq k q) (Some w) (get (slice_cmp nat_cmp) m q)
changed m n k w u q = u.0 q ∙ ap (λ b. cond b (Some w) (get (slice_cmp nat_cmp) m q)) (is_eq-slice_cmp k q)

-- one title in a table that had none
pub one_title : (m n : Titles) (key title : List ℕ) (number : ℕ) → key ≡ title → m.entries ≡ [] →
    Updates (slice_cmp nat_cmp) m n key (Some number) → (t : List ℕ) →
    get (slice_cmp nat_cmp) n t ≡ cond (bytes_eq title t) (Some number) None
one_title m n key title number is empty u t =
    changed m n key number u t
    ∙ ap (λ k. cond (bytes_eq k t) (Some number) (get (slice_cmp nat_cmp) m t)) is
    ∙ ap (λ es. cond (bytes_eq title t) (Some number) (lookup (is_at (slice_cmp nat_cmp t)) es)) empty

-- one more title
pub one_more : (m n : Titles) (key title : List ℕ) (number : ℕ) → key ≡ title →
    Updates (slice_cmp nat_cmp) m n key (Some number) → (o : Option Titles) → o ≡ Some m → (t : List ℕ) →
    get (slice_cmp nat_cmp) n t ≡ cond (bytes_eq title t) (Some number) (number_in o t)
one_more m n key title number same u o is t =
    changed m n key number u t
    ∙ ap (λ k. cond (bytes_eq k t) (Some number) (get (slice_cmp nat_cmp) m t)) same
    ∙ ap (λ p. cond (bytes_eq title t) (Some number) (number_in p t)) (sym is)

-- the numbers after the titles of one kind have changed
by_kind : (kinds : Kinds) (kind title : List ℕ) (number : ℕ) (after : Titles) (k t : List ℕ) (b : Bool) →
    bytes_eq kind k ≡ b →
    get (slice_cmp nat_cmp) after t ≡ cond (bytes_eq title t) (Some number) (number_at kinds kind t) →
    number_in (cond b (Some after) (get (slice_cmp nat_cmp) kinds k)) t
    ≡ cond (b && bytes_eq title t) (Some number) (number_at kinds k t)
by_kind kinds kind title number after k t true same e =
    e ∙ ap (λ q. cond (bytes_eq title t) (Some number) (number_at kinds q t)) ((bytes_eq-Decides kind k).0 same)
by_kind kinds kind title number after k t false apart e = refl

pub adds : (kinds new : Kinds) (key kind title : List ℕ) (number : ℕ) (after : Titles) → key ≡ kind →
    UpdatesBy (slice_cmp nat_cmp) (slice_cmp nat_cmp key) kinds new (Some after) →
    ((t : List ℕ) →
    get (slice_cmp nat_cmp) after t ≡ cond (bytes_eq title t) (Some number) (number_at kinds kind t)) →
    Adds kind title number kinds new
adds kinds new key kind title number after is u titles k t =
    ap (λ o. number_in o t) (changed kinds new key after u k)
    ∙ ap (λ j. number_in (cond (bytes_eq j k) (Some after) (get (slice_cmp nat_cmp) kinds k)) t) is
    ∙ by_kind kinds kind title number after k t (bytes_eq kind k) refl (titles t)

same_kind : (kinds : Kinds) (kind : List ℕ) (after : Titles) (k t : List ℕ) (b : Bool) →
    bytes_eq kind k ≡ b → get (slice_cmp nat_cmp) after t ≡ number_at kinds kind t →
    number_in (cond b (Some after) (get (slice_cmp nat_cmp) kinds k)) t ≡ number_at kinds k t
same_kind kinds kind after k t true same e =
    e ∙ ap (λ q. number_at kinds q t) ((bytes_eq-Decides kind k).0 same)
same_kind kinds kind after k t false apart e = refl

-- titles in which the same is found
pub keeps : (kinds new : Kinds) (kind : List ℕ) (titles after : Titles) →
    UpdatesBy (slice_cmp nat_cmp) (slice_cmp nat_cmp kind) kinds new (Some after) →
    get (slice_cmp nat_cmp) kinds kind ≡ Some titles →
    ((t : List ℕ) → get (slice_cmp nat_cmp) after t ≡ get (slice_cmp nat_cmp) titles t) → Keeps kinds new
keeps kinds new kind titles after u there same k t =
    ap (λ o. number_in o t) (changed kinds new kind after u k)
    ∙ same_kind kinds kind after k t (bytes_eq kind k) refl (same t ∙ ap (λ o. number_in o t) (sym there))

-- what the titles of one kind claim, the kinds claim
pub claimed : (kinds new : Kinds) (kind title : List ℕ) (number : ℕ) (titles after : Titles)
    (r : Result (Option ℕ) Memory) →
    UpdatesBy (slice_cmp nat_cmp) (slice_cmp nat_cmp kind) kinds new (Some after) →
    get (slice_cmp nat_cmp) kinds kind ≡ Some titles → ClaimsTitle title number titles after r →
    Claims kind title number kinds new r
claimed kinds new kind title number titles after (Ok None) u there c = (
  ap (λ o. number_in o title) there ∙ c.0,
  adds kinds new kind kind title number after refl u
      (λ t. c.1 t ∙ ap (λ o. cond (bytes_eq title t) (Some number) (number_in o t)) (sym there)),
)
claimed kinds new kind title number titles after (Ok (Some earlier)) u there c =
    (ap (λ o. number_in o title) there ∙ c.0, keeps kinds new kind titles after u there c.1)
claimed kinds new kind title number titles after (Err e) u there c = keeps kinds new kind titles after u there c

-- a title that is there after it was put in
pub put_in : (n m : Titles) (title : List ℕ) (number : ℕ) →
    get (slice_cmp nat_cmp) n title ≡ cond (bytes_eq title title) (Some number) (get (slice_cmp nat_cmp) m title) →
    get (slice_cmp nat_cmp) n title ≡ Some number
put_in n m title number e =
    e ∙ ap (λ b. cond b (Some number) (get (slice_cmp nat_cmp) m title)) ((bytes_eq-Decides title title).1 refl)

restored_at : (m n : Titles) (title t : List ℕ) (number earlier : ℕ) (b : Bool) → bytes_eq title t ≡ b →
    get (slice_cmp nat_cmp) n t ≡ cond b (Some number) (get (slice_cmp nat_cmp) m t) →
    get (slice_cmp nat_cmp) m title ≡ Some earlier →
    cond b (Some earlier) (get (slice_cmp nat_cmp) n t) ≡ get (slice_cmp nat_cmp) m t
restored_at m n title t number earlier true same e there =
    sym there ∙ ap (λ q. get (slice_cmp nat_cmp) m q) ((bytes_eq-Decides title t).0 same)
restored_at m n title t number earlier false apart e there = e

-- a title was given another number, and then the one that it had
pub restored : (m n o : Titles) (title : List ℕ) (number earlier : ℕ) →
    get (slice_cmp nat_cmp) m title ≡ Some earlier →
    ((t : List ℕ) → get (slice_cmp nat_cmp) n t ≡ cond (bytes_eq title t) (Some number) (get (slice_cmp nat_cmp) m t)) →
    ((t : List ℕ) → get (slice_cmp nat_cmp) o t ≡ cond (bytes_eq title t) (Some earlier) (get (slice_cmp nat_cmp) n t)) →
    (t : List ℕ) → get (slice_cmp nat_cmp) o t ≡ get (slice_cmp nat_cmp) m t
restored m n o title number earlier there set back t =
    back t ∙ restored_at m n title t number earlier (bytes_eq title t) refl (set t) there

pub none : {X : Type 0} (o : Option X) → is_some o ≡ false → o ≡ None
none None e = refl
none (Some x) e = absurd cc

pub on_err : {T E : Type 0} {P : Type 0} (r : Result T E) → P → OnErr r P
on_err (Ok x) p = tt
on_err (Err e) p = p
