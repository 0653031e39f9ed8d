-- A look at what a node exports: that a second one finds nothing.
use Rattle.std.proofs.Common.{◌≡◌, ℕ, suc, ◌<◌, Bool, true, false, cond, ◌&&◌, List, [], ◌∷◌, ◌++◌, length}
use Rattle.std.proofs.Common.{Option, None, Some, option_map, Result, Ok, Err, refl, sym, ap, subst, ◌∙◌, true≢false}
use Rattle.std.proofs.Common.{eqb, eq-eqb}
use Rattle.std.proofs.lemmas.Slice.Eq.{bytes_eq-Decides}
use Rattle.std.specs.Prelude.{find, slice_get}
use Rattle.std.specs.Str.{bytes_eq}
use Rattle.override_rules.specs.Meaning.{stands}
use Rattle.pp_values.specs.References.{same_reference}
use Rattle.pp_values.specs.declared.fault.Fault.{Fault}
use Rattle.pp_values.specs.declared.reference.Reference.{Reference}
use Rattle.res_book.proofs.Growth.{declared-appends, row-last}
use Rattle.res_book.specs.Rows as rows
use Rattle.res_book.specs.Rows.{declared, declared_as, declared_once, is_class_virtual, is_named}
use Rattle.res_book.specs.Rows.{new_row, number_of, class_virtual}
use Rattle.res_book.specs.declared.mode.Mode.{Mode}
use Rattle.res_book.specs.declared.mode.Mode.TheVariants as mode
use Rattle.res_book.specs.declared.row.Row.{Row}
use Rattle.res_core.specs.declared.declared.Declared.{Declared}
use Rattle.res_core.specs.declared.exported.Exported.{Exported}
use Rattle.eval_collecting.specs.Blocks.{block_applied, is_due}
use Rattle.eval_collecting.specs.Importing.{declare_rule, import_at, import_for, import_match, import_of, import_once}
use Rattle.eval_collecting.specs.Importing.{import_rule, is_import_of, item_of, owner_by, owner_for, same_import}
use Rattle.eval_collecting.specs.Importing.{tested, where_true}
use Rattle.eval_collecting.specs.Matching.{reference_of}
use Rattle.eval_resources.specs.declared.known_kind.KnownKind.{KnownKind}
use Rattle.eval_world.specs.Outcomes.{Outcome, answered, go_on, pure}
use Rattle.eval_world.specs.Owners.{owner_at}
use Rattle.eval_world.specs.Worlds.{with_book}
use Rattle.eval_world.specs.declared.world.World.{World}
use Rattle.world_laws.specs.Extends.{Extends}
use Rattle.collecting_laws.proofs.Looking.{after, block_leaves, block_nothing, not_due, not_due_later, not_refused}
use Rattle.collecting_laws.proofs.Looking.{same_collector, told}
use Rattle.collecting_laws.specs.Looks.{ImportIsQuiet}

-- ---- what an import is found by

same_place : (node : List ℕ) (place : ℕ) → same_import node place (mode.Imported node place) ≡ true
same_place node place =
    ap (λ b. b && eqb place place) ((bytes_eq-Decides node node).1 refl) ∙ eq-eqb place place refl

-- it was imported from there as this number
record IsImport (w : World) (node : List ℕ) (place : ℕ) (e : Exported) (n : ℕ) : Type 0 where
  number : number_of (reference_of e.item) w.book ≡ Some n
  row : is_import_of node place (slice_get w.book n) ≡ true

import_found : (w : World) (node : List ℕ) (place : ℕ) (e : Exported) (n : ℕ) → IsImport w node place e n →
    import_of node place e.item w.book ≡ Some n
import_found w node place e n is =
    ap (import_at node place w.book) is.number ∙ ap (λ b. where_true b n) is.row

found_by : (node : List ℕ) (place : ℕ) (book : List Row) (o : Option ℕ) (n : ℕ) → import_at node place book o ≡ Some n →
    (o ≡ Some n) × (is_import_of node place (slice_get book n) ≡ true)
found_by node place book None n e = absurd cc
found_by node place book (Some m) n e = at (is_import_of node place (slice_get book m)) refl e where
  at : (b : Bool) → is_import_of node place (slice_get book m) ≡ b → where_true b m ≡ Some n →
      (Some m ≡ Some n) × (is_import_of node place (slice_get book n) ≡ true)
  at false is none = absurd cc
  at true is one = (one, subst (λ k. is_import_of node place (slice_get book k) ≡ true) (value m one) is) where
    value : (d : ℕ) → Some m ≡ Some n → m ≡ n
    value d e = cc

found_import : (w : World) (node : List ℕ) (place : ℕ) (e : Exported) (n : ℕ) →
    import_of node place e.item w.book ≡ Some n → IsImport w node place e n
found_import w node place e n is =
    let parts = found_by node place w.book (number_of (reference_of e.item) w.book) n is in
    record { number = parts.0; row = parts.1 }

-- ---- when nothing is found

-- nothing is found for the collector, or no block is left to be applied to what was imported
found_quiet : (w : World) (c : ℕ) (node : List ℕ) (place : ℕ) (e : Exported) (n : ℕ) (owner : Option ℕ) →
    owner_for w c e ≡ owner → IsImport w node place e n → is_due w c n ≡ false → ImportIsQuiet w c node place e
unfolding import_match import_once
found_quiet w c node place e n None is import none = ap (λ o. import_for o c node place e w) is
found_quiet w c node place e n (Some owner) is import none =
    ap (λ o. import_for o c node place e w) is
    ∙ ap (λ o. import_once o c owner node place e w) (import_found w node place e n import)
    ∙ not_due w c n none

no_owner_quiet : (w : World) (c : ℕ) (node : List ℕ) (place : ℕ) (e : Exported) → owner_for w c e ≡ None →
    ImportIsQuiet w c node place e
unfolding import_match
no_owner_quiet w c node place e is = ap (λ o. import_for o c node place e w) is

-- ---- an import that is declared

first_at : (q : Reference) (x : Row) (xs : List Row) (o : Option ℕ) (b : Bool) → is_named q x ≡ b →
    cond b (Some x) (find (is_named q) xs) ≡ None → (find (is_named q) xs ≡ None → o ≡ Some (length xs)) →
    cond (is_named q x) (Some 0) (option_map suc o) ≡ Some (suc (length xs))
first_at q x xs o true named one more = absurd cc
first_at q x xs o false named none more =
    ap (λ b. cond b (Some 0) (option_map suc o)) named ∙ ap (option_map suc) (more none)

first_by : (q : Reference) (book : List Row) (r : Row) → find (is_named q) book ≡ None → is_named q r ≡ true →
    number_of q (book ++ r ∷ []) ≡ Some (length book)
first_by q [] r none is = ap (λ b. cond b (Some 0) None) is
first_by q (x ∷ xs) r none is =
    first_at q x xs (number_of q (xs ++ r ∷ [])) (is_named q x) refl none (λ rest. first_by q xs r rest is)

same_itself : (q : Reference) → same_reference q q ≡ true
same_itself q =
    ap (λ b. b && bytes_eq q.title q.title) ((bytes_eq-Decides q.kind q.kind).1 refl)
    ∙ (bytes_eq-Decides q.title q.title).1 refl

-- what is declared has the reference of none before it
none_before : (d : Declared) (m : Mode) (book new : List Row) (n : ℕ) (b : Bool) (o : Option Row) →
    declared_as (rows.reference_of d) book ≡ o →
    cond b (Err (class_virtual d)) (declared_once d m o book) ≡ Ok (n, new) →
    declared_as (rows.reference_of d) book ≡ None
none_before d m book new n true o is e = absurd cc
none_before d m book new n false None is e = is
none_before d m book new n false (Some r) is e = absurd cc

declared_number : (d : Declared) (m : Mode) (book new : List Row) (n : ℕ) → declared d m book ≡ Ok (n, new) →
    number_of (rows.reference_of d) new ≡ Some n
declared_number d m book new n e =
    let parts = declared-appends d m book new n e in
    let none = none_before d m book new n (is_class_virtual d m) (declared_as (rows.reference_of d) book) refl e in
    ap (number_of (rows.reference_of d)) parts.1
    ∙ first_by (rows.reference_of d) book (new_row d m) none (same_itself (rows.reference_of d))
    ∙ ap (λ k. Some k) (sym parts.0)

declared_row : (d : Declared) (m : Mode) (book new : List Row) (n : ℕ) → declared d m book ≡ Ok (n, new) →
    slice_get new n ≡ Some (new_row d m)
declared_row d m book new n e =
    let parts = declared-appends d m book new n e in
    ap (λ k. slice_get new k) parts.0 ∙ ap (λ rs. slice_get rs (length book)) parts.1 ∙ row-last book (new_row d m)

module _ (c owner : ℕ) (node : List ℕ) (place : ℕ) (e : Exported) where
  put_import : (w v : World) (k : KnownKind) (n : ℕ)
      (r : Result (ℕ × List Row) Fault) →
      declared (item_of (owner_at owner w.owners) w.book k e) (mode.Imported node place) w.book ≡ r →
      with_book r w ≡ Ok (n, v) → IsImport v node place e n
  put_import w v k n (Err f) is put = absurd (not_refused put)
  put_import w v k n (Ok p) is put =
      let item = item_of (owner_at owner w.owners) w.book k e in
      let number = declared_number item (mode.Imported node place) w.book p.1 p.0 is in
      let row = declared_row item (mode.Imported node place) w.book p.1 p.0 is in
      subst (λ x. IsImport x node place e n) (after put)
      (subst (IsImport (record w { book = p.1 }) node place e) (told put)
      (record {
        number = number;
        row = ap (is_import_of node place) row ∙ same_place node place;
      }))

  declare_import : (w v : World) (k : KnownKind) (n : ℕ) → declare_rule owner node place k e w ≡ Ok (n, v) →
      IsImport v node place e n
  unfolding declare_rule
  declare_import w v k n put =
      put_import w v k n (declared (item_of (owner_at owner w.owners) w.book k e) (mode.Imported node place) w.book)
      refl put

  stood_by : (w v : World) (n m : ℕ) (r : Result (Unit {0}) Fault) →
      go_on (answered r w) (λ u. pure m) ≡ Ok (n, v) → (m ≡ n) × (w ≡ v)
  stood_by w v n m (Ok u) is = (told is, after is)
  stood_by w v n m (Err f) is = absurd (not_refused is)

  declared_by : (w v : World) (k : KnownKind) (n : ℕ) (o : Outcome ℕ) → declare_rule owner node place k e w ≡ o →
      go_on o (λ m x. go_on (answered (stands x.overrides x.book m) x) (λ u. pure m)) ≡ Ok (n, v) →
      IsImport v node place e n
  declared_by w v k n (Err f) is all = absurd (not_refused all)
  declared_by w v k n (Ok p) is all =
      let same = stood_by p.1 v n p.0 (stands p.1.overrides p.1.book p.0) all in
      subst (λ x. IsImport x node place e n) same.1
      (subst (IsImport p.1 node place e) same.0 (declare_import w p.1 k p.0 is))

  tested_by : (w v : World) (n : ℕ) (r : Result KnownKind Fault) →
      go_on (answered r w) (λ k x. go_on (declare_rule owner node place k e x)
      (λ m y. go_on (answered (stands y.overrides y.book m) y) (λ u. pure m))) ≡ Ok (n, v) → IsImport v node place e n
  tested_by w v n (Err f) all = absurd (not_refused all)
  tested_by w v n (Ok k) all = declared_by w v k n (declare_rule owner node place k e w) refl all

  imported : (w v : World) (n : ℕ) → import_rule owner node place e w ≡ Ok (n, v) → IsImport v node place e n
  unfolding import_rule
  imported w v n all = tested_by w v n (tested w.environment e) all

  -- ---- a second look right away

  -- an import that stays
  same_book : (w v : World) (n : ℕ) → v.book ≡ w.book → IsImport w node place e n → IsImport v node place e n
  same_book w v n same is = record {
    number = ap (number_of (reference_of e.item)) same ∙ is.number;
    row = ap (λ b. is_import_of node place (slice_get b n)) same ∙ is.row;
  }

  block_then : (w v : World) (n : ℕ) (a : Bool) (o : Outcome Bool) → block_applied c n w ≡ o →
      go_on o (λ b. pure true) ≡ Ok (a, v) → (v.book ≡ w.book) × (is_due v c n ≡ false)
  block_then w v n a (Err f) is all = absurd (not_refused all)
  block_then w v n a (Ok p) is all =
      let left = block_leaves w p.1 c n p.0 (is_due w c n) refl is in
      subst (λ x. (x.book ≡ w.book) × (is_due x c n ≡ false)) (after all) left

  import_then : (w v : World) (a : Bool) (o : Outcome ℕ) → import_rule owner node place e w ≡ o →
      go_on o (λ n x. go_on (block_applied c n x) (λ b. pure true)) ≡ Ok (a, v) → ImportIsQuiet v c node place e
  import_then w v a (Err f) is all = absurd (not_refused all)
  import_then w v a (Ok p) is all =
      let left = block_then p.1 v p.0 a (block_applied c p.0 p.1) refl all in
      found_quiet v c node place e p.0 (owner_for v c e) refl (same_book p.1 v p.0 left.0 (imported w p.1 p.0 is))
      left.1

  once_again : (w v : World) (a : Bool) (n : Option ℕ) → import_of node place e.item w.book ≡ n →
      import_once n c owner node place e w ≡ Ok (a, v) → ImportIsQuiet v c node place e
  unfolding import_once
  once_again w v a (Some n) is all =
      let left = block_leaves w v c n a (is_due w c n) refl all in
      found_quiet v c node place e n (owner_for v c e) refl
      (same_book w v n left.0 (found_import w node place e n is)) left.1
  once_again w v a None is all = import_then w v a (import_rule owner node place e w) refl all

again_by : (c : ℕ) (node : List ℕ) (place : ℕ) (e : Exported) (w v : World) (a : Bool) (owner : Option ℕ) →
    owner_for w c e ≡ owner → import_for owner c node place e w ≡ Ok (a, v) → ImportIsQuiet v c node place e
again_by c node place e w v a None is all =
    subst (λ x. ImportIsQuiet x c node place e) (after all) (no_owner_quiet w c node place e is)
again_by c node place e w v a (Some owner) is all =
    once_again c owner node place e w v a (import_of node place e.item w.book) refl all

pub import_again : (c : ℕ) (node : List ℕ) (place : ℕ) (e : Exported) (w v : World) (a : Bool) →
    import_match c node place e w ≡ Ok (a, v) → ImportIsQuiet v c node place e
unfolding import_match
import_again c node place e w v a all = again_by c node place e w v a (owner_for w c e) refl all

-- ---- a look later

import_stays : (w v : World) (node : List ℕ) (place : ℕ) (e : Exported) (n : ℕ) → Extends w v →
    IsImport w node place e n → IsImport v node place e n
import_stays w v node place e n extends is = record {
  number = extends.declarations.number (reference_of e.item) n is.number;
  row = row_stays (slice_get w.book n) refl is.row;
} where
  mode_then : (o : Option Row) (m : Mode) → option_map (λ (r : Row). r.mode) o ≡ Some m →
      is_import_of node place o ≡ same_import node place m
  mode_then None m e = absurd cc
  mode_then (Some r) m e = let same : r.mode ≡ m = cc in ap (same_import node place) same

  row_stays : (o : Option Row) → slice_get w.book n ≡ o → is_import_of node place o ≡ true →
      is_import_of node place (slice_get v.book n) ≡ true
  row_stays None at row = absurd (true≢false (sym row))
  row_stays (Some r) at row =
      mode_then (slice_get v.book n) r.mode
      (extends.declarations.mode n r.mode (ap (option_map (λ (x : Row). x.mode)) at)) ∙ row

module _ (c : ℕ) (node : List ℕ) (place : ℕ) (e : Exported) (w v : World) (extends : Extends w v)
    (there : c < length w.relations.collectors) where
  same_owner : owner_for v c e ≡ owner_for w c e
  same_owner = ap (λ o. owner_by o e) (same_collector w v c extends there)

  then_true : (o : Outcome ℕ) →
      go_on o (λ n x. go_on (block_applied c n x) (λ b. pure true)) ≡ Ok (false, w) → ⊥
  then_true (Err f) all = not_refused all
  then_true (Ok p) all = block_true (block_applied c p.0 p.1) all where
    block_true : (o : Outcome Bool) → go_on o (λ b. pure true) ≡ Ok (false, w) → ⊥
    block_true (Err f) all = not_refused all
    block_true (Ok q) all = true≢false (told all)

  once_later : (owner : ℕ) (n : Option ℕ) → import_of node place e.item w.book ≡ n →
      import_once n c owner node place e w ≡ Ok (false, w) → ImportIsQuiet v c node place e
  unfolding import_once
  once_later owner (Some n) is all =
      let none = (block_nothing w w c n (is_due w c n) refl all).0 in
      found_quiet v c node place e n (owner_for v c e) refl
      (import_stays w v node place e n extends (found_import w node place e n is))
      (not_due_later w v c n extends there none)
  once_later owner None is all = absurd (then_true (import_rule owner node place e w) all)

  later_by : (owner : Option ℕ) → owner_for w c e ≡ owner → import_for owner c node place e w ≡ Ok (false, w) →
      ImportIsQuiet v c node place e
  later_by None is all = no_owner_quiet v c node place e (same_owner ∙ is)
  later_by (Some owner) is all = once_later owner (import_of node place e.item w.book) refl all

pub import_later : (c : ℕ) (node : List ℕ) (place : ℕ) (e : Exported) (w v : World) → Extends w v →
    c < length w.relations.collectors → ImportIsQuiet w c node place e → ImportIsQuiet v c node place e
unfolding import_match
import_later c node place e w v extends there quiet =
    later_by c node place e w v extends there (owner_for w c e) refl quiet

-- ---- what adds nothing changes nothing

then_not : (c : ℕ) (v : World) (o : Outcome ℕ) →
    go_on o (λ n x. go_on (block_applied c n x) (λ b. pure true)) ≡ Ok (false, v) → ⊥
then_not c v (Err f) all = not_refused all
then_not c v (Ok p) all = block_not (block_applied c p.0 p.1) all where
  block_not : (o : Outcome Bool) → go_on o (λ b. pure true) ≡ Ok (false, v) → ⊥
  block_not (Err f) all = not_refused all
  block_not (Ok q) all = true≢false (told all)

once_nothing : (c owner : ℕ) (node : List ℕ) (place : ℕ) (e : Exported) (w v : World) (n : Option ℕ) →
    import_once n c owner node place e w ≡ Ok (false, v) → w ≡ v
unfolding import_once
once_nothing c owner node place e w v (Some n) all = (block_nothing w v c n (is_due w c n) refl all).1
once_nothing c owner node place e w v None all = absurd (then_not c v (import_rule owner node place e w) all)

nothing_for : (c : ℕ) (node : List ℕ) (place : ℕ) (e : Exported) (w v : World) (owner : Option ℕ) →
    import_for owner c node place e w ≡ Ok (false, v) → w ≡ v
nothing_for c node place e w v None all = after all
nothing_for c node place e w v (Some owner) all =
    once_nothing c owner node place e w v (import_of node place e.item w.book) all

pub import_nothing : (c : ℕ) (node : List ℕ) (place : ℕ) (e : Exported) (w v : World) →
    import_match c node place e w ≡ Ok (false, v) → w ≡ v
unfolding import_match
import_nothing c node place e w v all = nothing_for c node place e w v (owner_for w c e) all
