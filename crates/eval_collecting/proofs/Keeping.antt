-- What one collector does leaves the collectors as they are; and with local declarations, what was declared.
use Rattle.std.proofs.Common.{ℕ, Bool, true, false, ◌||◌, List, Option, None, Some, Result, Ok, Err, refl, sym, subst}
use Rattle.override_rules.specs.Lines.{Line}
use Rattle.override_rules.specs.Meaning.{State, stands}
use Rattle.pp_values.specs.declared.fault.Fault.{Fault}
use Rattle.res_book.proofs.Rows.{item_at-change}
use Rattle.res_book.specs.Rows as rows
use Rattle.res_book.specs.Rows.{item_at, marked}
use Rattle.res_book.specs.declared.collector.Collector.{Collector}
use Rattle.res_book.specs.declared.mode.Mode.TheVariants as mode
use Rattle.res_book.specs.declared.row.Row.{Row}
use Rattle.res_core.specs.declared.declared.Declared.{Declared}
use Rattle.res_core.specs.declared.exported.Exported.{Exported}
use Rattle.eval_collecting.specs.Blocks.{said_at, lines_added, put_lines, mark_applied, apply_block, is_due, apply_if}
use Rattle.eval_collecting.specs.Blocks.{block_applied}
use Rattle.eval_collecting.specs.Importing.{item_of, tested, declare_rule, import_rule, import_of, import_once, owner_for}
use Rattle.eval_collecting.specs.Importing.{import_for, import_match}
use Rattle.eval_collecting.specs.Matching.{takes_at, mark, take, take_if, local_match}
use Rattle.eval_resources.specs.declared.known_kind.KnownKind.{KnownKind}
use Rattle.eval_world.specs.Outcomes.{Outcome, Step, go_on, ◌>>=◌, ◌>>◌, pure, answered}
use Rattle.eval_world.specs.Owners.{owner_at}
use Rattle.eval_world.specs.Worlds.{with_book, with_overrides}
use Rattle.eval_world.specs.declared.world.World.{World}

-- where a world came out, this holds of it
abbrev pub Holds : {A : Type 0} → (World → Type 0) → Outcome A → Type 0
Holds P (Ok p) = P p.1
Holds P (Err f) = Unit {0}

pub after : {A B : Type 0} (P Q : World → Type 0) (o : Outcome A) (next : A → Step B) → Holds P o →
    ((a : A) (v : World) → P v → Holds Q (next a v)) → Holds Q (go_on o next)
after P Q (Ok p) next h f = f p.0 p.1 h
after P Q (Err e) next h f = tt

answer : {A : Type 0} (P : World → Type 0) (r : Result A Fault) (w : World) → P w → Holds P (answered r w)
answer P (Ok a) w h = h
answer P (Err e) w h = tt

-- ---- what holds of declarations and collectors holds after a block was applied

module _ (P : List Row → List Collector → Type 0) where
  abbrev Both : World → Type 0
  Both v = P v.book v.relations.collectors

  put_back : (r : Result (Unit {0} × State) Fault) (w : World) → Both w → Holds Both (with_overrides r w)
  put_back (Ok p) w h = h
  put_back (Err f) w h = tt

  applied : (c n : ℕ) (ls : List Line) (w : World) → Both w → Holds Both (apply_block c n ls w)
  unfolding apply_block
  applied c n ls w h = after Both Both (mark_applied c n w) (λ u. put_lines ls >> pure true) h (λ u v g.
      after Both Both (put_lines ls v) (λ x. pure true) (put_back (lines_added v.book ls v.overrides) v g) (λ x y k. k))

  applied_if : (b : Bool) (c n : ℕ) (ls : List Line) (w : World) → Both w → Holds Both (apply_if b c n ls w)
  applied_if true c n ls w h = applied c n ls w h
  applied_if false c n ls w h = h

  pub block_keeps : (c n : ℕ) (w : World) → Both w → Holds Both (block_applied c n w)
  unfolding block_applied
  block_keeps c n w h = applied_if (is_due w c n) c n (said_at w c n) w h

-- ---- what holds of what was declared, and of collectors, holds after a declaration was taken

module _ (P : (ℕ → Option Declared) → List Collector → Type 0) where
  abbrev Taken : World → Type 0
  Taken v = P (item_at v.book) v.relations.collectors

  marked_still : (n : ℕ) (w : World) → Taken w → Holds Taken (mark n w)
  marked_still n w h =
      subst (λ items. P items w.relations.collectors) (sym (λ i m. item_at-change marked (λ r. refl) m n w.book i)) h

  taken : (c n : ℕ) (w : World) → Taken w → Holds Taken (take c n w)
  unfolding take
  taken c n w h = after Taken Taken (mark n w) (λ b. block_applied c n >>= (λ d. pure (b || d))) (marked_still n w h)
      (λ b v g. after Taken Taken (block_applied c n v) (λ d. pure (b || d))
      (block_keeps (λ rows cs. P (item_at rows) cs) c n v g) (λ d x k. k))

  taken_if : (b : Bool) (c n : ℕ) (w : World) → Taken w → Holds Taken (take_if b c n w)
  taken_if true c n w h = taken c n w h
  taken_if false c n w h = h

  pub local_match_keeps : (c n : ℕ) (w : World) → Taken w → Holds Taken (local_match c n w)
  unfolding local_match
  local_match_keeps c n w h = taken_if (takes_at w c n) c n w h

-- ---- what holds of collectors holds after an import

module _ (P : List Collector → Type 0) where
  abbrev Told : World → Type 0
  Told v = P v.relations.collectors

  declared_still : (r : Result (ℕ × List Row) Fault) (w : World) → Told w → Holds Told (with_book r w)
  declared_still (Ok p) w h = h
  declared_still (Err f) w h = tt

  declared : (owner : ℕ) (node : List ℕ) (place : ℕ) (k : KnownKind) (e : Exported) (w : World) → Told w →
      Holds Told (declare_rule owner node place k e w)
  unfolding declare_rule
  declared owner node place k e w h =
      declared_still (rows.declared (item_of (owner_at owner w.owners) w.book k e) (mode.Imported node place) w.book) w h

  abbrev stood : ℕ → Step ℕ
  stood n = (λ v. answered (stands v.overrides v.book n) v) >> pure n

  imported : (owner : ℕ) (node : List ℕ) (place : ℕ) (e : Exported) (w : World) → Told w →
      Holds Told (import_rule owner node place e w)
  unfolding import_rule
  imported owner node place e w h =
      after Told Told (answered (tested w.environment e) w)
      (λ k. declare_rule owner node place k e >>= stood) (answer Told (tested w.environment e) w h) (λ k v g.
      after Told Told (declare_rule owner node place k e v) stood (declared owner node place k e v g) (λ n x f.
      after Told Told (answered (stands x.overrides x.book n) x) (λ u. pure n)
      (answer Told (stands x.overrides x.book n) x f) (λ u y d. d)))

  applied_still : (c n : ℕ) (w : World) → Told w → Holds Told (block_applied c n w)
  applied_still c n w h = block_keeps (λ rows cs. P cs) c n w h

  once : (n : Option ℕ) (c owner : ℕ) (node : List ℕ) (place : ℕ) (e : Exported) (w : World) → Told w →
      Holds Told (import_once n c owner node place e w)
  unfolding import_once
  once (Some n) c owner node place e w h = applied_still c n w h
  once None c owner node place e w h =
      after Told Told (import_rule owner node place e w) (λ n. block_applied c n >> pure true)
      (imported owner node place e w h) (λ n v g.
      after Told Told (block_applied c n v) (λ b. pure true) (applied_still c n v g) (λ b x k. k))

  imported_for : (owner : Option ℕ) (c : ℕ) (node : List ℕ) (place : ℕ) (e : Exported) (w : World) → Told w →
      Holds Told (import_for owner c node place e w)
  imported_for None c node place e w h = h
  imported_for (Some owner) c node place e w h = once (import_of node place e.item w.book) c owner node place e w h

  pub import_match_keeps : (c : ℕ) (node : List ℕ) (place : ℕ) (e : Exported) (w : World) → Told w →
      Holds Told (import_match c node place e w)
  unfolding import_match
  import_match_keeps c node place e w h = imported_for (owner_for w c e) c node place e w h
