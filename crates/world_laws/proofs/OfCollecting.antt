-- What one collector takes: marks, blocks, imports.
use Rattle.std.proofs.Common.{◌≡◌, ℕ, Bool, true, false, ◌||◌, List, [], ◌∷◌, Option, None, Some, Result, Ok, Err}
use Rattle.std.proofs.Common.{refl, sym, subst, ◌∙◌}
use Rattle.std.specs.Prelude.{IsTrue}
use Rattle.override_rules.specs.Lines.{Line}
use Rattle.override_rules.specs.Meaning.{State, line_added, test_of, tested, row_of, with_line}
use Rattle.pp_values.specs.Answers as answers
use Rattle.pp_values.specs.declared.fault.Fault.{Fault}
use Rattle.res_book.proofs.Applied.{applied-marked}
use Rattle.res_book.proofs.Growth.{grows-mark}
use Rattle.res_book.specs.Relations.{Related, is_applied, same_pair, with_applied}
use Rattle.res_book.specs.Rows.{marked, with_mark}
use Rattle.res_book.specs.declared.mode.Mode.TheVariants as mode
use Rattle.res_book.specs.declared.row.Row.{Row}
use Rattle.res_core.specs.declared.exported.Exported.{Exported}
use Rattle.eval_collecting.specs.Blocks.{said_at, lines_added, put_lines, mark_applied, apply_block, is_due, apply_if}
use Rattle.eval_collecting.specs.Blocks.{block_applied}
use Rattle.eval_collecting.specs.Importing.{item_of, declare_rule, import_rule, import_of, import_once, owner_for}
use Rattle.eval_collecting.specs.Importing.{import_for, import_match}
use Rattle.eval_collecting.specs.Matching.{takes_at, mark, take, take_if, local_match}
use Rattle.eval_resources.specs.declared.known_kind.KnownKind.{KnownKind}
use Rattle.eval_world.specs.Owners.{owner_at}
use Rattle.eval_world.specs.Worlds.{with_overrides}
use Rattle.eval_world.specs.declared.world.World.{World}
use Rattle.world_laws.specs.Extends.{OverridesStay, RelationsGoOn}
use Rattle.world_laws.specs.Growing.{Reaches, Grows}
use Rattle.world_laws.proofs.Lists.{stays}
use Rattle.world_laws.proofs.Marks.{marks-mark}
use Rattle.world_laws.proofs.OfWorld.{here_opened, put_grows}
use Rattle.world_laws.proofs.Placing.{change_placed}
use Rattle.world_laws.proofs.OfOverrides.{one_line}
use Rattle.world_laws.proofs.Steps.{and_then, pure_grows, answer_grows, told}
use Rattle.world_laws.proofs.Worlds.{same_overrides, overrides_on, book_grows, overrides_grow, relations_grow}

-- ---- override lines

-- where the tables of overrides came out, they are those before and what was added, with the same scopes
abbrev StaysIn : State → Result (Unit {0} × State) Fault → Type 0
StaysIn s (Ok p) = OverridesStay s p.1 × (p.1.scopes ≡ s.scopes)
StaysIn s (Err f) = Unit {0}

tested_line : (s : State) (l : Line) (r : Result (Unit {0}) Fault) →
    StaysIn s (answers.and_then r (λ u. Ok (tt, with_line s l)))
tested_line s l (Ok u) = (one_line l s, refl)
tested_line s l (Err f) = tt

-- a line stands behind those before it
line_stays : (book : List Row) (l : Line) (s : State) → StaysIn s (line_added book l s)
line_stays book l s = tested_line s l (tested (test_of s l) (row_of l.target book))

further_lines : (s : State) (r : Result (Unit {0} × State) Fault) → StaysIn s r →
    (next : State → Result (Unit {0} × State) Fault) → ((t : State) → StaysIn t (next t)) →
    StaysIn s (answers.and_then r (λ p. next p.1))
further_lines s (Err f) stay next more = tt
further_lines s (Ok p) stay next more = on_to s p.1 (next p.1) stay (more p.1) where
  on_to : (s t : State) (r : Result (Unit {0} × State) Fault) → StaysIn s (Ok (tt, t)) → StaysIn t r → StaysIn s r
  on_to s t (Ok p) f g = (overrides_on f.0 g.0, g.1 ∙ f.1)
  on_to s t (Err f) g h = tt

lines_stay : (book : List Row) (ls : List Line) (s : State) → StaysIn s (lines_added book ls s)
unfolding lines_added
lines_stay book [] s = (same_overrides s, refl)
lines_stay book (l ∷ ls) s =
    further_lines s (line_added book l s) (line_stays book l s) (lines_added book ls) (lines_stay book ls)

overrides_reached : (w : World) (r : Result (Unit {0} × State) Fault) → StaysIn w.overrides r →
    Reaches w (with_overrides r w)
overrides_reached w (Ok p) stay = overrides_grow w p.1 stay.0 stay.1
overrides_reached w (Err f) stay = tt

put_lines_grow : (ls : List Line) → Grows (put_lines ls)
put_lines_grow ls = record {
  reaches = λ w. overrides_reached w (lines_added w.book ls w.overrides) (lines_stay w.book ls w.overrides);
}

-- ---- blocks

still : (a b : Bool) → IsTrue b → IsTrue (a || b)
still true b is = refl
still false b is = is

-- a block that was applied to a declaration stays so
one_applied : (c n : ℕ) (r : Related) → RelationsGoOn r (with_applied c n r)
one_applied c n r = record {
  lines = stays r.lines;
  containments = stays r.containments;
  collectors = stays r.collectors;
  applied = λ d m is. subst IsTrue (sym (applied-marked c n d m r))
      (still (same_pair (d, m) (c, n)) (is_applied d m r) is);
}

mark_applied_grows : (c n : ℕ) → Grows (mark_applied c n)
mark_applied_grows c n = record {
  reaches = λ w. relations_grow w (with_applied c n w.relations) (one_applied c n w.relations);
}

apply_grows : (c n : ℕ) (ls : List Line) → Grows (apply_block c n ls)
unfolding apply_block
apply_grows c n ls = and_then (mark_applied_grows c n) (λ u. and_then (put_lines_grow ls) (λ v. pure_grows {a = true}))

apply_if_grows : (b : Bool) (c n : ℕ) (ls : List Line) → Grows (apply_if b c n ls)
apply_if_grows true c n ls = apply_grows c n ls
apply_if_grows false c n ls = pure_grows

block_grows : (c n : ℕ) → Grows (block_applied c n)
unfolding block_applied
block_grows c n =
    told (λ w. apply_if (is_due w c n) c n (said_at w c n)) (λ w. apply_if_grows (is_due w c n) c n (said_at w c n))

-- ---- local declarations

mark_grows : (n : ℕ) → Grows (mark n)
mark_grows n = record {
  reaches = λ w. book_grows w (with_mark n w.book) (grows-mark n w.book) (marks-mark n w.book)
      (λ placed. change_placed w.overrides w.owners w.book placed marked (λ r. refl) n);
}

take_grows : (c n : ℕ) → Grows (take c n)
unfolding take
take_grows c n = and_then (mark_grows n) (λ b. and_then (block_grows c n) (λ d. pure_grows {a = b || d}))

take_if_grows : (b : Bool) (c n : ℕ) → Grows (take_if b c n)
take_if_grows true c n = take_grows c n
take_if_grows false c n = pure_grows

pub local_match_grows : (c n : ℕ) → Grows (local_match c n)
unfolding local_match
local_match_grows c n = told (λ w. take_if (takes_at w c n) c n) (λ w. take_if_grows (takes_at w c n) c n)

-- ---- imports

declare_grows : (owner : ℕ) (node : List ℕ) (place : ℕ) (k : KnownKind) (e : Exported) →
    Grows (declare_rule owner node place k e)
unfolding declare_rule
declare_grows owner node place k e =
    put_grows (λ w. item_of (owner_at owner w.owners) w.book k e) (mode.Imported node place) (here_opened owner)

import_grows : (owner : ℕ) (node : List ℕ) (place : ℕ) (e : Exported) → Grows (import_rule owner node place e)
unfolding import_rule
import_grows owner node place e = and_then (answer_grows _) (λ k. and_then (declare_grows owner node place k e)
    (λ n. and_then (answer_grows _) (λ u. pure_grows {a = n})))

import_once_grows : (n : Option ℕ) (c owner : ℕ) (node : List ℕ) (place : ℕ) (e : Exported) →
    Grows (import_once n c owner node place e)
unfolding import_once
import_once_grows (Some n) c owner node place e = block_grows c n
import_once_grows None c owner node place e =
    and_then (import_grows owner node place e) (λ n. and_then (block_grows c n) (λ b. pure_grows {a = true}))

import_for_grows : (owner : Option ℕ) (c : ℕ) (node : List ℕ) (place : ℕ) (e : Exported) →
    Grows (import_for owner c node place e)
import_for_grows None c node place e = pure_grows
import_for_grows (Some owner) c node place e =
    told (λ w. import_once (import_of node place e.item w.book) c owner node place e)
    (λ w. import_once_grows (import_of node place e.item w.book) c owner node place e)

pub import_match_grows : (c : ℕ) (node : List ℕ) (place : ℕ) (e : Exported) → Grows (import_match c node place e)
unfolding import_match
import_match_grows c node place e =
    told (λ w. import_for (owner_for w c e) c node place e)
    (λ w. import_for_grows (owner_for w c e) c node place e)
