-- Whole texts within one limit and within another one.
use Rattle.std.proofs.Common.{◌≡◌, ℕ, zero, suc, ◌+◌, ◌<◌, ◌≤◌, ltb, Bool, true, not, List, Option, Ok, Err, refl, subst, arith}
use Rattle.std.proofs.lemmas.Bool.{le-ltb}
use Rattle.pp_lexer.specs.Seen.{Token}
use Rattle.pp_parser.specs.declared.refusal.Refusal.TheVariants as refusals
use Rattle.pp_grammar.proofs.Reader.Input.{Input, Outcome, Parser}
use Rattle.pp_grammar.proofs.Reader.Inner.{Inner}
use Rattle.pp_grammar.proofs.Reader.Manifest.{start}
use Rattle.pp_grammar.specs.Laws.{the_end, max_levels, Limit, everywhere, Whole}
use Rattle.pp_grammar.proofs.Local.Ahead.{Past}
use Rattle.pp_grammar.proofs.Local.Steps.{Deepens, Follows}
use Rattle.pp_grammar.proofs.Local.Limits.{twice, read_too, wrong_too, deep_too, no_memory, sooner, wider}
use Rattle.pp_grammar.proofs.Whole.Reading.{reading, IsReader}

-- so many levels up to a place, and so many further ones
abbrev pub limit : (levels behind further : ℕ) → Limit
limit levels behind further = record { levels = levels; behind = behind; further = further }

pub past_less : {A : Type 0} (k n : ℕ) (o : Outcome A) → k ≤ n → Past k o → Past n o
past_less k n (Ok p) h past = omega arith
past_less k n (Err (refusals.Wrong m)) h past = omega arith
past_less k n (Err (refusals.Deep m)) h past = omega arith
past_less k n (Err refusals.Memory) h past = past

pub none_past_zero : {A : Type 0} (o : Outcome A) → Past 0 o → ⊥
none_past_zero (Ok p) h = omega arith
none_past_zero (Err (refusals.Wrong n)) h = omega arith
none_past_zero (Err (refusals.Deep n)) h = omega arith
none_past_zero (Err refusals.Memory) h = h

module _ {A : Type 0} {W : Whole A} {p : Inner → Parser A} (R : IsReader W p) where
  -- ---- readers

  pub more_later : (ts : List Token) (first behind levels more greater : ℕ) → first ≤ behind → more < greater
      → Follows (twice (λ k. not (ltb behind k))) (reading p (limit levels first more) (start ts)) (reading p (limit levels behind greater) (start ts))
  more_later ts first behind levels more greater = sooner p R.follows first behind levels more greater (start ts)

  pub more_everywhere : (ts : List Token) (behind levels more n : ℕ) → levels + more < n
      → Follows (twice (λ k. true)) (reading p (limit levels behind more) (start ts)) (reading p (everywhere n) (start ts))
  more_everywhere ts behind levels more n = wider p R.follows behind levels more n (start ts)

  -- ---- what stands there

  -- the limit holds up to an earlier place
  pub later_too : (ts : List Token) (found : A) (key : Option ℕ) (first behind levels more greater : ℕ) → first ≤ behind → more < greater
      → W (limit levels first more) ts found key → W (limit levels behind greater) ts found key
  later_too ts found key first behind levels more greater h k file =
      R.stands (limit levels behind greater) ts found (the_end key)
      (read_too (λ n. not (ltb behind n)) (reading p (limit levels first more) (start ts)) (reading p (limit levels behind greater) (start ts)) found (the_end key) (R.read (limit levels first more) ts found key file) (more_later ts first behind levels more greater h k))

  -- with more levels everywhere
  pub everywhere_too : (ts : List Token) (found : A) (key : Option ℕ) (behind levels more n : ℕ) → levels + more < n → W (limit levels behind more) ts found key → W (everywhere n) ts found key
  everywhere_too ts found key behind levels more n h file =
      R.stands (everywhere n) ts found (the_end key)
      (read_too (λ _. true) (reading p (limit levels behind more) (start ts)) (reading p (everywhere n) (start ts)) found (the_end key) (R.read (limit levels behind more) ts found key file) (more_everywhere ts behind levels more n h))

  -- ---- a text that is read with many levels, and that passes the limit behind a place alone

  module _ (ts : List Token) (behind enough : ℕ) (found : A) (end : Input) (reads : (n : ℕ) → enough ≤ n → reading p (everywhere n) (start ts) ≡ Ok (found, end)) where
    never_wrong : (place levels more k : ℕ) → reading p (limit levels place more) (start ts) ≡ Err (refusals.Wrong k) → ⊥
    never_wrong place levels more k e =
        let n = suc (levels + more) + enough in
        let w = wrong_too (λ _. true) (reading p (limit levels place more) (start ts)) (reading p (everywhere n) (start ts)) k e (more_everywhere ts place levels more n (omega arith)) in
        let r = reads n (omega arith) in
        absurd cc

    never_memory : (place levels more : ℕ) → reading p (limit levels place more) (start ts) ≡ Err refusals.Memory → ⊥
    never_memory place levels more e = no_memory (λ _. true) (reading p (limit levels place more) (start ts)) (reading p (everywhere (suc (levels + more))) (start ts)) e (more_everywhere ts place levels more (suc (levels + more)) (omega arith))

    -- within the limit up to the place
    abbrev pub Settled : Type 0
    Settled = (further : ℕ) × (f : A) × (j : Input) × (reading p (limit max_levels behind further) (start ts) ≡ Ok (f, j))

    deep_behind : (further k : ℕ) → k ≤ behind → reading p (limit max_levels behind further) (start ts) ≡ Err (refusals.Deep k) → Past k (reading p (limit max_levels behind (suc further)) (start ts))
    deep_behind further k h e =
        let d = deep_too (λ n. not (ltb behind n)) (reading p (limit max_levels behind further) (start ts)) (reading p (limit max_levels behind (suc further)) (start ts)) k e (more_later ts behind behind max_levels further (suc further) (omega arith) (omega arith)) in
        subst (λ (b : Bool). Deepens (not b) k (reading p (limit max_levels behind (suc further)) (start ts))) (le-ltb behind k h) d

    settled_by : (b further : ℕ) (o : Outcome A) → reading p (limit max_levels behind further) (start ts) ≡ o → Past b o → b ≤ behind → ((k : ℕ) → k < b → reading p (limit max_levels behind further) (start ts) ≡ Err (refusals.Deep k) → Settled) → Settled
    settled_by b further (Ok r) e past h go = (further, r.0, r.1, e)
    settled_by b further (Err (refusals.Wrong k)) e past h go = absurd (never_wrong behind max_levels further k e)
    settled_by b further (Err (refusals.Deep k)) e past h go = go k past e
    settled_by b further (Err refusals.Memory) e past h go = absurd past

    settled_from : (b further : ℕ) → Past b (reading p (limit max_levels behind further) (start ts)) → b ≤ behind → Settled
    settled_from zero further past h = absurd (none_past_zero (reading p (limit max_levels behind further) (start ts)) past)
    settled_from (suc b) further past h =
        settled_by (suc b) further (reading p (limit max_levels behind further) (start ts)) refl past h
        (λ k less e. settled_from b (suc further) (past_less k b (reading p (limit max_levels behind (suc further)) (start ts)) (omega arith) (deep_behind further k (omega arith) e)) (omega arith))

    first_deep : (k : ℕ) → k ≤ behind → reading p (everywhere max_levels) (start ts) ≡ Err (refusals.Deep k) → Past k (reading p (limit max_levels behind 1) (start ts))
    first_deep k h e =
        let d = deep_too (λ n. not (ltb behind n)) (reading p (everywhere max_levels) (start ts)) (reading p (limit max_levels behind 1) (start ts)) k e (more_later ts 0 behind max_levels 0 1 (omega arith) (omega arith)) in
        subst (λ (b : Bool). Deepens (not b) k (reading p (limit max_levels behind 1) (start ts))) (le-ltb behind k h) d

    first_by : (o : Outcome A) → reading p (everywhere max_levels) (start ts) ≡ o → ((k : ℕ) → reading p (everywhere max_levels) (start ts) ≡ Err (refusals.Deep k) → k ≤ behind) → Settled
    first_by (Ok r) e late =
        (1, r.0, r.1, read_too (λ n. not (ltb behind n)) (reading p (everywhere max_levels) (start ts)) (reading p (limit max_levels behind 1) (start ts)) r.0 r.1 e (more_later ts 0 behind max_levels 0 1 (omega arith) (omega arith)))
    first_by (Err (refusals.Wrong k)) e late = absurd (never_wrong 0 max_levels 0 k e)
    first_by (Err (refusals.Deep k)) e late = let h = late k e in settled_from k 1 (first_deep k h e) h
    first_by (Err refusals.Memory) e late = absurd (never_memory 0 max_levels 0 e)

    pub settled : ((k : ℕ) → reading p (everywhere max_levels) (start ts) ≡ Err (refusals.Deep k) → k ≤ behind) → Settled
    settled late = first_by (reading p (everywhere max_levels) (start ts)) refl late
