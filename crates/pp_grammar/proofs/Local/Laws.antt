-- Readers of files and of templates look at the next token alone.
use Rattle.std.proofs.Common.{◌≡◌, ◌≢◌, ℕ, ◌+◌, ◌-◌, ◌<◌, ◌≤◌, Bool, true, false, ◌⊎◌, inl, inr, List, [], ◌∷◌, ◌++◌, length, take, drop, Ok, Err, refl, sym, ap, subst, ◌∙◌, length-drop, arith}
use Rattle.std.proofs.lemmas.List.{take-append-drop}
use Rattle.std.proofs.Math.Decide.{dec_le}
use Rattle.pp_lexer.specs.Seen.{Token}
use Rattle.pp_parser.specs.declared.refusal.Refusal.TheVariants as refusals
use Rattle.pp_grammar.proofs.Reader.Input.{Input, Outcome, Parser}
use Rattle.pp_grammar.proofs.Reader.Levels.{within}
use Rattle.pp_grammar.proofs.Reader.Definitions.{main_manifest, module_file}
use Rattle.pp_grammar.proofs.Reader.Templates.{template}
use Rattle.pp_grammar.proofs.Reader.Manifest.{start}
use Rattle.pp_grammar.specs.Laws.{SameHead}
use Rattle.pp_grammar.proofs.Local.Ahead.{Past, RefusedAt, DeepAt, LooksAtNext}
use Rattle.pp_grammar.proofs.Local.Steps.{Cut, Alike, at_it, before_it, AlikeAt, Falls, Follows, Deepens, IsLocal, any}
use Rattle.pp_grammar.proofs.Local.Levels.{within_local}
use Rattle.pp_grammar.proofs.Local.Files.{main_manifest_local, module_file_local}
use Rattle.pp_grammar.proofs.Local.Templates.{template_local}

abbrev cut : (r s : List Token) → SameHead r s → Bool → Cut
cut r s same deeper = record { rest = r; other = s; same = same; deeper = λ _. deeper }

alike_behind : (pre r s : List Token) → Alike r s (pre ++ r) (pre ++ s)
alike_behind [] r s = at_it
alike_behind (t ∷ pre) r s = before_it t (alike_behind pre r s)

both_at : (pre r s : List Token) (same : SameHead r s) (deeper : Bool) → AlikeAt (cut r s same deeper) (start (pre ++ r)) (start (pre ++ s))
both_at pre r s same deeper = record { left = alike_behind pre r s; doubled = refl }

-- where the two texts are one
pub alike_same : {r ts us : List Token} → Alike r r ts us → ts ≡ us
alike_same at_it = refl
alike_same (before_it t h) = ap (λ ts. t ∷ ts) (alike_same h)

pub alike_itself : (ts : List Token) → Alike [] [] ts ts
alike_itself [] = at_it
alike_itself (t ∷ ts) = before_it t (alike_itself ts)

pub same_place : (i j : Input) → i.left ≡ j.left → i.doubled ≡ j.doubled → i ≡ j
same_place i j e f = λ x. record { left = e x; doubled = f x }

-- ---- outcomes

wrong : {A : Type 0} (c : Cut) (o other : Outcome A) → o ≡ Err (refusals.Wrong (length c.rest)) → Follows c o other → other ≡ Err (refusals.Wrong (length c.other))
wrong c o other e h =
    let t : (n : ℕ) × (other ≡ Err (refusals.Wrong n)) × (n + length c.rest ≡ length c.rest + length c.other) = subst (λ (x : Outcome _). Follows c x other) e h (omega arith) in
    let w : t.0 ≡ length c.other = omega arith in
    t.1 ∙ ap (λ k. Err (refusals.Wrong k)) w

too_deep : {A : Type 0} (c : Cut) (o other : Outcome A) → o ≡ Err (refusals.Deep (length c.rest)) → Follows c o other → Deepens (c.deeper (length c.rest)) (length c.other) other
too_deep c o other e h =
    let t : (n : ℕ) × Deepens (c.deeper (length c.rest)) n other × (n + length c.rest ≡ length c.rest + length c.other) = subst (λ (x : Outcome _). Follows c x other) e h (omega arith) in
    let w : t.0 ≡ length c.other = omega arith in
    subst (λ (n : ℕ). Deepens (c.deeper (length c.rest)) n other) w t.1

right : {A : Type 0} (same : SameHead [] []) (deeper : Bool) (o other : Outcome A) (x : A) (j : Input) → o ≡ Ok (x, j) → Follows (cut [] [] same deeper) o other → other ≡ Ok (x, j)
right same deeper o other x j e h =
    let t : (l : Input) × (other ≡ Ok (x, l)) × AlikeAt (cut [] [] same deeper) j l = subst (λ (w : Outcome _). Follows (cut [] [] same deeper) w other) e h (omega arith) in
    t.1 ∙ ap (λ (l : Input). Ok (x, l)) (sym (same_place j t.0 (alike_same t.2.left) t.2.doubled))

wrong_within : {A : Type 0} (i : Input) (o : Outcome A) (k : ℕ) → o ≡ Err (refusals.Wrong k) → Falls any i o → k ≤ length i.left
wrong_within i o k e h = subst (λ (x : Outcome _). Falls any i x) e h

deep_within : {A : Type 0} (i : Input) (o : Outcome A) (k : ℕ) → o ≡ Err (refusals.Deep k) → Falls any i o → k ≤ length i.left
deep_within i o k e h = subst (λ (x : Outcome _). Falls any i x) e h

no_memory : {A : Type 0} (i : Input) (o : Outcome A) → Falls any i o → o ≢ Err refusals.Memory
no_memory i o h e = subst (λ (x : Outcome _). Falls any i x) e h

-- ---- a reader of files for each number of levels

module _ {A : Type 0} (p : ℕ → Parser A) (each : (c : Cut) (n m : ℕ) → n ≤ m → ((k : ℕ) → c.deeper k ≡ true) × (n < m) ⊎ ((k : ℕ) → c.deeper k ≡ false) × (n ≡ m) → IsLocal c false any (p n) (p m)) where
  -- with equally many levels, and with more
  equally : (n : ℕ) (r s : List Token) (same : SameHead r s) → IsLocal (cut r s same false) false any (p n) (p n)
  equally n r s same = each (cut r s same false) n n (omega arith) (inr (λ k. refl, refl))

  with_more : (n m : ℕ) (r s : List Token) (same : SameHead r s) → n < m → IsLocal (cut r s same true) false any (p n) (p m)
  with_more n m r s same h = each (cut r s same true) n m (omega arith) (inl (λ k. refl, h))

  falls_at : (n : ℕ) (i : Input) → Falls any i (p n i)
  falls_at n i = (equally n [] [] refl).falls i

  equally_wrong : (n : ℕ) (pre r s : List Token) → SameHead r s → p n (start (pre ++ r)) ≡ Err (refusals.Wrong (length r)) → p n (start (pre ++ s)) ≡ Err (refusals.Wrong (length s))
  equally_wrong n pre r s same e = wrong (cut r s same false) (p n (start (pre ++ r))) (p n (start (pre ++ s))) e ((equally n r s same).follows refl (start (pre ++ r)) (start (pre ++ s)) (both_at pre r s same false))

  wrong_by : (n m : ℕ) (pre r s : List Token) → n ≤ m → SameHead r s → p n (start (pre ++ r)) ≡ Err (refusals.Wrong (length r)) → Dec (m ≤ n) → p m (start (pre ++ s)) ≡ Err (refusals.Wrong (length s))
  wrong_by n m pre r s h same e (yes k) = let w : n ≡ m = omega arith in subst (λ (l : ℕ). p l (start (pre ++ s)) ≡ Err (refusals.Wrong (length s))) w (equally_wrong n pre r s same e)
  wrong_by n m pre r s h same e (no k) =
      wrong (cut r s same true) (p n (start (pre ++ r))) (p m (start (pre ++ s))) e ((with_more n m r s same (omega arith)).follows refl (start (pre ++ r)) (start (pre ++ s)) (both_at pre r s same true))

  wrong_at : (n m : ℕ) (pre r s : List Token) → n ≤ m → SameHead r s → p n (start (pre ++ r)) ≡ Err (refusals.Wrong (length r)) → p m (start (pre ++ s)) ≡ Err (refusals.Wrong (length s))
  wrong_at n m pre r s h same e = wrong_by n m pre r s h same e (dec_le m n)

  deep_at : (n m : ℕ) (pre r s : List Token) → n < m → SameHead r s → p n (start (pre ++ r)) ≡ Err (refusals.Deep (length r)) → Past (length s) (p m (start (pre ++ s)))
  deep_at n m pre r s h same e =
      too_deep (cut r s same true) (p n (start (pre ++ r))) (p m (start (pre ++ s))) e ((with_more n m r s same h).follows refl (start (pre ++ r)) (start (pre ++ s)) (both_at pre r s same true))

  equally_deep : (n : ℕ) (pre r s : List Token) → SameHead r s → p n (start (pre ++ r)) ≡ Err (refusals.Deep (length r)) → p n (start (pre ++ s)) ≡ Err (refusals.Deep (length s))
  equally_deep n pre r s same e =
      too_deep (cut r s same false) (p n (start (pre ++ r))) (p n (start (pre ++ s))) e ((equally n r s same).follows refl (start (pre ++ r)) (start (pre ++ s)) (both_at pre r s same false))

  right_by : (n m : ℕ) (i : Input) (x : A) (j : Input) → n ≤ m → p n i ≡ Ok (x, j) → Dec (m ≤ n) → p m i ≡ Ok (x, j)
  right_by n m i x j h e (yes k) = let w : n ≡ m = omega arith in subst (λ (l : ℕ). p l i ≡ Ok (x, j)) w e
  right_by n m i x j h e (no k) =
      right refl true (p n i) (p m i) x j e ((with_more n m [] [] refl (omega arith)).follows refl i i (record { left = alike_itself i.left; doubled = refl }))

  right_at : (n m : ℕ) (i : Input) (x : A) (j : Input) → n ≤ m → p n i ≡ Ok (x, j) → p m i ≡ Ok (x, j)
  right_at n m i x j h e = right_by n m i x j h e (dec_le m n)

  never_at : (n m : ℕ) (pre r s : List Token) (x : A) (j : Input) → SameHead r s → p n (start (pre ++ r)) ≡ Err (refusals.Wrong (length r)) → Dec (n ≤ m) → p m (start (pre ++ s)) ≢ Ok (x, j)
  never_at n m pre r s x j same e (yes h) read = let w = wrong_at n m pre r s h same e in cc
  never_at n m pre r s x j same e (no h) read = let w = wrong_at n n pre r s (omega arith) same e in let v = right_at m n (start (pre ++ s)) x j (omega arith) read in cc

  refused_at : (n : ℕ) (ts : List Token) (k : ℕ) → p n (start ts) ≡ Err (refusals.Wrong k) → RefusedAt p n ts k
  refused_at n ts k e =
      let h = wrong_within (start ts) (p n (start ts)) k e (falls_at n (start ts)) in
      let pre = take (length ts - k) ts in
      let r = drop (length ts - k) ts in
      let s : pre ++ r ≡ ts = take-append-drop (length ts - k) ts in
      let l : length r ≡ k = omega (arith, length-drop (length ts - k) ts) in
      let w : p n (start (pre ++ r)) ≡ Err (refusals.Wrong (length r)) = ap (λ (us : List Token). p n (start us)) s ∙ e ∙ ap (λ (c : ℕ). Err (refusals.Wrong c)) (sym l) in
      record {
        before = pre;
        behind = r;
        is = sym s;
        count = l;
        stays = λ other m same below. wrong_at n m pre r other below same w;
        never_read = λ other m x j same. never_at n m pre r other x j same w (dec_le n m);
      }

  too_deep_at : (n : ℕ) (ts : List Token) (k : ℕ) → p n (start ts) ≡ Err (refusals.Deep k) → DeepAt p n ts k
  too_deep_at n ts k e =
      let h = deep_within (start ts) (p n (start ts)) k e (falls_at n (start ts)) in
      let pre = take (length ts - k) ts in
      let r = drop (length ts - k) ts in
      let s : pre ++ r ≡ ts = take-append-drop (length ts - k) ts in
      let l : length r ≡ k = omega (arith, length-drop (length ts - k) ts) in
      let w : p n (start (pre ++ r)) ≡ Err (refusals.Deep (length r)) = ap (λ (us : List Token). p n (start us)) s ∙ e ∙ ap (λ (c : ℕ). Err (refusals.Deep c)) (sym l) in
      record {
        before = pre;
        behind = r;
        is = sym s;
        count = l;
        stays = λ other same. equally_deep n pre r other same w;
        goes_on = λ other m same below. deep_at n m pre r other below same w;
      }

  looks_at_next : LooksAtNext p
  looks_at_next = record {
    refused = refused_at;
    deep = too_deep_at;
    read = λ n m ts x j h e. right_at n m (start ts) x j h e;
    memory = λ n ts. no_memory (start ts) (p n (start ts)) (falls_at n (start ts));
  }

pub main_manifest_looks : LooksAtNext (λ n. main_manifest (within n))
main_manifest_looks = looks_at_next (λ n. main_manifest (within n)) (λ c n m h way. main_manifest_local (within_local c n m h way))

pub module_file_looks : LooksAtNext (λ n. module_file (within n))
module_file_looks = looks_at_next (λ n. module_file (within n)) (λ c n m h way. module_file_local (within_local c n m h way))

pub template_looks : LooksAtNext (λ n. template (within n))
template_looks = looks_at_next (λ n. template (within n)) (λ c n m h way. template_local (within_local c n m h way))
