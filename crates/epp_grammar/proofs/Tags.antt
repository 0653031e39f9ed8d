-- How a tag begins and ends, as `front_at` tells it.
use Rattle.std.proofs.Common.{◌≡◌, ◌⊎◌, ℕ, ◌+◌, ◌-◌, ◌<◌, ◌==◌, Bool, true, false, ◌&&◌, List, [], ◌∷◌}
use Rattle.std.proofs.Common.{◌++◌, append_assoc, length, take, drop, get_or, Option, None, Some, inl, inr, refl, sym, ap}
use Rattle.std.proofs.Common.{subst, ◌∙◌, arith}
use Rattle.std.proofs.lemmas.Bool.{eqb-true, ltb-true, lt-ltb}
use Rattle.std.proofs.lemmas.List.{append-nil, length-append}
use Rattle.std.proofs.Math.Nat.{add-sub_cancel_left}
use Rattle.std.proofs.Math.Seq.{drop-append_seam, get_or-append_seam, take-append_seam}
use Rattle.std.specs.Prelude.{slice_index, slice_range, nat_lt, codes}
use Rattle.epp_text.specs.Pieces.{front, front_at, tag, tag_by, ended, close_from, dropped_len, drops_break, opener_len}
use Rattle.epp_text.specs.Pieces.{tag_kind}
use Rattle.epp_text.specs.declared.piece.PieceKind.{PieceKind}
use Rattle.epp_text.specs.declared.piece.PieceKind.TheVariants as kinds
use Rattle.epp_grammar.specs.Texts.{Begins, Closes, EndsWith, HoldsCloser, Opens}
use Rattle.epp_grammar.proofs.Bytes.{both, both_true, if_false, last_of, not_true, other_byte, same_byte}
use Rattle.epp_grammar.proofs.Closers.{before_dash, close_at, close_none}
use Rattle.epp_grammar.proofs.Drops.{IsDropped, dropped}

-- ---- how it begins

pub record IsOpened (begins : Bool) (z : List ℕ) (kind : Option PieceKind) (inner : List ℕ) : Type 0 where
  pub op : List ℕ
  pub is : z ≡ op ++ inner
  pub some : 0 < length op
  pub front : front_at begins z ≡ tag_by kind (length op) (close_from (length op) inner) z

code_front : (begins : Bool) (c : ℕ) (w : List ℕ) → (c == 61) ≡ false → (c == 35) ≡ false → (c == 45) ≡ false
    → (c == 37) ≡ false
    → front_at begins (60 ∷ 37 ∷ c ∷ w)
    ≡ tag_by (Some kinds.Code) 2 (close_from 2 (c ∷ w)) (60 ∷ 37 ∷ c ∷ w)
unfolding front_at tag
code_front begins c w equals hash dash percent =
    let z : List ℕ = 60 ∷ 37 ∷ c ∷ w in
    let kind : tag_kind c ≡ Some kinds.Code = rw (equals, hash) refl in
    let len : opener_len c ≡ 2 = rw (equals, hash, dash) refl in
    if_false (c == 37) (front (Some kinds.Text) 0 2 3 false) (tag z) percent
    ∙ (λ i. tag_by (kind i) (len i) (close_from (len i) (drop (len i) z)) z)

code_opened : (begins : Bool) (inner : List ℕ) → (Begins (codes "=") inner → ⊥) → (Begins (codes "#") inner → ⊥)
    → (Begins (codes "-") inner → ⊥) → (Begins (codes "%") inner → ⊥)
    → IsOpened begins (60 ∷ 37 ∷ inner) (Some kinds.Code) inner
unfolding front_at tag
code_opened begins [] a b c d = record { op = 60 ∷ 37 ∷ []; is = refl; some = omega arith; front = refl }
code_opened begins (x ∷ w) a b c d = record {
  op = 60 ∷ 37 ∷ [];
  is = refl;
  some = omega arith;
  front = code_front begins x w (other_byte x 61 (λ e. a (w, λ i. e i ∷ w))) (other_byte x 35 (λ e. b (w, λ i. e i ∷ w)))
      (other_byte x 45 (λ e. c (w, λ i. e i ∷ w))) (other_byte x 37 (λ e. d (w, λ i. e i ∷ w)));
}

pub opened : (begins : Bool) (z : List ℕ) {kind : Option PieceKind} {inner : List ℕ} → Opens z kind inner
    → IsOpened begins z kind inner
unfolding front_at tag
opened begins z (Opens.value inner is) =
    subst (λ y. IsOpened begins y (Some kinds.Value) inner) (sym is)
    (record { op = 60 ∷ 37 ∷ 61 ∷ []; is = refl; some = omega arith; front = refl })
opened begins z (Opens.comment inner is) =
    subst (λ y. IsOpened begins y None inner) (sym is)
    (record { op = 60 ∷ 37 ∷ 35 ∷ []; is = refl; some = omega arith; front = refl })
opened begins z (Opens.dropping_code inner is) =
    subst (λ y. IsOpened begins y (Some kinds.Code) inner) (sym is)
    (record { op = 60 ∷ 37 ∷ 45 ∷ []; is = refl; some = omega arith; front = refl })
opened begins z (Opens.code inner is a b c d) =
    subst (λ y. IsOpened begins y (Some kinds.Code) inner) (sym is) (code_opened begins inner a b c d)

-- ---- how it ends

pub slice_at : (op text w : List ℕ)
    → slice_range (op ++ (text ++ w)) (length op) (length op + length text) ≡ text
slice_at op text w =
    ap (λ z. take (length op + length text - length op) z) (drop-append_seam op (text ++ w))
    ∙ (ap (λ n. take n (text ++ w)) (add-sub_cancel_left (length op) (length text)) ∙ take-append_seam text w)

-- the byte before the end of a text that ends with it
byte_before : (op front : List ℕ) (b : ℕ) (w : List ℕ)
    → slice_index (op ++ ((front ++ b ∷ []) ++ w)) (length op + length (front ++ b ∷ []) - 1) ≡ b
byte_before op front b w =
    let long : length (front ++ b ∷ []) ≡ length front + 1 = length-append front (b ∷ []) in
    let both_long : length (op ++ front) ≡ length op + length front = length-append op front in
    let place : length op + length (front ++ b ∷ []) - 1 ≡ length (op ++ front) = omega (arith, long, both_long) in
    let is : op ++ ((front ++ b ∷ []) ++ w) ≡ (op ++ front) ++ b ∷ w =
    ap (λ t. op ++ t) (append_assoc front (b ∷ []) w) ∙ sym (append_assoc op front (b ∷ w)) in
    ap (λ n. get_or (op ++ ((front ++ b ∷ []) ++ w)) n 0) place
    ∙ (ap (λ z. get_or z (length (op ++ front)) 0) is ∙ get_or-append_seam (op ++ front) b w 0)

-- whether a `-` stands before `%>`
pub is_dashed : ℕ → ℕ → List ℕ → Bool
is_dashed from end z = nat_lt from end && slice_index z (end - 1) == 45

not_dashed : (op text w : List ℕ) → (EndsWith 45 text → ⊥)
    → is_dashed (length op) (length op + length text) (op ++ (text ++ w)) ≡ false
unfolding is_dashed
not_dashed op text w none = not_true _ (λ t.
    let p = both (nat_lt (length op) (length op + length text))
    (slice_index (op ++ (text ++ w)) (length op + length text - 1) == 45) t in
    let less : length op < length op + length text = ltb-true (length op) (length op + length text) p.0 in
    by (last_of text) less (eqb-true _ 45 p.1)) where
      by : (text ≡ []) ⊎ ((front : List ℕ) × (b : ℕ) × (text ≡ front ++ b ∷ [])) → length op < length op + length text
          → slice_index (op ++ (text ++ w)) (length op + length text - 1) ≡ 45 → ⊥
      by (inl nothing) less e = let long : length text ≡ 0 = ap length nothing in omega (arith, long, less)
      by (inr some) less e =
          let byte : slice_index (op ++ (text ++ w)) (length op + length text - 1) ≡ some.1 =
          ap (λ t. slice_index (op ++ (t ++ w)) (length op + length t - 1)) some.2 ∙ byte_before op some.0 some.1 w in
          none (some.0, some.2 ∙ ap (λ b. some.0 ++ b ∷ []) (sym byte ∙ e))

dashed : (op text w : List ℕ)
    → is_dashed (length op) (length op + length (text ++ 45 ∷ [])) (op ++ ((text ++ 45 ∷ []) ++ w)) ≡ true
unfolding is_dashed
dashed op text w =
    let long : length (text ++ 45 ∷ []) ≡ length text + 1 = length-append text (45 ∷ []) in
    both_true _ _ (lt-ltb (length op) (length op + length (text ++ 45 ∷ [])) (omega (arith, long)))
    (same_byte _ 45 (byte_before op text 45 w))

-- what stands at a place, and what `front_at` tells of it
pub record IsAt (begins : Bool) (z : List ℕ) (kind : Option PieceKind) (text : List ℕ) (behind : Bool) (rest : List ℕ)
    : Type 0 where
  pub taken : List ℕ
  pub whole : z ≡ taken ++ rest
  pub from : ℕ
  pub to : ℕ
  pub is : front_at begins z ≡ front kind from to (length taken) behind
  pub says : slice_range z from to ≡ text
  pub moves : 0 < length taken

plain_at : (begins : Bool) (z : List ℕ) (kind : Option PieceKind) (inner text rest : List ℕ)
    → IsOpened begins z kind inner → inner ≡ text ++ 37 ∷ 62 ∷ rest → (HoldsCloser text → ⊥) → (EndsWith 45 text → ⊥)
    → IsAt begins z kind text false rest
unfolding is_dashed
plain_at begins z kind inner text rest o is none no_dash =
    let from : ℕ = length o.op in
    let end : ℕ = from + length text in
    let z_is : z ≡ o.op ++ (text ++ 37 ∷ 62 ∷ rest) = o.is ∙ ap (λ t. o.op ++ t) is in
    let close : close_from from inner ≡ Some end = ap (close_from from) is ∙ close_at from text rest none in
    let test : is_dashed from end z ≡ false =
    ap (is_dashed from end) z_is ∙ not_dashed o.op text (37 ∷ 62 ∷ rest) no_dash in
    let taken : List ℕ = o.op ++ (text ++ 37 ∷ 62 ∷ []) in
    let long : length taken ≡ from + (length text + 2) =
    length-append o.op (text ++ 37 ∷ 62 ∷ []) ∙ ap (λ n. from + n) (length-append text (37 ∷ 62 ∷ [])) in
    let len : end + 2 ≡ length taken = omega (arith, long) in
    let some = o.some in
    record {
      taken = taken;
      whole = z_is ∙ (ap (λ t. o.op ++ t) (sym (append_assoc text (37 ∷ 62 ∷ []) rest))
          ∙ sym (append_assoc o.op (text ++ 37 ∷ 62 ∷ []) rest));
      from = from;
      to = end;
      is = o.front ∙ (ap (λ c. tag_by kind from c z) close
          ∙ (ap (λ b. ended b kind from end z) test ∙ ap (λ n. front kind from end n false) len));
      says = ap (λ t. slice_range t from end) z_is ∙ slice_at o.op text (37 ∷ 62 ∷ rest);
      moves = omega (arith, long, some);
    }

dropping_at : (begins : Bool) (z : List ℕ) (kind : Option PieceKind) (inner text behind rest : List ℕ) (broken : Bool)
    → IsOpened begins z kind inner → inner ≡ text ++ 45 ∷ 37 ∷ 62 ∷ behind → (HoldsCloser text → ⊥)
    → IsDropped behind broken rest → IsAt begins z kind text broken rest
unfolding is_dashed
dropping_at begins z kind inner text behind rest broken o is none d =
    let from : ℕ = length o.op in
    let full : List ℕ = text ++ 45 ∷ [] in
    let end : ℕ = from + length full in
    let is_full : inner ≡ full ++ 37 ∷ 62 ∷ behind = is ∙ sym (append_assoc text (45 ∷ []) (37 ∷ 62 ∷ behind)) in
    let none_full : HoldsCloser full → ⊥ = λ h. none (before_dash text h.0 h.1 h.2) in
    let z_is : z ≡ o.op ++ (full ++ 37 ∷ 62 ∷ behind) = o.is ∙ ap (λ t. o.op ++ t) is_full in
    let close : close_from from inner ≡ Some end = ap (close_from from) is_full ∙ close_at from full behind none_full in
    let test : is_dashed from end z ≡ true = ap (is_dashed from end) z_is ∙ dashed o.op text (37 ∷ 62 ∷ behind) in
    let long_full : length full ≡ length text + 1 = length-append text (45 ∷ []) in
    let opening : List ℕ = o.op ++ (full ++ 37 ∷ 62 ∷ []) in
    let long_opening : length opening ≡ end + 2 =
    length-append o.op (full ++ 37 ∷ 62 ∷ [])
    ∙ (ap (λ n. from + n) (length-append full (37 ∷ 62 ∷ [])) ∙ (let e : from + (length full + 2) ≡ end + 2 = omega arith in e))
    in
    let z_open : z ≡ opening ++ behind =
    z_is ∙ (ap (λ t. o.op ++ t) (sym (append_assoc full (37 ∷ 62 ∷ []) behind))
    ∙ sym (append_assoc o.op (full ++ 37 ∷ 62 ∷ []) behind)) in
    let left : drop (end + 2) z ≡ behind =
    ap (λ n. drop n z) (sym long_opening) ∙ (ap (drop (length opening)) z_open ∙ drop-append_seam opening behind) in
    let taken : List ℕ = opening ++ d.taken in
    let long : length taken ≡ end + 2 + length d.taken =
    length-append opening d.taken ∙ ap (λ n. n + length d.taken) long_opening in
    let to : end - 1 ≡ from + length text = omega (arith, long_full) in
    let some = o.some in
    record {
      taken = taken;
      whole = z_open ∙ (ap (λ t. opening ++ t) d.is ∙ sym (append_assoc opening d.taken rest));
      from = from;
      to = from + length text;
      is = o.front ∙ (ap (λ c. tag_by kind from c z) close
          ∙ (ap (λ b. ended b kind from end z) test
          ∙ ((λ i. front kind from (to i) (end + 2 + dropped_len (left i)) (drops_break (left i)))
          ∙ ((λ i. front kind from (from + length text) (end + 2 + d.long i) (d.broke i))
          ∙ ap (λ n. front kind from (from + length text) n broken) (sym long)))));
      says = ap (λ t. slice_range t from (from + length text)) (o.is ∙ ap (λ t. o.op ++ t) is)
          ∙ slice_at o.op text (45 ∷ 37 ∷ 62 ∷ behind);
      moves = omega (arith, long, some);
    }

pub tag_at : (begins : Bool) (z : List ℕ) (kind : Option PieceKind) (inner : List ℕ) {text : List ℕ} {behind : Bool}
    {rest : List ℕ} → Opens z kind inner → Closes inner text behind rest → IsAt begins z kind text behind rest
tag_at begins z kind inner o (Closes.plain text rest is none no_dash) =
    plain_at begins z kind inner text rest (opened begins z o) is none no_dash
tag_at begins z kind inner o (Closes.dropping text after rest behind is none d) =
    dropping_at begins z kind inner text after rest behind (opened begins z o) is none
    (dropped after d)

pub unclosed_at : (begins : Bool) (z : List ℕ) (kind : Option PieceKind) (inner : List ℕ) → Opens z kind inner
    → (HoldsCloser inner → ⊥) → IsAt begins z (Some kinds.Unclosed) [] false []
unclosed_at begins z kind inner opening none =
    let o = opened begins z opening in
    let long : length z ≡ length o.op + length inner = ap length o.is ∙ length-append o.op inner in
    let some = o.some in
    record {
      taken = z;
      whole = sym (append-nil z);
      from = 0;
      to = 0;
      is = o.front ∙ ap (λ c. tag_by kind (length o.op) c z) (close_none (length o.op) inner none);
      says = refl;
      moves = omega (arith, long, some);
    }
