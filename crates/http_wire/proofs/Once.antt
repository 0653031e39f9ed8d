-- What stands at the front of bytes is one thing, whatever follows: so the answer to bytes does not depend on how they are cut.
use Rattle.std.proofs.Common.{◌≡◌, inl, inr, ℕ, ◌+◌, ◌-◌, Bool, List, [], ◌∷◌, ◌++◌, length, take, Option, Some, None, refl, sym, ap, ◌∙◌, subst, arith, append_assoc, append-nil, length-append}
use Rattle.std.proofs.Math.Seq.{take-append-add}
use Rattle.httparse.specs.Grammar.{RequestHead, print_request, ReadsRequest}
use Rattle.httparse.proofs.GrammarLemmas.{request_unique}
use Rattle.http_wire.specs.declared.request.HttpRequest.{HttpRequest}
use Rattle.http_wire.specs.declared.request.H.{H}
use Rattle.http_wire.specs.declared.request.H.TheVariants as h
use Rattle.http_wire.specs.Fields.{fields_of, body_length, closes, seen}
use Rattle.http_wire.specs.Messages.{most_head, HasNext, Begins, HasHead, IsOpen, Refuses}
use Rattle.http_wire.proofs.Fronts.{message_reads, some_alike}

-- ---- one request

module _ {A : Type 0} where
  -- lists that are as long are cut alike
  cut_alike : (xs ys us vs : List A) → length xs ≡ length us → xs ++ ys ≡ us ++ vs → (xs ≡ us) × (ys ≡ vs)
  cut_alike [] ys [] vs same is = (refl, is)
  cut_alike [] ys (u ∷ us) vs same is = absurd (omega (arith, same))
  cut_alike (x ∷ xs) ys [] vs same is = absurd (omega (arith, same))
  cut_alike (x ∷ xs) ys (u ∷ us) vs same is =
      let head : x ≡ u = cc (is) in let rest = cut_alike xs ys us vs (omega (arith, same)) (cc (is)) in
      (cc (head, rest.0), rest.1)

abbrev with_parts : List ℕ → List ℕ → Option (List ℕ) → Bool → List ℕ → ℕ → HttpRequest
with_parts method path said close body size = record { method = method; path = path; seen = said; close = close; body = body; size = size }

parts_alike : (r q : HttpRequest) → r.method ≡ q.method → r.path ≡ q.path → r.seen ≡ q.seen → r.close ≡ q.close → r.body ≡ q.body → r.size ≡ q.size → r ≡ q
parts_alike r q m p s c b z =
    ap (λ x. with_parts x r.path r.seen r.close r.body r.size) m
    ∙ ap (λ x. with_parts q.method x r.seen r.close r.body r.size) p
    ∙ ap (λ x. with_parts q.method q.path x r.close r.body r.size) s
    ∙ ap (λ x. with_parts q.method q.path q.seen x r.body r.size) c
    ∙ ap (λ x. with_parts q.method q.path q.seen q.close x r.size) b
    ∙ ap (λ x. with_parts q.method q.path q.seen q.close q.body x) z

-- the request at the front of bytes, and what stands behind it, are determined
pub one_request : (bytes : List ℕ) (r q : HttpRequest) (a b : List ℕ) → HasNext bytes r a → HasNext bytes q b → (r ≡ q) × (a ≡ b)
one_request bytes r q a b (front, is, cut) (front', is', cut') =
    let heads = request_unique bytes is.head is'.head (r.body ++ a) (q.body ++ b) (message_reads bytes a r (front, is, cut)) (message_reads bytes b q (front', is', cut')) in
    let lengths : length r.body ≡ length q.body = some_alike (length r.body) (length q.body)
    (sym is.announced ∙ ap (λ k. body_length (fields_of k)) heads.0 ∙ is'.announced) in
    let bodies = cut_alike r.body a q.body b lengths heads.1 in
    let sizes : r.size ≡ q.size =
    is.size ∙ ap length is.bytes_are ∙ ap (λ k. length (print_request k ++ r.body)) heads.0 ∙ ap (λ l. length (print_request is'.head ++ l)) bodies.0
    ∙ ap length (sym is'.bytes_are) ∙ sym is'.size in (
      parts_alike r q (is.method ∙ ap (λ k. k.method) heads.0 ∙ sym is'.method)
          (is.path ∙ ap (λ k. k.target) heads.0 ∙ sym is'.path)
          (is.seen ∙ ap (λ k. seen (fields_of k)) heads.0 ∙ sym is'.seen)
          (is.close ∙ ap (λ k. closes k.minor (fields_of k)) heads.0 ∙ sym is'.close)
          bodies.0 sizes,
      bodies.1,
    )

-- it stays while bytes are added
pub request_stays : (bytes more : List ℕ) (r : HttpRequest) (a : List ℕ) → HasNext bytes r a → HasNext (bytes ++ more) r (a ++ more)
request_stays bytes more r a (front, is, cut) = (front, is, ap (λ l. l ++ more) cut ∙ append_assoc front a more)

-- and so are as many requests, one after another
pub begins_once : (bytes rest rest' : List ℕ) (rs qs : List HttpRequest) → Begins bytes rs rest → Begins bytes qs rest' → length rs ≡ length qs
    → (rs ≡ qs) × (rest ≡ rest')
begins_once bytes rest rest' [] [] one two same = (refl, sym one ∙ two)
begins_once bytes rest rest' [] (q ∷ qs) one two same = absurd (omega (arith, same))
begins_once bytes rest rest' (r ∷ rs) [] one two same = absurd (omega (arith, same))
begins_once bytes rest rest' (r ∷ rs) (q ∷ qs) (back, next, further) (back', next', further') same =
    let here = one_request bytes r q back back' next next' in
    let more = begins_once back' rest rest' rs qs (subst (λ l. Begins l rs rest) here.1 further) further' (omega (arith, same)) in
    (ap (λ x. x ∷ rs) here.0 ∙ ap (λ l. q ∷ l) more.0, more.1)

-- ---- a request excludes all else

-- another head at the front is the same one
same_announced : (bytes back rest : List ℕ) (head : RequestHead) (r : HttpRequest) → HasHead bytes head back → (next : HasNext bytes r rest)
    → (next.1.head ≡ head) × (r.body ++ rest ≡ back)
same_announced bytes back rest head r has next = request_unique bytes next.1.head head (r.body ++ rest) back (message_reads bytes rest r next) (has.0, has.2)

pub not_open : (bytes rest : List ℕ) (r : HttpRequest) → HasNext bytes r rest → IsOpen bytes → ⊥
not_open bytes rest r next (inl (short, (none, may))) = none next.1.head (r.body ++ rest) (message_reads bytes rest r next)
not_open bytes rest r next (inr (n, back, (head, has, few, says), fits, short)) =
    let same = same_announced bytes back rest head r has next in
    let size : length r.body ≡ n = some_alike (length r.body) n (sym next.1.announced ∙ ap (λ k. body_length (fields_of k)) same.0 ∙ says) in
    let all = ap length same.1 in let sum = length-append r.body rest in omega (arith, size, all, sum, short)

front_reads : (bytes rest : List ℕ) (r : HttpRequest) (next : HasNext bytes r rest) → (back : List ℕ) × ReadsRequest (take most_head bytes) next.1.head back
front_reads bytes rest r next =
    let printed = print_request next.1.head in
    let short = next.1.short in
    let size : most_head ≡ length printed + (most_head - length printed) = omega (arith, short) in
    let reads = message_reads bytes rest r next in (
      _,
      (
        reads.0,
        ap (take most_head) reads.1 ∙ ap (λ n. take n (printed ++ (r.body ++ rest))) size
            ∙ take-append-add printed (r.body ++ rest) (most_head - length printed),
      ),
    )

pub not_refused : (bytes rest : List ℕ) (r : HttpRequest) (why : H) (ended : Type 0) → HasNext bytes r rest → Refuses why bytes ended → ⊥
not_refused bytes rest r h.BadHead ended next (inl (never, apart)) =
    let front = front_reads bytes rest r next in
    never [] next.1.head front.0 (subst (λ l. ReadsRequest l next.1.head front.0) (sym (append-nil (take most_head bytes))) front.1)
not_refused bytes rest r h.BadHead ended next (inr (head, back, has, many)) =
    let same = ap (λ k. length k.fields) (same_announced bytes back rest head r has next).0 in let few = next.1.few in omega (arith, same, many, few)
not_refused bytes rest r h.BadLength ended next (back, (head, has, few, says)) =
    absurd (none_is_some _ (sym says ∙ ap (λ k. body_length (fields_of k)) (sym (same_announced bytes back rest head r has next).0) ∙ next.1.announced))
  where
    none_is_some : (n : ℕ) → None ≡ Some n → ⊥
    none_is_some n is = cc
not_refused bytes rest r h.TooLarge ended next (inl (long, (none, may))) =
    let front = front_reads bytes rest r next in none next.1.head front.0 front.1
not_refused bytes rest r h.TooLarge ended next (inr (n, back, (head, has, few, says), large)) =
    let size : length r.body ≡ n = some_alike (length r.body) n
    (sym next.1.announced ∙ ap (λ k. body_length (fields_of k)) (same_announced bytes back rest head r has next).0 ∙ says) in
    let fits = next.1.fits in omega (arith, size, large, fits)
not_refused bytes rest r h.Truncated ended next (end, some, unended) = not_open bytes rest r next unended
