-- Values put on one another by their keys from the lowest up lead to what the merge from the highest down does.
use Rattle.std.proofs.Common.{◌≡◌, ℕ, zero, suc, ◌+◌, ◌<◌, ◌≤◌, Bool, true, false, not, cond, ◌||◌, None, Some, IsTrue, List, [], ◌∷◌, ◌++◌, length, map, reverse, refl, ap, sym, subst, ◌∙◌, arith, append_assoc, append-nil, true≢false}
use Rattle.std.specs.Cmp.{second_so}
use Rattle.std.specs.List.{fold, list_any}
use Rattle.std.proofs.Common.{get_or, take}
use Rattle.std.specs.Prelude.{slice_set}
use Rattle.std.proofs.lemmas.List.{map-append, reverse-append, take_more}
use Rattle.std.proofs.lemmas.List.Folds.{list_any-append}
use Rattle.std.proofs.lemmas.List.Sums.{fold-append}
use Rattle.std.proofs.lemmas.Grind.{common_steps}
use Rattle.pp_funcs.specs.Lists.{with_new}
use Rattle.pp_funcs.proofs.SameOnes.{one_value}
use Rattle.pp_ops.specs.Same.{same}
use Rattle.pp_values.specs.declared.value.Value.{Value}
use Rattle.pp_values.specs.Views.{view, views, pair_view, pair_views}
use Rattle.hiera_merge.specs.declared.deepening.Column.{Column}
use Rattle.pp_values.specs.Datum.{Datum, undef, flag, int, text, list, hash, reference, kind, default, Pair, entries_of, pairs_of, data_of, members_of}
use Rattle.pp_values.specs.Keys.{same_key, are_distinct, lacks, value_at, without_key}
use Rattle.pp_values.specs.Places.{place_of}
use Rattle.pp_values.specs.Sizes.{datum_size, data_size, pairs_size}
use Rattle.pp_values.proofs.Distinct.{one_key}
use Rattle.pp_values.proofs.Lists.{members_of-data_of, entries_of-pairs_of, data_of-members_of}
use Rattle.hiera_merge.specs.Merges.{pairs_in, members_in, joined, is_hash, is_list, deep, deep_merge}
use Rattle.hiera_merge.specs.DeepSteps.{Stack, AreKeyed, members_of_all, lists_joined, up_from, met, laid, laid_all, raised, put_stack, put_stacks, put_hashes, top, raised_at, stack, stacks, merged_stack, over, stacks_size}
use Rattle.hiera_merge.proofs.LaidLemmas.{pairs_fall, either_way, apart, laid_whole, deep_distinct, rest_lacks, rest_distinct}

-- ---- one key taken out, and another looked for

-- two keys of which one is that of the pair are apart from it as they are from one another
other_key : (k j q : Datum) → same_key k j ≡ false → same_key j q ≡ true → same_key k q ≡ false
other_key k j q other is = subst (λ x. same_key k x ≡ false) (one_key j q is) other

value_past : (b c : Bool) (k j : Datum) (q : Pair) (qs : List Pair) → same_key k q.0 ≡ c → (b ≡ true → c ≡ false)
    → value_at k (without_key j qs) ≡ value_at k qs
    → value_at k (cond b qs (q ∷ without_key j qs)) ≡ cond c (Some q.1) (value_at k qs)
value_past true c k j q qs is apart before =
    sym (ap (λ x. cond x (Some q.1) (value_at k qs)) (apart refl))
value_past false c k j q qs is apart before =
    ap (λ x. cond x (Some q.1) (value_at k (without_key j qs))) is
    ∙ ap (λ o. cond c (Some q.1) o) before

pub value_without : (k j : Datum) (qs : List Pair) → same_key k j ≡ false
    → value_at k (without_key j qs) ≡ value_at k qs
value_without k j [] other = refl
value_without k j (q ∷ qs) other =
    value_past (same_key j q.0) (same_key k q.0) k j q qs refl (other_key k j q.0 other) (value_without k j qs other)

both_past : (b c : Bool) (k j : Datum) (q : Pair) (qs : List Pair) → same_key j q.0 ≡ b → same_key k q.0 ≡ c
    → (b ≡ true → c ≡ false)
    → without_key k (without_key j qs) ≡ without_key j (without_key k qs)
    → without_key k (cond b qs (q ∷ without_key j qs)) ≡ without_key j (cond c qs (q ∷ without_key k qs))
both_past true true k j q qs is_j is_k apart before = absurd (true≢false (apart refl))
both_past true false k j q qs is_j is_k apart before =
    sym (ap (λ b. cond b (without_key k qs) (q ∷ without_key j (without_key k qs))) is_j)
both_past false true k j q qs is_j is_k apart before =
    ap (λ b. cond b (without_key j qs) (q ∷ without_key k (without_key j qs))) is_k
both_past false false k j q qs is_j is_k apart before =
    ap (λ b. cond b (without_key j qs) (q ∷ without_key k (without_key j qs))) is_k
    ∙ ap (λ ps. q ∷ ps) before
    ∙ sym (ap (λ b. cond b (without_key k qs) (q ∷ without_key j (without_key k qs))) is_j)

pub without_both : (k j : Datum) (qs : List Pair) → same_key k j ≡ false
    → without_key k (without_key j qs) ≡ without_key j (without_key k qs)
without_both k j [] other = refl
without_both k j (q ∷ qs) other =
    both_past (same_key j q.0) (same_key k q.0) k j q qs refl refl (other_key k j q.0 other) (without_both k j qs other)

-- ---- what the lower's other pairs leave as it is

value_laid : (k : Datum) (high ps : List Pair) → IsTrue (lacks k ps) → value_at k (laid high ps) ≡ value_at k high
value_laid k high [] h = refl
value_laid k high (p ∷ ps) h =
    ap (λ b. cond b (Some (met p.1 (value_at p.0 high))) (value_at k (laid (without_key p.0 high) ps))) (apart k p ps h)
    ∙ value_laid k (without_key p.0 high) ps (second_so (not (same_key p.0 k)) _ h)
    ∙ value_without k p.0 high (apart k p ps h)

without_laid : (k : Datum) (high ps : List Pair) → IsTrue (lacks k ps)
    → without_key k (laid high ps) ≡ laid (without_key k high) ps
without_laid k high [] h = refl
without_laid k high (p ∷ ps) h =
    let other : same_key k p.0 ≡ false = apart k p ps h in
    let turned : same_key p.0 k ≡ false = either_way p.0 k ∙ other in
    ap (λ b. cond b (laid (without_key p.0 high) ps)
    ((p.0, met p.1 (value_at p.0 high)) ∷ without_key k (laid (without_key p.0 high) ps))) other
    ∙ ap (λ qs. (p.0, met p.1 (value_at p.0 high)) ∷ qs)
    (without_laid k (without_key p.0 high) ps (second_so (not (same_key p.0 k)) _ h))
    ∙ ap (λ qs. (p.0, met p.1 (value_at p.0 high)) ∷ laid qs ps) (without_both k p.0 high other)
    ∙ sym (ap (λ o. (p.0, met p.1 o) ∷ laid (without_key p.0 (without_key k high)) ps) (value_without p.0 k high turned))

-- ---- one value put on those of its key

raised_up : (ls : List Datum) (x h : Datum) → up_from (ls ++ x ∷ []) h ≡ up_from ls (deep h x)
raised_up [] x h = refl
raised_up (l ∷ ls) x h = ap (λ d. deep d l) (raised_up ls x h)

over_one : (b : Bool) (k v : Datum) (s : Stack) (ss : List Stack) (out : List Pair) → same_key k s.key ≡ b
    → ((qs : List Pair) → over (put_stack k v ss) qs ≡ over ss ((k, met v (value_at k qs)) ∷ without_key k qs))
    → over (cond b (raised v s ∷ ss) (s ∷ put_stack k v ss)) out
    ≡ (s.key, up_from s.lower (met s.high (value_at s.key ((k, met v (value_at k out)) ∷ without_key k out))))
    ∷ over ss (without_key s.key ((k, met v (value_at k out)) ∷ without_key k out))
over_one true k v s ss out is before =
    let turned : same_key s.key k ≡ true = either_way s.key k ∙ is in
    let one : k ≡ s.key = one_key k s.key is in
    ap (λ d. (s.key, d) ∷ over ss (without_key s.key out)) (raised_up s.lower s.high (met v (value_at s.key out)))
    ∙ sym (ap (λ x. (s.key, up_from s.lower (deep (met v (value_at x out)) s.high)) ∷ over ss (without_key x out)) one)
    ∙ sym (ap (λ b. (
      s.key,
      up_from s.lower (met s.high
          (cond b (Some (met v (value_at k out))) (value_at s.key (without_key k out)))),
    )
    ∷ over ss (cond b (without_key k out) ((k, met v (value_at k out)) ∷ without_key s.key (without_key k out)))) turned)
over_one false k v s ss out is before =
    let turned : same_key s.key k ≡ false = either_way s.key k ∙ is in
    ap (λ qs. (s.key, up_from s.lower (met s.high (value_at s.key out))) ∷ qs) (before (without_key s.key out))
    ∙ ap (λ o. (s.key, up_from s.lower (met s.high (value_at s.key out)))
    ∷ over ss ((k, met v o) ∷ without_key k (without_key s.key out))) (value_without k s.key out is)
    ∙ ap (λ qs. (s.key, up_from s.lower (met s.high (value_at s.key out)))
    ∷ over ss ((k, met v (value_at k out)) ∷ qs)) (without_both k s.key out is)
    ∙ sym (ap (λ o. (s.key, up_from s.lower (met s.high o))
    ∷ over ss ((k, met v (value_at k out)) ∷ without_key s.key (without_key k out))) (value_without s.key k out turned))
    ∙ sym (ap (λ b. (
      s.key,
      up_from s.lower (met s.high
          (cond b (Some (met v (value_at k out))) (value_at s.key (without_key k out)))),
    )
    ∷ over ss (cond b (without_key k out) ((k, met v (value_at k out)) ∷ without_key s.key (without_key k out)))) turned)

over_put : (k v : Datum) (ss : List Stack) (out : List Pair)
    → over (put_stack k v ss) out ≡ over ss ((k, met v (value_at k out)) ∷ without_key k out)
over_put k v [] out = refl
over_put k v (s ∷ ss) out = over_one (same_key k s.key) k v s ss out refl (λ qs. over_put k v ss qs)

-- ---- all of a hash, and all hashes

over_hash : (ps : List Pair) (ss : List Stack) (out : List Pair) → IsTrue (are_distinct ps)
    → over (put_stacks ps ss) out ≡ over ss (laid out ps)
over_hash [] ss out h = refl
over_hash (p ∷ ps) ss out h =
    over_hash ps (put_stack p.0 p.1 ss) out (rest_distinct p ps h)
    ∙ over_put p.0 p.1 ss (laid out ps)
    ∙ ap (λ o. over ss ((p.0, met p.1 o) ∷ without_key p.0 (laid out ps))) (value_laid p.0 out ps (rest_lacks p ps h))
    ∙ ap (λ qs. over ss ((p.0, met p.1 (value_at p.0 out)) ∷ qs)) (without_laid p.0 out ps (rest_lacks p ps h))

over_hashes : (ds : List Datum) (ss : List Stack) (out : List Pair) → AreKeyed ds
    → over (put_hashes ds ss) out ≡ over ss (laid_all ds out)
over_hashes [] ss out h = refl
over_hashes (d ∷ ds) ss out h =
    over_hashes ds (put_stacks (pairs_in d) ss) out h.1 ∙ over_hash (pairs_in d) ss (laid_all ds out) h.0

laid_distinct : (high low : List Pair) → IsTrue (are_distinct high) → IsTrue (are_distinct low)
    → IsTrue (are_distinct (laid high low))
laid_distinct high low h g = ap are_distinct (laid_whole high low h) ∙ deep_distinct high low h g

all_distinct : (ds : List Datum) (high : List Pair) → AreKeyed ds → IsTrue (are_distinct high)
    → IsTrue (are_distinct (laid_all ds high))
all_distinct [] high h g = g
all_distinct (d ∷ ds) high h g =
    laid_distinct (laid_all ds high) (pairs_in d) (all_distinct ds high h.1 g) h.0

one_up : (d : Datum) (high : List Pair) → IsTrue (are_distinct high)
    → deep (hash (entries_of high)) d ≡ hash (entries_of (laid high (pairs_in d)))
one_up (hash es) high h = ap (λ ps. hash (entries_of ps)) (sym (laid_whole high (pairs_of es) h))
one_up undef high h = refl
one_up (flag b) high h = refl
one_up (int z) high h = refl
one_up (text t) high h = refl
one_up (list ds) high h = refl
one_up (reference r) high h = refl
one_up (kind s) high h = refl
one_up default high h = refl

all_up : (ds : List Datum) (high : List Pair) → AreKeyed ds → IsTrue (are_distinct high)
    → up_from ds (hash (entries_of high)) ≡ hash (entries_of (laid_all ds high))
all_up [] high h g = refl
all_up (d ∷ ds) high h g =
    ap (λ x. deep x d) (all_up ds high h.1 g) ∙ one_up d (laid_all ds high) (all_distinct ds high h.1 g)

-- nothing is over them
laid_none : (ps : List Pair) → laid [] ps ≡ ps
laid_none [] = refl
laid_none (p ∷ ps) = ap (λ qs. p ∷ qs) (laid_none ps)

all_over : (ds : List Datum) (high : List Pair) → AreKeyed ds → IsTrue (are_distinct high)
    → over (put_stacks high (put_hashes ds [])) [] ≡ laid_all ds high
all_over ds high h g =
    over_hash high (put_hashes ds []) [] g ∙ ap (over (put_hashes ds [])) (laid_none high) ∙ over_hashes ds [] high h

pub hashes_joined : (ds : List Datum) (high out : List Pair) (ss : List Stack) → AreKeyed ds
    → IsTrue (are_distinct high) → ss ≡ put_stacks high (put_hashes ds []) → out ≡ over ss []
    → hash (entries_of out) ≡ up_from ds (hash (entries_of high))
hashes_joined ds high out ss h g put merged =
    ap (λ ps. hash (entries_of ps)) (merged ∙ ap (λ x. over x []) put ∙ all_over ds high h g) ∙ sym (all_up ds high h g)

pub joined_distinct : (ds : List Datum) (high out : List Pair) (ss : List Stack) → AreKeyed ds
    → IsTrue (are_distinct high) → ss ≡ put_stacks high (put_hashes ds []) → out ≡ over ss []
    → IsTrue (are_distinct out)
joined_distinct ds high out ss h g put merged =
    ap are_distinct (merged ∙ ap (λ x. over x []) put ∙ all_over ds high h g) ∙ all_distinct ds high h g

-- ---- lists

kept_there : (b : Bool) (x k : Datum) (acc : List Datum) → list_any (same x) acc ≡ true
    → list_any (same x) (cond b acc (acc ++ k ∷ [])) ≡ true
kept_there true x k acc h = h
kept_there false x k acc h =
    list_any-append (same x) acc (k ∷ []) ∙ ap (λ b. b || list_any (same x) (k ∷ [])) h

stays_there : (x : Datum) (acc ks : List Datum) → list_any (same x) acc ≡ true
    → list_any (same x) (fold with_new acc ks) ≡ true
stays_there x acc [] h = h
stays_there x acc (k ∷ ks) h =
    stays_there x (with_new acc k) ks (kept_there (list_any (same k) acc) x k acc h)

so_too : (a b : Bool) → b ≡ true → (a || (b || false)) ≡ true
so_too true b h = refl
so_too false true h = refl
so_too false false h = absurd (true≢false (sym h))

put_there : (b : Bool) (x k : Datum) (acc : List Datum) → list_any (same k) acc ≡ b → same x k ≡ true
    → list_any (same x) (cond b acc (acc ++ k ∷ [])) ≡ true
put_there true x k acc is h = ap (λ d. list_any (same d) acc) (one_value x k h) ∙ is
put_there false x k acc is h =
    list_any-append (same x) acc (k ∷ []) ∙ so_too (list_any (same x) acc) (same x k) h

found_there : (x : Datum) (ks acc : List Datum) → list_any (same x) ks ≡ true
    → list_any (same x) (fold with_new acc ks) ≡ true
found_there x [] acc h = absurd (true≢false (sym h))
found_there x (k ∷ ks) acc h =
    elim (same x k) as
    (λ b. same x k ≡ b → (b || list_any (same x) ks) ≡ true → list_any (same x) (fold with_new (with_new acc k) ks) ≡ true) [
      | true ↦ λ is e. stays_there x (with_new acc k) ks (put_there (list_any (same k) acc) x k acc refl is)
      | false ↦ λ is e. found_there x ks (with_new acc k) e
    ] refl h

one_more : (b : Bool) (x : Datum) (acc ks : List Datum) → list_any (same x) ks ≡ b
    → fold with_new acc (cond b ks (ks ++ x ∷ [])) ≡ with_new (fold with_new acc ks) x
one_more true x acc ks is =
    sym (ap (λ b. cond b (fold with_new acc ks) (fold with_new acc ks ++ x ∷ [])) (found_there x ks acc is))
one_more false x acc ks is = fold-append with_new acc ks (x ∷ [])

once_more : (acc ks xs : List Datum)
    → fold with_new acc (fold with_new ks xs) ≡ fold with_new (fold with_new acc ks) xs
once_more acc ks [] = refl
once_more acc ks (x ∷ xs) =
    once_more acc (with_new ks x) xs
    ∙ ap (λ l. fold with_new l xs) (one_more (list_any (same x) ks) x acc ks refl)

-- what is joined already may be joined again
joined_twice : (ms xs : List Datum) → joined ms (fold with_new [] xs) ≡ joined ms xs
joined_twice ms xs =
    fold-append with_new [] ms (fold with_new [] xs) ∙ once_more (fold with_new [] ms) [] xs
    ∙ sym (fold-append with_new [] ms xs)

no_members : (ds : List Datum) → list_any is_list ds ≡ false → members_of_all ds ≡ []
no_members [] h = refl
no_members (undef ∷ ds) h = no_members ds h
no_members (flag b ∷ ds) h = no_members ds h
no_members (int z ∷ ds) h = no_members ds h
no_members (text t ∷ ds) h = no_members ds h
no_members (list ms ∷ ds) h = absurd (true≢false h)
no_members (hash es ∷ ds) h = no_members ds h
no_members (reference r ∷ ds) h = no_members ds h
no_members (kind s ∷ ds) h = no_members ds h
no_members (default ∷ ds) h = no_members ds h

list_more : (b : Bool) (ms : List Datum) (ds hs : List Datum) → list_any is_list ds ≡ b
    → joined ms (cond b (joined (members_of_all ds) hs) hs) ≡ joined (ms ++ members_of_all ds) hs
list_more true ms ds hs is =
    joined_twice ms (members_of_all ds ++ hs)
    ∙ ap (fold with_new []) (sym (append_assoc ms (members_of_all ds) hs))
list_more false ms ds hs is =
    ap (λ l. joined l hs) (sym (append-nil ms)) ∙ sym (ap (λ l. joined (ms ++ l) hs) (no_members ds is))

one_list : (d : Datum) (ds hs : List Datum)
    → deep (list (data_of (lists_joined ds hs))) d ≡ list (data_of (lists_joined (d ∷ ds) hs))
one_list (list ms) ds hs =
    ap (λ l. list (data_of (joined (members_of ms) l))) (members_of-data_of (lists_joined ds hs))
    ∙ ap (λ l. list (data_of l)) (list_more (list_any is_list ds) (members_of ms) ds hs refl)
one_list undef ds hs = refl
one_list (flag b) ds hs = refl
one_list (int z) ds hs = refl
one_list (text t) ds hs = refl
one_list (hash es) ds hs = refl
one_list (reference r) ds hs = refl
one_list (kind s) ds hs = refl
one_list default ds hs = refl

-- members that are apart from those before them
pub one_apart : (xs : List Value) (i : ℕ) (d : Value) → i < length xs
    → fold with_new [] (views (take i xs)) ≡ views (take i xs)
    → list_any (same (view (get_or xs i d))) (views (take i xs)) ≡ false
    → fold with_new [] (views (take (i + 1) xs)) ≡ views (take (i + 1) xs)
one_apart xs i d h held new =
    let more : take (i + 1) xs ≡ take i xs ++ get_or xs i d ∷ [] = take_more xs i d h in
    ap (λ l. fold with_new [] (views l)) more
    ∙ ap (fold with_new []) (map-append view (take i xs) (get_or xs i d ∷ []))
    ∙ fold-append with_new [] (views (take i xs)) (view (get_or xs i d) ∷ [])
    ∙ ap (λ l. with_new l (view (get_or xs i d))) held
    ∙ ap (λ b. cond b (views (take i xs)) (views (take i xs) ++ view (get_or xs i d) ∷ [])) new
    ∙ sym (map-append view (take i xs) (get_or xs i d ∷ [])) ∙ sym (ap views more)

lists_up : (ds hs : List Datum) → up_from ds (list (data_of hs)) ≡ list (data_of (lists_joined ds hs))
lists_up [] hs = refl
lists_up (d ∷ ds) hs = ap (λ x. deep x d) (lists_up ds hs) ∙ one_list d ds hs

pub without_lists : (ds hs : List Datum) → list_any is_list ds ≡ false
    → list (data_of hs) ≡ up_from ds (list (data_of hs))
without_lists ds hs none =
    sym (lists_up ds hs ∙ ap (λ b. list (data_of (cond b (joined (members_of_all ds) hs) hs))) none)

pub with_lists : (ds hs all l : List Datum) → list_any is_list ds ≡ true → all ≡ members_of_all ds ++ hs
    → l ≡ fold with_new [] all → list (data_of l) ≡ up_from ds (list (data_of hs))
with_lists ds hs all l some is once =
    ap (λ x. list (data_of x)) (once ∙ ap (fold with_new []) is)
    ∙ sym (lists_up ds hs ∙ ap (λ b. list (data_of (cond b (joined (members_of_all ds) hs) hs))) some)

-- ---- other values

alone : (d l : Datum) → is_hash d ≡ false → is_list d ≡ false → deep d l ≡ d
alone undef l h g = refl
alone (flag b) l h g = refl
alone (int z) l h g = refl
alone (text t) l h g = refl
alone (list ds) l h g = absurd (true≢false g)
alone (hash es) l h g = absurd (true≢false h)
alone (reference r) l h g = refl
alone (kind s) l h g = refl
alone default l h g = refl

pub other_joining : (ds : List Datum) (d : Datum) → is_hash d ≡ false → is_list d ≡ false → up_from ds d ≡ d
other_joining [] d h g = refl
other_joining (l ∷ ds) d h g = ap (λ x. deep x l) (other_joining ds d h g) ∙ alone d l h g

pub hash_joining : (d : Datum) → is_hash d ≡ true → d ≡ hash (entries_of (pairs_in d))
hash_joining (hash es) h = sym (ap hash (entries_of-pairs_of es))
hash_joining d h = absurd (true≢false (sym h))

pub list_joining : (d : Datum) → is_list d ≡ true → d ≡ list (data_of (members_in d))
list_joining (list ds) h = sym (ap list (data_of-members_of ds))
list_joining d h = absurd (true≢false (sym h))

pub none_below : (xs : List Value) (d : Datum) → length xs ≡ 0 → up_from (views xs) d ≡ d
none_below [] d h = refl
none_below (x ∷ xs) d h = absurd (omega (arith, h))

-- ---- from the lowest up, or from the highest down

up_reversed : (ls : List Datum) (h : Datum) → up_from (reverse ls) h ≡ deep_merge h ls
up_reversed [] h = refl
up_reversed (l ∷ ls) h =
    ap (λ xs. up_from xs h) (reverse-append (l ∷ []) ls) ∙ raised_up (reverse ls) l h ∙ up_reversed ls (deep h l)

views_reversed : (xs : List Value) → views (reverse xs) ≡ reverse (views xs)
views_reversed [] = refl
views_reversed (x ∷ xs) =
    ap views (reverse-append (x ∷ []) xs) ∙ map-append view (reverse xs) (x ∷ [])
    ∙ ap (λ ds. ds ++ view x ∷ []) (views_reversed xs) ∙ sym (reverse-append (view x ∷ []) (views xs))

pub up_turned : (xs ys : List Value) (h : Datum) → ys ≡ reverse xs → up_from (views ys) h ≡ deep_merge h (views xs)
up_turned xs ys h is =
    ap (λ zs. up_from (views zs) h) is ∙ ap (λ ds. up_from ds h) (views_reversed xs) ∙ up_reversed (views xs) h

-- ---- sizes

pub raised_size : (xs : List Datum) (x : Datum) → data_size (xs ++ x ∷ []) ≡ data_size xs + datum_size x + 1
raised_size [] x = omega arith
raised_size (y ∷ ys) x = omega (arith, raised_size ys x)

put_size : (k v : Datum) (ss : List Stack) → stacks_size (put_stack k v ss) ≡ stacks_size ss + datum_size v + 1
put_size k v [] = omega arith
put_size k v (s ∷ ss) =
    elim (same_key k s.key) as
    (λ b. stacks_size (cond b (raised v s ∷ ss) (s ∷ put_stack k v ss)) ≡ stacks_size (s ∷ ss) + datum_size v + 1) [
      | true ↦ omega (arith, raised_size s.lower s.high)
      | false ↦ omega (arith, put_size k v ss)
    ]

pub puts_size : (ps : List Pair) (ss : List Stack) → stacks_size (put_stacks ps ss) ≤ stacks_size ss + pairs_size ps
puts_size [] ss = omega arith
puts_size (p ∷ ps) ss = omega (arith, puts_size ps (put_stack p.0 p.1 ss), put_size p.0 p.1 ss)

-- ---- the code's list

-- a key without a place, and with one
pub put_new : (k v : Datum) (ss : List Stack) → place_of k (map top ss) ≡ None
    → put_stack k v ss ≡ ss ++ record { key = k; lower = []; high = v } ∷ []
put_new k v [] e = refl
put_new k v (s ∷ ss) e = grind (arith, common_steps, put_new k v ss)

pub pushed : (cs new : List Column) (c : Column) (k v : Datum) → new ≡ cs ++ c ∷ [] → view c.key ≡ k
    → view c.high ≡ v → c.lower.items ≡ [] → place_of k (map top (stacks cs)) ≡ None → stacks new ≡ put_stack k v (stacks cs)
pushed cs new c k v is key high none nowhere =
    let said : stack c ≡ record { key = k; lower = []; high = v } =
    λ i. record { key = key i; lower = views (none i); high = high i } in
    ap stacks is ∙ map-append stack cs (c ∷ []) ∙ ap (λ s. stacks cs ++ s ∷ []) said
    ∙ sym (put_new k v (stacks cs) nowhere)

pub put_at : (k v : Datum) (ss : List Stack) (n : ℕ) → place_of k (map top ss) ≡ Some n → put_stack k v ss ≡ raised_at v n ss
put_at k v [] n e = cc
put_at k v (s ∷ ss) zero e = grind (arith, common_steps, put_at k v ss)
put_at k v (s ∷ ss) (suc n) e = grind (arith, common_steps, put_at k v ss n)

pub raised_set : (cs : List Column) (n : ℕ) (v : Datum) (c d : Column) → n < length cs
    → stack c ≡ raised v (stack (get_or cs n d)) → stacks (slice_set cs n c) ≡ raised_at v n (stacks cs)
raised_set [] n v c d h is = absurd (omega (arith, h))
raised_set (x ∷ xs) zero v c d h is = ap (λ s. s ∷ stacks xs) is
raised_set (x ∷ xs) (suc n) v c d h is =
    let h' : n < length xs = omega (arith, h) in ap (λ ss. stack x ∷ ss) (raised_set xs n v c d h' is)

pub one_merged : (out new : List (Value × Value)) (p : Value × Value) (c : Column) (cs left : List Column) (all : List Pair)
    → new ≡ out ++ p ∷ [] → left ≡ c ∷ cs → pair_view p ≡ merged_stack (stack c)
    → pair_views out ++ over (stacks left) [] ≡ all
    → pair_views new ++ over (stacks cs) [] ≡ all
one_merged out new p c cs left all longer is merged held =
    ap (λ ps. ps ++ over (stacks cs) []) (ap pair_views longer ∙ map-append pair_view out (p ∷ []))
    ∙ append_assoc (pair_views out) (pair_view p ∷ []) (over (stacks cs) [])
    ∙ ap (λ q. pair_views out ++ q ∷ over (stacks cs) []) merged
    ∙ sym (ap (λ ys. pair_views out ++ over (stacks ys) []) is)
    ∙ held

-- one more hash
pub one_hash : (v : Value) (xs left : List Value) (ps : List Pair) (old new all : List Stack) → left ≡ v ∷ xs
    → ps ≡ pairs_in (view v) → new ≡ put_stacks ps old → put_hashes (views left) old ≡ all
    → put_hashes (views xs) new ≡ all
one_hash v xs left ps old new all is pairs put held =
    ap (put_hashes (views xs)) (put ∙ ap (λ qs. put_stacks qs old) pairs)
    ∙ sym (ap (λ ys. put_hashes (views ys) old) is) ∙ held

pub one_size : (v : Value) (xs left : List Value) (ps : List Pair) (old new : List Stack) (n : ℕ) → left ≡ v ∷ xs
    → ps ≡ pairs_in (view v) → new ≡ put_stacks ps old → stacks_size old + data_size (views left) ≤ n
    → stacks_size new + data_size (views xs) ≤ n
one_size v xs left ps old new n is pairs put below =
    let parted : data_size (views left) ≡ data_size (views (v ∷ xs)) = ap (λ l. data_size (views l)) is in
    let longer : stacks_size new ≡ stacks_size (put_stacks ps old) = ap stacks_size put in
    let many : pairs_size ps ≡ pairs_size (pairs_in (view v)) = ap pairs_size pairs in
    omega (arith, parted, longer, many, puts_size ps old, pairs_fall (view v), below)

pub one_behind : (out : List Datum) (v : Value) (xs left : List Value) (ms : List Datum) (new all : List Datum)
    → left ≡ v ∷ xs → ms ≡ members_in (view v) → new ≡ out ++ ms → out ++ members_of_all (views left) ≡ all
    → new ++ members_of_all (views xs) ≡ all
one_behind out v xs left ms new all is members more held =
    ap (λ l. l ++ members_of_all (views xs)) (more ∙ ap (λ l. out ++ l) members)
    ∙ append_assoc out (members_in (view v)) (members_of_all (views xs))
    ∙ sym (ap (λ ys. out ++ members_of_all (views ys)) is) ∙ held

pub first_size : (c : Column) (cs left : List Column) (n : ℕ) → left ≡ c ∷ cs → stacks_size (stacks left) ≤ n
    → datum_size (view c.high) + data_size (views c.lower.items) < n
first_size c cs left n is below =
    let parted : stacks_size (stacks left) ≡ stacks_size (stacks (c ∷ cs)) = ap (λ l. stacks_size (stacks l)) is in
    omega (arith, parted, below)

pub rest_size : (c : Column) (cs left : List Column) (n : ℕ) → left ≡ c ∷ cs → stacks_size (stacks left) ≤ n
    → stacks_size (stacks cs) ≤ n
rest_size c cs left n is below =
    let parted : stacks_size (stacks left) ≡ stacks_size (stacks (c ∷ cs)) = ap (λ l. stacks_size (stacks l)) is in
    omega (arith, parted, below)
