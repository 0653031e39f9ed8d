-- How a search stands after a round, and how it ends.
use Rattle.std.proofs.Common.{◌≡◌, inl, inr, ℕ, zero, suc, ◌+◌, ◌<◌, ◌≤◌, Bool, true, false, List, [], ◌∷◌, ◌++◌, length, take, drop, slice_get, Some, None, refl, sym, ap, ◌∙◌, subst, arith, append_assoc, length-append, true≢false}
use Rattle.std.specs.List.{AllZip}
use Rattle.std.specs.Prelude.{IsTrue, is_some, Err}
use Rattle.std.specs.Str.{bytes_eq}
use Rattle.std.proofs.Math.Seq.{drop-append_seam}
use Rattle.std.proofs.lemmas.List.{take-append-drop}
use Rattle.list_sums.specs.Counts.{bit}
use Rattle.list_sums.proofs.Totals.{total-append}
use Rattle.pp_values.specs.Rising.{is_rising, has_text}
use Rattle.site_core.specs.Each.{Each}
use Rattle.site_core.specs.Events.{Event}
use Rattle.site_core.specs.Fits.{Listed}
use Rattle.site_core.specs.Meaning.{Meaning}
use Rattle.site_core.specs.declared.reply.ReplyOf.{ReplyOf}
use Rattle.site_core.specs.declared.reply.ReplyOf.TheVariants as a
use Rattle.history_tools.specs.Settles.{AreAll, AreSome, IsMeantFrom, HasMetFull, IsNotRefused, IsRefused, IsFull, published}
use Rattle.history_tools.specs.Rounds.{is_served, is_meant, ComesTo}
use Rattle.history_tools.specs.declared.outcome.Outcome.TheVariants as o
use Rattle.history_tools.proofs.Names.{stands, stands_once, has_here}
use Rattle.history_tools.proofs.Rounded.{IsRound, IsReplied, replied_from, hits_few, hits_all, named_all}
use Rattle.history_tools.proofs.Told.{Tells}

module _ {A : Type 0} where
  -- fewer than so many are all
  pub take_all : (m : ℕ) (xs : List A) → length (take m xs) < m → take m xs ≡ xs
  take_all zero xs few = absurd (omega (arith, few))
  take_all (suc m) [] few = refl
  take_all (suc m) (x ∷ xs) few = ap (λ l. x ∷ l) (take_all m xs (omega (arith, few)))

  pub take_whole : (m : ℕ) (xs : List A) → length xs ≤ m → take m xs ≡ xs
  take_whole zero [] few = refl
  take_whole zero (x ∷ xs) few = absurd (omega (arith, few))
  take_whole (suc m) [] few = refl
  take_whole (suc m) (x ∷ xs) few = ap (λ l. x ∷ l) (take_whole m xs (omega (arith, few)))

  pub each_taken : (P : A → Type 0) (m : ℕ) (xs : List A) → Each P xs → Each P (take m xs)
  each_taken P zero xs each = tt
  each_taken P (suc m) [] each = tt
  each_taken P (suc m) (x ∷ xs) each = (each.0, each_taken P m xs each.1)

-- what holds of each name that is there holds of each of the list
has_behind : (P : List ℕ → Type 0) (nodes front back : List (List ℕ)) → nodes ≡ front ++ back →
    ((n : List ℕ) → has_text nodes n ≡ true → P n) → Each P back
has_behind P nodes front [] is all = tt
has_behind P nodes front (n ∷ back) is all = (
  all n (ap (λ l. has_text l n) is ∙ has_here front back n),
  has_behind P nodes (front ++ n ∷ []) back (is ∙ sym (append_assoc front (n ∷ []) back)) all,
)

pub each_has : (P : List ℕ → Type 0) (nodes : List (List ℕ)) → ((n : List ℕ) → has_text nodes n ≡ true → P n) →
    Each P nodes
each_has P nodes all = has_behind P nodes [] nodes refl all

-- the nodes are listed
pub known_all : {S : Type 0} (listed : Listed S) (site : S) (nodes : List (List ℕ)) →
    ((node : List ℕ) → has_text nodes node ≡ is_some (listed site node)) →
    Each (λ node. (s : S) → s ≡ site → listed s node ≡ None → ⊥) nodes
known_all {S} listed site nodes all =
    each_has (λ node. (s : S) → s ≡ site → listed s node ≡ None → ⊥) nodes
    (λ n has s same none. true≢false (sym has ∙ all n ∙ ap is_some (ap (λ t. listed t n) (sym same) ∙ none)))

pub bit_few : (b : Bool) → bit b ≤ 1
bit_few true = omega arith
bit_few false = omega arith

stands_taken : (n : List ℕ) (m : ℕ) (nodes : List (List ℕ)) → stands n (take m nodes) ≤ stands n nodes
stands_taken n m nodes =
    let sum = total-append (λ q. bit (bytes_eq n q)) (take m nodes) (drop m nodes) in
    let is : stands n (take m nodes ++ drop m nodes) ≡ stands n nodes = ap (stands n) (take-append-drop m nodes) in
    omega (arith, sum, is)

module _ {S C F : Type 0} (meaning : Meaning S C F) (listed : Listed S) (limit : ℕ) (site : S) (bound most : ℕ)
    (nodes : List (List ℕ)) (before h : List (Event S)) (replies : List (ReplyOf C F)) where
  abbrev Made : Type 0
  Made = IsRound meaning listed limit site bound (take most nodes) before h replies

  -- where all were served, all nodes were, and each was published once
  pub all_made : limit ≡ most → 1 ≤ length before → IsTrue (is_rising nodes) → (made : Made) →
      Each (λ r. IsTrue (is_served r)) replies →
      (length h ≡ length before + length nodes) × AreAll listed site nodes (length before) made.more
  all_made bounded some rising made served =
      let count = named_all meaning listed limit site h bound (length before) (take most nodes) replies made.tells
      served in
      let size = ap length (sym made.split) ∙ length-append before made.more in
      let fits : length (take most nodes) < most = omega (arith, made.count, count, size, made.few, some, bounded) in
      let whole = take_all most nodes fits in
      let same : length (take most nodes) ≡ length nodes = ap length whole in (
        omega (arith, made.count, count, size, same),
        record {
          compiled = made.compiled;
          once = λ n. made.hit n
              ∙ hits_all meaning listed limit site h bound (length before) n (take most nodes) replies made.tells served
              ∙ ap (stands n) whole ∙ stands_once nodes n rising;
        },
      )

  -- in any case each was published at most once
  pub some_made : IsTrue (is_rising nodes) → (made : Made) → AreSome listed site nodes (length before) made.more
  some_made rising made = record {
    compiled = made.compiled;
    once = λ n.
        let few = hits_few meaning listed limit site h bound (length before) n (take most nodes) replies made.tells in
        let less = stands_taken n most nodes in let one = stands_once nodes n rising in let is = made.hit n in
        omega (arith, is, few, less, one);
  }

  -- the entries of the round
  pub last_ones : (made : Made) → drop (length before) h ≡ made.more
  last_ones made = ap (drop (length before)) (sym made.split) ∙ drop-append_seam before made.more

  -- a node's entries in the round are those that its reply names
  pub replied_made : IsTrue (is_rising nodes) → (made : Made) →
      AllZip (IsReplied meaning listed limit site h bound (length before)) (take most nodes) replies
  replied_made rising made =
      replied_from meaning listed limit site h bound (length before) (λ _. 0) (λ _. 0) (take most nodes) replies
      made.tells
      (λ n. let is = made.hit n in
      let there : published n (drop (length before) h) ≡ published n made.more = ap (published n) (last_ones made) in
      omega (arith, is, there))
      (λ n. omega arith)
      (λ n. let less = stands_taken n most nodes in let one = stands_once nodes n rising in
      let few = bit_few (has_text nodes n) in omega (arith, less, one, few))

module _ {S C F : Type 0} (meaning : Meaning S C F) (listed : Listed S) (limit : ℕ) (site : S) (h : List (Event S))
    (bound low : ℕ) where
  -- who met a full history
  met_full : (node : List ℕ) (n : ℕ) → IsReplied meaning listed limit site h bound low node (a.HistoryFull n) →
      (n ≡ limit) × HasMetFull meaning listed limit site h low node
  met_full node n replied = full replied.tells where
    full : Tells meaning listed limit site h bound low node (a.HistoryFull n) →
        (n ≡ limit) × HasMetFull meaning listed limit site h low node
    full (is, whole, (k, made, meant)) =
        (is, record { full = whole; without = replied.count; k = k; made = made; meant = meant })

  -- whoever was served or met a full history
  met_all : (nodes : List (List ℕ)) (replies : List (ReplyOf C F)) →
      AllZip (IsReplied meaning listed limit site h bound low) nodes replies →
      Each (λ r. IsTrue (is_meant r)) replies → Each (IsNotRefused meaning listed limit site h low) nodes
  met_all [] [] all meant = tt
  met_all [] (r ∷ replies) all meant = absurd all
  met_all (m ∷ nodes) [] all meant = absurd all
  met_all (m ∷ nodes) (a.Served entry k catalog ∷ replies) all meant =
      (inl all.0.count, met_all nodes replies all.1 meant.1)
  met_all (m ∷ nodes) (a.HistoryFull n ∷ replies) all meant =
      (inr (met_full m n all.0).1, met_all nodes replies all.1 meant.1)
  met_all (m ∷ nodes) (a.Refused k fault ∷ replies) all meant = absurd (true≢false (sym meant.0))
  met_all (m ∷ nodes) (a.SeenAhead n ∷ replies) all meant = absurd (true≢false (sym meant.0))
  met_all (m ∷ nodes) (a.UnknownNode k ∷ replies) all meant = absurd (true≢false (sym meant.0))
  met_all (m ∷ nodes) (a.Deactivated entry ∷ replies) all meant = absurd (true≢false (sym meant.0))
  met_all (m ∷ nodes) (a.Deployed entry ∷ replies) all meant = absurd (true≢false (sym meant.0))
  met_all (m ∷ nodes) (a.Reported entry ∷ replies) all meant = absurd (true≢false (sym meant.0))
  met_all (m ∷ nodes) (a.Memory ∷ replies) all meant = absurd (true≢false (sym meant.0))

module _ {A B : Type 0} where
  -- a place in a list that goes with another one
  pub zip_parts : (P : A → B → Type 0) (xs : List A) (front : List B) (y : B) (back : List B) →
      AllZip P xs (front ++ y ∷ back) →
      (xfront : List A) × (x : A) × (xback : List A) × (xs ≡ xfront ++ x ∷ xback) × (length xfront ≡ length front)
      × AllZip P xfront front × P x y
  zip_parts P [] [] y back all = absurd all
  zip_parts P [] (z ∷ front) y back all = absurd all
  zip_parts P (x ∷ xs) [] y back all = ([], x, xs, refl, refl, tt, all.0)
  zip_parts P (x ∷ xs) (z ∷ front) y back all =
      let rest = zip_parts P xs front y back all.1 in (
        x ∷ rest.0,
        rest.1,
        rest.2,
        ap (λ l. x ∷ l) rest.3,
        omega (arith, rest.4),
        (all.0, rest.5),
        rest.6,
      )

module _ {A : Type 0} where
  pub get_middle : (front : List A) (x : A) (back : List A) (k : ℕ) → length front ≡ k →
      slice_get (front ++ x ∷ back) k ≡ Some x
  get_middle [] x back zero is = refl
  get_middle [] x back (suc k) is = absurd (omega (arith, is))
  get_middle (y ∷ front) x back zero is = absurd (omega (arith, is))
  get_middle (y ∷ front) x back (suc k) is = get_middle front x back k (omega (arith, is))

module _ {S C F : Type 0} (meaning : Meaning S C F) (listed : Listed S) (limit : ℕ) (site : S) (bound most : ℕ)
    (nodes : List (List ℕ)) (before h : List (Event S)) (replies : List (ReplyOf C F)) where
  -- the node of a reply, among all that were asked for
  record IsPlaced (front : List (ReplyOf C F)) (reply : ReplyOf C F) : Type 0 where
    ahead : List (List ℕ)
    node : List ℕ
    back : List (List ℕ)
    split : nodes ≡ ahead ++ node ∷ back
    size : length ahead ≡ length front
    earlier : AllZip (IsReplied meaning listed limit site h bound (length before)) ahead front
    here : IsReplied meaning listed limit site h bound (length before) node reply

  placed : (front : List (ReplyOf C F)) (reply : ReplyOf C F) (back : List (ReplyOf C F)) → IsTrue (is_rising nodes) →
      IsRound meaning listed limit site bound (take most nodes) before h replies → replies ≡ front ++ reply ∷ back →
      IsPlaced front reply
  placed front reply back rising made is = record {
    ahead = parts.0;
    node = parts.1;
    back = parts.2 ++ drop most nodes;
    split = sym (take-append-drop most nodes) ∙ ap (λ l. l ++ drop most nodes) parts.3
        ∙ append_assoc parts.0 (parts.1 ∷ parts.2) (drop most nodes);
    size = parts.4;
    earlier = parts.5;
    here = parts.6;
  }
    where
      parts : (xfront : List (List ℕ)) × (x : List ℕ) × (xback : List (List ℕ)) × (take most nodes ≡
          xfront ++ x ∷ xback)
          × (length xfront ≡ length front)
          × AllZip (IsReplied meaning listed limit site h bound (length before)) xfront front
          × IsReplied meaning listed limit site h bound (length before) x reply
      parts = zip_parts (IsReplied meaning listed limit site h bound (length before)) (take most nodes) front reply back
          (subst (AllZip (IsReplied meaning listed limit site h bound (length before)) (take most nodes)) is
          (replied_made meaning listed limit site bound most nodes before h replies rising made))

  -- the first refusal is of the node in its place
  pub refused_made : (place k : ℕ) (fault : F) (node : List ℕ) → IsTrue (is_rising nodes) →
      IsRound meaning listed limit site bound (take most nodes) before h replies →
      ComesTo replies (o.Refused place k fault) → slice_get nodes place ≡ Some node →
      IsRefused meaning listed limit site h (length before) nodes node k fault
  refused_made place k fault node rising made came at = record {
    without = subst (λ n. published n (drop (length before) h) ≡ 0) same at_place.here.count;
    meant = subst (λ n. IsMeantFrom meaning listed site h (length before) n k (Err fault)) same at_place.here.tells;
    front = at_place.ahead;
    back = at_place.back;
    split = at_place.split ∙ ap (λ n. at_place.ahead ++ n ∷ at_place.back) same;
    earlier = met_all meaning listed limit site h bound (length before) at_place.ahead came.0 at_place.earlier came.4;
  }
    where
      at_place : IsPlaced came.0 (a.Refused k fault)
      at_place = placed came.0 (a.Refused k fault) came.1 rising made came.2

      same : at_place.node ≡ node
      same =
          let found = get_middle at_place.ahead at_place.node at_place.back place (at_place.size ∙ came.3) in
          let there : slice_get nodes place ≡ Some at_place.node =
          ap (λ l. slice_get l place) at_place.split ∙ found in
          cc (there, at)

-- no node is refused, and some node met a full history
pub full_made : {S C F : Type 0} (meaning : Meaning S C F) (listed : Listed S) (limit : ℕ) (site : S) (bound : ℕ)
    (nodes : List (List ℕ)) (before h : List (Event S)) (replies : List (ReplyOf C F)) (n : ℕ) →
    IsTrue (is_rising nodes) → IsRound meaning listed limit site bound (take limit nodes) before h replies →
    ComesTo replies (o.Full n) → (n ≡ limit) × IsFull meaning listed limit site h (length before) nodes
full_made {S} {C} {F} meaning listed limit site bound nodes before h replies n rising made came = (
  met.0,
  record {
    each = met_all meaning listed limit site h bound (length before) (take limit nodes) replies
        (replied_made meaning listed limit site bound limit nodes before h replies rising made) came.0;
    node = at_place.node;
    has = ap (λ l. has_text l at_place.node) at_place.split ∙ has_here at_place.ahead at_place.back at_place.node;
    met = met.1;
  },
)
  where
    at_place : IsPlaced meaning listed limit site bound limit nodes before h replies came.1.0 (a.HistoryFull n)
    at_place = placed meaning listed limit site bound limit nodes before h replies came.1.0 (a.HistoryFull n) came.1.1
        rising made came.1.2

    met : (n ≡ limit) × HasMetFull meaning listed limit site h (length before) at_place.node
    met = met_full meaning listed limit site h bound (length before) at_place.node n at_place.here
