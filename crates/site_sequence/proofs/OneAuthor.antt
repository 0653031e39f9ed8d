-- Requests that are answered in turn are the whole work of one author.
use Rattle.std.proofs.Common.{◌≡◌, ℕ, zero, suc, ◌+◌, ◌<◌, ◌≤◌, inl, inr, Bool, true, false, List, [], ◌∷◌, ◌++◌, length, slice_get, Option, None, Some, Result, Ok, Err, refl, sym, ap, ◌∙◌, subst, arith, append-nil, append_assoc, length-append}
use Rattle.std.specs.Prelude.{nat_lt, if◌then◌else◌, option_map}
use Rattle.std.specs.List.{cons_option}
use Rattle.std.proofs.lemmas.Bool.{ltb-true, ltb-false}
use Rattle.list_sums.specs.Counts.{same, times, below}
use Rattle.list_sums.proofs.Totals.{total-append}
use Rattle.list_sums.proofs.Marks.{below_next, below_no}
use Rattle.pp_values.specs.Datum.{Datum}
use Rattle.res_core.specs.declared.export_set.ExportSet.{ExportSet}
use Rattle.res_core.specs.Asked.{Wanted}
use Rattle.site_core.specs.Asked.{Asked, compile, plain}
use Rattle.site_core.specs.Meaning.{Meaning}
use Rattle.site_core.specs.Events.{Event, opens, publication, next_entry}
use Rattle.site_core.specs.Sets.{sets_at, site_at}
use Rattle.site_core.specs.Fits.{Listed, facts_for, IsFresh, Means, Fits, had, named}
use Rattle.site_core.specs.Runs.{picked, RiseFrom, Runs, all_named}
use Rattle.site_core.specs.Said.{kind_of, plain_reply}
use Rattle.site_core.specs.declared.plain.Plain.{Plain}
use Rattle.site_core.specs.declared.reply.ReplyOf.{ReplyOf}
use Rattle.site_core.specs.declared.reply.ReplyOf.TheVariants as a
use Rattle.site_core.proofs.Fitting.{means_grows, fits_grows, had_plain, named_plain, fits_plain}
use Rattle.site_sequence.specs.Sequence.{Turn, turn, turn_meant, turn_added, turn_known, turn_for, Takes, AnsweredInTurn}
use Rattle.site_sequence.specs.SequenceLaws.{TurnsAreWhole}
use Rattle.site_sequence.specs.declared.sequence.TheConstants.{AUTHOR}

-- as many numbers from the first one on
unfoldable pub count_from : ℕ → ℕ → List ℕ
count_from low zero = []
count_from low (suc n) = low ∷ count_from (low + 1) n

rises : (low n : ℕ) → RiseFrom low (count_from low n)
unfolding count_from
rises low zero = tt
rises low (suc n) = (omega arith, rises (low + 1) n)

pub counted : (k low n : ℕ) → times k (count_from low n) + below low k ≡ below (low + n) k
unfolding count_from
counted k low zero =
    let still : low ≡ low + 0 = omega arith in let end = ap (λ m. below m k) still in omega (arith, end)
counted k low (suc n) =
    let rest = counted k (low + 1) n in let next = below_next low k in
    let end : below (low + 1 + n) k ≡ below (low + suc n) k = ap (λ m. below m k) (omega arith) in
    omega (arith, rest, next, end)

module _ {A : Type 0} where
  pub get_end : (front : List A) (x : A) (xs : List A) → slice_get (front ++ x ∷ xs) (length front) ≡ Some x
  get_end [] x xs = refl
  get_end (y ∷ front) x xs = get_end front x xs

  -- whatever stands behind a front stands at the numbers from the front's length on
  pub picked_rest : (all front xs : List A) (low : ℕ) → all ≡ front ++ xs → low ≡ length front →
      picked all (count_from low (length xs)) ≡ xs
  unfolding count_from
  picked_rest all front [] low is at = refl
  picked_rest all front (x ∷ xs) low is at =
      ap (λ o. cons_option o (picked all (count_from (low + 1) (length xs))))
      (ap (slice_get all) at ∙ ap (λ l. slice_get l (length front)) is ∙ get_end front x xs)
      ∙ ap (λ l. x ∷ l) (picked_rest all (front ++ x ∷ []) xs (low + 1) (is ∙ sym (append_assoc front (x ∷ []) xs))
      (let size = length-append front (x ∷ []) in omega (arith, at, size)))

module _ {S C F : Type 0} where
  if_so : (P : Turn S C F → Type 0) (b : Bool) (t u : Turn S C F) → (b ≡ true → P t) → (b ≡ false → P u) →
      P (if b then t else u)
  if_so P true t u first second = first refl
  if_so P false t u first second = second refl

module _ {S C F : Type 0} (meaning : Meaning S C F) (listed : Listed S) (limit : ℕ) where
  -- what a turn behind the entries h is, for an author who had seen s of them
  record IsTurn (h : List (Event S)) (s : ℕ) (asked : Asked S) (t : Turn S C F) : Type 0 where
    pub more : List (Event S)
    pub goes_on : t.history ≡ h ++ more
    pub few : length t.history ≤ limit
    pub fitting : Fits meaning listed t.history limit AUTHOR s asked t.reply
    pub known : had s t.reply ≤ length t.history
    pub names : (entry : ℕ) → times entry (named t.reply) + below (length h) entry ≡ below (length t.history) entry

  silent : (h : List (Event S)) (s : ℕ) (asked : Asked S) (reply : ReplyOf C F) → length h ≤ limit →
      Fits meaning listed h limit AUTHOR s asked reply → had s reply ≤ length h → named reply ≡ [] →
      IsTurn h s asked (turn reply h)
  silent h s asked reply few fits known unnamed = record {
    more = [];
    goes_on = sym (append-nil h);
    few = few;
    fitting = fits;
    known = known;
    names = λ entry. let none = ap (times entry) unnamed in omega (arith, none);
  }

  adds_one : (h : List (Event S)) (s : ℕ) (asked : Asked S) (reply : ReplyOf C F) (e : Event S) → length h < limit →
      Fits meaning listed (h ++ e ∷ []) limit AUTHOR s asked reply → had s reply ≡ length h + 1 →
      named reply ≡ length h ∷ [] → IsTurn h s asked (turn reply (h ++ e ∷ []))
  adds_one h s asked reply e room fits known named_is =
      let size = length-append h (e ∷ []) in record {
        more = e ∷ [];
        goes_on = refl;
        few = omega (arith, room, size);
        fitting = fits;
        known = omega (arith, known, size);
        names = λ entry. let name = ap (times entry) named_is in let next = below_next (length h) entry in
            let end : below (length (h ++ e ∷ [])) entry ≡ below (length h + 1) entry = ap (λ n. below n entry) size in
            omega (arith, name, next, end);
      }

  -- what is known of whoever asks, before a turn
  record MayAsk (h : List (Event S)) (s : ℕ) : Type 0 where
    pub some : 1 ≤ length h
    pub few : length h ≤ limit
    pub had : s ≤ length h

  fresh : (h : List (Event S)) (s seen : ℕ) → MayAsk h s → seen ≤ length h → IsFresh h s seen (length h)
  fresh h s seen may told = record { had = may.had; told = told; low = may.some; high = omega arith }

  served : (h : List (Event S)) (s : ℕ) (w : Wanted) (facts : Datum) (made : C × ExportSet) → MayAsk h s →
      w.seen ≤ length h → Means meaning listed h (length h) w facts (Ok made) → length h < limit →
      IsTurn h s (compile w) (turn (a.Served (length h) (length h) made.0)
      (h ++ publication h AUTHOR w.node facts (length h) made.1 ∷ []))
  served h s w facts made may told means room =
      let e = publication h AUTHOR w.node facts (length h) made.1 in
      let size = length-append h (e ∷ []) in
      adds_one h s (compile w) (a.Served (length h) (length h) made.0) e room (
        record { had = may.had; told = told; low = may.some; high = omega (arith, size) },
        record {
          later = omega arith;
          inside = omega (arith, size);
          facts = facts;
          set = made.1;
          call = _;
          means = means_grows meaning listed h (e ∷ []) (length h) w facts (Ok made) (omega arith) means;
          at = get_end h e [];
        },
      ) refl refl

  full : (h : List (Event S)) (s : ℕ) → MayAsk h s → limit ≤ length h → length h ≡ limit
  full h s may past = omega (arith, may.few, past)

  meant_turn : (h : List (Event S)) (s : ℕ) (w : Wanted) (facts : Datum) (answer : Result (C × ExportSet) F) →
      MayAsk h s → w.seen ≤ length h → Means meaning listed h (length h) w facts answer →
      IsTurn h s (compile w) (turn_meant limit h w.node facts answer)
  meant_turn h s w facts (Err fault) may told means =
      silent h s (compile w) (a.Refused (length h) fault) may.few (fresh h s w.seen may told, (facts, means))
      (omega arith) refl
  meant_turn h s w facts (Ok made) may told means =
      if_so (IsTurn h s (compile w)) (nat_lt (length h) limit) _ _
      (λ room. served h s w facts made may told means (ltb-true (length h) limit room))
      (λ past. let is = full h s may (ltb-false (length h) limit past) in
      silent h s (compile w) (a.HistoryFull (length h)) may.few
      (is, is, (length h, facts, made, fresh h s w.seen may told, means)) (omega arith) refl)

  known_turn : (h : List (Event S)) (s : ℕ) (w : Wanted) (site : S) (facts : Option Datum) → MayAsk h s →
      w.seen ≤ length h → site_at h (length h) ≡ Some site → facts_for listed site w ≡ facts →
      IsTurn h s (compile w) (turn_known meaning listed limit h site w.node facts)
  known_turn h s w site None may told site_is facts_are =
      silent h s (compile w) (a.UnknownNode (length h)) may.few
      (fresh h s w.seen may told, record { site = site; site_is = site_is; none = facts_are }) (omega arith) refl
  known_turn h s w site (Some facts) may told site_is facts_are =
      meant_turn h s w facts (meaning site w.node facts (sets_at h (length h))) may told
      (record { site = site; site_is = site_is; facts_are = facts_are; meant = refl })

  site_turn : (h : List (Event S)) (s : ℕ) (w : Wanted) (site : Option S) (t : Turn S C F) → MayAsk h s →
      w.seen ≤ length h → site_at h (length h) ≡ site →
      option_map (λ site. turn_known meaning listed limit h site w.node (facts_for listed site w)) site ≡ Some t →
      IsTurn h s (compile w) t
  site_turn h s w None t may told site_is is = cc
  site_turn h s w (Some site) t may told site_is is =
      let same_turn : turn_known meaning listed limit h site w.node (facts_for listed site w) ≡ t = cc in
      subst (IsTurn h s (compile w)) same_turn
      (known_turn h s w site (facts_for listed site w) may told site_is refl)

  unless_ahead : (h : List (Event S)) (s : ℕ) (w : Wanted) (ahead : Bool) (t : Turn S C F) → MayAsk h s →
      nat_lt (length h) w.seen ≡ ahead →
      (if ahead then Some (turn (a.SeenAhead (length h)) h)
      else option_map (λ site. turn_known meaning listed limit h site w.node (facts_for listed site w))
      (site_at h (length h))) ≡ Some t → IsTurn h s (compile w) t
  unless_ahead h s w true t may ahead is =
      let same_turn : turn (a.SeenAhead (length h)) h ≡ t = cc in
      subst (IsTurn h s (compile w)) same_turn
      (silent h s (compile w) (a.SeenAhead (length h)) may.few
      (may.had, omega arith, ltb-true (length h) w.seen ahead) (omega arith) refl)
  unless_ahead h s w false t may ahead is =
      site_turn h s w (site_at h (length h)) t may (ltb-false (length h) w.seen ahead) refl is

  added_turn : (h : List (Event S)) (s : ℕ) (what : Plain S) → MayAsk h s →
      IsTurn h s (plain what) (turn_added limit h what)
  added_turn h s what may =
      let e = next_entry h AUTHOR what in let size = length-append h (e ∷ []) in
      let which = kind_of what in
      if_so (IsTurn h s (plain what)) (nat_lt (length h) limit) _ _
      (λ room. adds_one h s (plain what) (plain_reply which (length h)) e (ltb-true (length h) limit room)
      (fits_plain meaning listed (h ++ e ∷ []) limit AUTHOR s what (length h) may.had
      (record { inside = omega (arith, size); call = _; at = get_end h e [] }))
      (had_plain C F which s (length h)) (named_plain C F which (length h)))
      (λ past. let is = full h s may (ltb-false (length h) limit past) in
      silent h s (plain what) (a.HistoryFull (length h)) may.few (is, is) (omega arith) refl)

  turn_is : (h : List (Event S)) (s : ℕ) (asked : Asked S) (t : Turn S C F) → MayAsk h s →
      turn_for meaning listed limit h asked ≡ Some t → IsTurn h s asked t
  turn_is h s (compile w) t may is = unless_ahead h s w (nat_lt (length h) w.seen) t may refl is
  turn_is h s (plain what) t may is =
      let same_turn : turn_added limit h what ≡ t = cc in
      subst (IsTurn h s (plain what)) same_turn (added_turn h s what may)

  short : (h : List (Event S)) (s : ℕ) (asked : Asked S) → MayAsk h s → IsTurn h s asked (turn a.Memory h)
  short h s (compile w) may = silent h s (compile w) a.Memory may.few tt may.had refl
  short h s (plain what) may = silent h s (plain what) a.Memory may.few tt may.had refl

  taken : (h next : List (Event S)) (s : ℕ) (asked : Asked S) (reply : ReplyOf C F) → MayAsk h s →
      Takes meaning listed limit h asked reply next → IsTurn h s asked (turn reply next)
  taken h next s asked reply may (inl is) = turn_is h s asked (turn reply next) may is
  taken h next s asked reply may (inr is) =
      subst (λ es. IsTurn h s asked (turn reply es)) (sym is.1)
      (subst (λ r. IsTurn h s asked (turn r h)) (sym is.0) (short h s asked may))

  -- what requests in turn behind the entries h come to
  record AreTurns (h : List (Event S)) (s : ℕ) (requests : List (Asked S)) (replies : List (ReplyOf C F))
      (after : List (Event S)) : Type 0 where
    pub more : List (Event S)
    pub goes_on : after ≡ h ++ more
    pub few : length after ≤ limit
    pub count_is : length replies ≡ length requests
    pub run : Runs meaning listed after limit AUTHOR s requests replies
    pub names : (entry : ℕ) → times entry (all_named replies) + below (length h) entry ≡ below (length after) entry

  one_more : (h next after : List (Event S)) (s : ℕ) (asked : Asked S) (reply : ReplyOf C F) (requests : List (Asked S))
      (replies : List (ReplyOf C F)) → IsTurn h s asked (turn reply next) →
      AreTurns next (had s reply) requests replies after → AreTurns h s (asked ∷ requests) (reply ∷ replies) after
  one_more h next after s asked reply requests replies first later = record {
    more = first.more ++ later.more;
    goes_on = later.goes_on ∙ ap (λ l. l ++ later.more) first.goes_on ∙ append_assoc h first.more later.more;
    few = later.few;
    count_is = let rest = later.count_is in omega (arith, rest);
    run = (
      subst (λ l. Fits meaning listed l limit AUTHOR s asked reply) (sym later.goes_on)
          (fits_grows meaning listed next later.more limit AUTHOR s asked reply
          (subst (λ l. length l ≤ limit) later.goes_on later.few) first.fitting),
      later.run,
    );
    names = λ entry. let sum = total-append (same entry) (named reply) (all_named replies) in
        let one = first.names entry in let rest = later.names entry in omega (arith, sum, one, rest);
  }

  next_may : (h next : List (Event S)) (s : ℕ) (asked : Asked S) (reply : ReplyOf C F) → MayAsk h s →
      IsTurn h s asked (turn reply next) → MayAsk next (had s reply)
  next_may h next s asked reply may first =
      let size = ap length first.goes_on in let sum = length-append h first.more in
      record { some = omega (arith, size, sum, may.some); few = first.few; had = first.known }

  turns_of : (h after : List (Event S)) (s : ℕ) (requests : List (Asked S)) (replies : List (ReplyOf C F)) → MayAsk h s →
      AnsweredInTurn meaning listed limit h requests replies after → AreTurns h s requests replies after
  turns_of h after s [] [] may run = record {
    more = [];
    goes_on = run ∙ sym (append-nil h);
    few = subst (λ l. length l ≤ limit) (sym run) may.few;
    count_is = refl;
    run = tt;
    names = λ entry. let end = ap (λ l. below (length l) entry) run in omega (arith, end);
  }
  turns_of h after s (asked ∷ requests) (reply ∷ replies) may run =
      let first = taken h run.0 s asked reply may run.1 in
      one_more h run.0 after s asked reply requests replies first
      (turns_of run.0 after (had s reply) requests replies (next_may h run.0 s asked reply may first) run.2)
  turns_of h after s [] (reply ∷ replies) may run = absurd run
  turns_of h after s (asked ∷ requests) [] may run = absurd run

  pub turns_are_whole : TurnsAreWhole meaning listed limit
  turns_are_whole site after requests replies room run legal =
      let turns = turns_of (opens site ∷ []) after 1 requests replies
      (record { some = omega arith; few = omega (arith, room); had = omega arith }) run in
      let places = count_from 0 (length requests) in
      record {
        legal = legal;
        begins = (turns.more, sym turns.goes_on);
        few = turns.few;
        answered = turns.count_is;
        hands = record { author = AUTHOR; places = places } ∷ [];
        authors = λ author. let next = below_next 0 author in let none = below_no 0 author (omega arith) in
            omega (arith, next, none);
        shares = λ place. let all = counted place 0 (length requests) in
            let none = below_no 0 place (omega arith) in
            let count : 0 + length requests ≡ length requests = omega arith in
            let end = ap (λ n. below n place) count in omega (arith, all, none, end);
        run = (
          rises 0 (length requests),
          subst (λ l. Runs meaning listed after limit AUTHOR 1 l (picked replies places))
              (sym (picked_rest requests [] requests 0 refl refl))
              (subst (λ l. Runs meaning listed after limit AUTHOR 1 requests l)
              (sym (subst (λ n. picked replies (count_from 0 n) ≡ replies) turns.count_is
              (picked_rest replies [] replies 0 refl refl))) turns.run),
          tt,
        );
        once = turns.names;
      }
