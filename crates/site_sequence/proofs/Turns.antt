-- What a turn can come to, and the laws of runs.
use Rattle.std.proofs.Common.{◌≡◌, ◌⊎◌, inl, inr, ℕ, ◌+◌, Bool, true, false, List, [], ◌∷◌, ◌++◌, length, Option, None, Some, Result, Ok, Err, refl, sym, ap, ◌∙◌, subst, arith}
use Rattle.std.specs.Prelude.{nat_lt, if◌then◌else◌, IsTrue, option_map, option_and_then, ◌||◌}
use Rattle.std.specs.List.{list_any}
use Rattle.std.proofs.lemmas.Bool.{and_from, and_parts, or_parts, eq-eqb}
use Rattle.std.proofs.lemmas.List.{length-append}
use Rattle.pp_values.specs.Datum.{Datum}
use Rattle.res_core.specs.declared.export_set.ExportSet.{ExportSet}
use Rattle.site_core.specs.Asked.{Asked, compile, plain}
use Rattle.site_core.specs.Meaning.{Meaning}
use Rattle.site_core.specs.Events.{Event}
use Rattle.site_core.specs.Sets.{sets_at, site_at}
use Rattle.site_core.specs.Fits.{facts_for, named}
use Rattle.site_core.specs.Runs.{all_named}
use Rattle.site_core.specs.Said.{kind_of as kind_asked, plain_reply}
use Rattle.site_core.specs.declared.plain.Plain.{Plain}
use Rattle.site_core.specs.declared.reply.ReplyOf.{ReplyOf}
use Rattle.site_core.specs.declared.reply.ReplyOf.TheVariants as a
use Rattle.site_core.proofs.Fitting.{said_plain, named_plain}
use Rattle.site_sequence.specs.Sequence.{Turn, turn, turn_meant, turn_added, turn_known, turn_for, Takes, AnsweredInTurn, Outcome, with_turn, outcome_of}
use Rattle.site_sequence.specs.SequenceLaws.{says_memory, is_memory, CountUp, is_made_from, are_made_in_turn, AnswersAreMeant, MeantIsAnswered, RepliesNameEntries, PublicationsAreInTurn}

module _ {S C F : Type 0} where
  -- the history stays, and no entry is named
  record IsSilent (h : List (Event S)) (reply : ReplyOf C F) (after : List (Event S)) : Type 0 where
    pub same : after ≡ h
    pub unnamed : named reply ≡ []

  -- one entry comes, which the reply names
  record Adds (h : List (Event S)) (reply : ReplyOf C F) (after : List (Event S)) : Type 0 where
    pub entry : Event S
    pub more : after ≡ h ++ entry ∷ []
    pub names : named reply ≡ length h ∷ []
    pub in_turn : IsTrue (is_made_from (length h) entry)

  record Comes (h : List (Event S)) (t : Turn S C F) : Type 0 where
    pub told : is_memory t.reply ≡ false
    pub kind : IsSilent h t.reply t.history ⊎ Adds h t.reply t.history

  comes_if : (h : List (Event S)) (b : Bool) (t u : Turn S C F) → Comes h t → Comes h u → Comes h (if b then t else u)
  comes_if h true t u first second = first
  comes_if h false t u first second = second

  stays : (h : List (Event S)) (reply : ReplyOf C F) → is_memory reply ≡ false → named reply ≡ [] →
      Comes h (turn reply h)
  stays h reply told unnamed = record { told = told; kind = inl (record { same = refl; unnamed = unnamed }) }

  adds : (h : List (Event S)) (reply : ReplyOf C F) (e : Event S) → is_memory reply ≡ false →
      named reply ≡ length h ∷ [] →
      IsTrue (is_made_from (length h) e) → Comes h (turn reply (h ++ e ∷ []))
  adds h reply e told names in_turn = record {
    told = told;
    kind = inr (record { entry = e; more = refl; names = names; in_turn = in_turn });
  }

  comes_meant : (limit : ℕ) (h : List (Event S)) (node : List ℕ) (facts : Datum) (meant : Result (C × ExportSet) F) →
      Comes h (turn_meant limit h node facts meant)
  comes_meant limit h node facts (Err fault) = stays h (a.Refused (length h) fault) refl refl
  comes_meant limit h node facts (Ok made) =
      comes_if h (nat_lt (length h) limit) _ _ (adds h (a.Served (length h) (length h) made.0) _ refl refl
      (eq-eqb (length h) (length h) refl))
      (stays h (a.HistoryFull (length h)) refl refl)

  comes_added : (limit : ℕ) (h : List (Event S)) (what : Plain S) → Comes h (turn_added {C = C} {F = F} limit h what)
  comes_added limit h what =
      let which = kind_asked what in
      comes_if h (nat_lt (length h) limit) _ _
      (adds h (plain_reply which (length h)) _ (ap says_memory (said_plain which (length h)))
      (named_plain C F which (length h)) refl)
      (stays h (a.HistoryFull (length h)) refl refl)

module _ {S C F : Type 0} (meaning : Meaning S C F) (listed : S → List ℕ → Option Datum) (limit : ℕ) where
  comes_known : (h : List (Event S)) (site : S) (node : List ℕ) (facts : Option Datum) →
      Comes h (turn_known meaning listed limit h site node facts)
  comes_known h site node None = stays h (a.UnknownNode (length h)) refl refl
  comes_known h site node (Some facts) = comes_meant limit h node facts (meaning site node facts (sets_at h (length h)))

  comes_at : (h : List (Event S)) (f : S → Turn S C F) (site : Option S) (t : Turn S C F) → ((s : S) → Comes h (f s)) →
      option_map f site ≡ Some t → Comes h t
  comes_at h f None t all is = cc
  comes_at h f (Some site) t all is = let e : f site ≡ t = cc in subst (Comes h) e (all site)

  comes_unless : (h : List (Event S)) (ahead : Bool) (early : Turn S C F) (later : Option (Turn S C F))
      (t : Turn S C F) → Comes h early →
      (later ≡ Some t → Comes h t) → (if ahead then Some early else later) ≡ Some t → Comes h t
  comes_unless h true early later t first rest is = let e : early ≡ t = cc in subst (Comes h) e first
  comes_unless h false early later t first rest is = rest is

  comes : (h : List (Event S)) (asked : Asked S) (t : Turn S C F) → turn_for meaning listed limit h asked ≡ Some t →
      Comes h t
  comes h (compile w) t is =
      comes_unless h (nat_lt (length h) w.seen) (turn (a.SeenAhead (length h)) h) _ t
      (stays h (a.SeenAhead (length h)) refl refl)
      (comes_at h (λ site. turn_known meaning listed limit h site w.node (facts_for listed site w))
      (site_at h (length h)) t
      (λ site. comes_known h site w.node (facts_for listed site w))) is
  comes h (plain what) t is = let e : turn_added limit h what ≡ t = cc in subst (Comes h) e (comes_added limit h what)

  -- each answer names the one entry that came, or none came
  kind_of : (h next : List (Event S)) (asked : Asked S) (reply : ReplyOf C F) →
      Takes meaning listed limit h asked reply next →
      IsSilent h reply next ⊎ Adds h reply next
  kind_of h next asked reply (inl is) = (comes h asked (turn reply next) is).kind
  kind_of h next asked reply (inr is) = inl (record { same = is.1; unnamed = ap named is.0 })

  count_on : (h next after : List (Event S)) (reply : ReplyOf C F) (xs : List ℕ) → IsSilent h reply next
      ⊎ Adds h reply next →
      CountUp (length next) (length after) xs → CountUp (length h) (length after) (named reply ++ xs)
  count_on h next after reply xs (inl silent) up =
      rw silent.unnamed (subst (λ es. CountUp (length es) (length after) xs) silent.same up)
  count_on h next after reply xs (inr added) up =
      rw added.names (
        refl,
        subst (λ n. CountUp n (length after) xs)
            (ap length added.more ∙ length-append h (added.entry ∷ [])) up,
      )

  pub names : RepliesNameEntries meaning listed limit
  names h after [] [] run = ap length (sym run)
  names h after (asked ∷ requests) (reply ∷ replies) run =
      count_on h run.0 after reply (all_named replies) (kind_of h run.0 asked reply run.1)
      (names run.0 after requests replies run.2)
  names h after [] (reply ∷ replies) run = absurd run
  names h after (asked ∷ requests) [] run = absurd run

  in_turn-push : (n : ℕ) (h : List (Event S)) (e : Event S) → IsTrue (are_made_in_turn n h) →
      IsTrue (is_made_from (n + length h) e) →
      IsTrue (are_made_in_turn n (h ++ e ∷ []))
  in_turn-push n [] e all last = and_from (is_made_from n e) true
      (subst (λ m. IsTrue (is_made_from m e)) (omega arith) last) refl
  in_turn-push n (x ∷ h) e all last =
      and_from (is_made_from n x) (are_made_in_turn (n + 1) (h ++ e ∷ []))
      (and_parts (is_made_from n x) (are_made_in_turn (n + 1) h) all).0
      (in_turn-push (n + 1) h e (and_parts (is_made_from n x) (are_made_in_turn (n + 1) h) all).1
      (subst (λ m. IsTrue (is_made_from m e)) (omega arith) last))

  in_turn_on : (h next : List (Event S)) (reply : ReplyOf C F) → IsSilent h reply next ⊎ Adds h reply next →
      IsTrue (are_made_in_turn 0 h) →
      IsTrue (are_made_in_turn 0 next)
  in_turn_on h next reply (inl silent) all = subst (λ es. IsTrue (are_made_in_turn 0 es)) (sym silent.same) all
  in_turn_on h next reply (inr added) all =
      subst (λ es. IsTrue (are_made_in_turn 0 es)) (sym added.more)
      (in_turn-push 0 h added.entry all (subst (λ n. IsTrue (is_made_from n added.entry)) (omega arith) added.in_turn))

  pub in_turn : PublicationsAreInTurn meaning listed limit
  in_turn h after [] [] run all = subst (λ es. IsTrue (are_made_in_turn 0 es)) (sym run) all
  in_turn h after (asked ∷ requests) (reply ∷ replies) run all =
      in_turn run.0 after requests replies run.2 (in_turn_on h run.0 reply (kind_of h run.0 asked reply run.1) all)
  in_turn h after [] (reply ∷ replies) run all = absurd run
  in_turn h after (asked ∷ requests) [] run all = absurd run

  -- the turn that is meant
  told_turn : (h next : List (Event S)) (asked : Asked S) (reply : ReplyOf C F) →
      Takes meaning listed limit h asked reply next →
      is_memory reply ≡ false → turn_for meaning listed limit h asked ≡ Some (turn reply next)
  told_turn h next asked reply (inl is) told = is
  told_turn h next asked reply (inr is) told = let wrong : true ≡ false = sym (ap is_memory is.0) ∙ told in cc

  pub meant : AnswersAreMeant meaning listed limit
  unfolding outcome_of
  meant h after [] [] run told = ap (λ es. Some (record { replies = []; history = es })) (sym run)
  meant h after (asked ∷ requests) (reply ∷ replies) run told =
      rw (told_turn h run.0 asked reply run.1 (or_parts (is_memory reply) (list_any is_memory replies) told).0)
      (ap (option_map (with_turn (turn reply run.0)))
      (meant run.0 after requests replies run.2 (or_parts (is_memory reply) (list_any is_memory replies) told).1))
  meant h after [] (reply ∷ replies) run told = absurd run
  meant h after (asked ∷ requests) [] run told = absurd run

  Meant : List (Event S) → List (Asked S) → Outcome S C F → Type 0
  Meant h requests o = AnsweredInTurn meaning listed limit h requests o.replies o.history
      × (list_any is_memory o.replies ≡ false)

  run_later : (h : List (Event S)) (asked : Asked S) (requests : List (Asked S)) (t : Turn S C F)
      (later : Option (Outcome S C F)) (o : Outcome S C F) →
      turn_for meaning listed limit h asked ≡ Some t →
      ((u : Outcome S C F) → later ≡ Some u → Meant t.history requests u) →
      option_map (with_turn t) later ≡ Some o → Meant h (asked ∷ requests) o
  unfolding Meant
  run_later h asked requests t None o is rest all = cc
  run_later h asked requests t (Some u) o is rest all =
      let e : with_turn t u ≡ o = cc in
      subst (Meant h (asked ∷ requests)) e (
        (t.history, inl is, (rest u refl).0),
        ap (λ b. b || list_any is_memory u.replies) (comes h asked t is).told
            ∙ (rest u refl).1,
      )

  run_from : (h : List (Event S)) (asked : Asked S) (requests : List (Asked S)) (t : Option (Turn S C F))
      (o : Outcome S C F) →
      turn_for meaning listed limit h asked ≡ t → ((next : List (Event S)) (u : Outcome S C F) →
      outcome_of meaning listed limit next requests ≡ Some u → Meant next requests u) →
      option_and_then (λ t. option_map (with_turn t) (outcome_of meaning listed limit t.history requests)) t ≡ Some o →
      Meant h (asked ∷ requests) o
  run_from h asked requests None o is rest all = cc
  run_from h asked requests (Some t) o is rest all =
      run_later h asked requests t (outcome_of meaning listed limit t.history requests) o is (rest t.history) all

  runs : (h : List (Event S)) (requests : List (Asked S)) (o : Outcome S C F) →
      outcome_of meaning listed limit h requests ≡ Some o → Meant h requests o
  unfolding outcome_of Meant
  runs h [] o is = let e : record { replies = []; history = h } ≡ o = cc in subst (Meant h []) e (refl, refl)
  runs h (asked ∷ requests) o is =
      run_from h asked requests (turn_for meaning listed limit h asked) o refl (λ next u. runs next requests u) is

  pub meant_is_a_run : MeantIsAnswered meaning listed limit
  unfolding Meant
  meant_is_a_run h requests o is = runs h requests o is
