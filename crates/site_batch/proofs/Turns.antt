-- One more request is answered.
use Rattle.std.proofs.Common.{◌≡◌, ℕ, ◌+◌, ◌≤◌, List, [], ◌∷◌, ◌++◌, length, slice_get, Some, None, refl, sym, ap, ◌∙◌, subst, arith, append_assoc, append-nil}
use Rattle.std.specs.List.{cons_option}
use Rattle.std.proofs.lemmas.List.{map-append}
use Rattle.std.proofs.lemmas.List.Elements.{filter_map-append}
use Rattle.site_core.specs.Asked.{Asked}
use Rattle.site_core.specs.Meaning.{Meaning}
use Rattle.site_core.specs.Legal.{Legal}
use Rattle.site_core.specs.Fits.{Listed, named}
use Rattle.site_core.specs.Runs.{Runs, picked, had_after, all_named}
use Rattle.site_core.specs.declared.reply.ReplyOf.{ReplyOf}
use Rattle.site_core.proofs.Fitting.{fits_less}
use Rattle.site_core.proofs.Running.{had_after-push, all_named-snoc, runs_push, runs_under}
use Rattle.shared_site.proofs.Answered.{later_trans, had_within}
use Rattle.shared_site.specs.Shows.{Terms}
use Rattle.shared_site.specs.Known.{Known, IsAnswered}
use Rattle.work_pool.specs.Seats.{Claimant, Draws}
use Rattle.site_batch.specs.declared.answered.Answered.{Answered}
use Rattle.site_batch.specs.Answers.{indexes}
use Rattle.site_batch.specs.Work.{replies_of, RiseWithin, HasAnswered}

module _ {A : Type 0} where
  picked-snoc : (all : List A) (places : List ℕ) (n : ℕ) (x : A) → slice_get all n ≡ Some x →
      picked all (places ++ n ∷ []) ≡ picked all places ++ x ∷ []
  picked-snoc all places n x at =
      filter_map-append (slice_get all) places (n ∷ []) ∙ ap (λ o. picked all places ++ cons_option o []) at

rise-snoc : (low high next : ℕ) (xs : List ℕ) (n : ℕ) → RiseWithin low high xs → high ≤ n → next ≡ n + 1 →
    RiseWithin low next (xs ++ n ∷ [])
rise-snoc low high next [] n rise le is = (omega (arith, rise, le), omega (arith, is))
rise-snoc low high next (x ∷ xs) n rise le is = (rise.0, rise-snoc (x + 1) high next xs n rise.1 le is)

rise-more : (low high next : ℕ) (xs : List ℕ) → high ≤ next → RiseWithin low high xs → RiseWithin low next xs
rise-more low high next [] le rise = omega (arith, le, rise)
rise-more low high next (x ∷ xs) le rise = (rise.0, rise-more (x + 1) high next xs le rise.1)

module _ {S C F : Type 0} (meaning : Meaning S C F) (listed : Listed S) where
  -- a pass and a seat that have done nothing
  pub started : (requests : List (Asked S)) (p : Known S) (b : Claimant) → Legal meaning p.front →
      length p.front ≤ p.terms.limit → p.terms.given ≤ length p.front → b.numbers ≡ [] →
      HasAnswered meaning listed requests p p b b []
  started requests p b legal few given idle = record {
    later = record {
      site = refl;
      terms = refl;
      numbers = refl;
      room = refl;
      author = refl;
      front = ([], append-nil p.front);
    };
    legal = legal;
    few = few;
    run = tt;
    had = given;
    own = sym (append-nil p.own);
    seat = record { claims = refl; room = refl; held = refl };
    drawn = idle;
    rising = subst (RiseWithin 0 b.known) (sym idle) (omega arith);
  }

  -- a seat drew a further number, the request was answered, and the answer was kept
  pub stepped : (requests : List (Asked S)) (p q now : Known S) (seat b drawn : Claimant)
      (answers after : List (Answered (ReplyOf C F))) (answer : Answered (ReplyOf C F)) (asked : Asked S) →
      HasAnswered meaning listed requests p q seat b answers → Draws (Some answer.index) b drawn →
      slice_get requests answer.index ≡ Some asked → IsAnswered meaning listed asked answer.reply q now →
      length now.front ≤ now.terms.limit → after ≡ answers ++ answer ∷ [] →
      HasAnswered meaning listed requests p now seat drawn after
  stepped requests p q now seat b drawn answers after answer asked done draws at new few is =
      subst (HasAnswered meaning listed requests p now seat drawn) (sym is) (record {
        later = later_trans p q now done.later new.later;
        legal = new.legal;
        few = few;
        run = subst (λ l. Runs meaning listed now.front now.terms.limit now.author now.terms.given l
            (replies_of (answers ++ answer ∷ [])))
            (sym (ap (picked requests) (map-append (λ x. x.index) answers (answer ∷ []))
            ∙ picked-snoc requests (indexes answers) answer.index asked at))
            (subst (λ l. Runs meaning listed now.front now.terms.limit now.author now.terms.given
            (picked requests (indexes answers) ++ asked ∷ []) l)
            (sym (map-append (λ x. x.reply) answers (answer ∷ [])))
            (runs_push meaning listed now.front now.terms.limit now.author now.terms.given
            (picked requests (indexes answers)) (replies_of answers) asked answer.reply grown
            (fits_less meaning listed now.front now.terms.limit now.author (length q.front)
            (had_after now.terms.given (replies_of answers)) asked answer.reply had new.fits)));
        had = subst (λ n. n ≤ length now.front) (sym (ap (had_after now.terms.given)
            (map-append (λ x. x.reply) answers (answer ∷ []))
            ∙ had_after-push now.terms.given (replies_of answers) answer.reply))
            (had_within (had_after now.terms.given (replies_of answers)) (length q.front) (length now.front) answer.reply
            had new.leaves);
        own = new.own ∙ ap (λ l. l ++ named answer.reply) done.own
            ∙ append_assoc p.own (all_named (replies_of answers)) (named answer.reply)
            ∙ ap (λ l. p.own ++ l) (sym (ap all_named (map-append (λ x. x.reply) answers (answer ∷ []))
            ∙ all_named-snoc (replies_of answers) answer.reply));
        seat = record {
          claims = ap (λ s. s.claims) draws.3 ∙ done.seat.claims;
          room = ap (λ s. s.room) draws.3 ∙ done.seat.room;
          held = ap (λ s. s.held) draws.3 ∙ done.seat.held;
        };
        drawn = ap (λ s. s.numbers) draws.3 ∙ ap (λ l. l ++ answer.index ∷ []) done.drawn
            ∙ sym (map-append (λ x. x.index) answers (answer ∷ []));
        rising = subst (RiseWithin 0 drawn.known) (sym (ap (λ s. s.numbers) draws.3))
            (rise-snoc 0 b.known drawn.known b.numbers answer.index done.rising draws.1 (ap (λ s. s.known) draws.3));
      })
    where
      same : (had_after now.terms.given (replies_of answers)) ≡ (had_after q.terms.given (replies_of answers))
      same = ap (λ t. had_after t.given (replies_of answers)) new.later.terms

      had : had_after now.terms.given (replies_of answers) ≤ length q.front
      had = omega (arith, same, done.had)

      grown : Runs meaning listed now.front now.terms.limit now.author now.terms.given
          (picked requests (indexes answers)) (replies_of answers)
      grown = subst (λ n. Runs meaning listed now.front now.terms.limit n now.terms.given
          (picked requests (indexes answers)) (replies_of answers))
          (sym new.later.author)
          (subst (λ (t : Terms). Runs meaning listed now.front t.limit q.author t.given
          (picked requests (indexes answers)) (replies_of answers)) (sym new.later.terms)
          (runs_under meaning listed q.front now.front q.terms.limit q.author q.terms.given
          (picked requests (indexes answers)) (replies_of answers) new.later.front
          (omega (arith, few, ap (λ t. t.limit) new.later.terms)) done.run))

  -- a seat found that no number is left
  pub drained : (requests : List (Asked S)) (p q : Known S) (seat b after : Claimant)
      (answers : List (Answered (ReplyOf C F))) → HasAnswered meaning listed requests p q seat b answers →
      Draws None b after →
      HasAnswered meaning listed requests p q seat after answers × (after.claims.count ≤ after.known)
  drained requests p q seat b after answers done draws = (
    record {
      later = done.later;
      legal = done.legal;
      few = done.few;
      run = done.run;
      had = done.had;
      own = done.own;
      seat = record {
        claims = ap (λ s. s.claims) draws.2 ∙ done.seat.claims;
        room = ap (λ s. s.room) draws.2 ∙ done.seat.room;
        held = ap (λ s. s.held) draws.2 ∙ done.seat.held;
      };
      drawn = ap (λ s. s.numbers) draws.2 ∙ done.drawn;
      rising = subst (RiseWithin 0 after.known) (sym (ap (λ s. s.numbers) draws.2))
          (rise-more 0 b.known after.known b.numbers draws.1 done.rising);
    },
    omega (arith, draws.0, ap (λ s. s.claims.count) draws.2),
  )
