-- One more reply of the site.
use Rattle.std.proofs.Common.{◌≡◌, ℕ, ◌+◌, ◌≤◌, List, [], ◌∷◌, ◌++◌, length, refl, sym, ap, ◌∙◌, subst, arith, append_assoc, append-nil}
use Rattle.site_core.specs.Asked.{Asked}
use Rattle.site_core.specs.Meaning.{Meaning}
use Rattle.site_core.specs.Legal.{Legal}
use Rattle.site_core.specs.Fits.{Listed, named}
use Rattle.site_core.specs.Runs.{Runs, had_after, all_named}
use Rattle.site_core.specs.declared.reply.ReplyOf.{ReplyOf}
use Rattle.site_core.proofs.Fitting.{fits_less}
use Rattle.site_core.proofs.Running.{had_after-push, all_named-snoc, runs_push, runs_under}
use Rattle.shared_site.proofs.Answered.{later_trans, had_within}
use Rattle.shared_site.specs.Shows.{Terms}
use Rattle.shared_site.specs.Known.{Known, IsAnswered}
use Rattle.site_serve.specs.Ends.{HasReplied}

module _ {S C F : Type 0} (meaning : Meaning S C F) (listed : Listed S) where
  -- nothing was asked yet
  pub none_replied : (p : Known S) → Legal meaning p.front → length p.front ≤ p.terms.limit →
      HasReplied meaning listed p p [] []
  none_replied p legal few = record {
    later = record {
      site = refl;
      terms = refl;
      numbers = refl;
      room = refl;
      author = refl;
      front = ([], append-nil p.front);
    };
    legal = legal;
    few = few;
    run = tt;
    had = omega arith;
    own = sym (append-nil p.own);
  }

  pub one_replied : (p q now : Known S) (requests : List (Asked S)) (replies : List (ReplyOf C F)) (asked : Asked S)
      (reply : ReplyOf C F) → HasReplied meaning listed p q requests replies →
      IsAnswered meaning listed asked reply q now → length now.front ≤ now.terms.limit →
      HasReplied meaning listed p now (requests ++ asked ∷ []) (replies ++ reply ∷ [])
  one_replied p q now requests replies asked reply done new few = record {
    later = later_trans p q now done.later new.later;
    legal = new.legal;
    few = few;
    run = runs_push meaning listed now.front now.terms.limit now.author (length p.front) requests replies asked reply
        grown (fits_less meaning listed now.front now.terms.limit now.author (length q.front)
        (had_after (length p.front) replies) asked reply done.had new.fits);
    had = subst (λ n. n ≤ length now.front) (sym (had_after-push (length p.front) replies reply))
        (had_within (had_after (length p.front) replies) (length q.front) (length now.front) reply done.had new.leaves);
    own = new.own ∙ ap (λ l. l ++ named reply) done.own ∙ append_assoc p.own (all_named replies) (named reply)
        ∙ ap (λ l. p.own ++ l) (sym (all_named-snoc replies reply));
  }
    where
      grown : Runs meaning listed now.front now.terms.limit now.author (length p.front) requests replies
      grown = subst (λ n. Runs meaning listed now.front now.terms.limit n (length p.front) requests replies)
          (sym new.later.author)
          (subst (λ (t : Terms). Runs meaning listed now.front t.limit q.author (length p.front) requests replies)
          (sym new.later.terms)
          (runs_under meaning listed q.front now.front q.terms.limit q.author (length p.front) requests replies
          new.later.front (omega (arith, few, ap (λ t. t.limit) new.later.terms)) done.run))
