-- Requests that are answered in turn, one request at a time.
use Rattle.std.proofs.Common.{◌≡◌, ℕ, ◌<◌, List, [], ◌∷◌, ◌++◌, length, Option, subst, sym, append-nil, refl, arith}
use Rattle.pp_values.specs.Datum.{Datum}
use Rattle.site_core.specs.Asked.{Asked, all_asks}
use Rattle.res_core.specs.RequestViews.{all_asked}
use Rattle.res_core.specs.declared.request.Request.{Request}
use Rattle.site_core.specs.Meaning.{Meaning}
use Rattle.site_core.specs.Events.{Event}
use Rattle.site_core.specs.declared.reply.ReplyOf.{ReplyOf}
use Rattle.site_sequence.specs.Sequence.{AnsweredInTurn}

module _ {S C F : Type 0} (meaning : Meaning S C F) (listed : S → List ℕ → Option Datum) (limit : ℕ) where
  -- with these replies so far, a run of the requests that are left is one of all
  pub record GoesOn (start : List (Event S)) (all : List (Asked S)) (replies : List (ReplyOf C F)) (h : List (Event S))
      (left : List (Asked S)) : Type 0 where
    pub runs : (more : List (ReplyOf C F)) (after : List (Event S)) →
        AnsweredInTurn meaning listed limit h left more after →
        AnsweredInTurn meaning listed limit start all (replies ++ more) after

  has_run : (start : List (Event S)) (all : List (Asked S)) (replies : List (ReplyOf C F)) (h : List (Event S)) →
      GoesOn start all replies h [] →
      AnsweredInTurn meaning listed limit start all replies h
  has_run start all replies h on = subst (λ r. AnsweredInTurn meaning listed limit start all r h) (append-nil replies)
      (on.runs [] h refl)

  -- no request is left
  pub has_run_all : (start : List (Event S)) (all : List (Asked S)) (replies : List (ReplyOf C F))
      (h after : List (Event S)) (left : List Request) →
      length left < 1 → GoesOn start all replies h (all_asks (all_asked left)) → after ≡ h →
      AnsweredInTurn meaning listed limit start all replies after
  has_run_all start all replies h after [] none on is =
      subst (AnsweredInTurn meaning listed limit start all replies) (sym is) (has_run start all replies h on)
  has_run_all start all replies h after (request ∷ left) none on is = absurd (omega arith)
