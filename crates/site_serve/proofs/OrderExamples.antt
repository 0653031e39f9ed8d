-- What is in order in a connection, and what is late.
use Rattle.std.proofs.Common.{◌≡◌, ℕ, List, [], ◌∷◌, Some, None, refl, subst}
use Rattle.site_io.specs.Events.{Event, came, went, EachRead}
use Rattle.site_io.specs.Stream.{Stream}
use Rattle.http_wire.specs.Messages.{HasNext}
use Rattle.http_wire.specs.declared.request.HttpRequest.{HttpRequest}
use Rattle.site_serve.specs.Ends.{Dialect, AllAnswered, IsPrompt}

-- a stream that tells its calls
abbrev told : List Event → Stream
told es = record { faults = 0; left = None; read = None; written = None; shut = None; events = Some es }

module _ {S C F : Type 0} (d : Dialect S C F) where
  -- where a request is at hand and nothing was written, not all is answered
  not_answered : (bytes rest : List ℕ) (r : HttpRequest) → HasNext bytes r rest → AllAnswered d bytes [] → ⊥
  not_answered bytes rest r next ([], behind, turns, begins, none, each, text) =
      none r rest (subst (λ l. HasNext l r rest) begins next)
  not_answered bytes rest r next (q ∷ rs, behind, [], begins, none, each, text) = absurd each
  not_answered bytes rest r next (q ∷ rs, behind, t ∷ turns, begins, none, each, text) = absurd (cc text)

  -- So a read behind a request comes too late where its answer stands behind that read, whatever the answer is.
  late : (bytes more text rest : List ℕ) (r : HttpRequest) → HasNext bytes r rest →
      IsPrompt d (told []) (told (came bytes ∷ came more ∷ went text ∷ [])) → ⊥
  late bytes more text rest r next (new, is, each) =
      let same : new ≡ came bytes ∷ came more ∷ went text ∷ [] = cc (is) in
      not_answered bytes rest r next (subst (EachRead (AllAnswered d) [] []) same each).1.0

  -- With the answer before the read it is in order.
  in_time : (bytes more text : List ℕ) → AllAnswered d [] [] → AllAnswered d bytes text →
      IsPrompt d (told []) (told (came bytes ∷ went text ∷ came more ∷ []))
  in_time bytes more text first second = (came bytes ∷ went text ∷ came more ∷ [], refl, (first, (second, tt)))
