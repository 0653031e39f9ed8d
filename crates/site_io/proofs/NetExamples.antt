-- Connections and listeners on small values.
use Rattle.std.proofs.Common.{◌≡◌, true, false, [], ◌∷◌, Some, None, refl, arith}
use Rattle.std.proofs.Math.Dec.{lit≤}
use Rattle.std.specs.Prelude.{codes}
use Rattle.site_io.specs.declared.connection.Accept.TheVariants as accept
use Rattle.site_io.specs.declared.connection.Bound.TheVariants as bound
use Rattle.site_io.specs.Stream.{Stream, HasShut, HasTraded}
use Rattle.site_io.specs.Scripted.{conn_stream}
use Rattle.site_io.specs.Net.{Lines, Net, untold, Binds, Accepts, IsOut, put_back}
use Rattle.site_io.specs.ScriptedNet.{is_failing_now}

-- a connection of two bytes, one of which was read, and "x" was written to it
abbrev half : Stream
half = conn_stream 0 (codes "a") (codes "b") (codes "x") false

-- shut, with all its bytes as they were
shuts : HasShut half (conn_stream 0 (codes "a") (codes "b") (codes "x") true)
shuts = record { later = lit≤ tt; left = refl; read = refl; written = refl; shut = refl; events = refl }

-- a call that leaves it open
stays_open : (after : Stream) → HasShut half after → after.shut ≡ Some false → ⊥
stays_open after shut unshut = let ends : after.shut ≡ Some true = shut.shut in cc

-- one more byte was read and two were written
trades : HasTraded (codes "b") (codes "yz") half (conn_stream 0 (codes "ab") [] (codes "xyz") false)
trades = record { later = lit≤ tt; left = refl; read = refl; written = refl; shut = refl; events = tt }

-- two connections wait, and one was given and handed back
abbrev some_lines : Lines
some_lines = record { waiting = half ∷ conn_stream 0 [] [] [] false ∷ []; given = Some half ∷ [] }

abbrev told : Lines → Net
told lines = record { faults = 0; told = Some lines }

-- the first that waits is given, and is out as number 2
gives_first : Accepts (λ s. s) (accept.Connection half) (told some_lines)
    (told (record { waiting = conn_stream 0 [] [] [] false ∷ []; given = Some half ∷ None ∷ [] }))
gives_first = record { later = lit≤ tt; told = (conn_stream 0 [] [] [] false ∷ [], refl, refl) }

-- while some wait, none says that there is no more
is_not_closed : Accepts {C = Stream} (λ s. s) accept.Closed (told some_lines) (told some_lines) → ⊥
is_not_closed accepts = let none = accepts.1 in cc

-- who tells nothing never says so
never_closes : Accepts {C = Stream} (λ s. s) accept.Closed (untold 0) (untold 0) → ⊥
never_closes accepts = accepts.1

-- a listener fails where its count rose alone
fails_counted : Accepts {C = Stream} (λ s. s) accept.Failed (untold 3) (untold 3) → ⊥
fails_counted accepts = let rose = accepts.1 in omega (arith, rose)

-- numbers count from 1 on, and one that was handed back is not out
is_not_out : IsOut 1 (Some some_lines) → ⊥
is_not_out out = let gone = out.1 in cc

none_is_zero : IsOut 0 (Some some_lines) → ⊥
none_is_zero out = let counted = out.0 in omega (arith, counted)

puts_second : put_back 2 half (record { waiting = []; given = None ∷ None ∷ [] }) ≡
    record { waiting = []; given = None ∷ Some half ∷ [] }
puts_second = refl

-- who listens anew has given none
renews : Binds bound.Listening (told some_lines) (told (record { waiting = some_lines.waiting; given = [] }))
renews = record { later = lit≤ tt; told = refl }

-- the second call fails, whichever it is
second_fails : is_failing_now (record { net = untold 0; calls = 1; failing = 2 ∷ [] }) ≡ true
second_fails = refl

first_does_not : is_failing_now (record { net = untold 0; calls = 0; failing = 2 ∷ [] }) ≡ false
first_does_not = refl
