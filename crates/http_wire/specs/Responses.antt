-- The bytes of a response.
use Rattle.std.specs.Prelude.{◌≡◌, ℕ, List, [], ◌∷◌, ◌++◌, length, codes, Option, None, Some, Result, Ok, Err}
use Rattle.std.specs.Fmt.{decimal}
use Rattle.http.specs.StatusCode.{status_text}
use Rattle.site_io.specs.Stream.{Stream, Rose, HasWritten}
use Rattle.http_wire.specs.declared.response.HttpResponse.{HttpResponse}
use Rattle.http_wire.specs.declared.response.WriteStop.{WriteStop}
use Rattle.http_wire.specs.declared.response.WriteStop.TheVariants as stop

-- the end of a line
abbrev pub crlf : List ℕ
crlf = 13 ∷ 10 ∷ []

abbrev pub length_field : ℕ → List ℕ
length_field length = codes "Content-Length: " ++ (decimal length ++ crlf)

-- a field with a number, where there is one
abbrev pub number_field : List ℕ → Option ℕ → List ℕ
number_field name None = []
number_field name (Some n) = name ++ (codes ": " ++ (decimal n ++ crlf))

abbrev pub status_line : ℕ → List ℕ
status_line status = codes "HTTP/1.1 " ++ (status_text status ++ crlf)

-- what stands before the body
abbrev pub head_text : HttpResponse → List ℕ
head_text r =
    status_line r.status ++ (length_field (length r.body) ++ (number_field (codes "Site-Entry") r.entry
    ++ (number_field (codes "Site-K") r.k ++ crlf)))

abbrev pub response_text : HttpResponse → List ℕ
response_text r = head_text r ++ r.body

-- a front of the text was written, perhaps all of it
abbrev pub HasBegun : List ℕ → Stream → Stream → Type 0
HasBegun text before after = (front : List ℕ) × (lost : List ℕ) × (text ≡ front ++ lost) × HasWritten front before after

abbrev pub WritesText : {U : Type 0} → List ℕ → Result U WriteStop → Stream → Stream → Type 0
WritesText text (Ok done) before after = HasWritten text before after
WritesText text (Err stop.WriteFault) before after = HasBegun text before after × Rose before.faults after.faults
WritesText text (Err stop.Memory) before after = HasBegun text before after
