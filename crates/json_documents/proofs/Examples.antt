-- Lines of texts, and which data can be read back.
use Rattle.std.proofs.Common.{◌≡◌, ℕ, true, false, List, [], ◌∷◌, pos, negsuc, Some, None, Ok, Err, refl, codes}
use Rattle.serde_json.specs.Data.{Data, unsigned, number, string, object, no_members, member}
use Rattle.pp_values.specs.Datum as d
use Rattle.json_documents.specs.ExactData.{has_rising}
use Rattle.json_documents.specs.LineDocuments.{split_lines}
use Rattle.json_documents.specs.LinesOfText.{first_lines, cut_line, read_one_line}
use Rattle.json_documents.specs.ProperValues.{is_proper}
use Rattle.json_documents.specs.SmallNumbers.{has_small}

-- `a`, a line feed, `b`
abbrev two : List ℕ
two = 97 ∷ 10 ∷ 98 ∷ []

-- a line has its line feed, what is behind the last one is a line too, and what is missing is empty
lines : (first_lines 0 two ≡ [])
    × (first_lines 1 two ≡ 97 ∷ 10 ∷ [])
    × (first_lines 2 two ≡ two)
    × (first_lines 3 two ≡ two)
    × (first_lines 1 (10 ∷ 10 ∷ []) ≡ 10 ∷ [])
    × (cut_line two ≡ Some (97 ∷ [], 98 ∷ []))
    × (cut_line (98 ∷ []) ≡ None)
    × (split_lines two ≡ ((97 ∷ []) ∷ [], 98 ∷ []))
    × (split_lines (10 ∷ 10 ∷ []) ≡ ([] ∷ [] ∷ [], []))
unfolding split_lines
lines = (refl, refl, refl, refl, refl, refl, refl, refl, refl)

-- where any line is taken: a text that ends before its line feed, one that is taken, and one with more behind it
taken : (read_one_line (λ l. Some l) (97 ∷ []) ≡ Err 1)
    × (read_one_line (λ l. Some l) (97 ∷ 10 ∷ []) ≡ Ok (97 ∷ []))
    × (read_one_line (λ l. Some l) two ≡ Err 2)
taken = (refl, refl, refl)

abbrev pair : List ℕ → List ℕ → Data
pair k l = object (member k (string []) (member l (string []) no_members))

-- names in their order, out of it, and twice; a number that is the first one past 64 bits
exact : (has_rising (pair (codes "a") (codes "b")) ≡ true)
    × (has_rising (pair (codes "b") (codes "a")) ≡ false)
    × (has_rising (pair (codes "a") (codes "a")) ≡ false)
    × (has_small (number (unsigned 18446744073709551615)) ≡ true)
    × (has_small (number (unsigned 18446744073709551616)) ≡ false)
exact = (refl, refl, refl, refl, refl)

abbrev hash : d.Datum → d.Datum → d.Datum
hash k l = d.hash (d.entry k d.undef (d.entry l d.undef d.no_entries))

proper : (is_proper (d.int (pos 9223372036854775807)) ≡ true)
    × (is_proper (d.int (pos 9223372036854775808)) ≡ false)
    × (is_proper (d.int (negsuc 9223372036854775807)) ≡ true)
    × (is_proper (hash (d.int (pos 1)) (d.text (codes "a"))) ≡ true)
    × (is_proper (hash (d.int (pos 1)) (d.int (pos 1))) ≡ false)
    × (is_proper (d.reference (record { kind = codes "File"; title = [] })) ≡ false)
    × (is_proper (d.list (d.datum d.default d.no_data)) ≡ false)
proper = (refl, refl, refl, refl, refl, refl, refl)
