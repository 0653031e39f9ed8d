-- Data in which no value is faulty: each number is a 64-bit integer.
use Rattle.std.specs.Prelude.{ℕ, Bool, true, false, ◌&&◌, List, Option, None, Some, is_some}
use Rattle.serde_json.specs.Data.{Data, number, array, object, Items, no_items, item, Members, no_members, member}
use Rattle.serde_json.specs.Find.{as_i64}
use Rattle.serde_json.specs.Read.{read}
use Rattle.hiera_config.specs.Documents.{is_document}

abbrev mutual
  pub is_sound : Data → Bool
  is_sound (number n) = is_some (as_i64 n)
  is_sound (array ds) = are_sound_items ds
  is_sound (object ms) = are_sound_members ms
  is_sound d = true

  pub are_sound_items : Items → Bool
  are_sound_items no_items = true
  are_sound_items (item d ds) = is_sound d && are_sound_items ds

  pub are_sound_members : Members → Bool
  are_sound_members no_members = true
  are_sound_members (member k d ms) = is_sound d && are_sound_members ms

-- a document with a value for each of its keys
abbrev pub is_sound_document : Option Data → Bool
is_sound_document None = false
is_sound_document (Some d) = is_document d && is_sound d

-- there is no file, or it is such a document
abbrev pub is_sound_text : Option (List ℕ) → Bool
is_sound_text None = true
is_sound_text (Some text) = is_sound_document (read text)
