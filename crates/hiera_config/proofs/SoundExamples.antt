-- Documents in which no key's value is faulty, and such as are none.
use Rattle.std.proofs.Common.{◌≡◌, true, false, None, Some, codes, refl}
use Rattle.serde_json.proofs.OnLiterals.{serde_json_on_literals}
use Rattle.hiera_config.specs.SoundData.{is_sound_text}

-- no file, no key, and numbers up to 64 bits, however deep
sound_texts : (is_sound_text None ≡ true) × (is_sound_text (Some (codes "{}")) ≡ true)
    × (is_sound_text (Some (codes "{\"a\":[1,{\"b\":null}],\"c\":\"x\"}")) ≡ true)
    × (is_sound_text (Some (codes "{\"a\":9223372036854775807,\"b\":-1}")) ≡ true)
unfolding serde_json_on_literals
sound_texts = (refl, refl, refl, refl)

-- no JSON, no object, and another number, whatever its key
faulty_texts : (is_sound_text (Some (codes "{")) ≡ false) × (is_sound_text (Some (codes "[]")) ≡ false)
    × (is_sound_text (Some (codes "{\"a\":1,\"b\":0.5}")) ≡ false)
    × (is_sound_text (Some (codes "{\"a\":{\"b\":[9223372036854775808]}}")) ≡ false)
unfolding serde_json_on_literals
faulty_texts = (refl, refl, refl, refl)
