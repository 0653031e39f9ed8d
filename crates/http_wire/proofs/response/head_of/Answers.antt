use Rattle.std.proofs.Common.{◌≡◌, ℕ, List, [], ◌++◌, ap, append_assoc}
use Rattle.http_wire.specs.Responses.{length_field}
use Rattle.http_wire.proofs.response.head_of.Goals as goal

joined : (s0 s1 s2 s3 s4 s5 a b b' c d e : List ℕ) → s0 ≡ [] → s1 ≡ s0 ++ a → s2 ≡ s1 ++ b' → b' ≡ b → s3 ≡ s2 ++ c
    → s4 ≡ s3 ++ d → s5 ≡ s4 ++ e → s5 ≡ a ++ (b ++ (c ++ (d ++ e)))
joined s0 s1 s2 s3 s4 s5 a b b' c d e p0 p1 p2 same p3 p4 p5 = rw (p5, p4, p3, p2, same, p1, p0) (simp append_assoc)

pub returns : goal.returns
returns c =
    joined _ _ _ _ _ _ _ _ _ _ _ _ c.new-out.ensures.bytes c.in_ok-push_status.ensures c.in_ok-push_length.ensures
    (ap length_field c.len.ensures) c.in_ok-push_number.ensures c.in_ok-push_number-2.ensures c.in_ok-push_str.ensures.bytes
