-- Names and numbers on examples.
use Rattle.std.proofs.Common.{◌≡◌, [], refl, replicate, codes, true, false}
use Rattle.std.specs.Prelude.{Some, None}
use Rattle.word_rules.specs.NodeNames.{is_node_name}
use Rattle.word_rules.specs.Numbers.{number_within}
use Rattle.word_rules.specs.declared.limits.TheConstants.{MOST_WORKERS, MOST_ROUNDS, MOST_PORT, MOST_CONNECTIONS, MOST_DEMO_NODES}

names : (is_node_name (codes "web-1.example_0") ≡ true)
    × (is_node_name (codes "Web") ≡ false)
    × (is_node_name [] ≡ false)
    × (is_node_name (codes "a/b") ≡ false)
    × (is_node_name (replicate 255 110) ≡ true)
    × (is_node_name (replicate 256 110) ≡ false)
names = (refl, refl, refl, refl, refl, refl)

numbers : (number_within 1 MOST_WORKERS (codes "1") ≡ Some 1)
    × (number_within 1 MOST_WORKERS (codes "64") ≡ Some 64)
    × (number_within 1 MOST_WORKERS (codes "0") ≡ None)
    × (number_within 1 MOST_WORKERS (codes "65") ≡ None)
    × (number_within 1 MOST_WORKERS (codes "640") ≡ None)
    × (number_within 1 MOST_WORKERS (codes "04") ≡ None)
    × (number_within 1 MOST_WORKERS (codes "+4") ≡ None)
    × (number_within 1 MOST_WORKERS (codes "4 ") ≡ None)
    × (number_within 1 MOST_WORKERS [] ≡ None)
    × (number_within 1 MOST_PORT (codes "65535") ≡ Some 65535)
    × (number_within 1 MOST_PORT (codes "65536") ≡ None)
    × (number_within 1 MOST_ROUNDS (codes "100") ≡ Some 100)
    × (number_within 1 MOST_ROUNDS (codes "101") ≡ None)
    × (number_within 1 MOST_CONNECTIONS (codes "1024") ≡ Some 1024)
    × (number_within 1 MOST_CONNECTIONS (codes "1025") ≡ None)
    × (number_within 1 MOST_DEMO_NODES (codes "4096") ≡ Some 4096)
    × (number_within 1 MOST_DEMO_NODES (codes "4097") ≡ None)
numbers = (refl, refl, refl, refl, refl, refl, refl, refl, refl, refl, refl, refl, refl, refl, refl, refl, refl)
