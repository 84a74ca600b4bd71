-- The pair that an Allocation gives, by its payload.
use Rattle.std.proofs.Common.{◌≡◌, ℕ, ◌≤◌, ◌+◌, ◌*◌, ◌/◌, ◌%◌, Bool, true, List, length, ap, ◌∙◌, arith, None, Option, Some, cond, if◌then◌else◌, nat_eq, nat_le, ◌&&◌}
use Rattle.alloc_handlers.proofs.Words.{Alloc, allocation_payload, nat_tests, pair_in, pair_of_allocation}
use Rattle.alloc_spec.specs.Transfers.{GivenPair}

at_most : (n : ℕ) → n ≤ 16 → nat_le n 16 ≡ true
at_most n h = grind (arith, nat_tests)

half : (n : ℕ) → (n * 2 + 0) / 2 ≡ n
half n = omega arith

-- by these numbers
abbrev given_as : ℕ → List ℕ → Option GivenPair
given_as node uid = if nat_le 1 node && nat_eq (length uid) 16 then Some ((uid, node)) else None

-- as it is read from the bytes
read : (node : ℕ) (uid : List ℕ) → length uid ≤ 16 → pair_in Alloc (allocation_payload node uid) ≡ given_as node uid
read node uid short =
    ap (λ (b : Bool). pair_of_allocation (cond b (Some (record { node = (node * 2 + 0) / 2; first_part = nat_eq ((node * 2 + 0) % 2) 1; uid = record { items = uid } })) None)) (at_most (length uid) short)
    ∙ ap (λ (n : ℕ). given_as n uid) (half node)

pub nobody_is_given : (bytes : List ℕ) → length bytes ≤ 16 → pair_in Alloc (allocation_payload 0 bytes) ≡ None
nobody_is_given bytes short = read 0 bytes short
