-- The CRC of a transfer (UAVCAN v0 specification, "Payload data: transfer CRC"), as a remainder of polynomials
-- whose coefficients are 0 and 1. A polynomial is the list of its coefficients, the highest first.
use Rattle.std.specs.Prelude.{ℕ, zero, suc, ◌+◌, ◌^◌, List, [], ◌∷◌, ◌++◌, length, flat_map, Bool, true, false, not, nat_eq, if◌then◌else◌}
use Rattle.std.specs.Int.{bit_at, w64, to_le_bytes}

-- the sum of two coefficients
abbrev pub xor : Bool → Bool → Bool
xor false b = b
xor true b = not b

-- xs is added to the front of ys
abbrev pub add_front : List Bool → List Bool → List Bool
add_front [] ys = ys
add_front (x ∷ xs) [] = []
add_front (x ∷ xs) (y ∷ ys) = xor x y ∷ add_front xs ys

-- x^16 + x^12 + x^5 + 1, without its highest coefficient
abbrev pub divisor : List Bool
divisor = false ∷ false ∷ false ∷ true ∷ false ∷ false ∷ false ∷ false ∷ false ∷ false ∷ true
    ∷ false ∷ false ∷ false ∷ false ∷ true ∷ []

-- so many steps of long division: where the highest coefficient is 1, the divisor is taken away
unfoldable pub divide : ℕ → List Bool → List Bool
divide zero bits = bits
divide (suc n) [] = []
divide (suc n) (b ∷ bits) = divide n (if b then add_front divisor bits else bits)

abbrev pub zeros : List Bool
zeros = false ∷ false ∷ false ∷ false ∷ false ∷ false ∷ false ∷ false ∷ false ∷ false ∷ false
    ∷ false ∷ false ∷ false ∷ false ∷ false ∷ []

abbrev pub ones : List Bool
ones = true ∷ true ∷ true ∷ true ∷ true ∷ true ∷ true ∷ true ∷ true ∷ true ∷ true ∷ true
    ∷ true ∷ true ∷ true ∷ true ∷ []

-- the first 16 bits are inverted and x^16 is multiplied; what the division by the divisor leaves
abbrev pub remainder : List Bool → List Bool
remainder bits = divide (length bits) (add_front ones (bits ++ zeros))

-- the low bits of a number, the highest first
unfoldable pub bits_of : ℕ → ℕ → List Bool
bits_of zero x = []
bits_of (suc k) x = nat_eq (bit_at x k) 1 ∷ bits_of k x

-- the number of bits, the highest first
unfoldable pub number_of : List Bool → ℕ
number_of [] = 0
number_of (b ∷ bits) = (if b then 2 ^ length bits else 0) + number_of bits

-- the bits of bytes, one after the other
abbrev pub message_bits : List ℕ → List Bool
message_bits bytes = flat_map (bits_of 8) bytes

-- the CRC of bytes
unfoldable pub crc_of : List ℕ → ℕ
crc_of bytes = number_of (remainder (message_bits bytes))

-- the CRC of a payload: it runs over the signature of the data type, low byte first, and then the payload
abbrev pub transfer_crc : ℕ → List ℕ → ℕ
transfer_crc signature payload = crc_of (to_le_bytes w64 signature ++ payload)
