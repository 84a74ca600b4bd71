-- The 29-bit identifier as a table of fields (UAVCAN v0 specification, "CAN frame format").
--
--   kind        bits 28..24   23..16          15..8                           7   6..0
--   message     priority      type ID, high   type ID, low                    0   source
--   anonymous   priority      discriminator in bits 23..10, the type ID's two low bits in 9..8; bits 7..0 are 0
--   service     priority      type ID         1 request or 0 response, dest   1   source
use Rattle.std.specs.Prelude.{◌≡◌, ℕ, ◌+◌, ◌*◌, ◌/◌, ◌%◌, ◌^◌, ◌<◌, ◌||◌, nat_eq, Option, Some, None, if◌then◌else◌}
use Rattle.can_frame.specs.declared.identifier.Ident.{Ident}
use Rattle.can_frame.specs.declared.identifier.Kind.{Kind}
use Rattle.can_frame.specs.declared.identifier.Kind.TheVariants.{Message, Anonymous, Request, Response}

-- the ranges of the fields that depend on the kind
abbrev pub IsInRange : Kind → Ident → Type 0
IsInRange Message ident = (ident.number < 2 ^ 16) × (0 < ident.source) × (ident.dest ≡ 0)
    × (ident.discriminator ≡ 0)
IsInRange Anonymous ident = (ident.number < 4) × (ident.source ≡ 0) × (ident.dest ≡ 0)
    × (ident.discriminator < 2 ^ 14)
IsInRange Request ident = (ident.number < 256) × (0 < ident.source) × (0 < ident.dest) × (ident.discriminator ≡ 0)
IsInRange Response ident = (ident.number < 256) × (0 < ident.source) × (0 < ident.dest) × (ident.discriminator ≡ 0)

-- the fields are in their ranges
pub record IsIdentifier (ident : Ident) : Type 0 where
  pub priority : ident.priority < 32
  pub source : ident.source < 128
  pub dest : ident.dest < 128
  pub by_kind : IsInRange ident.kind ident

-- what stands below the priority
abbrev pub low_bits : Kind → Ident → ℕ
low_bits Message ident = 256 * ident.number + ident.source
low_bits Anonymous ident = 1024 * ident.discriminator + 256 * ident.number
low_bits Request ident = 65536 * ident.number + 32768 + 256 * ident.dest + 128 + ident.source
low_bits Response ident = 65536 * ident.number + 256 * ident.dest + 128 + ident.source

-- the number of the fields
abbrev pub identifier_number : Ident → ℕ
identifier_number ident = 16777216 * ident.priority + low_bits ident.kind ident

-- the number has these fields: a line of the table
pub record Spells (ident : Ident) (id : ℕ) : Type 0 where
  pub fields : IsIdentifier ident
  pub number : id ≡ identifier_number ident

-- a service frame names its two nodes, and neither is 0
abbrev pub service_of : ℕ → Option Ident
service_of id = if nat_eq (id % 128) 0 || nat_eq (id / 256 % 128) 0 then None else Some (record {
  priority = id / 16777216;
  kind = if nat_eq (id / 32768 % 2) 1 then Request else Response;
  number = id / 65536 % 256;
  source = id % 128;
  dest = id / 256 % 128;
  discriminator = 0;
})

-- a message from node 0 is anonymous
abbrev pub message_of : ℕ → Ident
message_of id = if nat_eq (id % 128) 0
    then record {
      priority = id / 16777216;
      kind = Anonymous;
      number = id / 256 % 4;
      source = 0;
      dest = 0;
      discriminator = id / 1024 % 16384;
    }
    else record {
      priority = id / 16777216;
      kind = Message;
      number = id / 256 % 65536;
      source = id % 128;
      dest = 0;
      discriminator = 0;
    }

-- the fields of a number, where it has any; bit 7 tells services from messages
unfoldable pub identifier_of : ℕ → Option Ident
identifier_of id = if nat_eq (id / 128 % 2) 1 then service_of id else Some (message_of id)
