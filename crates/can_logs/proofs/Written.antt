-- Lines that are written are read again.
use Rattle.std.proofs.Common.{◌≡◌, ◌<◌, ◌^◌, ℕ, zero, suc, List, [], ◌∷◌, ◌++◌, Option, Some, None, refl, sym, ◌∙◌, inl, arith, append-nil, append_assoc}
use Rattle.std.specs.Prelude.{codes}
use Rattle.hex.specs.Hex.{IsBytes, encode_upper}
use Rattle.hex.proofs.HexLemmas.{decode_of-encode_upper}
use Rattle.arrayvec.specs.ArrayVec.{ArrayVec}
use Rattle.can_frame.specs.declared.frame.Frame.{Frame}
use Rattle.can_logs.specs.declared.candump.LogLine.TheVariants as log_line
use Rattle.can_logs.specs.declared.slcan.SlLine.TheVariants as slcan_line
use Rattle.can_logs.specs.Candump as candump
use Rattle.can_logs.specs.Slcan as slcan
use Rattle.replay_text.specs.Words.{identifier_bytes}
use Rattle.can_logs.specs.Words.{stamp_bytes, zero_padded}
use Rattle.can_logs.proofs.Numbers.{decimal_below, length-zero_padded, zero_padded_decimal}

identifier-bytes : (id : ℕ) → IsBytes (identifier_bytes id)
identifier-bytes id zero = omega arith
identifier-bytes id (suc zero) = omega arith
identifier-bytes id (suc (suc zero)) = omega arith
identifier-bytes id (suc (suc (suc zero))) = omega arith
identifier-bytes id (suc (suc (suc (suc i)))) = omega arith

stamp-bytes : (stamp : ℕ) → IsBytes (stamp_bytes stamp)
stamp-bytes stamp zero = omega arith
stamp-bytes stamp (suc zero) = omega arith
stamp-bytes stamp (suc (suc i)) = omega arith

joined : (whole part name id bytes : List ℕ)
    → codes "(" ++ whole ++ codes "." ++ part ++ codes ") " ++ name ++ codes " " ++ id ++ codes "#" ++ bytes
    ≡ 40 ∷ (whole ++ 46 ∷ (part ++ 41 ∷ 32 ∷ (name ++ 32 ∷ (id ++ 35 ∷ bytes))))
joined whole part name id bytes =
    append_assoc (codes "(" ++ whole ++ codes "." ++ part ++ codes ") " ++ name ++ codes " " ++ id) (codes "#") bytes
    ∙ append_assoc (codes "(" ++ whole ++ codes "." ++ part ++ codes ") " ++ name ++ codes " ") id (codes "#" ++ bytes)
    ∙ append_assoc (codes "(" ++ whole ++ codes "." ++ part ++ codes ") " ++ name) (codes " ") (id ++ (codes "#" ++ bytes))
    ∙ append_assoc (codes "(" ++ whole ++ codes "." ++ part ++ codes ") ") name (codes " " ++ (id ++ (codes "#" ++ bytes)))
    ∙ append_assoc (codes "(" ++ whole ++ codes "." ++ part) (codes ") ") (name ++ (codes " " ++ (id ++ (codes "#" ++ bytes))))
    ∙ append_assoc (codes "(" ++ whole ++ codes ".") part (codes ") " ++ (name ++ (codes " " ++ (id ++ (codes "#" ++ bytes)))))
    ∙ append_assoc (codes "(" ++ whole) (codes ".") (part ++ (codes ") " ++ (name ++ (codes " " ++ (id ++ (codes "#" ++ bytes))))))
    ∙ append_assoc (codes "(") whole (codes "." ++ (part ++ (codes ") " ++ (name ++ (codes " " ++ (id ++ (codes "#" ++ bytes)))))))

pub candump_again : (sec micros : ℕ) (iface : ArrayVec ℕ) (frame : Frame)
    → candump.IsWritable (log_line.Data sec micros iface frame) → IsBytes frame.bytes.items
    → candump.Reads (log_line.Data sec micros iface frame) (candump.candump_text (log_line.Data sec micros iface frame))
candump_again sec micros iface frame writable are_bytes =
    let id : List ℕ = encode_upper (identifier_bytes frame.id) in
    let bytes : List ℕ = encode_upper frame.bytes.items in
    let sec_small : sec < 2 ^ 64 = omega (arith, writable.0) in
    let micros_small : micros < 2 ^ 64 = omega (arith, writable.1) in
    let whole_size = length-zero_padded 10 sec (omega arith) (omega arith) writable.0 sec_small in
    record {
      rest = id ++ 35 ∷ bytes;
      front = record {
        named = 32 ∷ (iface.items ++ 32 ∷ (id ++ 35 ∷ bytes));
        moment = record {
          whole = zero_padded 10 sec;
          part = zero_padded 6 micros;
          spelled = joined (zero_padded 10 sec) (zero_padded 6 micros) iface.items id bytes;
          is_moment = record {
            whole_few = omega (arith, whole_size);
            part_six = length-zero_padded 6 micros (omega arith) (omega arith) writable.1 micros_small;
            seconds = zero_padded_decimal 10 sec sec_small;
            parts = zero_padded_decimal 6 micros micros_small;
          };
        };
        name_behind = record { more = 0; spelled = refl; is_name = writable.2 };
      };
      spells = record {
        id = id;
        bytes = bytes;
        parts = record {
          whole = bytes;
          spelled = refl;
          ends = record { direction = []; spelled = sym (append-nil bytes); is_direction = inl refl };
        };
        spells = record {
          id_read = decode_of-encode_upper (identifier_bytes frame.id) (identifier-bytes frame.id);
          bytes_read = decode_of-encode_upper frame.bytes.items are_bytes;
        };
      };
    }

stamp_again : (stamp : Option ℕ) → slcan.IsStamp stamp → slcan.SpellsStamp stamp (slcan.stamp_text stamp)
stamp_again None is = refl
stamp_again (Some stamp) is = (is, decode_of-encode_upper (stamp_bytes stamp) (stamp-bytes stamp))

pub slcan_again : (frame : Frame) (stamp : Option ℕ) → slcan.IsStamp stamp → IsBytes frame.bytes.items
    → slcan.Reads (slcan_line.Data frame stamp) (slcan.slcan_text (slcan_line.Data frame stamp))
slcan_again frame stamp is are_bytes = record {
  id_word = encode_upper (identifier_bytes frame.id);
  bytes_word = encode_upper frame.bytes.items;
  stamp_word = slcan.stamp_text stamp;
  spelled = append_assoc (codes "T") (encode_upper (identifier_bytes frame.id)) _;
  narrow = frame.narrow;
  id_read = decode_of-encode_upper (identifier_bytes frame.id) (identifier-bytes frame.id);
  bytes_read = decode_of-encode_upper frame.bytes.items are_bytes;
  stamp_read = stamp_again stamp is;
}

-- what a line reads as may be written
pub read_writable : (sec micros : ℕ) (iface : ArrayVec ℕ) (frame : Frame) (line : List ℕ)
    → candump.Reads (log_line.Data sec micros iface frame) line → candump.IsWritable (log_line.Data sec micros iface frame)
read_writable sec micros iface frame line reads =
    let moment = reads.front.moment in
    let six = moment.is_moment.part_six in (
      decimal_below sec 10 moment.whole moment.is_moment.seconds moment.is_moment.whole_few,
      decimal_below micros 6 moment.part moment.is_moment.parts (omega (arith, six)),
      reads.front.name_behind.is_name,
    )
