-- The record of 12 bytes that scripts and images share. See docs/CHIP.md, "Records".
-- "Records of 12 bytes: mark (2), kind, width, port (2), target (2), value (4), least byte first."
use Rattle.std.specs.Prelude.{ℕ, ◌+◌, List, [], ◌∷◌, get_or}
use Rattle.little_endian.specs.Bytes.{byte0, byte1, byte2, byte3, four_at, two_at}
use Rattle.record.specs.declared.Record.{Record}

abbrev pub record_size : ℕ
record_size = 12

-- the largest number of records in a script and of words in an image: "over 1,024 records", "over 1,024 words"
abbrev pub most_records : ℕ
most_records = 1024

-- the largest count: the ticks of a delay, or how many times a repeat runs; "Values of kinds 3 and 4 are 0 to 65,535"
abbrev pub most_turns : ℕ
most_turns = 65535

-- the record whose 12 bytes start at a place
unfoldable pub record_at : List ℕ → ℕ → Record
record_at bytes at = record {
  mark = two_at bytes at;
  kind = get_or bytes (at + 2) 0;
  width = get_or bytes (at + 3) 0;
  port = two_at bytes (at + 4);
  target = two_at bytes (at + 6);
  value = four_at bytes (at + 8);
}

-- the 12 bytes of a record
unfoldable pub bytes_of : Record → List ℕ
bytes_of r =
    byte0 r.mark ∷ byte1 r.mark ∷ byte0 r.kind ∷ byte0 r.width ∷ byte0 r.port ∷ byte1 r.port
    ∷ byte0 r.target ∷ byte1 r.target ∷ byte0 r.value ∷ byte1 r.value ∷ byte2 r.value ∷ byte3 r.value
    ∷ []
