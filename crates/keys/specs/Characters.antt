-- Characters as bytes.
-- Unicode 3.9, the definition of UTF-8 with table 3-6 (what the bits of a byte are) and table 3-7 (which bytes are well
-- formed).
use Rattle.std.specs.Prelude.{if◌then◌else◌, ◌%◌, ◌&&◌, ◌*◌, ◌+◌, ◌==◌}
use Rattle.keys.specs.Names.{Bool, List, length, nat_le, nat_lt, slice_index, ℕ}

-- how many bytes a character has that begins with this one, and 1 for a byte that begins none
abbrev pub size_by : ℕ → ℕ
size_by first =
    if nat_lt first 0xc2 then 1
    else if nat_lt first 0xe0 then 2
    else if nat_lt first 0xf0 then 3
    else if nat_lt first 0xf5 then 4
    else 1

-- the least and the greatest second byte after a first one
abbrev pub least_second : ℕ → ℕ
least_second first = if first == 0xe0 then 0xa0 else if first == 0xf0 then 0x90 else 0x80

abbrev pub greatest_second : ℕ → ℕ
greatest_second first = if first == 0xed then 0x9f else if first == 0xf4 then 0x8f else 0xbf

-- after a character's first byte, of which it has so many already, the byte goes on
abbrev pub is_in_character : ℕ → ℕ → ℕ → Bool
is_in_character first count byte =
    if count == 1 then nat_le (least_second first) byte && nat_le byte (greatest_second first)
    else nat_le 0x80 byte && nat_le byte 0xbf

-- the number of a character of two, three or four bytes
abbrev pub code_of : List ℕ → ℕ
code_of bytes =
    if length bytes == 2 then slice_index bytes 0 % 32 * 64 + slice_index bytes 1 % 64
    else if length bytes == 3 then
    slice_index bytes 0 % 16 * 4096 + slice_index bytes 1 % 64 * 64 + slice_index bytes 2 % 64
    else
    slice_index bytes 0 % 8 * 262144 + slice_index bytes 1 % 64 * 4096 + slice_index bytes 2 % 64 * 64
    + slice_index bytes 3 % 64
