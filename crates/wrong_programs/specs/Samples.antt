-- Logs and bundles that the wrong programs are tried on, beside document 01's M2, M9 and M11.
use Rattle.std.specs.Prelude.{ℕ, List, [], ◌++◌, replicate}
use Rattle.fields.specs.Numbers.{zeros}
use Rattle.headers.specs.declared.header.Origin.TheVariants.{First}
use Rattle.headers.specs.Format.{padded}
use Rattle.headers.specs.Header.{object}
use Rattle.headers.specs.Types.{Kind, number_of}
use Rattle.objects.specs.Kinds.{layout_of}
use Rattle.outcomes.specs.Reads.{record_in}
use Rattle.marked_examples.specs.Hex.{hex}
use Rattle.marked_examples.specs.Marked.{m11}

-- foreign objects of 17 and of 19 bytes with their padding, one byte and three; the first with a padding byte that is
-- not zero
unfoldable pub seventeen : List ℕ
seventeen = hex "4C4F424A 1000 0000 11000000 0F270000 07 00"

unfoldable pub nineteen : List ℕ
nineteen = hex "4C4F424A 1000 0000 13000000 0F270000 070707 000000"

unfoldable pub unclean : List ℕ
unclean = hex "4C4F424A 1000 0000 11000000 0F270000 07 01"

-- the first bytes of a foreign object of 4,294,967,280 bytes: at 16 its end is at 2 to the power of 32
unfoldable pub wrapping : List ℕ
wrapping = hex "4C4F424A 1000 0000 F0FFFFFF 0F270000"

-- a LIN message of 168 bytes, unit 1, zeros else
unfoldable pub lin168 : List ℕ
lin168 = hex "4C4F424A 2000 0100 A8000000 39000000 01000000" ++ zeros 148

-- W-202: an overload under the second header, status 1, 1,000,000 ns, original time stamp 5, channel 1
unfoldable pub second : List ℕ
second = hex "4C4F424A 2800 0200 2C000000 03000000 02000000 01 00 0000 40420F0000000000 0500000000000000 0100 0000"

-- W-208: a CAN FD message with DLC 3 and 64 valid bytes, unit 2, data bytes of 7
unfoldable pub fd : List ℕ
fd =
    hex "4C4F424A 2000 0100 78000000 64000000 02000000 0000 0000 40420F0000000000"
    ++ hex "0100 00 03 00010000 00000000 00 00 40 0000000000" ++ replicate 64 7 ++ zeros 4

-- an object of each type under the first header whose client index is this: unit 1, and the body of the record of zeros
unfoldable pub by_client : Kind → ℕ → List ℕ
by_client k client = padded (object (number_of k) (record { unit = 1; origin = First client; version = 0; stamp = 0 }) ((layout_of k).body (record_in k [])))

-- M12: M11 and then desk 2 with the second entry alone
unfoldable pub m12 : List ℕ
m12 = m11 ++ hex "0000000E 01 02 00000024 00000024 00000003"

-- M11 with another size, and with another type, in the entry at 36
unfoldable pub other_size : List ℕ
other_size = hex "0000001A 01 01 00000000 00000024 00000003 00000024 00000028 00000003"

unfoldable pub other_type : List ℕ
other_type = hex "0000001A 01 01 00000000 00000024 00000003 00000024 00000024 00000004"

-- M11, desk 2 with the first entry again, and desk 3 with another size at 0
unfoldable pub stray_and_twice : List ℕ
stray_and_twice = m11 ++ hex "0000000E 01 02 00000000 00000024 00000003" ++ hex "0000000E 01 03 00000000 00000028 00000003"

-- a slip for `seventeen` whose size is with padding
unfoldable pub padded_size : List ℕ
padded_size = hex "0000000E 01 01 00000000 00000012 0000270F"
