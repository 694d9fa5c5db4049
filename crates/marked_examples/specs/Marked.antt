-- 01, "Marked examples": M1 to M14, M3 to M5 as W-204 has them, a row for each thing that an example says; places as
-- W-205 has them.
-- `marked_examples` of proofs/Marked: every reply is the one told.
use Rattle.std.specs.Prelude.{ℕ, List, [], ◌∷◌, ◌++◌, take, set}
use Prim.Native.String.{String}
use Rattle.fields.specs.Numbers.{zeros}
use Rattle.marked_examples.specs.Hex.{hex}
use Rattle.marked_examples.specs.Questions.{Question, walk, next, overload, check, Told, objects, refused, object, channel, accepted, reply}

unfoldable pub m2 : List ℕ
m2 = hex "4C4F424A 2000 0100 24000000 03000000 02000000 0000 0000 40420F0000000000 0100 0000"

-- type 120, size 125, unit 2; structure length 32, frame length 61; 61 bytes of frame, and one of padding
unfoldable pub m3 : List ℕ
m3 =
    hex "4C4F424A 2000 0100 7D000000 78000000 02000000 0000 0000 0000000000000000"
    ++ hex "2000 0000 0100 0000 0000000000000000 00000000 0000 3D00 00000000 00000000" ++ zeros 61 ++ zeros 1

unfoldable pub m9 : List ℕ
m9 = hex "4C4F424A 1000 0000 10000000 0F270000"

unfoldable pub m11 : List ℕ
m11 = hex "0000001A 01 01 00000000 00000024 00000003 00000024 00000024 00000003"

pub record Row : Type 0 where
  pub name : String
  pub asked : Question
  pub told : Told

abbrev pub row : String → Question → Told → Row
row n q r = record { name = n; asked = q; told = r }

-- `set log n b` is the log with byte n set to b
unfoldable pub marked : List Row
marked =
    row "M1: an empty log has 0 objects" (walk []) (objects 0)
    ∷ row "M2: one object" (walk m2) (objects 1)
    ∷ row "M2: 36 bytes, no padding" (next m2 0) (object 0 36 3 36)
    ∷ row "M2: an overload, channel 1, 1,000,000 ns" (overload m2 0) (channel 1 2 1000000)
    ∷ row "M3: a frame of 61 bytes has size 125 and occupies 126" (next m3 0) (object 0 125 120 126)
    ∷ row "M4: cut to 125" (walk (take 125 m3)) (refused 5 125)
    ∷ row "M5: last padding byte 1" (walk (set m3 125 1)) (refused 6 125)
    ∷ row "M6: M2 with unit 0 and byte 34 set to 1" (walk (set (set m2 16 0) 34 1)) (refused 7 16)
    ∷ row "M7: only byte 34" (walk (set m2 34 1)) (refused 8 34)
    ∷ row "M8: M2 with size 40" (walk (set m2 8 40)) (refused 3 8)
    ∷ row "M9: foreign type 9999, size and header size 16" (walk m9) (objects 1)
    ∷ row "M10: header size 17" (walk (set m9 4 17)) (refused 4 4)
    ∷ row "M11: with log M2 M2" (check (m2 ++ m2) m11) (accepted 2)
    ∷ row "M12: the same and then desk 2 with the second entry alone" (check (m2 ++ m2) (m11 ++ hex "0000000E 01 02 00000024 00000024 00000003")) (refused 26 36)
    ∷ row "M13: empty bundle" (check (m2 ++ m2) []) (refused 27 0)
    ∷ row "M14: empty log" (check [] (hex "00000002 01 05")) (accepted 0)
    ∷ []

abbrev pub replies : List Row → List Told
replies [] = []
replies (r ∷ rs) = reply r.asked ∷ replies rs

abbrev pub told_in : List Row → List Told
told_in [] = []
told_in (r ∷ rs) = r.told ∷ told_in rs
