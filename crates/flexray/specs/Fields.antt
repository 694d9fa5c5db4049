-- 01, type 50: FlexRay receive, 298 bytes (002, 3.7): where its fields stand. Offsets and length from the header's end.
use Rattle.std.specs.Prelude.{ℕ, Bool, ◌&&◌, List, [], ◌∷◌, leb}
use Rattle.fields.specs.Numbers.{num, nums}
use Rattle.fields.specs.Rules.{gap, rule}
use Rattle.headers.specs.declared.header.Header.{Header}
use Rattle.headers.specs.TypeFormat.{Format, frameless}
use Rattle.flexray.specs.declared.receive.Receive.{Receive}

unfoldable pub receive_of : Header → List ℕ → Receive
receive_of h b = record {
  header = h;
  channel = num 2 b 0;
  version = num 2 b 2;
  mask = num 2 b 4;
  direction = num 1 b 6;
  client = num 4 b 8;
  cluster = num 4 b 12;
  id = num 2 b 16;
  crca = num 2 b 18;
  crcb = num 2 b 20;
  total = num 2 b 22;
  stored = num 2 b 24;
  cycle = num 1 b 26;
  tag = num 4 b 28;
  state = num 4 b 32;
  flags = num 4 b 36;
  bytes = nums 1 254 b 44;
}

-- 9: the data count is above neither 254 nor the byte count
unfoldable pub counts_ok : ℕ → ℕ → Bool
counts_ok total stored =
    leb stored 254
    && leb stored total

-- 8: the bytes skipped behind direction and cycle, and the reserved u32
abbrev pub receive_format : Format
receive_format =
    frameless Receive (λ r. r.header) receive_of (gap 7 1 ∷ gap 27 1 ∷ gap 40 4 ∷ [])
    (λ b. rule 24 (counts_ok (num 2 b 22) (num 2 b 24)) ∷ []) (λ r. counts_ok r.total r.stored)
