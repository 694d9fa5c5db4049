-- 01, types 57 and 62: where the fields of the LIN records stand. Offsets and lengths from the header's end.
use Rattle.std.specs.Prelude.{ℕ, Bool, true, false, not, cond, List, [], ◌∷◌, length, drop, eqb, Float}
use Rattle.std.specs.Float.{nan, inf, fin, binary64}
use Rattle.std.specs.Float.Ieee.{of_bits}
use Rattle.fields.specs.Numbers.{num, nums}
use Rattle.fields.specs.Rules.{gap, rule}
use Rattle.headers.specs.declared.header.Header.{Header}
use Rattle.headers.specs.TypeFormat.{Format, frameless, simple}
use Rattle.lin.specs.declared.message.Message.{Message}
use Rattle.lin.specs.declared.wake_up.WakeUp.{WakeUp}
use Rattle.lin.specs.declared.tail.Tail.{Tail}
use Rattle.lin.specs.declared.tail.Tail.TheVariants.{Nothing, Response, Rates}

-- "A LIN message ends in one of three ways", and the size decides which; offsets from the end's start
unfoldable pub tail_of : List ℕ → Tail
tail_of t =
    cond (eqb (length t) 4) (Response (num 4 t 0))
    (cond (eqb (length t) 20) (Rates (num 4 t 0) (of_bits binary64 (num 8 t 4)) (num 4 t 12) (num 4 t 16))
    Nothing)

-- 9: "The f64 must be finite with its sign bit clear"
unfoldable pub rate_ok : Float → Bool
rate_ok nan = false
rate_ok (inf sign) = false
rate_ok (fin sign m e) = not sign

abbrev pub tail_ok : Tail → Bool
tail_ok Nothing = true
tail_ok (Response response) = true
tail_ok (Rates response exact header-stop response-stop) = rate_ok exact

-- type 57: LIN message 2, 132, 136 or 152 bytes (001, 3.3)
unfoldable pub message_of : Header → List ℕ → Message
message_of h b = record {
  header = h;
  start = num 8 b 0;
  baud = num 4 b 8;
  channel = num 2 b 12;
  breaking = num 8 b 16;
  delimiter = num 8 b 24;
  supplier = num 2 b 32;
  message = num 2 b 34;
  nad = num 1 b 36;
  id = num 1 b 37;
  dlc = num 1 b 38;
  model = num 1 b 39;
  stamps = nums 8 9 b 40;
  bytes = nums 1 8 b 112;
  checksum = num 2 b 120;
  direction = num 1 b 122;
  simulated = num 1 b 123;
  triggered = num 1 b 124;
  index = num 1 b 125;
  associated = num 1 b 126;
  machine = num 1 b 127;
  state = num 1 b 128;
  tail = tail_of (drop 132 b);
}

-- the exact rate, where there is one, stands at 136
abbrev pub message_format : Format
message_format =
    frameless Message (λ r. r.header) message_of (gap 14 2 ∷ gap 129 3 ∷ [])
    (λ b. rule 136 (tail_ok (tail_of (drop 132 b))) ∷ []) (λ r. tail_ok r.tail)

-- type 62: LIN wake-up 2, 20 bytes (001, 3.8)
unfoldable pub wake_up_of : Header → List ℕ → WakeUp
wake_up_of h b = record {
  header = h;
  start = num 8 b 0;
  baud = num 4 b 8;
  channel = num 2 b 12;
  info = num 1 b 16;
  signal = num 1 b 17;
  external = num 1 b 18;
}

abbrev pub wake_up_format : Format
wake_up_format = simple WakeUp (λ r. r.header) wake_up_of (gap 14 2 ∷ gap 19 1 ∷ [])
