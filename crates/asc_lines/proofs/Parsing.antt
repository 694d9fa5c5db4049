-- What a line tells is found in it. Assumes nothing.
use mathlib.Core.Path.{◌≡◌, refl, sym, ap, ap₂, ◌∙◌, subst}
use mathlib.Core.Bool.{Bool, true, false, cond}
use mathlib.Core.List.{List, [], ◌∷◌, ◌++◌, append_assoc}
use Prim.Native.Nat.{ℕ, ◌+◌, ◌-◌, ◌/◌, ◌%◌, ◌^◌, ◌≤◌, ◌<◌}
use native.Mathlib.Nat.{add-zero, mod-eq_of_lt}
use native.Mathlib.Omega.{arith}
use lib.ListN.{length, take, drop, get_or, replicate}
use lib.Seq.{drop-append_seam, drop-drop, get_or-drop, length-take-le, take-take}
use borrow.Author.Tests.{ne_eqb}
use lib.Dec.{eqb, ltb}
use Rattle.fields.specs.Numbers.{Bytes}
use Rattle.fields.proofs.Parts.{take_bytes}
use Rattle.digits.specs.Digits.{decimal, hex, fewest, fixed}
use Rattle.digits.specs.Reading.{digit, number}
use Rattle.digits.specs.Pairs.{pairs, bytes_in, filled}
use Rattle.digits.specs.Text.{text, labelled}
use Rattle.digits.specs.declared.reading.Number.{Number}
use Rattle.digits.proofs.Digits.{length_fixed, number_fixed, number_fewest, first_digit}
use Rattle.digits.proofs.PairLaws.{bytes_back}
use Rattle.asc_lines.specs.declared.told.Head.{Head}
use Rattle.asc_lines.specs.declared.told.Frame.{Frame}
use Rattle.asc_lines.specs.declared.told.Counts.{Counts}
use Rattle.asc_lines.specs.Told.{of_message, of_overload, of_statistic, shown}
use Rattle.asc_lines.specs.Lines.{head_of, id_of, way_of, sort_of, frame_of, load_of, counts_of, rest_of, line_of}
use Rattle.asc_lines.specs.Reading.{stands, seconds_in, nanos_in, channel_in, head_in, head_end, id_in, mid_in, dlc_in, frame_in, count_in, d_in, r_in, xd_in, xr_in, e_in, o_in, whole_in, load_in, counts_in, candidate}

-- what is told of a head, a frame and counts fits
pub record FitHead (h : Head) : Type 0 where
  pub seconds : h.seconds < 1000000000000000
  pub nanos : h.nanos < 1000000000
  pub channel : h.channel < 65536

-- the first k of eight bytes, and zeros
abbrev pub blanked : ℕ → List ℕ → List ℕ
blanked k bs = take k bs ++ replicate (8 - k) 0

pub record FitFrame (f : Frame) : Type 0 where
  pub id : f.id < 2147483648
  pub dlc : f.dlc < 256
  pub eight : length f.bytes ≡ 8
  pub small : Bytes f.bytes
  pub keeps : blanked (shown f.remote f.dlc) f.bytes ≡ f.bytes

pub record FitCounts (c : Counts) : Type 0 where
  pub load : c.load < 65536
  pub d : c.standard_data < 4294967296
  pub xd : c.extended_data < 4294967296
  pub r : c.standard_remote < 4294967296
  pub xr : c.extended_remote < 4294967296
  pub e : c.errors < 4294967296
  pub o : c.overloads < 4294967296

-- behind a text
past : (s a r : List ℕ) (at : ℕ) → drop at s ≡ a ++ r → drop (at + length a) s ≡ r
past s a r at e = sym (drop-drop (length a) at s) ∙ ap (drop (length a)) e ∙ drop-append_seam a r

-- a byte behind a place
byte_at : (s l : List ℕ) (at i : ℕ) → drop at s ≡ l → get_or s (at + i) 0 ≡ get_or l i 0
byte_at s l at i e = sym (get_or-drop at s i 0) ∙ ap (λ (t : List ℕ). get_or t i 0) e

byte_here : (s l : List ℕ) (at : ℕ) → drop at s ≡ l → get_or s at 0 ≡ get_or l 0 0
byte_here s l at e = ap (λ (j : ℕ). get_or s j 0) (sym (add-zero at)) ∙ byte_at s l at 0 e

-- v is the value of a number that is read, and r what stands behind its digits
pub record Read (s : List ℕ) (n : Number) (v : ℕ) (r : List ℕ) : Type 0 where
  pub value : n.value ≡ v
  pub behind : drop n.end s ≡ r

-- the fewest digits, with a byte behind them that is no digit; and a fixed number of them
module _ (b : ℕ) (two : 1 < b) (most : b ≤ 16) (v at : ℕ) (s : List ℕ) where
  fewest_read : (f g c : ℕ) (r : List ℕ) → drop at s ≡ fewest b f v ++ (c ∷ r) → 1 ≤ f → v < b ^ f → 1 ≤ g → v < b ^ g → ltb (digit c) b ≡ false
      → Read s (number b g s at) v (c ∷ r)
  fewest_read f g c r e o l o' h d =
      let n : number b g s at ≡ record { value = v; end = at + length (fewest b f v) } = number_fewest b two most f g v at c s r e o l o' h d in
      record { value = ap (λ (x : Number). x.value) n; behind = rw n (past s (fewest b f v) (c ∷ r) at e) }

  fixed_read : (k : ℕ) (r : List ℕ) → drop at s ≡ fixed b k v ++ r → v < b ^ k → Read s (number b k s at) v r
  fixed_read k r e h =
      let n : number b k s at ≡ record { value = v; end = at + k } = number_fixed b two most k v at s r e h in
      let p : drop (at + length (fixed b k v)) s ≡ r = past s (fixed b k v) r at e in
      record { value = ap (λ (x : Number). x.value) n; behind = rw n (subst (λ (j : ℕ). drop (at + j) s ≡ r) (length_fixed b k v) p) }

-- a decimal number before a blank, and before a point
module _ (g v at : ℕ) (s r : List ℕ) (some : 1 ≤ g) (low : v < 10 ^ g) (fits : v < 10 ^ 20) where
  before_blank : drop at s ≡ decimal v ++ (32 ∷ r) → Read s (number 10 g s at) v (32 ∷ r)
  unfolding decimal digit
  before_blank e = fewest_read 10 (omega arith) (omega arith) v at s 20 g 32 r e (omega arith) fits some low refl

  before_point : drop at s ≡ decimal v ++ (46 ∷ r) → Read s (number 10 g s at) v (46 ∷ r)
  unfolding decimal digit
  before_point e = fewest_read 10 (omega arith) (omega arith) v at s 20 g 46 r e (omega arith) fits some low refl

-- so many bytes further
further : (s : List ℕ) (at k : ℕ) {r : List ℕ} → drop at s ≡ r → drop (at + k) s ≡ drop k r
further s at k e = sym (drop-drop k at s) ∙ ap (drop k) e

-- a text that begins with a head and a blank
module _ (h : Head) (f : FitHead h) (s r : List ℕ) (begins : s ≡ head_of h ++ (32 ∷ r)) where
  right : drop 0 s ≡ decimal h.seconds ++ (46 ∷ (fixed 10 9 h.nanos ++ (32 ∷ (decimal h.channel ++ (32 ∷ r)))))
  unfolding head_of labelled
  right = begins ∙ simp append_assoc

  the_seconds : Read s (seconds_in s) h.seconds (46 ∷ (fixed 10 9 h.nanos ++ (32 ∷ (decimal h.channel ++ (32 ∷ r)))))
  unfolding seconds_in
  the_seconds = before_point 15 h.seconds 0 s _ (omega arith) (omega (arith, f.seconds)) (omega (arith, f.seconds)) right

  the_nanos : Read s (nanos_in s) h.nanos (32 ∷ (decimal h.channel ++ (32 ∷ r)))
  unfolding nanos_in
  the_nanos = fixed_read 10 (omega arith) (omega arith) h.nanos ((seconds_in s).end + 1) s 9 _ (further s (seconds_in s).end 1 the_seconds.behind) (omega (arith, f.nanos))

  the_channel : Read s (channel_in s) h.channel (32 ∷ r)
  unfolding channel_in
  the_channel = before_blank 5 h.channel ((nanos_in s).end + 1) s r (omega arith) (omega (arith, f.channel)) (omega (arith, f.channel)) (further s (nanos_in s).end 1 the_nanos.behind)

  -- what the head tells is found in it, and what stands behind it
  pub head_found : head_in s ≡ h
  unfolding head_in
  head_found =
      let c : (channel_in s).value % 65536 ≡ h.channel = rw the_channel.value (mod-eq_of_lt f.channel) in
      λ i. record { seconds = the_seconds.value i; nanos = the_nanos.value i; channel = c i }

  pub behind_head : drop (head_end s) s ≡ 32 ∷ r
  behind_head = the_channel.behind

-- the parts of a message's and of a statistic's line, from the first on
frame_parts : (a b w k d p t : List ℕ) → ((a ++ b) ++ (((w ++ k) ++ d) ++ p)) ++ t ≡ a ++ (b ++ (w ++ (k ++ (d ++ (p ++ t)))))
frame_parts a b w k d p t = simp append_assoc

counts_parts : (a b c d e f g p h q t : List ℕ)
    → ((((((a ++ b) ++ c) ++ d) ++ e) ++ f) ++ (((g ++ p) ++ h) ++ q)) ++ t ≡ a ++ (b ++ (c ++ (d ++ (e ++ (f ++ (g ++ (p ++ (h ++ (q ++ t)))))))))
counts_parts a b c d e f g p h q t = simp append_assoc

-- ` ID` at a place, with or without its `x`
record IdRead (s : List ℕ) (at id : ℕ) (e : Bool) (r : List ℕ) : Type 0 where
  value : (id_in s at).value ≡ id
  marked : stands 120 s (id_in s at).end ≡ e
  behind : drop (mid_in s at) s ≡ 32 ∷ r

id_read : (s : List ℕ) (at id : ℕ) (e : Bool) (r : List ℕ) → id < 2147483648 → drop at s ≡ 32 ∷ (hex id ++ (cond e (text "x") [] ++ (32 ∷ r))) → IdRead s at id e r
unfolding id_in mid_in digit hex
id_read s at id true r h q =
    let n : Read s (id_in s at) id (120 ∷ (32 ∷ r)) = fewest_read 16 (omega arith) (omega arith) id (at + 1) s 16 8 120 (32 ∷ r) (further s at 1 q) (omega arith) (omega arith) (omega arith) (omega arith) refl in
    let m : stands 120 s (id_in s at).end ≡ true = ap (λ (x : ℕ). eqb x 120) (byte_here s _ (id_in s at).end n.behind) in
    record { value = n.value; marked = m; behind = rw m (further s (id_in s at).end 1 n.behind) }
id_read s at id false r h q =
    let n : Read s (id_in s at) id (32 ∷ r) = fewest_read 16 (omega arith) (omega arith) id (at + 1) s 16 8 32 r (further s at 1 q) (omega arith) (omega arith) (omega arith) (omega arith) refl in
    let m : stands 120 s (id_in s at).end ≡ false = ap (λ (x : ℕ). eqb x 120) (byte_here s _ (id_in s at).end n.behind) in
    record { value = n.value; marked = m; behind = rw (m, add-zero) n.behind }

-- the direction, and data or remote
record WayRead (s : List ℕ) (mid : ℕ) (w k : Bool) (r : List ℕ) : Type 0 where
  sent : stands 84 s (mid + 1) ≡ w
  remote : stands 114 s (mid + 4) ≡ k
  behind : drop (mid + 6) s ≡ r

way_read : (s : List ℕ) (mid : ℕ) (w k : Bool) (r : List ℕ) → drop mid s ≡ way_of w ++ (sort_of k ++ r) → WayRead s mid w k r
way_read s mid w k r q =
    record {
      sent = ap (λ (x : ℕ). eqb x 84) (byte_at s _ mid 1 q) ∙ first w k;
      remote = ap (λ (x : ℕ). eqb x 114) (byte_at s _ mid 4 q) ∙ second w k;
      behind = further s mid 6 q ∙ six w k;
    }
  where
    first : (w k : Bool) → eqb (get_or (way_of w ++ (sort_of k ++ r)) 1 0) 84 ≡ w
    first true k = refl
    first false k = refl

    second : (w k : Bool) → eqb (get_or (way_of w ++ (sort_of k ++ r)) 4 0) 114 ≡ k
    second true true = refl
    second true false = refl
    second false true = refl
    second false false = refl

    six : (w k : Bool) → drop 6 (way_of w ++ (sort_of k ++ r)) ≡ r
    six true true = refl
    six true false = refl
    six false true = refl
    six false false = refl

-- the DLC, before bytes or before the line's end
dlc_read : (s : List ℕ) (at dlc : ℕ) (p : List ℕ) → dlc < 256 → drop (mid_in s at + 6) s ≡ decimal dlc ++ (pairs p ++ text "\r\n") → Read s (dlc_in s at) dlc (pairs p ++ text "\r\n")
unfolding dlc_in digit pairs decimal
dlc_read s at dlc [] h q = fewest_read 10 (omega arith) (omega arith) dlc (mid_in s at + 6) s 20 3 13 _ q (omega arith) (omega arith) (omega arith) (omega arith) refl
dlc_read s at dlc (b ∷ p) h q = fewest_read 10 (omega arith) (omega arith) dlc (mid_in s at + 6) s 20 3 32 _ q (omega arith) (omega arith) (omega arith) (omega arith) refl

pub shown_most : (r : Bool) (dlc : ℕ) → shown r dlc ≤ 8
unfolding shown
shown_most true dlc = omega arith
shown_most false dlc = omega arith

-- ` ID Rx d DLC BYTES` at a place
module _ (f : Frame) (fit : FitFrame f) (s : List ℕ) (at : ℕ) (q : drop at s ≡ (id_of f ++ frame_of f) ++ text "\r\n") where
  abbrev k : ℕ
  k = shown f.remote f.dlc

  abbrev dlc_on : List ℕ
  dlc_on = decimal f.dlc ++ (pairs (take k f.bytes) ++ text "\r\n")

  abbrev way_on : List ℕ
  way_on = sort_of f.remote ++ dlc_on

  blank : (w : Bool) (l : List ℕ) → way_of w ++ l ≡ 32 ∷ (cond w (text "Tx") (text "Rx") ++ l)
  blank true l = refl
  blank false l = refl

  opened : drop at s ≡ 32 ∷ (hex f.id ++ (cond f.extended (text "x") [] ++ (way_of f.sent ++ way_on)))
  unfolding id_of frame_of
  opened = q ∙ frame_parts (text " " ++ hex f.id) (cond f.extended (text "x") []) (way_of f.sent) (sort_of f.remote) (decimal f.dlc) (pairs (take k f.bytes)) (text "\r\n")

  the_id : IdRead s at f.id f.extended (cond f.sent (text "Tx") (text "Rx") ++ way_on)
  the_id = id_read s at f.id f.extended _ fit.id (opened ∙ ap (λ (l : List ℕ). 32 ∷ (hex f.id ++ (cond f.extended (text "x") [] ++ l))) (blank f.sent way_on))

  the_way : WayRead s (mid_in s at) f.sent f.remote dlc_on
  the_way = way_read s (mid_in s at) f.sent f.remote dlc_on (the_id.behind ∙ sym (blank f.sent way_on))

  the_dlc : Read s (dlc_in s at) f.dlc (pairs (take k f.bytes) ++ text "\r\n")
  the_dlc = dlc_read s at f.dlc (take k f.bytes) fit.dlc the_way.behind

  the_bytes : filled k s (dlc_in s at).end ≡ f.bytes
  unfolding filled
  the_bytes =
      let l : length (take k f.bytes) ≡ k = length-take-le k f.bytes (omega (arith, fit.eight, shown_most f.remote f.dlc)) in
      let b : bytes_in k s (dlc_in s at).end ≡ take k f.bytes = bytes_back (take k f.bytes) (text "\r\n") s (dlc_in s at).end the_dlc.behind (take_bytes k f.bytes fit.small) k (omega arith) ∙ take-take k k f.bytes (omega arith) in
      ap (λ (x : List ℕ). x ++ replicate (8 - k) 0) b ∙ fit.keeps

  pub frame_found : frame_in s at ≡ f
  unfolding frame_in
  frame_found =
      let i : (id_in s at).value % 2147483648 ≡ f.id = rw the_id.value (mod-eq_of_lt fit.id) in
      let d : (dlc_in s at).value % 256 ≡ f.dlc = rw the_dlc.value (mod-eq_of_lt fit.dlc) in
      let b : filled (shown (stands 114 s (mid_in s at + 4)) ((dlc_in s at).value % 256)) s (dlc_in s at).end ≡ f.bytes = ap₂ (λ (x : Bool) (y : ℕ). filled (shown x y) s (dlc_in s at).end) the_way.remote d ∙ the_bytes in
      λ j. record {
        id = i j;
        extended = the_id.marked j;
        sent = the_way.sent j;
        remote = the_way.remote j;
        dlc = d j;
        bytes = b j;
      }

-- ` Statistic: ..` at a place
module _ (c : Counts) (fit : FitCounts c) (s : List ℕ) (at : ℕ) (q : drop at s ≡ counts_of c ++ text "\r\n") where
  abbrev load_on : List ℕ
  load_on = text " B " ++ (decimal (c.load / 100) ++ (text "." ++ (fixed 10 2 (c.load % 100) ++ text "%\r\n")))

  abbrev o_on : List ℕ
  o_on = text " O " ++ (decimal c.overloads ++ load_on)

  abbrev e_on : List ℕ
  e_on = text " E " ++ (decimal c.errors ++ o_on)

  abbrev xr_on : List ℕ
  xr_on = text " XR " ++ (decimal c.extended_remote ++ e_on)

  abbrev xd_on : List ℕ
  xd_on = text " XD " ++ (decimal c.extended_data ++ xr_on)

  abbrev r_on : List ℕ
  r_on = text " R " ++ (decimal c.standard_remote ++ xd_on)

  listed : drop at s ≡ text " Statistic: D " ++ (decimal c.standard_data ++ r_on)
  unfolding counts_of load_of labelled
  listed =
      q
      ∙ counts_parts (labelled (text " Statistic: D ") c.standard_data) (labelled (text " R ") c.standard_remote) (labelled (text " XD ") c.extended_data)
      (labelled (text " XR ") c.extended_remote) (labelled (text " E ") c.errors) (labelled (text " O ") c.overloads) (labelled (text " B ") (c.load / 100)) (text ".")
      (fixed 10 2 (c.load % 100)) (text "%") (text "\r\n")

  count : (v j : ℕ) (r : List ℕ) → v < 4294967296 → drop j s ≡ decimal v ++ (32 ∷ r) → Read s (count_in s j) v (32 ∷ r)
  unfolding count_in
  count v j r h e = before_blank 10 v j s r (omega arith) (omega arith) (omega arith) e

  the_d : Read s (d_in s at) c.standard_data r_on
  the_d = count c.standard_data (at + 14) _ fit.d (further s at 14 listed)

  the_r : Read s (r_in s at) c.standard_remote xd_on
  the_r = count c.standard_remote ((d_in s at).end + 3) _ fit.r (further s (d_in s at).end 3 the_d.behind)

  the_xd : Read s (xd_in s at) c.extended_data xr_on
  the_xd = count c.extended_data ((r_in s at).end + 4) _ fit.xd (further s (r_in s at).end 4 the_r.behind)

  the_xr : Read s (xr_in s at) c.extended_remote e_on
  the_xr = count c.extended_remote ((xd_in s at).end + 4) _ fit.xr (further s (xd_in s at).end 4 the_xd.behind)

  the_e : Read s (e_in s at) c.errors o_on
  the_e = count c.errors ((xr_in s at).end + 3) _ fit.e (further s (xr_in s at).end 3 the_xr.behind)

  the_o : Read s (o_in s at) c.overloads load_on
  the_o = count c.overloads ((e_in s at).end + 3) _ fit.o (further s (e_in s at).end 3 the_e.behind)

  abbrev there : ℕ
  there = (o_in s at).end

  the_whole : Read s (whole_in s there) (c.load / 100) (46 ∷ (fixed 10 2 (c.load % 100) ++ text "%\r\n"))
  unfolding whole_in
  the_whole = before_point 3 (c.load / 100) (there + 3) s _ (omega arith) (omega (arith, fit.load)) (omega (arith, fit.load)) (further s (o_in s at).end 3 the_o.behind)

  the_part : Read s (number 10 2 s ((whole_in s there).end + 1)) (c.load % 100) (text "%\r\n")
  the_part = fixed_read 10 (omega arith) (omega arith) (c.load % 100) ((whole_in s there).end + 1) s 2 _ (further s (whole_in s there).end 1 the_whole.behind) (omega arith)

  the_load : load_in s there ≡ c.load
  unfolding load_in
  the_load = rw (the_whole.value, the_part.value) (omega (arith, fit.load))

  low : {v w : ℕ} → v ≡ w → w < 4294967296 → v % 4294967296 ≡ w
  low e h = rw e (mod-eq_of_lt h)

  pub counts_found : counts_in s at ≡ c
  unfolding counts_in
  counts_found = λ i. record {
    load = the_load i;
    standard_data = low the_d.value fit.d i;
    extended_data = low the_xd.value fit.xd i;
    standard_remote = low the_r.value fit.r i;
    extended_remote = low the_xr.value fit.xr i;
    errors = low the_e.value fit.e i;
    overloads = low the_o.value fit.o i;
  }

-- what a line tells is its candidate

module _ (h : Head) (fit : FitHead h) where
  pub overload_line : candidate (line_of (of_overload h)) ≡ of_overload h
  unfolding candidate line_of rest_of
  overload_line =
      let s = line_of (of_overload h) in
      let b : s ≡ head_of h ++ (32 ∷ text "OverloadFrame\r\n") = append_assoc (head_of h) (text " OverloadFrame") (text "\r\n") in
      let m : get_or s (head_end s + 1) 0 ≡ 79 = byte_at s _ (head_end s) 1 (behind_head h fit s _ b) in
      rw m (ap of_overload (head_found h fit s _ b))

  pub statistic_line : (c : Counts) → FitCounts c → candidate (line_of (of_statistic h c)) ≡ of_statistic h c
  unfolding candidate line_of rest_of counts_of labelled
  statistic_line c fits =
      let s = line_of (of_statistic h c) in
      let l = counts_of c ++ text "\r\n" in
      let b : s ≡ head_of h ++ (32 ∷ drop 1 l) = append_assoc (head_of h) (counts_of c) (text "\r\n") in
      let q : drop (head_end s) s ≡ l = behind_head h fit s (drop 1 l) b in
      let m : get_or s (head_end s + 1) 0 ≡ 83 = byte_at s l (head_end s) 1 q in
      rw m (ap₂ of_statistic (head_found h fit s (drop 1 l) b) (counts_found c fits s (head_end s) q))

  pub message_line : (f : Frame) → FitFrame f → candidate (line_of (of_message h f)) ≡ of_message h f
  unfolding candidate line_of rest_of id_of hex
  message_line f fits =
      let s = line_of (of_message h f) in
      let l = (id_of f ++ frame_of f) ++ text "\r\n" in
      let b : s ≡ head_of h ++ (32 ∷ drop 1 l) = append_assoc (head_of h) (id_of f ++ frame_of f) (text "\r\n") in
      let q : drop (head_end s) s ≡ l = behind_head h fit s (drop 1 l) b in
      let m : get_or s (head_end s + 1) 0 < 71 = rw (byte_at s l (head_end s) 1 q, append_assoc, append_assoc) (first_digit 16 (omega arith) (omega arith) 15 f.id _) in
      rw (ne_eqb (get_or s (head_end s + 1) 0) 79 (λ e. omega arith), ne_eqb (get_or s (head_end s + 1) 0) 83 (λ e. omega arith))
      (ap₂ of_message (head_found h fit s (drop 1 l) b) (frame_found f fits s (head_end s) q))
