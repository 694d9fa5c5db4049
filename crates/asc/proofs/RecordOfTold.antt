-- What is read out of a text and has a possible time is told by a valid record. Assumes nothing.
use mathlib.Core.Path.{◌≡◌, refl, ap, ap₂, ◌∙◌}
use mathlib.Core.Bool.{Bool, true, false, cond}
use mathlib.Core.List.{List, [], ◌∷◌, ◌++◌}
use Prim.Native.Nat.{ℕ, zero, suc, ◌+◌, ◌*◌, ◌-◌, ◌%◌, ◌<◌}
use native.Mathlib.Omega.{arith}
use borrow.Author.Tests.{le-leb, lt-leb}
use lib.ListN.{replicate}
use lib.Seq.{take_at}
use lib.Dec.{leb, eqb}
use Rattle.fields.specs.Numbers.{Bytes}
use Rattle.fields.proofs.BigEndian.{bytes_cons, bytes_append}
use Rattle.digits.specs.Reading.{number}
use Rattle.digits.specs.Pairs.{bytes_in, filled}
use Rattle.digits.proofs.PairLaws.{length_bytes, length_filled, byte_low}
use Rattle.headers.specs.declared.header.Origin.TheVariants.{First}
use Rattle.headers.specs.declared.header.Header.{Header}
use Rattle.headers.specs.Header.{Fit}
use Rattle.can.specs.declared.message.Message.{Message}
use Rattle.can.specs.declared.overload.Overload.{Overload}
use Rattle.can.specs.declared.statistic.Statistic.{Statistic}
use Rattle.can.specs.Tables.{message_slots, overload_slots, counter_slots, statistic_slots}
use Rattle.asc_lines.specs.declared.told.Head.{Head}
use Rattle.asc_lines.specs.declared.told.Frame.{Frame}
use Rattle.asc_lines.specs.declared.told.Counts.{Counts}
use Rattle.asc_lines.specs.declared.told.Told.{Told}
use Rattle.asc_lines.specs.Told.{of_message, of_overload, of_statistic, shown}
use Rattle.asc_lines.specs.Lines.{line_of}
use Rattle.asc_lines.specs.Reading.{stands, head_in, head_end, mid_in, dlc_in, frame_in, load_in, counts_in, candidate, possible_time}
use Rattle.asc_lines.proofs.Parsing.{FitFrame, FitCounts, shown_most}
use Rattle.asc.specs.Tells.{head_told, kept, frame_told, counts_told, message, overload, statistic, tells}
use Rattle.asc.specs.Lines.{Line, Stamped}
use Rattle.asc.proofs.Stamps.{units, possible_time_exact}
use Rattle.asc.proofs.Fitting.{zeros_bytes}

-- the two flags and the id that tell what a frame tells

flags_fit : (w r : Bool) → cond w 1 0 + cond r 128 0 < 256
flags_fit true true = omega arith
flags_fit true false = omega arith
flags_fit false true = omega arith
flags_fit false false = omega arith

flags_sent : (w r : Bool) → eqb ((cond w 1 0 + cond r 128 0) % 2) 1 ≡ w
flags_sent true true = refl
flags_sent true false = refl
flags_sent false true = refl
flags_sent false false = refl

flags_remote : (w r : Bool) → leb 128 (cond w 1 0 + cond r 128 0) ≡ r
flags_remote true true = refl
flags_remote true false = refl
flags_remote false true = refl
flags_remote false false = refl

id_fit : (e : Bool) (id : ℕ) → id < 2147483648 → id + cond e 2147483648 0 < 4294967296
id_fit true id h = omega arith
id_fit false id h = omega arith

id_back : (e : Bool) (id : ℕ) → id < 2147483648 → (id + cond e 2147483648 0) % 2147483648 ≡ id
id_back true id h = omega arith
id_back false id h = omega arith

id_mark : (e : Bool) (id : ℕ) → id < 2147483648 → leb 2147483648 (id + cond e 2147483648 0) ≡ e
id_mark true id h = le-leb 2147483648 (id + 2147483648) (omega arith)
id_mark false id h = lt-leb 2147483648 (id + 0) (omega arith)

-- a head with a possible time, and a header that tells it
module _ (h : Head) (low : h.channel < 65536) (st : Stamped h.seconds h.nanos) where
  abbrev header : Header
  header = record { unit = st.unit; origin = First 0; version = 0; stamp = st.stamp }

  header_fit : Fit header
  header_fit =
      record {
        unit = units (λ (v : ℕ). v < 4294967296) (omega arith) (omega arith) st.unit st.known;
        origin = omega arith;
        version = omega arith;
        stamp = omega (arith, st.fits);
      }

  head_back : head_told header h.channel ≡ h
  unfolding head_told
  head_back = λ i. record { seconds = st.whole i; nanos = st.over i; channel = h.channel }

  overload_told : Line (line_of (of_overload h)) (of_overload h)
  unfolding tells overload_slots
  overload_told =
      let r : Overload = record { header = header; channel = h.channel } in
      let says : tells (overload r) ≡ of_overload h = ap of_overload head_back in
      record {
        from = overload r;
        valid = record { header = header_fit; unit = st.known; fits = (omega arith, (tt, tt)); extra = tt; content = refl };
        says = says;
        line = ap line_of says;
      }

  statistic_told : (c : Counts) → FitCounts c → Line (line_of (of_statistic h c)) (of_statistic h c)
  unfolding tells counts_told statistic_slots counter_slots
  statistic_told c fit =
      let r : Statistic =
      record {
        header = header;
        channel = h.channel;
        load = c.load;
        standard_data = c.standard_data;
        extended_data = c.extended_data;
        standard_remote = c.standard_remote;
        extended_remote = c.extended_remote;
        errors = c.errors;
        overloads = c.overloads;
      } in
      let says : tells (statistic r) ≡ of_statistic h c = ap (λ (x : Head). of_statistic x c) head_back in
      record {
        from = statistic r;
        valid =
            record {
              header = header_fit;
              unit = st.known;
              fits =
                  (omega arith, (omega (arith, fit.load), (omega (arith, fit.d), (omega (arith, fit.xd), (omega (arith, fit.r), (omega (arith, fit.xr), (omega (arith, fit.e), (omega (arith, fit.o), tt))))))));
              extra = tt;
              content = refl;
            };
        says = says;
        line = ap line_of says;
      }

  message_told : (f : Frame) → FitFrame f → Line (line_of (of_message h f)) (of_message h f)
  unfolding tells frame_told kept message_slots
  message_told f fit =
      let r : Message =
      record {
        header = header;
        channel = h.channel;
        flags = cond f.sent 1 0 + cond f.remote 128 0;
        dlc = f.dlc;
        id = f.id + cond f.extended 2147483648 0;
        bytes = f.bytes;
      } in
      let remote : leb 128 r.flags ≡ f.remote = flags_remote f.sent f.remote in
      let bytes : kept (shown (leb 128 r.flags) f.dlc) f.bytes ≡ f.bytes = ap (λ (x : Bool). kept (shown x f.dlc) f.bytes) remote ∙ fit.keeps in
      let same : frame_told r ≡ f =
      λ i. record {
        id = id_back f.extended f.id fit.id i;
        extended = id_mark f.extended f.id fit.id i;
        sent = flags_sent f.sent f.remote i;
        remote = remote i;
        dlc = f.dlc;
        bytes = bytes i;
      } in
      let says : tells (message r) ≡ of_message h f = ap₂ of_message head_back same in
      let flags = flags_fit f.sent f.remote in
      let id = id_fit f.extended f.id fit.id in
      record {
        from = message r;
        valid =
            record {
              header = header_fit;
              unit = st.known;
              fits = (omega arith, (omega (arith, flags), (omega (arith, fit.dlc), (omega (arith, id), ((fit.eight, λ i l. fit.small i), tt)))));
              extra = tt;
              content = refl;
            };
        says = says;
        line = ap line_of says;
      }

-- what is taken out of a text fits
module _ (k : ℕ) (s : List ℕ) (at : ℕ) where
  filled_kept : kept k (filled k s at) ≡ filled k s at
  unfolding filled kept
  filled_kept = ap (λ (l : List ℕ). l ++ replicate (8 - k) 0) (take_at (bytes_in k s at) (replicate (8 - k) 0) k (length_bytes k s at))

bytes_in_are : (k : ℕ) (s : List ℕ) (at : ℕ) → Bytes (bytes_in k s at)
unfolding bytes_in
bytes_in_are zero s at i = omega arith
bytes_in_are (suc k) s at i =
    bytes_append (bytes_in k s at) ((number 16 2 s (at + 3 * k + 1)).value ∷ []) (bytes_in_are k s at) (bytes_cons [] (byte_low s (at + 3 * k + 1) refl) (zeros_bytes 0)) i

filled_bytes : (k : ℕ) (s : List ℕ) (at : ℕ) → Bytes (filled k s at)
unfolding filled
filled_bytes k s at = bytes_append (bytes_in k s at) (replicate (8 - k) 0) (bytes_in_are k s at) (zeros_bytes (8 - k))

module _ (s : List ℕ) where
  channel_fit : (head_in s).channel < 65536
  unfolding head_in
  channel_fit = omega arith

  frame_fit : (at : ℕ) → FitFrame (frame_in s at)
  unfolding frame_in kept
  frame_fit at =
      let remote = stands 114 s (mid_in s at + 4) in
      let dlc = (dlc_in s at).value % 256 in
      let k = shown remote dlc in
      record {
        id = omega arith;
        dlc = omega arith;
        eight = length_filled k s (dlc_in s at).end (shown_most remote dlc);
        small = filled_bytes k s (dlc_in s at).end;
        keeps = filled_kept k s (dlc_in s at).end;
      }

  counts_fit : (at : ℕ) → FitCounts (counts_in s at)
  unfolding counts_in load_in
  counts_fit at =
      record { load = omega arith; d = omega arith; xd = omega arith; r = omega arith; xr = omega arith; e = omega arith; o = omega arith }

  abbrev by : Bool → Bool → Told
  by o c = cond o (of_overload (head_in s)) (cond c (of_statistic (head_in s) (counts_in s (head_end s))) (of_message (head_in s) (frame_in s (head_end s))))

  stamped : possible_time (head_in s).seconds (head_in s).nanos ≡ true → Stamped (head_in s).seconds (head_in s).nanos
  stamped e = (possible_time_exact (head_in s).seconds (head_in s).nanos).0 e

  told_by : (o c : Bool) → possible_time (by o c).head.seconds (by o c).head.nanos ≡ true → Line (line_of (by o c)) (by o c)
  told_by true c e = overload_told (head_in s) channel_fit (stamped e)
  told_by false true e = statistic_told (head_in s) channel_fit (stamped e) (counts_in s (head_end s)) (counts_fit (head_end s))
  told_by false false e = message_told (head_in s) channel_fit (stamped e) (frame_in s (head_end s)) (frame_fit (head_end s))

  -- the line of what is read out of a text is the line of a valid record, where a stamp can have its time
  pub candidate_told : possible_time (candidate s).head.seconds (candidate s).head.nanos ≡ true → Line (line_of (candidate s)) (candidate s)
  unfolding candidate
  candidate_told e = told_by (stands 79 s (head_end s + 1)) (stands 83 s (head_end s + 1)) e
