-- What a valid record tells fits: its head, its frame, its counts. Assumes nothing.
use mathlib.Core.Path.{◌≡◌, ap, ◌∙◌}
use mathlib.Core.Bool.{true}
use mathlib.Core.List.{List, [], ◌∷◌, ◌++◌}
use Prim.Native.Nat.{ℕ, zero, suc, ◌-◌, ◌≤◌, ◌<◌}
use native.Mathlib.Omega.{arith}
use lib.ListN.{length, take, get_or, replicate, length-append, length-replicate}
use lib.Seq.{take_at, length-take-le}
use Rattle.fields.specs.Numbers.{Bytes}
use Rattle.fields.proofs.Parts.{take_bytes}
use Rattle.fields.proofs.BigEndian.{bytes_append}
use Rattle.headers.specs.declared.header.Header.{Header}
use Rattle.headers.specs.Format.{unit_ok}
use Rattle.headers.specs.Header.{Fit}
use Rattle.headers.specs.Form.{Valid}
use Rattle.can.specs.declared.message.Message.{Message}
use Rattle.can.specs.declared.overload.Overload.{Overload}
use Rattle.can.specs.declared.statistic.Statistic.{Statistic}
use Rattle.can.specs.Fields.{message_format, overload_format, statistic_format}
use Rattle.can.specs.Tables.{message_slots, message_form, overload_slots, overload_form, counter_slots, statistic_slots, statistic_form}
use Rattle.asc_lines.specs.Told.{shown}
use Rattle.asc_lines.proofs.Parsing.{FitHead, FitFrame, FitCounts, shown_most}
use Rattle.asc.specs.Tells.{head_told, is_remote, kept, frame_told, counts_told}
use Rattle.asc.proofs.Stamps.{Low, stamp_low}

-- bytes up to the end are bytes
pub all_bytes : (s : List ℕ) → ((i : ℕ) → i < length s → get_or s i 0 < 256) → Bytes s
all_bytes [] h i = omega arith
all_bytes (x ∷ s) h zero = h zero (omega arith)
all_bytes (x ∷ s) h (suc i) = all_bytes s (λ j l. h (suc j) (omega arith)) i

pub zeros_bytes : (n : ℕ) → Bytes (replicate n 0)
zeros_bytes zero i = omega arith
zeros_bytes (suc n) zero = omega arith
zeros_bytes (suc n) (suc i) = zeros_bytes n i

-- eight bytes, whatever is kept
module _ (k : ℕ) (bs : List ℕ) where
  kept_bytes : Bytes bs → Bytes (kept k bs)
  unfolding kept
  kept_bytes h = bytes_append (take k bs) (replicate (8 - k) 0) (take_bytes k bs h) (zeros_bytes (8 - k))

  module _ (e : length bs ≡ 8) (h : k ≤ 8) where
    kept_eight : length (kept k bs) ≡ 8
    unfolding kept
    kept_eight = length-append (take k bs) (replicate (8 - k) 0) ∙ rw (length-take-le k bs (omega arith), length-replicate) (omega arith)

    kept_kept : kept k (kept k bs) ≡ kept k bs
    unfolding kept
    kept_kept = ap (λ (l : List ℕ). l ++ replicate (8 - k) 0) (take_at (take k bs) (replicate (8 - k) 0) k (length-take-le k bs (omega arith)))

fit_head : (h : Header) (channel : ℕ) → Fit h → unit_ok h.unit ≡ true → channel < 65536 → FitHead (head_told h channel)
unfolding head_told
fit_head h channel f u c =
    let l : Low h.unit h.stamp = stamp_low h.unit h.stamp u (omega (arith, f.stamp)) in
    record { seconds = l.seconds; nanos = l.nanos; channel = c }

module _ (r : Message) (v : Valid message_format message_form r) where
  pub message_head : FitHead (head_told r.header r.channel)
  unfolding message_slots
  message_head = fit_head r.header r.channel v.header v.unit (omega (arith, v.fits.0))

  pub message_frame : FitFrame (frame_told r)
  unfolding message_slots frame_told kept
  message_frame =
      let n = v.fits.1.1.1.1.0 in
      let e : length r.bytes ≡ 8 = n.0 in
      let k = shown (is_remote r.flags) r.dlc in
      let m : k ≤ 8 = shown_most (is_remote r.flags) r.dlc in
      record {
        id = omega arith;
        dlc = omega (arith, v.fits.1.1.0);
        eight = kept_eight k r.bytes e m;
        small = kept_bytes k r.bytes (all_bytes r.bytes (λ i l. n.1 i (omega arith)));
        keeps = kept_kept k r.bytes e m;
      }

pub overload_head : (r : Overload) → Valid overload_format overload_form r → FitHead (head_told r.header r.channel)
unfolding overload_slots
overload_head r v = fit_head r.header r.channel v.header v.unit (omega (arith, v.fits.0))

module _ (r : Statistic) (v : Valid statistic_format statistic_form r) where
  pub statistic_head : FitHead (head_told r.header r.channel)
  unfolding statistic_slots
  statistic_head = fit_head r.header r.channel v.header v.unit (omega (arith, v.fits.0))

  pub statistic_counts : FitCounts (counts_told r)
  unfolding statistic_slots counter_slots counts_told
  statistic_counts =
      let c = v.fits.1.1 in
      record {
        load = omega (arith, v.fits.1.0);
        d = omega (arith, c.0);
        xd = omega (arith, c.1.0);
        r = omega (arith, c.1.1.0);
        xr = omega (arith, c.1.1.1.0);
        e = omega (arith, c.1.1.1.1.0);
        o = omega (arith, c.1.1.1.1.1.0);
      }
