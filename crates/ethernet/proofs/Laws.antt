-- The laws of the Ethernet records: what the slots of each hold is its record, and gaps and rules are the slots'.
-- Assumes nothing.
use mathlib.Core.Path.{◌≡◌, refl}
use Prim.Native.Nat.{ℕ, ◌+◌}
use native.Mathlib.Omega.{arith}
use lib.ListN.{length, drop, length-drop}
use Rattle.fields.specs.Digits.{le}
use Rattle.fields.specs.Slots.{bytes_of}
use Rattle.fields.proofs.Puts.{bytes_length}
use Rattle.headers.specs.declared.header.Header.{Header}
use Rattle.headers.specs.Types as kind
use Rattle.headers.specs.Types.{up_to, Kind, bodies_of}
use Rattle.headers.specs.Layout.{Lawful}
use Rattle.headers.specs.Form.{layout}
use Rattle.headers.proofs.Forms.{lawful, plain}
use Rattle.ethernet.specs.declared.status.Status.{Status}
use Rattle.ethernet.specs.declared.frame.Frame.{Frame}
use Rattle.ethernet.specs.declared.frame_error.FrameError.{FrameError}
use Rattle.ethernet.specs.Fields.{status_of, status_format, structure_length, longest_frame, frame_of, error_of, Framed, frame_format, error_format}
use Rattle.ethernet.specs.Tables.{eight_slots, status_slots, status_form, origin_slots, transmission_slots, event_slots, frame_slots, frame_form, error_slots, error_form}
use Rattle.ethernet.proofs.Sizes.{long, frame_allowed}

pub status_laws : Lawful kind.ethernet_status (layout status_format status_form)
unfolding status_of status_slots eight_slots
status_laws =
    plain kind.ethernet_status status_format status_form tt refl (λ r. refl) refl (λ h b. refl)
    (λ h v. let e = v.1.1 in record {
      header = h;
      channel = v.0;
      flags = v.1.0;
      link = e.0;
      phy = e.1.0;
      duplex = e.1.1.0;
      mdi = e.1.1.1.0;
      connector = e.1.1.1.1.0;
      clock = e.1.1.1.1.1.0;
      pairs = e.1.1.1.1.1.1.0;
      hardware = e.1.1.1.1.1.1.1.0;
      bitrate = e.1.1.1.1.1.1.1.1.0;
    })
    (λ h b. refl) (λ h v. refl) (λ r. refl) (λ h v. refl) (λ r. tt)

pub status_length : (r : Status) → length (bytes_of status_slots r) ≡ 16
unfolding status_slots eight_slots
status_length r = bytes_length r status_slots tt

-- the frame's bytes stand behind the structure, and make up the body with it
pub frame_view : (f : Framed Frame) → drop structure_length (bytes_of frame_slots f) ≡ f.bytes
unfolding bytes_of frame_slots event_slots origin_slots transmission_slots le
frame_view f = refl

pub error_view : (e : Framed FrameError) → drop structure_length (bytes_of error_slots e) ≡ e.bytes
unfolding bytes_of error_slots event_slots origin_slots transmission_slots le
error_view e = refl

pub frame_length : (f : Framed Frame) → length (bytes_of frame_slots f) ≡ structure_length + length f.bytes
unfolding bytes_of frame_slots event_slots origin_slots transmission_slots le
frame_length f = omega arith

pub error_length : (e : Framed FrameError) → length (bytes_of error_slots e) ≡ structure_length + length e.bytes
unfolding bytes_of error_slots event_slots origin_slots transmission_slots le
error_length e = omega arith

-- the frame in the values of the slots; T is those from 28 on
abbrev made : {T : Type 0} → Header → Unit {0} × (ℕ × (ℕ × (ℕ × (ℕ × (ℕ × (ℕ × (Unit {0} × (ℕ × T)))))))) → Frame
made h v = record {
  header = h;
  flags = v.1.0;
  channel = v.1.1.0;
  hardware = v.1.1.1.0;
  duration = v.1.1.1.1.0;
  checksum = v.1.1.1.1.1.0;
  direction = v.1.1.1.1.1.1.0;
  handle = v.1.1.1.1.1.1.1.1.0;
}

module _ (k : Kind) (e : bodies_of k ≡ up_to structure_length longest_frame) where
  frame_lawful : Lawful k (layout frame_format frame_form)
  unfolding frame_of bytes_of frame_slots event_slots origin_slots transmission_slots le
  frame_lawful =
      lawful k frame_format frame_form (record {
        gaps = refl;
        rules = λ h b. rw length-drop;
        make = λ h v. record { value = made h v; bytes = v.1.1.1.1.1.1.1.1.1.1 };
        reads = λ h b. refl;
        header = λ h b. refl;
        made = λ f v. refl;
        kept = λ h b t. refl;
        extra = λ h b t. tt;
        fill = long k e;
        content = λ f. rw (frame_length f) (frame_allowed k e (length f.bytes));
      })

  error_lawful : Lawful k (layout error_format error_form)
  unfolding frame_of error_of bytes_of error_slots event_slots origin_slots transmission_slots le
  error_lawful =
      lawful k error_format error_form (record {
        gaps = refl;
        rules = λ h b. rw length-drop;
        make = λ h v. let t = v.1.1.1.1.1.1.1.1.1 in record { value = record { frame = made h v; code = t.0 }; bytes = t.1 };
        reads = λ h b. refl;
        header = λ h b. refl;
        made = λ f v. refl;
        kept = λ h b t. refl;
        extra = λ h b t. tt;
        fill = long k e;
        content = λ f. rw (error_length f) (frame_allowed k e (length f.bytes));
      })

pub frame_laws : Lawful kind.frame (layout frame_format frame_form)
frame_laws = frame_lawful kind.frame refl

pub forwarded_frame_laws : Lawful kind.forwarded_frame (layout frame_format frame_form)
forwarded_frame_laws = frame_lawful kind.forwarded_frame refl

pub error_laws : Lawful kind.ethernet_error (layout error_format error_form)
error_laws = error_lawful kind.ethernet_error refl

pub forwarded_error_laws : Lawful kind.forwarded_error (layout error_format error_form)
forwarded_error_laws = error_lawful kind.forwarded_error refl
