-- The laws of the LIN records: what the slots of each hold is its record, and gaps and rules are the slots'; of the
-- message's rest, the laws of its tail. Assumes nothing.
use mathlib.Core.Path.{◌≡◌, refl}
use mathlib.Core.Bool.{true, ◌&&◌, and-true}
use Prim.Native.Nat.{◌+◌}
use lib.ListN.{length, drop}
use Rattle.fields.specs.Slots.{bytes_of}
use Rattle.fields.proofs.Zeros.{both_true}
use Rattle.fields.proofs.Puts.{bytes_length}
use Rattle.fields.proofs.Parts.{drop_bytes}
use Rattle.headers.specs.Types as kind
use Rattle.headers.specs.Layout.{body_allowed, Lawful}
use Rattle.headers.specs.Form.{layout}
use Rattle.headers.proofs.Bodies.{body_exact}
use Rattle.headers.proofs.Forms.{lawful, plain}
use Rattle.lin.specs.declared.message.Message.{Message}
use Rattle.lin.specs.declared.wake_up.WakeUp.{WakeUp}
use Rattle.lin.specs.Fields.{tail_of, tail_ok, message_of, message_format, wake_up_of, wake_up_format}
use Rattle.lin.specs.Tail.{tail}
use Rattle.lin.specs.Tables.{bus_slots, synch_slots, descriptor_slots, status_slots, machine_slots, message_slots, message_form, wake_up_slots, wake_up_form}
use Rattle.lin.proofs.TailLaws.{tail_ends, tail_back, tail_forth, tail_fit}
use Rattle.lin.proofs.SizeLaws.{message_length, long, ends}

pub wake_up_laws : Lawful kind.wake_up (layout wake_up_format wake_up_form)
unfolding wake_up_of bus_slots wake_up_slots
wake_up_laws =
    plain kind.wake_up wake_up_format wake_up_form tt refl (λ r. refl) refl (λ h b. refl)
    (λ h v. let p = v.1.1.1.1 in record {
      header = h;
      start = v.0;
      baud = v.1.0;
      channel = v.1.1.0;
      info = p.0;
      signal = p.1.0;
      external = p.1.1.0;
    })
    (λ h b. refl) (λ h v. refl) (λ r. refl) (λ h v. refl) (λ r. tt)

pub wake_up_length : (r : WakeUp) → length (bytes_of wake_up_slots r) ≡ 20
unfolding bus_slots wake_up_slots
wake_up_length r = bytes_length r wake_up_slots tt

-- the type list has the lengths of a message
message_allowed : (r : Message) → (body_allowed (kind.number_of kind.lin_message) (length (bytes_of message_slots r)) && (tail_ok r.tail && true)) ≡ tail_ok r.tail
message_allowed r = rw (message_length r, (body_exact kind.lin_message (132 + length (tail r.tail))).1 (tail_ends r.tail), and-true)

pub message_laws : Lawful kind.lin_message (layout message_format message_form)
unfolding message_of bus_slots synch_slots descriptor_slots status_slots machine_slots message_slots
message_laws =
    lawful kind.lin_message message_format message_form (record {
      gaps = refl;
      rules = λ h b. refl;
      make = λ h v.
          let d = v.1.1.1.1.1.1 in
          let s = d.1.1.1.1.1.1.1.1 in
          record {
            header = h;
            start = v.0;
            baud = v.1.0;
            channel = v.1.1.0;
            breaking = v.1.1.1.1.0;
            delimiter = v.1.1.1.1.1.0;
            supplier = d.0;
            message = d.1.0;
            nad = d.1.1.0;
            id = d.1.1.1.0;
            dlc = d.1.1.1.1.0;
            model = d.1.1.1.1.1.0;
            stamps = d.1.1.1.1.1.1.0;
            bytes = d.1.1.1.1.1.1.1.0;
            checksum = s.0;
            direction = s.1.0;
            simulated = s.1.1.0;
            triggered = s.1.1.1.0;
            index = s.1.1.1.1.0;
            associated = s.1.1.1.1.1.0;
            machine = s.1.1.1.1.1.1.0;
            state = s.1.1.1.1.1.1.1.0;
            tail = tail_of s.1.1.1.1.1.1.1.1.1;
          };
      reads = λ h b. refl;
      header = λ h b. refl;
      made = λ r v. rw (tail_back r.tail v.extra);
      kept = λ h b t. rw (tail_forth (drop 132 b) (drop_bytes 132 b t.bytes) (ends b t.sized) (both_true _ _ t.right).0);
      extra = λ h b t. tail_fit (drop 132 b) (drop_bytes 132 b t.bytes) (ends b t.sized);
      fill = long;
      content = message_allowed;
    })
