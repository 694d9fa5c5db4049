-- The laws of the CAN records: what the slots of each hold is its record, and gaps and rules are the slots'; and how
-- long their bodies are. Assumes nothing.
use mathlib.Core.Path.{◌≡◌, refl}
use mathlib.Core.Bool.{and-true}
use lib.Dec.{leb}
use lib.ListN.{length}
use Rattle.fields.specs.Slots.{bytes_of}
use Rattle.fields.proofs.Puts.{bytes_length}
use Rattle.headers.specs.Types as kind
use Rattle.headers.specs.Layout.{Lawful}
use Rattle.headers.specs.Form.{layout}
use Rattle.headers.proofs.Forms.{plain}
use Rattle.can.specs.declared.message.Message.{Message}
use Rattle.can.specs.declared.overload.Overload.{Overload}
use Rattle.can.specs.declared.statistic.Statistic.{Statistic}
use Rattle.can.specs.declared.message_two.MessageTwo.{MessageTwo}
use Rattle.can.specs.declared.fd_message.FdMessage.{FdMessage}
use Rattle.can.specs.Fields.{message_of, message_format, overload_of, overload_format, statistic_of, statistic_format, message_two_of, message_two_format, fd_message_of, most_valid, fd_message_format}
use Rattle.can.specs.Tables.{message_slots, message_form, overload_slots, overload_form, counter_slots, statistic_slots, statistic_form, message_two_slots, message_two_form, timing_slots, fd_message_slots, fd_message_form}

pub message_laws : Lawful kind.can_message (layout message_format message_form)
unfolding message_of message_slots
message_laws =
    plain kind.can_message message_format message_form tt refl (λ r. refl) refl (λ h b. refl)
    (λ h v. record { header = h; channel = v.0; flags = v.1.0; dlc = v.1.1.0; id = v.1.1.1.0; bytes = v.1.1.1.1.0 })
    (λ h b. refl) (λ h v. refl) (λ r. refl) (λ h v. refl) (λ r. tt)

pub overload_laws : Lawful kind.overload (layout overload_format overload_form)
unfolding overload_of overload_slots
overload_laws =
    plain kind.overload overload_format overload_form tt refl (λ r. refl) refl (λ h b. refl)
    (λ h v. record { header = h; channel = v.0 })
    (λ h b. refl) (λ h v. refl) (λ r. refl) (λ h v. refl) (λ r. tt)

pub statistic_laws : Lawful kind.statistic (layout statistic_format statistic_form)
unfolding statistic_of statistic_slots counter_slots
statistic_laws =
    plain kind.statistic statistic_format statistic_form tt refl (λ r. refl) refl (λ h b. refl)
    (λ h v. let c = v.1.1 in record {
      header = h;
      channel = v.0;
      load = v.1.0;
      standard_data = c.0;
      extended_data = c.1.0;
      standard_remote = c.1.1.0;
      extended_remote = c.1.1.1.0;
      errors = c.1.1.1.1.0;
      overloads = c.1.1.1.1.1.0;
    })
    (λ h b. refl) (λ h v. refl) (λ r. refl) (λ h v. refl) (λ r. tt)

pub message_two_laws : Lawful kind.message_two (layout message_two_format message_two_form)
unfolding message_of message_two_of message_two_slots
message_two_laws =
    plain kind.message_two message_two_format message_two_form tt refl (λ r. refl) refl (λ h b. refl)
    (λ h v. let t = v.1.1.1.1.1 in record {
      message = record { header = h; channel = v.0; flags = v.1.0; dlc = v.1.1.0; id = v.1.1.1.0; bytes = v.1.1.1.1.0 };
      frame_length = t.0;
      bit_count = t.1.0;
    })
    (λ h b. refl) (λ h v. refl) (λ r. refl) (λ h v. refl) (λ r. tt)

pub fd_message_laws : Lawful kind.fd_message (layout fd_message_format fd_message_form)
unfolding fd_message_of fd_message_slots timing_slots
fd_message_laws =
    plain kind.fd_message fd_message_format fd_message_form tt refl (λ r. and-true (leb r.valid_bytes most_valid)) refl (λ h b. refl)
    (λ h v. let t = v.1.1.1.1 in record {
      header = h;
      channel = v.0;
      flags = v.1.0;
      dlc = v.1.1.0;
      id = v.1.1.1.0;
      frame_length = t.0;
      bit_count = t.1.0;
      fd_flags = t.1.1.0;
      valid_bytes = t.1.1.1.0;
      bytes = t.1.1.1.1.1.0;
    })
    (λ h b. refl) (λ h v. refl) (λ r. refl) (λ h v. refl) (λ r. tt)

pub message_length : (r : Message) → length (bytes_of message_slots r) ≡ 16
unfolding message_slots
message_length r = bytes_length r message_slots tt

pub overload_length : (r : Overload) → length (bytes_of overload_slots r) ≡ 4
unfolding overload_slots
overload_length r = bytes_length r overload_slots tt

pub statistic_length : (r : Statistic) → length (bytes_of statistic_slots r) ≡ 28
unfolding statistic_slots counter_slots
statistic_length r = bytes_length r statistic_slots tt

pub message_two_length : (r : MessageTwo) → length (bytes_of message_two_slots r) ≡ 24
unfolding message_two_slots
message_two_length r = bytes_length r message_two_slots tt

pub fd_message_length : (r : FdMessage) → length (bytes_of fd_message_slots r) ≡ 88
unfolding fd_message_slots timing_slots
fd_message_length r = bytes_length r fd_message_slots tt
