-- The laws of FlexRay receive: what its slots hold is its record, and gaps and rules are the slots'; and how long its
-- body is. Assumes nothing.
use mathlib.Core.Path.{◌≡◌, refl}
use mathlib.Core.Bool.{and-true}
use lib.ListN.{length}
use Rattle.fields.specs.Slots.{bytes_of}
use Rattle.fields.proofs.Puts.{bytes_length}
use Rattle.headers.specs.Types as kind
use Rattle.headers.specs.Layout.{Lawful}
use Rattle.headers.specs.Form.{layout}
use Rattle.headers.proofs.Forms.{plain}
use Rattle.flexray.specs.declared.receive.Receive.{Receive}
use Rattle.flexray.specs.Fields.{receive_of, counts_ok, receive_format}
use Rattle.flexray.specs.Tables.{origin_slots, slot_slots, controller_slots, receive_slots, receive_form}

pub receive_laws : Lawful kind.receive (layout receive_format receive_form)
unfolding receive_of receive_slots origin_slots slot_slots controller_slots
receive_laws =
    plain kind.receive receive_format receive_form tt refl (λ r. and-true (counts_ok r.total r.stored)) refl (λ h b. refl)
    (λ h v. let s = v.1.1.1.1.1.1.1 in let c = s.1.1.1.1.1.1.1 in record {
      header = h;
      channel = v.0;
      version = v.1.0;
      mask = v.1.1.0;
      direction = v.1.1.1.0;
      client = v.1.1.1.1.1.0;
      cluster = v.1.1.1.1.1.1.0;
      id = s.0;
      crca = s.1.0;
      crcb = s.1.1.0;
      total = s.1.1.1.0;
      stored = s.1.1.1.1.0;
      cycle = s.1.1.1.1.1.0;
      tag = c.0;
      state = c.1.0;
      flags = c.1.1.0;
      bytes = c.1.1.1.1.0;
    })
    (λ h b. refl) (λ h v. refl) (λ r. refl) (λ h v. refl) (λ r. tt)

pub receive_length : (r : Receive) → length (bytes_of receive_slots r) ≡ 298
unfolding receive_slots origin_slots slot_slots controller_slots
receive_length r = bytes_length r receive_slots tt
