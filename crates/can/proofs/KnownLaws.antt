-- 01: "a record that 7 and 9 let through is valid". What is known of a record in memory, as a function's `c.good` has
-- it, is that its fields fit. Assumes nothing.
use mathlib.Core.Path.{◌≡◌, refl}
use mathlib.Core.Bool.{true}
use mathlib.Core.List.{List, [], ◌∷◌}
use Prim.Native.Nat.{ℕ, ◌<◌, ◌^◌}
use lib.Dec.{leb}
use lib.ListN.{get_or}
use mir.Syntax.{w8}
use mir.Val.{Val, Fits}
use denote.Laws.{Is}
use denote.Struct.Declared as struct
use denote.Struct.Laws.{val}
use borrow.Author.Rules.{rules}
use Rattle.headers.specs.Format.{unit_ok}
use Rattle.headers.specs.Form.{Valid}
use Rattle.headers.proofs.Known.{header_known}
use Rattle.can.specs.Fields.{message_format, overload_format, statistic_format, message_two_format, most_valid, fd_message_format}
use Rattle.can.specs.Tables.{message_slots, message_form, overload_slots, overload_form, counter_slots, statistic_slots, statistic_form, message_two_slots, message_two_form, timing_slots, fd_message_slots, fd_message_form}
use Rattle.can.specs.declared.message.Message.{Message}
use Rattle.can.specs.contracts.message.Message as message
use Rattle.can.proofs.message.Message.TheLaws as message_laws
use Rattle.can.specs.declared.overload.Overload.{Overload}
use Rattle.can.specs.contracts.overload.Overload as overload
use Rattle.can.proofs.overload.Overload.TheLaws as overload_laws
use Rattle.can.specs.declared.statistic.Statistic.{Statistic}
use Rattle.can.specs.contracts.statistic.Statistic as statistic
use Rattle.can.proofs.statistic.Statistic.TheLaws as statistic_laws
use Rattle.can.specs.declared.message_two.MessageTwo.{MessageTwo}
use Rattle.can.specs.contracts.message_two.MessageTwo as message-two
use Rattle.can.proofs.message_two.MessageTwo.TheLaws as message_two_laws
use Rattle.can.specs.declared.fd_message.FdMessage.{FdMessage}
use Rattle.can.specs.contracts.fd_message.FdMessage as fd-message
use Rattle.can.proofs.fd_message.FdMessage.TheLaws as fd_message_laws

-- a message, by itself or in a message 2
message_valid : (r : Message) (vs : List Val) → Is (struct.row message.the_type) r vs → unit_ok r.header.unit ≡ true → Valid message_format message_form r
unfolding message_slots
message_valid r vs g u =
    let byte : (i : ℕ) → Fits w8 (get_or r.bytes i 0) = λ i. search (rules, g.1.1.1.1.1.1.1.0) in
    let bytes : (i : ℕ) → i < 8 → get_or r.bytes i 0 < 256 ^ 1 = λ i l. (byte i).fits in
    let h = header_known r.header _ g.1.1.0 in
    search (rules, g, u, h, bytes)

pub message_known : (r : Message) → Is (struct.row message.the_type) r (val message.the_type message_laws.the_laws r ∷ []) → unit_ok r.header.unit ≡ true → Valid message_format message_form r
message_known r g u = message_valid r _ g u

pub overload_known : (r : Overload) → Is (struct.row overload.the_type) r (val overload.the_type overload_laws.the_laws r ∷ []) → unit_ok r.header.unit ≡ true → Valid overload_format overload_form r
unfolding overload_slots
overload_known r g u = let h = header_known r.header _ g.1.1.0 in search (rules, g, u, h)

pub statistic_known : (r : Statistic) → Is (struct.row statistic.the_type) r (val statistic.the_type statistic_laws.the_laws r ∷ []) → unit_ok r.header.unit ≡ true → Valid statistic_format statistic_form r
unfolding statistic_slots counter_slots
statistic_known r g u = let h = header_known r.header _ g.1.1.0 in search (rules, g, u, h)

pub message_two_known : (r : MessageTwo) → Is (struct.row message-two.the_type) r (val message-two.the_type message_two_laws.the_laws r ∷ []) → unit_ok r.message.header.unit ≡ true → Valid message_two_format message_two_form r
unfolding message_slots message_two_slots
message_two_known r g u =
    let m = message_valid r.message _ g.1.1.0 u in
    let f = m.fits in
    record {
      header = m.header;
      unit = u;
      fits = (f.0, (f.1.0, (f.1.1.0, (f.1.1.1.0, (f.1.1.1.1.0, (search (rules, g), (search (rules, g), (tt, tt))))))));
      extra = tt;
      content = refl;
    }

pub fd_message_known : (r : FdMessage) → Is (struct.row fd-message.the_type) r (val fd-message.the_type fd_message_laws.the_laws r ∷ []) → unit_ok r.header.unit ≡ true → leb r.valid_bytes most_valid ≡ true → Valid fd_message_format fd_message_form r
unfolding fd_message_slots timing_slots
fd_message_known r g u e =
    let byte : (i : ℕ) → Fits w8 (get_or r.bytes i 0) = λ i. search (rules, g.1.1.1.1.1.1.1.1.1.1.1.0) in
    let bytes : (i : ℕ) → i < 64 → get_or r.bytes i 0 < 256 ^ 1 = λ i l. (byte i).fits in
    record {
      header = header_known r.header _ g.1.1.0;
      unit = u;
      fits = (search (rules, g), (search (rules, g), (search (rules, g), (search (rules, g), (search (rules, g), (search (rules, g), (search (rules, g), (search (rules, g), (tt, ((search (rules, g), bytes), (tt, tt)))))))))));
      extra = tt;
      content = e;
    }
