-- 01: "a record that 7 and 9 let through is valid". What is known of a record in memory, as a function's `c.good` has
-- it, is that its fields fit. Assumes nothing.
use mathlib.Core.Path.{◌≡◌}
use mathlib.Core.Bool.{true}
use mathlib.Core.List.{List, [], ◌∷◌}
use Prim.Native.Nat.{ℕ, ◌<◌, ◌^◌}
use lib.ListN.{get_or}
use mir.Syntax.{w8, w64}
use mir.Val.{Val, Fits}
use denote.Laws.{Is}
use denote.Struct.Declared as struct
use denote.Struct.Laws.{val}
use denote.Enum.Declared as enum
use borrow.Author.Rules.{rules}
use Rattle.headers.specs.Format.{unit_ok}
use Rattle.headers.specs.Form.{Valid}
use Rattle.headers.proofs.Known.{header_known}
use Rattle.lin.specs.declared.wake_up.WakeUp.{WakeUp}
use Rattle.lin.specs.declared.message.Message.{Message}
use Rattle.lin.specs.declared.tail.Tail.{Tail}
use Rattle.lin.specs.declared.tail.Tail.TheVariants.{Nothing, Response, Rates}
use Rattle.lin.specs.Fields.{tail_ok, message_format, wake_up_format}
use Rattle.lin.specs.Tail.{FitTail}
use Rattle.lin.specs.Tables.{bus_slots, synch_slots, descriptor_slots, status_slots, machine_slots, message_slots, message_form, wake_up_slots, wake_up_form}
use Rattle.lin.specs.contracts.wake_up.WakeUp as wake-up
use Rattle.lin.proofs.wake_up.WakeUp.TheLaws as wake_up_laws
use Rattle.lin.specs.contracts.tail.Tail as tail
use Rattle.lin.specs.contracts.message.Message as message
use Rattle.lin.proofs.message.Message.TheLaws as message_laws

pub wake_up_known : (r : WakeUp) → Is (struct.row wake-up.the_type) r (val wake-up.the_type wake_up_laws.the_laws r ∷ [])
    → unit_ok r.header.unit ≡ true → Valid wake_up_format wake_up_form r
unfolding bus_slots wake_up_slots
wake_up_known r g u = let h = header_known r.header _ g.1.1.0 in search (rules, g, u, h)

tail_known : (t : Tail) (vs : List Val) → Is (enum.row tail.the_type) t vs → FitTail t
tail_known Nothing vs g = tt
tail_known (Response r) vs g = search (rules, g)
tail_known (Rates r x a b) vs g = search (rules, g)

pub message_known : (r : Message) → Is (struct.row message.the_type) r (val message.the_type message_laws.the_laws r ∷ [])
    → unit_ok r.header.unit ≡ true → tail_ok r.tail ≡ true → Valid message_format message_form r
unfolding bus_slots synch_slots descriptor_slots status_slots machine_slots message_slots
message_known r g u e =
    let at-stamps = g.1.1.1.1.1.1.1.1.1.1.1.1.1.1 in
    let at_tail = at-stamps.1.1.1.1.1.1.1.1.1.1 in
    let stamp : (i : ℕ) → Fits w64 (get_or r.stamps i 0) = λ i. search (rules, at-stamps.0) in
    let byte : (i : ℕ) → Fits w8 (get_or r.bytes i 0) = λ i. search (rules, at-stamps.1.0) in
    let stamps : (i : ℕ) → i < 9 → get_or r.stamps i 0 < 256 ^ 8 = λ i l. (stamp i).fits in
    let bytes : (i : ℕ) → i < 8 → get_or r.bytes i 0 < 256 ^ 1 = λ i l. (byte i).fits in
    let ending = tail_known r.tail _ at_tail.0 in
    record {
      header = header_known r.header _ g.1.1.0;
      unit = u;
      fits = (search (rules, g), (search (rules, g), (search (rules, g), (tt, (search (rules, g), (search (rules, g), (search (rules, g), (search (rules, g), (search (rules, g), (search (rules, g), (search (rules, g), (search (rules, g), ((search rules, stamps), ((search rules, bytes), (search (rules, g), (search (rules, g), (search (rules, g), (search (rules, g), (search (rules, g), (search (rules, g), (search (rules, g), (search (rules, g), (tt, tt)))))))))))))))))))))));
      extra = ending;
      content = e;
    }
