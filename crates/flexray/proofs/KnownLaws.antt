-- 01: "a record that 7 and 9 let through is valid". What is known of a record in memory, as a function's `c.good` has
-- it, is that its fields fit. Assumes nothing.
use mathlib.Core.Path.{◌≡◌}
use mathlib.Core.Bool.{true}
use mathlib.Core.List.{[], ◌∷◌}
use Prim.Native.Nat.{ℕ, ◌<◌, ◌^◌}
use lib.ListN.{get_or}
use mir.Syntax.{w8}
use mir.Val.{Fits}
use denote.Laws.{Is}
use denote.Struct.Declared as struct
use denote.Struct.Laws.{val}
use borrow.Author.Rules.{rules}
use Rattle.headers.specs.Format.{unit_ok}
use Rattle.headers.specs.Form.{Valid}
use Rattle.headers.proofs.Known.{header_known}
use Rattle.flexray.specs.declared.receive.Receive.{Receive}
use Rattle.flexray.specs.Fields.{counts_ok, receive_format}
use Rattle.flexray.specs.Tables.{origin_slots, slot_slots, controller_slots, receive_slots, receive_form}
use Rattle.flexray.specs.contracts.receive.Receive as receive
use Rattle.flexray.proofs.receive.Receive.TheLaws as receive_laws

pub receive_known : (r : Receive) → Is (struct.row receive.the_type) r (val receive.the_type receive_laws.the_laws r ∷ []) → unit_ok r.header.unit ≡ true → counts_ok r.total r.stored ≡ true → Valid receive_format receive_form r
unfolding receive_slots origin_slots slot_slots controller_slots
receive_known r g u e =
    let byte : (i : ℕ) → Fits w8 (get_or r.bytes i 0) = λ i. search (rules, g.1.1.1.1.1.1.1.1.1.1.1.1.1.1.1.1.1.1.0) in
    let bytes : (i : ℕ) → i < 254 → get_or r.bytes i 0 < 256 ^ 1 = λ i l. (byte i).fits in
    record {
      header = header_known r.header _ g.1.1.0;
      unit = u;
      fits = (search (rules, g), (search (rules, g), (search (rules, g), (search (rules, g), (tt, (search (rules, g), (search (rules, g), (search (rules, g), (search (rules, g), (search (rules, g), (search (rules, g), (search (rules, g), (search (rules, g), (tt, (search (rules, g), (search (rules, g), (search (rules, g), (tt, ((search (rules, g), bytes), tt)))))))))))))))))));
      extra = tt;
      content = e;
    }
