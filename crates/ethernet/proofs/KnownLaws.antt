-- 01: "a record that 7 and 9 let through is valid". What is known of a record in memory, as a function's `c.good` has
-- it, is that its fields fit. Assumes nothing.
use mathlib.Core.Path.{◌≡◌}
use mathlib.Core.Bool.{true}
use mathlib.Core.List.{List, [], ◌∷◌}
use Prim.Native.Nat.{ℕ, ◌<◌, ◌^◌}
use native.Mathlib.Omega.{arith}
use lib.Dec.{leb}
use lib.ListN.{length}
use denote.Laws.{Is}
use denote.Struct.Declared as struct
use denote.Struct.Laws.{val}
use borrow.Author.Rules.{rules}
use borrow.Author.Tests.{leb-true}
use Rattle.headers.specs.Format.{unit_ok}
use Rattle.headers.specs.Form.{Valid}
use Rattle.headers.proofs.Known.{header_known}
use Rattle.ethernet.specs.Fields.{status_format, structure_length, longest_frame, frame_format, error_format}
use Rattle.ethernet.specs.Tables.{eight_slots, status_slots, status_form, origin_slots, transmission_slots, event_slots, frame_slots, frame_form, error_slots, error_form}
use Rattle.ethernet.specs.declared.status.Status.{Status}
use Rattle.ethernet.specs.contracts.status.Status as status
use Rattle.ethernet.proofs.status.Status.TheLaws as status_laws
use Rattle.ethernet.specs.declared.frame.Frame.{Frame}
use Rattle.ethernet.specs.contracts.frame.Frame as frame
use Rattle.ethernet.proofs.frame.Frame.TheLaws as frame_laws
use Rattle.ethernet.specs.declared.frame_error.FrameError.{FrameError}
use Rattle.ethernet.specs.contracts.frame_error.FrameError as error
use Rattle.ethernet.proofs.frame_error.FrameError.TheLaws as error_laws

pub status_known : (r : Status) → Is (struct.row status.the_type) r (val status.the_type status_laws.the_laws r ∷ []) → unit_ok r.header.unit ≡ true → Valid status_format status_form r
unfolding status_slots eight_slots
status_known r g u = let h = header_known r.header _ g.1.1.0 in search (rules, g, u, h)

-- the two lengths in a body fit
lengths : (bytes : List ℕ) → leb (length bytes) longest_frame ≡ true → (structure_length < 256 ^ 2) × (length bytes < 256 ^ 2)
lengths bytes short = (omega arith, omega (arith, leb-true (length bytes) longest_frame short))

pub frame_known : (r : Frame) → Is (struct.row frame.the_type) r (val frame.the_type frame_laws.the_laws r ∷ []) → unit_ok r.header.unit ≡ true
    → (bytes : List ℕ) → leb (length bytes) longest_frame ≡ true → Valid frame_format frame_form (record { value = r; bytes = bytes })
unfolding frame_slots event_slots origin_slots transmission_slots
frame_known r g u bytes short = let h = header_known r.header _ g.1.1.0 in search (rules, g, u, h, short, lengths bytes short)

pub error_known : (e : FrameError) → Is (struct.row error.the_type) e (val error.the_type error_laws.the_laws e ∷ []) → unit_ok e.frame.header.unit ≡ true
    → (bytes : List ℕ) → leb (length bytes) longest_frame ≡ true → Valid error_format error_form (record { value = e; bytes = bytes })
unfolding error_slots event_slots origin_slots transmission_slots
error_known e g u bytes short = let h = header_known e.frame.header _ g.1.1.0.1.1.0 in search (rules, g, u, h, short, lengths bytes short)
