-- A write of a frame, begun with no more than the type list for the frame's length, is begun as one that asks whether
-- the frame is too long. Assumes nothing.
use mathlib.Core.Path.{◌≡◌, refl, ap, ◌∙◌}
use mathlib.Core.Bool.{Bool, true, false, ◌&&◌}
use mathlib.Core.List.{List}
use Prim.Native.Nat.{ℕ, ◌+◌}
use lib.Dec.{leb}
use Rattle.std.specs.Prelude.{Result}
use Rattle.headers.specs.declared.header.Header.{Header}
use Rattle.headers.specs.Format.{unit_ok}
use Rattle.headers.specs.Refused as told
use Rattle.headers.specs.Types.{up_to, Kind, number_of, bodies_of}
use Rattle.headers.specs.HeadTests.{first}
use Rattle.ethernet.specs.Fields.{structure_length, longest_frame}
use Rattle.ethernet.proofs.Sizes.{frame_allowed}
use Rattle.outcomes.specs.Tested.{refusal_by}
use Rattle.outcomes.specs.Begun.{begun_by, Begun}

absorbed : (a b : Bool) → (a && true) ≡ b → (n rest : ℕ) → first n a (first n true rest) ≡ first n a (first n b rest)
unfolding first
absorbed true b p n rest = rw (← p) refl
absorbed false b p n rest = refl

pub short : (k : Kind) {h : Header} {n : ℕ} {a : Result (Unit {0}) told.Refused} {x y : List ℕ} → bodies_of k ≡ up_to structure_length longest_frame → (l : ℕ) → n ≡ structure_length + l
    → Begun (number_of k) h true n a x y → Begun (number_of k) h (leb l longest_frame) n a x y
unfolding refusal_by
short k {h} {n} e l q b =
    record {
      answer = b.answer ∙ ap (λ t. begun_by (first 7 (unit_ok h.unit) t)) (absorbed _ _ (rw (← q) at (frame_allowed k e l)) 9 _);
      refused = b.refused;
      begun = b.begun;
    }
