-- `slips::Slips::read` meets its contract: before each turn the slips that are cut off are the bundle's first, and
-- what is left decides (`Cutting`). Assumes nothing.
use mathlib.Core.Path.{◌≡◌, sym}
use mathlib.Core.List.{List}
use Prim.Native.Nat.{ℕ, ◌+◌, ◌<◌}
use native.Mathlib.Omega.{arith}
use lib.ListN.{length, drop, length-drop}
use lib.Seq.{get_or-drop}
use Rattle.std.proofs.lemmas.List.{map-set, set-get_or}
use Rattle.fields.specs.Numbers.{Bytes}
use Rattle.fields.proofs.Parts.{tail}
use Rattle.headers.proofs.Numbers.{some_number}
use Rattle.slips.specs.Cut.{slip_limit, length_in, desk_in}
use Rattle.slips.proofs.Loops.Places.{slip_placed, slip_nowhere, none_behind, put_inside}
use Rattle.slips.proofs.Loops.Cutting.{cutting_none, cut_done, cut_fault, cut_more, whole}
use Rattle.slips.proofs.left.Slips.read.Goals as goal
use Rattle.slips.proofs.left.Slips.read.Goals.{else-loop-place-test, then-loop-place-test+then-at-b}

-- the desk is a byte
desk : (b : List ℕ) (at : ℕ) → Bytes b → desk_in (drop at b) < 256
desk b at f = rw get_or-drop (f (at + 5))

pub loop-place-init : goal.loop-place-init
loop-place-init c = record { cutting = rw (slip_nowhere c.args.b.now) (cutting_none _); inside = none_behind _ slip_limit }

pub returns-in-Err : goal.returns-in-Err
returns-in-Err c =
    let more : c.loop-place.at < length c.args.b.now = omega arith in
    rw c.at.ensures (cut_fault _ _ _ _ _ c.loop-place.invariant.cutting more (λ z. omega arith) _ (rw tail at c.in-Err.ensures) (some_number c.in-Err.fault))

pub loop-place-preserved : goal.loop-place-preserved
loop-place-preserved c =
    let b = c.args.b.now in
    let at = c.loop-place.at in
    let more : at < length b = omega arith in
    let told : c.get32_be.result ≡ length_in (drop at b) = rw tail at c.get32_be.ensures in
    let placed = slip_placed b at _ (whole b at c.loop-place.least c.in_default.ensures) told in
    let w = whole b at c.loop-place.least c.in_default.ensures in
    record {
      cutting =
          rw (tail, map-set, placed, told)
          (cut_more _ _ _ _ _ c.loop-place.invariant.cutting more (λ z. omega arith) (sym (rw tail at c.in_default.ensures)) (desk b at (λ i. (c.type_inv.b i).fits)));
      inside = put_inside _ _ _ _ (omega (arith, w.two, told), omega (arith, told, w.within, length-drop at b)) c.loop-place.invariant.inside;
    }

pub returns : goal.returns
returns c =
    let e = cut_done _ _ _ _ _ c.loop-place.invariant.cutting c.if-at-b-2.false in
    elim c.loop-place-test.branch [ else-loop-place-test w ↦ rw w.places-is e | then-loop-place-test+then-at-b w ↦ rw (w.places-is, set-get_or) e ]
