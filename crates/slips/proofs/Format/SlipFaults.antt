-- The tests 20 to 23 of a slip: what each way out of them answers, and what they all let through. Assumes nothing.
use mathlib.Core.Path.{◌≡◌}
use mathlib.Core.Bool.{true, false, ◌&&◌}
use mathlib.Core.List.{List}
use Prim.Native.Nat.{ℕ, ◌+◌, ◌-◌, ◌/◌, ◌%◌, ◌≤◌}
use native.Mathlib.Omega.{arith}
use borrow.Author.Tests.{le-leb, eq-eqb, leb-true, eqb-true}
use lib.ListN.{length, drop, get_or}
use lib.Dec.{leb, eqb}
use Rattle.fields.proofs.Zeros.{both_true}
use Rattle.headers.specs.HeadTests.{first}
use Rattle.headers.proofs.Heads.{clear}
use Rattle.slips.specs.Bundle.{slip_length}
use Rattle.slips.specs.Cut.{length_in, desk_in, slip_in, shape_ok, rises_from, fault_of}
use Rattle.slips.proofs.Format.EntryBytes.{entries_many}

-- what 20 lets through
pub record Shape (t : List ℕ) : Type 0 where
  pub two : 2 ≤ length_in t
  pub twelve : (length_in t - 2) % 12 ≡ 0
  pub within : 4 + length_in t ≤ length t

pub shaped : (t : List ℕ) → shape_ok t ≡ true → Shape t
unfolding shape_ok
shaped t q =
    let a = both_true (leb 4 (length t) && leb 2 (length_in t) && eqb ((length_in t - 2) % 12) 0) _ q in
    let b = both_true (leb 4 (length t) && leb 2 (length_in t)) _ a.0 in
    record { two = leb-true _ _ (both_true (leb 4 (length t)) _ b.0).1; twelve = eqb-true _ _ b.1; within = leb-true _ _ a.1 }

-- a slip without fault
pub record Whole (t : List ℕ) (least : ℕ) : Type 0 where
  pub told : length_in t ≡ slip_length (slip_in t)
  pub within : 4 + length_in t ≤ length t
  pub version : get_or t 4 0 ≡ 1
  pub desk : least ≤ desk_in t
  pub rises : rises_from 0 (slip_in t).entries ≡ true

module _ (t : List ℕ) (least : ℕ) where
  pub whole_shape : Whole t least → Shape t
  whole_shape w = record { two = omega (arith, w.told); twelve = omega (arith, w.told); within = w.within }

  pub no_fault : fault_of t least ≡ 0 → Whole t least
  unfolding fault_of
  no_fault q =
      let a = clear 19 (shape_ok t) _ q in
      let b = clear 20 (eqb (get_or t 4 0) 1) _ a.1 in
      let c = clear 21 (leb least (desk_in t)) _ b.1 in
      let d = clear 22 (rises_from 0 (slip_in t).entries) _ c.1 in
      let p = shaped t a.0 in
      record {
        told = omega (arith, p.two, p.twelve, entries_many ((length_in t - 2) / 12) (drop 6 t));
        within = p.within;
        version = eqb-true _ _ b.0;
        desk = leb-true _ _ c.0;
        rises = d.0;
      }

  pub fault_none : Whole t least → fault_of t least ≡ 0
  unfolding fault_of shape_ok first
  fault_none w =
      let n = entries_many ((length_in t - 2) / 12) (drop 6 t) in
      rw (
        le-leb 4 (length t) (omega (arith, w.told, w.within)),
        le-leb 2 (length_in t) (omega (arith, w.told)),
        eq-eqb ((length_in t - 2) % 12) 0 (omega (arith, w.told)),
        le-leb (4 + length_in t) (length t) w.within,
        eq-eqb (get_or t 4 0) 1 w.version,
        le-leb least (desk_in t) w.desk,
        w.rises,
      )

-- of the last test
module _ (t : List ℕ) (least : ℕ) (s : shape_ok t ≡ true) (v : get_or t 4 0 ≡ 1) (d : least ≤ desk_in t) where
  pub fault_order : rises_from 0 (slip_in t).entries ≡ false → 23 ≡ fault_of t least
  unfolding fault_of first
  fault_order r = rw (s, eq-eqb (get_or t 4 0) 1 v, le-leb least (desk_in t) d, r)

  pub fault_nothing : rises_from 0 (slip_in t).entries ≡ true → 0 ≡ fault_of t least
  unfolding fault_of first
  fault_nothing r = rw (s, eq-eqb (get_or t 4 0) 1 v, le-leb least (desk_in t) d, r)

-- a slip of right shape has its first six bytes
pub shape_long : (t : List ℕ) → shape_ok t ≡ true → 6 ≤ length t
shape_long t s = let w = shaped t s in omega arith
