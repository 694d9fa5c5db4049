-- The bodies of a type whose objects hold a frame: 32 + n bytes. Assumes nothing.
use mathlib.Core.Path.{◌≡◌, refl}
use mathlib.Core.Bool.{Bool, true, false, ◌&&◌}
use mathlib.Mathlib.Data.Bool.Basic.{eq-false_of_not-eq-true}
use mathlib.Core.List.{List}
use mathlib.Core.Logic.{◌↔◌}
use Prim.Native.Nat.{ℕ, ◌+◌, ◌≤◌}
use native.Mathlib.Omega.{arith}
use lib.Dec.{leb}
use lib.ListN.{length}
use borrow.Author.Tests.{leb-true, leb-false}
use Rattle.headers.specs.Types.{up_to, Has, Kind, number_of, bodies_of}
use Rattle.headers.specs.Layout.{body_allowed, Sized}
use Rattle.headers.proofs.Bodies.{body_exact}
use Rattle.ethernet.specs.Fields.{structure_length, longest_frame}

module _ (k : Kind) (e : bodies_of k ≡ up_to structure_length longest_frame) where
  has : (n : ℕ) → (body_allowed (number_of k) n ≡ true) ↔ Has (up_to structure_length longest_frame) n
  has n = rw e at (body_exact k n)

  -- a body holds the whole structure
  pub long : (b : List ℕ) → Sized (number_of k) b → structure_length ≤ length b
  long b s = ((has (length b)).0 s).0

  -- a frame is allowed exactly up to the longest
  pub frame_allowed : (n : ℕ) → (body_allowed (number_of k) (structure_length + n) && true) ≡ leb n longest_frame
  frame_allowed n = pick (leb n longest_frame) refl
    where
      pick : (b : Bool) → leb n longest_frame ≡ b → (body_allowed (number_of k) (structure_length + n) && true) ≡ b
      pick true q = rw ((has (structure_length + n)).1 (omega arith, omega (arith, leb-true n longest_frame q)))
      pick false q =
          rw (eq-false_of_not-eq-true {b = body_allowed (number_of k) (structure_length + n)} (λ t. omega (arith, leb-false n longest_frame q, ((has (structure_length + n)).0 t).1)))
