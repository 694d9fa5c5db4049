-- What the check accepts is a bundle of slips, so that its entries can be tested. Assumes nothing.
use mathlib.Core.Path.{◌≡◌, refl}
use mathlib.Core.Bool.{Bool, true, false, cond}
use mathlib.Core.List.{List}
use Prim.Native.Nat.{ℕ}
use lib.ListN.{length}
use lib.Dec.{ltb}
use Rattle.objects.specs.declared.Entry.{Entry}
use Rattle.objects.specs.Answers.{Walked}
use Rattle.objects.specs.Stepping.{objects_of}
use Rattle.objects.specs.Walk.{walk_of}
use Rattle.slips.specs.Verdicts.{Accepted, Refused}
use Rattle.slips.specs.Cut.{Cut, Slips, Fault, cut_of}
use Rattle.slips.specs.Check.{judged_of, check_of}
use Rattle.slips.specs.Claims.{longest}
use Rattle.desk_text.specs.Outside.{Cuts}

module _ (b : List ℕ) (n : ℕ) where
  cuts_by : (long : Bool) (w : Walked) (os : List Entry) (k : Cut) → cut_of b ≡ k → cond long (Refused 28 0) (judged_of w os k) ≡ Accepted n → Cuts b
  cuts_by true w os k e q = absurd cc
  cuts_by false w os (Fault f p) e q = absurd cc
  cuts_by false w os (Slips ss) e q = record { slips = ss; is = e }

  pub accepted_cuts : (s : List ℕ) → check_of s b ≡ Accepted n → Cuts b
  unfolding check_of
  accepted_cuts s q = cuts_by (ltb longest (length s)) (walk_of s) (objects_of s) (cut_of b) refl q
