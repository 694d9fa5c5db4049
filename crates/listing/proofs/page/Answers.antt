-- `listing::page` meets its contract: an array of one value repeated. Assumes nothing.
use mathlib.Core.Path.{refl, sym}
use Prim.Native.Nat.{ℕ}
use lib.ListN.{length-replicate}
use Rattle.listing.proofs.page.Goals as goal

pub returns : goal.returns
returns c = record { long = sym (length-replicate {A = ℕ} 262208 0); zero = refl }
