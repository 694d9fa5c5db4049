-- Whatever is read, eight bytes are told. Assumes nothing.
use mathlib.Core.Path.{◌≡◌, refl}
use mathlib.Core.Bool.{Bool, true, false, cond}
use mathlib.Core.List.{List}
use Prim.Native.Nat.{ℕ, ◌+◌, ◌%◌}
use lib.ListN.{length}
use Rattle.digits.proofs.PairLaws.{length_filled}
use Rattle.asc_lines.specs.Told.{body_frame, no_frame, of_message, of_overload, of_statistic}
use Rattle.asc_lines.specs.Reading.{stands, head_in, head_end, dlc_in, frame_in, counts_in, candidate}
use Rattle.asc_lines.proofs.Parsing.{shown_most}

pub eight_read : (s : List ℕ) → length (body_frame (candidate s).body).bytes ≡ 8
unfolding candidate frame_in no_frame
eight_read s = cases (stands 79 s (head_end s + 1)) (stands 83 s (head_end s + 1))
  where
    cases : (a b : Bool) → length (body_frame (cond a (of_overload (head_in s)) (cond b (of_statistic (head_in s) (counts_in s (head_end s))) (of_message (head_in s) (frame_in s (head_end s))))).body).bytes ≡ 8
    cases true b = refl
    cases false true = refl
    cases false false = length_filled _ s _ (shown_most (stands 114 s _) ((dlc_in s (head_end s)).value % 256))
