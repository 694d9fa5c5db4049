-- The bytes that a record tells, as the code puts them together. Assumes nothing.
use mathlib.Core.Path.{◌≡◌, ap, ◌∙◌}
use mathlib.Core.List.{List, [], append-nil}
use Prim.Native.Nat.{ℕ, ◌-◌, ◌≤◌}
use native.Mathlib.Omega.{arith}
use borrow.Rule.Slice.PartMut.{put_mid, post_of}
use lib.ListN.{length, take, drop, replicate, length-drop, drop_of_length-le}
use lib.Seq.{length-take-le}
use Rattle.asc.specs.Tells.{kept}

-- zeros behind the first k of eight bytes
pub blanked : (k : ℕ) (bytes : List ℕ) {z : List ℕ} → length bytes ≡ 8 → k ≤ 8 → z ≡ replicate (length (take (8 - k) (drop k bytes))) 0
    → put_mid k (8 - k) bytes z ≡ kept k bytes
unfolding kept
blanked k bytes {z} e h q =
    let d : length (drop k bytes) ≡ 8 - k = length-drop k bytes ∙ ap (λ (n : ℕ). n - k) e in
    let l : length (take (8 - k) (drop k bytes)) ≡ 8 - k = length-take-le (8 - k) (drop k bytes) (omega arith) in
    let n : post_of k (8 - k) bytes ≡ [] = drop_of_length-le (drop k bytes) {i = 8 - k} (omega arith) in
    rw (q, l, n, append-nil)
