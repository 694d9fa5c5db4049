-- What is told as numbers, as the code lists them. Assumes nothing.
use mathlib.Core.Path.{◌≡◌, refl, sym, ap}
use mathlib.Core.List.{List, [], ◌∷◌, ◌++◌}
use Prim.Native.Nat.{ℕ}
use lib.ListN.{length, get_or}
use Rattle.std.proofs.lemmas.List.FromFn.{fill_by_all}
use Rattle.asc_lines.specs.declared.told.Frame.{Frame}
use Rattle.asc_lines.specs.declared.told.Counts.{Counts}
use Rattle.asc_lines.specs.declared.told.Told.{Told}
use Rattle.asc_lines.specs.Told.{body_number, body_frame, body_counts}
use Rattle.asc.specs.Replies.{bit, head_numbers, count_numbers, told_numbers}

abbrev each : List ℕ → List ℕ → List ℕ
each b l =
    get_or b 0 0 ∷ get_or b 1 0 ∷ get_or b 2 0 ∷ get_or b 3 0 ∷ get_or b 4 0 ∷ get_or b 5 0 ∷ get_or b 6 0 ∷ get_or b 7 0 ∷ l

eight : (b : List ℕ) → length b ≡ 8 → each b [] ≡ b
eight b e = sym (fill_by_all (λ k. get_or b k 0) b 8 0 e (λ k h. refl))

pub numbers_are : (t : Told) {n x y z : ℕ} {f : Frame} {c : Counts} → n ≡ body_number t.body → f ≡ body_frame t.body → c ≡ body_counts t.body → length f.bytes ≡ 8
    → x ≡ bit f.extended → y ≡ bit f.sent → z ≡ bit f.remote
    → (n ∷ head_numbers t.head) ++ (f.id ∷ x ∷ y ∷ z ∷ f.dlc ∷ each f.bytes (count_numbers c)) ≡ told_numbers t
unfolding told_numbers
numbers_are t {n} {x} {y} {z} {f} {c} en ef ec e ex ey ez =
    rw (← en, ← ef, ← ec, ex, ey, ez)
    (ap (λ (l : List ℕ). (n ∷ head_numbers t.head) ++ (f.id ∷ bit f.extended ∷ bit f.sent ∷ bit f.remote ∷ f.dlc ∷ []) ++ l ++ count_numbers c) (eight f.bytes e))
