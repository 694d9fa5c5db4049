-- The listing has a line for each object that the log begins with, and then the end line, or the refusal of what stands
-- behind them. Assumes nothing.
use mathlib.Core.Path.{◌≡◌, ap, ◌∙◌}
use mathlib.Core.List.{List, ◌++◌}
use Prim.Native.Nat.{ℕ, ◌≤◌}
use lib.ListN.{length, take}
use Rattle.objects.specs.Answers.{Refused}
use Rattle.objects.specs.Logs.{LogOf}
use Rattle.objects.specs.Named.{entries_of}
use Rattle.objects.specs.Next.{next_at}
use Rattle.objects.specs.Stepping.{Met}
use Rattle.objects.proofs.Entries.{log_met_all, entries_many}
use Rattle.objects.proofs.Exact.{refused_behind}
use Rattle.listing.specs.Text.{end_line, refused_line}
use Rattle.listing.specs.Listing.{lines_of, final_line, listing_of}

-- the listing of what was met
abbrev listing_by : Met → List ℕ
listing_by m = lines_of m.objects ++ final_line m.ended (length m.objects) m.at

-- a log
pub listed : (s : List ℕ) (os : List (List ℕ)) → LogOf s os → listing_of s ≡ lines_of (entries_of 0 os) ++ end_line (length s) (length os)
unfolding listing_of
listed s os w = ap listing_by (log_met_all w) ∙ ap (λ (n : ℕ). lines_of (entries_of 0 os) ++ end_line (length s) n) (entries_many 0 os)

-- objects, and behind them what is refused
pub listed_before : (s : List ℕ) (at : ℕ) (os : List (List ℕ)) (k p : ℕ) → LogOf (take at s) os → at ≤ length s → (next_at s at).answer ≡ Refused k p
    → listing_of s ≡ lines_of (entries_of 0 os) ++ refused_line k p
unfolding listing_of
listed_before s at os k p w l e = ap listing_by (refused_behind s at os k p w l e)
