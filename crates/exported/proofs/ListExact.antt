-- The list of a well-formed log, where the slice has room for an entry more, is the log's entries as a slip names them,
-- and ends with 100 at the log's end. Assumes nothing.
use Prim.Native.Nat.{ℕ, ◌/◌, ◌<◌}
use mathlib.Core.Path.{◌≡◌, ap}
use mathlib.Core.List.{List}
use lib.ListN.{length}
use lib.Seq.{sets}
use Rattle.objects.specs.Logs.{LogOf}
use Rattle.objects.specs.Named.{entries_of}
use Rattle.objects.proofs.Entries.{log_met, entries_many}
use Rattle.exported.specs.Lists.{listed, numbers, list_of}

pub list_exact : (s : List ℕ) (os : List (List ℕ)) → LogOf s os → (xs : List ℕ) → length os < length xs / 3
    → list_of s 0 xs ≡ listed 100 (length os) (length s) 0 (sets xs 0 (numbers (entries_of 0 os)))
unfolding list_of
list_exact s os l xs h = rw (log_met (length xs / 3) l h) (ap (λ (n : ℕ). listed 100 n (length s) 0 (sets xs 0 (numbers (entries_of 0 os)))) (entries_many 0 os))
