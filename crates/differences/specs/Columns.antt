-- W-209: the lent slices, a column each, and rows in them.
use Rattle.std.specs.Prelude.{ℕ, min, List, map, length}
use Rattle.std.proofs.lemmas.List.Edits.{sets}
use Rattle.differences.specs.Rows.{Row}

pub record Columns : Type 0 where
  pub numbers : List ℕ
  pub firsts : List ℕ
  pub seconds : List ℕ
  pub kinds : List ℕ

abbrev pub columns : List ℕ → List ℕ → List ℕ → List ℕ → Columns
columns ns fs ss ks = record { numbers = ns; firsts = fs; seconds = ss; kinds = ks }

-- the length of the shortest slice
unfoldable pub room : Columns → ℕ
room x = min (min (length x.numbers) (length x.firsts)) (min (length x.seconds) (length x.kinds))

-- rows from place i on, and the numbers before and behind them as they were
unfoldable pub listed_at : ℕ → List Row → Columns → Columns
listed_at i rs x =
    columns (sets x.numbers i (map (λ r. r.number) rs)) (sets x.firsts i (map (λ r. r.first) rs))
    (sets x.seconds i (map (λ r. r.second) rs)) (sets x.kinds i (map (λ r. r.kind) rs))
