-- What the loop of the list knows: with i rows listed, listing the rows from the two cursors on gives the whole list.
-- Assumes nothing.
use mathlib.Core.Path.{◌≡◌, refl, sym, ap, ◌∙◌}
use mathlib.Core.List.{List, [], ◌∷◌}
use Prim.Native.Nat.{ℕ, suc, ◌+◌, ◌*◌, ◌-◌, ◌≤◌, ◌<◌}
use native.Mathlib.Nat.{zero-add}
use native.Mathlib.Omega.{arith}
use lib.ListN.{length, length-set}
use Rattle.objects.specs.Next.{next_at}
use Rattle.objects.specs.Stepping.{Ended, at_end, refused, no_step_left, met_at}
use Rattle.differences.specs.declared.LogRefusal.TheVariants as log
use Rattle.differences.specs.declared.turns.Kind.{Kind}
use Rattle.differences.specs.Answers.{Rows, First, Second}
use Rattle.differences.specs.declared.turns.Pair.TheVariants as pair
use Rattle.differences.specs.Rows.{Row, row, rows_from, rows_of}
use Rattle.differences.specs.Columns.{Columns, room, listed_at}
use Rattle.std.specs.Prelude.{Ok, Err}
use Rattle.differences.specs.Turns.{Found, number_of, pair_of, count_of}
use Rattle.differences.specs.Turns.{row as row_found}
use Rattle.differences.proofs.Turning.{on, rows_met, Gone, turned}
use Rattle.differences.proofs.Counting.{ending, counted_whole}

-- stepping through a log does not end with a refusal
abbrev pub Sound : Ended → Type 0
Sound e = (k p : ℕ) → e ≡ refused k p → ⊥

pub record Filling (s t : List ℕ) (rows : ℕ) (x y : Columns) (at bt n i : ℕ) : Type 0 where
  pub within : at ≤ length s
  pub inside : bt ≤ length t
  pub fewer : 2 * n ≤ at + bt
  pub first : Sound (met_at s at).ended
  pub second : Sound (met_at t bt).ended
  pub left : i + length (rows_met s t n at bt) ≡ rows
  pub wide : rows ≤ room y
  pub same : listed_at i (rows_met s t n at bt) y ≡ listed_at 0 (rows_of s t) x

ended : Sound at_end
ended k p q = let z : ◌≡◌ {A = ℕ} 0 1 = cc in omega arith

unended : Sound no_step_left
unended k p q = let z : ◌≡◌ {A = ℕ} 0 1 = cc in omega arith

sounds : (e f : Ended) (m rows : ℕ) → ending e f m ≡ Rows rows → Sound e × Sound f × (m ≡ rows)
sounds (refused k p) f m rows q = absurd (let z : ◌≡◌ {A = ℕ} 0 1 = cc in omega arith)
sounds at_end (refused k p) m rows q = absurd (let z : ◌≡◌ {A = ℕ} 0 1 = cc in omega arith)
sounds no_step_left (refused k p) m rows q = absurd (let z : ◌≡◌ {A = ℕ} 0 1 = cc in omega arith)
sounds at_end at_end m rows q = (ended, ended, cc)
sounds at_end no_step_left m rows q = (ended, unended, cc)
sounds no_step_left at_end m rows q = (unended, ended, cc)
sounds no_step_left no_step_left m rows q = (unended, unended, cc)

-- the same in other words
pub filling_at : {s t : List ℕ} {rows : ℕ} {x y z : Columns} {at bt n i p q j : ℕ} → z ≡ y → p ≡ at → q ≡ bt → j ≡ i → Filling s t rows x y at bt n i → Filling s t rows x z p q n j
filling_at e f g h w = rw (e, f, g, h) w

pub filling_none : (s t : List ℕ) (rows : ℕ) (x : Columns) → count_of s t ≡ Rows rows → rows ≤ room x → Filling s t rows x x 0 0 0 0
unfolding rows_of
filling_none s t rows x q l =
    let w = sounds (met_at s 0).ended (met_at t 0).ended _ rows (counted_whole s t ∙ q) in
    record {
      within = omega arith;
      inside = omega arith;
      fewer = omega arith;
      first = w.0;
      second = w.1;
      left = zero-add _ ∙ w.2;
      wide = l;
      same = refl;
    }

-- a row, and then others
listed_more : (i : ℕ) (r : Row) (rs : List Row) (y : Columns) → listed_at (i + 1) rs (listed_at i (r ∷ []) y) ≡ listed_at i (r ∷ rs) y
unfolding listed_at
listed_more i r rs y = let p : i + 1 ≡ suc i = omega arith in ap (λ (k : ℕ). listed_at k rs (listed_at i (r ∷ []) y)) p

room_kept : (i : ℕ) (r : Row) (y : Columns) → room (listed_at i (r ∷ []) y) ≡ room y
unfolding room listed_at
room_kept i r y = rw (length-set, length-set, length-set, length-set)

-- no row
listed_none : (i : ℕ) (y : Columns) → listed_at i [] y ≡ y
unfolding listed_at
listed_none i y = refl

none_long : (rs : List Row) → length rs ≡ 0 → rs ≡ []
none_long [] e = refl
none_long (r ∷ rs) e = absurd (omega arith)

module _ {s t : List ℕ} {rows : ℕ} {x y : Columns} {at bt n i : ℕ} (w : Filling s t rows x y at bt n i) where
  number_on : n + 1 ≡ suc n
  number_on = omega arith

  -- a turn more
  go_on : {z : Columns} (j : ℕ) → Gone s t at bt → j + length (rows_met s t (n + 1) (on s at) (on t bt)) ≡ rows → rows ≤ room z
      → listed_at j (rows_met s t (n + 1) (on s at) (on t bt)) z ≡ listed_at i (rows_met s t n at bt) y → Filling s t rows x z (on s at) (on t bt) (n + 1) j
  go_on j g l h e =
      record {
        within = g.first.within;
        inside = g.second.within;
        fewer = omega (arith, w.fewer, g.further);
        first = λ k p q. w.first k p (sym g.first.ended ∙ q);
        second = λ k p q. w.second k p (sym g.second.ended ∙ q);
        left = l;
        wide = h;
        same = e ∙ w.same;
      }

  pub less : Gone s t at bt → (length s - on s at) + (length t - on t bt) < (length s - at) + (length t - bt)
  less g = omega (arith, w.within, w.inside, g.first.within, g.second.within, g.further)

  module _ (q : pair_of s t (next_at s at).answer (next_at t bt).answer ≡ Ok pair.Equal) where
    pub gone_equal : Gone s t at bt
    gone_equal = (turned s t at bt n q).0

    pub filling_equal : Filling s t rows x y (on s at) (on t bt) (n + 1) i
    filling_equal =
        let e : rows_met s t (n + 1) (on s at) (on t bt) ≡ rows_met s t n at bt = ap (λ (k : ℕ). rows_met s t k (on s at) (on t bt)) number_on ∙ sym (turned s t at bt n q).1 in
        go_on i gone_equal (ap (λ (r : List Row). i + length r) e ∙ w.left) w.wide (ap (λ (r : List Row). listed_at i r y) e)

  module _ {k : Kind} (q : pair_of s t (next_at s at).answer (next_at t bt).answer ≡ row_found k) where
    pub gone_row : Gone s t at bt
    gone_row = (turned s t at bt n q).0

    pub filling_row : Filling s t rows x (listed_at i (row n at bt (number_of k) ∷ []) y) (on s at) (on t bt) (n + 1) (i + 1)
    filling_row =
        let others = rows_met s t (n + 1) (on s at) (on t bt) in
        let e : row n at bt (number_of k) ∷ others ≡ rows_met s t n at bt = ap (λ (m : ℕ). row n at bt (number_of k) ∷ rows_met s t m (on s at) (on t bt)) number_on ∙ sym (turned s t at bt n q).1 in
        go_on (i + 1) gone_row (omega (arith, ap length e, w.left)) (omega (arith, w.wide, room_kept i (row n at bt (number_of k)) y))
        (listed_more i (row n at bt (number_of k)) others y ∙ ap (λ (r : List Row). listed_at i r y) e)

  -- there is a row yet: neither an end nor a refusal
  module _ (h : i < rows) where
    pub no_end : pair_of s t (next_at s at).answer (next_at t bt).answer ≡ Ok pair.End → ⊥
    unfolding rows_from
    no_end q =
        let a = turned s t at bt n q in
        let e : length (rows_met s t n at bt) ≡ 0 = λ j. length (rows_from s t n (a.0 j).objects (a.1 j).objects) in
        omega (arith, e, w.left, h)

    pub no_first : {k p : ℕ} → pair_of s t (next_at s at).answer (next_at t bt).answer ≡ First k p → ⊥
    no_first {k} {p} q = w.first k p (turned s t at bt n q)

    pub no_second : {k p : ℕ} → pair_of s t (next_at s at).answer (next_at t bt).answer ≡ Second k p → ⊥
    no_second {k} {p} q = w.second k p (turned s t at bt n q).0

    -- nor a row, where it is none
    pub filling_other : (p : Found) → pair_of s t (next_at s at).answer (next_at t bt).answer ≡ p → ((k : Kind) → p ≡ row_found k → ⊥)
        → Gone s t at bt × Filling s t rows x y (on s at) (on t bt) (n + 1) i
    filling_other (Ok pair.Equal) q o = (gone_equal q, filling_equal q)
    filling_other (Ok (pair.Row k)) q o = absurd (o k refl)
    filling_other (Ok pair.End) q o = absurd (no_end q)
    filling_other (Err (log.First r)) q o = absurd (no_first q)
    filling_other (Err (log.Second r)) q o = absurd (no_second q)
    filling_other (Err (log.Neither r)) q o = absurd (turned s t at bt n q)

  -- all are listed
  pub filled : rows ≤ i → y ≡ listed_at 0 (rows_of s t) x
  filled h =
      let e : rows_met s t n at bt ≡ [] = none_long _ (omega (arith, w.left, h)) in
      sym (listed_none i y) ∙ ap (λ (r : List Row). listed_at i r y) (sym e) ∙ w.same
