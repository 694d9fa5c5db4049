-- What the loop of the count knows: with so many rows behind the two cursors, what is met from there on gives the whole
-- count. Assumes nothing.
use mathlib.Core.Path.{◌≡◌, refl, sym, ap, subst, ◌∙◌}
use mathlib.Core.List.{List}
use Prim.Native.Nat.{ℕ, suc, ◌+◌, ◌*◌, ◌-◌, ◌≤◌, ◌<◌}
use native.Mathlib.Nat.{zero-add}
use native.Mathlib.Omega.{arith}
use lib.ListN.{length}
use Rattle.objects.specs.Answers as walked
use Rattle.objects.specs.Next.{next_at}
use Rattle.objects.specs.Answers.{Object, Done, Refused}
use Rattle.objects.specs.Stepping.{Ended, at_end, refused, no_step_left, Met, met_at}
use Rattle.objects.proofs.Walks.{met_object, met_done, met_refused}
use Rattle.objects.specs.Walk.{walked_by, walk_of}
use Rattle.differences.specs.Answers.{Compared, Rows, First, Second}
use Rattle.differences.specs.declared.turns.Kind.{Kind}
use Rattle.differences.specs.declared.turns.Pair.TheVariants as pair
use Rattle.differences.specs.Rows.{rows_from, rows_of}
use Rattle.differences.specs.Comparing.{in_order}
use Rattle.std.specs.Prelude.{Ok, Err}
use Rattle.differences.specs.declared.LogRefusal.{LogRefusal}
use Rattle.differences.specs.declared.LogRefusal.TheVariants as log
use Rattle.differences.specs.Turns.{row, pair_of, else_second, foremost, count_of}
use Rattle.differences.proofs.Turning.{on, rows_met, Gone, turned}

-- by how stepping through each log ended; how many objects it met tells nothing
abbrev pub ending : Ended → Ended → ℕ → Compared
ending e f rows = in_order (walked_by e 0) (walked_by f 0) (Rows rows)

uncounted : (e f : Ended) (n m rows : ℕ) → in_order (walked_by e n) (walked_by f m) (Rows rows) ≡ ending e f rows
uncounted at_end at_end n m rows = refl
uncounted at_end (refused k p) n m rows = refl
uncounted at_end no_step_left n m rows = refl
uncounted (refused k p) f n m rows = refl
uncounted no_step_left at_end n m rows = refl
uncounted no_step_left (refused k p) n m rows = refl
uncounted no_step_left no_step_left n m rows = refl

-- the second log's refusal stands, whatever the rows
unrowed : (e : Ended) (k p m n : ℕ) → ending e (refused k p) m ≡ ending e (refused k p) n
unrowed at_end k p m n = refl
unrowed (refused j q) k p m n = refl
unrowed no_step_left k p m n = refl

module _ (s t : List ℕ) where
  -- the whole count, from the front of both logs
  pub counted_whole : ending (met_at s 0).ended (met_at t 0).ended (length (rows_met s t 0 0 0)) ≡ count_of s t
  unfolding count_of walk_of rows_of
  counted_whole = sym (uncounted (met_at s 0).ended (met_at t 0).ended _ _ _)

pub record Counting (s t : List ℕ) (at bt rows : ℕ) : Type 0 where
  pub within : at ≤ length s
  pub inside : bt ≤ length t
  pub fewer : 2 * rows ≤ at + bt
  pub number : ℕ
  pub same : ending (met_at s at).ended (met_at t bt).ended (rows + length (rows_met s t number at bt)) ≡ count_of s t

pub counting_none : (s t : List ℕ) → Counting s t 0 0 0
counting_none s t =
    record { within = omega arith; inside = omega arith; fewer = omega arith; number = 0; same = rw zero-add (counted_whole s t) }

module _ {s t : List ℕ} {at bt rows : ℕ} (w : Counting s t at bt rows) where
  -- a turn more
  go_on : (n more : ℕ) → more ≤ 1 → Gone s t at bt → length (rows_met s t w.number at bt) ≡ more + length (rows_met s t n (on s at) (on t bt))
      → Counting s t (on s at) (on t bt) (rows + more)
  go_on n more l g e =
      let r = length (rows_met s t n (on s at) (on t bt)) in
      let c : (rows + more) + r ≡ rows + length (rows_met s t w.number at bt) = omega (arith, e) in
      record {
        within = g.first.within;
        inside = g.second.within;
        fewer = omega (arith, w.fewer, g.further);
        number = n;
        same = (λ i. ending (g.first.ended i) (g.second.ended i) (c i)) ∙ w.same;
      }

  pub less : Gone s t at bt → (length s - on s at) + (length t - on t bt) < (length s - at) + (length t - bt)
  less g = omega (arith, w.within, w.inside, g.first.within, g.second.within, g.further)

  module _ (q : pair_of s t (next_at s at).answer (next_at t bt).answer ≡ Ok pair.Equal) where
    pub gone_equal : Gone s t at bt
    gone_equal = (turned s t at bt w.number q).0

    pub counting_equal : Counting s t (on s at) (on t bt) rows
    counting_equal =
        let z : rows + 0 ≡ rows = omega arith in
        subst (λ (k : ℕ). Counting s t (on s at) (on t bt) k) z (go_on _ 0 (omega arith) gone_equal (ap length (turned s t at bt w.number q).1 ∙ sym (zero-add _)))

  pub gone_row : {k : Kind} → pair_of s t (next_at s at).answer (next_at t bt).answer ≡ row k → Gone s t at bt
  gone_row q = (turned s t at bt w.number q).0

  pub counting_row : {k : Kind} → pair_of s t (next_at s at).answer (next_at t bt).answer ≡ row k → Counting s t (on s at) (on t bt) (rows + 1)
  counting_row q =
      let e = ap length (turned s t at bt w.number q).1 in
      go_on (suc w.number) 1 (omega arith) (gone_row q) (omega (arith, e))

  -- the ways out
  pub count_end : pair_of s t (next_at s at).answer (next_at t bt).answer ≡ Ok pair.End → Rows rows ≡ count_of s t
  unfolding rows_from
  count_end q =
      let a = turned s t at bt w.number q in
      let z : rows ≡ rows + 0 = omega arith in
      ap Rows z ∙ (λ i. ending (sym a.0 i).ended (sym a.1 i).ended (rows + length (rows_from s t w.number (sym a.0 i).objects (sym a.1 i).objects))) ∙ w.same

  count_first : {k p : ℕ} → pair_of s t (next_at s at).answer (next_at t bt).answer ≡ First k p → First k p ≡ count_of s t
  count_first q = let e = w.same in rw (turned s t at bt w.number q) at e

  count_second : {k p : ℕ} → pair_of s t (next_at s at).answer (next_at t bt).answer ≡ Second k p → else_second s (on s at) k p ≡ count_of s t
  unfolding else_second
  count_second {k} {p} q =
      let a = turned s t at bt w.number q in
      unrowed (met_at s (on s at)).ended k p 0 _ ∙ (λ i. ending (a.1 i) (sym a.0 i) (rows + length (rows_met s t w.number at bt))) ∙ w.same

  -- a refusal, in the order of the logs
  pub count_refused : (r : LogRefusal) → pair_of s t (next_at s at).answer (next_at t bt).answer ≡ Err r → foremost s (on s at) r ≡ count_of s t
  count_refused (log.First r) q = count_first q
  count_refused (log.Second r) q = count_second q
  count_refused (log.Neither r) q = absurd (turned s t at bt w.number q)

-- the walk of the first log alone, from a place on
module _ (s : List ℕ) (at k p : ℕ) where
  abbrev told_by : Ended → Compared
  told_by e = in_order (walked_by e 0) (walked.Refused k p) (Rows 0)

  pub second_on : {start size kind : ℕ} → (next_at s at).answer ≡ Object start size kind → else_second s (on s at) k p ≡ else_second s at k p
  unfolding else_second
  second_on {start} {size} {kind} e =
      ap (λ (m : Met). told_by m.ended) (sym (met_object s at (record { start = start; size = size; kind = kind }) e))

  pub second_done : (next_at s at).answer ≡ Done → Second k p ≡ else_second s at k p
  unfolding else_second
  second_done e = ap (λ (m : Met). told_by m.ended) (sym (met_done s at e))

  pub second_refused : {j q : ℕ} → (next_at s at).answer ≡ Refused j q → First j q ≡ else_second s at k p
  unfolding else_second
  second_refused e = ap (λ (m : Met). told_by m.ended) (sym (met_refused s at e))
