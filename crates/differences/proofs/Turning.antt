-- What a turn does, by what it has found: the rows from here on are those behind it, with this one before them where it
-- is a row. Assumes nothing.
use mathlib.Core.Path.{◌≡◌, refl, sym, ap, ap₂, subst, ◌∙◌}
use mathlib.Core.Bool.{Bool, true, false, cond}
use mathlib.Core.List.{List, [], ◌∷◌}
use Prim.Native.Nat.{ℕ, suc, ◌+◌, ◌≤◌}
use native.Mathlib.Omega.{arith}
use lib.ListN.{length}
use Rattle.fields.specs.Numbers.{part}
use Rattle.fields.specs.Same.{same}
use Rattle.std.specs.Prelude.{Some, Ok, Err}
use Rattle.objects.specs.Answers.{Answer, Object, Done}
use Rattle.objects.specs.declared.Step.{Step}
use Rattle.objects.specs.declared.Entry.{Entry}
use Rattle.objects.specs.Next.{next_at}
use Rattle.objects.specs.Stepping.{at_end, refused, Met, stopped, met_at}
use Rattle.objects.proofs.FaultLaws.{next_done}
use Rattle.objects.proofs.Steps.{is_at_end}
use Rattle.objects.proofs.Walks.{ahead, met_object, met_done, met_refused}
use Rattle.differences.specs.declared.turns.Turn.{Turn}
use Rattle.differences.specs.declared.LogRefusal.TheVariants as log
use Rattle.differences.specs.declared.turns.Kind.TheVariants as kind
use Rattle.differences.specs.declared.turns.Pair.TheVariants as pair
use Rattle.differences.specs.Rows.{Row, row, rows_from}
use Rattle.differences.specs.Turns.{Found, number_of, pair_of, turn_of}
use Rattle.differences.specs.Turns.{row as row_found}

-- where a log goes on behind a step
abbrev pub on : List ℕ → ℕ → ℕ
on s at = (next_at s at).next.at

-- one log's part in a turn: where it goes on it meets what it met, but for the object there
pub record Kept (s : List ℕ) (at : ℕ) : Type 0 where
  pub within : on s at ≤ length s
  pub ended : (met_at s (on s at)).ended ≡ (met_at s at).ended

-- an object there, of bytes o
pub record One (s : List ℕ) (at start size kind : ℕ) : Type 0 where
  pub kept : Kept s at
  pub here : start ≡ at
  pub further : at + 16 ≤ on s at
  pub met : (met_at s at).objects ≡ record { start = start; size = size; kind = kind } ∷ (met_at s (on s at)).objects

one : (s : List ℕ) (at start size kind : ℕ) → (next_at s at).answer ≡ Object start size kind → One s at start size kind
one s at start size kind e =
    let a = ahead s at start size kind e in
    let m = met_object s at (record { start = start; size = size; kind = kind }) e in
    record {
      kept = record { within = omega (arith, a.next, a.within); ended = sym (ap (λ (x : Met). x.ended) m) };
      here = a.here;
      further = omega (arith, a.next, a.long);
      met = ap (λ (x : Met). x.objects) m;
    }

-- no object there: the log's end
pub record Over (s : List ℕ) (at : ℕ) : Type 0 where
  pub kept : Kept s at
  pub here : length s ≡ at
  pub stays : on s at ≡ at
  pub met : met_at s at ≡ stopped at at_end
  pub none : (met_at s (on s at)).objects ≡ []

over : (s : List ℕ) (at : ℕ) → (next_at s at).answer ≡ Done → Over s at
over s at e =
    let l = is_at_end s at e in
    let n : on s at ≡ at = ap (λ (x : Step). x.next.at) (sym (next_done s at l)) in
    let m = met_done s at e in
    record {
      kept = record { within = omega arith; ended = ap (λ (x : ℕ). (met_at s x).ended) n };
      here = sym l;
      stays = n;
      met = m;
      none = ap (λ (x : ℕ). (met_at s x).objects) n ∙ ap (λ (x : Met). x.objects) m;
    }

module _ (s t : List ℕ) where
  -- the rows from two places on
  abbrev pub rows_met : ℕ → ℕ → ℕ → List Row
  rows_met n at bt = rows_from s t n (met_at s at).objects (met_at t bt).objects

  module _ (at bt : ℕ) where
    -- both logs go on, and one of them by an object at least
    pub record Gone : Type 0 where
      pub first : Kept s at
      pub second : Kept t bt
      pub further : (at + bt) + 16 ≤ on s at + on t bt

    abbrev pub After : ℕ → Found → Type 0
    After n (Ok pair.Equal) = Gone × (rows_met n at bt ≡ rows_met (suc n) (on s at) (on t bt))
    After n (Ok (pair.Row k)) = Gone × (rows_met n at bt ≡ row n at bt (number_of k) ∷ rows_met (suc n) (on s at) (on t bt))
    After n (Ok pair.End) = (met_at s at ≡ stopped at at_end) × (met_at t bt ≡ stopped bt at_end)
    After n (Err (log.First r)) = (met_at s at).ended ≡ refused r.number r.place
    After n (Err (log.Second r)) = ((met_at t bt).ended ≡ refused r.number r.place) × ((met_at s (on s at)).ended ≡ (met_at s at).ended)
    After n (Err (log.Neither r)) = ⊥

    module _ (n : ℕ) where
      -- two objects
      both : (a m j b l k : ℕ) → One s at a m j → One t bt b l k → (x : Bool) → same (part m s a) (part l t b) ≡ x → After n (cond x (Ok pair.Equal) (row_found kind.BytesDiffer))
      unfolding rows_from
      both a m j b l k o p x q =
          let others = rows_met (suc n) (on s at) (on t bt) in
          let gone : Gone = record { first = o.kept; second = p.kept; further = omega (arith, o.further, p.further) } in
          let rows : rows_met n at bt ≡ cond x others (row n a b 1 ∷ others) =
          ap₂ (λ (es fs : List Entry). rows_from s t n es fs) o.met p.met ∙ ap (λ (y : Bool). cond y others (row n a b 1 ∷ others)) q in
          by x rows gone
        where
          by : (y : Bool) → rows_met n at bt ≡ cond y (rows_met (suc n) (on s at) (on t bt)) (row n a b 1 ∷ rows_met (suc n) (on s at) (on t bt)) → Gone
              → After n (cond y (Ok pair.Equal) (row_found kind.BytesDiffer))
          by true rows gone = (gone, rows)
          by false rows gone = (gone, rows ∙ (λ i. row n (o.here i) (p.here i) 1 ∷ rows_met (suc n) (on s at) (on t bt)))

      -- one of the first log alone
      first_alone : (a m j : ℕ) → One s at a m j → Over t bt → After n (row_found kind.OnlyFirst)
      unfolding rows_from
      first_alone a m j o z = (
        record { first = o.kept; second = z.kept; further = omega (arith, o.further, z.stays) },
        ap₂ (λ (es fs : List Entry). rows_from s t n es fs) o.met (ap (λ (x : Met). x.objects) z.met)
            ∙ (λ i. row n (o.here i) (z.here i) 2 ∷ rows_from s t (suc n) (met_at s (on s at)).objects (sym z.none i)),
      )

      -- one of the second
      second_alone : (b l k : ℕ) → Over s at → One t bt b l k → After n (row_found kind.OnlySecond)
      unfolding rows_from
      second_alone b l k z p = (
        record { first = z.kept; second = p.kept; further = omega (arith, p.further, z.stays) },
        ap₂ (λ (es fs : List Entry). rows_from s t n es fs) (ap (λ (x : Met). x.objects) z.met) p.met
            ∙ (λ i. row n (z.here i) (p.here i) 3 ∷ rows_from s t (suc n) (sym z.none i) (met_at t (on t bt)).objects),
      )

      by_answers : (a b : Answer) → (next_at s at).answer ≡ a → (next_at t bt).answer ≡ b → After n (pair_of s t a b)
      by_answers (Ok (Some o)) (Ok (Some p)) e f =
          both o.start o.size o.kind p.start p.size p.kind (one s at o.start o.size o.kind e) (one t bt p.start p.size p.kind f)
          (same (part o.size s o.start) (part p.size t p.start)) refl
      by_answers (Ok (Some o)) Done e f = first_alone o.start o.size o.kind (one s at o.start o.size o.kind e) (over t bt f)
      by_answers (Ok (Some o)) (Err r) e f = (ap (λ (x : Met). x.ended) (met_refused t bt f), (one s at o.start o.size o.kind e).kept.ended)
      by_answers Done (Ok (Some p)) e f = second_alone p.start p.size p.kind (over s at e) (one t bt p.start p.size p.kind f)
      by_answers Done Done e f = ((over s at e).met, (over t bt f).met)
      by_answers Done (Err r) e f = (ap (λ (x : Met). x.ended) (met_refused t bt f), (over s at e).kept.ended)
      by_answers (Err r) b e f = ap (λ (x : Met). x.ended) (met_refused s at e)

      pub turned : {p : Found} → pair_of s t (next_at s at).answer (next_at t bt).answer ≡ p → After n p
      turned e = subst (After n) e (by_answers (next_at s at).answer (next_at t bt).answer refl refl)

-- a turn, part by part
pub record Taken (s t : List ℕ) (at bt : ℕ) (r : Turn) : Type 0 where
  pub pair : pair_of s t (next_at s at).answer (next_at t bt).answer ≡ r.pair
  pub first : r.first.at ≡ on s at
  pub second : r.second.at ≡ on t bt

pub taken : {s t : List ℕ} {at bt : ℕ} {r : Turn} → r ≡ turn_of s at t bt → Taken s t at bt r
unfolding turn_of
taken e = record {
  pair = ap (λ (x : Turn). x.pair) (sym e);
  first = ap (λ (x : Turn). x.first.at) e;
  second = ap (λ (x : Turn). x.second.at) e;
}
