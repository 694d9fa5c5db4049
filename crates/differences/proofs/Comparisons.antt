-- What is told of two logs, by the count of their rows. Assumes nothing.
use mathlib.Core.Path.{◌≡◌, refl, sym, ap, ◌∙◌}
use mathlib.Core.Bool.{Bool, true, false, cond}
use mathlib.Core.List.{List}
use Prim.Native.Nat.{ℕ, ◌≤◌, ◌<◌}
use Rattle.std.specs.Prelude.{Err, leb}
use Rattle.std.proofs.lemmas.Bool.{le-leb}
use Rattle.std.proofs.lemmas.Bool.Decides.{leb_tells}
use native.Mathlib.Omega.{arith}
use lib.ListN.{length}
use Rattle.objects.specs.Answers.{Walked}
use Rattle.objects.specs.Answers as walked
use Rattle.objects.specs.Walk.{walk_of}
use Rattle.differences.specs.declared.LogRefusal.{LogRefusal}
use Rattle.differences.specs.Answers.{Compared, Rows, Neither}
use Rattle.differences.specs.Rows.{rows_of}
use Rattle.differences.specs.Columns.{Columns, room, listed_at}
use Rattle.differences.specs.Comparing.{in_order, compared_of, Compares}
use Rattle.differences.specs.Turns.{count_of}

-- a refusal stands, whatever is told of two well-formed logs
refusal_stands : (v w : Walked) (m : ℕ) (r : LogRefusal) (told : Compared) → in_order v w (Rows m) ≡ Err r → Err r ≡ in_order v w told
refusal_stands (Err q) w m r told e = sym e
refusal_stands (walked.Count i) (Err q) m r told e = sym e
refusal_stands (walked.Count i) (walked.Count j) m r told e = absurd (cc)

-- both logs are well formed
record Counted (v w : Walked) (m n : ℕ) : Type 0 where
  many : m ≡ n
  tells : (told : Compared) → told ≡ in_order v w told

counted : (v w : Walked) (m n : ℕ) → in_order v w (Rows m) ≡ Rows n → Counted v w m n
counted (Err q) w m n e = absurd (cc)
counted (walked.Count i) (Err q) m n e = absurd (cc)
counted (walked.Count i) (walked.Count j) m n e = record { many = cc; tells = λ told. refl }

long : (a b : ℕ) → b < a → leb a b ≡ false
long a b h = grind (arith, leb_tells a b)

module _ (s t : List ℕ) (x : Columns) where
  pub compares_refused : (r : LogRefusal) → Err r ≡ count_of s t → Compares s t (Err r) x x
  unfolding count_of compared_of
  compares_refused r e = record { told = refusal_stands (walk_of s) (walk_of t) _ r _ (sym e); slices = refl }

  module _ (n : ℕ) (e : Rows n ≡ count_of s t) where
    is_counted : Counted (walk_of s) (walk_of t) (length (rows_of s t)) n
    unfolding count_of
    is_counted = counted (walk_of s) (walk_of t) _ n (sym e)

    pub compares_short : room x < n → Compares s t (Neither 10 0) x x
    unfolding compared_of
    compares_short h =
        let w = is_counted in
        let f : leb (length (rows_of s t)) (room x) ≡ false = long _ _ (omega (arith, w.many, h)) in
        record { told = ap (λ (b : Bool). cond b (Rows (length (rows_of s t))) (Neither 10 0)) (sym f) ∙ w.tells _; slices = refl }

    pub compares_rows : (y : Columns) → n ≤ room x → y ≡ listed_at 0 (rows_of s t) x → Compares s t (Rows n) x y
    unfolding compared_of
    compares_rows y h l =
        let w = is_counted in
        let f : leb (length (rows_of s t)) (room x) ≡ true = le-leb _ _ (omega (arith, w.many, h)) in
        record {
          told = ap Rows (sym w.many) ∙ ap (λ (b : Bool). cond b (Rows (length (rows_of s t))) (Neither 10 0)) (sym f) ∙ w.tells _;
          slices = l;
        }
