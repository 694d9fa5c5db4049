-- `check` puts the bundle's reading and the one pass together; the merge of the slips is their trouble.
-- Assumes nothing.
use mathlib.Core.Path.{◌≡◌, refl, ap, ◌∙◌}
use mathlib.Core.List.{List, [], ◌∷◌, ◌++◌}
use Prim.Native.Nat.{ℕ, zero, suc, ◌+◌, ◌-◌, ◌<◌, ◌≤◌}
use native.Mathlib.Omega.{arith}
use borrow.Author.Tests.{le-ltb, lt-ltb}
use lib.ListN.{length, replicate}
use Rattle.std.specs.Prelude.{Ok, Err}
use Rattle.fields.specs.Numbers.{Bytes}
use Rattle.headers.specs.Refused as told
use Rattle.objects.specs.Answers.{Walked, Count}
use Rattle.objects.specs.declared.Entry.{Entry}
use Rattle.objects.specs.Rising.{Rising}
use Rattle.objects.specs.Stepping.{objects_of}
use Rattle.objects.specs.Walk.{walk_of}
use Rattle.objects.proofs.Answers.{same_refusal}
use Rattle.objects.proofs.Naming.{walk_exact, log_objects, entries_rise}
use Rattle.slips.specs.Verdicts.{Refused}
use Rattle.slips.specs.Cut.{Slip, slip_limit, Cut, Slips, Fault, cut_of}
use Rattle.slips.specs.Bundle.{AllFit, AllByRule}
use Rattle.slips.specs.Right.{entries_on, times_all}
use Rattle.slips.specs.Trouble.{Trouble}
use Rattle.slips.specs.Claims.{longest}
use Rattle.slips.specs.Soonest.{sooner, soonest, soonest_on, stray, miscount, trouble_of}
use Rattle.slips.specs.Check.{answer_of, check_of}
use Rattle.slips.specs.Inner.Rests.{filled}
use Rattle.slips.specs.Inner.Merge.{merge_of}
use Rattle.slips.specs.Inner.Pass.{merge_log_of}
use Rattle.slips.proofs.Format.Cuts.{bundle_exact}
use Rattle.slips.proofs.Loops.Beside.{AllRising, Low, AllLow}
use Rattle.slips.proofs.Loops.Merges.{merge_is}

-- empty slips change nothing

times_fill : (o : Entry) (ss : List (List Entry)) (n : ℕ) → times_all o (ss ++ replicate n []) ≡ times_all o ss
times_fill o [] zero = refl
times_fill o [] (suc n) = omega (arith, times_fill o [] n)
times_fill o (s ∷ ss) n = omega (arith, times_fill o ss n)

soonest_fill : (f : Entry → Trouble) (ss : List (List Entry)) (n : ℕ) → soonest_on f (ss ++ replicate n []) ≡ soonest_on f ss
soonest_fill f [] zero = refl
soonest_fill f [] (suc n) = soonest_fill f [] n
soonest_fill f (s ∷ ss) n = ap (sooner (soonest f s)) (soonest_fill f ss n)

count_fill : (ss : List (List Entry)) (n : ℕ) (os : List Entry) → soonest (miscount (ss ++ replicate n [])) os ≡ soonest (miscount ss) os
count_fill ss n [] = refl
count_fill ss n (o ∷ os) = rw (times_fill o ss n, count_fill ss n os)

trouble_fill : (os : List Entry) (ss : List (List Entry)) (n : ℕ) → trouble_of os (ss ++ replicate n []) ≡ trouble_of os ss
unfolding trouble_of
trouble_fill os ss n = rw (soonest_fill (stray os) ss n, count_fill ss n os)

-- slips by the rule rise, and hold starts that an entry can hold

fit_low : (es : List Entry) → AllFit es → Low es
fit_low [] w = tt
fit_low (e ∷ es) w = (w.0.start, fit_low es w.1)

rule_rise : (least : ℕ) (ss : List Slip) (n : ℕ) → AllByRule least ss → AllRising (entries_on ss ++ replicate n [])
rule_rise least [] zero w = tt
rule_rise least [] (suc n) w = (tt, rule_rise least [] n tt)
rule_rise least (s ∷ ss) n w = (w.0.rise, rule_rise (s.desk + 1) ss n w.1)

rule_low : (least : ℕ) (ss : List Slip) (n : ℕ) → AllByRule least ss → AllLow (entries_on ss ++ replicate n [])
rule_low least [] zero w = tt
rule_low least [] (suc n) w = (tt, rule_low least [] n tt)
rule_low least (s ∷ ss) n w = (fit_low s.entries w.0.fit, rule_low (s.desk + 1) ss n w.1)

-- a log that is too long
pub long_refused : (s b : List ℕ) → longest < length s → Refused 28 0 ≡ check_of s b
unfolding check_of
long_refused s b l = rw (lt-ltb longest (length s) l)

-- what `read` has found

refused_pick : (r : told.Refused) (c : Cut) → Err r ≡ filled c → c ≡ Fault r.number r.place
refused_pick r (Slips ss) q = absurd cc
refused_pick r (Fault k p) q = let e = same_refusal q in rw (e.0, e.1)

pub read_refused : (s b : List ℕ) → length s ≤ longest → (r : told.Refused) → Err r ≡ filled (cut_of b) → Err r ≡ check_of s b
unfolding check_of
read_refused s b l r q = rw (le-ltb longest (length s) l, refused_pick r (cut_of b) q)

-- slips were read: those that were cut, and empty ones
module _ (s b : List ℕ) (bs : Bytes s) (bb : Bytes b) (ss : List Slip) (cut : cut_of b ≡ Slips ss) where
  abbrev all : List (List Entry)
  all = entries_on ss ++ replicate (slip_limit - length ss) []

  merged : (n : ℕ) → walk_of s ≡ Count n → merge_of (objects_of s) all ≡ trouble_of (objects_of s) (entries_on ss)
  merged n e =
      let i = (walk_exact s n).0 e in
      let up : Rising (objects_of s) = rw (log_objects i.1) (entries_rise i.1) in
      let rule = ((bundle_exact b ss bb).0 cut).rule in
      let m = slip_limit - length ss in
      merge_is (objects_of s) up _ (rule_rise 0 ss m rule) (rule_low 0 ss m rule) ∙ trouble_fill (objects_of s) (entries_on ss) m

  answered : (w : Walked) → walk_of s ≡ w → answer_of w (merge_of (objects_of s) all) ≡ answer_of w (trouble_of (objects_of s) (entries_on ss))
  answered (Count n) e = rw (merged n e)
  answered (Err r) e = refl

  read_all : length s ≤ longest → merge_log_of s all ≡ check_of s b
  unfolding merge_log_of check_of
  read_all l = rw (le-ltb longest (length s) l, cut) (answered (walk_of s) refl)

module _ (s b : List ℕ) (bs : Bytes s) (bb : Bytes b) (l : length s ≤ longest) (qs : List (List Entry)) where
  read_pick : (c : Cut) → cut_of b ≡ c → Ok qs ≡ filled c → merge_log_of s qs ≡ check_of s b
  read_pick (Slips ss) e q = let z : qs ≡ entries_on ss ++ replicate (slip_limit - length ss) [] = cc in rw z (read_all s b bs bb ss e l)
  read_pick (Fault k p) e q = absurd cc

  pub read_merged : Ok qs ≡ filled (cut_of b) → merge_log_of s qs ≡ check_of s b
  read_merged q = read_pick (cut_of b) refl q
