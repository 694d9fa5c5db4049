-- Who has answered in a check: the log's length, the bundle, the log's walk, or the slips beside the log. Assumes
-- nothing.
use mathlib.Core.Path.{◌≡◌, refl, sym, ◌∙◌}
use mathlib.Core.Bool.{Bool, true, false}
use mathlib.Core.List.{List}
use Prim.Native.Nat.{ℕ, ◌<◌, ◌≤◌}
use borrow.Author.Tests.{lt-ltb, le-ltb, ltb-true, ltb-false}
use lib.ListN.{length}
use lib.Dec.{ltb}
use Rattle.std.specs.Prelude.{Err}
use Rattle.fields.specs.Numbers.{Bytes}
use Rattle.objects.specs.Answers.{Walked}
use Rattle.objects.specs.Answers as walked
use Rattle.objects.specs.Walk.{walk_of}
use Rattle.objects.specs.Named.{entries_of}
use Rattle.objects.proofs.Naming.{walk_exact, log_objects}
use Rattle.slips.specs.Verdicts.{Verdict, Refused}
use Rattle.slips.specs.Cut.{Slip, Cut, Slips, Fault, cut_of}
use Rattle.slips.specs.Bundle.{BundleOf}
use Rattle.slips.specs.Right.{entries_on}
use Rattle.slips.specs.Soonest.{trouble_of}
use Rattle.slips.specs.Check.{answer_of, check_of}
use Rattle.slips.specs.Claims.{longest, Formed, LogRefused}
use Rattle.slips.proofs.Format.Cuts.{bundle_exact}

-- who has answered
pub data Told (s b : List ℕ) : Type 0 where
  long : longest < length s → Told s b
  bundle : length s ≤ longest → (k p : ℕ) → cut_of b ≡ Fault k p → Told s b
  log : (k p : ℕ) → LogRefused s b k p → Told s b
  slips : Formed s b → Told s b

-- and what
abbrev pub told_of : {s b : List ℕ} → Told s b → Verdict
told_of (long l) = Refused 28 0
told_of (bundle l k p e) = Refused k p
told_of (log k p w) = Refused k p
told_of (slips f) = answer_of (walked.Count (length f.objects)) (trouble_of (entries_of 0 f.objects) (entries_on f.slips))

module _ (s b : List ℕ) (bs : Bytes s) (bb : Bytes b) where
  pub check_slips : (f : Formed s b) → check_of s b ≡ told_of (slips f)
  unfolding check_of
  check_slips f =
      rw (
        le-ltb longest (length s) f.short,
        (bundle_exact b f.slips bb).1 f.bundle,
        (walk_exact s (length f.objects)).1 (f.objects, f.log, refl),
        log_objects f.log,
      )

  pub check_log : (k p : ℕ) (w : LogRefused s b k p) → check_of s b ≡ Refused k p
  unfolding check_of
  check_log k p w = rw (le-ltb longest (length s) w.short, (bundle_exact b w.slips bb).1 w.bundle, w.walk)

  pub check_bundle : length s ≤ longest → (k p : ℕ) → cut_of b ≡ Fault k p → check_of s b ≡ Refused k p
  unfolding check_of
  check_bundle l k p e = rw (le-ltb longest (length s) l, e)

  pub check_long : longest < length s → check_of s b ≡ Refused 28 0
  unfolding check_of
  check_long l = rw (lt-ltb longest (length s) l)

  pub told_is : (t : Told s b) → check_of s b ≡ told_of t
  told_is (long l) = check_long l
  told_is (bundle l k p e) = check_bundle l k p e
  told_is (log k p w) = check_log k p w
  told_is (slips f) = check_slips f

  told_walk : length s ≤ longest → (ss : List Slip) → BundleOf b ss → (w : Walked) → walk_of s ≡ w → Told s b
  told_walk l ss h (Err r) e = log r.number r.place (record { short = l; slips = ss; bundle = h; walk = e })
  told_walk l ss h (walked.Count n) e =
      let i = (walk_exact s n).0 e in
      slips (record { short = l; objects = i.0; log = i.1; slips = ss; bundle = h })

  told_cut : length s ≤ longest → (c : Cut) → cut_of b ≡ c → Told s b
  told_cut l (Slips ss) e = told_walk l ss ((bundle_exact b ss bb).0 e) (walk_of s) refl
  told_cut l (Fault k p) e = bundle l k p e

  told_length : (t : Bool) → ltb longest (length s) ≡ t → Told s b
  told_length true e = long (ltb-true _ _ e)
  told_length false e = told_cut (ltb-false _ _ e) (cut_of b) refl

  pub told : Told s b
  told = told_length (ltb longest (length s)) refl

  -- an answer of the check is the answer of one of them
  pub answer : {v : Verdict} → check_of s b ≡ v → told_of told ≡ v
  answer q = sym (told_is told) ∙ q
